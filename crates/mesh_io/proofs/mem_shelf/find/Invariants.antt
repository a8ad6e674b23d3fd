use Rattle.std.proofs.Common.{◌≡◌, drop}
use Rattle.mesh_io.proofs.Finding.{found}
use Rattle.mesh_io.proofs.mem_shelf.find.Given as goal

abbrev pub invariant-loop-file : goal.invariant-loop-file
invariant-loop-file l = found l.name l.files ≡ found l.name (drop l.file-index l.files)
