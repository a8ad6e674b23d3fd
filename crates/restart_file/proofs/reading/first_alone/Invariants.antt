use Rattle.compat_check.specs.Meshes.{across_in}
use Rattle.restart_file.proofs.Searching.{NoneAlone}
use Rattle.restart_file.proofs.reading.first_alone.Given as goal

abbrev pub invariant-loop-name : goal.invariant-loop-name
invariant-loop-name l = NoneAlone (across_in l.mesh) l.members l.name-index
