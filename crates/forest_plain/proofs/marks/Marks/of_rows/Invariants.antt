use Rattle.std.proofs.Common.{◌≡◌, take}
use Rattle.mesh_names.specs.Names.{Name}
use Rattle.mesh_names.specs.Marks.{effective_mark}
use Rattle.forest_plain.specs.MarkMaps.{mark_in}
use Rattle.forest_plain.proofs.marks.Marks.of_rows.Given as goal

abbrev pub invariant-loop-row : goal.invariant-loop-row
invariant-loop-row l = (n : Name) → mark_in l.marks n ≡ effective_mark (take l.row-index l.rows) n
