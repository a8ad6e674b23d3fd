use Rattle.std.specs.Prelude.{All}
use Rattle.mesh_names.specs.Marks.{IsWellFormed}
use Rattle.examples.proofs.corner.marks_at.Given as goal

abbrev pub invariant-loop-leaf : goal.invariant-loop-leaf
invariant-loop-leaf l = All IsWellFormed l.rows.items
