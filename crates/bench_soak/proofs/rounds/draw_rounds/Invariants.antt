use Rattle.std.specs.Prelude.{All}
use Rattle.mesh_names.specs.Marks.{IsWellFormed}
use Rattle.bench_soak.proofs.rounds.draw_rounds.Given as goal

abbrev pub invariant-loop-number : goal.invariant-loop-number
invariant-loop-number g l = All (λ r. All IsWellFormed r.rows.items) l.made.items
