use Rattle.std.specs.Prelude.{All}
use Rattle.compat_check.specs.Within.{IsWithin}
use Rattle.bench_locate.proofs.points.draw_points.Given as goal

abbrev pub invariant-loop-number : goal.invariant-loop-number
invariant-loop-number l = All IsWithin l.points.items
