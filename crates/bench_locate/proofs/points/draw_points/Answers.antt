use Rattle.std.proofs.Common.{All, subst, sym}
use Rattle.std.proofs.lemmas.List.Elements.{All-push}
use Rattle.compat_check.specs.Within.{IsWithin}
use Rattle.bench_locate.proofs.points.draw_points.Goals as goal

pub loop-number-preserved : goal.loop-number-preserved
loop-number-preserved c = subst (All IsWithin) (sym c.in_ok-push.ensures.items) (All-push IsWithin c.loop-number.points.items c.point.result c.loop-number.invariant c.point.ensures)
