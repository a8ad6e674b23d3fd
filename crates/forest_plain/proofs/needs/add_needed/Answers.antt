use Rattle.std.proofs.Common.{arith, pos, ap, sym, ◌∙◌}
use Rattle.std.specs.Prelude.{◌≤ℤ◌}
use Rattle.std.proofs.lemmas.Int.{ints}
use Rattle.mesh_names.specs.Marks.{bisections}
use Rattle.forest_plain.specs.MarkMaps.{mark_in}
use Rattle.forest_plain.proofs.NeededNames.{nothing_below, no_bisections}
use Rattle.forest_plain.proofs.needs.add_needed.Goals as goal

pub returns-then-mark-le0 : goal.returns-then-mark-le0
returns-then-mark-le0 c =
    let low : c.of-mark.result ≤ℤ pos 0 = omega (arith, ints) in
    nothing_below c.args.needed.now.items (bisections (mark_in c.args.marks.now c.args.leaf)) c.args.leaf (ap bisections (sym c.of-mark.ensures) ∙ no_bisections c.of-mark.result low)
