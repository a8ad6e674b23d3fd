use Rattle.std.proofs.Common.{◌≡◌, ◌<◌, ◌-◌, ◌+◌, ◌/◌, ◌%◌, ◌^◌, ◌∷◌, ℕ, suc, eqb, drop, arith, sym, ap, ◌∙◌}
use Rattle.mesh_names.specs.Names.{depth}
use Rattle.compat_check.proofs.Words.{letter-at}
use Rattle.compat_check.proofs.climbing.letter_after.Goals as goal

pub returns : goal.returns
returns c =
    let n = c.args.name in
    let low = c.requires in
    let from : depth n - (c.args.first + 1) ≡ c.depth.result - c.args.first - 1 = omega (arith, c.depth.ensures.depth) in
    let rest : suc (c.depth.result - c.args.first - 1) ≡ depth n - c.args.first = omega (arith, c.depth.ensures.depth) in
    let inside : c.depth.result - c.args.first - 1 < depth n = omega (arith, c.depth.ensures.depth) in
    ap (λ (k : ℕ). drop k n.1) from
    ∙ letter-at (c.depth.result - c.args.first - 1) n.1 inside
    ∙ (λ i. eqb (sym c.bits.ensures.bits i / 2 ^ (c.depth.result - c.args.first - 1) % 2) 1 ∷ drop (rest i) n.1)
