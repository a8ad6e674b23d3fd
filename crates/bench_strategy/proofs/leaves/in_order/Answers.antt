use Rattle.std.proofs.Common.{ℕ, pos, [], arith, get_or, length, ◌+◌, ◌<◌, ◌≡◌, ap, sym, ◌∙◌}
use Rattle.std.specs.declared.cmp.Ordering.TheVariants.{Less}
use Rattle.std.proofs.lemmas.List.{get_or-map, length-map}
use Rattle.std.proofs.lemmas.Map.Keys.{sorted_from_all_adjacent}
use Rattle.mesh_names.specs.Names.{Name, name_cmp}
use Rattle.mesh_names.specs.Order.{name_cmp_total}
use Rattle.mark_strategy.specs.Leaves.{Leaf, names_of}
use Rattle.bench_strategy.proofs.leaves.in_order.Goals as goal

pub returns : goal.returns
returns c e =
    let leaves = c.args.leaves.now in
    let none : Leaf = ((0, []), pos 0) in
    sorted_from_all_adjacent name_cmp_total (names_of leaves) none.0 (λ k l.
    let many = length-map leaves (λ (n : Leaf). n.0) in
    let inside : k + 1 < length leaves = omega (arith, l, many) in
    let first = get_or-map (λ (n : Leaf). n.0) leaves k none none.0 (omega (arith, inside)) in
    let second = get_or-map (λ (n : Leaf). n.0) leaves (k + 1) none none.0 inside in
    (λ i. name_cmp (first i) (second i)) ∙ c.loop-at.invariant k none (omega (arith, inside, c.loop-at-test.false)))
