use Rattle.std.proofs.Common.{◌≡◌, ℕ, ◌+◌, ◌<◌, get_or}
use Rattle.std.specs.declared.cmp.Ordering.TheVariants.{Less}
use Rattle.mesh_names.specs.Names.{Name, name_cmp}
use Rattle.mark_strategy.specs.Leaves.{Leaf}
use Rattle.bench_strategy.proofs.leaves.in_order.Given as goal

abbrev pub invariant-loop-at : goal.invariant-loop-at
invariant-loop-at l = (k : ℕ) (d : Leaf) → k + 1 < l.at → name_cmp (get_or l.leaves k d).0 (get_or l.leaves (k + 1) d).0 ≡ Less
