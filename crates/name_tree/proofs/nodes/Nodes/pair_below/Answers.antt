use Rattle.std.proofs.Common.{arith}
use Rattle.std.proofs.Common.{ℕ, Result, Ok, Err, IfOk}
use Rattle.std.specs.Prelude.{IfErr}
use Rattle.std.specs.declared.alloc.AllocError.{AllocError}
use Rattle.name_tree.specs.Growth.{Grows, Keeps, Stays}
use Rattle.name_tree.specs.Trees.{Under, pairs_of}
use Rattle.name_tree.proofs.MorePairs.{named-within}
use Rattle.name_tree.proofs.Places.{grows-keeps, stays-keeps}
use Rattle.name_tree.proofs.nodes.Nodes.pair_below.Goals as goal

pub below-requires : goal.below-requires
below-requires c =
    let low = named-within (pairs_of c.args.self.now) c.args.place c.requires.kept.count c.requires.kept.tree.within c.requires.named in
    let whole = c.requires.kept.whole in
    omega arith

pub returns-in-None-clause-same : goal.returns-in-None-clause-same
returns-in-None-clause-same c = by c.sprout.result c.sprout.ensures.ok c.sprout.ensures.err
  where
    by : (r : Result ℕ AllocError) → IfOk r (Grows c.args.self.now c.sprout.new.self (Under c.args.place)) → IfErr r (λ _. Stays c.args.self.now c.sprout.new.self) → Keeps c.args.self.now c.sprout.new.self
    by (Ok p) g h = grows-keeps c.args.self.now c.sprout.new.self (Under c.args.place) p g
    by (Err e) g h = stays-keeps c.args.self.now c.sprout.new.self h
