use Rattle.std.proofs.Common.{ℕ, List, eqb, subst, sym}
use Rattle.std.specs.List.Sorted.{IsStrictlyIncreasing}
use Rattle.std.proofs.lemmas.List.Filters.{dedup_is}
use Rattle.std.proofs.lemmas.List.Kept.{Contains-dedup_nat, Contains-from_dedup}
use Rattle.std.proofs.lemmas.List.Sorted.{Contains-permutation, IsPermutation-sym}
use Rattle.std.proofs.lemmas.Map.Keys.{IsStrictlyIncreasing-dedup}
use Rattle.table_words.specs.Entries.{HasEntry}
use Rattle.table_rounds.proofs.Retiring.{contained_entry, entry_contained}
use Rattle.table_rounds.proofs.retired.each_once.Goals as goal

pub returns-clause-once : goal.returns-clause-once
returns-clause-once c =
    let is = dedup_is eqb c.sort_unstable.new.self.items c.dedup.new.self.items c.dedup.ensures.filtered in
    subst IsStrictlyIncreasing (sym is) (IsStrictlyIncreasing-dedup c.sort_unstable.new.self.items c.sort_unstable.ensures.sorted)

pub returns-clause-right : goal.returns-clause-right
returns-clause-right c = λ b h.
    let is = dedup_is eqb c.sort_unstable.new.self.items c.dedup.new.self.items c.dedup.ensures.filtered in
    let kept = subst (λ (xs : List ℕ). HasEntry xs b) is h in
    contained_entry c.args.blocks.items b (Contains-permutation _ _ b (IsPermutation-sym _ _ c.sort_unstable.ensures.permutation)
    (Contains-from_dedup eqb c.sort_unstable.new.self.items b (entry_contained _ b kept)))

pub returns-clause-all : goal.returns-clause-all
returns-clause-all c = λ b h.
    let is = dedup_is eqb c.sort_unstable.new.self.items c.dedup.new.self.items c.dedup.ensures.filtered in
    subst (λ (xs : List ℕ). HasEntry xs b) (sym is) (contained_entry _ b
    (Contains-dedup_nat c.sort_unstable.new.self.items b (Contains-permutation c.args.blocks.items _ b c.sort_unstable.ensures.permutation (entry_contained c.args.blocks.items b h))))
