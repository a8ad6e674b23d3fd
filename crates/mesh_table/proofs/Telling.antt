-- What a pass was told of the last finished round is so.
use Rattle.std.proofs.Common.{◌≡◌, ℕ, zero, suc, ◌+◌, List, [], ◌∷◌, ◌++◌, length, get_or, refl, sym, ap, ◌∙◌, subst, arith, inl}
use Rattle.atomic_table.specs.Table.{Allows}
use Rattle.table_words.specs.Entries.{HasEntry, EntryAt}
use Rattle.table_words.specs.Setup.{Setup}
use Rattle.table_words.specs.Views.{Worker, Views}
use Rattle.table_words.specs.Words.{Words, words_at}
use Rattle.table_state.specs.Lists.{Holds as Bisects, IsClosed}
use Rattle.table_state.specs.Rule.{Lawful}
use Rattle.table_state.proofs.Lists.{bisected_closed}
use Rattle.mesh_table.specs.declared.rule.Site.{Site}
use Rattle.mesh_table.specs.Sights.{Sight, seat_at, views_of, setup_at}
use Rattle.mesh_table.specs.Holds.{Holds, Sat}
use Rattle.mesh_table.specs.SecondHalf.{IsOld, old_told}
use Rattle.mesh_table.proofs.Bridge.{unmoved, allows}

entry_more : (xs ys : List (List ℕ)) (i : ℕ) (a : List ℕ) → EntryAt xs i a → EntryAt (xs ++ ys) i a
entry_more [] ys i a h = absurd h
entry_more (x ∷ xs) ys zero a h = h
entry_more (x ∷ xs) ys (suc i) a h = entry_more xs ys i a h

module _ (k : Site) (s : Words) (n : ℕ) (f : ℕ → Sight) (h : Lawful (setup_at k) s n (views_of f)) (id : ℕ) (works : (f id).kind ≡ Worker) where
  -- the names that the pass was told are those that the last finished round has
  forest : (q : ℕ) (names : List ℕ) → q + 1 ≡ (f id).work.round → EntryAt (f id).read.told q names → (a : ℕ) → (HasEntry names a → Bisects (h.0.who s.round) a) × (Bisects (h.0.who s.round) a → HasEntry names a)
  forest q names e at =
      let r = h.1 in
      let told = r.history.told id in
      let now = (r.walks id).at_work works in
      let same : q ≡ s.round = omega arith in
      subst (λ (p : ℕ). (a : ℕ) → (HasEntry names a → Bisects (h.0.who p) a) × (Bisects (h.0.who p) a → HasEntry names a)) same
      (r.history.forests q names (subst (λ (l : List (List ℕ)). EntryAt l q names) (sym told.1) (entry_more (f id).read.told told.0 q names at)))

  old_bisected : (a : ℕ) → IsOld (f id) a → Bisects (h.0.who s.round) a
  old_bisected a o = (forest o.0 o.1 o.2 o.3 a).0 o.4

  pub not_absent : (a : ℕ) → IsOld (f id) a → HasEntry (f id).work.absent a → ⊥
  not_absent a o e = let b = old_bisected a o in let z = (h.1.walks id).absent a e in let y = b.1 in omega arith

  -- from one name that was told to another that is bisected
  told_too : (a b : ℕ) → IsOld (f id) a → Bisects (h.0.who s.round) b → IsOld (f id) b
  told_too a b o c = (o.0, o.1, o.2, o.3, (forest o.0 o.1 o.2 o.3 b).1 c)

  closed : IsClosed (setup_at k) (Bisects (h.0.who s.round))
  closed = bisected_closed (setup_at k) s n (views_of f) h.0 h.1 s.round (inl (inl refl))

  pub old_closed : IsClosed (setup_at k) (IsOld (f id))
  old_closed = record {
    parents = λ a c o. told_too ((setup_at k).child a c) a o (closed.parents a c (old_bisected _ o));
    seconds = λ a i e o. told_too a (i + 1) o (closed.seconds a i e (old_bisected a o));
    firsts = λ a i e o. told_too (i + 1) a o (closed.firsts a i e (old_bisected (i + 1) o));
  }

module _ (k : Site) (id i : ℕ) (me : Sat) (works : me.0.kind ≡ Worker) where
  pub looks_old : (slots : ℕ) → Allows (Holds k) slots id me i (λ n. n) (old_told (setup_at k) me)
  looks_old slots = allows k slots id i (λ n. n) me (old_told (setup_at k) me) (λ s h l same _.
      let f = seat_at s.views in
      let w = words_at k.layout s.words in
      let does : (f id).kind ≡ Worker = ap (λ (a : Sight). a.kind) same ∙ works in (
        me.0,
        unmoved k s h i (get_or s.words i 0) id me.0 l refl (sym same),
        (refl, subst (λ (v : Sight). (a : ℕ) → IsOld v a → HasEntry v.work.absent a → ⊥) same (not_absent k w (length s.views) f h.lawful id does), subst (λ (v : Sight). IsClosed (setup_at k) (IsOld v)) same (old_closed k w (length s.views) f h.lawful id does)),
      ))
