-- Stamps, one after the other.
use Rattle.std.proofs.Common.{◌≡◌, ◌≢◌, ℕ, ◌+◌, ◌<◌, List, [], ◌∷◌, ◌⊎◌, inl, inr, length, refl, sym, ap, ◌∙◌, subst, arith}
use mathlib.Core.Logic.{dite}
use native.Mathlib.Decide.{ℕ_discrete}
use Rattle.table_words.specs.declared.layout.Layout.{Layout}
use Rattle.table_words.specs.Entries.{Noted}
use Rattle.table_words.specs.Words.{Node, node}
use Rattle.mesh_table.specs.Sights.{Sight}
use Rattle.mesh_table.specs.Passes.{IsStampedIn}
use Rattle.mesh_table.specs.Told.{mate_number, noted_head}
use Rattle.table_rounds.specs.declared.patch.Patch.{Patch}
use Rattle.table_rounds.specs.Patches.{nth, first_of, StampsStay, StampedTo}

-- a load of a LINK word that finds what was noted of it leaves stamps as they are
pub load_stays : (u : Sight) (x : ℕ) (n : Node) → ((l : Node) → Noted u.owned.head x l → n ≡ l) → StampsStay u (noted_head u x n)
load_stays u x n again y c (l, at, fine) = dite (ℕ_discrete x y)
    (λ e. (n, inl (e, refl), subst (λ (z : Node). (z.block ≡ c + 1 → ⊥) ⊎ (0 < z.died)) (sym (again l (subst (λ (z : ℕ). Noted u.owned.head z l) (sym e) at))) fine))
    (λ o. (l, inr (o, at), fine))

-- and so does a stamp
pub stamp_stays : (u : Sight) (x : ℕ) (n : Node) → 0 < n.died → StampsStay u (noted_head u x n)
stamp_stays u x n some_ y c (l, at, fine) = dite (ℕ_discrete x y) (λ e. (n, inl (e, refl), inr some_)) (λ o. (l, inr (o, at), fine))

module _ (l : Layout) (u : Sight) (ps : List Patch) where
  pub stamps_begin : StampedTo l u u ps 0
  stamps_begin = record { same = refl; stamped = λ k a. absurd (omega arith) }

  pub stamps_go : (v v' : Sight) (n : ℕ) → StampedTo l u v ps n → v' ≡ record v { owned = v'.owned } → StampsStay v v' → IsStampedIn v' (first_of l ps n) (nth ps n).block → ((y : ℕ) → mate_number l (nth ps n).second ≡ y + 1 → IsStampedIn v' y (nth ps n).block) → StampedTo l u v' ps (n + 1)
  stamps_go v v' n so same stay one two = record {
    same = same ∙ (λ t. record (so.same t) { owned = v'.owned });
    stamped = λ k a. dite (ℕ_discrete k n)
        (λ e. (subst (λ (j : ℕ). IsStampedIn v' (first_of l ps j) (nth ps j).block) (sym e) one, λ y h. subst (λ (j : ℕ). IsStampedIn v' y (nth ps j).block) (sym e) (two y (sym (ap (λ (j : ℕ). mate_number l (nth ps j).second) e) ∙ h))))
        (λ o. let t = so.stamped k (omega arith) in (stay _ _ t.0, λ y h. stay _ _ (t.1 y h)));
  }
