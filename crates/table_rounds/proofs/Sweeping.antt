-- The sweep of claims, one after the other.
use Rattle.std.proofs.Common.{◌≡◌, ℕ, ◌+◌, ◌<◌, List, [], ◌∷◌, ◌⊎◌, inl, inr, ⊎_elim, length, refl, sym, ap, ◌∙◌, subst, arith}
use mathlib.Core.Logic.{dite}
use native.Mathlib.Decide.{ℕ_discrete}
use Rattle.table_words.specs.declared.layout.Layout.{Layout}
use Rattle.table_words.specs.Claims.{Progress, Claim, Living, claim, ended}
use Rattle.table_words.specs.Entries.{HasEntry}
use Rattle.table_words.specs.Views.{Owner, Closing}
use Rattle.table_state.proofs.HeldClaims.{ended_has, ended_keeps}
use Rattle.mesh_table.specs.Sights.{Sight}
use Rattle.mesh_table.specs.Rounds.{MayUnclaim, unclaimed}
use Rattle.mesh_table.specs.Told.{mate_number}
use Rattle.table_rounds.specs.declared.patch.Patch.{Patch}
use Rattle.table_rounds.specs.Patches.{nth, spot, first_of, IsSweepable, SweptTo, Swept}

pub none_left : (cs : List Claim) → ((x m : ℕ) (p : Progress) → HasEntry cs (claim x m p) → ⊥) → cs ≡ []
none_left [] h = refl
none_left (c ∷ cs) h = absurd (h c.place c.mate c.progress (inl refl))

module _ (l : Layout) (u : Sight) (ps : List Patch) where
  pub sweep_begins : SweptTo l u u ps 0
  sweep_begins = record { same = refl; left = λ x m p h. (h, λ k a. absurd (omega arith)); still = λ x m p h _. h; more = λ a h. h; only = λ a h. inl h; noted = λ k a. absurd (omega arith) }

  module _ (may : IsSweepable l u ps) (v : Sight) (n : ℕ) (so : SweptTo l u v ps n) where
    pub sweep_may : u.kind ≡ Owner → u.ruling.phase ≡ Closing → n < length ps → MayUnclaim v (first_of l ps n) (mate_number l (nth ps n).second) (nth ps n).block
    sweep_may rules closed room = record {
      rules = ap (λ (z : Sight). z.kind) so.same ∙ rules;
      closed = ap (λ (z : Sight). z.ruling.phase) so.same ∙ closed;
      claim_is = so.still (first_of l ps n) (mate_number l (nth ps n).second) (Living (nth ps n).block) (may.held n room) (λ k a e. let same = may.apart n k room (omega arith) e in absurd (omega arith));
    }

    pub sweep_goes : (v' : Sight) → v' ≡ unclaimed v (first_of l ps n) (mate_number l (nth ps n).second) (nth ps n).block → SweptTo l u v' ps (n + 1)
    sweep_goes v' e = subst (λ (z : Sight). SweptTo l u z ps (n + 1)) (sym e) record {
      same = λ t. record (so.same t) { claims = ended v.claims (first_of l ps n); ruling = record (so.same t).ruling { placed = spot l (nth ps n) ∷ v.ruling.placed } };
      left = λ x m p h. let a = ended_has v.claims (first_of l ps n) x m p h in let b = so.left x m p a.1 in
          (b.0, λ k c. dite (ℕ_discrete k n) (λ q f. a.0 (f ∙ ap (first_of l ps) q)) (λ o. b.1 k (omega arith)));
      still = λ x m p h far. ended_keeps v.claims (first_of l ps n) x m p (far n (omega arith)) (so.still x m p h (λ k a. far k (omega arith)));
      more = λ a h. inr (so.more a h);
      only = λ a h. ⊎_elim (λ q. inr (n, omega arith, q)) (λ q. ⊎_elim inl (λ t. let b = t.1 in inr (t.0, omega arith, t.2)) (so.only a q)) h;
      noted = λ k a. dite (ℕ_discrete k n) (λ q. inl (ap (λ (j : ℕ). spot l (nth ps j)) q)) (λ o. inr (so.noted k (omega arith)));
    }

  pub sweep_ends : IsSweepable l u ps → (v : Sight) → SweptTo l u v ps (length ps) → Swept l u v ps
  sweep_ends may v so =
      let none : v.claims ≡ [] = none_left v.claims (λ x m p h. let a = so.left x m p h in let b = may.all x m p a.0 in a.1 b.0 b.1 b.2) in record {
        same = so.same ∙ (λ t. record u { claims = none t; ruling = record u.ruling { placed = v.ruling.placed } });
        more = so.more;
        only = so.only;
        noted = so.noted;
      }
