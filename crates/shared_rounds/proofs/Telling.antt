-- A load tells of the owner's claims.
use Rattle.std.proofs.Common.{◌≡◌, ℕ, ◌+◌, ◌≤◌, false, length, refl, sym, ap, ◌∙◌, subst, arith}
use native.Mathlib.Decide.{dec_lt}
use Rattle.atomic_table.specs.Table.{Allows}
use Rattle.table_words.specs.Claims.{Living}
use Rattle.table_words.specs.Views.{FirstHalf, Owner}
use Rattle.table_words.specs.Words.{words_at}
use Rattle.table_state.specs.Ghosts.{Life, chained}
use Rattle.table_state.proofs.DrawLaws.{round_fits}
use Rattle.mesh_table.specs.declared.rule.Site.{Site}
use Rattle.mesh_table.specs.Sights.{Sight, seat_at, views_of, setup_at}
use Rattle.mesh_table.specs.Holds.{Holds, Sat}
use Rattle.mesh_table.proofs.Owning.{owner_acts, kept_words, in_ruling}
use Rattle.shared_rounds.specs.Claims.{ClaimsTold, claims_told}
use Rattle.table_state.proofs.TableLaws.{blocks_in_pool}

-- a block that is placed is so once
abbrev first_of : Life → ℕ
first_of l = chained l false

module _ (k : Site) (id i : ℕ) (me : Sat) (rules : me.0.kind ≡ Owner) where
  pub looks_claims : me.0.ruling.phase ≡ FirstHalf → me.0.ruling.high ≤ me.0.ruling.low → (slots : ℕ) → Allows (Holds k) slots id me i (λ n. n) (claims_told (setup_at k) me)
  looks_claims half none slots = owner_acts k id i me rules slots (λ n. n) (claims_told (setup_at k) me) (λ s h same _.
      let f = seat_at s.views in
      let w = words_at k.layout s.words in
      let r = h.lawful.1 in
      let one : (f 0).ruling.phase ≡ FirstHalf = ap (λ (z : Sight). z.ruling.phase) same ∙ half in
      let shut : (f 0).ruling.high ≤ (f 0).ruling.low = subst (λ (z : Sight). z.ruling.high ≤ z.ruling.low) (sym same) none in
      let told : ClaimsTold (setup_at k) (f 0) = record {
        once = r.once 0;
        apart = λ x y m j b a c. let p = (r.claims.shape x 0 m (Living b) (r.claims.held 0 x m (Living b) a)).0 in
            let q = (r.claims.shape y 0 j (Living b) (r.claims.held 0 y j (Living b) c)).0 in
            let e : x + 1 ≡ y + 1 = ap first_of (sym p ∙ q) in omega arith;
        room = λ x m b a. (blocks_in_pool (setup_at k) w (length s.views) (views_of f) h.lawful).5 0 x m b (Living b) a refl;
        fits = λ x m a goal held g d. elim (dec_lt k.layout.pool (length goal + length held)) [
          | yes l ↦ l
          | no o ↦ absurd ((round_fits (setup_at k) w (length s.views) (views_of f) h.lawful goal held one shut g d (omega arith)).2 0 x m a)
        ];
      } in (
        f 0,
        w,
        views_of f,
        kept_words k id i me rules s,
        in_ruling f (f 0) refl refl refl refl refl,
        h.lawful,
        ((λ z. (same z, me.1)), subst (λ (z : Sight). ClaimsTold (setup_at k) z) same told),
      ))
