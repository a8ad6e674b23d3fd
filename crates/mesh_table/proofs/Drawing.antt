-- A draw, and the loads that tell what it got.
use Rattle.std.proofs.Common.{◌≡◌, ℕ, ◌+◌, ◌%◌, ◌^◌, ◌<◌, length, get_or, set, refl, sym, ap, ◌∙◌, subst, arith, inl, inr}
use native.Mathlib.Decide.{dec_lt}
use Rattle.atomic_table.specs.Table.{Allows}
use Rattle.table_words.specs.Claims.{Claimed, Failed, Drawn, claim}
use Rattle.table_words.specs.Entries.{HasEntry}
use Rattle.table_words.specs.Layout.{Row, address}
use Rattle.table_words.specs.Views.{Worker, FirstHalf}
use Rattle.table_words.specs.Words.{words_at}
use Rattle.table_words.proofs.Writes.{writes_update}
use Rattle.table_state.proofs.Across.{first_half, name_one}
use Rattle.table_state.specs.Bisections.{IsPlaceOf}
use Rattle.table_state.proofs.Lawful.{draws_bounded}
use Rattle.table_steps.specs.Steps.{ByDrawStep, ByFullStep}
use Rattle.mesh_table.specs.declared.rule.Site.{Site}
use Rattle.mesh_table.specs.Sights.{Sight, seat_at, views_of, setup_at}
use Rattle.mesh_table.specs.Holds.{Holds, Sat}
use Rattle.mesh_table.specs.Told.{Ask, drawn, draws_told, free_told, row_told, saw_free}
use Rattle.mesh_table.proofs.Bridge.{stepped, seen, unmoved, allows, in_all, in_none, contents_at}

module _ (k : Site) (id i : ℕ) (me : Sat) (q : Ask) (ei : i ≡ 2) (works : me.0.kind ≡ Worker) (mine : (m : ℕ) × HasEntry me.0.claims (claim q.place m Claimed)) (small : (k.layout.elements < 2 ^ 32) × (k.layout.pool < 2 ^ 32)) where
  pub draws : (slots : ℕ) → Allows (Holds k) slots id me i (λ n. (n + 1) % 2 ^ 64) (draws_told q me)
  draws slots = allows k slots id i (λ n. (n + 1) % 2 ^ 64) me (draws_told q me) (λ s h l same _.
      let f = seat_at s.views in
      let w = words_at k.layout s.words in
      let v = views_of f in
      let n = get_or s.words i 0 in
      let here : w.cursor ≡ n = ap (λ (j : ℕ). get_or s.words j 0) (sym ei) in
      let kind : (f id).kind ≡ Worker = ap (λ (u : Sight). u.kind) same ∙ works in
      let has : HasEntry (f id).claims (claim q.place mine.0 Claimed) = subst (λ (u : Sight). HasEntry u.claims (claim q.place mine.0 Claimed)) (sym same) mine.1 in
      let g = h.lawful.0 in let r = h.lawful.1 in
      let one : v.ruling.phase ≡ FirstHalf = first_half (setup_at k) w (length s.views) v g r id q.place mine.0 Claimed kind (r.claims.held id q.place mine.0 Claimed has) (λ y. y) in
      let few = draws_bounded (setup_at k) w (length s.views) v h.lawful one in
      let s0 = small.0 in let s1 = small.1 in
      let next : (n + 1) % 2 ^ 64 ≡ w.cursor + 1 = omega arith in
      let ew = ap (λ (j : ℕ). words_at k.layout (set s.words j ((n + 1) % 2 ^ 64))) ei ∙ (writes_update k.layout s.words ((n + 1) % 2 ^ 64) h.size_is).cursor ∙ (λ t. record w { cursor = next t }) in
      elim (dec_lt w.cursor w.free) [
        | yes low ↦ (
          drawn (f id) q.place w.cursor (w.row w.cursor + 1) (Drawn (w.row w.cursor)),
          stepped k s h i ((n + 1) % 2 ^ 64) id (drawn (f id) q.place w.cursor (w.row w.cursor + 1) (Drawn (w.row w.cursor))) (record w { cursor = w.cursor + 1 }) _ l ew
              (in_all f id (drawn (f id) q.place w.cursor (w.row w.cursor + 1) (Drawn (w.row w.cursor))) refl refl refl)
              (ByDrawStep (id, q.place, mine.0, has, kind, low, refl)),
          (refl, inr (w.row w.cursor, λ t. drawn (same t) q.place (here t) (w.row w.cursor + 1) (Drawn (w.row w.cursor)))),
        )
        | no high ↦ (
          drawn (f id) q.place w.cursor 0 Failed,
          stepped k s h i ((n + 1) % 2 ^ 64) id (drawn (f id) q.place w.cursor 0 Failed) (record w { cursor = w.cursor + 1 }) _ l ew
              (in_all f id (drawn (f id) q.place w.cursor 0 Failed) refl refl refl)
              (ByFullStep (id, q.place, mine.0, has, kind, omega arith, refl)),
          (refl, inl (λ t. drawn (same t) q.place (here t) 0 Failed)),
        )
      ])

module _ (k : Site) (id i : ℕ) (me : Sat) where
  pub looks_free : (q : Ask) → i ≡ 3 → q.value ≡ k.layout.pool → (slots : ℕ) → Allows (Holds k) slots id me i (λ n. n) (free_told q me)
  looks_free q ei eq slots = allows k slots id i (λ n. n) me (free_told q me) (λ s h l same _.
      let r = h.lawful.1 in
      let n = get_or s.words i 0 in
      let w = words_at k.layout s.words in
      let f = seat_at s.views in
      let here : w.free ≡ n = ap (λ (j : ℕ). get_or s.words j 0) (sym ei) in
      let place : (x a : ℕ) → HasEntry me.0.work.found (x, a) → IsPlaceOf (setup_at k) w.name (h.lawful.0.who (w.round + 1)) x a = (λ x a e. ((r.works id).found x a (subst (λ (u : Sight). HasEntry u.work.found (x, a)) (sym same) e)).1) in (
        saw_free (f id) n,
        seen k s h i n id (saw_free (f id) n) l refl (in_none f id (saw_free (f id) n) refl refl refl refl refl refl),
        (refl, ap (λ (a : Sight). saw_free a n) same, (λ x a b e g. name_one (setup_at k) w (length s.views) (views_of f) h.lawful.0 r (w.round + 1) x a b (place x a e) (place x b g)), (let few = r.inside.few in omega arith), λ a c e. let d = r.drawn.drawn id a c (subst (λ (u : Sight). HasEntry u.work.drawn (a, c)) (sym same) e) in ((λ m. d.3 (omega arith)), λ m. let x = d.2 (omega arith) in omega arith)),
      ))

  module _ (q : Ask) (ei : i ≡ address k.layout (Row q.place)) (room : q.place < k.layout.pool) (pool : q.value ≡ k.layout.pool) where
    pub looks_row : (slots : ℕ) → Allows (Holds k) slots id me i (λ n. n) (row_told q me)
    looks_row slots = allows k slots id i (λ n. n) me (row_told q me) (λ s h l same _.
        let r = h.lawful.1 in
        let n = get_or s.words i 0 in
        let w = words_at k.layout s.words in
        let here : w.row q.place ≡ n = contents_at k.layout s.words k.layout.pool Row q.place room ∙ ap (λ (j : ℕ). get_or s.words j 0) (sym ei) in (
          me.0,
          unmoved k s h i n id me.0 l refl (sym same),
          (
            refl,
            λ b e. let d = r.drawn.drawn id q.place (b + 1) (subst (λ (u : Sight). HasEntry u.work.drawn (q.place, b + 1)) (sym same) e) in
                elim (dec_lt q.place w.free) [
                  | yes low ↦ let x = d.2 low in let y = r.inside.rows q.place low in (omega arith, omega arith)
                  | no high ↦ let x = d.3 (omega arith) in absurd (omega arith)
                ],
          ),
        ))
