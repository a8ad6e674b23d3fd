-- The blocks of the hand and the rows that were not drawn fit into the pool.
use Rattle.std.proofs.Common.{◌≡◌, ◌≢◌, ℕ, ◌+◌, ◌-◌, ◌<◌, ◌≤◌, List, ◌++◌, inr, ⊎_elim, length, get_or, refl, sym, ap, ◌∙◌, subst, arith}
use Rattle.std.proofs.lemmas.List.{length-append}
use native.Mathlib.Decide.{dec_lt}
use Rattle.atomic_table.specs.Table.{Allows}
use Rattle.table_words.specs.Entries.{HasEntry}
use Rattle.table_words.specs.Views.{FirstHalf, Owner, Resting}
use Rattle.table_words.specs.Words.{words_at}
use Rattle.table_words.proofs.Entries.{entry_of_both}
use Rattle.table_state.proofs.OwnerLaws.{patches_counted}
use Rattle.table_state.proofs.Counts.{once_append, rows_from, rows_length, row_of, once_rows}
use Rattle.table_steps.specs.Steps.{ByLoadCursor}
use Rattle.mesh_table.specs.declared.rule.Site.{Site}
use Rattle.mesh_table.specs.Sights.{Sight, seat_at, views_of, setup_at}
use Rattle.mesh_table.specs.Holds.{Holds, Sat}
use Rattle.mesh_table.specs.Rounds.{counted_cursor}
use Rattle.mesh_table.proofs.Owning.{owner_acts, by_step, kept_words, in_ruling}
use Rattle.table_words.specs.Entries.{EntryAt}
use Rattle.table_rounds.specs.Rows.{IsHand, RowsFit, drawn_told}
use Rattle.table_rounds.specs.Stocks.{RoomTold, room_told}
use Rattle.table_rounds.proofs.Piles.{few, index_find, once_list}

pub rows_room : (hand rows pool drawn low : ℕ) → hand + rows ≤ pool + drawn → hand ≤ pool → low ≤ rows → (low < rows → drawn ≡ low) → hand + rows ≤ pool + low
rows_room hand rows pool drawn low a b c f = elim (dec_lt low rows) [ yes l ↦ (let e = f l in omega arith) | no o ↦ omega arith ]

module _ (k : Site) (id i : ℕ) (me : Sat) (rules : me.0.kind ≡ Owner) where
  pub looks_drawn : i ≡ 2 → me.0.ruling.phase ≢ FirstHalf → (slots : ℕ) → Allows (Holds k) slots id me i (λ n. n) (drawn_told k.layout.pool me)
  looks_drawn ei calm slots = owner_acts k id i me rules slots (λ n. n) (drawn_told k.layout.pool me) (λ s h same _.
      let f = seat_at s.views in
      let w = words_at k.layout s.words in
      let r = h.lawful.1 in
      let here : w.cursor ≡ get_or s.words i 0 = ap (λ (j : ℕ). get_or s.words j 0) (sym ei) in
      let u = counted_cursor (f 0) w.cursor in
      let undrawn = rows_from w.cursor w.row (w.free - w.cursor) in
      let many = rows_length w.cursor w.row (w.free - w.cursor) in
      let once = once_rows w.cursor w.row (w.free - w.cursor) (λ a b c d e q. r.claims.apart a b c (omega arith) e (omega arith)) in
      let told : RowsFit (f 0) k.layout.pool (get_or s.words i 0) = λ hand rows is free.
      let held : (b : ℕ) → HasEntry hand b → HasEntry (f 0).ruling.hand b × (b < k.layout.pool) = λ b e. let t = index_find hand b e in subst (λ (c : ℕ). HasEntry (f 0).ruling.hand c × (c < k.layout.pool)) (sym t.2) (is.held t.0 t.1) in
      let hands = once_list hand is.once in
      let count = length-append hand undrawn in
      let all = few k.layout.pool (hand ++ undrawn) (once_append hand undrawn hands once (λ b a c. let t = row_of w.cursor w.row (w.free - w.cursor) b c in let m = t.2 in r.frees.hand_rows b (held b a).0 (t.0, t.1, (omega arith), t.3)))
      (λ b a. ⊎_elim (λ c. (held b c).1) (λ c. let t = row_of w.cursor w.row (w.free - w.cursor) b c in let m = t.2 in let low = r.inside.rows t.0 (omega arith) in let e = t.3 in omega arith) (entry_of_both hand undrawn b a)) in
      let only = few k.layout.pool hand hands (λ b a. (held b a).1) in
      let is_free : w.free ≡ rows = r.stock.free_is rows free in
      let is_drawn = here in
      (omega arith, only) in (
        u,
        w,
        _,
        kept_words k id i me rules s,
        in_ruling f u refl refl refl refl refl,
        by_step k id i me rules s h _ _ (ByLoadCursor ((λ e. calm (sym (ap (λ (z : Sight). z.ruling.phase) same) ∙ e)), refl)),
        (refl, (λ z. counted_cursor (same z) (here z)), subst (λ (z : Sight). RowsFit z k.layout.pool (get_or s.words i 0)) same told),
      ))

  pub looks_room : me.0.ruling.phase ≡ Resting → (slots : ℕ) → Allows (Holds k) slots id me i (λ n. n) (room_told (setup_at k) k.layout.pool me)
  looks_room rests slots = owner_acts k id i me rules slots (λ n. n) (room_told (setup_at k) k.layout.pool me) (λ s h same _.
      let f = seat_at s.views in
      let w = words_at k.layout s.words in
      let r = h.lawful.1 in
      let rest : (f 0).ruling.phase ≡ Resting = ap (λ (z : Sight). z.ruling.phase) same ∙ rests in
      let told : RoomTold (setup_at k) (f 0) k.layout.pool = λ rows stay none stopped drawn free once_s same_s names firsts at once_f same_f.
      let is_free : w.free ≡ rows = r.stock.free_is rows free in
      let is_drawn : w.cursor ≡ 0 = (r.stock.cursor_is 0 drawn).1 in
      let e = patches_counted (setup_at k) w (length s.views) (views_of f) h.lawful rest none stopped (omega arith) names firsts stay (subst (λ (q : ℕ). EntryAt (f 0).ruling.history q names) r.stock.finished at) once_f same_f once_s same_s in
      omega arith in (
        f 0,
        w,
        views_of f,
        kept_words k id i me rules s,
        in_ruling f (f 0) refl refl refl refl refl,
        h.lawful,
        ((λ z. (same z, me.1)), subst (λ (z : Sight). RoomTold (setup_at k) z k.layout.pool) same told, λ rows e. let q = r.stock.free_is rows (ap (λ (z : Sight). z.ruling.free) same ∙ e) in let few_rows = r.inside.few in omega arith),
      ))
