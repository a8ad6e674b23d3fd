-- Loads of the owner that are noted, and what they tell.
use Rattle.std.proofs.Common.{◌≡◌, ℕ, ◌+◌, ◌*◌, ◌%◌, ◌<◌, Bool, true, false, cond, ◌∷◌, inl, inr, length, get_or, refl, sym, ap, ◌∙◌, subst, arith, eq-eqb, ne_eqb}
use mathlib.Core.Logic.{dite}
use native.Mathlib.Decide.{ℕ_discrete}
use Rattle.atomic_table.specs.Table.{Allows}
use Rattle.table_words.specs.Entries.{HasEntry, Noted}
use Rattle.table_words.specs.Functions.{update}
use Rattle.table_words.specs.Layout.{OfBlock, Born, Died, HistoryOf, Row, LinkOf, Released, address}
use Rattle.table_words.specs.Places.{member_of, place_at, place_count}
use Rattle.table_words.specs.Views.{Owner, FirstHalf}
use Rattle.table_words.specs.Words.{node_of, words_at, history_word}
use Rattle.table_words.proofs.PlaceNumbers.{numbers_tell}
use Rattle.table_state.specs.Ghosts.{Life, Placed, RolledBack}
use Rattle.table_steps.specs.Steps.{ByLoadHead, ByLoadHistory, ByLoadBorn, ByLoadDied, ByLoadRow, ByLoadCursor, ByLoadFree, ByNoteFree, ByNoteDrained, ByLoadReleased, ByNoteQuiet}
use Rattle.table_steps.specs.States.{state}
use Rattle.table_steps.proofs.StepsKeep.{steps_keep}
use Rattle.mesh_table.specs.declared.rule.Site.{Site}
use Rattle.mesh_table.specs.Sights.{Sight, seat_at, views_of, setup_at}
use Rattle.mesh_table.specs.Holds.{Holds, Sat}
use Rattle.mesh_table.specs.Rounds.{noted_born, head_told, died_told, counted_cursor, counted_free, clearing, seen_released, quieting, MayTake, taken, taken_told}
use Rattle.mesh_table.specs.Told.{moved, noted_head, noted_history, noted_died}
use Rattle.mesh_table.proofs.Bridge.{in_owned, contents_at}
use Rattle.mesh_table.proofs.Claiming.{link_head}
use Rattle.mesh_table.proofs.Owning.{owner_acts, by_step, kept_words, in_ruling, in_owned_ruling}

placed_not_rolled_back : (l : Life) (x m y k : ℕ) → l ≡ Placed x m → l ≡ RolledBack y k → ⊥
placed_not_rolled_back l x m y k a b = let e : Placed x m ≡ RolledBack y k = sym a ∙ b in cc

module _ (k : Site) (id i : ℕ) (me : Sat) (rules : me.0.kind ≡ Owner) where
  pub looks_head : (x : ℕ) → i ≡ address k.layout (LinkOf (place_at k.layout x)) → x < place_count k.layout → me.0.ruling.workers ≡ 0 → (slots : ℕ) → Allows (Holds k) slots id me i (λ n. n) (head_told x me)
  looks_head x ei room home slots = owner_acts k id i me rules slots (λ n. n) (head_told x me) (λ s h same _.
      let f = seat_at s.views in
      let w = words_at k.layout s.words in
      let r = h.lawful.1 in
      let here = link_head k s h i x ei room in
      let u = noted_head (f 0) x (w.head x) in
      let at_home : (f 0).ruling.workers ≡ 0 = ap (λ (z : Sight). z.ruling.workers) same ∙ home in (
        u,
        w,
        _,
        kept_words k id i me rules s,
        in_owned f 0 u refl refl refl refl refl,
        by_step k id i me rules s h _ _ (ByLoadHead (0, x, refl)),
        (refl, (λ t. noted_head (same t) x (here t)), λ _ _ l e. sym here ∙ (r.owned 0).head_is x l (subst (λ (z : Sight). Noted z.owned.head x l) (sym same) e) (inl (refl, at_home))),
      ))

  pub looks_history : (b : ℕ) (t : Bool) → i ≡ address k.layout (OfBlock b (HistoryOf t)) → b < k.layout.pool → (slots : ℕ) → Allows (Holds k) slots id me i (λ n. n) (moved (λ n v. noted_history v (member_of b t) (node_of n)) me)
  looks_history b t ei room slots = owner_acts k id i me rules slots (λ n. n) (moved (λ n v. noted_history v (member_of b t) (node_of n)) me) (λ s h same _.
      let f = seat_at s.views in
      let w = words_at k.layout s.words in
      let here : w.history (member_of b t) ≡ node_of (get_or s.words i 0) = ap node_of (contents_at k.layout s.words (2 * k.layout.pool) history_word (member_of b t) (inside t) ∙ ap (λ z. get_or s.words (address k.layout z) 0) (numbers_tell.histories b t) ∙ ap (λ (j : ℕ). get_or s.words j 0) (sym ei)) in
      let u = noted_history (f 0) (member_of b t) (w.history (member_of b t)) in (
        u,
        w,
        _,
        kept_words k id i me rules s,
        in_owned f 0 u refl refl refl refl refl,
        by_step k id i me rules s h _ _ (ByLoadHistory (0, member_of b t, refl)),
        (refl, λ z. noted_history (same z) (member_of b t) (here z)),
      ))
    where
      inside : (t : Bool) → member_of b t < 2 * k.layout.pool
      inside true = omega arith
      inside false = omega arith

  pub looks_died : (b : ℕ) → i ≡ address k.layout (OfBlock b Died) → b < k.layout.pool → (slots : ℕ) → Allows (Holds k) slots id me i (λ n. n) (died_told b me)
  looks_died b ei room slots = owner_acts k id i me rules slots (λ n. n) (died_told b me) (λ s h same _.
      let f = seat_at s.views in
      let w = words_at k.layout s.words in
      let r = h.lawful.1 in
      let here : w.died b ≡ get_or s.words i 0 = contents_at k.layout s.words k.layout.pool (λ c. OfBlock c Died) b room ∙ ap (λ (j : ℕ). get_or s.words j 0) (sym ei) in
      let fin : me.0.ruling.finished ≡ w.round = sym (ap (λ (z : Sight). z.ruling.finished) same) ∙ r.stock.finished in
      let u = noted_died (f 0) b (w.died b) in (
        u,
        w,
        _,
        kept_words k id i me rules s,
        in_owned f 0 u refl refl refl refl refl,
        by_step k id i me rules s h _ _ (ByLoadDied (0, b, refl)),
        (
          refl,
          (λ z. noted_died (same z) b (here z)),
          λ _ e. let t = r.retireds b (inr (subst (λ (z : Sight). HasEntry z.ruling.retired b) (sym same) e)) in
              (sym here ∙ t.3 ∙ ap (λ (j : ℕ). j + 1) (sym fin), λ o. let y = r.note.rolled_back b (subst (λ (z : Sight). HasEntry z.ruling.rolled_back b) (sym same) o) in placed_not_rolled_back (h.lawful.0.life b) t.0 t.1 y.0 y.1 t.2 y.2),
        ),
      ))

  pub looks_born : (b : ℕ) → i ≡ address k.layout (OfBlock b Born) → b < k.layout.pool → (slots : ℕ) → Allows (Holds k) slots id me i (λ n. n) (moved (λ n v. noted_born v b n) me)
  looks_born b ei room slots = owner_acts k id i me rules slots (λ n. n) (moved (λ n v. noted_born v b n) me) (λ s h same _.
      let f = seat_at s.views in
      let w = words_at k.layout s.words in
      let here : w.born b ≡ get_or s.words i 0 = contents_at k.layout s.words k.layout.pool (λ c. OfBlock c Born) b room ∙ ap (λ (j : ℕ). get_or s.words j 0) (sym ei) in
      let u = noted_born (f 0) b (w.born b) in (
        u,
        w,
        _,
        kept_words k id i me rules s,
        in_owned f 0 u refl refl refl refl refl,
        by_step k id i me rules s h _ _ (ByLoadBorn (0, b, refl)),
        (refl, λ z. noted_born (same z) b (here z)),
      ))

  pub counts_cursor : i ≡ 2 → (me.0.ruling.phase ≡ FirstHalf → ⊥) → (slots : ℕ) → Allows (Holds k) slots id me i (λ n. n) (moved (λ n v. counted_cursor v n) me)
  counts_cursor ei calm slots = owner_acts k id i me rules slots (λ n. n) (moved (λ n v. counted_cursor v n) me) (λ s h same _.
      let f = seat_at s.views in
      let w = words_at k.layout s.words in
      let here : w.cursor ≡ get_or s.words i 0 = ap (λ (j : ℕ). get_or s.words j 0) (sym ei) in
      let u = counted_cursor (f 0) w.cursor in (
        u,
        w,
        _,
        kept_words k id i me rules s,
        in_ruling f u refl refl refl refl refl,
        by_step k id i me rules s h _ _ (ByLoadCursor ((λ e. calm (sym (ap (λ (z : Sight). z.ruling.phase) same) ∙ e)), refl)),
        (refl, λ z. counted_cursor (same z) (here z)),
      ))

  pub counts_free : i ≡ 3 → (slots : ℕ) → Allows (Holds k) slots id me i (λ n. n) (moved (λ n v. counted_free v n) me)
  counts_free ei slots = owner_acts k id i me rules slots (λ n. n) (moved (λ n v. counted_free v n) me) (λ s h same _.
      let f = seat_at s.views in
      let w = words_at k.layout s.words in
      let here : w.free ≡ get_or s.words i 0 = ap (λ (j : ℕ). get_or s.words j 0) (sym ei) in
      let u = counted_free (f 0) w.free in (
        u,
        w,
        _,
        kept_words k id i me rules s,
        in_ruling f u refl refl refl refl refl,
        by_step k id i me rules s h _ _ (ByLoadFree refl),
        (refl, λ z. counted_free (same z) (here z)),
      ))

  -- a round that was left is drained where as many pins were given back as were taken
  pub clears : (q p : ℕ) → i ≡ address k.layout (Released q) → q < k.layout.rounds + 1 → HasEntry me.0.ruling.left (q, p) → (slots : ℕ) → Allows (Holds k) slots id me i (λ n. n) (moved (λ n v. clearing q p n v) me)
  clears q p ei room left slots = owner_acts k id i me rules slots (λ n. n) (moved (λ n v. clearing q p n v) me) (λ s h same _.
      let f = seat_at s.views in
      let w = words_at k.layout s.words in
      let n = get_or s.words i 0 in
      let here : w.released q ≡ n = contents_at k.layout s.words (k.layout.rounds + 1) Released q room ∙ ap (λ (j : ℕ). get_or s.words j 0) (sym ei) in
      let was : HasEntry (f 0).ruling.left (q, p) = subst (λ (z : Sight). HasEntry z.ruling.left (q, p)) (sym same) left in
      let yes_ : Sight = record (f 0) { ruling = record (f 0).ruling { drained = q ∷ (f 0).ruling.drained } } in
      dite (ℕ_discrete n p)
      (λ e. (
        yes_,
        w,
        record (views_of f) { ruling = yes_.ruling },
        kept_words k id i me rules s,
        in_ruling f yes_ refl refl refl refl refl,
        by_step k id i me rules s h _ _ (ByNoteDrained (q, p, was, here ∙ e, refl)),
        (refl, (λ z. record (same z) { ruling = record (same z).ruling { drained = q ∷ (same z).ruling.drained } }) ∙ sym (ap (λ (b : Bool). cond b (record me.0 { ruling = record me.0.ruling { drained = q ∷ me.0.ruling.drained } }) me.0) (eq-eqb n p e))),
      ))
      (λ o. (
        f 0,
        w,
        views_of f,
        kept_words k id i me rules s,
        in_ruling f (f 0) refl refl refl refl refl,
        h.lawful,
        (refl, same ∙ sym (ap (λ (b : Bool). cond b (record me.0 { ruling = record me.0.ruling { drained = q ∷ me.0.ruling.drained } }) me.0) (ne_eqb n p o))),
      )))

  -- the last row of the stock is loaded, and its block is in the hand
  pub takes : (a : ℕ) → i ≡ address k.layout (Row a) → a < k.layout.pool → MayTake me.0 a → (slots : ℕ) → Allows (Holds k) slots id me i (λ n. n) (taken_told a k.layout.pool me)
  takes a ei room may slots = owner_acts k id i me rules slots (λ n. n) (taken_told a k.layout.pool me) (λ s h same _.
      let f = seat_at s.views in
      let w = words_at k.layout s.words in
      let here : w.row a ≡ get_or s.words i 0 = contents_at k.layout s.words k.layout.pool Row a room ∙ ap (λ (j : ℕ). get_or s.words j 0) (sym ei) in
      let can : MayTake (f 0) a = subst (λ (z : Sight). MayTake z a) (sym same) may in
      let u = taken (f 0) a (w.row a) in
      let one = record (views_of f) { owned = update (views_of f).owned 0 u.owned } in
      let two = record one { ruling = u.ruling } in (
        u,
        w,
        two,
        kept_words k id i me rules s,
        in_owned_ruling f u refl refl refl refl,
        steps_keep (setup_at k) (state w (length s.views) one) (state w (length s.views) two) (ByNoteFree (a, w.row a, can.home, can.low, can.last, inl (refl, refl), refl)) (by_step k id i me rules s h w one (ByLoadRow (0, a, refl))),
        (
          refl,
          (λ z. taken (same z) a (here z)),
          (λ e. h.lawful.1.frees.hand_stock (w.row a) (subst (λ (c : ℕ). HasEntry (f 0).ruling.hand c) (sym here) (subst (λ (z : Sight). HasEntry z.ruling.hand (get_or s.words i 0)) (sym same) e)) (a, can.low, (let q = can.last in omega arith), refl)),
          (let q = can.last in let z = (h.lawful.1.frees.stocked a can.low (omega arith)).2 in omega arith),
        ),
      ))

  -- RELEASED of the last finished round
  pub looks_released : (q : ℕ) → i ≡ address k.layout (Released q) → q < k.layout.rounds + 1 → me.0.ruling.finished ≡ q → (slots : ℕ) → Allows (Holds k) slots id me i (λ n. n) (moved (λ n v. seen_released v n) me)
  looks_released q ei room last slots = owner_acts k id i me rules slots (λ n. n) (moved (λ n v. seen_released v n) me) (λ s h same _.
      let f = seat_at s.views in
      let w = words_at k.layout s.words in
      let fin : (f 0).ruling.finished ≡ q = ap (λ (z : Sight). z.ruling.finished) same ∙ last in
      let here : w.released (f 0).ruling.finished ≡ get_or s.words i 0 = ap w.released fin ∙ contents_at k.layout s.words (k.layout.rounds + 1) Released q room ∙ ap (λ (j : ℕ). get_or s.words j 0) (sym ei) in
      let u = seen_released (f 0) (w.released (f 0).ruling.finished) in (
        u,
        w,
        _,
        kept_words k id i me rules s,
        in_ruling f u refl refl refl refl refl,
        by_step k id i me rules s h _ _ (ByLoadReleased refl),
        (refl, λ z. seen_released (same z) (here z)),
      ))

  -- ROUND after it: the round is quiet where as many pins were taken
  pub looks_quiet : i ≡ 1 → (slots : ℕ) → Allows (Holds k) slots id me i (λ n. n) (moved quieting me)
  looks_quiet ei slots = owner_acts k id i me rules slots (λ n. n) (moved quieting me) (λ s h same _.
      let f = seat_at s.views in
      let w = words_at k.layout s.words in
      let n = get_or s.words i 0 in
      let here : w.taken ≡ n % 4294967296 = ap (λ (j : ℕ). get_or s.words j 0 % 4294967296) (sym ei) in
      let yes_ : Sight = record (f 0) { ruling = record (f 0).ruling { quiet = true } } in
      let seen : (f 0).ruling.seen ≡ me.0.ruling.seen = ap (λ (z : Sight). z.ruling.seen) same in
      dite (ℕ_discrete me.0.ruling.seen (n % 4294967296 + 1))
      (λ e. (
        yes_,
        w,
        record (views_of f) { ruling = yes_.ruling },
        kept_words k id i me rules s,
        in_ruling f yes_ refl refl refl refl refl,
        by_step k id i me rules s h _ _ (ByNoteQuiet (seen ∙ e ∙ ap (λ (j : ℕ). j + 1) (sym here), refl)),
        (refl, (λ z. record (same z) { ruling = record (same z).ruling { quiet = true } }) ∙ sym (ap (λ (b : Bool). cond b (record me.0 { ruling = record me.0.ruling { quiet = true } }) me.0) (eq-eqb me.0.ruling.seen (n % 4294967296 + 1) e))),
      ))
      (λ o. (
        f 0,
        w,
        views_of f,
        kept_words k id i me rules s,
        in_ruling f (f 0) refl refl refl refl refl,
        h.lawful,
        (refl, same ∙ sym (ap (λ (b : Bool). cond b (record me.0 { ruling = record me.0.ruling { quiet = true } }) me.0) (ne_eqb me.0.ruling.seen (n % 4294967296 + 1) o))),
      )))
