-- Cuts, blocks that become free, and free rows.
use Rattle.std.proofs.Common.{◌≡◌, ℕ, ◌*◌, ◌/◌, ◌%◌, ◌<◌, Bool, true, false, cond, List, [], ◌∷◌, ◌⊎◌, inl, inr, ⊎_elim, set, refl, sym, ap, ◌∙◌, subst, arith, eq-eqb, ne_eqb}
use mathlib.Core.Logic.{dite}
use native.Mathlib.Decide.{ℕ_discrete}
use Rattle.atomic_table.specs.Table.{Allows}
use Rattle.table_words.specs.Entries.{HasEntry}
use Rattle.table_words.specs.Functions.{update}
use Rattle.table_words.specs.Layout.{OfBlock, Born, HistoryOf, Row, LinkOf, address}
use Rattle.table_words.specs.Places.{member_of, place_at, place_count}
use Rattle.table_words.specs.Words.{node_of, words_at}
use Rattle.table_words.proofs.Entries.{entry_of_both, entry_left, entry_right}
use Rattle.table_words.proofs.PlaceNumbers.{numbers_tell}
use Rattle.table_words.proofs.Writes.{writes_update}
use Rattle.table_state.specs.Claims.{bit_of}
use Rattle.table_steps.specs.Steps.{ByCutLink, ByCutHistory, ByFreeStep, ByZeroStep, ByStopStep, ByRewindStep, ByRowStep, ByOpenStep}
use Rattle.mesh_table.specs.declared.rule.Site.{Site}
use Rattle.mesh_table.specs.Sights.{Sight, seat_at}
use Rattle.mesh_table.specs.Holds.{Holds, Sat}
use Rattle.mesh_table.specs.Rounds.{MayCutLink, MayCutHistory, listed, others, MayFree, freed, MayZero, noted_born, noted_row, MayStop, stopped, MayRewind, rewound, MayLay, MayOpen, opened}
use Rattle.mesh_table.specs.Told.{moved, noted_head, noted_history}
use Rattle.mesh_table.proofs.Bridge.{in_owned}
use Rattle.mesh_table.proofs.Claiming.{set_link, update_again}
use Rattle.mesh_table.proofs.Owning.{owner_acts, by_step, kept_words, in_ruling}
use Rattle.mesh_table.proofs.Unclaiming.{even}

-- a number is in a list where the test says so
pub listed_has : (bs : List ℕ) (c : ℕ) → listed bs c ≡ true → HasEntry bs c
listed_has [] c e = absurd cc
listed_has (b ∷ bs) c e = dite (ℕ_discrete b c) (λ q. inl (sym q)) (λ o. inr (listed_has bs c (sym (ap (λ (t : Bool). cond t true (listed bs c)) (ne_eqb b c o)) ∙ e)))

pub has_listed : (bs : List ℕ) (c : ℕ) → HasEntry bs c → listed bs c ≡ true
has_listed [] c h = absurd h
has_listed (b ∷ bs) c h = dite (ℕ_discrete b c) (λ q. ap (λ (t : Bool). cond t true (listed bs c)) (eq-eqb b c q))
    (λ o. ap (λ (t : Bool). cond t true (listed bs c)) (ne_eqb b c o) ∙ ⊎_elim (λ q. absurd (o (sym q))) (has_listed bs c) h)

by_bool : (x : Bool) → (x ≡ true) ⊎ (x ≡ false)
by_bool true = inl refl
by_bool false = inr refl

-- the others of a list
module _ {A : Type 0} (of : A → ℕ) (bs : List ℕ) where
  pub others_back : (xs : List A) (a : A) → HasEntry (others of bs xs) a → HasEntry xs a × (listed bs (of a) ≡ false)
  others_back [] a h = absurd h
  others_back (x ∷ xs) a h = ⊎_elim
      (λ y. let t = others_back xs a (subst (λ (l : List A). HasEntry l a) (ap (λ (t : Bool). cond t (others of bs xs) (x ∷ others of bs xs)) y) h) in (inr t.0, t.1))
      (λ n. ⊎_elim (λ e. (inl e, ap (λ (z : A). listed bs (of z)) e ∙ n)) (λ t. let q = others_back xs a t in (inr q.0, q.1)) (subst (λ (l : List A). HasEntry l a) (ap (λ (t : Bool). cond t (others of bs xs) (x ∷ others of bs xs)) n) h)) (by_bool (listed bs (of x)))

  pub others_on : (xs : List A) (a : A) → HasEntry xs a → HasEntry (others of bs xs) a ⊎ (listed bs (of a) ≡ true)
  others_on [] a h = absurd h
  others_on (x ∷ xs) a h = ⊎_elim
      (λ y. ⊎_elim (λ e. inr (ap (λ (z : A). listed bs (of z)) e ∙ y)) (λ t. ⊎_elim (λ q. inl (subst (λ (l : List A). HasEntry l a) (sym (ap (λ (t : Bool). cond t (others of bs xs) (x ∷ others of bs xs)) y)) q)) inr (others_on xs a t)) h)
      (λ n. let is = sym (ap (λ (t : Bool). cond t (others of bs xs) (x ∷ others of bs xs)) n) in ⊎_elim (λ e. inl (subst (λ (l : List A). HasEntry l a) is (inl e))) (λ t. ⊎_elim (λ q. inl (subst (λ (l : List A). HasEntry l a) is (inr q))) inr (others_on xs a t)) h) (by_bool (listed bs (of x)))

module _ (k : Site) (id i : ℕ) (me : Sat) where
  pub cuts_link : (x b : ℕ) (t : Bool) (word n : ℕ) → i ≡ address k.layout (LinkOf (place_at k.layout x)) → x < place_count k.layout → MayCutLink me.0 x b t (node_of word) → n ≡ word / 2 * 2 → (slots : ℕ)
      → Allows (Holds k) slots id me i (λ _. n) (λ _. moved (λ _ v. noted_head v x (node_of word)) me n)
  cuts_link x b t word n ei room may spelled slots = owner_acts k id i me may.rules slots (λ _. n) (λ _. moved (λ _ v. noted_head v x (node_of word)) me n) (λ s h same _.
      let f = seat_at s.views in
      let w = words_at k.layout s.words in
      let r = h.lawful.1 in
      let can : MayCutLink (f 0) x b t (node_of word) = subst (λ (z : Sight). MayCutLink z x b t (node_of word)) (sym same) may in
      let e = even word in
      let none : n % 2 ≡ 0 = ap (λ (q : ℕ). q % 2) spelled ∙ e.0 in
      let to : node_of n ≡ node_of word = ap node_of spelled ∙ e.1 in
      let bit : w.claimed x ≡ 0 = r.claims.bits x ∙ ap bit_of (r.claims.none x can.rests) in
      let u = noted_head (f 0) x (node_of word) in (
        u,
        record w { head = update w.head x (node_of word) },
        _,
        set_link k s h i x ei room n ∙ (λ z. record w { claimed = update_again w.claimed x (n % 2) (none ∙ sym bit) z; head = update w.head x (to z) }),
        in_owned f 0 u refl refl refl refl refl,
        by_step k id i me may.rules s h _ _ (ByCutLink (can.rests, x, b, can.died, can.first, can.second, t, node_of word, can.head, can.dead, can.next, can.some_, can.drained, can.placed, can.fair, can.at, refl)),
        (refl, ap (λ (z : Sight). noted_head z x (node_of word)) same),
      ))

  pub cuts_history : (a : ℕ) (u : Bool) (x b : ℕ) (t : Bool) (n : ℕ) → i ≡ address k.layout (OfBlock a (HistoryOf u)) → a < k.layout.pool → MayCutHistory me.0 a u x b t (node_of n) → (slots : ℕ)
      → Allows (Holds k) slots id me i (λ _. n) (λ _. moved (λ _ v. noted_history v (member_of a u) (node_of n)) me n)
  cuts_history a u x b t n ei room may slots = owner_acts k id i me may.rules slots (λ _. n) (λ _. moved (λ _ v. noted_history v (member_of a u) (node_of n)) me n) (λ s h same _.
      let f = seat_at s.views in
      let w = words_at k.layout s.words in
      let can : MayCutHistory (f 0) a u x b t (node_of n) = subst (λ (z : Sight). MayCutHistory z a u x b t (node_of n)) (sym same) may in
      let y = noted_history (f 0) (member_of a u) (node_of n) in (
        y,
        record w { history = update w.history (member_of a u) (node_of n) },
        _,
        ap (λ (j : ℕ). words_at k.layout (set s.words j n)) (ei ∙ ap (address k.layout) (sym (numbers_tell.histories a u))) ∙ (writes_update k.layout s.words n h.size_is).history (member_of a u) (inside u),
        in_owned f 0 y refl refl refl refl refl,
        by_step k id i me may.rules s h _ _ (ByCutHistory (can.rests, a, can.from_first, can.from_second, x, b, can.died, can.first, can.second, u, t, node_of n, can.word, can.dead, can.next, can.some_, can.drained, can.from, can.stood, can.placed, can.fair, can.at, refl)),
        (refl, ap (λ (z : Sight). noted_history z (member_of a u) (node_of n)) same),
      ))
    where
      inside : (u : Bool) → member_of a u < 2 * k.layout.pool
      inside true = omega arith
      inside false = omega arith

  pub frees : (blocks : List ℕ) → MayFree me.0 blocks → (slots : ℕ) → Allows (Holds k) slots id me i (λ n. n) (moved (λ n v. freed v blocks) me)
  frees blocks may slots = owner_acts k id i me may.rules slots (λ n. n) (moved (λ n v. freed v blocks) me) (λ s h same _.
      let f = seat_at s.views in
      let can : MayFree (f 0) blocks = subst (λ (z : Sight). MayFree z blocks) (sym same) may in
      let u = freed (f 0) blocks in (
        u,
        words_at k.layout s.words,
        _,
        kept_words k id i me may.rules s,
        in_ruling f u refl refl refl refl refl,
        by_step k id i me may.rules s h _ _ (ByFreeStep (
          can.rests,
          listed blocks,
          u.ruling.hand,
          u.ruling.rolled_back,
          u.ruling.kept,
          u.ruling.placed,
          (λ c e. can.each c (listed_has blocks c e)),
          (λ c. ((λ e. ⊎_elim (λ q. inr (has_listed blocks c q)) inl (entry_of_both blocks (f 0).ruling.hand c e)), ⊎_elim (λ e. entry_right blocks (f 0).ruling.hand c e) (λ e. entry_left blocks (f 0).ruling.hand c (listed_has blocks c e)))),
          (λ c. (others_back (λ z. z) blocks (f 0).ruling.rolled_back c, others_on (λ z. z) blocks (f 0).ruling.rolled_back c)),
          (λ c. (others_back (λ z. z) blocks (f 0).ruling.kept c, others_on (λ z. z) blocks (f 0).ruling.kept c)),
          (λ c. (others_back (λ (a : ℕ × ℕ × ℕ). a.0) blocks (f 0).ruling.placed c, others_on (λ (a : ℕ × ℕ × ℕ). a.0) blocks (f 0).ruling.placed c)),
          refl,
        )),
        (refl, ap (λ (z : Sight). freed z blocks) same),
      ))

  pub zeroes : (b : ℕ) → i ≡ address k.layout (OfBlock b Born) → b < k.layout.pool → MayZero me.0 b → (slots : ℕ) → Allows (Holds k) slots id me i (λ _. 0) (λ _. moved (λ _ v. noted_born v b 0) me 0)
  zeroes b ei room may slots = owner_acts k id i me may.rules slots (λ _. 0) (λ _. moved (λ _ v. noted_born v b 0) me 0) (λ s h same _.
      let f = seat_at s.views in
      let w = words_at k.layout s.words in
      let can : MayZero (f 0) b = subst (λ (z : Sight). MayZero z b) (sym same) may in
      let u = noted_born (f 0) b 0 in (
        u,
        record w { born = update w.born b 0 },
        _,
        ap (λ (j : ℕ). words_at k.layout (set s.words j 0)) ei ∙ (writes_update k.layout s.words 0 h.size_is).born b room,
        in_owned f 0 u refl refl refl refl refl,
        by_step k id i me may.rules s h _ _ (ByZeroStep (can.rests, b, can.held, refl)),
        (refl, ap (λ (z : Sight). noted_born z b 0) same),
      ))

  pub stops : (drawn rows : ℕ) → i ≡ 3 → MayStop me.0 drawn rows → (slots : ℕ) → Allows (Holds k) slots id me i (λ _. 0) (λ _. moved (λ _ v. stopped v drawn rows) me 0)
  stops drawn rows ei may slots = owner_acts k id i me may.rules slots (λ _. 0) (λ _. moved (λ _ v. stopped v drawn rows) me 0) (λ s h same _.
      let f = seat_at s.views in
      let w = words_at k.layout s.words in
      let can : MayStop (f 0) drawn rows = subst (λ (z : Sight). MayStop z drawn rows) (sym same) may in
      let u = stopped (f 0) drawn rows in (
        u,
        record w { free = 0 },
        _,
        ap (λ (j : ℕ). words_at k.layout (set s.words j 0)) ei ∙ (writes_update k.layout s.words 0 h.size_is).free,
        in_ruling f u refl refl refl refl refl,
        by_step k id i me may.rules s h _ _ (ByStopStep (can.rests, rows, drawn, can.free, can.cursor, can.none, refl)),
        (refl, ap (λ (z : Sight). stopped z drawn rows) same),
      ))

  pub rewinds : i ≡ 2 → MayRewind me.0 → (slots : ℕ) → Allows (Holds k) slots id me i (λ _. 0) (λ _. moved (λ _ v. rewound v) me 0)
  rewinds ei may slots = owner_acts k id i me may.rules slots (λ _. 0) (λ _. moved (λ _ v. rewound v) me 0) (λ s h same _.
      let f = seat_at s.views in
      let w = words_at k.layout s.words in
      let can : MayRewind (f 0) = subst (λ (z : Sight). MayRewind z) (sym same) may in
      let u = rewound (f 0) in (
        u,
        record w { cursor = 0 },
        _,
        ap (λ (j : ℕ). words_at k.layout (set s.words j 0)) ei ∙ (writes_update k.layout s.words 0 h.size_is).cursor,
        in_ruling f u refl refl refl refl refl,
        by_step k id i me may.rules s h _ _ (ByRewindStep (can.rests, can.shut, refl)),
        (refl, ap (λ (z : Sight). rewound z) same),
      ))

  pub lays : (a b n : ℕ) → n ≡ b → i ≡ address k.layout (Row a) → a < k.layout.pool → MayLay me.0 a → (slots : ℕ) → Allows (Holds k) slots id me i (λ _. n) (λ _. moved (λ _ v. noted_row v a b) me n)
  lays a b n en ei room may slots = owner_acts k id i me may.rules slots (λ _. n) (λ _. moved (λ _ v. noted_row v a b) me n) (λ s h same _.
      let f = seat_at s.views in
      let w = words_at k.layout s.words in
      let can : MayLay (f 0) a = subst (λ (z : Sight). MayLay z a) (sym same) may in
      let u = noted_row (f 0) a b in (
        u,
        record w { row = update w.row a b },
        _,
        ap (λ (j : ℕ). words_at k.layout (set s.words j n)) ei ∙ (writes_update k.layout s.words n h.size_is).row a room ∙ (λ t. record w { row = update w.row a (en t) }),
        in_owned f 0 u refl refl refl refl refl,
        by_step k id i me may.rules s h _ _ (ByRowStep (can.rests, a, b, can.shut, can.other, refl)),
        (refl, ap (λ (z : Sight). noted_row z a b) same),
      ))

  pub opens : (rows n : ℕ) → n ≡ rows → i ≡ 3 → MayOpen me.0 rows → (slots : ℕ) → Allows (Holds k) slots id me i (λ _. n) (λ _. moved (λ _ v. opened v rows) me n)
  opens rows n en ei may slots = owner_acts k id i me may.rules slots (λ _. n) (λ _. moved (λ _ v. opened v rows) me n) (λ s h same _.
      let f = seat_at s.views in
      let w = words_at k.layout s.words in
      let can : MayOpen (f 0) rows = subst (λ (z : Sight). MayOpen z rows) (sym same) may in
      let u = opened (f 0) rows in (
        u,
        record w { free = rows },
        _,
        ap (λ (j : ℕ). words_at k.layout (set s.words j n)) ei ∙ (writes_update k.layout s.words n h.size_is).free ∙ (λ t. record w { free = en t }),
        in_ruling f u refl refl refl refl refl,
        by_step k id i me may.rules s h _ _ (ByOpenStep (can.rests, rows, [], can.shut, can.begun, can.below, can.rows, can.once, (λ b. ((λ e. absurd e), λ e. inr (can.all b e))), refl)),
        (refl, ap (λ (z : Sight). opened z rows) same),
      ))
