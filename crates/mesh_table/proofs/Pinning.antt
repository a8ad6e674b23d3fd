-- A reader's pins.
use Rattle.std.proofs.Common.{◌≡◌, ℕ, ◌+◌, ◌/◌, ◌%◌, ◌^◌, ◌<◌, ◌≤◌, ◌==◌, ◌⊎◌, ltb, cond, Bool, true, false, length, get_or, set, refl, sym, ap, ◌∙◌, subst, arith, inl, inr, ltb-true, eq-eqb, ne_eqb}
use mathlib.Core.Logic.{dite}
use native.Mathlib.Decide.{ℕ_discrete}
use lib.Seq.{set-get_or}
use prog.Atomic.{either}
use Rattle.atomic_table.specs.Table.{Allows}
use Rattle.table_words.specs.Functions.{update}
use Rattle.table_words.specs.Layout.{Released, address}
use Rattle.table_words.specs.Views.{Reader}
use Rattle.table_words.specs.Words.{words_at}
use Rattle.table_words.proofs.Writes.{writes_update}
use Rattle.table_steps.specs.Steps.{ByLoadRound, ByPinStep, ByUnpinStep}
use Rattle.mesh_table.specs.declared.rule.Site.{Site}
use Rattle.mesh_table.specs.Sights.{Sight, seat_at}
use Rattle.mesh_table.specs.Holds.{Holds, Sat}
use Rattle.mesh_table.specs.Told.{Ask, MayPin, moved, seen_round, pinned, unpinned, pin_told, exchange_told}
use Rattle.mesh_table.proofs.Bridge.{St, after, stepped, unmoved, allows, in_read, contents_at}

module _ (k : Site) (id i : ℕ) (me : Sat) where
  pub looks_round : i ≡ 1 → me.0.kind ≡ Reader → (slots : ℕ) → Allows (Holds k) slots id me i (λ n. n) (moved (λ n v. seen_round v n) me)
  looks_round ei kind slots = allows k slots id i (λ n. n) me (moved (λ n v. seen_round v n) me) (λ s h l same _.
      let f = seat_at s.views in
      let w = words_at k.layout s.words in
      let n = get_or s.words i 0 in
      let here : get_or s.words 1 0 ≡ n = ap (λ (j : ℕ). get_or s.words j 0) (sym ei) in
      let round : w.round ≡ n / 4294967296 = ap (λ (a : ℕ). a / 4294967296) here in
      let taken : w.taken ≡ n % 4294967296 = ap (λ (a : ℕ). a % 4294967296) here in
      let ready : Bool = ltb (n % 4294967296) 1048576 in
      let u : Sight = record (f id) { read = record (f id).read { ready = ready; seen = w.round } } in (
        u,
        stepped k s h i n id u w _ l (ap (words_at k.layout) (set-get_or s.words i 0)) (in_read f id u refl refl refl refl refl)
            (ByLoadRound (id, ap (λ (a : Sight). a.kind) same ∙ kind, ready, how (n % 4294967296) w.taken taken (ltb (n % 4294967296) 1048576) refl, refl)),
        (refl, λ t. record (same t) { read = record (same t).read { ready = ready; seen = round t } }),
      ))
    where
      how : (a b : ℕ) → b ≡ a → (t : Bool) → ltb a 1048576 ≡ t → ((ltb a 1048576 ≡ true) × (b < 1048576)) ⊎ (ltb a 1048576 ≡ false)
      how a b e true h = let x = ltb-true a 1048576 h in inl (h, omega arith)
      how a b e false h = inr h

  module _ (ei : i ≡ 1) (may : MayPin me.0) (few : k.passes ≤ 1024) where
    -- the step of a pin, where the word becomes m
    pin : (s : St k) (h : Holds k s) → id < length s.views → seat_at s.views id ≡ me.0 → get_or s.words i 0 < 18446744073709551616 → (m : ℕ) → ((get_or s.words i 0 + 1) % 2 ^ 64 ≡ m)
        → Holds k (after k s i m id (pinned (seat_at s.views id) (words_at k.layout s.words).round)) × (pinned (seat_at s.views id) (words_at k.layout s.words).round ≡ pinned me.0 (get_or s.words i 0 / 4294967296)) × (get_or s.words i 0 / 4294967296 ≤ k.layout.rounds)
    pin s h l same small m em =
        let f = seat_at s.views in
        let w = words_at k.layout s.words in
        let n = get_or s.words i 0 in
        let here : get_or s.words 1 0 ≡ n = ap (λ (j : ℕ). get_or s.words j 0) (sym ei) in
        let round : w.round ≡ n / 4294967296 = ap (λ (a : ℕ). a / 4294967296) here in
        let taken : w.taken ≡ n % 4294967296 = ap (λ (a : ℕ). a % 4294967296) here in
        let can : MayPin (f id) = subst MayPin (sym same) may in
        let r = h.lawful.1 in
        let low = r.pins.bound in
        let one : m ≡ n + 1 = omega arith in
        let round' : m / 4294967296 ≡ w.round = omega arith in
        let taken' : m % 4294967296 ≡ w.taken + 1 = omega arith in
        let u = pinned (f id) w.round in
        let rounds = r.crew.rounds.0 in (
          stepped k s h i m id u (record w { taken = w.taken + 1 }) _ l
              (ap (λ (j : ℕ). words_at k.layout (set s.words j m)) ei ∙ (writes_update k.layout s.words m h.size_is).round ∙ (λ t. record w { round = round' t; taken = taken' t }))
              (in_read f id u refl refl refl refl refl)
              (ByPinStep (id, can.0, can.1, can.2, refl)),
          (λ t. pinned (same t) (round t)),
          omega arith,
        )

    pub pins : (q : Ask) → q.value ≡ k.layout.rounds → (slots : ℕ) → Allows (Holds k) slots id me i (λ n. (n + 1) % 2 ^ 64) (pin_told q me)
    pins q eq slots = allows k slots id i (λ n. (n + 1) % 2 ^ 64) me (pin_told q me) (λ s h l same small.
        let p = pin s h l same small ((get_or s.words i 0 + 1) % 2 ^ 64) refl in let p2 = p.2 in
        (pinned (seat_at s.views id) (words_at k.layout s.words).round, p.0, (refl, p.1, omega arith)))

    pub exchanges : (q : Ask) (old new : ℕ) → q.block ≡ old → q.value ≡ k.layout.rounds → (old + 1) % 2 ^ 64 ≡ new → (slots : ℕ) → Allows (Holds k) slots id me i (λ n. either (n == old) new n) (exchange_told q me)
    exchanges q old new eo eq next slots = allows k slots id i (λ n. either (n == old) new n) me (exchange_told q me) (λ s h l same small. dite (ℕ_discrete (get_or s.words i 0) old)
        (λ e. let m : either (get_or s.words i 0 == old) new (get_or s.words i 0) ≡ new = ap (λ (b : Bool). either b new (get_or s.words i 0)) (eq-eqb (get_or s.words i 0) old e) in
        let to : (get_or s.words i 0 + 1) % 2 ^ 64 ≡ either (get_or s.words i 0 == old) new (get_or s.words i 0) = ap (λ (x : ℕ). (x + 1) % 2 ^ 64) e ∙ next ∙ sym m in
        let p = pin s h l same small (either (get_or s.words i 0 == old) new (get_or s.words i 0)) to in let p2 = p.2 in
        (pinned (seat_at s.views id) (words_at k.layout s.words).round, p.0, (refl, (λ _. (p.1, omega arith)), λ o. absurd (o (e ∙ sym eo)))))
        (λ o. let m : either (get_or s.words i 0 == old) new (get_or s.words i 0) ≡ get_or s.words i 0 = ap (λ (b : Bool). either b new (get_or s.words i 0)) (ne_eqb (get_or s.words i 0) old o) in
        (me.0, unmoved k s h i (either (get_or s.words i 0 == old) new (get_or s.words i 0)) id me.0 l m (sym same), (refl, (λ e. absurd (o (e ∙ eo))), λ _. refl))))

  pub unpins : (q : ℕ) → i ≡ address k.layout (Released q) → q ≤ k.layout.rounds → me.0.kind ≡ Reader → me.0.read.pin ≡ q + 1 → k.passes ≤ 1024 → (slots : ℕ) → Allows (Holds k) slots id me i (λ n. (n + 1) % 2 ^ 64) (moved (λ n v. unpinned v) me)
  unpins q ei room kind has few slots = allows k slots id i (λ n. (n + 1) % 2 ^ 64) me (moved (λ n v. unpinned v) me) (λ s h l same _.
      let f = seat_at s.views in
      let w = words_at k.layout s.words in
      let n = get_or s.words i 0 in
      let r = h.lawful.1 in
      let here : w.released q ≡ n = contents_at k.layout s.words (k.layout.rounds + 1) Released q (omega arith) ∙ ap (λ (j : ℕ). get_or s.words j 0) (sym ei) in
      let count = r.pins.count q in
      let most = r.pins.most q in
      let next : (n + 1) % 2 ^ 64 ≡ w.released q + 1 = omega arith in
      let u = unpinned (f id) in (
        u,
        stepped k s h i ((n + 1) % 2 ^ 64) id u (record w { released = update w.released q (w.released q + 1) }) _ l
            (ap (λ (j : ℕ). words_at k.layout (set s.words j ((n + 1) % 2 ^ 64))) ei ∙ (writes_update k.layout s.words ((n + 1) % 2 ^ 64) h.size_is).released q room ∙ (λ t. record w { released = update w.released q (next t) }))
            (in_read f id u refl refl refl refl refl)
            (ByUnpinStep (id, q, ap (λ (a : Sight). a.kind) same ∙ kind, ap (λ (a : Sight). a.read.pin) same ∙ has, refl)),
        (refl, ap unpinned same),
      ))
