-- Claims end, and a refused round is rolled back.
use Rattle.std.proofs.Common.{◌≡◌, ℕ, ◌+◌, ◌*◌, ◌/◌, ◌%◌, ◌<◌, false, inl, ⊎_elim, set, refl, sym, ap, ◌∙◌, subst, arith, Some}
use Rattle.atomic_table.specs.Table.{Allows}
use Rattle.table_words.specs.Claims.{Claimed, Failed, Whole, Living}
use Rattle.table_words.specs.Functions.{update}
use Rattle.table_words.specs.Layout.{OfBlock, Born, Died, LinkOf, address}
use Rattle.table_words.specs.Links.{link_word}
use Rattle.table_words.specs.Places.{place_at, place_count}
use Rattle.table_words.specs.Words.{node, node_of, words_at}
use Rattle.table_words.proofs.Writes.{writes_update}
use Rattle.table_state.specs.Claims.{bit_of, block_of}
use Rattle.table_steps.specs.Steps.{ByUnclaimStep, ByUnbearStep, ByUnlinkSecond, ByUnlinkFirst, ByBuryStep, ByUndrawStep}
use Rattle.mesh_table.specs.declared.rule.Site.{Site}
use Rattle.mesh_table.specs.Sights.{Sight, seat_at, views_of}
use Rattle.mesh_table.specs.Holds.{Holds, Sat}
use Rattle.mesh_table.specs.Rounds.{MayUnclaim, unclaimed, MayDrop, dropped, MayUnbear, unborn, MayUnlinkSecond, unlinked_second, MayUnlinkFirst, unlinked_first, MayBury, MayUndraw, undrawn}
use Rattle.mesh_table.specs.Told.{moved, noted_died}
use Rattle.mesh_table.proofs.Bridge.{in_claims_owned, in_owned}
use Rattle.mesh_table.proofs.Claiming.{set_link, update_again}
use Rattle.mesh_table.proofs.Linking.{named}
use Rattle.mesh_table.proofs.Owning.{owner_acts, by_step, in_claims_ruling, in_claims_owned_ruling}
use Rattle.table_words.specs.Views.{FirstHalf, SecondHalf, Closing, Precedes, order}

pub even : (n : ℕ) → (n / 2 * 2 % 2 ≡ 0) × (node_of (n / 2 * 2) ≡ node_of n)
even n =
    let a : n / 2 * 2 / 2 % 2097152 ≡ n / 2 % 2097152 = omega arith in
    let b : n / 2 * 2 / 4194304 % 65536 ≡ n / 4194304 % 65536 = omega arith in
    (omega arith, λ t. node (a t) (b t))

living_one : (b c : ℕ) → Living c ≡ Living b → c ≡ b
living_one b c e = let d : c + 1 ≡ b + 1 = ap block_of e in omega arith

module _ (k : Site) (id i x : ℕ) (me : Sat) where
  pub unclaims : (m b n : ℕ) → i ≡ address k.layout (LinkOf (place_at k.layout x)) → x < place_count k.layout → b + 1 < 2097152 → MayUnclaim me.0 x m b → n ≡ link_word record { claimed = false; block = Some b; died = 0 } → (slots : ℕ)
      → Allows (Holds k) slots id me i (λ _. n) (λ _. moved (λ _ v. unclaimed v x m b) me n)
  unclaims m b n ei room small may spelled slots = owner_acts k id i me may.rules slots (λ _. n) (λ _. moved (λ _ v. unclaimed v x m b) me n) (λ s h same _.
      let f = seat_at s.views in
      let w = words_at k.layout s.words in
      let r = h.lawful.1 in
      let can : MayUnclaim (f 0) x m b = subst (λ (y : Sight). MayUnclaim y x m b) (sym same) may in
      let parts = named b 0 n small (omega arith) (omega arith) in
      let shape = r.claims.shape x 0 m (Living b) (r.claims.held 0 x m (Living b) can.claim_is) in
      let u = unclaimed (f 0) x m b in
      let phase = can.closed in (
        u,
        record w { claimed = update w.claimed x 0 },
        _,
        set_link k s h i x ei room n ∙ (λ t. record w { claimed = update w.claimed x (parts.0 t); head = update_again w.head x (node_of n) (parts.1 ∙ sym shape.2) t }),
        in_claims_ruling f u refl refl refl refl,
        by_step k id i me may.rules s h _ _ (ByUnclaimStep (((λ (e : (f 0).ruling.phase ≡ FirstHalf). cc), λ (e : (f 0).ruling.phase ≡ SecondHalf). cc), (λ (e : Precedes (f 0).ruling.phase Closing). omega (arith, ap order phase)), x, m, Living b, can.claim_is, (λ c e. let d : b + 1 ≡ c + 1 = e in ap Living (let q : b ≡ c = omega arith in q)), (λ c e not. not can.closed), refl)),
        (refl, ap (λ (y : Sight). unclaimed y x m b) same),
      ))

  pub unlinks_second : (y b word n : ℕ) → i ≡ address k.layout (LinkOf (place_at k.layout y)) → y < place_count k.layout → MayUnlinkSecond me.0 x y b (node_of word) → n ≡ word / 2 * 2 → (slots : ℕ)
      → Allows (Holds k) slots id me i (λ _. n) (λ _. moved (λ _ v. unlinked_second v x y b (node_of word)) me n)
  unlinks_second y b word n ei room may spelled slots = owner_acts k id i me may.rules slots (λ _. n) (λ _. moved (λ _ v. unlinked_second v x y b (node_of word)) me n) (λ s h same _.
      let f = seat_at s.views in
      let w = words_at k.layout s.words in
      let r = h.lawful.1 in
      let can : MayUnlinkSecond (f 0) x y b (node_of word) = subst (λ (z : Sight). MayUnlinkSecond z x y b (node_of word)) (sym same) may in
      let e = even word in
      let none : n % 2 ≡ 0 = ap (λ (q : ℕ). q % 2) spelled ∙ e.0 in
      let to : node_of n ≡ node_of word = ap node_of spelled ∙ e.1 in
      let bit : w.claimed y ≡ 0 = r.claims.bits y ∙ ap bit_of (r.claims.mates x 0 y (Whole b) (r.claims.held 0 x (y + 1) (Whole b) can.claim_is)).0 in
      let u = unlinked_second (f 0) x y b (node_of word) in (
        u,
        record w { head = update w.head y (node_of word) },
        _,
        set_link k s h i y ei room n ∙ (λ t. record w { claimed = update_again w.claimed y (n % 2) (none ∙ sym bit) t; head = update w.head y (to t) }),
        in_claims_owned f 0 u refl refl refl refl,
        by_step k id i me may.rules s h _ _ (ByUnlinkSecond (can.back, x, y, b, node_of word, can.claim_is, can.old, refl)),
        (refl, ap (λ (z : Sight). unlinked_second z x y b (node_of word)) same),
      ))

  pub unlinks_first : (m b word n : ℕ) → i ≡ address k.layout (LinkOf (place_at k.layout x)) → x < place_count k.layout → MayUnlinkFirst me.0 x m b (node_of word) → n ≡ word / 2 * 2 → (slots : ℕ)
      → Allows (Holds k) slots id me i (λ _. n) (λ _. moved (λ _ v. unlinked_first v x m b (node_of word)) me n)
  unlinks_first m b word n ei room may spelled slots = owner_acts k id i me may.rules slots (λ _. n) (λ _. moved (λ _ v. unlinked_first v x m b (node_of word)) me n) (λ s h same _.
      let f = seat_at s.views in
      let w = words_at k.layout s.words in
      let can : MayUnlinkFirst (f 0) x m b (node_of word) = subst (λ (z : Sight). MayUnlinkFirst z x m b (node_of word)) (sym same) may in
      let e = even word in
      let none : n % 2 ≡ 0 = ap (λ (q : ℕ). q % 2) spelled ∙ e.0 in
      let to : node_of n ≡ node_of word = ap node_of spelled ∙ e.1 in
      let u = unlinked_first (f 0) x m b (node_of word) in (
        u,
        record w { head = update w.head x (node_of word); claimed = update w.claimed x 0 },
        _,
        set_link k s h i x ei room n ∙ (λ t. record w { claimed = update w.claimed x (none t); head = update w.head x (to t) }),
        in_claims_owned_ruling f u refl refl refl,
        by_step k id i me may.rules s h _ _ (ByUnlinkFirst (can.back, x, m, b, node_of word, can.progress, can.claim_is, can.far, can.old, refl)),
        (refl, ap (λ (z : Sight). unlinked_first z x m b (node_of word)) same),
      ))

  pub drops : (word n : ℕ) → i ≡ address k.layout (LinkOf (place_at k.layout x)) → x < place_count k.layout → MayDrop me.0 x (node_of word) → n ≡ word / 2 * 2 → (slots : ℕ) → Allows (Holds k) slots id me i (λ _. n) (λ _. moved (λ _ v. dropped v x) me n)
  drops word n ei room may spelled slots = owner_acts k id i me may.rules slots (λ _. n) (λ _. moved (λ _ v. dropped v x) me n) (λ s h same _.
      let f = seat_at s.views in
      let w = words_at k.layout s.words in
      let r = h.lawful.1 in
      let can : MayDrop (f 0) x (node_of word) = subst (λ (z : Sight). MayDrop z x (node_of word)) (sym same) may in
      let e = even word in
      let none : n % 2 ≡ 0 = ap (λ (q : ℕ). q % 2) spelled ∙ e.0 in
      let phase = can.back in
      let home = r.rules.halves (λ (z : (f 0).ruling.phase ≡ FirstHalf). cc) (λ (z : (f 0).ruling.phase ≡ SecondHalf). cc) in
      let is : w.head x ≡ node_of word = (r.owned 0).head_is x (node_of word) can.head (inl (refl, home)) in
      let to : node_of n ≡ w.head x = ap node_of spelled ∙ e.1 ∙ sym is in
      let u = dropped (f 0) x in
      let calm : ((f 0).ruling.phase ≡ FirstHalf → ⊥) × ((f 0).ruling.phase ≡ SecondHalf → ⊥) = ((λ (z : (f 0).ruling.phase ≡ FirstHalf). cc), λ (z : (f 0).ruling.phase ≡ SecondHalf). cc) in
      let late : Precedes (f 0).ruling.phase Closing → ⊥ = λ (z : Precedes (f 0).ruling.phase Closing). omega (arith, ap order phase) in (
        u,
        record w { claimed = update w.claimed x 0 },
        record (views_of f) { claims = update (views_of f).claims 0 u.claims; ruling = u.ruling },
        set_link k s h i x ei room n ∙ (λ t. record w { claimed = update w.claimed x (none t); head = update_again w.head x (node_of n) to t }),
        in_claims_ruling f u refl refl refl refl,
        ⊎_elim
            (λ c. by_step k id i me may.rules s h (record w { claimed = update w.claimed x 0 }) (record (views_of f) { claims = update (views_of f).claims 0 u.claims; ruling = u.ruling }) (ByUnclaimStep (calm, late, x, can.mate, Claimed, c, (λ b q. let z : 0 ≡ b + 1 = q in absurd (omega arith)), (λ b q. let z : 0 ≡ b + 1 = ap block_of q in absurd (omega arith)), refl)))
            (λ c. by_step k id i me may.rules s h (record w { claimed = update w.claimed x 0 }) (record (views_of f) { claims = update (views_of f).claims 0 u.claims; ruling = u.ruling }) (ByUnclaimStep (calm, late, x, can.mate, Failed, c, (λ b q. let z : 0 ≡ b + 1 = q in absurd (omega arith)), (λ b q. let z : 0 ≡ b + 1 = ap block_of q in absurd (omega arith)), refl))) can.claim_is,
        (refl, ap (λ (z : Sight). dropped z x) same),
      ))

  pub undraws : (b word n : ℕ) → i ≡ address k.layout (LinkOf (place_at k.layout x)) → x < place_count k.layout → MayUndraw me.0 x b (node_of word) → n ≡ word / 2 * 2 → (slots : ℕ) → Allows (Holds k) slots id me i (λ _. n) (λ _. moved (λ _ v. undrawn v x b) me n)
  undraws b word n ei room may spelled slots = owner_acts k id i me may.rules slots (λ _. n) (λ _. moved (λ _ v. undrawn v x b) me n) (λ s h same _.
      let f = seat_at s.views in
      let w = words_at k.layout s.words in
      let r = h.lawful.1 in
      let can : MayUndraw (f 0) x b (node_of word) = subst (λ (z : Sight). MayUndraw z x b (node_of word)) (sym same) may in
      let e = even word in
      let none : n % 2 ≡ 0 = ap (λ (q : ℕ). q % 2) spelled ∙ e.0 in
      let phase = can.back in
      let home = r.rules.halves (λ (z : (f 0).ruling.phase ≡ FirstHalf). cc) (λ (z : (f 0).ruling.phase ≡ SecondHalf). cc) in
      let is : w.head x ≡ node_of word = (r.owned 0).head_is x (node_of word) can.head (inl (refl, home)) in
      let to : node_of n ≡ w.head x = ap node_of spelled ∙ e.1 ∙ sym is in
      let u = undrawn (f 0) x b in (
        u,
        record w { claimed = update w.claimed x 0 },
        _,
        set_link k s h i x ei room n ∙ (λ t. record w { claimed = update w.claimed x (none t); head = update_again w.head x (node_of n) to t }),
        in_claims_ruling f u refl refl refl refl,
        by_step k id i me may.rules s h _ _ (ByUndrawStep (can.back, x, can.mate, b, can.claim_is, refl)),
        (refl, ap (λ (z : Sight). undrawn z x b) same),
      ))

  pub unbears : (b : ℕ) → i ≡ address k.layout (OfBlock b Born) → b < k.layout.pool → MayUnbear me.0 x b → (slots : ℕ) → Allows (Holds k) slots id me i (λ _. 0) (λ _. moved (λ _ v. unborn v x b) me 0)
  unbears b ei room may slots = owner_acts k id i me may.rules slots (λ _. 0) (λ _. moved (λ _ v. unborn v x b) me 0) (λ s h same _.
      let f = seat_at s.views in
      let w = words_at k.layout s.words in
      let can : MayUnbear (f 0) x b = subst (λ (z : Sight). MayUnbear z x b) (sym same) may in
      let u = unborn (f 0) x b in (
        u,
        record w { born = update w.born b 0 },
        _,
        ap (λ (j : ℕ). words_at k.layout (set s.words j 0)) ei ∙ (writes_update k.layout s.words 0 h.size_is).born b room,
        in_claims_owned f 0 u refl refl refl refl,
        by_step k id i me may.rules s h _ _ (ByUnbearStep (can.back, x, can.mate, b, can.claim_is, refl)),
        (refl, ap (λ (z : Sight). unborn z x b) same),
      ))

  pub buries : (b d n : ℕ) → n ≡ d → i ≡ address k.layout (OfBlock b Died) → b < k.layout.pool → me.0.ruling.finished + 1 ≡ d → MayBury me.0 b → (slots : ℕ) → Allows (Holds k) slots id me i (λ _. n) (λ _. moved (λ _ v. noted_died v b d) me n)
  buries b d n en ei room now may slots = owner_acts k id i me may.rules slots (λ _. n) (λ _. moved (λ _ v. noted_died v b d) me n) (λ s h same _.
      let f = seat_at s.views in
      let w = words_at k.layout s.words in
      let can : MayBury (f 0) b = subst (λ (z : Sight). MayBury z b) (sym same) may in
      let fin : (f 0).ruling.finished + 1 ≡ d = ap (λ (z : Sight). z.ruling.finished + 1) same ∙ now in
      let phase = can.back in
      let u = noted_died (f 0) b ((f 0).ruling.finished + 1) in (
        u,
        record w { died = update w.died b ((f 0).ruling.finished + 1) },
        _,
        ap (λ (j : ℕ). words_at k.layout (set s.words j n)) ei ∙ (writes_update k.layout s.words n h.size_is).died b room ∙ (λ t. record w { died = update w.died b ((en ∙ sym fin) t) }),
        in_owned f 0 u refl refl refl refl refl,
        by_step k id i me may.rules s h _ _ (ByBuryStep (((λ (z : (f 0).ruling.phase ≡ FirstHalf). cc), λ (z : (f 0).ruling.phase ≡ SecondHalf). cc), b, can.rolled_back, refl)),
        (refl, λ t. noted_died (same t) b (fin t)),
      ))
