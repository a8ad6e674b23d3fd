-- Walks, passes and claims go on.
use Rattle.std.proofs.Common.{◌≡◌, ℕ, zero, suc, ◌+◌, ◌<◌, ◌≤◌, Bool, true, false, List, [], ◌∷◌, ◌++◌, ◌⊎◌, refl, sym, ap, ◌∙◌, subst, inl, inr, ⊎_elim, arith}
use mathlib.Core.Logic.{dite}
use native.Mathlib.Decide.{ℕ_discrete, dec_lt}
use Rattle.table_words.specs.Setup.{Setup, setup_of}
use Rattle.table_words.specs.Claims.{Progress, Claimed, Failed, Drawn, Half, Whole, Living, Claim, claim, ended}
use Rattle.table_words.specs.Entries.{HasEntry, Noted}
use Rattle.table_words.specs.Functions.{update}
use Rattle.table_words.specs.Places.{member_of, child_place}
use Rattle.table_words.specs.Words.{Node, Words}
use Rattle.table_words.specs.Views.{Views, Work, Read, Plan, Still, At, Past, unread, owns_nothing, Worker, Reader, is_reader, FirstHalf, SecondHalf, Closing, Kind, Vacant, Owner, order}
use Rattle.table_words.specs.Sums.{one_where}
use Rattle.table_words.proofs.Functions.{update_same, update_at, update_other}
use Rattle.table_words.proofs.Entries.{entry_right}
use Rattle.table_words.proofs.Sums.{summand, one_if}
use Rattle.table_state.specs.Ghosts.{Placed, stands}
use Rattle.table_state.specs.Claims.{block_of}
use Rattle.table_state.proofs.Across.{some_worker, half_of}
use Rattle.table_state.proofs.HeldClaims.{moved_on_here, ended_has}
use Rattle.table_steps.specs.States.{State}
use Rattle.table_steps.specs.Steps.{ByClaimStep, ByDrawStep, ByFullStep, ByLinkFirst, ByPublishStep, ByWorkEnds, ByWorkGoes, ByWorkFinds, ByWorkHad, ByWorkPasses, ByLoadRound, ByPinStep, ByUnpinStep, ByReadEnds, ByReadGoes, ByReadFinds, ByReadPasses, BySplitStep, ByJoinWorker, ByJoinReader, ByUnclaimStep, ByUndrawStep, ByUnlinkFirst, ByUnlinkSecond, ByUnbearStep}
use Rattle.table_steps.specs.Onward.{Onward, HasChildren, IsEnded, WorkersGoOn, ReadersGoOn, PinsGoOn, ReadyBelow, PinsFit, PassesMade, PassesJoined, ClaimsGoOn, SinglesGoOn, ClaimsGoBack}
use Rattle.table_steps.specs.WalkSteps.{WorkNext, ReadNext}
use Rattle.table_steps.proofs.StepsKeep.{next_named}
use Rattle.table_state.specs.Owner.{is_early}
use Rattle.table_state.proofs.Known.{early_one}
use Rattle.mesh_names.specs.Names.{digit}
use Rattle.table_words.proofs.SeatKinds.{reader_is}

-- a fact of the new value of the function
pub here : {A : Type 0} (P : A → Type 0) (f : ℕ → A) (j : ℕ) (a : A) → P a → P (update f j a j)
here P f j a p = subst P (sym (update_same f j a)) p

children : (s : Setup) (xs : List (ℕ × ℕ)) (k c : ℕ) (t : Bool) → HasChildren s ((child_place s.elements c t false, s.child k false) ∷ (child_place s.elements c t true, s.child k true) ∷ xs) k c t
children s xs k c t false = inl refl
children s xs k c t true = inr (inl refl)

-- a word names nothing, or a block
none_or_block : (l : Node) → (l.block ≡ 0) ⊎ ((b : ℕ) × (l.block ≡ b + 1))
none_or_block l = by l.block refl
  where
    by : (i : ℕ) → l.block ≡ i → (l.block ≡ 0) ⊎ ((b : ℕ) × (l.block ≡ b + 1))
    by zero e = inl e
    by (suc b) e = inr (b, omega arith)

module _ (s : Setup) (w : Words) (n : ℕ) (v : Views) where
  module _ (j : ℕ) (kind : v.kind j ≡ Worker) where
    ends : (x k : ℕ) (l : Node) → WorkNext s w (v.work j) x k l → (l.block ≡ 0) ⊎ ((0 < l.died) × (l.died < (v.work j).round)) → Onward s w n v (λ b. ((b.views.work j).walk ≡ Still) × HasEntry (b.views.work j).absent k)
    ends x k l next how = (_, ByWorkEnds (j, kind, x, k, l, next, how, refl), here (λ (u : Work). (u.walk ≡ Still) × HasEntry u.absent k) v.work j _ (refl, inl refl))

    goes : (x k : ℕ) (l : Node) → WorkNext s w (v.work j) x k l → (c : ℕ) → l.block ≡ c + 1 → (l.died ≡ 0) ⊎ ((v.work j).round ≤ l.died) → (t : Bool) → w.name (member_of c t) ≡ k → (d : ℕ) × (u : Bool) × (l.block ≡ d + 1) × Onward s w n v (λ b. (b.views.work j).walk ≡ At x k d u)
    goes x k l next c is how t named = (c, t, is, (_, ByWorkGoes (j, kind, x, k, c, l, next, is, how, t, named, refl), here (λ (u : Work). u.walk ≡ At x k c t) v.work j _ refl))

    passes : (x k c : ℕ) (t : Bool) → (v.work j).walk ≡ At x k c t → (w.born c ≡ 0) ⊎ ((v.work j).round ≤ w.born c) → Onward s w n v (λ b. (b.views.work j).walk ≡ Past x k c t)
    passes x k c t at how = (_, ByWorkPasses (j, kind, x, k, c, t, at, how, _, inl refl, refl), here (λ (u : Work). u.walk ≡ Past x k c t) v.work j _ refl)

    finds : (x k c : ℕ) (t : Bool) → (v.work j).walk ≡ At x k c t → (v.work j).half ≡ FirstHalf → 0 < w.born c → Onward s w n v (λ b. ((b.views.work j).walk ≡ Still) × HasEntry (b.views.work j).known k × HasChildren s (b.views.work j).found k c t)
    finds x k c t at one born = (_, ByWorkFinds (j, kind, one, x, k, c, t, at, born, refl), here (λ (u : Work). (u.walk ≡ Still) × HasEntry u.known k × HasChildren s u.found k c t) v.work j _ (refl, inl refl, children s (v.work j).found k c t))

    had : (x k c : ℕ) (t : Bool) → (v.work j).walk ≡ At x k c t → (v.work j).half ≡ SecondHalf → 0 < w.born c → w.born c < (v.work j).round → Onward s w n v (λ b. ((b.views.work j).walk ≡ Still) × HasEntry (b.views.work j).had (c, k) × HasChildren s (b.views.work j).stood k c t)
    had x k c t at two born early = (_, ByWorkHad (j, kind, x, k, c, t, at, two, born, early, refl), here (λ (u : Work). (u.walk ≡ Still) × HasEntry u.had (c, k) × HasChildren s u.stood k c t) v.work j _ (refl, inl refl, children s (v.work j).stood k c t))

  module _ (j q : ℕ) (kind : v.kind j ≡ Reader) (pin : (v.read j).pin ≡ q + 1) where
    read_ends : (x k : ℕ) (l : Node) → ReadNext s w (v.read j) x k l → (l.block ≡ 0) ⊎ ((0 < l.died) × (l.died ≤ q)) → Onward s w n v (λ b. ((b.views.read j).walk ≡ Still) × HasEntry (b.views.read j).notes record { round = q; name = k; bisected = false })
    read_ends x k l next how = (_, ByReadEnds (j, q, kind, pin, x, k, l, next, how, refl), here (λ (u : Read). (u.walk ≡ Still) × HasEntry u.notes record { round = q; name = k; bisected = false }) v.read j _ (refl, inl refl))

    read_goes : (x k : ℕ) (l : Node) → ReadNext s w (v.read j) x k l → (c : ℕ) → l.block ≡ c + 1 → (l.died ≡ 0) ⊎ (q < l.died) → (t : Bool) → w.name (member_of c t) ≡ k → (d : ℕ) × (u : Bool) × (l.block ≡ d + 1) × Onward s w n v (λ b. ((b.views.read j).walk ≡ At x k d u) × ((b.views.read j).back ≡ l.died))
    read_goes x k l next c is how t named = (c, t, is, (_, ByReadGoes (j, q, kind, pin, x, k, c, l, next, is, how, t, named, refl), here (λ (u : Read). (u.walk ≡ At x k c t) × (u.back ≡ l.died)) v.read j _ (refl, refl)))

    read_passes : (x k c : ℕ) (t : Bool) → (v.read j).walk ≡ At x k c t → (w.born c ≡ 0) ⊎ (q < w.born c) → Onward s w n v (λ b. ((b.views.read j).walk ≡ Past x k c t) × ((b.views.read j).back ≡ (v.read j).back))
    read_passes x k c t at how = (_, ByReadPasses (j, q, kind, pin, x, k, c, t, at, how, refl), here (λ (u : Read). (u.walk ≡ Past x k c t) × (u.back ≡ (v.read j).back)) v.read j _ (refl, refl))

    read_finds : (x k c : ℕ) (t : Bool) → (v.read j).walk ≡ At x k c t → 0 < w.born c → w.born c ≤ q → Onward s w n v (λ b. ((b.views.read j).walk ≡ Still) × HasEntry (b.views.read j).notes record { round = q; name = k; bisected = true } × HasChildren s (b.views.read j).places k c t)
    read_finds x k c t at born late = (_, ByReadFinds (j, q, kind, pin, x, k, c, t, at, born, late, refl), here (λ (u : Read). (u.walk ≡ Still) × HasEntry u.notes record { round = q; name = k; bisected = true } × HasChildren s u.places k c t) v.read j _ (refl, inl refl, children s (v.read j).places k c t))

pub workers_go_on : WorkersGoOn
workers_go_on s w n v (g, r) j x k kind = (onward, arrived)
  where
    onward : (l : Node) → WorkNext s w (v.work j) x k l → Onward s w n v (λ b. ((b.views.work j).walk ≡ Still) × HasEntry (b.views.work j).absent k) ⊎ ((c : ℕ) × (t : Bool) × (l.block ≡ c + 1) × Onward s w n v (λ b. (b.views.work j).walk ≡ At x k c t))
    onward l next = ⊎_elim
        (λ none. inl (ends s w n v j kind x k l next (inl none)))
        (λ (some : (b : ℕ) × (l.block ≡ b + 1)). let m = (next_named s w n v (g, r) j x k some.0 l some.1).0 kind next in
        dite (ℕ_discrete l.died 0)
        (λ z. inr (goes s w n v j kind x k l next some.0 some.1 (inl z) m.0 m.1))
        (λ o. elim (dec_lt l.died (v.work j).round) [
          | yes early ↦ inl (ends s w n v j kind x k l next (inr (omega arith, early)))
          | no late ↦ inr (goes s w n v j kind x k l next some.0 some.1 (inr (omega arith)) m.0 m.1)
        ]))
        (none_or_block l)

    arrived : (c : ℕ) (t : Bool) → (v.work j).walk ≡ At x k c t →
        (((w.born c ≡ 0) ⊎ (((v.work j).half ≡ SecondHalf) × (w.born c ≡ w.round + 1))) × Onward s w n v (λ b. (b.views.work j).walk ≡ Past x k c t))
        ⊎ (((v.work j).half ≡ FirstHalf) × Onward s w n v (λ b. ((b.views.work j).walk ≡ Still) × HasEntry (b.views.work j).known k × HasChildren s (b.views.work j).found k c t))
        ⊎ Onward s w n v (λ b. ((b.views.work j).walk ≡ Still) × HasEntry (b.views.work j).had (c, k) × HasChildren s (b.views.work j).stood k c t)
    arrived c t at = let same = (r.walks j).half kind in let now = (r.walks j).at_work kind in let low = r.chains.borns c in
        dite (ℕ_discrete (w.born c) 0)
        (λ z. inl (inl z, passes s w n v j kind x k c t at (inl z)))
        (λ o. ⊎_elim
        (λ one. inr (inl (same ∙ one, finds s w n v j kind x k c t at (same ∙ one) (omega arith))))
        (λ two. elim (dec_lt (w.born c) (v.work j).round) [
          | yes early ↦ inr (inr (had s w n v j kind x k c t at (same ∙ two) (omega arith) early))
          | no late ↦ inl (inr (same ∙ two, omega arith), passes s w n v j kind x k c t at (inr (omega arith)))
        ])
        (half_of s w n v g r j kind))

pub readers_go_on : ReadersGoOn
readers_go_on s w n v (g, r) j q x k kind pin = (onward, arrived)
  where
    onward : (l : Node) → ReadNext s w (v.read j) x k l → Onward s w n v (λ b. ((b.views.read j).walk ≡ Still) × HasEntry (b.views.read j).notes record { round = q; name = k; bisected = false }) ⊎ ((c : ℕ) × (t : Bool) × (l.block ≡ c + 1) × Onward s w n v (λ b. ((b.views.read j).walk ≡ At x k c t) × ((b.views.read j).back ≡ l.died)))
    onward l next = ⊎_elim
        (λ none. inl (read_ends s w n v j q kind pin x k l next (inl none)))
        (λ (some : (b : ℕ) × (l.block ≡ b + 1)). let m = (next_named s w n v (g, r) j x k some.0 l some.1).1 q kind pin next in
        dite (ℕ_discrete l.died 0)
        (λ z. inr (read_goes s w n v j q kind pin x k l next some.0 some.1 (inl z) m.0 m.1))
        (λ o. elim (dec_lt q l.died) [
          | yes late ↦ inr (read_goes s w n v j q kind pin x k l next some.0 some.1 (inr late) m.0 m.1)
          | no early ↦ inl (read_ends s w n v j q kind pin x k l next (inr (omega arith, omega arith)))
        ]))
        (none_or_block l)

    arrived : (c : ℕ) (t : Bool) → (v.read j).walk ≡ At x k c t → Onward s w n v (λ b. ((b.views.read j).walk ≡ Past x k c t) × ((b.views.read j).back ≡ (v.read j).back)) ⊎ Onward s w n v (λ b. ((b.views.read j).walk ≡ Still) × HasEntry (b.views.read j).notes record { round = q; name = k; bisected = true } × HasChildren s (b.views.read j).places k c t)
    arrived c t at = dite (ℕ_discrete (w.born c) 0)
        (λ z. inl (read_passes s w n v j q kind pin x k c t at (inl z)))
        (λ o. elim (dec_lt q (w.born c)) [
          | yes late ↦ inl (read_passes s w n v j q kind pin x k c t at (inr late))
          | no early ↦ inr (read_finds s w n v j q kind pin x k c t at (omega arith) (omega arith))
        ])

pub pins_go_on : PinsGoOn
pins_go_on s w n v (g, r) j kind = (
  (λ low. (_, ByLoadRound (j, kind, true, inl (refl, low), refl), here (λ (u : Read). (u.ready ≡ true) × (u.seen ≡ w.round)) v.read j _ (refl, refl))),
  (λ none ready. (_, ByPinStep (j, kind, none, ready, refl), here (λ (u : Read). (u.pin ≡ w.round + 1) × (u.seen ≡ w.round)) v.read j _ (refl, refl))),
  λ q pin. (_, ByUnpinStep (j, q, kind, pin, refl), (here (λ (u : Read). u.pin ≡ 0) v.read j _ refl, update_same w.released q (w.released q + 1))),
)

pub ready_below : ReadyBelow
ready_below s w n v b j (i, kind, ready, shown, e) one = dite (ℕ_discrete j i)
    (λ same. ⊎_elim (λ t. inr t.1) (λ none. let f = sym (is_ready j) ∙ one in let h : ready ≡ true = sym (ap (λ (u : Read). u.ready) (update_at v.read i j _ same)) ∙ f in absurd (cc)) shown)
    (λ other. inl (sym (ap (λ (u : Read). u.ready) (update_other v.read i j _ other)) ∙ sym (is_ready j) ∙ one))
  where
    is_ready : (k : ℕ) → (b.views.read k).ready ≡ (update v.read i (record (v.read i) { ready = ready; seen = w.round }) k).ready
    is_ready k = ap (λ (a : State). (a.views.read k).ready) e

pub pins_fit : PinsFit
pins_fit mesh across l passes w n v lawful = (
  (λ j kind low. let t = (pins_go_on (setup_of mesh across l passes) w n v lawful j kind).0 low in (t.0, t.1, t.2.0)),
  λ few. let a = lawful.1.pins.bound in let b : passes < 2147483648 = few in let c : w.taken < 4294967296 = omega arith in c,
)

-- a worker's pass is made
made : (s : Setup) (w : Words) (n : ℕ) (v : Views) (number : ℕ) → (v.ruling.phase ≡ FirstHalf) ⊎ (v.ruling.phase ≡ SecondHalf) → (lone : Bool)
    → (((Worker ≡ Reader) ⊎ (v.ruling.phase ≡ SecondHalf)) × (lone ≡ v.ruling.lone)) ⊎ ((number ≡ 0) × (v.ruling.workers ≡ 0) × ((x m : ℕ) (p : Progress) → HasEntry (v.claims 0) (claim x m p) → (b : ℕ) × (p ≡ Living b)) × (lone ≡ true)) ⊎ ((0 < number) × (v.ruling.lone ≡ false) × (lone ≡ false))
    → Onward s w n v (λ b. (b.views.kind n ≡ Worker) × ((b.views.work n).number ≡ number) × ((b.views.work n).plan ≡ v.ruling.plan) × ((b.views.read n).told ≡ v.ruling.history))
made s w n v number half lone how = (
  _,
  BySplitStep (Worker, v.ruling.workers + 1, v.ruling.readers, inl (refl, half, refl, refl), number, lone, how, [], (λ k h. absurd h), refl),
  (update_same v.kind n Worker, here (λ (u : Work). u.number ≡ number) v.work n _ refl, here (λ (u : Work). u.plan ≡ v.ruling.plan) v.work n _ refl, here (λ (u : Read). u.told ≡ v.ruling.history) v.read n _ refl),
)

pub passes_made : PassesMade
passes_made s w n v (g, r) = (
  (λ few. (
    _,
    BySplitStep (Reader, v.ruling.workers, v.ruling.readers + 1, inr (refl, few, refl, refl), 1, v.ruling.lone, inl (inl refl, refl), [], (λ k h. absurd h), refl),
    (update_same v.kind n Reader, here (λ (u : Read). u.told ≡ v.ruling.history) v.read n _ refl, here (λ (u : Read). u.seen ≡ w.round) v.read n _ r.stock.finished),
  )),
  λ number how. ⊎_elim
      (λ two. made s w n v number (inr two) v.ruling.lone (inl (inr two, refl)))
      (λ one. ⊎_elim
      (λ t. made s w n v number (inl one.0) false (inr (inr (t.0, t.1, refl))))
      (λ t. made s w n v number (inl one.0) true (inr (inl (t.0, t.1, t.2, refl))))
      one.1)
      how,
)

-- a fact of the value at 0, after the function has changed there and at j
first_of : {A : Type 0} (P : A → Type 0) (f : ℕ → A) (j : ℕ) (a b : A) → (j ≡ 0 → ⊥) → P a → P (update (update f 0 a) j b 0)
first_of P f j a b not p = subst P (sym (update_other (update f 0 a) j 0 b (λ e. not (sym e)) ∙ update_same f 0 a)) p

pub passes_joined : PassesJoined
passes_joined s w n v (g, r) j = (
  (λ kind none. (
    _,
    ByJoinReader (j, other Reader (λ z. cc) kind, kind, none, (some_reader kind).0, (some_early kind).0, (some_reader kind).1, (some_early kind).1, refl),
    ((update_same v.kind j Vacant, update_same (update v.read 0 (record (v.read 0) { notes = (v.read 0).notes ++ (v.read j).notes })) j unread, update_same v.owned j owns_nothing), λ k h. first_of (λ (u : Read). HasEntry u.notes k) v.read j _ _ (other Reader (λ z. cc) kind) (entry_right (v.read 0).notes (v.read j).notes k h)),
  )),
  λ kind. (
    _,
    ByJoinWorker (j, other Worker (λ z. cc) kind, kind, (before v.ruling.workers (some_worker s w n v g r j kind)).0, (before v.ruling.workers (some_worker s w n v g r j kind)).1, refl),
    (
      (update_same v.kind j Vacant, update_same v.read j unread, update_same (update v.owned 0 owns_nothing) j owns_nothing),
      refl,
      (λ c h. first_of (λ (cs : List Claim). HasEntry cs c) v.claims j _ _ (other Worker (λ z. cc) kind) (entry_right (v.claims 0) (v.claims j) c h)),
      λ k. (
        (λ h. first_of (λ (u : Work). HasEntry u.known k) v.work j _ _ (other Worker (λ z. cc) kind) (entry_right (v.work 0).known (v.work j).known k h)),
        (λ h. first_of (λ (u : Work). HasEntry u.open_ k) v.work j _ _ (other Worker (λ z. cc) kind) (entry_right (v.work 0).open_ (v.work j).open_ k h)),
        λ h. first_of (λ (u : Work). HasEntry u.retired k) v.work j _ _ (other Worker (λ z. cc) kind) (entry_right (v.work 0).retired (v.work j).retired k h),
      ),
    ),
  ),
)
  where
    other : (k : Kind) → (k ≡ Owner → ⊥) → v.kind j ≡ k → j ≡ 0 → ⊥
    other k low kind e = let a = r.rules.owner.0 in let b : v.kind j ≡ v.kind 0 = ap v.kind e in low (cc)

    before : (k : ℕ) → 0 < k → (i : ℕ) × (k ≡ i + 1)
    before zero l = absurd (omega arith)
    before (suc i) l = (i, omega arith)

    -- the pass is counted among the early ones where it is one
    some_early : v.kind j ≡ Reader → (i : ℕ) × ((((v.read j).made < v.ruling.finished) × (v.ruling.early ≡ i + 1)) ⊎ ((v.ruling.finished ≤ (v.read j).made) × (v.ruling.early ≡ i)))
    some_early kind = elim (dec_lt (v.read j).made v.ruling.finished) [
      | yes l ↦ (let t = some l in (t.0, inl (l, t.1)))
      | no o ↦ (v.ruling.early, inr (omega arith, refl))
    ]
      where
        some : (v.read j).made < v.ruling.finished → (i : ℕ) × (v.ruling.early ≡ i + 1)
        some l = elim (dec_lt j n) [
          | yes k ↦ let a = summand n (λ i. is_early w.round (v.kind i) (v.read i)) j k in let f = r.stock.finished in let b = early_one w.round (v.kind j) (v.read j) kind (omega arith) in let e = r.early in before v.ruling.early (omega arith)
          | no o ↦ let z = r.pins.few j (omega arith) in absurd (cc)
        ]

    some_reader : v.kind j ≡ Reader → (i : ℕ) × (v.ruling.readers ≡ i + 1)
    some_reader kind = elim (dec_lt j n) [
      | yes l ↦ let a = summand n (λ i. digit (is_reader (v.kind i))) j l in let b : digit (is_reader (v.kind j)) ≡ 1 = reader_is (v.kind j) kind in let e = r.rules.readers in before v.ruling.readers (omega arith)
      | no o ↦ let z = r.pins.few j (omega arith) in absurd (cc)
    ]

pub claims_go_on : ClaimsGoOn
claims_go_on s w n v (g, r) j x m kind = (
  (λ mine. elim (dec_lt w.cursor w.free) [
    | yes l ↦ (_, ByDrawStep (j, x, m, mine, kind, l, refl), (refl, inr (w.row w.cursor, here (λ (cs : List Claim). HasEntry cs (claim x m (Drawn (w.row w.cursor)))) v.claims j _ (moved_on_here (v.claims j) x m (Drawn (w.row w.cursor)) Claimed mine))))
    | no o ↦ (_, ByFullStep (j, x, m, mine, kind, omega arith, refl), (refl, inl (here (λ (cs : List Claim). HasEntry cs (claim x m Failed)) v.claims j _ (moved_on_here (v.claims j) x m Failed Claimed mine))))
  ]),
  λ c k mine found. (
    _,
    ByPublishStep (j, x, m, c, mine, kind, k ∷ [], (λ i h. ⊎_elim (λ e. inr (x, inl refl, subst (λ (y : ℕ). HasEntry (v.work j).found (x, y)) (sym e) found)) (λ z. absurd z) h), refl),
    (
      update_same w.born c (v.work j).round ∙ (r.walks j).at_work kind,
      here (λ (cs : List Claim). HasEntry cs (claim x m (Living c))) v.claims j _ (moved_on_here (v.claims j) x m (Living c) (Whole c) mine),
      here (λ (u : Work). HasEntry u.known k) v.work j _ (inl refl),
    ),
  ),
)

pub singles_go_on : SinglesGoOn
singles_go_on s w n v (g, r) j x k kind one found = (
  (λ open_ absent aimed. (
    _,
    ByClaimStep (j, x, 0, k, kind, open_, one.0, inl absent, subst (λ (p : Plan). HasEntry p.target k) (sym (r.plan.same j kind)) aimed, found, inl (refl, one.1), refl),
    here (λ (cs : List Claim). HasEntry cs (claim x 0 Claimed)) v.claims j _ (inl refl),
  )),
  λ c l mine dead first second kids old noted. (
    _,
    ByLinkFirst (j, x, 0, c, k, mine, kind, dead, first, subst (λ (i : ℕ). Noted (v.owned j).name (member_of c true) i) (sym one.1) second, one.0, kids, olds c l old noted, found, inl (refl, one.1), Whole c, inr (refl, refl), refl),
    here (λ (cs : List Claim). HasEntry cs (claim x 0 (Whole c))) v.claims j _ (moved_on_here (v.claims j) x 0 (Whole c) (Drawn c) mine),
  ),
)
  where
    olds : (c : ℕ) (l : Node) → Noted (v.owned j).head x l → Noted (v.owned j).history (member_of c false) l → (t : Bool) (y : ℕ) → stands (Placed x 0) t ≡ y + 1 → (i : Node) × Noted (v.owned j).head y i × Noted (v.owned j).history (member_of c t) i
    olds c l old noted true y e = let z : 0 ≡ y + 1 = e in absurd (omega arith)
    olds c l old noted false y e = let z : x + 1 ≡ y + 1 = e in let same : x ≡ y = omega arith in (l, subst (λ (i : ℕ). Noted (v.owned j).head i l) same old, noted)

abbrev not_living : Progress → Type 0
not_living Claimed = Unit {0}
not_living Failed = Unit {0}
not_living (Drawn b) = Unit {0}
not_living (Half b) = Unit {0}
not_living (Whole b) = Unit {0}
not_living (Living b) = ⊥

pub claims_go_back : ClaimsGoBack
claims_go_back s w n v (g, r) x m c four = (
  (λ h. ⊎_elim (λ mine. unclaims Claimed mine (λ b e. let z : 0 ≡ b + 1 = e in absurd (omega arith)) (λ b e. absurd (subst not_living e tt))) (λ mine. unclaims Failed mine (λ b e. let z : 0 ≡ b + 1 = e in absurd (omega arith)) (λ b e. absurd (subst not_living e tt))) h),
  (λ mine. (_, ByUndrawStep (four, x, m, c, mine, refl), (gone, inl refl))),
  (λ l h noted. ⊎_elim
      (λ mine. (_, ByUnlinkFirst (four, x, m, c, l, Half c, mine, inl refl, noted, refl), (gone, inl refl)))
      (λ t. (_, ByUnlinkFirst (four, x, m, c, l, Whole c, t.0, inr (refl, t.1), noted, refl), (gone, inl refl)))
      h),
  (λ l y e mine noted. (
    _,
    ByUnlinkSecond (four, x, y, c, l, subst (λ (i : ℕ). HasEntry (v.claims 0) (claim x i (Whole c))) e mine, noted, refl),
    moved_on_here (v.claims 0) x m (Half c) (Whole c) mine,
  )),
  λ mine. (_, ByUnbearStep (four, x, m, c, mine, refl), moved_on_here (v.claims 0) x m (Whole c) (Living c) mine),
)
  where
    gone : (i : ℕ) (p : Progress) → HasEntry (ended (v.claims 0) x) (claim x i p) → ⊥
    gone i p h = (ended_has (v.claims 0) x x i p h).0 refl

    unclaims : (p : Progress) → HasEntry (v.claims 0) (claim x m p) → ((b : ℕ) → block_of p ≡ b + 1 → p ≡ Living b) → ((b : ℕ) → p ≡ Living b → (v.ruling.phase ≡ Closing → ⊥) → ⊥) → Onward s w n v (λ b. IsEnded b x)
    unclaims p mine lives dead = (_, ByUnclaimStep (((λ e. cc), λ e. cc), (λ l. omega (arith, ap order four)), x, m, p, mine, lives, dead, refl), gone)
