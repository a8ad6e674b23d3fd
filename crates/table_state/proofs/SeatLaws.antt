-- The laws of what seats know, and of blocks and claims of the current round.
use Rattle.std.proofs.Common.{◌⊎◌, ◌≤◌, ◌≡◌, ℕ, ◌+◌, ◌<◌, Bool, List, [], ◌∷◌, refl, sym, ap, ◌∙◌, subst, inl, inr, ⊎_elim, arith}
use native.Mathlib.Decide.{dec_lt}
use Rattle.table_words.specs.Words.{Node}
use Rattle.table_words.specs.Claims.{Drawn, Half, Living}
use Rattle.table_words.specs.Places.{member_of}
use Rattle.table_state.specs.Ghosts.{Held, Life, chained, stands}
use Rattle.table_state.specs.Chains.{Finds}
use Rattle.table_state.specs.Claims.{bit_of}
use Rattle.table_state.specs.Bisections.{MayRead}
use Rattle.table_state.specs.SeatLaws.{BeginsEqual, LivingClaimed, LivingBlocks, FindingsRight, FinishedFindings, WorkersWent, OneHalf, FilledStays, LoadedStays, OwnerWords, PinsCounted, LinkWords, HistoryWords, RetiredNoted, PinsOut, PinsOfRounds, RoundsFall, NumbersKnown, BlocksKnown, OthersEmpty, PassesCounted}
use Rattle.table_state.proofs.FoundAgain.{one_more, placed}
use Rattle.table_state.proofs.Across.{half_of, place_one, chained_of}
use Rattle.table_state.proofs.Lawful.{walks_end}
use Rattle.table_words.specs.Views.{order}

pub begins_equal : BeginsEqual
begins_equal s w n v (g, r) k z = r.names.fresh k z

pub living_claimed : LivingClaimed
living_claimed = (
  (λ s w n v k b x m u e o. let g = k.0 in let r = k.1 in let t = r.claims.kept b x m u e o in (r.claims.bits x ∙ ap bit_of t.1, (t.0, r.claims.holds t.0 x m (Living b) t.1))),
  λ s w n v k j b x m h. let g = k.0 in let r = k.1 in let t = r.claims.shape x j m (Living b) (r.claims.held j x m (Living b) h) in (t.1, t.0, t.2, t.3),
)

pub living_blocks : LivingBlocks
living_blocks s w n v (g, r) b x m u p z = (
  r.names.patch b x m u,
  (λ t y c. (heads t y c, (λ a. r.named.heads y b t a (heads t y c) c), λ l. (r.names.sound (w.round + 1) (inr (refl, l)) b t y c (p, r.chains.borns b, inl z)).0)),
  λ c y i a q d e. r.names.one c b (y, i, a, q, d) (x, m, u, p, z) e,
)
  where
    -- a block that a HISTORY word leads to is retired
    later : (q y : ℕ) (ts : List (ℕ × Bool)) (a : ℕ) (t : Bool) → stands (g.life a) t ≡ y + 1 → Finds w.history w.born w.died g.life q y b (w.history (member_of a t)) ts → ⊥
    later q y [] a t h f = absurd f
    later q y (c ∷ ts) a t h f = ⊎_elim (λ e. let d = (walks_end s w n v (g, r) a c.0 y t h f.0).0 in let k : w.died c.0 ≡ w.died b = ap w.died e.0 in omega arith) (λ o. later q y ts c.0 c.1 f.1 o) f.2

    first : (q y : ℕ) (ts : List (ℕ × Bool)) → Finds w.history w.born w.died g.life q y b (w.head y) ts → (w.head y).block ≡ b + 1
    first q y [] f = absurd f
    first q y (c ∷ ts) f = ⊎_elim (λ e. f.0 ∙ ap (λ (i : ℕ). i + 1) e.0) (λ o. absurd (later q y ts c.0 c.1 f.1 o)) f.2

    -- where a round that may be read has the block
    read_at : (q : ℕ) → MayRead w.round v.ruling.phase v.read q → w.born b ≤ q → (t : Bool) (y : ℕ) → chained (g.life b) t ≡ y + 1 → (w.head y).block ≡ b + 1
    read_at q k l t y c = let h = r.names.sound q k b t y c (p, l, inl z) in let f = (r.names.fits q k).found (w.name (member_of b t)) b h.0 in
        let same = place_one s w n v g r q k f.1 y (w.name (member_of b t)) f.4 h.1 in first q y f.5.0 (subst (λ (i : ℕ). Finds w.history w.born w.died g.life q i b (w.head i) f.5.0) same f.5.1)

    -- where its claim has it
    held_at : (j : ℕ) → g.stage x ≡ Held j m (Living b) → (t : Bool) (y : ℕ) → chained (g.life b) t ≡ y + 1 → (w.head y).block ≡ b + 1
    held_at j h t y c = let f = r.claims.shape x j m (Living b) h in ⊎_elim (λ e. ap (λ (i : ℕ). (w.head i).block) e ∙ ap (λ (l : Node). l.block) f.2) (λ e. ap (λ (l : Node). l.block) (f.3 y e)) (chained_of (g.life b) t x m y u c)

    heads : (t : Bool) (y : ℕ) → chained (g.life b) t ≡ y + 1 → (w.head y).block ≡ b + 1
    heads t y c = elim (dec_lt (order v.ruling.phase) 4) [
      | yes l ↦ read_at (w.round + 1) (inr (refl, l)) (r.chains.borns b) t y c
      | no o ↦ elim (dec_lt w.round (w.born b)) [
        | yes k ↦ (let l = r.chains.borns b in let a = r.claims.kept b x m u (omega arith) (λ e. o (omega (arith, ap order e))) in held_at a.0 a.1 t y c)
        | no k ↦ read_at w.round (inl (inl refl)) (omega arith) t y c
      ]
    ]

pub findings_right : FindingsRight
findings_right s w n v (g, r) j k = let u = r.works j in ((λ x h. u.found x k h), (λ h. u.known k h), (λ h. u.open_ k h), (λ b h. let t = u.given b k h in (t.1, t.2.3, t.2.4, t.2.5)), λ x h. let t = (r.grows j).grown x k h in let a = t.1 in (t.0, inr (a.0, a.1, a.2, a.3, a.5, a.6)))

pub finished_findings : FinishedFindings
finished_findings s w n v (g, r) j k = let u = r.walks j in ((λ h. u.absent k h), (λ x h. u.stood x k h), λ b h. u.had b k h)

pub workers_went : WorkersWent
workers_went s w n v (g, r) j b h = let t = ((r.walks j).went b h).0 in (t, λ e. let z : 0 ≡ t.1 + 1 = sym (ap (λ (l : Life). stands l t.0) e) ∙ t.2 in omega arith)

pub one_half : OneHalf
one_half s w n v (g, r) j k = ((r.walks j).half k, half_of s w n v g r j k, λ two i x m p h. r.claims.living x i m p (r.claims.held i x m p h) two)

pub filled_stays : FilledStays
filled_stays s w n v (g, r) j x m b h = let e = r.claims.held j x m (Drawn b) h in let u = r.owned j in (
  (λ t l f. u.history_is b t l f (inr (x, m, inl e))),
  (λ t k f. u.name_is b t k f (inr (x, m, inl e))),
  (λ k f. u.died_is b k f (inr (x, m, inl e))),
  λ z l a f. u.head_is z l f (inr (x, m, b, inl (e, a))),
)

pub loaded_stays : LoadedStays
loaded_stays s w n v (g, r) j x z b l h f = (r.owned j).head_is z l f (inr (x, z + 1, b, inr (r.claims.held j x (z + 1) (Half b) h, refl)))

pub owner_words : OwnerWords
owner_words s w n v (g, r) home = let u = r.owned 0 in (
  (λ z l f. u.head_is z l f (inl (refl, home))),
  (λ b t l f. u.history_is b t l f (inl (refl, home))),
  (λ b t k f. u.name_is b t k f (inl (refl, home))),
  (λ b k. ((λ f. u.born_is b k f refl home), λ f. u.died_is b k f (inl (refl, home)))),
  λ i b f. u.row_is i b f refl home,
)

pub pins_counted : PinsCounted
pins_counted s w n v (g, r) = ((λ q k h. sym (r.stock.left q k h).1 ∙ r.pins.count q), (λ q l. (r.pins.later q l).1), r.pins.past, (let a = r.rules.few_readers in let b = r.rules.readers in omega arith), r.pins.bound)

pub link_words : LinkWords
link_words s w n v (g, r) x b l e = ⊎_elim
    (λ o. let z : 0 ≡ b + 1 = sym (ap (λ (k : Node). k.block) o) ∙ e in absurd (omega arith))
    (λ o. let same : o.0 ≡ b = one_more o.0 b (sym o.2 ∙ e) in subst (λ (i : ℕ). ((t : Bool) × (chained (g.life i) t ≡ x + 1)) × (0 < (w.head x).died → ((w.head x).died ≡ w.died i) × (w.born i < w.died i)) × ((w.head x).died ≡ 0 → (w.died i ≡ 0) ⊎ (w.died i ≡ w.round + 1))) same
    ((o.1, o.3), (λ p. let d = o.4 p in let q = placed (g.life o.0) o.1 x o.3 in (d, (r.chains.dieds o.0 q.0 q.1 q.2 (omega arith)).1)), o.5))
    (r.chains.heads x l)

pub history_words : HistoryWords
history_words s w n v (g, r) a c x t h e = ⊎_elim
    (λ o. let z : 0 ≡ c + 1 = sym (ap (λ (k : Node). k.block) o) ∙ e in absurd (omega arith))
    (λ o. let same : o.0 ≡ c = one_more o.0 c (sym (ap (λ (k : Node). k.block) o.2) ∙ e) in subst (λ (i : ℕ). ((u : Bool) × (chained (g.life i) u ≡ x + 1)) × ((w.history (member_of a t)).died ≡ w.died i) × (0 < w.died i) × (w.born i < w.died i) × (w.died i ≤ w.round) × (0 < w.born a → w.died i < w.born a)) same
    (let q = placed (g.life o.0) o.1 x o.3 in ((o.1, o.3), ap (λ (k : Node). k.died) o.2, o.4, (r.chains.dieds o.0 q.0 q.1 q.2 o.4).1, o.6, o.5)))
    (r.chains.histories a t x h)

pub retired_noted : RetiredNoted
retired_noted s w n v (g, r) b = (r.retireds b, λ t. r.retired b t.0 t.1 t.2 t.3)

pub pins_out : PinsOut
pins_out s w n v (g, r) = (r.pins.count, r.pins.now, r.stock.left)

pub pins_of_rounds : PinsOfRounds
pins_of_rounds s w n v (g, r) q = let m = r.pins.most q in let c = r.pins.count q in (m, omega arith)

pub rounds_fall : RoundsFall
rounds_fall s w n v (g, r) j q x k b t p at o = (r.goes j).dated q x k b t p at o

pub numbers_known : NumbersKnown
numbers_known s w n v (g, r) = (r.stock.finished, r.stock.cursor_is, r.stock.free_is)

pub blocks_known : BlocksKnown
blocks_known s w n v (g, r) b = ((r.note.rolled_back b, λ t. r.note.all b t.0 t.1 t.2), r.hand b, r.note.placed b)

pub others_empty : OthersEmpty
others_empty s w n v (g, r) j = (
  (λ other second. let u = (r.works j).only other second in let k = (r.walks j).only other second in let l = (r.walks j).still other in ((λ x m p h. ⊎_elim second other (r.holders x j m p (r.claims.held j x m p h))), r.drawn.only j other second, u.0, u.1, u.2, u.3, k.0, k.1, k.2, (r.grows j).only other second, k.3, l.0, l.1)),
  r.pins.readers j,
  r.pins.spent j,
  r.pins.few j,
)

pub passes_counted : PassesCounted
passes_counted s w n v (g, r) = (r.rules.owner.0, r.rules.one, r.rules.workers, r.rules.readers, r.rules.halves)
