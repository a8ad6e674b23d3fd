-- Powers of ten, and what shifting the point does to a whole part.
use Rattle.mesh_io.specs.Decimals.{greatest_cut}
use Rattle.std.proofs.Common.{◌≡◌, ℕ, ◌+◌, ◌-◌, ◌*◌, ◌/◌, ◌^◌, ◌<◌, ◌≤◌, ◌⊎◌, ◌∙◌, inl, inr, zero, suc, ⊎_elim, sym, ap, subst, arith}
use Rattle.std.proofs.Math.Nat.{mul-le-mul_left}
use Rattle.std.proofs.lemmas.Nat.{pow-add, div_below, le-div, div-add-mod'}
use Rattle.std.proofs.lemmas.Bool.{cases_lt}
use Rattle.mesh_io.specs.Heads.{Heads}

pub ten_suc : (k : ℕ) → 10 ^ (k + 1) ≡ 10 ^ k * 10
ten_suc k = pow-add 10 k 1

pub ten_pos : (k : ℕ) → 0 < 10 ^ k
ten_pos zero = omega arith
ten_pos (suc k) = let e : 10 ^ suc k ≡ 10 ^ k * 10 = ap (λ n. 10 ^ n) (omega arith) ∙ ten_suc k in omega (arith, ten_pos k, e)

pub mul_le : (a b c d : ℕ) → a ≤ b → c ≤ d → a * c ≤ b * d
mul_le a b c d h k = omega (arith, mul-le-mul_left a k, mul-le-mul_left d h)

pub ten_split : (i j : ℕ) → i ≤ j → 10 ^ j ≡ 10 ^ (j - i) * 10 ^ i
ten_split i j h = ap (λ n. 10 ^ n) (omega arith) ∙ pow-add 10 (j - i) i

pub ten_le : (i j : ℕ) → i ≤ j → 10 ^ i ≤ 10 ^ j
ten_le i j h = omega (arith, ten_split i j h, mul-le-mul_left (10 ^ i) (ten_pos (j - i)))

-- the whole part is the number between
pub div_is : (n w q : ℕ) → 0 < w → q * w ≤ n → n < (q + 1) * w → n / w ≡ q
div_is n w q p low high = omega (arith, le-div q n w p low, div_below n w (q + 1) p high)

pub div_low : (n w : ℕ) → n / w * w ≤ n
div_low n w = omega (arith, div-add-mod' n w)

pub div_high : (n w : ℕ) → 0 < w → n < (n / w + 1) * w
div_high n w p = omega (arith, div-add-mod' n w)

-- a shift up by more than down needs no division
pub shift_up : (n up down : ℕ) → down ≤ up → n * 10 ^ up / 10 ^ down ≡ n * 10 ^ (up - down)
shift_up n up down h = let p : 0 < 10 ^ down = ten_pos down in let e = ten_split down up h in
    div_is (n * 10 ^ up) (10 ^ down) (n * 10 ^ (up - down)) p
    (omega (arith, ap (λ x. n * x) e))
    (omega (arith, ap (λ x. n * x) e, p))

-- a shift down by more than up is one division
pub shift_down : (n up down : ℕ) → up ≤ down → n * 10 ^ up / 10 ^ down ≡ n / 10 ^ (down - up)
shift_down n up down h = let w = 10 ^ (down - up) in let u = 10 ^ up in let e : 10 ^ down ≡ w * u = ten_split up down h in
    div_is (n * u) (10 ^ down) (n / w) (ten_pos down)
    (omega (arith, ap (λ x. (n / w) * x) e, mul_le (n / w * w) n u u (div_low n w) (omega arith)))
    (omega (arith, ap (λ x. (n / w + 1) * x) e, mul_le (n + 1) ((n / w + 1) * w) u u (let f = div_high n w (ten_pos (down - up)) in omega (arith, f)) (omega arith), ten_pos up))

-- what a head says of the cut: it is the same, or both are above the range.
pub head_cut : (m kept d u w : ℕ) → Heads m kept d →
    (m * 10 ^ u / 10 ^ w ≡ kept * 10 ^ (d + u) / 10 ^ w) ⊎ ((greatest_cut < m * 10 ^ u / 10 ^ w) × (greatest_cut < kept * 10 ^ (d + u) / 10 ^ w))
head_cut m kept d u w h = by h.full
  where
    exact : d ≡ 0 → m * 10 ^ u / 10 ^ w ≡ kept * 10 ^ (d + u) / 10 ^ w
    exact z = let one : 10 ^ d ≡ 1 = ap (λ k. 10 ^ k) z in
        let low : kept * 1 ≤ m = subst (λ p. kept * p ≤ m) one h.low in
        let high : m < (kept + 1) * 1 = subst (λ p. m < (kept + 1) * p) one h.high in
        let same : m ≡ kept = omega arith in
        let more : u ≡ d + u = omega (arith, z) in
        λ i. same i * 10 ^ (more i) / 10 ^ w

    within : d + u ≤ w → m * 10 ^ u / 10 ^ w ≡ kept * 10 ^ (d + u) / 10 ^ w
    within le = let t = w - (d + u) in let q = kept / 10 ^ t in
        let split : 10 ^ (w - u) ≡ 10 ^ t * 10 ^ d = ap (λ n. 10 ^ n) (omega arith) ∙ pow-add 10 t d in
        let low : q * 10 ^ t * 10 ^ d ≤ kept * 10 ^ d = mul_le _ _ _ _ (div_low kept (10 ^ t)) (omega arith) in
        let above : kept + 1 ≤ (q + 1) * 10 ^ t = let f = div_high kept (10 ^ t) (ten_pos t) in omega (arith, f) in
        let high : (kept + 1) * 10 ^ d ≤ (q + 1) * 10 ^ t * 10 ^ d = mul_le _ _ _ _ above (omega arith) in
        shift_down m u w (omega arith)
        ∙ div_is m (10 ^ (w - u)) q (ten_pos (w - u)) (omega (arith, ap (λ x. q * x) split, low, h.low)) (omega (arith, ap (λ x. (q + 1) * x) split, high, h.high))
        ∙ sym (shift_down kept (d + u) w le)

    beyond : 10 ^ 27 ≤ kept → w < d + u → (greatest_cut < m * 10 ^ u / 10 ^ w) × (greatest_cut < kept * 10 ^ (d + u) / 10 ^ w)
    beyond big lt = let t = d + u - w in
        let ten : 10 ≤ 10 ^ t = ten_le 1 t (omega arith) in
        let much : 10 ^ 27 * 10 ≤ kept * 10 ^ t = mul_le _ _ _ _ big ten in
        let split : 10 ^ (d + u) ≡ 10 ^ t * 10 ^ w = ten_split w (d + u) (omega arith) in
        let parts : 10 ^ (d + u) ≡ 10 ^ d * 10 ^ u = pow-add 10 d u in
        let low : kept * 10 ^ d * 10 ^ u ≤ m * 10 ^ u = mul_le _ _ _ _ h.low (omega arith) in
        let here : kept * 10 ^ t * 10 ^ w ≤ m * 10 ^ u = omega (arith, ap (λ x. kept * x) split, ap (λ x. kept * x) parts, low) in
        let there = shift_up kept (d + u) w (omega arith) in
        let first = le-div (kept * 10 ^ t) (m * 10 ^ u) (10 ^ w) (ten_pos w) here in
        (omega (arith, first, much), omega (arith, there, much))

    by : (d ≡ 0) ⊎ (10 ^ 27 ≤ kept) → (m * 10 ^ u / 10 ^ w ≡ kept * 10 ^ (d + u) / 10 ^ w) ⊎ ((greatest_cut < m * 10 ^ u / 10 ^ w) × (greatest_cut < kept * 10 ^ (d + u) / 10 ^ w))
    by (inl z) = inl (exact z)
    by (inr big) = ⊎_elim (λ lt. inr (beyond big lt)) (λ le. inl (within le)) (cases_lt w (d + u))
