-- The least sum that has a share of a total.
use Rattle.std.proofs.Common.{◌≡◌, ℕ, ◌+◌, ◌-◌, ◌*◌, ◌/◌, ◌%◌, ◌<◌, ◌≤◌, ◌⊎◌, ap, sym, ⊎_elim, arith}
use Rattle.std.proofs.lemmas.Bool.{cases_lt}
use Rattle.std.proofs.Math.Nat.{div-add-mod', div-mul-le_self, mod-lt, mul-le-mul_right}

divided : (n m : ℕ) → n ≡ n / m * m + n % m
divided n m = sym (div-add-mod' n m)

-- `total` is `quotient` wholes and a rest, and `more` wholes are the least that hold `part` rests
pub has_share : (part whole total quotient rest more : ℕ) → total ≡ quotient * whole + rest → part * rest ≤ more * whole → part * total ≤ (part * quotient + more) * whole
has_share part whole total quotient rest more e h =
    let t = ap (λ n. part * n) e in
    omega (arith, t, h)

pub least_share : (part whole total quotient rest more sum : ℕ) → total ≡ quotient * whole + rest → more * whole < part * rest + whole → part * total ≤ sum * whole → part * quotient + more ≤ sum
least_share part whole total quotient rest more sum e h reach = ⊎_elim
    (λ (l : sum < part * quotient + more).
    let t = ap (λ n. part * n) e in
    let grown = mul-le-mul_right whole l in
    absurd (omega (arith, t, h, reach, grown)))
    (λ (l : part * quotient + more ≤ sum). l)
    (cases_lt sum (part * quotient + more))

-- a quotient that is rounded up
pub up-high : (a w : ℕ) → 1 ≤ w → a ≤ ((a + w - 1) / w) * w
up-high a w some =
    let x = a + w - 1 in
    let e = div-add-mod' x w in
    let l : x % w < w = mod-lt x some in
    let d = div-mul-le_self x w in
    omega (arith, e, l, d)

pub up-low : (a w : ℕ) → 1 ≤ w → ((a + w - 1) / w) * w < a + w
up-low a w some = let d = div-mul-le_self (a + w - 1) w in omega (arith, d, some)

-- the least sum that has the share of a total
pub least_sum_has : (part whole total : ℕ) → part ≤ whole → 1 ≤ whole → part * total ≤ (part * (total / whole) + (part * (total % whole) + whole - 1) / whole) * whole
least_sum_has part whole total within some = has_share part whole total (total / whole) (total % whole) ((part * (total % whole) + whole - 1) / whole) (divided total whole) (up-high (part * (total % whole)) whole some)

pub least_sum_is : (part whole total sum : ℕ) → part ≤ whole → 1 ≤ whole → part * total ≤ sum * whole → part * (total / whole) + (part * (total % whole) + whole - 1) / whole ≤ sum
least_sum_is part whole total sum within some = least_share part whole total (total / whole) (total % whole) ((part * (total % whole) + whole - 1) / whole) sum (divided total whole) (up-low (part * (total % whole)) whole some)
