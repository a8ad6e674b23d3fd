-- Fine units of a number that 64 bits hold.
use Rattle.std.proofs.Common.{◌≡◌, ℕ, Bool, nat_le, cond, Some, Ok, Err, ◌+◌, ◌-◌, ◌*◌, ◌/◌, ◌%◌, ◌^◌, ◌<◌, ◌≤◌, ◌∙◌, sym, ap, subst, arith}
use Rattle.std.proofs.lemmas.Nat.{pow-add, div_below, le-div, div-add-mod'}
use Rattle.mesh_io.specs.declared.decimal.DecimalRefusal.TheVariants.{CoordRange}
use Rattle.mesh_io.specs.Decimals.{greatest_units, measured, with_sign}
use Rattle.mesh_io.specs.Heads.{Heads}
use Rattle.mesh_io.proofs.Powers.{ten_pos, shift_up, shift_down, div_is, div_low, div_high}

-- 4096 times a whole part, and the whole part of 4096 times the rest
pub short_down : (m up down p : ℕ) → up ≤ down → p ≡ 10 ^ (down - up) → m / p * 4096 + m % p * 4096 / p ≡ m * 4096 * 10 ^ up / 10 ^ down
short_down m up down p le e =
    let some : 0 < p = omega (arith, e, ten_pos (down - up)) in
    let all = div-add-mod' m p in
    let low = div_low (m % p * 4096) p in
    let high = div_high (m % p * 4096) p some in
    sym (shift_down (m * 4096) up down le
    ∙ ap (λ w. m * 4096 / w) (sym e)
    ∙ div_is (m * 4096) p (m / p * 4096 + m % p * 4096 / p) some (omega (arith, all, low)) (omega (arith, all, high)))

pub short_up : (m up down p whole : ℕ) → down ≤ up → p ≡ 10 ^ (up - down) → whole ≡ m * p → whole * 4096 ≡ m * 4096 * 10 ^ up / 10 ^ down
short_up m up down p whole le e w = sym (shift_up (m * 4096) up down le ∙ (let same : m * 4096 * 10 ^ (up - down) ≡ whole * 4096 = omega (arith, w, ap (λ k. m * k) e) in same))

-- they are the fine units of the cut
short_units : (m places up down u : ℕ) → u ≡ m * 4096 * 10 ^ (10 + up) / 10 ^ (places + down) → m * 10 ^ (22 + up) / 10 ^ (places + down) / 244140625 ≡ u
short_units m places up down u e =
    let d = 10 ^ (places + down) in
    let t = 10 ^ (10 + up) in
    let some : 0 < d = ten_pos (places + down) in
    let split : 10 ^ (22 + up) ≡ 10 ^ 12 * t = ap (λ k. 10 ^ k) (omega arith) ∙ pow-add 10 12 (10 + up) in
    let n : m * 10 ^ (22 + up) ≡ m * 4096 * t * 244140625 = omega (arith, ap (λ k. m * k) split) in
    let low : u * d ≤ m * 4096 * t = omega (arith, div_low (m * 4096 * t) d, ap (λ k. k * d) e) in
    let high : m * 4096 * t < (u + 1) * d = omega (arith, div_high (m * 4096 * t) d some, ap (λ k. k * d) e) in
    div_is (m * 10 ^ (22 + up) / d) 244140625 u (omega arith)
    (le-div (u * 244140625) (m * 10 ^ (22 + up)) d some (omega (arith, n, low)))
    (div_below (m * 10 ^ (22 + up)) d ((u + 1) * 244140625) some (omega (arith, n, high)))

-- a number with no dropped digit
whole_head : (m kept d : ℕ) → Heads m kept d → d ≡ 0 → kept ≡ m
whole_head m kept d h z = let one : 10 ^ d ≡ 1 = ap (λ k. 10 ^ k) z in
    omega (arith, subst (λ p. kept * p ≤ m) one h.low, subst (λ p. m < (kept + 1) * p) one h.high)

pub short_measured : (minus : Bool) (m kept d places up down u : ℕ) → Heads m kept d → d ≡ 0 → u ≡ kept * 4096 * 10 ^ (10 + up) / 10 ^ (places + down) →
    cond (nat_le u greatest_units) (Ok (with_sign minus u)) (Err CoordRange) ≡ measured (Some (record { minus = minus; mantissa = m; places = places; up = up; down = down }))
short_measured minus m kept d places up down u h z e =
    let same = short_units m places up down u (e ∙ ap (λ k. k * 4096 * 10 ^ (10 + up) / 10 ^ (places + down)) (whole_head m kept d h z)) in
    λ i. cond (nat_le (sym same i) greatest_units) (Ok (with_sign minus (sym same i))) (Err CoordRange)
