-- Products of whole numbers: they distribute over sums and differences.
use Rattle.std.proofs.Common.{◌≡◌, ℕ, zero, suc, ◌*◌, ◌≤◌, sym, ap, subst, ◌∙◌, arith}
use Rattle.std.specs.Prelude.{ℤ, pos, negsuc, ◌+ℤ◌, ◌-ℤ◌, ◌*ℤ◌, ◌≤ℤ◌, nat_abs}
use Rattle.std.proofs.Math.IntN.{suc_ℤ, pred_ℤ, suc_ℤ-*ℤ, pred_ℤ-*ℤ, suc_ℤ-+ℤ, pred_ℤ-+ℤ, *ℤ_comm, zero-*ℤ, neg_ℤ, pos-*ℤ-pos, pos-*ℤ-negsuc, negsuc-*ℤ-pos, negsuc-*ℤ-negsuc}
use Rattle.macro_file.specs.Limits.{AtMost}
use Rattle.mesh_io.proofs.Powers.{mul_le}
use Rattle.std.proofs.lemmas.Int.{ints}

zero_plus : (b : ℤ) → pos 0 +ℤ b ≡ b
zero_plus b = omega (arith, ints)

grown : (a b c : ℤ) → (a +ℤ b) *ℤ c ≡ (a *ℤ c) +ℤ (b *ℤ c) → (suc_ℤ a +ℤ b) *ℤ c ≡ (suc_ℤ a *ℤ c) +ℤ (b *ℤ c)
grown a b c known = ap (λ z. z *ℤ c) (suc_ℤ-+ℤ a b) ∙ suc_ℤ-*ℤ (a +ℤ b) c ∙ ap (λ z. z +ℤ c) known ∙ moved (a *ℤ c) (b *ℤ c) c ∙ ap (λ z. z +ℤ (b *ℤ c)) (sym (suc_ℤ-*ℤ a c))
  where
    moved : (x y z : ℤ) → (x +ℤ y) +ℤ z ≡ (x +ℤ z) +ℤ y
    moved x y z = omega (arith, ints)

shrunk : (a b c : ℤ) → (a +ℤ b) *ℤ c ≡ (a *ℤ c) +ℤ (b *ℤ c) → (pred_ℤ a +ℤ b) *ℤ c ≡ (pred_ℤ a *ℤ c) +ℤ (b *ℤ c)
shrunk a b c known = ap (λ z. z *ℤ c) (pred_ℤ-+ℤ a b) ∙ pred_ℤ-*ℤ (a +ℤ b) c ∙ ap (λ z. z -ℤ c) known ∙ moved (a *ℤ c) (b *ℤ c) c ∙ ap (λ z. z +ℤ (b *ℤ c)) (sym (pred_ℤ-*ℤ a c))
  where
    moved : (x y z : ℤ) → (x +ℤ y) -ℤ z ≡ (x -ℤ z) +ℤ y
    moved x y z = omega (arith, ints)

zero-times : (b c : ℤ) → (pos 0 +ℤ b) *ℤ c ≡ (pos 0 *ℤ c) +ℤ (b *ℤ c)
zero-times b c = ap (λ z. z *ℤ c) (zero_plus b) ∙ sym (zero_plus (b *ℤ c)) ∙ ap (λ z. z +ℤ (b *ℤ c)) (sym (zero-*ℤ c))

-- a sum times a number
pub sum-times : (a b c : ℤ) → (a +ℤ b) *ℤ c ≡ (a *ℤ c) +ℤ (b *ℤ c)
sum-times (pos zero) b c = zero-times b c
sum-times (pos (suc n)) b c = grown (pos n) b c (sum-times (pos n) b c)
sum-times (negsuc zero) b c = shrunk (pos zero) b c (zero-times b c)
sum-times (negsuc (suc n)) b c = shrunk (negsuc n) b c (sum-times (negsuc n) b c)

-- a number times a sum
pub times-sum : (a b c : ℤ) → a *ℤ (b +ℤ c) ≡ (a *ℤ b) +ℤ (a *ℤ c)
times-sum a b c = *ℤ_comm a (b +ℤ c) ∙ sum-times b c a ∙ (λ i. *ℤ_comm b a i +ℤ *ℤ_comm c a i)

back : (a b : ℤ) → (a -ℤ b) +ℤ b ≡ a
back a b = omega (arith, ints)

-- a difference times a number
pub difference-times : (a b c : ℤ) → (a -ℤ b) *ℤ c ≡ (a *ℤ c) -ℤ (b *ℤ c)
difference-times a b c = let e : ((a -ℤ b) *ℤ c) +ℤ (b *ℤ c) ≡ a *ℤ c = sym (sum-times (a -ℤ b) b c) ∙ ap (λ z. z *ℤ c) (back a b) in taken ((a -ℤ b) *ℤ c) (b *ℤ c) (a *ℤ c) e
  where
    taken : (x y z : ℤ) → x +ℤ y ≡ z → x ≡ z -ℤ y
    taken x y z e = omega (arith, ints)

-- a number times a difference
pub times-difference : (a b c : ℤ) → a *ℤ (b -ℤ c) ≡ (a *ℤ b) -ℤ (a *ℤ c)
times-difference a b c = *ℤ_comm a (b -ℤ c) ∙ difference-times b c a ∙ (λ i. *ℤ_comm b a i -ℤ *ℤ_comm c a i)

-- a difference times a difference
pub differences-times : (a b c d : ℤ) → (a -ℤ b) *ℤ (c -ℤ d) ≡ ((a *ℤ c) -ℤ (a *ℤ d)) -ℤ ((b *ℤ c) -ℤ (b *ℤ d))
differences-times a b c d = difference-times a b (c -ℤ d) ∙ (λ i. times-difference a c d i -ℤ times-difference b c d i)

size-negated : (z : ℤ) → nat_abs (neg_ℤ z) ≡ nat_abs z
size-negated z = omega (arith, ints)

-- the size of a product
pub size-times : (a b : ℤ) → nat_abs (a *ℤ b) ≡ nat_abs a * nat_abs b
size-times (pos m) (pos n) = ap nat_abs (pos-*ℤ-pos m n)
size-times (pos m) (negsuc n) = ap nat_abs (pos-*ℤ-negsuc m n) ∙ size-negated (pos (m * suc n))
size-times (negsuc m) (pos n) = ap nat_abs (negsuc-*ℤ-pos m n) ∙ size-negated (pos (suc m * n))
size-times (negsuc m) (negsuc n) = ap nat_abs (negsuc-*ℤ-negsuc m n)

pub product_small : (a b : ℤ) (m n : ℕ) → AtMost m a → AtMost n b → AtMost (m * n) (a *ℤ b)
product_small a b m n ha hb = subst (λ (k : ℕ). k ≤ m * n) (sym (size-times a b)) (mul_le (nat_abs a) m (nat_abs b) n ha hb)

associated : (a b c : ℤ) → (a *ℤ b) *ℤ c ≡ a *ℤ (b *ℤ c) → (suc_ℤ a *ℤ b) *ℤ c ≡ suc_ℤ a *ℤ (b *ℤ c)
associated a b c known = ap (λ z. z *ℤ c) (suc_ℤ-*ℤ a b) ∙ sum-times (a *ℤ b) b c ∙ ap (λ z. z +ℤ (b *ℤ c)) known ∙ sym (suc_ℤ-*ℤ a (b *ℤ c))

dissociated : (a b c : ℤ) → (a *ℤ b) *ℤ c ≡ a *ℤ (b *ℤ c) → (pred_ℤ a *ℤ b) *ℤ c ≡ pred_ℤ a *ℤ (b *ℤ c)
dissociated a b c known = ap (λ z. z *ℤ c) (pred_ℤ-*ℤ a b) ∙ difference-times (a *ℤ b) b c ∙ ap (λ z. z -ℤ (b *ℤ c)) known ∙ sym (pred_ℤ-*ℤ a (b *ℤ c))

none-times : (b c : ℤ) → (pos 0 *ℤ b) *ℤ c ≡ pos 0 *ℤ (b *ℤ c)
none-times b c = ap (λ z. z *ℤ c) (zero-*ℤ b) ∙ zero-*ℤ c ∙ sym (zero-*ℤ (b *ℤ c))

pub times-times : (a b c : ℤ) → (a *ℤ b) *ℤ c ≡ a *ℤ (b *ℤ c)
times-times (pos zero) b c = none-times b c
times-times (pos (suc n)) b c = associated (pos n) b c (times-times (pos n) b c)
times-times (negsuc zero) b c = dissociated (pos zero) b c (none-times b c)
times-times (negsuc (suc n)) b c = dissociated (negsuc n) b c (times-times (negsuc n) b c)

-- the order of three factors
pub last_two : (a b c : ℤ) → (a *ℤ b) *ℤ c ≡ (a *ℤ c) *ℤ b
last_two a b c = times-times a b c ∙ ap (λ z. a *ℤ z) (*ℤ_comm b c) ∙ sym (times-times a c b)

pub first_last : (a b c : ℤ) → (a *ℤ b) *ℤ c ≡ (c *ℤ b) *ℤ a
first_last a b c = ap (λ z. z *ℤ c) (*ℤ_comm a b) ∙ last_two b a c ∙ ap (λ z. z *ℤ a) (*ℤ_comm b c)

-- a product with a number from 1 on is no nearer to 0
pub grows_above : (u v : ℤ) → pos 0 ≤ℤ u → pos 1 ≤ℤ v → u ≤ℤ (u *ℤ v)
grows_above (pos m) (pos (suc n)) h k = let e = pos-*ℤ-pos m (suc n) in subst (λ z. pos m ≤ℤ z) (sym e) (let less : m ≤ m * suc n = omega arith in omega (arith, ints, less))
grows_above (pos m) (pos zero) h k = absurd (omega (arith, ints, k))
grows_above (pos m) (negsuc n) h k = absurd (omega (arith, ints, k))
grows_above (negsuc m) v h k = absurd (omega (arith, ints, h))

pub grows_below : (u v : ℤ) → u ≤ℤ pos 0 → pos 1 ≤ℤ v → (u *ℤ v) ≤ℤ u
grows_below u v h k =
    let up = grows_above (pos 0 -ℤ u) v (omega (arith, ints, h)) k in
    let e = difference-times (pos 0) u v ∙ ap (λ z. z -ℤ (u *ℤ v)) (zero-*ℤ v) in
    turned u (u *ℤ v) (subst (λ z. (pos 0 -ℤ u) ≤ℤ z) e up)
  where
    turned : (x y : ℤ) → (pos 0 -ℤ x) ≤ℤ (pos 0 -ℤ y) → y ≤ℤ x
    turned x y h = omega (arith, ints, h)
