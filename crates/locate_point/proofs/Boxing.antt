-- A point that a triangle contains lies between its corners, in x and in y.
use Rattle.std.proofs.Common.{◌≡◌, sym, ap, ◌∙◌, arith, ⊎_elim}
use Rattle.std.specs.Prelude.{ℤ, pos, ◌+ℤ◌, ◌-ℤ◌, ◌*ℤ◌, ◌≤ℤ◌, ◌⊎◌}
use Rattle.std.specs.Int.Signed.{◌<ℤ◌}
use Rattle.std.proofs.Math.IntN.{*ℤ-zero}
use Rattle.std.proofs.lemmas.Int.{ints, by_lt_z}
use Rattle.compat_check.specs.Faults.{doubled_area}
use Rattle.compat_check.specs.Points.{Point}
use Rattle.locate_point.specs.Covering.{Corners, Covers, NoneAbove, NoneBelow, areas, doubled}
use Rattle.locate_point.proofs.Halves.{area-turned, areas-sum}
use Rattle.locate_point.proofs.Products.{difference-times, first_last, grows_above, grows_below, last_two, times-difference}

-- three areas, each times the way to its corner, come to nothing: in x
level : (u0 u1 v0 v1 w0 w1 : ℤ) → ((((v0 *ℤ w1) -ℤ (w0 *ℤ v1)) *ℤ u0) +ℤ (((w0 *ℤ u1) -ℤ (u0 *ℤ w1)) *ℤ v0)) +ℤ (((u0 *ℤ v1) -ℤ (v0 *ℤ u1)) *ℤ w0) ≡ pos 0
level u0 u1 v0 v1 w0 w1 =
    (λ i. (difference-times (v0 *ℤ w1) (w0 *ℤ v1) u0 i +ℤ difference-times (w0 *ℤ u1) (u0 *ℤ w1) v0 i) +ℤ difference-times (u0 *ℤ v1) (v0 *ℤ u1) w0 i)
    ∙ nothing ((v0 *ℤ w1) *ℤ u0) ((w0 *ℤ v1) *ℤ u0) ((w0 *ℤ u1) *ℤ v0) ((u0 *ℤ w1) *ℤ v0) ((u0 *ℤ v1) *ℤ w0) ((v0 *ℤ u1) *ℤ w0) (first_last v0 w1 u0) (first_last w0 v1 u0) (first_last w0 u1 v0)
  where
    nothing : (a b c d e f : ℤ) → a ≡ d → b ≡ e → c ≡ f → ((a -ℤ b) +ℤ (c -ℤ d)) +ℤ (e -ℤ f) ≡ pos 0
    nothing a b c d e f p q r = omega (arith, ints, p, q, r)

-- and in y
upright : (u0 u1 v0 v1 w0 w1 : ℤ) → ((((v0 *ℤ w1) -ℤ (w0 *ℤ v1)) *ℤ u1) +ℤ (((w0 *ℤ u1) -ℤ (u0 *ℤ w1)) *ℤ v1)) +ℤ (((u0 *ℤ v1) -ℤ (v0 *ℤ u1)) *ℤ w1) ≡ pos 0
upright u0 u1 v0 v1 w0 w1 =
    (λ i. (difference-times (v0 *ℤ w1) (w0 *ℤ v1) u1 i +ℤ difference-times (w0 *ℤ u1) (u0 *ℤ w1) v1 i) +ℤ difference-times (u0 *ℤ v1) (v0 *ℤ u1) w1 i)
    ∙ nothing ((v0 *ℤ w1) *ℤ u1) ((w0 *ℤ v1) *ℤ u1) ((w0 *ℤ u1) *ℤ v1) ((u0 *ℤ w1) *ℤ v1) ((u0 *ℤ v1) *ℤ w1) ((v0 *ℤ u1) *ℤ w1) (last_two v0 w1 u1) (last_two w0 v1 u1) (last_two u0 w1 v1)
  where
    nothing : (a b c d e f : ℤ) → a ≡ f → b ≡ c → d ≡ e → ((a -ℤ b) +ℤ (c -ℤ d)) +ℤ (e -ℤ f) ≡ pos 0
    nothing a b c d e f p q r = omega (arith, ints, p, q, r)

-- weights of one sign, not all 0, do not balance on one side
unbalanced : (alpha beta gamma whole x y z : ℤ) → (alpha +ℤ beta) +ℤ gamma ≡ whole → (whole ≡ pos 0 → ⊥) → NoneBelow (alpha, beta, gamma) ⊎ NoneAbove (alpha, beta, gamma) → pos 1 ≤ℤ x → pos 1 ≤ℤ y → pos 1 ≤ℤ z →
    ((alpha *ℤ x) +ℤ (beta *ℤ y)) +ℤ (gamma *ℤ z) ≡ pos 0 → ⊥
unbalanced alpha beta gamma whole x y z sum thick within hx hy hz balance = ⊎_elim
    (λ (n : NoneBelow (alpha, beta, gamma)). thick (above whole alpha beta gamma (alpha *ℤ x) (beta *ℤ y) (gamma *ℤ z) sum n.0 n.1 n.2 (grows_above alpha x n.0 hx) (grows_above beta y n.1 hy) (grows_above gamma z n.2 hz) balance))
    (λ (n : NoneAbove (alpha, beta, gamma)). thick (below whole alpha beta gamma (alpha *ℤ x) (beta *ℤ y) (gamma *ℤ z) sum n.0 n.1 n.2 (grows_below alpha x n.0 hx) (grows_below beta y n.1 hy) (grows_below gamma z n.2 hz) balance))
    within
  where
    above : (d a b c p q r : ℤ) → (a +ℤ b) +ℤ c ≡ d → pos 0 ≤ℤ a → pos 0 ≤ℤ b → pos 0 ≤ℤ c → a ≤ℤ p → b ≤ℤ q → c ≤ℤ r → (p +ℤ q) +ℤ r ≡ pos 0 → d ≡ pos 0
    above d a b c p q r s h k l e f g t = omega (arith, ints, s, h, k, l, e, f, g, t)

    below : (d a b c p q r : ℤ) → (a +ℤ b) +ℤ c ≡ d → a ≤ℤ pos 0 → b ≤ℤ pos 0 → c ≤ℤ pos 0 → p ≤ℤ a → q ≤ℤ b → r ≤ℤ c → (p +ℤ q) +ℤ r ≡ pos 0 → d ≡ pos 0
    below d a b c p q r s h k l e f g t = omega (arith, ints, s, h, k, l, e, f, g, t)

-- the areas by the ways from the point to the corners
area_by : (b c p : Point) → doubled_area b c p ≡ ((b.0 -ℤ p.0) *ℤ (c.1 -ℤ p.1)) -ℤ ((c.0 -ℤ p.0) *ℤ (b.1 -ℤ p.1))
area_by b c p = area-turned b c p ∙ area-turned c p b

module _ (t : Corners) (p : Point) where
  balance_x : ((((areas t p).0) *ℤ (t.0.0 -ℤ p.0)) +ℤ ((areas t p).1 *ℤ (t.1.0 -ℤ p.0))) +ℤ ((areas t p).2 *ℤ (t.2.0 -ℤ p.0)) ≡ pos 0
  balance_x = (λ i. ((area_by t.1 t.2 p i *ℤ (t.0.0 -ℤ p.0)) +ℤ (area_by t.2 t.0 p i *ℤ (t.1.0 -ℤ p.0))) +ℤ (area_by t.0 t.1 p i *ℤ (t.2.0 -ℤ p.0))) ∙ level (t.0.0 -ℤ p.0) (t.0.1 -ℤ p.1) (t.1.0 -ℤ p.0) (t.1.1 -ℤ p.1) (t.2.0 -ℤ p.0) (t.2.1 -ℤ p.1)

  balance_y : ((((areas t p).0) *ℤ (t.0.1 -ℤ p.1)) +ℤ ((areas t p).1 *ℤ (t.1.1 -ℤ p.1))) +ℤ ((areas t p).2 *ℤ (t.2.1 -ℤ p.1)) ≡ pos 0
  balance_y = (λ i. ((area_by t.1 t.2 p i *ℤ (t.0.1 -ℤ p.1)) +ℤ (area_by t.2 t.0 p i *ℤ (t.1.1 -ℤ p.1))) +ℤ (area_by t.0 t.1 p i *ℤ (t.2.1 -ℤ p.1))) ∙ upright (t.0.0 -ℤ p.0) (t.0.1 -ℤ p.1) (t.1.0 -ℤ p.0) (t.1.1 -ℤ p.1) (t.2.0 -ℤ p.0) (t.2.1 -ℤ p.1)

-- a sum of products with the ways turned round
turn_one : (a x y : ℤ) → a *ℤ (x -ℤ y) ≡ pos 0 -ℤ (a *ℤ (y -ℤ x))
turn_one a x y = ap (λ z. a *ℤ z) (turned x y) ∙ times-difference a (pos 0) (y -ℤ x) ∙ ap (λ z. z -ℤ (a *ℤ (y -ℤ x))) (*ℤ-zero a)
  where
    turned : (x y : ℤ) → x -ℤ y ≡ pos 0 -ℤ (y -ℤ x)
    turned x y = omega (arith, ints)

turn_all : (a b c x y z q : ℤ) → ((a *ℤ (x -ℤ q)) +ℤ (b *ℤ (y -ℤ q))) +ℤ (c *ℤ (z -ℤ q)) ≡ pos 0 → ((a *ℤ (q -ℤ x)) +ℤ (b *ℤ (q -ℤ y))) +ℤ (c *ℤ (q -ℤ z)) ≡ pos 0
turn_all a b c x y z q e = negative (a *ℤ (q -ℤ x)) (b *ℤ (q -ℤ y)) (c *ℤ (q -ℤ z)) (sym (λ i. (turn_one a x q i +ℤ turn_one b y q i) +ℤ turn_one c z q i) ∙ e)
  where
    negative : (p q r : ℤ) → ((pos 0 -ℤ p) +ℤ (pos 0 -ℤ q)) +ℤ (pos 0 -ℤ r) ≡ pos 0 → (p +ℤ q) +ℤ r ≡ pos 0
    negative p q r e = omega (arith, ints, e)

one_more : (l x p : ℤ) → l ≤ℤ x → p <ℤ l → pos 1 ≤ℤ (x -ℤ p)
one_more l x p h k = omega (arith, ints, h, k)

one_less : (g x p : ℤ) → x ≤ℤ g → g <ℤ p → pos 1 ≤ℤ (p -ℤ x)
one_less g x p h k = omega (arith, ints, h, k)

-- a coordinate that lies between, where its ways balance
between_ends : (alpha beta gamma whole x y z p l g : ℤ) → (alpha +ℤ beta) +ℤ gamma ≡ whole → (whole ≡ pos 0 → ⊥) → NoneBelow (alpha, beta, gamma) ⊎ NoneAbove (alpha, beta, gamma) →
    ((alpha *ℤ (x -ℤ p)) +ℤ (beta *ℤ (y -ℤ p))) +ℤ (gamma *ℤ (z -ℤ p)) ≡ pos 0 → (l ≤ℤ x) × (l ≤ℤ y) × (l ≤ℤ z) → (x ≤ℤ g) × (y ≤ℤ g) × (z ≤ℤ g) → (l ≤ℤ p) × (p ≤ℤ g)
between_ends alpha beta gamma whole x y z p l g sum thick within balance low high = (
  by_lt_z p l (λ k. absurd (unbalanced alpha beta gamma whole (x -ℤ p) (y -ℤ p) (z -ℤ p) sum thick within (one_more l x p low.0 k) (one_more l y p low.1 k) (one_more l z p low.2 k) balance)) (λ h. h),
  by_lt_z g p (λ k. absurd (unbalanced alpha beta gamma whole (p -ℤ x) (p -ℤ y) (p -ℤ z) sum thick within (one_less g x p high.0 k) (one_less g y p high.1 k) (one_less g z p high.2 k) (turn_all alpha beta gamma x y z p balance))) (λ h. h),
)

pub boxed_x : (t : Corners) (p : Point) (l g : ℤ) → Covers t p → (l ≤ℤ t.0.0) × (l ≤ℤ t.1.0) × (l ≤ℤ t.2.0) → (t.0.0 ≤ℤ g) × (t.1.0 ≤ℤ g) × (t.2.0 ≤ℤ g) → (l ≤ℤ p.0) × (p.0 ≤ℤ g)
boxed_x t p l g c low high = between_ends (areas t p).0 (areas t p).1 (areas t p).2 (doubled t) t.0.0 t.1.0 t.2.0 p.0 l g (areas-sum t.0 t.1 t.2 p) c.thick c.within (balance_x t p) low high

pub boxed_y : (t : Corners) (p : Point) (l g : ℤ) → Covers t p → (l ≤ℤ t.0.1) × (l ≤ℤ t.1.1) × (l ≤ℤ t.2.1) → (t.0.1 ≤ℤ g) × (t.1.1 ≤ℤ g) × (t.2.1 ≤ℤ g) → (l ≤ℤ p.1) × (p.1 ≤ℤ g)
boxed_y t p l g c low high = between_ends (areas t p).0 (areas t p).1 (areas t p).2 (doubled t) t.0.1 t.1.1 t.2.1 p.1 l g (areas-sum t.0 t.1 t.2 p) c.thick c.within (balance_y t p) low high
