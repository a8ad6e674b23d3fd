-- The areas and the values of the three pieces sum to those of their element.
use Rattle.std.proofs.Common.{◌≡◌, ℕ, refl, sym, ap, ◌∙◌, arith}
use Rattle.std.specs.Prelude.{ℤ, pos, negsuc, ◌+ℤ◌, ◌-ℤ◌, ◌*ℤ◌, neg_ℤ}
use Rattle.std.proofs.Math.IntN.{ℤ_ind, zero-*ℤ, *ℤ_comm, suc_ℤ-*ℤ, pred_ℤ-*ℤ, +ℤ_one, -ℤ_one}
use Rattle.std.proofs.lemmas.Int.{ints}
use Rattle.mesh_names.specs.Partners.{Edge0, Edge1, Edge2}
use Rattle.compat_check.specs.Faults.{doubled_area}
use Rattle.mesh_mend.specs.Mended.{quarter, share}

shares : (value q : ℤ) → (q +ℤ q) +ℤ (value -ℤ (q +ℤ q)) ≡ value
shares value q = omega (arith, ints)

pub values_sum : (value : ℤ) → (share value Edge0 +ℤ share value Edge1) +ℤ share value Edge2 ≡ value
values_sum value = shares value (quarter value)

-- ---- products of sums
one_more : (m k : ℤ) → (m +ℤ pos 1) *ℤ k ≡ m *ℤ k +ℤ k
one_more m k = ap (λ x. x *ℤ k) (+ℤ_one m) ∙ suc_ℤ-*ℤ m k

one_less : (m k : ℤ) → (m +ℤ neg_ℤ (pos 1)) *ℤ k ≡ m *ℤ k -ℤ k
one_less m k = ap (λ x. x *ℤ k) (-ℤ_one m) ∙ pred_ℤ-*ℤ m k

regroup : (a b c : ℤ) → a +ℤ (b +ℤ c) ≡ (a +ℤ b) +ℤ c
regroup a b c = omega (arith, ints)

move_up : (x y z k : ℤ) → x ≡ y +ℤ z → x +ℤ k ≡ y +ℤ (z +ℤ k)
move_up x y z k h = omega (arith, ints)

move_down : (x y z k : ℤ) → x ≡ y +ℤ z → x -ℤ k ≡ y +ℤ (z -ℤ k)
move_down x y z k h = omega (arith, ints)

none_more : (x y z : ℤ) → z ≡ pos 0 → x ≡ y → x ≡ y +ℤ z
none_more x y z h e = omega (arith, ints)

no_more : (a : ℤ) → a +ℤ pos 0 ≡ a
no_more a = omega (arith, ints)

sum_times : (a b k : ℤ) → (a +ℤ b) *ℤ k ≡ a *ℤ k +ℤ b *ℤ k
sum_times a b k = ℤ_ind (λ (x : ℤ). (a +ℤ x) *ℤ k ≡ a *ℤ k +ℤ x *ℤ k)
    (none_more ((a +ℤ pos 0) *ℤ k) (a *ℤ k) (pos 0 *ℤ k) (zero-*ℤ k) (ap (λ x. x *ℤ k) (no_more a)))
    (λ n h. ap (λ x. x *ℤ k) (regroup a (pos n) (pos 1)) ∙ one_more (a +ℤ pos n) k ∙ move_up ((a +ℤ pos n) *ℤ k) (a *ℤ k) (pos n *ℤ k) k h ∙ ap (λ x. a *ℤ k +ℤ x) (sym (one_more (pos n) k)))
    (λ n h. ap (λ x. x *ℤ k) (regroup a (neg_ℤ (pos n)) (neg_ℤ (pos 1))) ∙ one_less (a +ℤ neg_ℤ (pos n)) k ∙ move_down ((a +ℤ neg_ℤ (pos n)) *ℤ k) (a *ℤ k) (neg_ℤ (pos n) *ℤ k) k h ∙ ap (λ x. a *ℤ k +ℤ x) (sym (one_less (neg_ℤ (pos n)) k)))
    b

back : (x y : ℤ) → (x -ℤ y) +ℤ y ≡ x
back x y = omega (arith, ints)

taken : (x y z : ℤ) → x ≡ y +ℤ z → y ≡ x -ℤ z
taken x y z h = omega (arith, ints)

difference_times : (x y k : ℤ) → (x -ℤ y) *ℤ k ≡ x *ℤ k -ℤ y *ℤ k
difference_times x y k = taken (x *ℤ k) ((x -ℤ y) *ℤ k) (y *ℤ k) (ap (λ z. z *ℤ k) (sym (back x y)) ∙ sum_times (x -ℤ y) y k)

times_difference : (k z w : ℤ) → k *ℤ (z -ℤ w) ≡ k *ℤ z -ℤ k *ℤ w
times_difference k z w = *ℤ_comm k (z -ℤ w) ∙ difference_times z w k ∙ (λ i. *ℤ_comm z k i -ℤ *ℤ_comm w k i)

product : (x y z w : ℤ) → (x -ℤ y) *ℤ (z -ℤ w) ≡ (x *ℤ z -ℤ x *ℤ w) -ℤ (y *ℤ z -ℤ y *ℤ w)
product x y z w = difference_times x y (z -ℤ w) ∙ (λ i. times_difference x z w i -ℤ times_difference y z w i)

-- ---- areas
-- twice the area of the origin and two points
abbrev pub across : ℤ × ℤ → ℤ × ℤ → ℤ
across p q = (p.0 *ℤ q.1) -ℤ (q.0 *ℤ p.1)

linear : (bc ba ac aa cb ca ab : ℤ) → ((bc -ℤ ba) -ℤ (ac -ℤ aa)) -ℤ ((cb -ℤ ca) -ℤ (ab -ℤ aa)) ≡ ((ab -ℤ ba) +ℤ (bc -ℤ cb)) +ℤ (ca -ℤ ac)
linear bc ba ac aa cb ca ab = omega (arith, ints)

area_is : (a b c : ℤ × ℤ) → doubled_area a b c ≡ (across a b +ℤ across b c) +ℤ across c a
area_is a b c = (λ i. product b.0 a.0 c.1 a.1 i -ℤ product c.0 a.0 b.1 a.1 i)
    ∙ linear (b.0 *ℤ c.1) (b.0 *ℤ a.1) (a.0 *ℤ c.1) (a.0 *ℤ a.1) (c.0 *ℤ b.1) (c.0 *ℤ a.1) (a.0 *ℤ b.1)

cancel : (ab bc ca am bm cm ma mb mc : ℤ) → am +ℤ ma ≡ pos 0 → bm +ℤ mb ≡ pos 0 → cm +ℤ mc ≡ pos 0 →
    ((((bc +ℤ cm) +ℤ mb) +ℤ ((ca +ℤ am) +ℤ mc)) +ℤ ((ab +ℤ bm) +ℤ ma)) ≡ (ab +ℤ bc) +ℤ ca
cancel ab bc ca am bm cm ma mb mc e f g = omega (arith, ints)

opposite : (x y : ℤ) → (x -ℤ y) +ℤ (y -ℤ x) ≡ pos 0
opposite x y = omega (arith, ints)

across_back : (p q : ℤ × ℤ) → across p q +ℤ across q p ≡ pos 0
across_back p q = opposite (p.0 *ℤ q.1) (q.0 *ℤ p.1)

-- whatever the point m
pub areas_sum : (a b c m : ℤ × ℤ) → (doubled_area b c m +ℤ doubled_area c a m) +ℤ doubled_area a b m ≡ doubled_area a b c
areas_sum a b c m = (λ i. (area_is b c m i +ℤ area_is c a m i) +ℤ area_is a b m i)
    ∙ cancel (across a b) (across b c) (across c a) (across a m) (across b m) (across c m) (across m a) (across m b) (across m c) (across_back a m) (across_back b m) (across_back c m)
    ∙ sym (area_is a b c)
