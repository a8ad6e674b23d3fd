-- No midpoint is rounded where the macro coordinates have at most ten decimals.
use Rattle.std.proofs.Common.{◌≡◌, ℕ, zero, suc, ◌+◌, ◌*◌, ◌-◌, ◌^◌, Bool, true, false, List, [], ◌∷◌, length, refl, sym, ap, ◌∙◌, subst, arith}
use native.Mathlib.Numerals.{unary_clauses}
use Rattle.std.specs.Prelude.{ℤ, pos, negsuc, ◌+ℤ◌, nat_abs}
use Rattle.std.proofs.lemmas.Int.{ints}
use Rattle.macro_file.specs.declared.text.MacroVertex.{MacroVertex}
use Rattle.mesh_names.specs.Names.{Name}
use Rattle.mesh_names.specs.Triangles.{Triangle, Vertex, middle, child_triangle, below, top_of}
use Rattle.compat_check.specs.Meshes.{shape_of}
use Rattle.compat_check.proofs.Placing.{middle_lies}
use Rattle.compat_check.specs.Points.{Point, half, between, point, IsMultiple, LiesOn, IsHalfway, IsExact, MidpointsExact}

-- z can be halved this many times with no rest
abbrev Halves : ℕ → ℤ → Type 0
Halves zero z = Unit {0}
Halves (suc k) z = (h : ℤ) × (z ≡ h +ℤ h) × Halves k h

half_even : (h : ℤ) → half (h +ℤ h) ≡ h
half_even (pos n) = ap pos (omega arith)
half_even (negsuc n) = ap negsuc (omega arith)

size_even : (h : ℤ) → nat_abs (h +ℤ h) ≡ 2 * nat_abs h
size_even (pos n) = omega arith
size_even (negsuc n) = omega arith

even_is : (z : ℤ) (m : ℕ) → nat_abs z ≡ 2 * m → (z ≡ half z +ℤ half z) × (nat_abs (half z) ≡ m)
even_is (pos n) m e = (ap pos (omega (arith, e)), omega (arith, e))
even_is (negsuc n) m e = (ap negsuc (omega (arith, e)), omega (arith, e))

commuted : (n : ℕ) → n * 2 ≡ 2 * n
commuted n = omega arith

pow_step : (j : ℕ) → 2 ^ suc j ≡ 2 * 2 ^ j
pow_step j = simp unary_clauses (commuted (2 ^ j))

twice_first : (k u : ℕ) → k * (2 * u) ≡ 2 * (k * u)
twice_first k u = omega arith

up : (j : ℕ) (z : ℤ) → Halves j z → IsMultiple (2 ^ j) z
up zero z h = (nat_abs z, omega arith)
up (suc j) z (h, e, rest) = let (k, told) = up j h rest in (k, ap nat_abs e ∙ size_even h ∙ ap (λ n. 2 * n) told ∙ sym (twice_first k (2 ^ j)) ∙ ap (λ n. k * n) (sym (pow_step j)))

down : (j : ℕ) (z : ℤ) → IsMultiple (2 ^ j) z → Halves j z
down zero z h = tt
down (suc j) z (k, e) = let (same, size) = even_is z (k * 2 ^ j) (e ∙ ap (λ n. k * n) (pow_step j) ∙ twice_first k (2 ^ j)) in (half z, same, down j (half z) (k, size))

sum_of_doubles : (a b : ℤ) → (a +ℤ a) +ℤ (b +ℤ b) ≡ (a +ℤ b) +ℤ (a +ℤ b)
sum_of_doubles a b = omega (arith, ints)

sum_halves : (j : ℕ) (x y : ℤ) → Halves j x → Halves j y → Halves j (x +ℤ y)
sum_halves zero x y h k = tt
sum_halves (suc j) x y (a, ea, ha) (b, eb, hb) = (a +ℤ b, (λ i. ea i +ℤ eb i) ∙ sum_of_doubles a b, sum_halves j a b ha hb)

fewer : (j : ℕ) (z : ℤ) → Halves (suc j) z → Halves j z
fewer j z (h, e, rest) = subst (Halves j) (sym e) (sum_halves j h h rest rest)

-- the half of a sum, of two numbers that can be halved
record IsHalfSum (j : ℕ) (x y : ℤ) : Type 0 where
  pub exact : half (x +ℤ y) +ℤ half (x +ℤ y) ≡ x +ℤ y
  pub again : Halves j (half (x +ℤ y))

half_sum : (j : ℕ) (x y : ℤ) → Halves (suc j) x → Halves (suc j) y → IsHalfSum j x y
half_sum j x y (a, ea, ha) (b, eb, hb) =
    let sum : x +ℤ y ≡ (a +ℤ b) +ℤ (a +ℤ b) = (λ i. ea i +ℤ eb i) ∙ sum_of_doubles a b in
    let halved : half (x +ℤ y) ≡ a +ℤ b = ap half sum ∙ half_even (a +ℤ b) in
    record { exact = (λ i. halved i +ℤ halved i) ∙ sym sum; again = subst (Halves j) (sym halved) (sum_halves j a b ha hb) }

-- both coordinates can be halved
abbrev On : ℕ → Point → Type 0
On j p = Halves j p.0 × Halves j p.1

between_on : (j : ℕ) (p q : Point) → On (suc j) p → On (suc j) q → On j (between p q) × IsHalfway p q (between p q)
between_on j p q hp hq =
    let x = half_sum j p.0 q.0 hp.0 hq.0 in
    let y = half_sum j p.1 q.1 hp.1 hq.1 in
    ((x.again, y.again), (x.exact, y.exact))

middle_on : (vertices : List MacroVertex) (j : ℕ) (a b : Vertex) → On (suc j) (point vertices a) → On (suc j) (point vertices b) → On j (point vertices (middle a b)) × IsHalfway (point vertices a) (point vertices b) (point vertices (middle a b))
middle_on vertices j a b ha hb = subst (λ (m : Point). On j m × IsHalfway (point vertices a) (point vertices b) m) (sym (middle_lies vertices a b)) (between_on j (point vertices a) (point vertices b) ha hb)

-- half of a number of letters, rounded down
abbrev pairs : ℕ → ℕ
pairs zero = zero
pairs (suc zero) = zero
pairs (suc (suc r)) = suc (pairs r)

relaxed : (r : ℕ) (z : ℤ) → Halves (suc (pairs r)) z → Halves (pairs (suc r)) z
relaxed zero z h = tt
relaxed (suc zero) z h = h
relaxed (suc (suc r)) z (h, e, rest) = (h, e, relaxed r h rest)

relaxed_on : (r : ℕ) (p : Point) → On (suc (pairs r)) p → On (pairs (suc r)) p
relaxed_on r p h = (relaxed r p.0 h.0, relaxed r p.1 h.1)

-- how far the corners of a name that may have r letters more can be halved
record OnGrid (vertices : List MacroVertex) (r : ℕ) (t : Triangle) : Type 0 where
  pub first : On (pairs (suc r)) (point vertices t.0)
  pub second : On (pairs (suc r)) (point vertices t.1)
  pub third : On (pairs r) (point vertices t.2)

child_on : (vertices : List MacroVertex) (r : ℕ) (t : Triangle) (b : Bool) → OnGrid vertices (suc r) t → OnGrid vertices r (child_triangle t b)
child_on vertices r t false g = record { first = g.third; second = relaxed_on r (point vertices t.0) g.first; third = (middle_on vertices (pairs r) t.0 t.1 g.first g.second).0 }
child_on vertices r t true g = record { first = relaxed_on r (point vertices t.1) g.second; second = g.third; third = (middle_on vertices (pairs r) t.0 t.1 g.first g.second).0 }

below_on : (vertices : List MacroVertex) (top : Triangle) (w : List Bool) (r : ℕ) → OnGrid vertices 24 top → length w + r ≡ 24 → OnGrid vertices r (below top w)
below_on vertices top [] r g e = subst (λ (s : ℕ). OnGrid vertices s top) (omega (arith, e)) g
below_on vertices top (b ∷ w) r g e = child_on vertices r (below top w) b (below_on vertices top w (suc r) g (omega (arith, e)))

abbrev doubled : ℕ → ℕ
doubled zero = zero
doubled (suc k) = suc (suc (doubled k))

doubled_is : (k : ℕ) → doubled k ≡ 2 * k
doubled_is zero = refl
doubled_is (suc k) = ap (λ n. suc (suc n)) (doubled_is k) ∙ omega arith

pairs_even : (k : ℕ) → pairs (doubled k) ≡ k
pairs_even zero = refl
pairs_even (suc k) = ap suc (pairs_even k)

pairs_odd : (k : ℕ) → pairs (suc (doubled k)) ≡ k
pairs_odd zero = refl
pairs_odd (suc k) = ap suc (pairs_odd k)

lies : (j k : ℕ) (p : Point) → j ≡ k → On j p → LiesOn (2 ^ k) p
lies j k p e h = (up k p.0 (subst (λ (m : ℕ). Halves m p.0) e h.0), up k p.1 (subst (λ (m : ℕ). Halves m p.1) e h.1))

tenths_on : (p : Point) → LiesOn 4096 p → On 12 p
tenths_on p h = (down 12 p.0 h.0, down 12 p.1 h.1)

exact_by : (vertices : List MacroVertex) (n : Name) (top : Triangle) → OnGrid vertices 24 top → IsExact vertices n (below top n.1)
exact_by vertices n top g = record {
  even = λ j k e w.
      let on = below_on vertices top n.1 (doubled k) g (omega (arith, e, w, doubled_is k)) in
      (lies _ k _ (pairs_odd k) on.first, lies _ k _ (pairs_odd k) on.second, lies _ k _ (pairs_even k) on.third);
  odd = λ j k e w.
      let on = below_on vertices top n.1 (suc (doubled k)) g (omega (arith, e, w, doubled_is k)) in
      (lies _ (suc k) _ (ap suc (pairs_even k)) on.first, lies _ (suc k) _ (ap suc (pairs_even k)) on.second, lies _ k _ (pairs_odd k) on.third);
  midpoint = λ short.
      let on = below_on vertices top n.1 (suc (23 - length n.1)) g (omega (arith, short)) in
      (middle_on vertices (pairs (23 - length n.1)) (below top n.1).0 (below top n.1).1 on.first on.second).1;
}

pub exact : MidpointsExact
exact mesh tenths n =
    let top = top_of (shape_of mesh) n.0 in
    exact_by mesh.vertices n top (record { first = tenths_on _ (tenths _); second = tenths_on _ (tenths _); third = tenths_on _ (tenths _) })
