-- The middle of a pair is one, in either order.
use Rattle.std.proofs.Common.{◌≡◌, ◌⊎◌, ℕ, Bool, true, false, cond, ltb, ◌&&◌, ◌||◌, true≢false, refl, sym, ap, ◌∙◌, arith, ⊎_elim, inl, inr, subst, ◌<◌, ◌≤◌, eq-eqb, eqb-true, le-ltb, lt-ltb, ne_eqb}
use native.Mathlib.Decide.{dec_lt}
use Rattle.mesh_names.specs.Triangles.{Vertex, Corner, Mid, same, before, middle}

-- One of two vertices comes before the other, and never both do, unless they are one
pub same_self : (a : Vertex) → same a a ≡ true
same_self (Corner i) = eq-eqb i i refl
same_self (Mid a b) = λ i. same_self a i && same_self b i

and_both : (a b : Bool) → (a && b) ≡ true → (a ≡ true) × (b ≡ true)
and_both true b e = (refl, e)
and_both false b e = absurd (true≢false (sym e))

pub same-is : (a b : Vertex) → same a b ≡ true → a ≡ b
same-is (Corner i) (Corner j) e = ap Corner (eqb-true i j e)
same-is (Corner i) (Mid c d) e = absurd (true≢false (sym e))
same-is (Mid a b) (Corner j) e = absurd (true≢false (sym e))
same-is (Mid a b) (Mid c d) e = let t = and_both (same a c) (same b d) e in let p = same-is a c t.0 in let q = same-is b d t.1 in λ i. Mid (p i) (q i)

-- how two vertices stand
abbrev One : Vertex → Vertex → Type 0
One a b = (a ≡ b) ⊎ ((before a b ≡ true) × (before b a ≡ false) × (same a b ≡ false) × (same b a ≡ false))

abbrev Stands : Vertex → Vertex → Type 0
Stands a b = One a b ⊎ One b a

pub middle_comm : (a b : Vertex) → Stands a b → middle a b ≡ middle b a
middle_comm a b s = ⊎_elim (one a b) (λ t. sym (one b a t)) s
  where
    one : (x y : Vertex) → One x y → middle x y ≡ middle y x
    one x y s = ⊎_elim (λ (e : x ≡ y). λ i. middle (e i) (sym e i))
        (λ (t : (before x y ≡ true) × (before y x ≡ false) × (same x y ≡ false) × (same y x ≡ false)).
        ap (λ (c : Bool). cond c (Mid y x) (Mid x y)) t.1 ∙ sym (ap (λ (c : Bool). cond c (Mid x y) (Mid y x)) t.0))
        s

before_self : (a : Vertex) → before a a ≡ false
before_self (Corner i) = ltb_self i
  where
    ltb_self : (i : ℕ) → ltb i i ≡ false
    ltb_self i = le_ltb_no i i (omega arith)
      where
        le_ltb_no : (i j : ℕ) → j ≤ i → ltb i j ≡ false
        le_ltb_no i j h = le-ltb i j h
before_self (Mid a b) = λ i. before_self a i || (same_self a i && before_self b i)

numbers : (i j : ℕ) → Dec (i < j) → Dec (j < i) → Stands (Corner i) (Corner j)
numbers i j (yes h) d = inl (inr (lt-ltb i j h, le-ltb j i (omega arith), ne_eqb i j (λ e. omega arith), ne_eqb j i (λ e. omega arith)))
numbers i j (no h) (yes g) = inr (inr (lt-ltb j i g, le-ltb i j (omega arith), ne_eqb j i (λ e. omega arith), ne_eqb i j (λ e. omega arith)))
numbers i j (no h) (no g) = let e : i ≡ j = omega (arith, h, g) in inl (inl (ap Corner e))

by_first : (a b c d : Vertex) → (before a c ≡ true) × (before c a ≡ false) × (same a c ≡ false) × (same c a ≡ false) → One (Mid a b) (Mid c d)
by_first a b c d t = inr (
  (λ i. t.0 i || (same a c && before b d)),
  (λ i. t.1 i || (t.3 i && before d b)),
  (λ i. t.2 i && same b d),
  (λ i. t.3 i && same d b),
)

by_second : (a b d : Vertex) → One b d → One (Mid a b) (Mid a d)
by_second a b d s = ⊎_elim (λ (e : b ≡ d). inl (ap (Mid a) e))
    (λ (t : (before b d ≡ true) × (before d b ≡ false) × (same b d ≡ false) × (same d b ≡ false)). inr (
      (λ i. before_self a i || (same_self a i && t.0 i)),
      (λ i. before_self a i || (same_self a i && t.1 i)),
      (λ i. same_self a i && t.2 i),
      (λ i. same_self a i && t.3 i),
    ))
    s

pub stands : (a b : Vertex) → Stands a b
stands (Corner i) (Corner j) = numbers i j (dec_lt i j) (dec_lt j i)
stands (Corner i) (Mid c d) = inl (inr (refl, refl, refl, refl))
stands (Mid a b) (Corner j) = inr (inr (refl, refl, refl, refl))
stands (Mid a b) (Mid c d) = ⊎_elim
    (⊎_elim
    (λ (e : a ≡ c). subst (λ x. Stands (Mid a b) (Mid x d)) e (⊎_elim (λ s. inl (by_second a b d s)) (λ s. inr (by_second a d b s)) (stands b d)))
    (λ t. inl (by_first a b c d t)))
    (⊎_elim
    (λ (e : c ≡ a). subst (λ x. Stands (Mid x b) (Mid c d)) e (⊎_elim (λ s. inl (by_second c b d s)) (λ s. inr (by_second c d b s)) (stands b d)))
    (λ t. inr (by_first c d a b t)))
    (stands a c)

-- the two ends of an edge have one middle, in either order
pub middle-swap : (a b : Vertex) → middle a b ≡ middle b a
middle-swap a b = middle_comm a b (stands a b)
