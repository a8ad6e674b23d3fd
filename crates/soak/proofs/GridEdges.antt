-- The edges of a grid's triangles, by the numbers of their ends.
use Rattle.std.proofs.Common.{◌≡◌, ℕ, ◌+◌, ◌*◌, ◌/◌, ◌%◌, ◌<◌, ◌≤◌, Bool, true, false, cond, eqb, eqb-true, min, refl, sym, ap, ◌∙◌, inl, inr, arith}
use Rattle.std.proofs.lemmas.Bool.{eqb-false}
use Rattle.std.proofs.lemmas.Nat.{mod-mul-add, div-mul-add}
use Rattle.std.proofs.Math.Nat.{mod-lt, mod-add-div'}
use Rattle.mesh_names.specs.Triangles.{Triple}
use Rattle.mesh_names.specs.Partners.{Edge, Edge0, Edge1, Edge2}
use Rattle.mesh_names.specs.Validity.{IsSamePair, ends_of}
use Rattle.soak.specs.Grid.{lower, upper, first_of, corners_at}

-- whether this is the lower triangle of its square
abbrev pub is_lower : ℕ → Bool
is_lower r = eqb (r % 2) 0

-- one of the two triangles of the square whose vertex of least number is a
abbrev pub half_of : ℕ → Bool → ℕ → Triple
half_of g b a = cond b (lower g a) (upper g a)

-- the ends of an edge are l and l + d, in either order
abbrev Spans : ℕ × ℕ → ℕ → ℕ → Type 0
Spans p l d = (min p.0 p.1 ≡ l) × (p.0 + p.1 ≡ l + (l + d))

-- how far apart the numbers of an edge's ends are
abbrev gap : ℕ → Edge → ℕ
gap g Edge0 = 1
gap g Edge1 = g + 1
gap g Edge2 = g + 2

-- how far the lesser of them is from the square's first vertex
abbrev shift : ℕ → Bool → Edge → ℕ
shift g true Edge0 = 0
shift g true Edge1 = 1
shift g true Edge2 = 0
shift g false Edge0 = g + 1
shift g false Edge1 = 0
shift g false Edge2 = 0

spans : (g : ℕ) (b : Bool) (a : ℕ) (e : Edge) → Spans (ends_of (half_of g b a) e) (a + shift g b e) (gap g e)
spans g true a Edge0 = (omega arith, omega arith)
spans g true a Edge1 = (omega arith, omega arith)
spans g true a Edge2 = (omega arith, omega arith)
spans g false a Edge0 = (omega arith, omega arith)
spans g false a Edge1 = (omega arith, omega arith)
spans g false a Edge2 = (omega arith, omega arith)

same_ends : (p q : ℕ × ℕ) → IsSamePair p q → (min p.0 p.1 ≡ min q.0 q.1) × (p.0 + p.1 ≡ q.0 + q.1)
same_ends p q (inl h) = (omega (arith, h), omega (arith, h))
same_ends p q (inr h) = (omega (arith, h), omega (arith, h))

one_edge : (p q : ℕ × ℕ) (l d m e : ℕ) → Spans p l d → Spans q m e → IsSamePair p q → (l ≡ m) × (d ≡ e)
one_edge p q l d m e x y h = let same = same_ends p q h in (omega (arith, x, y, same), omega (arith, x, y, same))

same_gap : (g : ℕ) → 1 ≤ g → (e f : Edge) → gap g e ≡ gap g f → e ≡ f
same_gap g some Edge0 Edge0 h = refl
same_gap g some Edge0 Edge1 h = absurd (omega (arith, some, h))
same_gap g some Edge0 Edge2 h = absurd (omega (arith, some, h))
same_gap g some Edge1 Edge0 h = absurd (omega (arith, some, h))
same_gap g some Edge1 Edge1 h = refl
same_gap g some Edge1 Edge2 h = absurd (omega (arith, some, h))
same_gap g some Edge2 Edge0 h = absurd (omega (arith, some, h))
same_gap g some Edge2 Edge1 h = absurd (omega (arith, some, h))
same_gap g some Edge2 Edge2 h = refl

-- the lesser number of an edge's ends
abbrev pub low_end : ℕ → ℕ → Edge → ℕ
low_end g r e = first_of g (r / 2) + shift g (is_lower r) e

-- an edge is the same one of three in each element that has it
pub record IsOneEdge (g r : ℕ) (e : Edge) (s : ℕ) (f : Edge) : Type 0 where
  pub kind : e ≡ f
  pub place : low_end g r e ≡ low_end g s f

pub one_place : (g : ℕ) → 1 ≤ g → (r s : ℕ) (e f : Edge) → IsSamePair (ends_of (corners_at g r) e) (ends_of (corners_at g s) f) → IsOneEdge g r e s f
one_place g some r s e f h =
    let one = one_edge (ends_of (corners_at g r) e) (ends_of (corners_at g s) f) (low_end g r e) (gap g e) (low_end g s f) (gap g f) (spans g (is_lower r) (first_of g (r / 2)) e) (spans g (is_lower s) (first_of g (s / 2)) f) h in
    record { kind = same_gap g some e f one.1; place = one.0 }

-- a square's first vertex tells the square
pub same_square : (g : ℕ) → 1 ≤ g → (k l : ℕ) → first_of g k ≡ first_of g l → k ≡ l
same_square g some k l h =
    let low_k : k % g < g = mod-lt k some in
    let low_l : l % g < g = mod-lt l some in
    let column : k % g ≡ l % g = sym (mod-mul-add (k / g) (g + 1) (k % g) (omega (arith, low_k))) ∙ ap (λ n. n % (g + 1)) h ∙ mod-mul-add (l / g) (g + 1) (l % g) (omega (arith, low_l)) in
    let row : k / g ≡ l / g = sym (div-mul-add (k / g) (g + 1) (k % g) (omega (arith, low_k))) ∙ ap (λ n. n / (g + 1)) h ∙ div-mul-add (l / g) (g + 1) (l % g) (omega (arith, low_l)) in
    sym (mod-add-div' k g) ∙ (λ i. column i + row i * g) ∙ mod-add-div' l g

odd_rest : (r : ℕ) → (r % 2 ≡ 0 → ⊥) → r % 2 ≡ 1
odd_rest r h = omega (arith, h)

same_rest : (r s : ℕ) (b : Bool) → is_lower r ≡ b → is_lower s ≡ b → r % 2 ≡ s % 2
same_rest r s true x y = eqb-true (r % 2) 0 x ∙ sym (eqb-true (s % 2) 0 y)
same_rest r s false x y = odd_rest r (eqb-false (r % 2) 0 x) ∙ sym (odd_rest s (eqb-false (s % 2) 0 y))

-- two lower, or two upper, triangles of squares with one first vertex are one
pub same_element : (g : ℕ) → 1 ≤ g → (r s : ℕ) → is_lower r ≡ is_lower s → first_of g (r / 2) ≡ first_of g (s / 2) → r ≡ s
same_element g some r s b h =
    let square : r / 2 ≡ s / 2 = same_square g some (r / 2) (s / 2) h in
    let rest : r % 2 ≡ s % 2 = same_rest r s (is_lower s) b refl in
    omega (arith, square, rest)

-- two lower, or two upper, triangles with one edge are one
pub one_side : (g : ℕ) → 1 ≤ g → (r s : ℕ) (e f : Edge) → IsOneEdge g r e s f → is_lower r ≡ is_lower s → r ≡ s
one_side g some r s e f h b =
    let shifts : shift g (is_lower r) e ≡ shift g (is_lower s) f = λ i. shift g (b i) (h.kind i) in
    same_element g some r s b (omega (arith, shifts, h.place))
