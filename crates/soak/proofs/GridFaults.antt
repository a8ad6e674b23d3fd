-- A grid's triples have no fault.
use Rattle.std.proofs.Common.{◌≡◌, ℕ, ◌+◌, ◌*◌, ◌/◌, ◌%◌, ◌<◌, ◌≤◌, ◌⊎◌, Bool, true, false, List, [], ◌∷◌, length, refl, sym, ap, ◌∙◌, subst, inl, inr, ⊎_elim, arith, true≢false}
use Rattle.std.specs.Prelude.{pos, slice_index_or}
use Rattle.std.proofs.lemmas.Bool.{cases_eq}
use Rattle.std.proofs.lemmas.Nat.{mul-add-lt}
use Rattle.std.proofs.Math.Nat.{mod-lt, div-lt_iff_lt-mul}
use Rattle.macro_file.specs.declared.text.MacroVertex.{MacroVertex}
use Rattle.mesh_names.specs.Triangles.{Triple}
use Rattle.mesh_names.specs.Partners.{Edge}
use Rattle.mesh_names.specs.Validity.{IsGraded, IsSamePair, IsTwin, IsWalk, Shares, ends_of, is_refined}
use Rattle.compat_check.specs.Meshes.{edge_of}
use Rattle.compat_check.specs.Checks.{AreFirstTwins, IsEdgeOfThree, IsTooHigh, IsUngradable, bare}
use Rattle.compat_check.specs.Faults.{IsFlat, IsOutside, IsRepeated, triple_in}
use Rattle.soak.specs.Grid.{first_of, corners_at}
use Rattle.soak.proofs.GridEdges.{IsOneEdge, is_lower, one_place, one_side, same_element}
use Rattle.soak.proofs.GridTriangles.{AreSpots, not_flat, not_outside, not_repeated, one_triangle}

-- these are the triples of the grid of g
pub record AreGridTriples (g : ℕ) (triples : List Triple) : Type 0 where
  pub count : length triples ≡ 2 * (g * g)
  pub triple : (r : ℕ) → r < 2 * (g * g) → triple_in triples r ≡ corners_at g r

-- of three triangles two are the same half of their squares
two_of_three : (a b c : Bool) → (a ≡ b) ⊎ (b ≡ c) ⊎ (a ≡ c)
two_of_three true true c = inl refl
two_of_three false false c = inl refl
two_of_three true false true = inr (inr refl)
two_of_three true false false = inr (inl refl)
two_of_three false true true = inr (inl refl)
two_of_three false true false = inr (inr refl)

-- where the square of an element lies
record IsSquare (g k : ℕ) : Type 0 where
  pub column : k % g < g
  pub row : k / g < g

square_is : (g : ℕ) → 1 ≤ g → (r : ℕ) → r < 2 * (g * g) → IsSquare g (r / 2)
square_is g some r within = record { column = mod-lt (r / 2) some; row = (div-lt_iff_lt-mul some).1 (omega (arith, within)) }

last_inside : (g i j : ℕ) → i < g → j < g → (j * (g + 1) + i) + g + 2 < (g + 1) * (g + 1)
last_inside g i j low below =
    let all : (j + 1) * (g + 1) + (i + 1) < (g + 1) * (g + 1) = mul-add-lt (j + 1) (g + 1) (i + 1) (g + 1) (omega (arith, below)) (omega (arith, low)) in
    omega (arith, all)

module _ (g : ℕ) (some : 1 ≤ g) (triples : List Triple) (are : AreGridTriples g triples) where
  here : (r : ℕ) → r < length triples → triple_in triples r ≡ corners_at g r
  here r less = are.triple r (omega (arith, less, are.count))

  square : (r : ℕ) → r < length triples → IsSquare g (r / 2)
  square r less = square_is g some r (omega (arith, less, are.count))

  pub none_outside : (count : ℕ) → count ≡ (g + 1) * (g + 1) → (r : ℕ) → r < length triples → IsOutside count (triple_in triples r) → ⊥
  none_outside count all r less h =
      let s = square r less in
      let last = last_inside g (r / 2 % g) (r / 2 / g) s.column s.row in
      not_outside count g (is_lower r) (first_of g (r / 2)) (omega (arith, last, all)) (subst (IsOutside count) (here r less) h)

  pub none_repeated : (r : ℕ) → r < length triples → IsRepeated (triple_in triples r) → ⊥
  none_repeated r less h = not_repeated g some (is_lower r) (first_of g (r / 2)) (subst IsRepeated (here r less) h)

  pub none_flat : (vertices : List MacroVertex) → AreSpots g vertices → (r : ℕ) → r < length triples → IsFlat vertices (triple_in triples r) → ⊥
  none_flat vertices spots r less h =
      let s = square r less in
      not_flat g vertices spots (is_lower r) (r / 2 % g) (r / 2 / g) s.column s.row (subst (IsFlat vertices) (here r less) h)

  no_twin : (r s : ℕ) → r < s → s < length triples → IsTwin (triple_in triples r) (triple_in triples s) → ⊥
  no_twin r s before less h =
      let one = one_triangle g some (is_lower r) (is_lower s) (first_of g (r / 2)) (first_of g (s / 2)) (subst (λ (t : Triple × Triple). IsTwin t.0 t.1) (λ i. (here r (omega (arith, before, less)) i, here s less i)) h) in
      omega (arith, before, same_element g some r s one.0 one.1)

  pub no_twins : (a b : ℕ) → AreFirstTwins triples a b → ⊥
  no_twins a b h = let twin = h.second.1 in no_twin twin.0 b twin.1 h.second.0 twin.2

  shared : (r s : ℕ) (e f : Edge) → r < length triples → s < length triples → Shares (bare triples) r e s f → IsOneEdge g r e s f
  shared r s e f hr hs h = one_place g some r s e f (subst (λ (t : Triple × Triple). IsSamePair (ends_of t.0 e) (ends_of t.1 f)) (λ i. (here r hr i, here s hs i)) h)

  pub no_third : (r k : ℕ) → r < length triples → IsEdgeOfThree triples r k → ⊥
  no_third r k hr h =
      let one_less : h.one < length triples = omega (arith, h.apart, h.before, hr) in
      let two_less : h.two < length triples = omega (arith, h.before, hr) in
      let with_one = shared r h.one (edge_of k) h.edge_one hr one_less h.shares_one in
      let with_two = shared r h.two (edge_of k) h.edge_two hr two_less h.shares_two in
      let both : IsOneEdge g h.one h.edge_one h.two h.edge_two = record { kind = sym with_one.kind ∙ with_two.kind; place = sym with_one.place ∙ with_two.place } in
      ⊎_elim (λ (b : is_lower h.one ≡ is_lower h.two). omega (arith, h.apart, one_side g some h.one h.two h.edge_one h.edge_two both b))
      (⊎_elim (λ (b : is_lower h.two ≡ is_lower r). omega (arith, h.before, one_side g some r h.two (edge_of k) h.edge_two with_two (sym b)))
      (λ (b : is_lower h.one ≡ is_lower r). omega (arith, h.apart, h.before, one_side g some r h.one (edge_of k) h.edge_one with_one (sym b))))
      (two_of_three (is_lower h.one) (is_lower h.two) (is_lower r))

  -- a shared edge is the refinement edge of both its elements or of neither
  alike : (r s : ℕ) (e f : Edge) → r < length triples → s < length triples → Shares (bare triples) r e s f → is_refined e ≡ is_refined f
  alike r s e f hr hs h = ap is_refined (shared r s e f hr hs h).kind

  -- grades of 0 fit everywhere
  pub gradable : (r k : ℕ) → IsUngradable triples r k → ⊥
  gradable r k h = h.none (λ _. pos 0) (λ q j s f hq hj hs apart shares upto.
      let same = alike q s (edge_of j) f hq hs shares in
      record {
        equal = λ _. refl;
        more = λ x y. absurd (true≢false (sym x ∙ same ∙ y));
        less = λ x y. absurd (true≢false (sym y ∙ sym same ∙ x));
      })

  grade_along : (grades : List ℕ) → IsGraded (record { triples = triples; grades = grades }) → (r : ℕ) (qs : List ℕ) (s : ℕ) → r < length triples → IsWalk (bare triples) r qs s → slice_index_or grades r 0 ≡ slice_index_or grades s 0
  grade_along grades graded r [] s hr w = ap (λ n. slice_index_or grades n 0) w
  grade_along grades graded r (q ∷ qs) s hr w =
      let edge = w.1 in
      let step : slice_index_or grades r 0 ≡ slice_index_or grades q 0 = ⊎_elim
      (λ (same : r ≡ q). ap (λ n. slice_index_or grades n 0) same)
      (λ (apart : r ≡ q → ⊥). graded.equal r q edge.0 edge.1 hr w.0 apart edge.2 (alike r q edge.0 edge.1 hr w.0 edge.2))
      (cases_eq r q) in
      step ∙ grade_along grades graded q qs s w.0 w.2

  pub low_grades : (r grade : ℕ) → IsTooHigh triples r grade → ⊥
  low_grades r grade h =
      let way = h.are.least r h.first.0 in
      omega (arith, h.first.1, grade_along h.grades h.are.graded r way.0 way.1 h.first.0 way.3, way.4)
