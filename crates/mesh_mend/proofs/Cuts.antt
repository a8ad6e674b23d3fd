-- The pieces of a triangulation have no fault that asks for triples alone.
use Rattle.std.proofs.Common.{◌≡◌, ℕ, ◌+◌, ◌*◌, ◌/◌, ◌%◌, ◌<◌, ◌≤◌, ◌⊎◌, true, false, List, [], ◌∷◌, length, refl, sym, ap, ◌∙◌, subst, inl, inr, ⊎_elim, arith, true≢false}
use Rattle.std.specs.Prelude.{pos, slice_index_or}
use Rattle.std.proofs.lemmas.Bool.{cases_eq, cases_lt}
use Rattle.mesh_names.specs.Triangles.{Triple, corner_of}
use Rattle.mesh_names.specs.Partners.{Edge, Edge0, Edge1, Edge2}
use Rattle.mesh_names.specs.Validity.{IsGraded, IsSamePair, IsTwin, IsWalk, Shares, ends_of, is_refined}
use Rattle.compat_check.specs.Meshes.{edge_of, edge_number}
use Rattle.compat_check.specs.Checks.{AreFirstTwins, AtNoEdge, IsEdgeOfThree, IsTooHigh, IsUngradable, bare}
use Rattle.compat_check.specs.Faults.{IsOutside, IsRepeated, triple_in}
use Rattle.mesh_mend.proofs.Edges.{number_back, one_edge, pair_trans, same_pair_back}
use Rattle.mesh_mend.proofs.CutEdges.{AreOneEdge, Below, cut, cut_distinct, no_common, one_edge_of_cuts, tip, tip_is, twin_cuts}

-- all corners are below v and no two of a triple are equal, and no edge is in three
pub record AreSplit (v : ℕ) (old : List Triple) : Type 0 where
  pub inside : (r : ℕ) → r < length old → IsOutside v (triple_in old r) → ⊥
  pub distinct : (r : ℕ) → r < length old → IsRepeated (triple_in old r) → ⊥
  pub two_at_most : AtNoEdge (length old) (IsEdgeOfThree old)

-- the triples of the pieces
pub record AreCuts (v : ℕ) (old triples : List Triple) : Type 0 where
  pub count : length triples ≡ length old * 3
  pub triple : (n : ℕ) → n < length old * 3 → triple_in triples n ≡ cut (ends_of (triple_in old (n / 3)) (edge_of (n % 3))) (v + n / 3)

low_at : (v x : ℕ) → (v ≤ x → ⊥) → x < v
low_at v x h = ⊎_elim (λ y. y) (λ y. absurd (h y)) (cases_lt x v)

pub ends_below : (v : ℕ) (t : Triple) → (IsOutside v t → ⊥) → (e : Edge) → Below v (ends_of t e)
ends_below v t h Edge0 = (low_at v (corner_of t 1) (λ x. h (inr (inl x))), low_at v (corner_of t 2) (λ x. h (inr (inr x))))
ends_below v t h Edge1 = (low_at v (corner_of t 2) (λ x. h (inr (inr x))), low_at v (corner_of t 0) (λ x. h (inl x)))
ends_below v t h Edge2 = (low_at v (corner_of t 0) (λ x. h (inl x)), low_at v (corner_of t 1) (λ x. h (inr (inl x))))

ends_apart : (t : Triple) → (IsRepeated t → ⊥) → (e : Edge) → (ends_of t e).0 ≡ (ends_of t e).1 → ⊥
ends_apart t h Edge0 x = h (inr (inl x))
ends_apart t h Edge1 x = h (inr (inr (sym x)))
ends_apart t h Edge2 x = h (inl x)

module _ (v : ℕ) (old : List Triple) (split : AreSplit v old) (triples : List Triple) (are : AreCuts v old triples) where
  -- the edge of the old mesh at which a piece lies
  abbrev ends : ℕ → ℕ × ℕ
  ends n = ends_of (triple_in old (n / 3)) (edge_of (n % 3))

  owner : (n : ℕ) → n < length triples → n / 3 < length old
  owner n less = omega (arith, less, are.count)

  here : (n : ℕ) → n < length triples → triple_in triples n ≡ cut (ends n) (v + n / 3)
  here n less = are.triple n (omega (arith, less, are.count))

  below : (n : ℕ) → n < length triples → Below v (ends n)
  below n less = ends_below v (triple_in old (n / 3)) (split.inside (n / 3) (owner n less)) (edge_of (n % 3))

  apart : (n : ℕ) → n < length triples → (ends n).0 ≡ (ends n).1 → ⊥
  apart n less = ends_apart (triple_in old (n / 3)) (split.distinct (n / 3) (owner n less)) (edge_of (n % 3))

  pub none_outside : (count : ℕ) → count ≡ v + length old → (r : ℕ) → r < length triples → IsOutside count (triple_in triples r) → ⊥
  none_outside count all r less h =
      let b = below r less in
      let own = owner r less in
      let out : IsOutside count (cut (ends r) (v + r / 3)) = subst (IsOutside count) (here r less) h in
      ⊎_elim (λ x. omega (arith, x, b.0, all)) (λ y. ⊎_elim (λ x. omega (arith, x, b.1, all)) (λ x. omega (arith, x, own, all)) y) out

  pub none_repeated : (r : ℕ) → r < length triples → IsRepeated (triple_in triples r) → ⊥
  none_repeated r less h = cut_distinct v (ends r) (v + r / 3) (below r less) (omega arith) (apart r less) (subst IsRepeated (here r less) h)

  -- two pieces of one element at one edge are one
  one_piece : (r s : ℕ) → r < length triples → r / 3 ≡ s / 3 → IsSamePair (ends r) (ends s) → r ≡ s
  one_piece r s less same pair =
      let d = split.distinct (r / 3) (owner r less) in
      let moved : IsSamePair (ends r) (ends_of (triple_in old (r / 3)) (edge_of (s % 3))) = subst (λ (y : ℕ). IsSamePair (ends r) (ends_of (triple_in old y) (edge_of (s % 3)))) (sym same) pair in
      let edge : edge_of (r % 3) ≡ edge_of (s % 3) = one_edge (triple_in old (r / 3)) d (edge_of (r % 3)) (edge_of (s % 3)) moved in
      let number : r % 3 ≡ s % 3 = sym (number_back (r % 3) (omega arith)) ∙ ap edge_number edge ∙ number_back (s % 3) (omega arith) in
      omega (arith, same, number)

  no_twin : (r s : ℕ) → r < s → s < length triples → IsTwin (triple_in triples r) (triple_in triples s) → ⊥
  no_twin r s before less h =
      let hr : r < length triples = omega (arith, before, less) in
      let one = twin_cuts v (ends r) (ends s) (v + r / 3) (v + s / 3) (below r hr) (below s less) (omega arith) (omega arith) (apart r hr) (subst (λ (t : Triple × Triple). IsTwin t.0 t.1) (λ i. (here r hr i, here s less i)) h) in
      let same : r / 3 ≡ s / 3 = omega (arith, one.0) in
      omega (arith, before, one_piece r s hr same one.1)

  pub no_twins : (a b : ℕ) → AreFirstTwins triples a b → ⊥
  no_twins a b h = let twin = h.second.1 in no_twin twin.0 b twin.1 h.second.0 twin.2

  shared : (r s : ℕ) (e f : Edge) → r < length triples → s < length triples → Shares (bare triples) r e s f → AreOneEdge (ends r) (v + r / 3) e (ends s) (v + s / 3) f
  shared r s e f hr hs h = one_edge_of_cuts v (ends r) (ends s) (v + r / 3) (v + s / 3) (below r hr) (below s hs) (omega arith) (omega arith) e f (subst (λ (t : Triple × Triple). IsSamePair (ends_of t.0 e) (ends_of t.1 f)) (λ i. (here r hr i, here s hs i)) h)

  -- pieces at one old edge are of elements in their order
  rises : (r s : ℕ) → r < s → s < length triples → IsSamePair (ends r) (ends s) → r / 3 < s / 3
  rises r s before less pair = ⊎_elim (λ (x : r / 3 < s / 3). x)
      (λ (x : s / 3 ≤ r / 3).
      let same : r / 3 ≡ s / 3 = omega (arith, before, x) in
      absurd (omega (arith, before, one_piece r s (omega (arith, before, less)) same pair)))
      (cases_lt (r / 3) (s / 3))

  -- three pieces at one old edge are of three elements that have it
  three_old : (r one two : ℕ) → one < two → two < r → r < length triples → IsSamePair (ends r) (ends one) → IsSamePair (ends r) (ends two) → ⊥
  three_old r one two first second hr with_one with_two =
      let between : IsSamePair (ends one) (ends two) = pair_trans (ends one) (ends r) (ends two) (same_pair_back (ends r) (ends one) with_one) with_two in
      split.two_at_most (r / 3) (r % 3) (owner r hr) (omega arith) record {
        one = one / 3;
        two = two / 3;
        edge_one = edge_of (one % 3);
        edge_two = edge_of (two % 3);
        apart = rises one two first (omega (arith, second, hr)) between;
        before = rises two r second hr (same_pair_back (ends r) (ends two) with_two);
        shares_one = with_one;
        shares_two = with_two;
      }

  -- three pieces of one element have no edge in common
  three_cuts : (r one two : ℕ) (e f g : Edge) → one < two → two < r → r < length triples → v + r / 3 ≡ v + one / 3 → v + r / 3 ≡ v + two / 3 → tip e (ends r) ≡ tip f (ends one) → tip e (ends r) ≡ tip g (ends two) → ⊥
  three_cuts r one two e f g first second hr with_one with_two tip_one tip_two =
      let t = triple_in old (r / 3) in
      let d = split.distinct (r / 3) (owner r hr) in
      let at_one : r / 3 ≡ one / 3 = omega (arith, with_one) in
      let at_two : r / 3 ≡ two / 3 = omega (arith, with_two) in
      let zeroth : one % 3 ≡ 0 = omega (arith, at_one, at_two, first, second) in
      let second_is : two % 3 ≡ 1 = omega (arith, at_one, at_two, first, second) in
      let last : r % 3 ≡ 2 = omega (arith, at_one, at_two, first, second) in
      let ends_r : ends r ≡ ends_of t Edge2 = ap (λ (k : ℕ). ends_of t (edge_of k)) last in
      let ends_one : ends one ≡ ends_of t Edge0 = λ i. ends_of (triple_in old (sym at_one i)) (edge_of (zeroth i)) in
      let ends_two : ends two ≡ ends_of t Edge1 = λ i. ends_of (triple_in old (sym at_two i)) (edge_of (second_is i)) in
      no_common (corner_of t 0) (corner_of t 1) (corner_of t 2) (tip e (ends_of t Edge2)) (tip f (ends_of t Edge0)) (tip g (ends_of t Edge1)) (λ x. d (inl x)) (λ x. d (inr (inl x))) (λ x. d (inr (inr x)))
      (ap (tip e) (sym ends_r) ∙ tip_one ∙ ap (tip f) ends_one) (ap (tip e) (sym ends_r) ∙ tip_two ∙ ap (tip g) ends_two)
      (tip_is f (ends_of t Edge0)) (tip_is g (ends_of t Edge1)) (tip_is e (ends_of t Edge2))

  pub no_third : (r k : ℕ) → r < length triples → IsEdgeOfThree triples r k → ⊥
  no_third r k hr h =
      let one_less : h.one < length triples = omega (arith, h.apart, h.before, hr) in
      let two_less : h.two < length triples = omega (arith, h.before, hr) in
      let e = edge_of k in
      ⊎_elim
      (λ x. ⊎_elim
      (λ y. three_old r h.one h.two h.apart h.before hr x.2 y.2)
      (λ y. true≢false (sym x.0 ∙ y.0))
      (shared r h.two e h.edge_two hr two_less h.shares_two))
      (λ x. ⊎_elim
      (λ y. true≢false (sym y.0 ∙ x.0))
      (λ y. three_cuts r h.one h.two e h.edge_one h.edge_two h.apart h.before hr x.2 y.2 x.3 y.3)
      (shared r h.two e h.edge_two hr two_less h.shares_two))
      (shared r h.one e h.edge_one hr one_less h.shares_one)

  -- a shared edge is the refinement edge of both its elements or of neither
  alike : (r s : ℕ) (e f : Edge) → r < length triples → s < length triples → Shares (bare triples) r e s f → is_refined e ≡ is_refined f
  alike r s e f hr hs h = ⊎_elim (λ x. x.0 ∙ sym x.1) (λ x. x.0 ∙ sym x.1) (shared r s e f hr hs h)

  -- grades of 0 fit everywhere
  pub gradable : (r k : ℕ) → IsUngradable triples r k → ⊥
  gradable r k h = h.none (λ _. pos 0) (λ q j s f hq hj hs apart shares upto.
      let same = alike q s (edge_of j) f hq hs shares in
      record {
        equal = λ _. refl;
        more = λ x y. absurd (true≢false (sym x ∙ same ∙ y));
        less = λ x y. absurd (true≢false (sym y ∙ sym same ∙ x));
      })

  -- grades do not change along a walk
  pub grade_along : (grades : List ℕ) → IsGraded (record { triples = triples; grades = grades }) → (r : ℕ) (qs : List ℕ) (s : ℕ) → r < length triples → IsWalk (bare triples) r qs s → slice_index_or grades r 0 ≡ slice_index_or grades s 0
  grade_along grades graded r [] s hr w = ap (λ n. slice_index_or grades n 0) w
  grade_along grades graded r (q ∷ qs) s hr w =
      let edge = w.1 in
      let step : slice_index_or grades r 0 ≡ slice_index_or grades q 0 = ⊎_elim
      (λ (same : r ≡ q). ap (λ n. slice_index_or grades n 0) same)
      (λ (apart : r ≡ q → ⊥). graded.equal r q edge.0 edge.1 hr w.0 apart edge.2 (alike r q edge.0 edge.1 hr w.0 edge.2))
      (cases_eq r q) in
      step ∙ grade_along grades graded q qs s w.0 w.2

  pub low_grades : (r grade : ℕ) → IsTooHigh triples r grade → ⊥
  low_grades r grade h =
      let way = h.are.least r h.first.0 in
      omega (arith, h.first.1, grade_along h.grades h.are.graded r way.0 way.1 h.first.0 way.3, way.4)
