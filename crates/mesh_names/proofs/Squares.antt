-- Two small meshes are valid and compatible.
use Rattle.std.proofs.Common.{◌≡◌, ◌⊎◌, ℕ, zero, suc, ◌+◌, ◌<◌, ◌≤◌, true, false, true≢false, refl, sym, List, [], ◌∷◌, arith, inr, ⊎_elim}
use Rattle.mesh_names.specs.Triangles.{size, grade_of, triple_of, corner_of}
use Rattle.mesh_names.specs.Partners.{Edge, Edge0, Edge1, Edge2}
use Rattle.mesh_names.specs.Validity.{Shares, IsTwin, IsValid, IsGraded, IsWalk, ends_of, is_refined}
use Rattle.mesh_names.specs.Squares.{square, turned_square, SquaresFit, Fits}
use Rattle.mesh_names.proofs.Neighbours.{pairs_apart, valid_tells}

none_of : (v a b c : ℕ) → (v ≡ a → ⊥) → (v ≡ b → ⊥) → (v ≡ c → ⊥) → (v ≡ a) ⊎ (v ≡ b) ⊎ (v ≡ c) → ⊥
none_of v a b c f g h s = ⊎_elim f (λ t. ⊎_elim g h t) s

-- ---- square
square_distinct : (r : ℕ) → r < size square → let t = triple_of square r in (corner_of t 0 ≡ corner_of t 1 → ⊥) × (corner_of t 1 ≡ corner_of t 2 → ⊥) × (corner_of t 0 ≡ corner_of t 2 → ⊥)
square_distinct zero h = ((λ e. omega (arith, e)), (λ e. omega (arith, e)), λ e. omega (arith, e))
square_distinct (suc zero) h = ((λ e. omega (arith, e)), (λ e. omega (arith, e)), λ e. omega (arith, e))
square_distinct (suc (suc r)) h = absurd (omega arith)

square_no_twins : (r s : ℕ) → r < size square → s < size square → (r ≡ s → ⊥) → IsTwin (triple_of square r) (triple_of square s) → ⊥
square_no_twins zero zero h k m t = m refl
square_no_twins zero (suc zero) h k m t = none_of 1 0 2 3 (λ e. omega (arith, e)) (λ e. omega (arith, e)) (λ e. omega (arith, e)) t.2
square_no_twins (suc zero) zero h k m t = none_of 3 2 0 1 (λ e. omega (arith, e)) (λ e. omega (arith, e)) (λ e. omega (arith, e)) t.2
square_no_twins (suc zero) (suc zero) h k m t = m refl
square_no_twins (suc (suc r)) s h k m t = absurd (omega arith)
square_no_twins zero (suc (suc s)) h k m t = absurd (omega arith)
square_no_twins (suc zero) (suc (suc s)) h k m t = absurd (omega arith)

square_valid : IsValid square
square_valid = record {
  distinct = square_distinct;
  no_twins = square_no_twins;
  no_third = λ r s q e f g hr hs hq m k a b. omega (arith, hr, hs, hq, m, k);
}

square_equal : (r s : ℕ) (e f : Edge) → r < size square → s < size square → (r ≡ s → ⊥) → Shares square r e s f → is_refined e ≡ is_refined f → grade_of square r ≡ grade_of square s
square_equal zero zero e f h k m a p = absurd (m refl)
square_equal zero (suc zero) Edge0 Edge0 h k m a p = refl
square_equal zero (suc zero) Edge0 Edge1 h k m a p = refl
square_equal zero (suc zero) Edge0 Edge2 h k m a p = absurd (true≢false (sym p))
square_equal zero (suc zero) Edge1 Edge0 h k m a p = refl
square_equal zero (suc zero) Edge1 Edge1 h k m a p = refl
square_equal zero (suc zero) Edge1 Edge2 h k m a p = absurd (true≢false (sym p))
square_equal zero (suc zero) Edge2 Edge0 h k m a p = absurd (true≢false p)
square_equal zero (suc zero) Edge2 Edge1 h k m a p = absurd (true≢false p)
square_equal zero (suc zero) Edge2 Edge2 h k m a p = refl
square_equal (suc zero) zero Edge0 Edge0 h k m a p = refl
square_equal (suc zero) zero Edge0 Edge1 h k m a p = refl
square_equal (suc zero) zero Edge0 Edge2 h k m a p = absurd (true≢false (sym p))
square_equal (suc zero) zero Edge1 Edge0 h k m a p = refl
square_equal (suc zero) zero Edge1 Edge1 h k m a p = refl
square_equal (suc zero) zero Edge1 Edge2 h k m a p = absurd (true≢false (sym p))
square_equal (suc zero) zero Edge2 Edge0 h k m a p = absurd (true≢false p)
square_equal (suc zero) zero Edge2 Edge1 h k m a p = absurd (true≢false p)
square_equal (suc zero) zero Edge2 Edge2 h k m a p = refl
square_equal (suc zero) (suc zero) e f h k m a p = absurd (m refl)
square_equal (suc (suc r)) s e f h k m a p = absurd (omega arith)
square_equal zero (suc (suc s)) e f h k m a p = absurd (omega arith)
square_equal (suc zero) (suc (suc s)) e f h k m a p = absurd (omega arith)

square_more : (r s : ℕ) (e f : Edge) → r < size square → s < size square → (r ≡ s → ⊥) → Shares square r e s f → is_refined e ≡ true → is_refined f ≡ false → grade_of square r ≡ grade_of square s + 1
square_more zero zero e f h k m a p q = absurd (m refl)
square_more zero (suc zero) Edge0 Edge0 h k m a p q = absurd (true≢false (sym p))
square_more zero (suc zero) Edge0 Edge1 h k m a p q = absurd (true≢false (sym p))
square_more zero (suc zero) Edge0 Edge2 h k m a p q = absurd (true≢false (sym p))
square_more zero (suc zero) Edge1 Edge0 h k m a p q = absurd (true≢false (sym p))
square_more zero (suc zero) Edge1 Edge1 h k m a p q = absurd (true≢false (sym p))
square_more zero (suc zero) Edge1 Edge2 h k m a p q = absurd (true≢false (sym p))
square_more zero (suc zero) Edge2 Edge0 h k m a p q = absurd (pairs_apart (ends_of (triple_of square 0) Edge2) (ends_of (triple_of square 1) Edge0) refl a)
square_more zero (suc zero) Edge2 Edge1 h k m a p q = absurd (pairs_apart (ends_of (triple_of square 0) Edge2) (ends_of (triple_of square 1) Edge1) refl a)
square_more zero (suc zero) Edge2 Edge2 h k m a p q = absurd (true≢false q)
square_more (suc zero) zero Edge0 Edge0 h k m a p q = absurd (true≢false (sym p))
square_more (suc zero) zero Edge0 Edge1 h k m a p q = absurd (true≢false (sym p))
square_more (suc zero) zero Edge0 Edge2 h k m a p q = absurd (true≢false (sym p))
square_more (suc zero) zero Edge1 Edge0 h k m a p q = absurd (true≢false (sym p))
square_more (suc zero) zero Edge1 Edge1 h k m a p q = absurd (true≢false (sym p))
square_more (suc zero) zero Edge1 Edge2 h k m a p q = absurd (true≢false (sym p))
square_more (suc zero) zero Edge2 Edge0 h k m a p q = absurd (pairs_apart (ends_of (triple_of square 1) Edge2) (ends_of (triple_of square 0) Edge0) refl a)
square_more (suc zero) zero Edge2 Edge1 h k m a p q = absurd (pairs_apart (ends_of (triple_of square 1) Edge2) (ends_of (triple_of square 0) Edge1) refl a)
square_more (suc zero) zero Edge2 Edge2 h k m a p q = absurd (true≢false q)
square_more (suc zero) (suc zero) e f h k m a p q = absurd (m refl)
square_more (suc (suc r)) s e f h k m a p q = absurd (omega arith)
square_more zero (suc (suc s)) e f h k m a p q = absurd (omega arith)
square_more (suc zero) (suc (suc s)) e f h k m a p q = absurd (omega arith)

square_least : (r : ℕ) → r < size square → (qs : List ℕ) × (s : ℕ) × (s < size square) × IsWalk square r qs s × (grade_of square s ≡ 0)
square_least zero h = ([], 0, h, refl, refl)
square_least (suc zero) h = ([], 1, h, refl, refl)
square_least (suc (suc r)) h = absurd (omega arith)

square_low : (r : ℕ) → r < size square → grade_of square r ≤ 24
square_low zero h = omega arith
square_low (suc zero) h = omega arith
square_low (suc (suc r)) h = absurd (omega arith)

square_fits : Fits square
square_fits =
    let graded : IsGraded square = record { equal = square_equal; more = square_more } in
    (square_valid, record { each = refl; graded = graded; least = square_least; low = square_low }, valid_tells square square_valid graded)

-- ---- turned_square
turned_square_distinct : (r : ℕ) → r < size turned_square → let t = triple_of turned_square r in (corner_of t 0 ≡ corner_of t 1 → ⊥) × (corner_of t 1 ≡ corner_of t 2 → ⊥) × (corner_of t 0 ≡ corner_of t 2 → ⊥)
turned_square_distinct zero h = ((λ e. omega (arith, e)), (λ e. omega (arith, e)), λ e. omega (arith, e))
turned_square_distinct (suc zero) h = ((λ e. omega (arith, e)), (λ e. omega (arith, e)), λ e. omega (arith, e))
turned_square_distinct (suc (suc r)) h = absurd (omega arith)

turned_square_no_twins : (r s : ℕ) → r < size turned_square → s < size turned_square → (r ≡ s → ⊥) → IsTwin (triple_of turned_square r) (triple_of turned_square s) → ⊥
turned_square_no_twins zero zero h k m t = m refl
turned_square_no_twins zero (suc zero) h k m t = none_of 1 2 3 0 (λ e. omega (arith, e)) (λ e. omega (arith, e)) (λ e. omega (arith, e)) t.2
turned_square_no_twins (suc zero) zero h k m t = none_of 3 2 0 1 (λ e. omega (arith, e)) (λ e. omega (arith, e)) (λ e. omega (arith, e)) t.1
turned_square_no_twins (suc zero) (suc zero) h k m t = m refl
turned_square_no_twins (suc (suc r)) s h k m t = absurd (omega arith)
turned_square_no_twins zero (suc (suc s)) h k m t = absurd (omega arith)
turned_square_no_twins (suc zero) (suc (suc s)) h k m t = absurd (omega arith)

turned_square_valid : IsValid turned_square
turned_square_valid = record {
  distinct = turned_square_distinct;
  no_twins = turned_square_no_twins;
  no_third = λ r s q e f g hr hs hq m k a b. omega (arith, hr, hs, hq, m, k);
}

turned_square_equal : (r s : ℕ) (e f : Edge) → r < size turned_square → s < size turned_square → (r ≡ s → ⊥) → Shares turned_square r e s f → is_refined e ≡ is_refined f → grade_of turned_square r ≡ grade_of turned_square s
turned_square_equal zero zero e f h k m a p = absurd (m refl)
turned_square_equal zero (suc zero) Edge0 Edge0 h k m a p = absurd (pairs_apart (ends_of (triple_of turned_square 0) Edge0) (ends_of (triple_of turned_square 1) Edge0) refl a)
turned_square_equal zero (suc zero) Edge0 Edge1 h k m a p = absurd (pairs_apart (ends_of (triple_of turned_square 0) Edge0) (ends_of (triple_of turned_square 1) Edge1) refl a)
turned_square_equal zero (suc zero) Edge0 Edge2 h k m a p = absurd (true≢false (sym p))
turned_square_equal zero (suc zero) Edge1 Edge0 h k m a p = absurd (pairs_apart (ends_of (triple_of turned_square 0) Edge1) (ends_of (triple_of turned_square 1) Edge0) refl a)
turned_square_equal zero (suc zero) Edge1 Edge1 h k m a p = absurd (pairs_apart (ends_of (triple_of turned_square 0) Edge1) (ends_of (triple_of turned_square 1) Edge1) refl a)
turned_square_equal zero (suc zero) Edge1 Edge2 h k m a p = absurd (true≢false (sym p))
turned_square_equal zero (suc zero) Edge2 Edge0 h k m a p = absurd (true≢false p)
turned_square_equal zero (suc zero) Edge2 Edge1 h k m a p = absurd (true≢false p)
turned_square_equal zero (suc zero) Edge2 Edge2 h k m a p = absurd (pairs_apart (ends_of (triple_of turned_square 0) Edge2) (ends_of (triple_of turned_square 1) Edge2) refl a)
turned_square_equal (suc zero) zero Edge0 Edge0 h k m a p = absurd (pairs_apart (ends_of (triple_of turned_square 1) Edge0) (ends_of (triple_of turned_square 0) Edge0) refl a)
turned_square_equal (suc zero) zero Edge0 Edge1 h k m a p = absurd (pairs_apart (ends_of (triple_of turned_square 1) Edge0) (ends_of (triple_of turned_square 0) Edge1) refl a)
turned_square_equal (suc zero) zero Edge0 Edge2 h k m a p = absurd (true≢false (sym p))
turned_square_equal (suc zero) zero Edge1 Edge0 h k m a p = absurd (pairs_apart (ends_of (triple_of turned_square 1) Edge1) (ends_of (triple_of turned_square 0) Edge0) refl a)
turned_square_equal (suc zero) zero Edge1 Edge1 h k m a p = absurd (pairs_apart (ends_of (triple_of turned_square 1) Edge1) (ends_of (triple_of turned_square 0) Edge1) refl a)
turned_square_equal (suc zero) zero Edge1 Edge2 h k m a p = absurd (true≢false (sym p))
turned_square_equal (suc zero) zero Edge2 Edge0 h k m a p = absurd (true≢false p)
turned_square_equal (suc zero) zero Edge2 Edge1 h k m a p = absurd (true≢false p)
turned_square_equal (suc zero) zero Edge2 Edge2 h k m a p = absurd (pairs_apart (ends_of (triple_of turned_square 1) Edge2) (ends_of (triple_of turned_square 0) Edge2) refl a)
turned_square_equal (suc zero) (suc zero) e f h k m a p = absurd (m refl)
turned_square_equal (suc (suc r)) s e f h k m a p = absurd (omega arith)
turned_square_equal zero (suc (suc s)) e f h k m a p = absurd (omega arith)
turned_square_equal (suc zero) (suc (suc s)) e f h k m a p = absurd (omega arith)

turned_square_more : (r s : ℕ) (e f : Edge) → r < size turned_square → s < size turned_square → (r ≡ s → ⊥) → Shares turned_square r e s f → is_refined e ≡ true → is_refined f ≡ false → grade_of turned_square r ≡ grade_of turned_square s + 1
turned_square_more zero zero e f h k m a p q = absurd (m refl)
turned_square_more zero (suc zero) Edge0 Edge0 h k m a p q = absurd (true≢false (sym p))
turned_square_more zero (suc zero) Edge0 Edge1 h k m a p q = absurd (true≢false (sym p))
turned_square_more zero (suc zero) Edge0 Edge2 h k m a p q = absurd (true≢false (sym p))
turned_square_more zero (suc zero) Edge1 Edge0 h k m a p q = absurd (true≢false (sym p))
turned_square_more zero (suc zero) Edge1 Edge1 h k m a p q = absurd (true≢false (sym p))
turned_square_more zero (suc zero) Edge1 Edge2 h k m a p q = absurd (true≢false (sym p))
turned_square_more zero (suc zero) Edge2 Edge0 h k m a p q = refl
turned_square_more zero (suc zero) Edge2 Edge1 h k m a p q = refl
turned_square_more zero (suc zero) Edge2 Edge2 h k m a p q = absurd (true≢false q)
turned_square_more (suc zero) zero Edge0 Edge0 h k m a p q = absurd (true≢false (sym p))
turned_square_more (suc zero) zero Edge0 Edge1 h k m a p q = absurd (true≢false (sym p))
turned_square_more (suc zero) zero Edge0 Edge2 h k m a p q = absurd (true≢false (sym p))
turned_square_more (suc zero) zero Edge1 Edge0 h k m a p q = absurd (true≢false (sym p))
turned_square_more (suc zero) zero Edge1 Edge1 h k m a p q = absurd (true≢false (sym p))
turned_square_more (suc zero) zero Edge1 Edge2 h k m a p q = absurd (true≢false (sym p))
turned_square_more (suc zero) zero Edge2 Edge0 h k m a p q = absurd (pairs_apart (ends_of (triple_of turned_square 1) Edge2) (ends_of (triple_of turned_square 0) Edge0) refl a)
turned_square_more (suc zero) zero Edge2 Edge1 h k m a p q = absurd (pairs_apart (ends_of (triple_of turned_square 1) Edge2) (ends_of (triple_of turned_square 0) Edge1) refl a)
turned_square_more (suc zero) zero Edge2 Edge2 h k m a p q = absurd (true≢false q)
turned_square_more (suc zero) (suc zero) e f h k m a p q = absurd (m refl)
turned_square_more (suc (suc r)) s e f h k m a p q = absurd (omega arith)
turned_square_more zero (suc (suc s)) e f h k m a p q = absurd (omega arith)
turned_square_more (suc zero) (suc (suc s)) e f h k m a p q = absurd (omega arith)

turned_square_least : (r : ℕ) → r < size turned_square → (qs : List ℕ) × (s : ℕ) × (s < size turned_square) × IsWalk turned_square r qs s × (grade_of turned_square s ≡ 0)
turned_square_least zero h = (1 ∷ [], 1, omega arith, (omega arith, (Edge2, Edge1, inr (refl, refl)), refl), refl)
turned_square_least (suc zero) h = ([], 1, h, refl, refl)
turned_square_least (suc (suc r)) h = absurd (omega arith)

turned_square_low : (r : ℕ) → r < size turned_square → grade_of turned_square r ≤ 24
turned_square_low zero h = omega arith
turned_square_low (suc zero) h = omega arith
turned_square_low (suc (suc r)) h = absurd (omega arith)

turned_square_fits : Fits turned_square
turned_square_fits =
    let graded : IsGraded turned_square = record { equal = turned_square_equal; more = turned_square_more } in
    (turned_square_valid, record { each = refl; graded = graded; least = turned_square_least; low = turned_square_low }, valid_tells turned_square turned_square_valid graded)

pub squares_fit : SquaresFit
squares_fit = (square_fits, turned_square_fits, refl, refl, refl)
