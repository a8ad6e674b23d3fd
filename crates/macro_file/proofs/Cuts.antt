-- Where a list is cut: before the first element that passes a test.
use Rattle.std.proofs.Common.{◌≡◌, ℕ, zero, suc, List, [], ◌∷◌, ◌++◌, Bool, true, false, not, cond, length, get_or, take, drop, ◌+◌, ◌<◌, ◌≤◌, ◌∙◌, sym, ap, arith}
use Rattle.std.specs.List.{position_or_len, list_any}
use Rattle.std.proofs.lemmas.Bool.{false_from_ne_true, true≢false, or_from}
use Rattle.std.proofs.lemmas.List.{take_all, length-take-le, get_or-take}
use Rattle.std.proofs.lemmas.List.Folds.{list_any-append, list_any_at}
use Rattle.std.proofs.lemmas.List.Sums.{position_or_len_is}

pub position-yes : (p : ℕ → Bool) (b : ℕ) (bs : List ℕ) → p b ≡ true → position_or_len p (b ∷ bs) ≡ 0
position-yes p b bs e = ap (λ t. cond (not t) (1 + position_or_len p bs) 0) e

pub position-no : (p : ℕ → Bool) (b : ℕ) (bs : List ℕ) → p b ≡ false → position_or_len p (b ∷ bs) ≡ suc (position_or_len p bs)
position-no p b bs e = ap (λ t. cond (not t) (1 + position_or_len p bs) 0) e ∙ (let one : 1 + position_or_len p bs ≡ suc (position_or_len p bs) = omega arith in one)

-- the place of the first element that passes, and that none does
pub first_is : (p : ℕ → Bool) (xs : List ℕ) (i : ℕ) → i < length xs → ((k : ℕ) → k < i → p (get_or xs k 0) ≡ false) → p (get_or xs i 0) ≡ true → i ≡ position_or_len p xs
first_is p xs i h below here = sym (position_or_len_is p xs i 0 (omega arith) below (λ _. here))

pub none_is : (p : ℕ → Bool) (xs : List ℕ) (i : ℕ) → length xs ≤ i → ((k : ℕ) → k < i → p (get_or xs k 0) ≡ false) → length xs ≡ position_or_len p xs
none_is p xs i h below = sym (position_or_len_is p xs (length xs) 0 (omega arith) (λ k l. below k (omega arith)) (λ l. absurd (omega arith)))

pub take-add : (m n : ℕ) (xs : List ℕ) → take (m + n) xs ≡ take m xs ++ take n (drop m xs)
take-add zero n xs = ap (λ k. take k xs) (let z : 0 + n ≡ n = omega arith in z)
take-add (suc m) n [] = ap (λ k. take k []) (let z : suc m + n ≡ suc (m + n) = omega arith in z) ∙ sym (take_all n [] (omega arith))
take-add (suc m) n (x ∷ xs) = ap (λ k. take k (x ∷ xs)) (let z : suc m + n ≡ suc (m + n) = omega arith in z) ∙ ap (λ ys. x ∷ ys) (take-add m n xs)

-- none of the front passes
pub any_below : (p : ℕ → Bool) (xs : List ℕ) (i : ℕ) → i ≤ length xs → list_any p (take i xs) ≡ false → (k : ℕ) → k < i → p (get_or xs k 0) ≡ false
any_below p xs i h none k l = false_from_ne_true _ (λ yes. true≢false (sym (list_any_at p (take i xs) k 0 (omega (arith, length-take-le i xs h)) (ap p (get_or-take i xs k 0 l) ∙ yes)) ∙ none))

-- a piece more
pub any_piece : (p : ℕ → Bool) (xs : List ℕ) (i n : ℕ) → list_any p (take i xs) ≡ false → list_any p (take n (drop i xs)) ≡ false → list_any p (take (i + n) xs) ≡ false
any_piece p xs i n front piece = ap (list_any p) (take-add i n xs) ∙ list_any-append p (take i xs) (take n (drop i xs)) ∙ or_from _ _ front piece
