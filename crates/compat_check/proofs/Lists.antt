-- Lists of which each element is told by its place.
use Rattle.std.proofs.Common.{◌≡◌, ℕ, ◌+◌, ◌<◌, ◌≤◌, List, [], ◌∷◌, ◌++◌, length, ap, ◌∙◌, ⊎_elim, arith}
use Rattle.std.specs.Prelude.{Some, slice_get}
use Rattle.std.proofs.lemmas.Grind.{common_steps}
use Rattle.std.proofs.lemmas.Bool.{cases_lt}
use Rattle.std.proofs.lemmas.List.{get_or_append_left, get_or_push, length_push}
use Rattle.std.proofs.lemmas.Option.{slice_get-get_or, get_or_from_slice_get}

pub length_pushed : {A : Type 0} (xs ys : List A) (x : A) (n : ℕ) → length xs ≡ n → ys ≡ xs ++ x ∷ [] → length ys ≡ n + 1
length_pushed xs ys x n h e = grind (arith, common_steps)

pub get_pushed : {A : Type 0} (xs ys : List A) (x : A) (n : ℕ) (f : ℕ → A) → length xs ≡ n → ys ≡ xs ++ x ∷ [] → ((r : ℕ) → r < n → slice_get xs r ≡ Some (f r)) → x ≡ f n → (r : ℕ) → r < n + 1 → slice_get ys r ≡ Some (f r)
get_pushed {A} xs ys x n f h e old new r less =
    let inside : r < length (xs ++ x ∷ []) = omega (arith, length_push xs x) in
    ap (λ (l : List A). slice_get l r) e ∙ slice_get-get_or (xs ++ x ∷ []) r x inside
    ∙ ap Some (⊎_elim
    (λ (p : r < n). let within : r < length xs = omega arith in get_or_append_left xs (x ∷ []) x r within ∙ get_or_from_slice_get xs r (f r) x (old r p))
    (λ (p : n ≤ r). let same : length xs ≡ r = omega arith in get_or_push xs x x r same ∙ new ∙ ap f (omega arith))
    (cases_lt r n))
