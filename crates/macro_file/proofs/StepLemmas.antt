-- Steps over a list, one by one from the front.
use Rattle.std.proofs.Common.{◌≡◌, List, [], ◌∷◌, ◌++◌, Result, Ok, Err, ◌∙◌, refl, sym, ap, append_assoc}
use Rattle.std.proofs.lemmas.List.{append-nil}
use Rattle.macro_file.specs.Steps.{then, each}

-- what is done, before what a step gives
abbrev pub onto : {B R : Type 0} → List B → Result (List B) R → Result (List B) R
onto done r = then r (λ ys. Ok (done ++ ys))

onto-onto : {B R : Type 0} (done : List B) (y : B) (r : Result (List B) R) → onto done (then r (λ ys. Ok (y ∷ ys))) ≡ onto (done ++ y ∷ []) r
onto-onto done y (Ok ys) = ap Ok (sym (append_assoc done (y ∷ []) ys))
onto-onto done y (Err e) = refl

pub each-more : {A B R : Type 0} (f : A → Result B R) (all left : List A) (x : A) (xs : List A) (done : List B) (y : B) → each f all ≡ onto done (each f left) → left ≡ x ∷ xs → f x ≡ Ok y → each f all ≡ onto (done ++ y ∷ []) (each f xs)
each-more f all left x xs done y e l h = e ∙ ap (λ ls. onto done (each f ls)) l ∙ ap (λ r. onto done (then r (λ z. then (each f xs) (λ zs. Ok (z ∷ zs))))) h ∙ onto-onto done y (each f xs)

pub each-refused : {A B R : Type 0} (f : A → Result B R) (all left : List A) (x : A) (xs : List A) (done : List B) (r : R) → each f all ≡ onto done (each f left) → left ≡ x ∷ xs → f x ≡ Err r → each f all ≡ Err r
each-refused f all left x xs done r e l h = e ∙ ap (λ ls. onto done (each f ls)) l ∙ ap (λ s. onto done (then s (λ z. then (each f xs) (λ zs. Ok (z ∷ zs))))) h

pub each-all : {A B R : Type 0} (f : A → Result B R) (all left : List A) (done : List B) → each f all ≡ onto done (each f left) → left ≡ [] → each f all ≡ Ok done
each-all f all left done e l = e ∙ ap (λ ls. onto done (each f ls)) l ∙ ap Ok (append-nil done)

onto-nothing : {B R : Type 0} (r : Result (List B) R) → r ≡ onto [] r
onto-nothing (Ok ys) = refl
onto-nothing (Err e) = refl

pub each-begin : {A B R : Type 0} (f : A → Result B R) (all : List A) → each f all ≡ onto [] (each f all)
each-begin f all = onto-nothing (each f all)
