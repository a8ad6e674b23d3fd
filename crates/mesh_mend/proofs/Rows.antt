-- Entries of lists that run side by side.
use Rattle.std.proofs.Common.{◌≡◌, ℕ, zero, suc, ◌<◌, List, [], ◌∷◌, map, length, get_or, refl, sym, ap, ◌∙◌, subst, arith}
use Rattle.std.proofs.Math.ListN.{get_or-map}
use Rattle.std.proofs.lemmas.List.{length-map}

pub any_default : {A : Type 0} (xs : List A) (i : ℕ) (d e : A) → i < length xs → get_or xs i d ≡ get_or xs i e
any_default [] i d e h = absurd (omega arith)
any_default (x ∷ xs) zero d e h = refl
any_default (x ∷ xs) (suc i) d e h = any_default xs i d e (omega arith)

-- an entry of a list that is made of another one
pub row_is : {A B : Type 0} (f : A → B) (xs : List A) (i : ℕ) (x : A) (d : B) → i < length xs → x ≡ get_or xs i x → get_or (map f xs) i d ≡ f x
row_is f xs i x d h e = any_default (map f xs) i d (f x) (omega (arith, h, length-map xs f)) ∙ get_or-map f xs i x ∙ ap f (sym e)

-- entries of two lists of which one list is made
pub paired : {A B C : Type 0} (f : A → C) (g : B → C) (xs : List A) (ys : List B) → map f xs ≡ map g ys → (i : ℕ) → i < length ys → (x : A) (y : B) → x ≡ get_or xs i x → y ≡ get_or ys i y → f x ≡ g y
paired f g xs ys same i h x y ex ey =
    let less : i < length xs = omega (arith, h, length-map ys g, length-map xs f, ap length same) in
    sym (row_is f xs i x (f x) less ex) ∙ ap (λ zs. get_or zs i (f x)) same ∙ row_is g ys i y (f x) h ey
