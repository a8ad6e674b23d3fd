-- Lists that a loop filters, item by item.
use Rattle.std.proofs.Common.{◌≡◌, ℕ, ◌+◌, ◌<◌, Bool, true, false, cond, refl, sym, ap, ◌∙◌, List, [], ◌∷◌, ◌++◌, take, length, filter, slice_index_or, append-nil}
use Rattle.std.proofs.lemmas.List.Elements.{filter-append}
use Rattle.forest_plain.proofs.RowOrder.{next-take}

module _ {A : Type 0} (p : A → Bool) where
  filter-one : (x : A) → filter p (x ∷ []) ≡ cond (p x) (x ∷ []) []
  filter-one x = refl

  pub filter-kept : (xs old new : List A) (i : ℕ) (x d : A) → i < length xs → x ≡ slice_index_or xs i d → p x ≡ true → old ≡ filter p (take i xs) → new ≡ old ++ x ∷ [] → new ≡ filter p (take (i + 1) xs)
  filter-kept xs old new i x d low at passes was step =
      step
      ∙ (λ j. was j ++ x ∷ [])
      ∙ ap (λ (l : List A). filter p (take i xs) ++ l) (sym (ap (λ (c : Bool). cond c (x ∷ []) []) passes))
      ∙ sym (filter-append p (take i xs) (x ∷ []))
      ∙ ap (filter p) (sym (next-take xs i x d low at))

  pub filter-skipped : (xs old new : List A) (i : ℕ) (x d : A) → i < length xs → x ≡ slice_index_or xs i d → p x ≡ false → old ≡ filter p (take i xs) → new ≡ old → new ≡ filter p (take (i + 1) xs)
  filter-skipped xs old new i x d low at fails was step =
      step
      ∙ was
      ∙ sym (append-nil (filter p (take i xs)))
      ∙ ap (λ (l : List A). filter p (take i xs) ++ l) (sym (ap (λ (c : Bool). cond c (x ∷ []) []) fails))
      ∙ sym (filter-append p (take i xs) (x ∷ []))
      ∙ ap (filter p) (sym (next-take xs i x d low at))
