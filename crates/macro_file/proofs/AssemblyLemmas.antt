-- Lists that are made index by index.
use Rattle.std.proofs.Common.{◌≡◌, ℕ, ℤ, pos, List, [], ◌∷◌, ◌++◌, map, length, get_or, Bool, false, Option, Some, None, ◌+◌, ◌<◌, All, ◌∙◌, ⊎_elim, refl, sym, ap, subst, arith}
use Rattle.std.specs.Prelude.{is_some}
use Rattle.std.specs.List.{range_with_len}
use Rattle.std.proofs.Math.ListN.{get_or-map}
use Rattle.std.proofs.lemmas.Bool.{cases_lt, true≢false}
use Rattle.std.proofs.lemmas.List.{map-append, get_or_past, length-map}
use Rattle.std.proofs.lemmas.List.FromFn.{get_or-map-range_with_len, map-range_with_len_more, length-map-range_with_len}
use Rattle.macro_file.specs.declared.keyword.Keyword.{Keyword}
use Rattle.macro_file.specs.declared.text.MacroElem.{MacroElem}
use Rattle.macro_file.specs.Limits.{ZeroUnless}
use Rattle.macro_file.specs.Meaning.{Element, Listed, number_at, three, listed, numbers_in, numbers_of}
use Rattle.macro_file.specs.Text.{element_of}

-- one item more
pub made_more : {A B : Type 0} (f : A → B) (g : ℕ → B) (items more : List A) (x : A) (i : ℕ) → map f items ≡ map g (range_with_len 0 i) → more ≡ items ++ x ∷ [] → f x ≡ g i → map f more ≡ map g (range_with_len 0 (i + 1))
made_more f g items more x i e m h = ap (map f) m ∙ map-append f items (x ∷ []) ∙ (λ j. e j ++ h j ∷ []) ∙ sym (map-range_with_len_more g 0 i i (omega arith))

pub made_length : {A B : Type 0} (f : A → B) (g : ℕ → B) (items : List A) (n : ℕ) → map f items ≡ map g (range_with_len 0 n) → length items ≡ n
made_length f g items n e = sym (length-map items f) ∙ ap length e ∙ length-map-range_with_len g 0 n

-- a number in a list, or 0, is in the range of all that holds 0
pub number_in : (P : ℤ → Type 0) (zs : List ℤ) (i : ℕ) → P (pos 0) → All P zs → P (number_at zs i)
number_in P zs i zero_in all = ⊎_elim (λ h. all i (pos 0) h) (λ h. subst P (sym (get_or_past zs i (pos 0) h)) zero_in) (cases_lt i (length zs))

-- a list that was left out gives rows of 0
pub zero_rows : (lists : List Listed) (k : Keyword) (given : Bool) (row : Element → List ℤ) (items : List MacroElem) (f : ℕ → Element) (n : ℕ) → given ≡ is_some (listed k lists) → map element_of items ≡ map f (range_with_len 0 n) → ((i : ℕ) → row (f i) ≡ three (numbers_of k lists) i) →
    ZeroUnless given items (λ e. row (element_of e))
zero_rows lists k given row items f n is_given made rows left_out i d less =
    let within : i < n = omega (arith, less, made_length element_of f items n made) in
    ap row (sym (get_or-map element_of items i d) ∙ ap (λ es. get_or es i (element_of d)) made ∙ get_or-map-range_with_len f 0 n i i (element_of d) within (omega arith))
    ∙ rows i ∙ ap (λ zs. three zs i) (none (listed k lists) (sym is_given ∙ left_out))
  where
    none : (o : Option Listed) → is_some o ≡ false → numbers_in o ≡ []
    none None e = refl
    none (Some l) e = absurd (true≢false e)
