-- The words of a text, from the front.
use Rattle.std.proofs.Common.{◌==◌, ◌≡◌, ℕ, List, [], ◌∷◌, true, false, not, length, take, drop, ◌≤◌, filter, ◌∙◌, ⊎_elim, refl, sym, ap, subst, arith}
use Rattle.std.specs.List.{position_or_len, slice_split, onto_first}
use Rattle.std.proofs.lemmas.Bool.Decides.{nat_tests}
use Rattle.std.proofs.lemmas.Bool.{cases_Bool, not_from_true, not_from_false}
use Rattle.std.proofs.lemmas.List.Splits.{slice_split-cons_yes, slice_split-cons_no}
use Rattle.macro_file.specs.Lines.{is_blank, is_word, words}
use Rattle.macro_file.proofs.Cuts.{position-yes, position-no}

abbrev pub blank_count : List ℕ → ℕ
blank_count = position_or_len (λ b. not (is_blank b))

abbrev pub word_size : List ℕ → ℕ
word_size = position_or_len is_blank

pub words-blank : (b : ℕ) (bs : List ℕ) → is_blank b ≡ true → words (b ∷ bs) ≡ words bs
words-blank b bs e = ap (filter is_word) (slice_split-cons_yes is_blank b bs e)

pub words-drop_blanks : (text : List ℕ) → words text ≡ words (drop (blank_count text) text)
words-drop_blanks [] = refl
words-drop_blanks (b ∷ bs) = ⊎_elim
    (λ e. words-blank b bs e ∙ words-drop_blanks bs ∙ sym (ap (λ n. words (drop n (b ∷ bs))) (position-no (λ b. not (is_blank b)) b bs (not_from_true _ e))))
    (λ e. sym (ap (λ n. words (drop n (b ∷ bs))) (position-yes (λ b. not (is_blank b)) b bs (not_from_false _ e))))
    (cases_Bool (is_blank b))

-- the parts between blanks begin with the bytes up to the first blank, and what follows has the same words as the other parts
first_part : (text : List ℕ) → (parts : List (List ℕ)) × (slice_split is_blank text ≡ take (word_size text) text ∷ parts) × (filter is_word parts ≡ words (drop (word_size text) text))
first_part [] = ([], refl, refl)
first_part (b ∷ bs) = ⊎_elim
    (λ e. (slice_split is_blank bs, slice_split-cons_yes is_blank b bs e ∙ sym (ap (λ n. take n (b ∷ bs) ∷ slice_split is_blank bs) (position-yes is_blank b bs e)), sym (words-blank b bs e) ∙ sym (ap (λ n. words (drop n (b ∷ bs))) (position-yes is_blank b bs e))))
    (λ e. let r = first_part bs in (r.0, slice_split-cons_no is_blank b bs e ∙ ap (onto_first b) r.1 ∙ sym (ap (λ n. take n (b ∷ bs) ∷ r.0) (position-no is_blank b bs e)), r.2 ∙ sym (ap (λ n. words (drop n (b ∷ bs))) (position-no is_blank b bs e))))
    (cases_Bool (is_blank b))

-- no blank stands at the front after the blanks
starts_word : (text : List ℕ) (b : ℕ) (bs : List ℕ) → drop (blank_count text) text ≡ b ∷ bs → is_blank b ≡ false
starts_word [] b bs h = cc
starts_word (c ∷ cs) b bs h = ⊎_elim
    (λ e. starts_word cs b bs (sym (ap (λ n. drop n (c ∷ cs)) (position-no (λ b. not (is_blank b)) c cs (not_from_true _ e))) ∙ h))
    (λ e. let same : c ∷ cs ≡ b ∷ bs = sym (ap (λ n. drop n (c ∷ cs)) (position-yes (λ b. not (is_blank b)) c cs (not_from_false _ e))) ∙ h in let byte : c ≡ b = cc in sym (ap is_blank byte) ∙ e)
    (cases_Bool (is_blank c))

words-word : (b : ℕ) (bs : List ℕ) → is_blank b ≡ false → words (b ∷ bs) ≡ take (word_size (b ∷ bs)) (b ∷ bs) ∷ words (drop (word_size (b ∷ bs)) (b ∷ bs))
words-word b bs e = let r = first_part (b ∷ bs) in let n = position-no is_blank b bs e in
    ap (filter is_word) r.1 ∙ (let P : ℕ → Type 0 = λ k. filter is_word (take k (b ∷ bs) ∷ r.0) ≡ take k (b ∷ bs) ∷ filter is_word r.0 in subst P (sym n) refl) ∙ ap (λ ws. take (word_size (b ∷ bs)) (b ∷ bs) ∷ ws) r.2

pub words-first : (text rest : List ℕ) → rest ≡ drop (blank_count text) text → 1 ≤ length rest → words text ≡ take (word_size rest) rest ∷ words (drop (word_size rest) rest)
words-first text [] e h = absurd (omega arith)
words-first text (b ∷ bs) e h = words-drop_blanks text ∙ ap words (sym e) ∙ words-word b bs (starts_word text b bs (sym e))

pub words-none : (text rest : List ℕ) → rest ≡ drop (blank_count text) text → length rest ≡ 0 → words text ≡ []
words-none text [] e h = words-drop_blanks text ∙ ap words (sym e)
words-none text (b ∷ bs) e h = absurd (omega arith)

pub some_left : (n : ℕ) → false ≡ (n == 0) → 1 ≤ n
some_left n e = grind (arith, nat_tests)
