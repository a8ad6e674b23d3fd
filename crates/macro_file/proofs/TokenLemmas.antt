-- The words of a file, byte by byte from the front.
use Rattle.std.proofs.Common.{◌≡◌, ◌≢◌, ℕ, zero, suc, List, [], ◌∷◌, ◌++◌, map, Bool, true, false, not, ◌==◌, ◌&&◌, cond, length, take, drop, get_or, ◌+◌, ◌-◌, ◌<◌, ◌≤◌, filter, ◌∙◌, ◌⊎◌, inl, inr, ⊎_elim, refl, sym, ap, subst, arith}
use Rattle.std.specs.List.{position_or_len, slice_split, onto_first}
use Rattle.std.proofs.lemmas.Bool.{cases_Bool, not_from_true, not_from_false, eqb-true, or_parts, or_cases, and_parts, false≢true}
use Rattle.std.proofs.lemmas.List.Splits.{slice_split-cons_yes, slice_split-cons_no}
use Rattle.std.proofs.lemmas.List.{take_rest, length-drop}
use Rattle.macro_file.specs.Lines.{lines, at_newline, before, is_blank, is_word, words}
use Rattle.macro_file.specs.Walks.{tokens_of_lines, tokens_from, ends_word}
use Rattle.macro_file.proofs.Cuts.{position-yes, position-no}
use Rattle.macro_file.proofs.WordLemmas.{words-blank, blank_count}

-- there is a first line
pub some_line : (bs : List ℕ) → (l : List ℕ) × (ls : List (List ℕ)) × (lines bs ≡ l ∷ ls)
some_line [] = ([], [], refl)
some_line (b ∷ bs) = by (b == 10) (b == 13 && at_newline bs) (some_line bs)
  where
    by : (t u : Bool) → (l : List ℕ) × (ls : List (List ℕ)) × (lines bs ≡ l ∷ ls) → (l : List ℕ) × (ls : List (List ℕ)) × (cond t ([] ∷ lines bs) (cond u (lines bs) (onto_first b (lines bs))) ≡ l ∷ ls)
    by true u r = ([], lines bs, refl)
    by false true r = r
    by false false r = (b ∷ r.0, r.1, ap (onto_first b) r.2)

pub lines-plain : (b : ℕ) (bs : List ℕ) → (b == 10) ≡ false → (b == 13 && at_newline bs) ≡ false → lines (b ∷ bs) ≡ onto_first b (lines bs)
lines-plain b bs e f = λ i. cond (e i) ([] ∷ lines bs) (cond (f i) (lines bs) (onto_first b (lines bs)))

-- a blank
is_blank_cases : (b : ℕ) → is_blank b ≡ true → (b ≡ 32) ⊎ (b ≡ 9)
is_blank_cases b e = ⊎_elim (λ h. inl (eqb-true b 32 h)) (λ h. inr (eqb-true b 9 h)) (or_cases (b == 32) (b == 9) e)

lines-blank : (b : ℕ) (bs : List ℕ) → is_blank b ≡ true → lines (b ∷ bs) ≡ onto_first b (lines bs)
lines-blank b bs e = ⊎_elim
    (λ h. let P : ℕ → Type 0 = λ k. lines (k ∷ bs) ≡ onto_first k (lines bs) in subst P (sym h) refl)
    (λ h. let P : ℕ → Type 0 = λ k. lines (k ∷ bs) ≡ onto_first k (lines bs) in subst P (sym h) refl)
    (is_blank_cases b e)

before-blank : (b : ℕ) (bs : List ℕ) → is_blank b ≡ true → before 35 (b ∷ bs) ≡ b ∷ before 35 bs
before-blank b bs e = ⊎_elim
    (λ h. let P : ℕ → Type 0 = λ k. before 35 (k ∷ bs) ≡ k ∷ before 35 bs in subst P (sym h) refl)
    (λ h. let P : ℕ → Type 0 = λ k. before 35 (k ∷ bs) ≡ k ∷ before 35 bs in subst P (sym h) refl)
    (is_blank_cases b e)

pub tokens-blank : (n b : ℕ) (bs : List ℕ) → is_blank b ≡ true → tokens_from n (b ∷ bs) ≡ tokens_from n bs
tokens-blank n b bs e = let f = some_line bs in
    ap (tokens_of_lines n) (lines-blank b bs e ∙ ap (onto_first b) f.2)
    ∙ ap (λ text. map (λ (w : List ℕ). (n, w)) text ++ tokens_of_lines (n + 1) f.1) (ap words (before-blank b f.0 e) ∙ words-blank b (before 35 f.0) e)
    ∙ sym (ap (tokens_of_lines n) f.2)

pub tokens-return : (n : ℕ) (bs : List ℕ) → at_newline bs ≡ true → tokens_from n (13 ∷ bs) ≡ tokens_from n bs
tokens-return n bs e = ap (λ t. tokens_of_lines n (cond t (lines bs) (onto_first 13 (lines bs)))) e

pub tokens-newline : (n : ℕ) (bs : List ℕ) → tokens_from n (10 ∷ bs) ≡ tokens_from (n + 1) bs
tokens-newline n bs = refl

-- in a comment only a newline counts
comment_on : (n c : ℕ) (cs : List ℕ) → (c == 10) ≡ false → tokens_from n (35 ∷ c ∷ cs) ≡ tokens_from n (35 ∷ cs)
comment_on n c cs e = let f = some_line cs in let g = same_rest f.0 f.1 f.2 (c == 13 && at_newline cs) in
    ap (λ ls. tokens_of_lines n (onto_first 35 ls)) (ap (λ t. cond t ([] ∷ lines cs) (cond (c == 13 && at_newline cs) (lines cs) (onto_first c (lines cs)))) e ∙ g.1)
    ∙ sym (ap (λ ls. tokens_of_lines n (onto_first 35 ls)) f.2)
  where
    same_rest : (l : List ℕ) (ls : List (List ℕ)) → lines cs ≡ l ∷ ls → (t : Bool) → (m : List ℕ) × (cond t (lines cs) (onto_first c (lines cs)) ≡ m ∷ ls)
    same_rest l ls h true = (l, h)
    same_rest l ls h false = (c ∷ l, ap (onto_first c) h)

pub tokens-comment : (n : ℕ) (bs : List ℕ) → tokens_from n (35 ∷ bs) ≡ tokens_from n (drop (position_or_len (λ b. b == 10) bs) bs)
tokens-comment n [] = refl
tokens-comment n (c ∷ cs) = ⊎_elim
    (λ e. (let P : ℕ → Type 0 = λ k. tokens_from n (35 ∷ k ∷ cs) ≡ tokens_from n (k ∷ cs) in subst P (sym (eqb-true c 10 e)) refl) ∙ sym (ap (λ k. tokens_from n (drop k (c ∷ cs))) (position-yes (λ b. b == 10) c cs e)))
    (λ e. comment_on n c cs e ∙ tokens-comment n cs ∙ sym (ap (λ k. tokens_from n (drop k (c ∷ cs))) (position-no (λ b. b == 10) c cs e)))
    (cases_Bool (c == 10))

-- what a byte at which a word ends does
pub tokens-between : (n b : ℕ) (bs : List ℕ) → ends_word (b ∷ bs) ≡ true → b ≢ 10 → b ≢ 35 → tokens_from n (b ∷ bs) ≡ tokens_from n bs
tokens-between n b bs e newline comment = ⊎_elim (tokens-blank n b bs)
    (λ f. ⊎_elim (λ g. absurd (newline (eqb-true b 10 g)))
    (λ g. ⊎_elim (λ h. absurd (comment (eqb-true b 35 h)))
    (λ h. let r = and_parts (b == 13) (at_newline bs) h in (let P : ℕ → Type 0 = λ k. tokens_from n (k ∷ bs) ≡ tokens_from n bs in subst P (sym (eqb-true b 13 r.0)) (tokens-return n bs r.1)))
    (or_cases (b == 35) _ g))
    (or_cases (b == 10) _ f))
    (or_cases (is_blank b) _ e)

-- Where a word ends, the line has no more of it.
empty_part : (bs l : List ℕ) (ls : List (List ℕ)) → ends_word bs ≡ true → lines bs ≡ l ∷ ls → (parts : List (List ℕ)) × (slice_split is_blank (before 35 l) ≡ [] ∷ parts)
empty_part [] l ls e h = let same : [] ≡ l = cc in ([], ap (λ m. slice_split is_blank (before 35 m)) (sym same))
empty_part (b ∷ bs) l ls e h = ⊎_elim
    (λ blank. let f = some_line bs in let same : b ∷ f.0 ≡ l = let both : (b ∷ f.0) ∷ f.1 ≡ l ∷ ls = sym (lines-blank b bs blank ∙ ap (onto_first b) f.2) ∙ h in cc in
    (slice_split is_blank (before 35 f.0), ap (λ m. slice_split is_blank (before 35 m)) (sym same) ∙ ap (slice_split is_blank) (before-blank b f.0 blank) ∙ slice_split-cons_yes is_blank b (before 35 f.0) blank))
    (λ f. ⊎_elim
    (λ newline. let same : [] ≡ l = let both : [] ∷ lines bs ≡ l ∷ ls = (let P : ℕ → Type 0 = λ k. [] ∷ lines bs ≡ lines (k ∷ bs) in subst P (sym (eqb-true b 10 newline)) refl) ∙ h in cc in ([], ap (λ m. slice_split is_blank (before 35 m)) (sym same)))
    (λ g. ⊎_elim
    (λ comment. let r = some_line bs in let same : 35 ∷ r.0 ≡ l = let both : (35 ∷ r.0) ∷ r.1 ≡ l ∷ ls = sym (ap (onto_first 35) r.2) ∙ (let P : ℕ → Type 0 = λ k. onto_first 35 (lines bs) ≡ lines (k ∷ bs) in subst P (sym (eqb-true b 35 comment)) refl) ∙ h in cc in ([], ap (λ m. slice_split is_blank (before 35 m)) (sym same)))
    (λ return. let r = and_parts (b == 13) (at_newline bs) return in ends_line bs r.1 (sym (let P : ℕ → Type 0 = λ k. lines (k ∷ bs) ≡ lines bs in subst P (sym (eqb-true b 13 r.0)) (ap (λ t. cond t (lines bs) (onto_first 13 (lines bs))) r.1)) ∙ h))
    (or_cases (b == 35) _ g))
    (or_cases (b == 10) _ f))
    (or_cases (is_blank b) _ e)
  where
    ends_line : (cs : List ℕ) → at_newline cs ≡ true → lines cs ≡ l ∷ ls → (parts : List (List ℕ)) × (slice_split is_blank (before 35 l) ≡ [] ∷ parts)
    ends_line [] t k = absurd (false≢true t)
    ends_line (c ∷ cs) t k = let same : [] ≡ l = let both : [] ∷ lines cs ≡ l ∷ ls = (let P : ℕ → Type 0 = λ m. [] ∷ lines cs ≡ lines (m ∷ cs) in subst P (sym (eqb-true c 10 t)) refl) ∙ k in cc in ([], ap (λ m. slice_split is_blank (before 35 m)) (sym same))

record GoesOn (b : ℕ) (bs : List ℕ) : Type 0 where
  blank : is_blank b ≡ false
  newline : (b == 10) ≡ false
  comment : (b == 35) ≡ false
  return : (b == 13 && at_newline bs) ≡ false

goes_on : (b : ℕ) (bs : List ℕ) → ends_word (b ∷ bs) ≡ false → GoesOn b bs
goes_on b bs e = let f = or_parts (is_blank b) _ e in let g = or_parts (b == 10) _ f.1 in let h = or_parts (b == 35) _ g.1 in record { blank = f.0; newline = g.0; comment = h.0; return = h.1 }

-- the first word of the bytes, and what it leaves of its line
record Front (at : ℕ) (bytes : List ℕ) : Type 0 where
  left : List ℕ
  more : List (List ℕ)
  parts : List (List ℕ)
  whole : lines bytes ≡ (take at bytes ++ left) ∷ more
  rest : lines (drop at bytes) ≡ left ∷ more
  split : slice_split is_blank (before 35 (take at bytes ++ left)) ≡ take at bytes ∷ parts
  words : filter is_word parts ≡ words (before 35 left)

front : (at : ℕ) (bytes : List ℕ) → ((k : ℕ) → k < at → ends_word (drop k bytes) ≡ false) → ends_word (drop at bytes) ≡ true → Front at bytes
front zero bytes on ends = let f = some_line bytes in let r = empty_part bytes f.0 f.1 ends f.2 in
    record { left = f.0; more = f.1; parts = r.0; whole = f.2; rest = f.2; split = r.1; words = sym (ap (filter is_word) r.1) }
front (suc at) [] on ends = absurd (false≢true (sym (on 0 (omega arith))))
front (suc at) (b ∷ bs) on ends =
    let g = goes_on b bs (on 0 (omega arith)) in
    let f = front at bs (λ k h. on (suc k) (omega arith)) ends in
    record {
      left = f.left;
      more = f.more;
      parts = f.parts;
      whole = lines-plain b bs g.newline g.return ∙ ap (onto_first b) f.whole;
      rest = f.rest;
      split = ap (λ t. slice_split is_blank (cond t [] (b ∷ before 35 (take at bs ++ f.left)))) g.comment ∙ slice_split-cons_no is_blank b (before 35 (take at bs ++ f.left)) g.blank ∙ ap (onto_first b) f.split;
      words = f.words;
    }

-- the word at the front
pub tokens-word : (n at : ℕ) (bytes : List ℕ) → 1 ≤ at → at ≤ length bytes → ((k : ℕ) → k < at → ends_word (drop k bytes) ≡ false) → ends_word (drop at bytes) ≡ true → tokens_from n bytes ≡ (n, take at bytes) ∷ tokens_from n (drop at bytes)
tokens-word n zero bytes some within on ends = absurd (omega arith)
tokens-word n (suc at) [] some within on ends = absurd (omega arith)
tokens-word n (suc at) (b ∷ bs) some within on ends = let f = front (suc at) (b ∷ bs) on ends in
    ap (tokens_of_lines n) f.whole
    ∙ ap (λ ws. map (λ (w : List ℕ). (n, w)) ws ++ tokens_of_lines (n + 1) f.more) (ap (filter is_word) f.split ∙ ap (λ ws. (b ∷ take at bs) ∷ ws) f.words)
    ∙ ap (λ ts. (n, b ∷ take at bs) ∷ ts) (sym (ap (tokens_of_lines n) f.rest))

pub some_at : (at : ℕ) (bytes : List ℕ) → ends_word bytes ≡ false → ends_word (drop at bytes) ≡ true → 1 ≤ at
some_at zero bytes on ends = absurd (false≢true (sym on ∙ ends))
some_at (suc at) bytes on ends = omega arith

-- what a slice pattern binds after the first item
abbrev pub tail : List ℕ → List ℕ
tail xs = take (length xs - 1) (drop 1 xs)

tail-cons : (b : ℕ) (bs : List ℕ) → tail (b ∷ bs) ≡ bs
tail-cons b bs = take_rest (b ∷ bs) 1

pub between_tail : (n : ℕ) (xs : List ℕ) → 1 ≤ length xs → ends_word xs ≡ true → get_or xs 0 0 ≢ 10 → get_or xs 0 0 ≢ 35 → tokens_from n xs ≡ tokens_from n (tail xs)
between_tail n [] some ends newline comment = absurd (omega arith)
between_tail n (b ∷ bs) some ends newline comment = tokens-between n b bs ends newline comment ∙ ap (tokens_from n) (sym (tail-cons b bs))

pub comment_tail : (n k : ℕ) (xs : List ℕ) → 1 ≤ length xs → get_or xs 0 0 ≡ 35 → k ≡ position_or_len (λ b. b == 10) (tail xs) → tokens_from n xs ≡ tokens_from n (take (length (tail xs) - k) (drop k (tail xs)))
comment_tail n k [] some is at = absurd (omega arith)
comment_tail n k (b ∷ bs) some is at = (let P : ℕ → Type 0 = λ m. tokens_from n (m ∷ bs) ≡ tokens_from n (drop (position_or_len (λ b. b == 10) bs) bs) in subst P (sym is) (tokens-comment n bs))
    ∙ ap (λ ys. tokens_from n (drop (position_or_len (λ b. b == 10) ys) ys)) (sym (tail-cons b bs))
    ∙ ap (λ j. tokens_from n (drop j (tail (b ∷ bs)))) (sym at)
    ∙ ap (tokens_from n) (sym (take_rest (tail (b ∷ bs)) k))

pub part-short : (k : ℕ) (xs : List ℕ) → length (take (length xs - k) (drop k xs)) ≤ length xs
part-short k xs = omega (arith, length-drop k xs, ap length (take_rest xs k))

-- blanks at the front
pub tokens-blanks : (n : ℕ) (bs : List ℕ) → tokens_from n bs ≡ tokens_from n (drop (blank_count bs) bs)
tokens-blanks n [] = refl
tokens-blanks n (b ∷ bs) = ⊎_elim
    (λ e. tokens-blank n b bs e ∙ tokens-blanks n bs ∙ sym (ap (λ k. tokens_from n (drop k (b ∷ bs))) (position-no (λ b. not (is_blank b)) b bs (not_from_true _ e))))
    (λ e. sym (ap (λ k. tokens_from n (drop k (b ∷ bs))) (position-yes (λ b. not (is_blank b)) b bs (not_from_false _ e))))
    (cases_Bool (is_blank b))
