-- The words of a written line.
use Rattle.std.proofs.Common.{◌≡◌, ℕ, ℤ, List, [], ◌∷◌, ◌++◌, map, filter, Bool, true, false, ◌||◌, cond, Result, Ok, ◌+◌, ◌∙◌, refl, ap, All}
use Rattle.std.specs.List.{list_any, flat_map, slice_split, join_with_byte}
use Rattle.std.proofs.lemmas.Bool.{or_parts, or_from}
use Rattle.std.proofs.lemmas.List.Elements.{All-nil, All-cons}
use Rattle.std.proofs.lemmas.List.Folds.{list_any-append}
use Rattle.std.proofs.lemmas.List.Splits.{slice_split_none, slice_split_at}
use Rattle.macro_file.specs.declared.keyword.Keyword.{Keyword}
use Rattle.macro_file.specs.declared.refusal.MacroRefusal.{MacroRefusal}
use Rattle.macro_file.specs.Steps.{then, each}
use Rattle.macro_file.specs.Lines.{before, is_blank, is_word, words}
use Rattle.macro_file.specs.Sections.{Token, tokens}
use Rattle.macro_file.specs.Walks.{tokens_of_lines}
use Rattle.macro_file.specs.Numbers.{value}
use Rattle.macro_file.proofs.RangeLemmas.{then-ok}
use Rattle.macro_file.proofs.PlainLines.{ends_name, before-none, name-text}

-- a byte that no written word has
abbrev pub ends_number : ℕ → Bool
ends_number b = is_blank b || ends_name b

-- a word that can stand in a line
pub record IsWord (w : List ℕ) : Type 0 where
  pub some : is_word w ≡ true
  pub whole : list_any ends_number w ≡ false

word-blanks : (w : List ℕ) → list_any ends_number w ≡ false → All (λ b. is_blank b ≡ false) w
word-blanks [] e = All-nil (λ b. is_blank b ≡ false)
word-blanks (b ∷ bs) e = let p = or_parts (ends_number b) _ e in let q = or_parts (is_blank b) _ p.0 in All-cons (λ b. is_blank b ≡ false) b bs q.0 (word-blanks bs p.1)

pub word-name : (w : List ℕ) → list_any ends_number w ≡ false → list_any ends_name w ≡ false
word-name [] e = refl
word-name (b ∷ bs) e = let p = or_parts (ends_number b) _ e in let q = or_parts (is_blank b) _ p.0 in or_from _ _ q.1 (word-name bs p.1)

pub words-one : (w : List ℕ) → IsWord w → words w ≡ w ∷ []
words-one w h = ap (filter is_word) (slice_split_none is_blank w (word-blanks w h.whole)) ∙ ap (λ t. cond t (w ∷ []) []) h.some

abbrev pub AreWords : List (List ℕ) → Type 0
AreWords [] = Unit {0}
AreWords (w ∷ ws) = IsWord w × AreWords ws

words-join : (ws : List (List ℕ)) → AreWords ws → words (join_with_byte 32 ws) ≡ ws
words-join [] h = refl
words-join (w ∷ []) h = words-one w h.0
words-join (w ∷ x ∷ ws) h =
    let rest = join_with_byte 32 (x ∷ ws) in
    ap (filter is_word) (slice_split_at is_blank w 32 rest (word-blanks w h.0.whole) refl)
    ∙ ap (λ t. cond t (w ∷ filter is_word (slice_split is_blank rest)) (filter is_word (slice_split is_blank rest))) h.0.some
    ∙ ap (λ vs. w ∷ vs) (words-join (x ∷ ws) h.1)

name-join : (ws : List (List ℕ)) → AreWords ws → list_any ends_name (join_with_byte 32 ws) ≡ false
name-join [] h = refl
name-join (w ∷ []) h = word-name w h.0.whole
name-join (w ∷ x ∷ ws) h = list_any-append ends_name w (32 ∷ join_with_byte 32 (x ∷ ws)) ∙ or_from _ _ (word-name w h.0.whole) (name-join (x ∷ ws) h.1)

-- The words of a key's lines, and the numbers that they give.
module _ (k : Keyword) (text : ℤ → List ℕ) where
  -- a number whose text is read as the number
  pub record Reads (z : ℤ) : Type 0 where
    pub word : IsWord (text z)
    pub value : (n : ℕ) → value k (n, text z) ≡ Ok z

  abbrev pub ReadsEach : List ℤ → Type 0
  ReadsEach [] = Unit {0}
  ReadsEach (z ∷ zs) = Reads z × ReadsEach zs

  are-words : (zs : List ℤ) → ReadsEach zs → AreWords (map text zs)
  are-words [] h = tt
  are-words (z ∷ zs) h = (h.0.word, are-words zs h.1)

  each-number : (n : ℕ) (zs : List ℤ) → ReadsEach zs → each (value k) (map (λ (w : List ℕ). (n, w)) (map text zs)) ≡ Ok zs
  each-number n [] h = refl
  each-number n (z ∷ zs) h =
      ap (λ r. then r (λ y. then (each (value k) (map (λ (w : List ℕ). (n, w)) (map text zs))) (λ ws. Ok (y ∷ ws)))) (h.0.value n)
      ∙ ap (λ r. then r (λ ws. Ok (z ∷ ws))) (each-number n zs h.1)

  -- the line of these numbers
  abbrev pub row_line : List ℤ → List ℕ
  row_line zs = join_with_byte 32 (map text zs)

  pub tokens-row : (n : ℕ) (zs : List ℤ) → ReadsEach zs → each (value k) (tokens n (before 35 (row_line zs))) ≡ Ok zs
  tokens-row n zs h = let ws = are-words zs h in
      ap (λ line. each (value k) (map (λ (w : List ℕ). (n, w)) (words line))) (before-none (row_line zs) (name-text (row_line zs) (name-join (map text zs) ws)))
      ∙ ap (λ vs. each (value k) (map (λ (w : List ℕ). (n, w)) vs)) (words-join (map text zs) ws)
      ∙ each-number n zs h

  module _ {A : Type 0} (row : A → List ℤ) where
    abbrev pub ReadsRows : List A → Type 0
    ReadsRows [] = Unit {0}
    ReadsRows (x ∷ xs) = ReadsEach (row x) × ReadsRows xs

    -- the lines of these items, and an empty one
    abbrev pub rows : List A → List (List ℕ)
    rows xs = map (λ x. row_line (row x)) xs ++ [] ∷ []

    pub rows-name : (xs : List A) → ReadsRows xs → list_any (list_any ends_name) (rows xs) ≡ false
    rows-name [] h = refl
    rows-name (x ∷ xs) h = or_from _ _ (name-join (map text (row x)) (are-words (row x) h.0)) (rows-name xs h.1)

    pub each-rows : (n : ℕ) (xs : List A) → ReadsRows xs → each (value k) (tokens_of_lines n (rows xs)) ≡ Ok (flat_map row xs)
    each-rows n [] h = refl
    each-rows n (x ∷ xs) h = each-both (tokens n (before 35 (row_line (row x)))) (tokens_of_lines (n + 1) (rows xs)) (row x) (flat_map row xs) (tokens-row n (row x) h.0) (each-rows (n + 1) xs h.1)
      where
        each-both : (ts us : List Token) (ys bs : List ℤ) → each (value k) ts ≡ Ok ys → each (value k) us ≡ Ok bs → each (value k) (ts ++ us) ≡ Ok (ys ++ bs)
        each-both [] us ys bs e f = let none : [] ≡ ys = cc in f ∙ ap (λ zs. Ok (zs ++ bs)) none
        each-both (t ∷ ts) us ys bs e f =
            let a = then-ok (value k t) (λ y. then (each (value k) ts) (λ ws. Ok (y ∷ ws))) ys e in
            let b = then-ok (each (value k) ts) (λ ws. Ok (a.0 ∷ ws)) ys a.2 in
            let same : a.0 ∷ b.0 ≡ ys = let i : ◌≡◌ {A = Result (List ℤ) MacroRefusal} (Ok (a.0 ∷ b.0)) (Ok ys) = b.2 in cc in
            ap (λ r. then r (λ y. then (each (value k) (ts ++ us)) (λ ws. Ok (y ∷ ws)))) a.1
            ∙ ap (λ r. then r (λ ws. Ok (a.0 ∷ ws))) (each-both ts us b.0 bs b.1 f)
            ∙ ap (λ zs. Ok (zs ++ bs)) same
