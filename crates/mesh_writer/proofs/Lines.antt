-- Texts, line after line.
use Rattle.std.proofs.Common.{◌≡◌, ℕ, suc, ◌+◌, ◌<◌, sym, ap, ◌∙◌, List, [], ◌∷◌, ◌++◌, length, map, take, get_or, take-suc, append_assoc, arith}
use Rattle.std.proofs.lemmas.List.{map-append, append-nil}
use Rattle.macro_file.specs.Written.{lines_text, list_lines}
use Rattle.macro_file.proofs.WriterLemmas.{lines-append}

-- the lines up to an item, and the line of the item
pub next_line : {A : Type 0} (line : A → List ℕ) (now then : List ℕ) (xs : List A) (i : ℕ) (x d : A) → i < length xs → x ≡ get_or xs i d → now ≡ lines_text (map line (take i xs)) → then ≡ now ++ (line x ++ 10 ∷ []) → then ≡ lines_text (map line (take (i + 1) xs))
next_line {A} line now then xs i x d low is before one =
    let after : i + 1 ≡ suc i = omega arith in
    let more : take (i + 1) xs ≡ take i xs ++ x ∷ [] = ap (λ (k : ℕ). take k xs) after ∙ take-suc xs i d low ∙ (λ j. take i xs ++ sym is j ∷ []) in
    one ∙ ap (λ (t : List ℕ). t ++ (line x ++ 10 ∷ [])) before ∙ ap (λ (t : List ℕ). lines_text (map line (take i xs)) ++ t) (sym (append-nil (line x ++ 10 ∷ [])))
    ∙ sym (lines-append (map line (take i xs)) (line x ∷ [])) ∙ ap lines_text (sym (map-append line (take i xs) (x ∷ []))) ∙ ap (λ (ys : List A). lines_text (map line ys)) (sym more)

-- a line with the key, and then the others
pub key_line_and_lines : {A : Type 0} (line : A → List ℕ) (xs : List A) (key t0 t1 t2 : List ℕ) → t1 ≡ t0 ++ (key ++ 10 ∷ []) → t2 ≡ t1 ++ lines_text (map line xs) → t2 ≡ t0 ++ lines_text (key ∷ map line xs)
key_line_and_lines {A} line xs key t0 t1 t2 e1 e2 = e2 ∙ ap (λ (t : List ℕ). t ++ lines_text (map line xs)) e1 ∙ append_assoc t0 (key ++ 10 ∷ []) (lines_text (map line xs))

pub key_and_lines : {A : Type 0} (line : A → List ℕ) (xs : List A) (key t0 t1 t2 t3 : List ℕ) → t1 ≡ t0 ++ key → t2 ≡ t1 ++ 10 ∷ [] → t3 ≡ t2 ++ lines_text (map line xs) → t3 ≡ t0 ++ lines_text (key ∷ map line xs)
key_and_lines {A} line xs key t0 t1 t2 t3 e1 e2 e3 = key_line_and_lines line xs key t0 t2 t3 (e2 ∙ ap (λ (t : List ℕ). t ++ 10 ∷ []) e1 ∙ append_assoc t0 key (10 ∷ [])) e3

-- and an empty line
pub and_empty_line : {A : Type 0} (line : A → List ℕ) (xs : List A) (key t0 t1 t2 : List ℕ) → t1 ≡ t0 ++ lines_text (key ∷ map line xs) → t2 ≡ t1 ++ 10 ∷ [] → t2 ≡ t0 ++ lines_text (list_lines key line xs)
and_empty_line {A} line xs key t0 t1 t2 e1 e2 =
    e2 ∙ ap (λ (t : List ℕ). t ++ 10 ∷ []) e1 ∙ append_assoc t0 (lines_text (key ∷ map line xs)) (10 ∷ []) ∙ ap (λ (t : List ℕ). t0 ++ t) (sym (lines-append (key ∷ map line xs) ([] ∷ [])))
