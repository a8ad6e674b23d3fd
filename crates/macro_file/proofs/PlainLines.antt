-- The lines of a text whose lines have no mark of their own, and the blocks of its parts.
use Rattle.std.proofs.Common.{◌≡◌, ℕ, List, [], ◌∷◌, ◌++◌, Bool, false, ◌==◌, ◌&&◌, ◌||◌, cond, Some, None, ◌+◌, ◌∙◌, refl, sym, ap, append_assoc}
use Rattle.std.specs.List.{list_any, onto_first, flat_map}
use Rattle.std.proofs.lemmas.Bool.{or_parts, or_from}
use Rattle.std.proofs.lemmas.List.{append-nil}
use Rattle.std.proofs.lemmas.List.Folds.{list_any-append}
use Rattle.macro_file.specs.Lines.{lines, at_newline, before, after}
use Rattle.macro_file.specs.Sections.{Token, Block, tokens, add_line, blocks}
use Rattle.macro_file.specs.Walks.{tokens_of_lines}
use Rattle.macro_file.specs.Written.{lines_text}
use Rattle.macro_file.proofs.TokenLemmas.{lines-plain}

-- a byte that ends a line, or may, or begins a comment
abbrev pub ends_text : ℕ → Bool
ends_text b = b == 10 || (b == 13 || b == 35)

-- the same, or a colon
abbrev pub ends_name : ℕ → Bool
ends_name b = b == 58 || (b == 10 || (b == 13 || b == 35))

lines-line : (l rest : List ℕ) → list_any ends_text l ≡ false → lines (l ++ 10 ∷ rest) ≡ l ∷ lines rest
lines-line [] rest e = refl
lines-line (b ∷ bs) rest e =
    let p = or_parts (ends_text b) _ e in
    let q = or_parts (b == 10) _ p.0 in
    let r = or_parts (b == 13) _ q.1 in
    lines-plain b (bs ++ 10 ∷ rest) q.0 (ap (λ t. t && at_newline (bs ++ 10 ∷ rest)) r.0) ∙ ap (onto_first b) (lines-line bs rest p.1)

-- the lines of a written text
pub lines-text : (ls : List (List ℕ)) → list_any (list_any ends_text) ls ≡ false → lines (lines_text ls) ≡ ls ++ [] ∷ []
lines-text [] e = refl
lines-text (l ∷ ls) e = let p = or_parts (list_any ends_text l) _ e in
    ap lines (append_assoc l (10 ∷ []) (lines_text ls)) ∙ lines-line l (lines_text ls) p.0 ∙ ap (λ ms. l ∷ ms) (lines-text ls p.1)

pub before-none : (l : List ℕ) → list_any ends_text l ≡ false → before 35 l ≡ l
before-none [] e = refl
before-none (b ∷ bs) e =
    let p = or_parts (ends_text b) _ e in
    let q = or_parts (b == 10) _ p.0 in
    let r = or_parts (b == 13) _ q.1 in
    ap (λ t. cond t [] (b ∷ before 35 bs)) r.1 ∙ ap (λ xs. b ∷ xs) (before-none bs p.1)

pub name-text : (l : List ℕ) → list_any ends_name l ≡ false → list_any ends_text l ≡ false
name-text [] e = refl
name-text (b ∷ bs) e = let p = or_parts (ends_name b) _ e in let q = or_parts (b == 58) _ p.0 in or_from _ _ q.1 (name-text bs p.1)

after-none : (l : List ℕ) → list_any ends_name l ≡ false → after 58 l ≡ None
after-none [] e = refl
after-none (b ∷ bs) e = let p = or_parts (ends_name b) _ e in let q = or_parts (b == 58) _ p.0 in
    ap (λ t. cond t (Some bs) (after 58 bs)) q.0 ∙ after-none bs p.1

-- a name, a colon and what follows
before-colon : (key tail : List ℕ) → list_any ends_name key ≡ false → before 58 (key ++ 58 ∷ tail) ≡ key
before-colon [] tail e = refl
before-colon (b ∷ bs) tail e = let p = or_parts (ends_name b) _ e in let q = or_parts (b == 58) _ p.0 in
    ap (λ t. cond t [] (b ∷ before 58 (bs ++ 58 ∷ tail))) q.0 ∙ ap (λ xs. b ∷ xs) (before-colon bs tail p.1)

after-colon : (key tail : List ℕ) → list_any ends_name key ≡ false → after 58 (key ++ 58 ∷ tail) ≡ Some tail
after-colon [] tail e = refl
after-colon (b ∷ bs) tail e = let p = or_parts (ends_name b) _ e in let q = or_parts (b == 58) _ p.0 in
    ap (λ t. cond t (Some (bs ++ 58 ∷ tail)) (after 58 (bs ++ 58 ∷ tail))) q.0 ∙ after-colon bs tail p.1

-- a key, what follows its colon, and the lines after it
pub record Part : Type 0 where
  pub key : List ℕ
  pub tail : List ℕ
  pub rows : List (List ℕ)

abbrev pub part_lines : Part → List (List ℕ)
part_lines p = (p.key ++ 58 ∷ p.tail) ∷ p.rows

-- no part of it has a mark of its own
pub record IsPart (p : Part) : Type 0 where
  pub key : list_any ends_name p.key ≡ false
  pub tail : list_any ends_text p.tail ≡ false
  pub rows : list_any (list_any ends_name) p.rows ≡ false

abbrev pub AreParts : List Part → Type 0
AreParts [] = Unit {0}
AreParts (p ∷ ps) = IsPart p × AreParts ps

-- the number of the line after these
abbrev pub line_after : ℕ → List (List ℕ) → ℕ
line_after n [] = n
line_after n (l ∷ ls) = line_after (n + 1) ls

abbrev pub part_blocks : ℕ → List Part → List Block
part_blocks n [] = []
part_blocks n (p ∷ ps) = record { line = n; key = p.key; tokens = tokens n p.tail ++ tokens_of_lines (n + 1) p.rows } ∷ part_blocks (line_after (n + 1) p.rows) ps

key-line : (p : Part) → IsPart p → list_any ends_text (p.key ++ 58 ∷ p.tail) ≡ false
key-line p h = list_any-append ends_text p.key (58 ∷ p.tail) ∙ or_from _ _ (name-text p.key h.key) h.tail

name-texts : (ls : List (List ℕ)) → list_any (list_any ends_name) ls ≡ false → list_any (list_any ends_text) ls ≡ false
name-texts [] e = refl
name-texts (l ∷ ls) e = let p = or_parts (list_any ends_name l) _ e in or_from _ _ (name-text l p.0) (name-texts ls p.1)

pub parts-plain : (ps : List Part) → AreParts ps → list_any (list_any ends_text) (flat_map part_lines ps) ≡ false
parts-plain [] h = refl
parts-plain (p ∷ ps) h = or_from _ _ (key-line p h.0) (list_any-append (list_any ends_text) p.rows (flat_map part_lines ps) ∙ or_from _ _ (name-texts p.rows h.0.rows) (parts-plain ps h.1))

-- lines without a key
blocks-rows : (n : ℕ) (ls more : List (List ℕ)) → list_any (list_any ends_name) ls ≡ false → let p = blocks (line_after n ls) more in blocks n (ls ++ more) ≡ (tokens_of_lines n ls ++ p.0, p.1)
blocks-rows n [] more e = refl
blocks-rows n (l ∷ ls) more e =
    let q = or_parts (list_any ends_name l) _ e in
    let text = before-none l (name-text l q.0) in
    let p = blocks (line_after (n + 1) ls) more in
    ap (λ o. add_line n (before 35 l) o (blocks (n + 1) (ls ++ more))) (ap (after 58) text ∙ after-none l q.0)
    ∙ ap (λ (r : List Token × List Block). (tokens n (before 35 l) ++ r.0, r.1)) (blocks-rows (n + 1) ls more q.1)
    ∙ (λ i. (sym (append_assoc (tokens n (before 35 l)) (tokens_of_lines (n + 1) ls) p.0) i, p.1))

-- the blocks of the parts
pub blocks-parts : (n : ℕ) (ps : List Part) → AreParts ps → blocks n (flat_map part_lines ps) ≡ ([], part_blocks n ps)
blocks-parts n [] h = refl
blocks-parts n (p ∷ ps) h =
    let rest = flat_map part_lines ps in
    let next = blocks (n + 1) (p.rows ++ rest) in
    let line = p.key ++ 58 ∷ p.tail in
    let plain = before-none line (key-line p h.0) in
    let later : next ≡ (tokens_of_lines (n + 1) p.rows, part_blocks (line_after (n + 1) p.rows) ps) =
    blocks-rows (n + 1) p.rows rest h.0.rows
    ∙ ap (λ (r : List Token × List Block). (tokens_of_lines (n + 1) p.rows ++ r.0, r.1)) (blocks-parts (line_after (n + 1) p.rows) ps h.1)
    ∙ (λ i. (append-nil (tokens_of_lines (n + 1) p.rows) i, part_blocks (line_after (n + 1) p.rows) ps)) in
    ap (λ text. add_line n text (after 58 text) next) plain
    ∙ ap (λ o. add_line n line o next) (after-colon p.key p.tail h.0.key)
    ∙ (λ i. ([], record { line = n; key = before-colon p.key p.tail h.0.key i; tokens = tokens n p.tail ++ (later i).0 } ∷ (later i).1))
