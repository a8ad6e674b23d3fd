-- What the reader's walks over the bytes give.
use Rattle.std.specs.Prelude.{ℕ, Bool, true, false, List, [], ◌∷◌, ◌++◌, ◌+◌, ◌==◌, ◌&&◌, ◌||◌, Option, Some, None}
use Rattle.macro_file.specs.declared.lines.KeyLine.{KeyLine}
use Rattle.macro_file.specs.Lines.{lines, at_newline, before, is_blank}
use Rattle.macro_file.specs.Sections.{Token, Block, tokens, add_line, blocks}

-- the words of these lines, of which the first is line n
abbrev pub tokens_of_lines : ℕ → List (List ℕ) → List Token
tokens_of_lines n [] = []
tokens_of_lines n (l ∷ ls) = tokens n (before 35 l) ++ tokens_of_lines (n + 1) ls

-- the words of these bytes, which begin in line n
abbrev pub tokens_from : ℕ → List ℕ → List Token
tokens_from n bytes = tokens_of_lines n (lines bytes)

-- whether no word goes on there: a blank, a line's end, a comment, or no byte
abbrev pub ends_word : List ℕ → Bool
ends_word [] = true
ends_word (b ∷ bs) = is_blank b || (b == 10 || (b == 35 || (b == 13 && at_newline bs)))

-- a newline, a comment or a colon
abbrev pub ends_key : ℕ → Bool
ends_key b = b == 10 || (b == 35 || b == 58)

-- whether a colon comes next
abbrev pub at_colon : List ℕ → Bool
at_colon [] = false
at_colon (b ∷ bs) = b == 58

-- the blocks of these lines, of which the first, line n, goes on after a colon
abbrev pub blocks_after : ℕ → List (List ℕ) → List Token × List Block
blocks_after n [] = ([], [])
blocks_after n (l ∷ ls) = add_line n (before 35 l) None (blocks (n + 1) ls)

-- the blocks from a key line on
abbrev pub blocks_of : Option KeyLine → List Block
blocks_of None = []
blocks_of (Some k) = let p = blocks_after k.line (lines k.after.now) in record { line = k.line; key = k.key.now; tokens = p.0 } ∷ p.1
