-- The sections of a file: a key, and the words up to the next key.
use Rattle.std.specs.Prelude.{ℕ, Bool, List, [], ◌∷◌, ◌++◌, map, ◌+◌, cond, Option, Some, None, Result, Ok, Err}
use Rattle.std.specs.List.{list_any}
use Rattle.macro_file.specs.declared.keyword.Keyword.{Keyword}
use Rattle.macro_file.specs.declared.refusal.MacroRefusal.{MacroRefusal}
use Rattle.macro_file.specs.declared.refusal.MacroRefusal.TheVariants.{BadKey, KeyTwice}
use Rattle.macro_file.specs.Steps.{then}
use Rattle.macro_file.specs.Lines.{lines, before, after, words}
use Rattle.macro_file.specs.Keywords.{same, keyword_of}

-- a word, and the number of its line
abbrev pub Token : Type 0
Token = ℕ × List ℕ

-- the words of a part of line n
abbrev pub tokens : ℕ → List ℕ → List Token
tokens n part = map (λ word. (n, word)) (words part)

-- a key line's number and key, and the words after its colon and on the lines up to the next key line
pub record Block : Type 0 where
  pub line : ℕ
  pub key : List ℕ
  pub tokens : List Token

-- line n, without its comment, with what stands after its first colon where it has one, before what follows it
abbrev pub add_line : ℕ → List ℕ → Option (List ℕ) → List Token × List Block → List Token × List Block
add_line n text None next = (tokens n text ++ next.0, next.1)
add_line n text (Some rest) next = ([], record { line = n; key = before 58 text; tokens = tokens n rest ++ next.0 } ∷ next.1)

-- the words before the first key line, and the blocks, of these lines, of which the first is line n
abbrev pub blocks : ℕ → List (List ℕ) → List Token × List Block
blocks n [] = ([], [])
blocks n (l ∷ ls) = let text = before 35 l in add_line n text (after 58 text) (blocks (n + 1) ls)

-- a block whose key is known
pub record Section : Type 0 where
  pub line : ℕ
  pub keyword : Keyword
  pub tokens : List Token

-- whether the key stands among the sections
abbrev pub stands : Keyword → List Section → Bool
stands k ss = list_any (λ (s : Section). same s.keyword k) ss

-- a block after these sections
abbrev pub add_block : List Section → Block → Option Keyword → Result (List Section) MacroRefusal
add_block ss b None = Err (BadKey b.line)
add_block ss b (Some k) = cond (stands k ss) (Err (KeyTwice b.line)) (Ok (ss ++ record { line = b.line; keyword = k; tokens = b.tokens } ∷ []))

-- these blocks after these sections
abbrev pub add_blocks : List Section → List Block → Result (List Section) MacroRefusal
add_blocks ss [] = Ok ss
add_blocks ss (b ∷ bs) = then (add_block ss b (keyword_of b.key)) (λ more. add_blocks more bs)

-- no word stands before the first key line
abbrev pub from_first_key : List Token × List Block → Result (List Section) MacroRefusal
from_first_key ([], bs) = add_blocks [] bs
from_first_key (t ∷ ts, bs) = Err (BadKey t.0)

-- step 1: the sections, or the first line with no key, a bad key or a key twice
abbrev pub sections : List ℕ → Result (List Section) MacroRefusal
sections bytes = from_first_key (blocks 1 (lines bytes))
