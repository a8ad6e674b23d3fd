-- The lines of a file, and the words of a line.
use Rattle.std.specs.Prelude.{ℕ, Bool, true, false, List, [], ◌∷◌, cond, ◌==◌, ◌&&◌, ◌||◌, filter, Option, Some, None}
use Rattle.std.specs.List.{onto_first, slice_split}

-- whether a newline comes next
abbrev pub at_newline : List ℕ → Bool
at_newline [] = false
at_newline (b ∷ bs) = b == 10

-- the lines, parted by newlines, each without the carriage return just before its newline
abbrev pub lines : List ℕ → List (List ℕ)
lines [] = [] ∷ []
lines (b ∷ bs) = cond (b == 10) ([] ∷ lines bs) (cond (b == 13 && at_newline bs) (lines bs) (onto_first b (lines bs)))

-- what stands before the first such byte, or all where there is none
abbrev pub before : ℕ → List ℕ → List ℕ
before mark [] = []
before mark (b ∷ bs) = cond (b == mark) [] (b ∷ before mark bs)

-- what stands after the first such byte, where there is one
abbrev pub after : ℕ → List ℕ → Option (List ℕ)
after mark [] = None
after mark (b ∷ bs) = cond (b == mark) (Some bs) (after mark bs)

-- a space or a tab
abbrev pub is_blank : ℕ → Bool
is_blank b = b == 32 || b == 9

abbrev pub is_word : List ℕ → Bool
is_word [] = false
is_word (b ∷ bs) = true

-- the words of a text, parted by blanks
abbrev pub words : List ℕ → List (List ℕ)
words text = filter is_word (slice_split is_blank text)
