-- The words of a bisection of the square's patch by block 0, where its LINK words name no
-- block: each as a function of the words before it. Each line changes one word.
use Rattle.std.specs.Prelude.{ℕ, ◌+◌, true, false, List, [], ◌∷◌}
use Rattle.table_words.specs.Functions.{update}
use Rattle.table_words.specs.NameWords.{name_code}
use Rattle.table_words.specs.Places.{member_of, child_place}
use Rattle.table_words.specs.Words.{Words, node}

-- the names of the square's elements
abbrev pub name0 : ℕ
name0 = name_code (0, [])

abbrev pub name1 : ℕ
name1 = name_code (1, [])

-- a worker claims the patch at the place of element 0, and draws the block
abbrev pub claimed : Words → Words
claimed w = record w { claimed = update w.claimed 0 1 }

abbrev pub drawn : Words → Words
drawn w = let u = claimed w in record u { cursor = u.cursor + 1 }

-- it fills the nine words of the block but BORN
abbrev pub history0 : Words → Words
history0 w = let u = drawn w in record u { history = update u.history (member_of 0 false) (node 0 0) }

abbrev pub history1 : Words → Words
history1 w = let u = history0 w in record u { history = update u.history (member_of 0 true) (node 0 0) }

abbrev pub undead : Words → Words
undead w = let u = history1 w in record u { died = update u.died 0 0 }

abbrev pub named0 : Words → Words
named0 w = let u = undead w in record u { name = update u.name (member_of 0 false) name0 }

abbrev pub named1 : Words → Words
named1 w = let u = named0 w in record u { name = update u.name (member_of 0 true) name1 }

abbrev pub child0 : Words → Words
child0 w = let u = named1 w in record u { head = update u.head (child_place 2 0 false false) (node 0 0) }

abbrev pub child1 : Words → Words
child1 w = let u = child0 w in record u { head = update u.head (child_place 2 0 false true) (node 0 0) }

abbrev pub child2 : Words → Words
child2 w = let u = child1 w in record u { head = update u.head (child_place 2 0 true false) (node 0 0) }

abbrev pub child3 : Words → Words
child3 w = let u = child2 w in record u { head = update u.head (child_place 2 0 true true) (node 0 0) }

-- and links both members to it
abbrev pub linked0 : Words → Words
linked0 w = let u = child3 w in record u { head = update u.head 0 (node 1 0) }

abbrev pub linked1 : Words → Words
linked1 w = let u = linked0 w in record u { head = update u.head 1 (node 1 0) }

-- these words, in order
abbrev pub bisection : Words → List Words
bisection w = claimed w ∷ drawn w ∷ history0 w ∷ history1 w ∷ undead w ∷ named0 w ∷ named1 w ∷ child0 w ∷ child1 w ∷ child2 w ∷ child3 w ∷ linked0 w
    ∷ linked1 w ∷ []
