-- The words of a bisection of the first child of element 0 by block 1: each as a function of the words before it. Each line changes one word.
use Rattle.std.specs.Prelude.{ℕ, ◌+◌, true, false, List, [], ◌∷◌}
use Rattle.table_words.specs.Functions.{update}
use Rattle.table_words.specs.NameWords.{name_code}
use Rattle.table_words.specs.Places.{member_of, child_place}
use Rattle.table_words.specs.Words.{Words, node}

-- the name of the first child of element 0, and its place in block 0
abbrev pub child_name : ℕ
child_name = name_code (0, false ∷ [])

abbrev pub at_child : ℕ
at_child = child_place 2 0 false false

-- a worker claims the patch of the child at its place, and draws the block
abbrev pub claimed : Words → Words
claimed w = record w { claimed = update w.claimed at_child 1 }

abbrev pub drawn : Words → Words
drawn w = let u = claimed w in record u { cursor = u.cursor + 1 }

-- it fills the nine words of the block but BORN, which has no second member
abbrev pub history0 : Words → Words
history0 w = let u = drawn w in record u { history = update u.history (member_of 1 false) (node 0 0) }

abbrev pub history1 : Words → Words
history1 w = let u = history0 w in record u { history = update u.history (member_of 1 true) (node 0 0) }

abbrev pub undead : Words → Words
undead w = let u = history1 w in record u { died = update u.died 1 0 }

abbrev pub named0 : Words → Words
named0 w = let u = undead w in record u { name = update u.name (member_of 1 false) child_name }

abbrev pub named1 : Words → Words
named1 w = let u = named0 w in record u { name = update u.name (member_of 1 true) 0 }

abbrev pub kid0 : Words → Words
kid0 w = let u = named1 w in record u { head = update u.head (child_place 2 1 false false) (node 0 0) }

abbrev pub kid1 : Words → Words
kid1 w = let u = kid0 w in record u { head = update u.head (child_place 2 1 false true) (node 0 0) }

abbrev pub kid2 : Words → Words
kid2 w = let u = kid1 w in record u { head = update u.head (child_place 2 1 true false) (node 0 0) }

abbrev pub kid3 : Words → Words
kid3 w = let u = kid2 w in record u { head = update u.head (child_place 2 1 true true) (node 0 0) }

-- and links the one member to it
abbrev pub linked : Words → Words
linked w = let u = kid3 w in record u { head = update u.head at_child (node 2 0) }

-- these words, in order
abbrev pub bisection : Words → List Words
bisection w = claimed w ∷ drawn w ∷ history0 w ∷ history1 w ∷ undead w ∷ named0 w ∷ named1 w ∷ kid0 w ∷ kid1 w ∷ kid2 w ∷ kid3 w ∷ linked w ∷ []
