-- Nodes that are kept as two lists.
use Rattle.std.specs.Prelude.{ℕ, List, [], ◌∷◌, Option}
use Rattle.name_tree.specs.declared.nodes.Entry.{Entry}
use Rattle.name_tree.specs.declared.nodes.Node.{Node}

-- the nodes with these entries, and with these pairs below them
abbrev pub nodes_of : List (Option Entry) → List (Option ℕ) → List Node
nodes_of [] pairs = []
nodes_of (e ∷ es) [] = []
nodes_of (e ∷ es) (p ∷ ps) = record { entry = e; below = p } ∷ nodes_of es ps
