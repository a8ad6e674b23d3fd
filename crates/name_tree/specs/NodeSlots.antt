-- The nodes of a tree as slots by name.
use Rattle.std.specs.Prelude.{ℕ, Bool, true, false, map, length, Option, Some, None, List, [], ◌∷◌, ◌++◌, zero, suc}
use Rattle.std.specs.FinMap.{from_entries}
use Rattle.mesh_names.specs.Names.{Name}
use Rattle.name_tree.specs.Slots.{Slot, Slots, moved_slot}
use Rattle.name_tree.specs.declared.nodes.Node.{Node}
use Rattle.name_tree.specs.Trees.{pairs_of, slot_in}
use Rattle.name_tree.specs.declared.nodes.Nodes.{Nodes}

-- all words of at most so many letters
unfoldable pub words : ℕ → List (List Bool)
words zero = [] ∷ []
words (suc k) = [] ∷ (map (λ w. false ∷ w) (words k) ++ map (λ w. true ∷ w) (words k))

-- all names of the first macro elements with at most so many letters
abbrev pub names_within : ℕ → ℕ → List Name
names_within zero k = []
names_within (suc r) k = map (λ w. (r, w)) (words k) ++ names_within r k

-- those of the names that have a slot, with it
abbrev pub with_slot : Name → Option Slot → List (Name × Slot) → List (Name × Slot)
with_slot n None slots = slots
with_slot n (Some s) slots = (n, s) ∷ slots

abbrev pub gathered : (Name → Option Slot) → List Name → List (Name × Slot)
gathered f [] = []
gathered f (n ∷ ns) = with_slot n (f n) (gathered f ns)

-- a slot for each name that has a node
unfoldable pub slots_of : Nodes → Slots
slots_of t = from_entries (gathered (slot_in (pairs_of t) t.nodes) (names_within (length t.tops.items) 24))

-- a node whose entry has a new index
abbrev pub moved_node : List ℕ → Node → Node
moved_node moved n = record n { entry = moved_slot moved n.entry }
