-- The names whose slots are not empty.
use Rattle.std.specs.Prelude.{◌≡◌, ◌⊎◌, ◌≤◌, Bool, List, ◌++◌, Some}
use Rattle.std.specs.FinMap.{keys}
use Rattle.std.specs.FinSet.{from_list}
use Rattle.mesh_names.specs.Names.{Name, depth}
use Rattle.mesh_names.specs.Forests.{Names, Has}
use Rattle.name_tree.specs.Slots.{Slots, live_of}
use Rattle.name_tree.specs.Trees.{live_in, pairs_of}
use Rattle.name_tree.specs.declared.nodes.Entry.{Entry}
use Rattle.name_tree.specs.declared.nodes.Nodes.{Nodes}

abbrev pub held : Slots → Names
held slots = from_list (keys (live_of slots))

-- a name that an element can have, with an entry
pub record IsLive (t : Nodes) (n : Name) : Type 0 where
  pub low : depth n ≤ 24
  pub entry : Entry
  pub is : live_in (pairs_of t) t.nodes n ≡ Some entry

-- n lies at or below the name
abbrev pub IsBelow : Name → Name → Type 0
IsBelow name n = (u : List Bool) × (n ≡ (name.0, u ++ name.1))

-- the longer list has the names of the shorter one, and beside them names with an entry, among them all at and below this one
pub record Gathers (t : Nodes) (name : Name) (old new : List Name) : Type 0 where
  pub keeps : (n : Name) → Has (from_list old) n → Has (from_list new) n
  pub live : (n : Name) → Has (from_list new) n → Has (from_list old) n ⊎ IsLive t n
  pub all : (n : Name) → IsLive t n → IsBelow name n → Has (from_list new) n
