-- The elements that mark rows name, and the mark of all others.
use Rattle.std.specs.Prelude.{Bool, true, false, cond, ◌&&◌, List, [], ◌∷◌, ◌++◌, Option, Some, None, option_to_list}
use Rattle.mesh_names.specs.Names.{Name}
use Rattle.mesh_names.specs.Marks.{is_mark}
use Rattle.mesh_names.specs.declared.rows.MarkRow.{MarkRow}
use Rattle.mesh_names.specs.declared.rows.Place.{Place}
use Rattle.mesh_names.specs.declared.rows.Place.TheVariants.{EveryLeaf, Elem, Corner}

-- the element that is the place
abbrev pub element_at : Place → Option Name
element_at EveryLeaf = None
element_at (Elem n) = Some n
element_at (Corner n k) = None

-- the place is `*`
abbrev pub is_every : Place → Bool
is_every EveryLeaf = true
is_every (Elem n) = false
is_every (Corner n k) = false

-- the element that a row of marks names
abbrev pub marked_name : MarkRow → Option Name
marked_name row = cond (is_mark row.what) (element_at row.place) None

-- the elements that rows of marks name
abbrev pub marked_names : List MarkRow → List Name
marked_names [] = []
marked_names (row ∷ rows) = option_to_list (marked_name row) ++ marked_names rows

-- the row marks every leaf
abbrev pub marks_every : MarkRow → Bool
marks_every row = is_mark row.what && is_every row.place
