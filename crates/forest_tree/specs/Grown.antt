-- The members of a forest, with those that a round adds, and without those that it takes away.
use Rattle.std.specs.FinSet.{difference, union}
use Rattle.mesh_names.specs.Forests.{Names}
use Rattle.forest_tree.specs.declared.grown.Grown.{Grown}
use Rattle.forest_tree.specs.declared.lessened.Lessened.{Lessened}

-- the members before the round
abbrev pub start_of : Grown → Names
start_of g = g.members

-- and the new ones
abbrev pub grown_of : Grown → Names
grown_of g = union g.members g.fresh

-- the members of the refined forest
abbrev pub whole_of : Lessened → Names
whole_of l = union l.members.now l.fresh.now

-- without those that are gone
abbrev pub left_of : Lessened → Names
left_of l = difference (whole_of l) l.gone
