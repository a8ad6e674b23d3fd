-- A refined forest, as the new members beside the old ones.
use Rattle.std.specs.FinSet.{union}
use Rattle.mesh_names.specs.Forests.{Names}
use Rattle.forest_plain.specs.declared.refined.Refined.{Refined}
use Rattle.forest_tree.specs.declared.refining.Refinement.{Refinement}

-- the same with all members
abbrev pub refined_by : Names → Refinement → Refined
refined_by old r = record { members = union old r.fresh; marks = r.marks }
