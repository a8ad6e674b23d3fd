-- A refined forest that is ready to be coarsened.
use Rattle.std.specs.Prelude.{List}
use Rattle.mesh_names.specs.Triangles.{Shape}
use Rattle.mesh_names.specs.Partners.{Across}
use Rattle.mesh_names.specs.Forests.{Names}
use Rattle.mesh_names.specs.Coarsening.{marked_by}
use Rattle.mesh_names.specs.declared.rows.MarkRow.{MarkRow}
use Rattle.forest_plain.specs.LeafMarks.{marked_so}
use Rattle.forest_plain.specs.Coarsening.{AreAlike, IsUnderway}
use Rattle.forest_plain.specs.Rounds.{IsRefined}
use Rattle.forest_plain.specs.declared.refined.Refined.{Refined}

-- the rows refine the old forest to these members, the marks that are kept are the effective ones, and each patch that can be taken away is pending
pub record IsReady (mesh : Shape) (across : Across) (old : Names) (rows : List MarkRow) (ready : Refined) : Type 0 where
  pub refined : IsRefined mesh old rows ready.members
  pub alike : AreAlike (marked_by mesh old rows ready.members) (marked_so ready.members ready.marks)
  pub underway : IsUnderway mesh across (marked_so ready.members ready.marks) ready.marks.parents.items
