-- A mesh that rounds adapt, as contracts see it.
use Rattle.std.specs.Prelude.{◌≡◌, ℕ, List}
use Rattle.mesh_names.specs.declared.rows.MarkRow.{MarkRow}
use Rattle.compat_check.specs.Meshes.{Mesh}
use Rattle.forest_plain.specs.AnyForest.{Seen, room_in}
use Rattle.forest_plain.specs.declared.any_forest.Forest.{Ghosts}
use Rattle.mesh_rounds.specs.State.{IsMeshRound, State, with_values}
use Rattle.mesh_rounds.specs.declared.adaptive.AdaptiveMesh.{AdaptiveMesh}

module _ {F : Type 0} {g : Ghosts F} where
  -- the macro mesh
  abbrev pub mesh_of : AdaptiveMesh F g → Mesh
  mesh_of it = it.mesh.now

  -- the forest
  abbrev pub seen_of : AdaptiveMesh F g → Seen
  seen_of it = g.seen it.forest

  -- how many patches of its pool the forest kept back in the last round
  abbrev pub kept_of : AdaptiveMesh F g → ℕ
  kept_of it = g.kept it.forest

  -- the forest with its values
  abbrev pub state_of : AdaptiveMesh F g → State
  state_of it = with_values (g.seen it.forest).members it.values

  -- a round with these rows leads from one to the other
  abbrev pub LeadsTo : List MarkRow → AdaptiveMesh F g → AdaptiveMesh F g → Type 0
  LeadsTo rows old new = IsMeshRound (mesh_of old) (room_in (seen_of old) (kept_of new)) rows (state_of old) (state_of new)

  -- nothing has changed
  pub record IsSame (old new : AdaptiveMesh F g) : Type 0 where
    pub mesh : mesh_of new ≡ mesh_of old
    pub forest : seen_of new ≡ seen_of old
    pub state : state_of new ≡ state_of old
