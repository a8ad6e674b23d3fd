-- The forests of a round: the old one, the refined one, and the new one.
use Rattle.std.proofs.Common.{◌≡◌, ℕ, subst, List}
use Rattle.mesh_names.specs.Triangles.{Shape}
use Rattle.mesh_names.specs.Forests.{Names}
use Rattle.mesh_names.specs.Partners.{Across}
use Rattle.mesh_names.specs.Conformity.{HoldsPartners}
use Rattle.mesh_names.specs.Coarsening.{IsConforming, marked_by}
use Rattle.mesh_names.specs.declared.patch.RoundDelta.{RoundDelta}
use Rattle.mesh_names.specs.declared.rows.MarkRow.{MarkRow}
use Rattle.mesh_names.proofs.Conforming.{conforms_by_partners}
use Rattle.mesh_names.proofs.Coarsening.{coarsened_conforms}
use Rattle.compat_check.specs.Meshes.{Mesh, IsChecked, across_in, shape_of}
use Rattle.forest_plain.specs.Rounds.{IsRoundBy, Stands, Room}
use Rattle.mesh_rounds.specs.RoundChanges.{IsRoundOn, NewHoldsPartners, NewIsForest}
use Rattle.mesh_rounds.proofs.NewOwners.{Encloses}

module _ (mesh : Mesh) (room : Room) (old : Names) (rows : List MarkRow) (new : Names) (delta : RoundDelta) (round : IsRoundOn mesh room old rows new delta) where
  abbrev pub refined : Names
  refined = round.round.round.refined

  is-refined : IsConforming (shape_of mesh) (across_in mesh) (marked_by (shape_of mesh) old rows refined)
  is-refined = record {
    tells = round.checked.tells;
    forest = round.round.round.is_refined.least.forest;
    conforms = round.round.round.is_refined.least.conforms;
  }

  refined-holds : HoldsPartners (across_in mesh) refined
  refined-holds = (conforms_by_partners (shape_of mesh) (across_in mesh) round.checked.tells refined is-refined.forest).0 is-refined.conforms

  pub grew : Encloses (shape_of mesh) (across_in mesh) refined old
  grew = record {
    tells = round.checked.tells;
    forest = is-refined.forest;
    holds = refined-holds;
    less_forest = round.forest;
    less_holds = round.partners;
    within = round.round.round.is_refined.least.holds_old;
  }

  pub shrank : Encloses (shape_of mesh) (across_in mesh) refined new
  shrank =
      let left = coarsened_conforms (shape_of mesh) (across_in mesh) (marked_by (shape_of mesh) old rows refined) is-refined new round.round.round.coarsened in
      record {
        tells = round.checked.tells;
        forest = is-refined.forest;
        holds = refined-holds;
        less_forest = left.0;
        less_holds = (conforms_by_partners (shape_of mesh) (across_in mesh) round.checked.tells new left.0).0 left.1;
        within = left.2;
      }

-- a round of a forest over this mesh
pub round-on : (mesh : Mesh) (shape : Shape) (across : Across) (pool : ℕ) (room : Room) (old : Names) (rows : List MarkRow) (new : Names) (delta : RoundDelta) → IsChecked mesh → shape ≡ shape_of mesh → across ≡ across_in mesh → Stands shape across pool old → IsRoundBy shape across room old rows new delta → IsRoundOn mesh room old rows new delta
round-on mesh shape across pool room old rows new delta checked same sides stands round =
    let told = subst (λ (s : Shape × Across). Stands s.0 s.1 pool old × IsRoundBy s.0 s.1 room old rows new delta) (λ i. (same i, sides i)) (stands, round) in
    record { checked = checked; forest = told.0.forest; partners = told.0.partners; round = told.1 }

pub new_is_forest : NewIsForest
new_is_forest mesh room old rows new delta round = (shrank mesh room old rows new delta round).less_forest

pub new_holds_partners : NewHoldsPartners
new_holds_partners mesh room old rows new delta round = (shrank mesh room old rows new delta round).less_holds
