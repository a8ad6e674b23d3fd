-- A state, as a fact of which there is no more than one proof.
use Rattle.std.proofs.Common.{◌≡◌, ℤ, refl, sym, subst, true≢false, Option, Some, None}
use Rattle.std.specs.Prelude.{◌≢◌, IsSome, IfErr, OnOk, Result, Ok, Err}
use Rattle.compat_check.specs.Meshes.{Mesh}
use Rattle.dof_transfer.specs.VertexValues.{value_at}
use Rattle.forest_plain.specs.AnyForest.{Seen}
use Rattle.forest_plain.specs.declared.refusal.RoundRefusal.{RoundRefusal}
use Rattle.forest_plain.specs.declared.refusal.RoundRefusal.TheVariants.{Memory}
use Rattle.mesh_rounds.specs.declared.values.Values.{Values}
use Rattle.mesh_rounds.specs.State.{Belongs, IsState, State, with_values}

some : (o : Option ℤ) → IsSome o → (x : ℤ) × (o ≡ Some x) × Unit {0}
some None h = absurd (true≢false (sym h))
some (Some x) h = (x, refl, tt)

pub belongs-state : (mesh : Mesh) (state : State) → Belongs mesh state → IsState mesh state
belongs-state mesh state b = record {
  forest = b.forest;
  partners = b.partners;
  vertices = record { vertices = λ key inside. some (value_at state.vertices key) (b.vertices.live key inside); none = b.vertices.none };
  elements = b.elements;
}

pub state-belongs : (mesh : Mesh) (state : State) → IsState mesh state → Belongs mesh state
state-belongs mesh state is = record {
  forest = is.forest;
  partners = is.partners;
  vertices = record { live = λ key inside. let r = is.vertices.vertices key inside in subst IsSome (sym r.1) refl; none = is.vertices.none };
  elements = is.elements;
}

-- after a round that did not want memory
pub stays : {A : Type 0} (mesh : Mesh) (old new : Seen) (before after : Values) (answer : Result A RoundRefusal) → Belongs mesh (with_values old.members before) →
    OnOk answer (IsState mesh (with_values new.members after)) → IfErr answer (λ r. r ≢ Memory) → IfErr answer (λ r. r ≢ Memory → (new ≡ old) × (after ≡ before)) → Belongs mesh (with_values new.members after)
stays mesh old new before after (Ok a) b is other same = state-belongs mesh (with_values new.members after) is
stays mesh old new before after (Err r) b is other same = subst (λ (t : Seen × Values). Belongs mesh (with_values t.0.members t.1)) (λ i. (sym (same other).0 i, sym (same other).1 i)) b
