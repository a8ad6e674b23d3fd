-- Values stay where indices are renumbered.
use Rattle.std.proofs.Common.{◌≡◌, ℕ, ◌*◌, ◌<◌, ◌≤◌, ℤ, true, false, leb, length, ap, ◌∙◌, ◌⊎◌, inl, inr, ⊎_elim, List}
use Rattle.std.specs.Prelude.{slice_get}
use Rattle.std.proofs.lemmas.Bool.Decides.{leb_tells}
use Rattle.dof_admin.specs.Administration.{used_count}
use Rattle.mesh_names.specs.Names.{Name}
use Rattle.mesh_names.specs.Forests.{Names}
use Rattle.mesh_names.specs.declared.patch.VertexKey.{VertexKey}
use Rattle.mesh_names.specs.declared.patch.VertexKey.TheVariants.{Macro, Patch}
use Rattle.compat_check.specs.Meshes.{Mesh, shape_of}
use Rattle.dof_transfer.specs.ByName.{AreElementValues}
use Rattle.dof_transfer.specs.Held.{Held, IsTidied, value_of}
use Rattle.dof_transfer.specs.VertexNames.{AreVertexValues}
use Rattle.dof_transfer.specs.VertexValues.{IsVertexTidied, VertexHeld, value_at}

either : (a b : ℕ) → (a < b) ⊎ (b ≤ a)
either a b = ⊎_elim (λ (s : (leb b a ≡ true) × (b ≤ a)). inr s.1) (λ (s : (leb b a ≡ false) × (a < b)). inl s.1) (leb_tells b a)

-- each value stays
pub tidied-value : (old new : Held) (n : Name) → IsTidied old new → value_of new n ≡ value_of old n
tidied-value old new n tidied = ⊎_elim
    (λ (h : 2 * used_count old.flags < length old.flags). (tidied.compressed h).values n)
    (λ (h : length old.flags ≤ 2 * used_count old.flags). ap (λ (held : Held). value_of held n) (tidied.kept h))
    (either (2 * used_count old.flags) (length old.flags))

pub tidied-vertex : (old new : VertexHeld) (key : VertexKey) → IsVertexTidied old new → value_at new key ≡ value_at old key
tidied-vertex old new (Macro i) tidied = ap (λ (l : List ℤ). slice_get l i) tidied.macros
tidied-vertex old new (Patch n) tidied = tidied-value old.patches new.patches n tidied.patches

pub element-values-tidied : (mesh : Mesh) (after : Names) (old mid new : Held) → IsTidied mid new → AreElementValues (shape_of mesh) after old mid → AreElementValues (shape_of mesh) after old new
element-values-tidied mesh after old mid new tidied are = record {
  leaves = λ n leaf. let r = are.leaves n leaf in (r.0, tidied-value mid new n tidied ∙ r.1, r.2);
  none = λ n no. tidied-value mid new n tidied ∙ are.none n no;
}

pub vertex-values-tidied : (mesh : Mesh) (after : Names) (old mid new : VertexHeld) → IsVertexTidied mid new → AreVertexValues mesh after old mid → AreVertexValues mesh after old new
vertex-values-tidied mesh after old mid new tidied are = record {
  vertices = λ key inside. let r = are.vertices key inside in (r.0, tidied-vertex mid new key tidied ∙ r.1, r.2);
  none = λ key no. tidied-vertex mid new key tidied ∙ are.none key no;
}
