-- A mesh whose grades are 0 is a pairing.
use Rattle.std.proofs.Common.{◌≡◌, ℕ, ◌+◌, ◌<◌, List, [], length, refl, sym, ap, ◌∙◌, subst, arith}
use Rattle.std.specs.Prelude.{slice_index_or}
use Rattle.macro_file.specs.declared.text.MacroText.{MacroText}
use Rattle.macro_file.specs.Text.{macro_of}
use Rattle.mesh_names.specs.Triangles.{Triple, Shape, size, grade_of}
use Rattle.mesh_names.specs.Partners.{Edge, Edge0, Edge1, Edge2}
use Rattle.mesh_names.specs.Validity.{IsCompatible, IsGraded, Shares}
use Rattle.mesh_names.proofs.Grades.{grades_are_one}
use Rattle.compat_check.specs.Meshes.{Mesh}
use Rattle.compat_check.specs.Checks.{IsMeshOf, bare, triples_of}
use Rattle.mesh_orient.specs.Orients.{HasNoGrades, IsPaired, IsPairing, Passes}
use Rattle.mesh_orient.proofs.SameTexts.{passes_same, triples_same}

both_refined : (shape : Shape) → IsGraded shape → ((r : ℕ) → r < size shape → grade_of shape r ≡ 0) → (r s : ℕ) (f : Edge) → r < size shape → s < size shape → (r ≡ s → ⊥) → Shares shape r Edge2 s f → f ≡ Edge2
both_refined shape graded none r s Edge0 hr hs apart shares = absurd (omega (arith, graded.more r s Edge2 Edge0 hr hs apart shares refl refl, none r hr))
both_refined shape graded none r s Edge1 hr hs apart shares = absurd (omega (arith, graded.more r s Edge2 Edge1 hr hs apart shares refl refl, none r hr))
both_refined shape graded none r s Edge2 hr hs apart shares = refl

pub paired_of : (copy text : MacroText) → macro_of copy ≡ macro_of text → (mesh : Mesh) → IsMeshOf copy mesh → Passes copy → ((r : ℕ) → r < size mesh.shape → grade_of mesh.shape r ≡ 0) → IsPaired text
paired_of copy text same mesh of passes none =
    let own : mesh.shape.triples ≡ triples_of text = of.triples ∙ triples_same copy text same in
    record {
      passes = passes_same copy text same passes;
      pairing = subst (λ (ts : List Triple). (r s : ℕ) (f : Edge) → r < length ts → s < length ts → (r ≡ s → ⊥) → Shares (bare ts) r Edge2 s f → f ≡ Edge2) own (both_refined mesh.shape of.compatible.graded none);
      grades = λ other is r less.
          let there : other.shape.triples ≡ mesh.shape.triples = is.triples ∙ sym own in
          let grades = grades_are_one mesh.shape.triples other.shape.grades mesh.shape.grades (subst (λ (ts : List Triple). IsCompatible (record { triples = ts; grades = other.shape.grades })) there is.compatible) of.compatible in
          ap (λ (g : List ℕ). slice_index_or g r 0) grades ∙ none r (subst (λ (ts : List Triple). r < length ts) there less);
    }
