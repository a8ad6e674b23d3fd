-- The check of a triangulation asks for no grades.
use Rattle.std.proofs.Common.{◌≡◌, List, [], length, map}
use Rattle.std.specs.Prelude.{ℤ, Option, true, false}
use Rattle.macro_file.specs.declared.text.MacroText.{MacroText}
use Rattle.macro_file.specs.declared.text.MacroElem.{MacroElem}
use Rattle.macro_file.specs.declared.text.MacroVertex.{MacroVertex}
use Rattle.mesh_names.specs.Triangles.{Triple}
use Rattle.compat_check.specs.Checks.{AreEdgeLabels, AsksNoGrades, triples_of}
use Rattle.compat_check.specs.Paired.{Passes}
use Rattle.compat_check.specs.Passes.{IsNeighbourFault, IsValidityFault}
use Rattle.compat_check.specs.Tables.{AreMadeLabels}
use Rattle.compat_check.specs.declared.mesh.Side.{Side}
use Rattle.compat_check.specs.declared.refusal.CheckRefusal.{CheckRefusal}
use Rattle.compat_check.specs.declared.refusal.CheckRefusal.TheVariants.{VertexRange, RepeatedVertex, Flat, TwinElements, EdgeOfThree, NeighboursDiffer, Incompatible, GradeTooHigh, Memory}
use Rattle.compat_check.proofs.Whole.{labels_made}

pub validity_asks : (vertices : List MacroVertex) (triples : List Triple) (refusal : CheckRefusal) → IsValidityFault vertices triples refusal → AsksNoGrades refusal
validity_asks vertices triples (VertexRange r) h = tt
validity_asks vertices triples (RepeatedVertex r) h = tt
validity_asks vertices triples (Flat r) h = tt
validity_asks vertices triples (TwinElements a b) h = tt
validity_asks vertices triples (EdgeOfThree r k) h = tt
validity_asks vertices triples (NeighboursDiffer r k) h = tt
validity_asks vertices triples (Incompatible r k) h = absurd h
validity_asks vertices triples (GradeTooHigh r g) h = absurd h
validity_asks vertices triples Memory h = tt

pub neighbours_ask : (text : MacroText) (sides : List (Option Side)) (refusal : CheckRefusal) → IsNeighbourFault text.neighbours_given text.elements.items sides refusal → AsksNoGrades refusal
neighbours_ask text sides (VertexRange r) h = tt
neighbours_ask text sides (RepeatedVertex r) h = tt
neighbours_ask text sides (Flat r) h = tt
neighbours_ask text sides (TwinElements a b) h = tt
neighbours_ask text sides (EdgeOfThree r k) h = tt
neighbours_ask text sides (NeighboursDiffer r k) h = tt
neighbours_ask text sides (Incompatible r k) h = absurd h
neighbours_ask text sides (GradeTooHigh r g) h = absurd h
neighbours_ask text sides Memory h = tt

-- the labels of a text whose table is this one
pub edge_labels_are : (text : MacroText) (sides : List (Option Side)) → Passes text.vertices.items (triples_of text) sides → (labels : List (List ℤ)) →
    (text.labels_given ≡ true → labels ≡ map (λ (e : MacroElem). e.labels) text.elements.items) → (text.labels_given ≡ false → AreMadeLabels (length (triples_of text)) sides labels) → AreEdgeLabels text labels
edge_labels_are text sides passes labels given made = record {
  given = given;
  each = λ none. (made none).each;
  made = λ none r k hr hk. labels_made text.vertices.items (triples_of text) [] sides passes labels (made none) r k hr hk;
}
