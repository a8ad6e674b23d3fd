-- Which texts are mended, and when each refusal comes.
use Rattle.std.specs.Prelude.{◌≡◌, ℕ, ◌+◌, ◌*◌, ◌<◌, ◌≤◌, ◌⊎◌, ℤ, pos, List, length}
use Rattle.macro_file.specs.declared.text.MacroText.{MacroText}
use Rattle.macro_file.specs.declared.text.MacroVertex.{MacroVertex}
use Rattle.mesh_names.specs.Triangles.{Triple}
use Rattle.mesh_names.specs.Partners.{Edge}
use Rattle.mesh_names.specs.Validity.{ends_of}
use Rattle.compat_check.specs.Meshes.{edge_of}
use Rattle.compat_check.specs.Faults.{doubled_area, point_at, triple_in}
use Rattle.compat_check.specs.Checks.{AsksNoGrades, AtNoEdge, IsCheckRefusal, IsFaultless, IsFirstEdge, count_of, triples_of}
use Rattle.compat_check.specs.declared.refusal.CheckRefusal.{CheckRefusal}
use Rattle.compat_check.specs.declared.refusal.CheckRefusal.TheVariants as fault
use Rattle.mesh_mend.specs.Centres.{centre_point}
use Rattle.mesh_mend.specs.declared.refusal.MendRefusal.{MendRefusal}
use Rattle.mesh_mend.specs.declared.refusal.MendRefusal.TheVariants.{Check, TooLarge, FlatPiece, Memory}

-- twice the area of the piece of a triple at an edge
abbrev pub piece_area : List MacroVertex → Triple → Edge → ℤ
piece_area vertices t e = doubled_area (point_at vertices (ends_of t e).0) (point_at vertices (ends_of t e).1) (centre_point vertices t)

-- the piece of an element at an edge has no area
abbrev pub IsFlatPiece : MacroText → ℕ → ℕ → Type 0
IsFlatPiece text r k = piece_area text.vertices.items (triple_in (triples_of text) r) (edge_of k) ≡ pos 0

-- how many vertices, and elements, the mended text has
abbrev pub vertices_after : MacroText → ℕ
vertices_after text = length text.vertices.items + count_of text

abbrev pub elements_after : MacroText → ℕ
elements_after text = count_of text * 3

-- these are no more than a macro text may have
abbrev pub Fits : MacroText → Type 0
Fits text = (vertices_after text ≤ 65535) × (elements_after text ≤ 65535)

-- the text is a triangulation, whose mended text is not too large and has no flat element
pub record IsMendable (text : MacroText) : Type 0 where
  pub faultless : IsFaultless text
  pub fits : Fits text
  pub thick : AtNoEdge (count_of text) (IsFlatPiece text)

-- when each refusal comes: a kind only where no earlier kind does, and of a kind the first
abbrev pub IsMendRefusal : MacroText → MendRefusal → Type 0
IsMendRefusal text (Check refusal) = IsCheckRefusal text refusal × AsksNoGrades refusal × (refusal ≡ fault.Memory → ⊥)
IsMendRefusal text (TooLarge vertices elements) = IsFaultless text × (vertices ≡ vertices_after text) × (elements ≡ elements_after text) × ((65535 < vertices) ⊎ (65535 < elements))
IsMendRefusal text (FlatPiece r k) = IsFaultless text × Fits text × IsFirstEdge (count_of text) (IsFlatPiece text) r k
IsMendRefusal text Memory = Unit {0}
