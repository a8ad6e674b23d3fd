-- The law that writing and reading a macro text agree.
use Rattle.std.specs.Prelude.{◌≡◌, pos, length, ◌≤◌, All, Ok}
use Rattle.macro_file.specs.declared.keyword.Keyword.TheVariants.{Coordinates, Triples, Labels, Neighbours, VertexValues, ElementValues}
use Rattle.macro_file.specs.Limits.{InRange, ZeroUnless}
use Rattle.macro_file.specs.Meaning.{Vertex, Element, Macro, meaning}
use Rattle.macro_file.specs.declared.text.MacroText.{MacroText}
use Rattle.macro_file.specs.Text.{macro_of}
use Rattle.macro_file.specs.Written.{macro_bytes}

-- the numbers of a vertex are in their ranges
pub record IsVertex (v : Vertex) : Type 0 where
  pub x : InRange Coordinates v.x
  pub y : InRange Coordinates v.y
  pub value : InRange VertexValues v.value

-- an element has three numbers of each list, all in their ranges
pub record IsElement (e : Element) : Type 0 where
  pub three_corners : length e.corners ≡ 3
  pub three_labels : length e.labels ≡ 3
  pub three_neighbours : length e.neighbours ≡ 3
  pub corners : All (λ c. InRange Triples (pos c)) e.corners
  pub labels : All (InRange Labels) e.labels
  pub neighbours : All (InRange Neighbours) e.neighbours
  pub value : InRange ElementValues e.value

-- what every macro text is: within the limits, and 0 where a list was not given
pub record IsMacro (m : Macro) : Type 0 where
  pub some_vertices : (1 ≤ length m.vertices) × (length m.vertices ≤ 65535)
  pub some_elements : (1 ≤ length m.elements) × (length m.elements ≤ 65535)
  pub vertices : All IsVertex m.vertices
  pub elements : All IsElement m.elements
  pub labels : ZeroUnless m.labels_given m.elements (λ e. e.labels)
  pub neighbours : ZeroUnless m.neighbours_given m.elements (λ e. e.neighbours)

-- a macro text that is written is read as the same
abbrev pub WrittenIsRead : Type 0
WrittenIsRead = (m : Macro) → IsMacro m → meaning (macro_bytes m) ≡ Ok m

-- each value of the type is a macro text
abbrev pub TextIsMacro : Type 0
TextIsMacro = (t : MacroText) → IsMacro (macro_of t)
