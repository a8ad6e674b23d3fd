-- A macro text as plain data.
use Rattle.std.specs.Prelude.{map}
use Rattle.macro_file.specs.declared.text.MacroVertex.{MacroVertex}
use Rattle.macro_file.specs.declared.text.MacroElem.{MacroElem}
use Rattle.macro_file.specs.declared.text.MacroText.{MacroText}
use Rattle.macro_file.specs.Meaning.{Vertex, Element, Macro}

abbrev pub vertex_of : MacroVertex → Vertex
vertex_of v = record { x = v.x; y = v.y; value = v.value }

abbrev pub element_of : MacroElem → Element
element_of e = record { corners = e.corners; labels = e.labels; neighbours = e.neighbours; value = e.value }

-- what a macro text says
abbrev pub macro_of : MacroText → Macro
macro_of t = record {
  vertices = map vertex_of t.vertices.items;
  elements = map element_of t.elements.items;
  labels_given = t.labels_given;
  neighbours_given = t.neighbours_given;
}
