-- The centre of an element.
use Rattle.std.specs.Prelude.{ℕ, ℤ, pos, ◌+ℤ◌, List, Option, Some, None, slice_get}
use Rattle.macro_file.specs.declared.text.MacroVertex.{MacroVertex}
use Rattle.macro_file.specs.Meaning.{Vertex}
use Rattle.macro_file.specs.Text.{vertex_of}
use Rattle.mesh_names.specs.Triangles.{Triple, corner_of}
use Rattle.compat_check.specs.Points.{Point, half}

-- the middle of the first two numbers, and then of that and the third, each rounded down
abbrev pub centre_of : ℤ → ℤ → ℤ → ℤ
centre_of a b c = half (half (a +ℤ b) +ℤ c)

-- the coordinates and the value of a vertex; 0 where there is none
abbrev pub vertex_or : Option MacroVertex → Vertex
vertex_or None = record { x = pos 0; y = pos 0; value = pos 0 }
vertex_or (Some v) = vertex_of v

-- the vertex at a corner of a triple
abbrev pub vertex_at : List MacroVertex → Triple → ℕ → Vertex
vertex_at vertices t k = vertex_or (slice_get vertices (corner_of t k))

-- the centre of three vertices: of their coordinates, and of their values
abbrev pub centre_between : Vertex → Vertex → Vertex → Vertex
centre_between a b c = record { x = centre_of a.x b.x c.x; y = centre_of a.y b.y c.y; value = centre_of a.value b.value c.value }

-- the centre of a triple
abbrev pub centre_at : List MacroVertex → Triple → Vertex
centre_at vertices t = centre_between (vertex_at vertices t 0) (vertex_at vertices t 1) (vertex_at vertices t 2)

-- where it lies
abbrev pub centre_point : List MacroVertex → Triple → Point
centre_point vertices t = ((centre_at vertices t).x, (centre_at vertices t).y)
