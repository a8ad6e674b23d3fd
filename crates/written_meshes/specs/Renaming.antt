-- The renaming: names and vertices of a written mesh, as names and vertices of the mesh that it was written from.
use Rattle.std.specs.Prelude.{◌≡◌, ◌+◌, ◌<◌, ◌≤◌, ℕ, [], List, ◌++◌, map, slice_index_or}
use Rattle.mesh_names.specs.Names.{Name}
use Rattle.mesh_names.specs.Triangles.{Shape, Vertex, Corner, Mid, middle, size, level, grade_of}
use Rattle.mesh_names.specs.Forests.{Names, IsForest, IsListOf}
use Rattle.mesh_names.specs.Leaves.{leaves}
use Rattle.mesh_names.specs.Conformity.{HoldsPartners}
use Rattle.mesh_names.specs.Partners.{Across, Edge, Tells}
use Rattle.mesh_names.specs.Validity.{IsValid, IsGraded, IsCompatible, Shares}
use Rattle.mesh_writer.specs.Numbering.{vertices}
use Rattle.mesh_writer.specs.Triples.{numbers}

-- the leaf of this number
abbrev pub leaf_at : List Name → ℕ → Name
leaf_at leaves i = slice_index_or leaves i (0, [])

-- leaf number i of the written mesh is macro element i, and a name below it keeps the rest of its word
abbrev pub renamed : List Name → Name → Name
renamed leaves n = ((leaf_at leaves n.0).0, n.1 ++ (leaf_at leaves n.0).1)

-- vertex number j of the written mesh is macro vertex j, and a middle is the middle of what its ends stand for
abbrev pub renamed_vertex : List Vertex → Vertex → Vertex
renamed_vertex written (Corner j) = slice_index_or written j (Corner 0)
renamed_vertex written (Mid a b) = middle (renamed_vertex written a) (renamed_vertex written b)

-- the leaves of a conforming forest of a mesh with this many vertices, in order; and another mesh whose elements are these leaves
pub record AreWritten (mesh : Shape) (x : Across) (count : ℕ) (members : Names) (list : List Name) (other : Shape) : Type 0 where
  pub tells : Tells mesh x
  pub forest : IsForest mesh members
  pub partners : HoldsPartners x members
  pub is_list : IsListOf (leaves mesh members) list
  pub triples : other.triples ≡ map (numbers mesh (vertices mesh count list)) list

-- and the other mesh has the grades that a compatible mesh has
pub record IsWrittenFrom (mesh : Shape) (x : Across) (count : ℕ) (members : Names) (list : List Name) (other : Shape) : Type 0 where
  pub written : AreWritten mesh x count members list other
  pub compatible : IsCompatible other

-- the law that the written elements are a valid mesh, and that the leaves' levels fit as its grades
abbrev pub WrittenFits : Type 0
WrittenFits = (mesh : Shape) (x : Across) (count : ℕ) (members : Names) (list : List Name) (other : Shape) → AreWritten mesh x count members list other →
    IsValid other × IsGraded (record { triples = other.triples; grades = map (level mesh) list })

-- the law that grades differ across a shared edge as the leaves' levels do
abbrev pub GradesDiffer : Type 0
GradesDiffer = (mesh : Shape) (x : Across) (count : ℕ) (members : Names) (list : List Name) (other : Shape) → IsWrittenFrom mesh x count members list other →
    (r s : ℕ) (e f : Edge) → r < size other → s < size other → Shares other r e s f →
    level mesh (leaf_at list r) + grade_of other s ≡ level mesh (leaf_at list s) + grade_of other r

-- the law that a part of the written mesh has the grades that are its leaves' levels less one number, so that no grade is above a level
abbrev pub GradesAreLow : Type 0
GradesAreLow = (mesh : Shape) (x : Across) (count : ℕ) (members : Names) (list : List Name) (other : Shape) → IsWrittenFrom mesh x count members list other →
    (r : ℕ) → r < size other → grade_of other r ≤ level mesh (leaf_at list r)
