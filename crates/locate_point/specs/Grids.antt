-- A grid of cells, and the names that are looked up in them.
use Rattle.std.specs.Prelude.{◌≡◌, ◌⊎◌, ℕ, ◌+◌, ◌*◌, ◌/◌, ◌<◌, min, ℤ, pos, negsuc, ◌-ℤ◌, ◌≤ℤ◌, List}
use Rattle.std.specs.List.{Contains}
use Rattle.std.specs.List.Sorted.{IsSorted}
use Rattle.std.specs.Ordering.{nat_cmp, ordering_then}
use Rattle.std.specs.declared.cmp.Ordering.{Ordering}
use Rattle.mesh_names.specs.Names.{Name, name_cmp}
use Rattle.mesh_names.specs.Triangles.{size}
use Rattle.compat_check.specs.Meshes.{Mesh, shape_of}
use Rattle.compat_check.specs.Points.{Point}
use Rattle.compat_check.specs.Within.{IsWithin}
use Rattle.locate_point.specs.declared.axis.Axis.{Axis}
use Rattle.locate_point.specs.Covering.{Corners, IsAround}

-- z, or 0 where it is below 0
abbrev pub part : ℤ → ℕ
part (pos n) = n
part (negsuc n) = 0

-- the step of an axis in which z lies: what lies before the axis is in its first step, and what lies after it in its last
abbrev pub place : Axis → ℤ → ℕ
place axis z = min (part (z -ℤ axis.from) / axis.width) axis.last

-- the number of a cell
abbrev pub cell_at : Axis → ℕ → ℕ → ℕ
cell_at columns row column = row * (columns.last + 1) + column

-- the cell of a point
abbrev pub cell : Axis → Axis → Point → ℕ
cell columns rows p = cell_at columns (place rows p.1) (place columns p.0)

-- names with the numbers of cells
abbrev pub Entry : Type 0
Entry = ℕ × Name

-- the order of entries: by cell, and then by name
abbrev pub entry_cmp : Entry → Entry → Ordering
entry_cmp x y = ordering_then (nat_cmp x.0 y.0) (name_cmp x.1 y.1)

-- each corner of the triangle lies between the two points, in x and in y
pub record IsBox (t : Corners) (low high : Point) : Type 0 where
  pub left : (low.0 ≤ℤ t.0.0) × (low.0 ≤ℤ t.1.0) × (low.0 ≤ℤ t.2.0)
  pub right : (t.0.0 ≤ℤ high.0) × (t.1.0 ≤ℤ high.0) × (t.2.0 ≤ℤ high.0)
  pub lower : (low.1 ≤ℤ t.0.1) × (low.1 ≤ℤ t.1.1) × (low.1 ≤ℤ t.2.1)
  pub upper : (t.0.1 ≤ℤ high.1) × (t.1.1 ≤ℤ high.1) × (t.2.1 ≤ℤ high.1)
  pub within : IsWithin low × IsWithin high

-- no entry was lost, and each new one is of this name
pub record AddsOnly (name : Name) (old new : List Entry) : Type 0 where
  pub kept : (e : Entry) → Contains old e → Contains new e
  pub only : (e : Entry) → Contains new e → Contains old e ⊎ (e.1 ≡ name)

-- the entries are of these names, and each name stands in the cell of each point that its triangle contains
pub record AreEntries (mesh : Mesh) (columns rows : Axis) (names : List Name) (entries : List Entry) : Type 0 where
  pub named : (e : Entry) → Contains entries e → Contains names e.1
  pub complete : (p : Point) (m : Name) → Contains names m → IsAround mesh p m → Contains entries (cell columns rows p, m)

-- the names are of elements of the mesh
abbrev pub AreRooted : Mesh → List Name → Type 0
AreRooted mesh names = (m : Name) → Contains names m → m.0 < size (shape_of mesh)

-- a grid of the names: its entries are in order
pub record IsGrid (mesh : Mesh) (columns rows : Axis) (names : List Name) (entries : List Entry) : Type 0 where
  pub sorted : IsSorted entry_cmp entries
  pub entries_are : AreEntries mesh columns rows names entries
  pub rooted : AreRooted mesh names
