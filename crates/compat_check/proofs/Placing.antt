-- Where the corners of a child lie, and that no corner lies outside of the range.
use Rattle.std.proofs.Common.{◌≡◌, Bool, true, false, cond, List, [], ◌∷◌, refl, sym, ap, ◌∙◌, arith, zero-le, subst}
use Rattle.std.specs.Prelude.{ℤ, ◌+ℤ◌, Option, Some, None, slice_get}
use Rattle.std.proofs.lemmas.Int.{ints}
use Rattle.macro_file.specs.declared.text.MacroVertex.{MacroVertex}
use Rattle.mesh_names.specs.Names.{Name}
use Rattle.mesh_names.specs.Triangles.{Vertex, Corner, Mid, before, middle, midpoint, triangle}
use Rattle.compat_check.specs.Faults.{point_of}
use Rattle.compat_check.specs.Meshes.{Mesh, shape_of}
use Rattle.compat_check.specs.Points.{Point, half, between, point, points, labels}
use Rattle.compat_check.specs.Within.{IsWithin, child_points, corner, labels_by}
use Rattle.compat_check.proofs.Halving.{between_within}

plus_turned : (x y : ℤ) → x +ℤ y ≡ y +ℤ x
plus_turned x y = omega (arith, ints)

between_turned : (p q : Point) → between p q ≡ between q p
between_turned p q = λ i. (half (plus_turned p.0 q.0 i), half (plus_turned p.1 q.1 i))

-- the middle of an unordered pair lies between its two
pub middle_lies : (vertices : List MacroVertex) (a b : Vertex) → point vertices (middle a b) ≡ between (point vertices a) (point vertices b)
middle_lies vertices a b = by_order (before b a)
  where
    by_order : (o : Bool) → point vertices (cond o (Mid b a) (Mid a b)) ≡ between (point vertices a) (point vertices b)
    by_order true = between_turned (point vertices b) (point vertices a)
    by_order false = refl

told_within : (told : Option MacroVertex) → IsWithin (point_of told)
told_within None = (zero-le, zero-le)
told_within (Some v) = (v.in_range.0, v.in_range.1)

pub point_within : (vertices : List MacroVertex) (v : Vertex) → IsWithin (point vertices v)
point_within vertices (Corner i) = told_within (slice_get vertices i)
point_within vertices (Mid a b) = between_within (point vertices a) (point vertices b) (point_within vertices a) (point_within vertices b)

pub points_of_child : (mesh : Mesh) (n parent : Name) (b : Bool) (ps : List Point) → ps ≡ points mesh parent → n ≡ (parent.0, b ∷ parent.1) → child_points ps b ≡ points mesh n
points_of_child mesh n parent b ps e named =
    let t = triangle (shape_of mesh) parent in
    let middle_is : between (point mesh.vertices t.0) (point mesh.vertices t.1) ≡ point mesh.vertices (middle t.0 t.1) = sym (middle_lies mesh.vertices t.0 t.1) in
    ap (λ (qs : List Point). child_points qs b) e ∙ computed b middle_is ∙ ap (points mesh) (sym named)
  where
    computed : (c : Bool) → between (point mesh.vertices (triangle (shape_of mesh) parent).0) (point mesh.vertices (triangle (shape_of mesh) parent).1) ≡ point mesh.vertices (middle (triangle (shape_of mesh) parent).0 (triangle (shape_of mesh) parent).1) → child_points (points mesh parent) c ≡ points mesh (parent.0, c ∷ parent.1)
    computed false h = λ i. point mesh.vertices (triangle (shape_of mesh) parent).2 ∷ point mesh.vertices (triangle (shape_of mesh) parent).0 ∷ h i ∷ []
    computed true h = λ i. point mesh.vertices (triangle (shape_of mesh) parent).1 ∷ point mesh.vertices (triangle (shape_of mesh) parent).2 ∷ h i ∷ []

pub labels_of_child : (mesh : Mesh) (n parent : Name) (b : Bool) (ls : List ℤ) → ls ≡ labels mesh parent → n ≡ (parent.0, b ∷ parent.1) → labels_by ls b ≡ labels mesh n
labels_of_child mesh n parent b ls e named = ap (λ (ks : List ℤ). labels_by ks b) e ∙ computed b ∙ ap (labels mesh) (sym named)
  where
    computed : (c : Bool) → labels_by (labels mesh parent) c ≡ labels mesh (parent.0, c ∷ parent.1)
    computed false = refl
    computed true = refl

pub first_within : (mesh : Mesh) (parent : Name) (ps : List Point) → ps ≡ points mesh parent → IsWithin (corner ps 0)
first_within mesh parent ps e = subst (λ (qs : List Point). IsWithin (corner qs 0)) (sym e) (point_within mesh.vertices (triangle (shape_of mesh) parent).0)

pub second_within : (mesh : Mesh) (parent : Name) (ps : List Point) → ps ≡ points mesh parent → IsWithin (corner ps 1)
second_within mesh parent ps e = subst (λ (qs : List Point). IsWithin (corner qs 1)) (sym e) (point_within mesh.vertices (triangle (shape_of mesh) parent).1)

pub point_of_middle : (mesh : Mesh) (n : Name) (ps : List Point) (m : Point) → ps ≡ points mesh n → m ≡ between (corner ps 0) (corner ps 1) → m ≡ point mesh.vertices (midpoint (triangle (shape_of mesh) n))
point_of_middle mesh n ps m e lies = lies ∙ ap (λ (qs : List Point). between (corner qs 0) (corner qs 1)) e ∙ sym (middle_lies mesh.vertices (triangle (shape_of mesh) n).0 (triangle (shape_of mesh) n).1)

-- the points of a child have three entries
pub three_corners : (qs ps : List Point) (b : Bool) → qs ≡ child_points ps b → corner qs 0 ∷ corner qs 1 ∷ corner qs 2 ∷ [] ≡ child_points ps b
three_corners qs ps b e = ap (λ (rs : List Point). corner rs 0 ∷ corner rs 1 ∷ corner rs 2 ∷ []) e ∙ computed b
  where
    computed : (c : Bool) → corner (child_points ps c) 0 ∷ corner (child_points ps c) 1 ∷ corner (child_points ps c) 2 ∷ [] ≡ child_points ps c
    computed true = refl
    computed false = refl
