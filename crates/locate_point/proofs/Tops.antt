-- The names of the macro elements, and the way down from the first of them around a point.
use Rattle.std.proofs.Common.{◌≡◌, ℕ, ◌<◌, List, [], sym, ap, subst, arith}
use Rattle.std.specs.Prelude.{Some, None}
use Rattle.std.specs.Cmp.{nat_cmp_is}
use Rattle.std.specs.List.{Contains}
use Rattle.std.specs.Ordering.{ordering_then}
use Rattle.std.specs.declared.cmp.Ordering.TheVariants.{Equal, Greater}
use Rattle.mesh_names.specs.Names.{Name}
use Rattle.mesh_names.specs.Triangles.{size}
use Rattle.mesh_names.specs.Leaves.{tops}
use Rattle.mesh_names.proofs.Leaving.{in-tops, tops-in}
use Rattle.compat_check.specs.Meshes.{Mesh, shape_of}
use Rattle.compat_check.specs.Points.{Point, AreTenths}
use Rattle.locate_point.specs.Covering.{IsAround}
use Rattle.locate_point.specs.Children.{ContainsByChildren}
use Rattle.locate_point.specs.Grids.{AreRooted}
use Rattle.locate_point.specs.Locating.{AreLeaves, IsAtMost, IsPlace}
use Rattle.locate_point.specs.Ways.{IsOnWay}
use Rattle.locate_point.proofs.Descent.{nowhere, start}
use Rattle.locate_point.proofs.Elements.{contains-in, in-contains, listed-rooted}

pub top_listed : (count r : ℕ) → r < count → Contains (tops count) (r, [])
top_listed count r h = in-contains (r, []) (tops count) (in-tops count r h)

pub listed_top : (count : ℕ) (n : Name) → Contains (tops count) n → (n.0 < count) × (n.1 ≡ [])
listed_top count n h = tops-in count n (contains-in n (tops count) h)

pub tops-rooted : (mesh : Mesh) (names : List Name) → names ≡ tops (size (shape_of mesh)) → AreRooted mesh names
tops-rooted mesh names e m h = (listed_top (size (shape_of mesh)) m (subst (λ ns. Contains ns m) e h)).0

pub leaves-rooted : (mesh : Mesh) (list : List Name) → AreLeaves mesh list → AreRooted mesh list
leaves-rooted mesh list are m h = listed-rooted mesh are.0 list are.1 m h

after : (r q : ℕ) → q < r → IsAtMost (r, []) (q, []) → ⊥
after r q h low = low (ap (λ o. ordering_then o Equal) (sym (nat_cmp_is r q Greater h)))

-- the least macro element around a point begins the way down
pub top_way : ContainsByChildren → (mesh : Mesh) → AreTenths mesh.vertices → (list : List Name) → AreLeaves mesh list → (p : Point) (top : Name) → IsPlace mesh (tops (size (shape_of mesh))) p (Some top) → IsOnWay mesh list p top
top_way law mesh tenths list are p top at =
    let named = listed_top (size (shape_of mesh)) top at.0 in
    let same : (top.0, []) ≡ top = λ i. (top.0, sym named.1 i) in
    subst (IsOnWay mesh list p) same
    (start law mesh tenths are.0 list are.1 p top.0 named.0 (subst (IsAround mesh p) (sym same) at.1)
    (λ q less h. after top.0 q less (subst (λ n. IsAtMost n (q, [])) (sym same) (at.2 (q, []) (top_listed (size (shape_of mesh)) q (omega (arith, less, named.0))) h))))

-- where no macro element is around a point, no leaf is
pub top_none : ContainsByChildren → (mesh : Mesh) → AreTenths mesh.vertices → (list : List Name) → AreLeaves mesh list → (p : Point) → IsPlace mesh (tops (size (shape_of mesh))) p None → IsPlace mesh list p None
top_none law mesh tenths list are p none = nowhere law mesh tenths are.0 list are.1 p (λ r h around. none (r, []) (top_listed (size (shape_of mesh)) r h) around)
