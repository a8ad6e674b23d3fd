-- The way down from a macro triangle to the least leaf around a point.
use Rattle.std.proofs.Common.{◌≡◌, ◌⊎◌, ℕ, ◌<◌, ◌≤◌, Bool, true, false, List, [], ◌∷◌, ◌++◌, length, refl, sym, ap, subst, ◌∙◌, arith, inl, inr, ⊎_elim}
use Rattle.std.proofs.lemmas.List.{append-nil}
use Rattle.std.specs.List.{Contains}
use Rattle.std.specs.Prelude.{Some, None}
use Rattle.mesh_names.specs.Names.{Name}
use Rattle.mesh_names.specs.Triangles.{size}
use Rattle.mesh_names.specs.Forests.{Names}
use Rattle.compat_check.specs.Meshes.{Mesh, shape_of}
use Rattle.compat_check.specs.Points.{Point, AreTenths}
use Rattle.std.specs.Bool.{OnFalse, OnTrue}
use Rattle.mesh_names.specs.Triangles.{triangle}
use Rattle.compat_check.specs.Points.{point}
use Rattle.locate_point.specs.Covering.{Corners, Covers, IsAround, corners_of}
use Rattle.locate_point.proofs.Placing.{middle_lies}
use Rattle.locate_point.specs.Children.{ContainsByChildren}
use Rattle.locate_point.specs.Locating.{AreLeavesOf, IsPlace, LiesOutside}
use Rattle.locate_point.specs.Ways.{IsOnWay, child_corners}
use Rattle.locate_point.proofs.NearNames.{first_child_low, second_child_low, top_low}
use Rattle.locate_point.proofs.Elements.{listed-leaf, leaf-short, unlisted-member, member-short, child-element, top-element}

-- a triangle around a point lies below triangles around it
pub around_above : ContainsByChildren → (mesh : Mesh) → AreTenths mesh.vertices → (p : Point) (r : ℕ) (w v : List Bool) → length (w ++ v) ≤ 24 → IsAround mesh p (r, w ++ v) → IsAround mesh p (r, v)
around_above law mesh tenths p r [] v short h = h
around_above law mesh tenths p r (false ∷ w) v short h = around_above law mesh tenths p r w v (omega (arith, short)) ((law mesh tenths (r, w ++ v) (omega (arith, short)) p).1 (inl h))
around_above law mesh tenths p r (true ∷ w) v short h = around_above law mesh tenths p r w v (omega (arith, short)) ((law mesh tenths (r, w ++ v) (omega (arith, short)) p).1 (inr h))

module _ (law : ContainsByChildren) (mesh : Mesh) (tenths : AreTenths mesh.vertices) (members : Names) (list : List Name) (are : AreLeavesOf mesh members list) (p : Point) where
  -- to the child that is chosen
  pub step : (n : Name) (side : Bool) → IsOnWay mesh list p n → (Contains list n → ⊥) → (side ≡ false → IsAround mesh p (n.0, false ∷ n.1)) → (side ≡ true → IsAround mesh p (n.0, false ∷ n.1) → ⊥) → IsOnWay mesh list p (n.0, side ∷ n.1)
  step n false way unlisted at first = record {
    around = at refl;
    element = λ ms its. child-element mesh ms list its n false (unlisted-member mesh ms list its n (way.element ms its) unlisted);
    least = λ m there h. first_child_low n m (way.least m there h) (λ e. unlisted (subst (Contains list) (sym e) there));
  }
  step n true way unlisted at other =
      let member = unlisted-member mesh members list are n (way.element members are) unlisted in
      let child : IsAround mesh p (n.0, false ∷ n.1) ⊎ IsAround mesh p (n.0, true ∷ n.1) = (law mesh tenths n (member-short mesh members list are n member) p).0 way.around in
      record {
        around = ⊎_elim (λ h. absurd (other refl h)) (λ h. h) child;
        element = λ ms its. child-element mesh ms list its n true (unlisted-member mesh ms list its n (way.element ms its) unlisted);
        least = λ m there h. ⊎_elim (λ low. low)
            (λ (below : (w : List Bool) × (m ≡ (n.0, w ++ false ∷ n.1))).
            let short : length m.1 ≤ 24 = leaf-short mesh members list are m (listed-leaf mesh members list are m there) in
            absurd (other refl (around_above law mesh tenths p n.0 below.0 (false ∷ n.1) (subst (λ (k : Name). length k.1 ≤ 24) below.1 short) (subst (IsAround mesh p) below.1 h))))
            (second_child_low n m (way.least m there h) (λ e. unlisted (subst (Contains list) (sym e) there)));
      }

  -- the macro triangle above a leaf around the point
  pub top_around : (m : Name) → Contains list m → IsAround mesh p m → IsAround mesh p (m.0, [])
  top_around m there h = around_above law mesh tenths p m.0 m.1 [] (subst (λ (w : List Bool). length w ≤ 24) (sym (append-nil m.1)) (leaf-short mesh members list are m (listed-leaf mesh members list are m there))) (subst (λ (w : List Bool). IsAround mesh p (m.0, w)) (sym (append-nil m.1)) h)

  -- the first macro triangle around the point
  pub start : (r : ℕ) → r < size (shape_of mesh) → IsAround mesh p (r, []) → ((q : ℕ) → q < r → IsAround mesh p (q, []) → ⊥) → IsOnWay mesh list p (r, [])
  start r inside h first = record {
    around = h;
    element = λ ms its. top-element mesh ms list its r inside;
    least = λ m there k. top_low r m (λ less. first m.0 less (top_around m there k));
  }

  -- a leaf on the way is the place
  pub arrived : (n : Name) → IsOnWay mesh list p n → Contains list n → IsPlace mesh list p (Some n)
  arrived n way there = (there, way.around, way.least)

  -- where no macro triangle is around the point, no leaf is
  pub nowhere : LiesOutside mesh p → IsPlace mesh list p None
  nowhere out m there h = out m.0 (listed-leaf mesh members list are m there).rooted (top_around m there h)

-- the corners of a child
pub corners_of_child : (mesh : Mesh) (n : Name) (side : Bool) → child_corners (corners_of mesh n) side ≡ corners_of mesh (n.0, side ∷ n.1)
corners_of_child mesh n false = let t = triangle (shape_of mesh) n in λ i. (point mesh.vertices t.2, point mesh.vertices t.0, sym (middle_lies mesh t.0 t.1) i)
corners_of_child mesh n true = let t = triangle (shape_of mesh) n in λ i. (point mesh.vertices t.1, point mesh.vertices t.2, sym (middle_lies mesh t.0 t.1) i)

-- one step of the walk, by the corners that it keeps
pub stepped : (law : ContainsByChildren) (mesh : Mesh) → AreTenths mesh.vertices → (members : Names) (list : List Name) → AreLeavesOf mesh members list → (p : Point) (n : Name) (t : Corners) (side : Bool) → t ≡ corners_of mesh n → IsOnWay mesh list p n → (Contains list n → ⊥) →
    OnFalse side (Covers (child_corners t false) p) → OnTrue side (Covers (child_corners t false) p → ⊥) → IsOnWay mesh list p (n.0, side ∷ n.1)
stepped law mesh tenths members list are p n t side at way unlisted first other =
    let same : child_corners t false ≡ corners_of mesh (n.0, false ∷ n.1) = ap (λ u. child_corners u false) at ∙ corners_of_child mesh n false in
    step law mesh tenths members list are p n side way unlisted
    (λ e. subst (λ u. Covers u p) same (subst (λ b. OnFalse b (Covers (child_corners t false) p)) e first))
    (λ e h. (subst (λ b. OnTrue b (Covers (child_corners t false) p → ⊥)) e other) (subst (λ u. Covers u p) (sym same) h))

-- an element on the way that is no leaf has fewer than 24 letters
pub unlisted-short : (mesh : Mesh) (members : Names) (list : List Name) → AreLeavesOf mesh members list → (p : Point) (n : Name) → IsOnWay mesh list p n → (Contains list n → ⊥) → length n.1 < 24
unlisted-short mesh members list are p n way unlisted = member-short mesh members list are n (unlisted-member mesh members list are n (way.element members are) unlisted)
