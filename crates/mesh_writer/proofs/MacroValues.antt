-- The values of a mesh before any bisection.
use Rattle.std.proofs.Common.{◌≡◌, ℕ, ◌<◌, ℤ, pos, refl, sym, ap, subst, ◌∙◌, ⊎_elim, List, [], ◌∷◌, length, map, get_or, arith}
use Rattle.std.specs.Prelude.{All, slice_get}
use Rattle.std.specs.List.Sorted.{IsStrictlySortedBy}
use Rattle.std.proofs.lemmas.List.{length-map}
use Rattle.std.proofs.lemmas.List.Elements.{All-nil, All-cons}
use Rattle.std.proofs.lemmas.Option.{slice_get-get_or}
use Rattle.macro_file.specs.declared.text.MacroVertex.{MacroVertex}
use Rattle.mesh_names.specs.Names.{Name, name_cmp}
use Rattle.mesh_names.specs.Triangles.{Corner, IsCorner, Vertex, corner_of, size, triangle, triple_of}
use Rattle.mesh_names.specs.declared.patch.VertexKey.TheVariants.{Macro}
use Rattle.compat_check.specs.Meshes.{IsChecked, Mesh, shape_of}
use Rattle.dof_transfer.specs.VertexValues.{AreMacroVertices, VertexHeld}
use Rattle.mesh_writer.specs.MeshText.{HasSome, HaveValues}

-- the two leaves of a mesh of two elements
abbrev pub both : List Name
both = (0, []) ∷ (1, []) ∷ []

pub both_sorted : IsStrictlySortedBy name_cmp both
unfolding IsStrictlySortedBy
both_sorted = ((refl, tt), (tt, tt))

module _ (mesh : Mesh) (checked : IsChecked mesh) (two : size (shape_of mesh) ≡ 2) where
  each_of : (P : Name → Type 0) → ((r : ℕ) → r < size (shape_of mesh) → P (r, [])) → All P both
  each_of P one = All-cons P (0, []) ((1, []) ∷ []) (one 0 (omega (arith, two))) (All-cons P (1, []) [] (one 1 (omega (arith, two))) (All-nil P))

  macro_has : (held : VertexHeld) → AreMacroVertices mesh held → (i : ℕ) → i < length mesh.vertices → HasSome mesh held (Corner i)
  macro_has held are i low =
      let values = map (λ (v : MacroVertex). v.value) mesh.vertices in (
        get_or values i (pos 0),
        record {
          key = Macro i;
          names = record { only = tt; of_mesh = tt; is = refl };
          is = ap (λ (vs : List ℤ). slice_get vs i) are.macros ∙ slice_get-get_or values i (pos 0) (omega (arith, low, length-map mesh.vertices (λ (v : MacroVertex). v.value)));
        },
      )

  pub both_corners_have : (held : VertexHeld) → AreMacroVertices mesh held → HaveValues mesh both held
  both_corners_have held are =
      let at : (r k : ℕ) (v : Vertex) → r < size (shape_of mesh) → k < 3 → v ≡ Corner (corner_of (triple_of (shape_of mesh) r) k) → HasSome mesh held v = λ r k v low few e. subst (HasSome mesh held) (sym e) (macro_has held are (corner_of (triple_of (shape_of mesh) r) k) (checked.corners r k low few)) in
      record {
        macros = macro_has held are;
        corners = each_of (λ n. (v : Vertex) → IsCorner v (triangle (shape_of mesh) n) → HasSome mesh held v)
            (λ r low v. ⊎_elim (at r 0 v low (omega arith)) (⊎_elim (at r 1 v low (omega arith)) (at r 2 v low (omega arith))));
      }
