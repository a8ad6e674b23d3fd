-- Rounds, and what they make of values, do not depend on the labels of a mesh.
use Rattle.std.proofs.Common.{◌≡◌, ℕ, ℤ, true, refl, arith, ◌∙◌, List, [], ◌∷◌}
use Rattle.std.specs.Prelude.{◌<◌, length, map, zip}
use Rattle.std.specs.List.{AllZip}
use Rattle.mesh_names.specs.Names.{Name}
use Rattle.mesh_names.specs.Triangles.{Vertex, size}
use Rattle.mesh_names.specs.Forests.{Names}
use Rattle.mesh_names.specs.declared.patch.PatchName.{PatchName}
use Rattle.mesh_names.specs.declared.patch.VertexKey.{VertexKey}
use Rattle.mesh_names.specs.declared.patch.VertexKey.TheVariants.{Macro, Patch}
use Rattle.mesh_names.specs.declared.rows.MarkRow.{MarkRow}
use Rattle.compat_check.specs.Meshes.{Mesh, shape_of, label_of}
use Rattle.compat_check.specs.Points.{labels, labels_below}
use Rattle.macro_file.specs.Written.{macro_bytes}
use Rattle.mesh_writer.specs.MeshText.{IsMeshText, macro_element, macro_vertex, written_mesh}
use Rattle.mesh_writer.specs.Neighbours.{neighbours}
use Rattle.mesh_writer.specs.Numbering.{vertices}
use Rattle.mesh_writer.specs.Triples.{numbers}
use Rattle.dof_transfer.specs.Held.{Held}
use Rattle.dof_transfer.specs.Macros.{first_entry}
use Rattle.dof_transfer.specs.VertexNames.{AreVertexValues, HasAt, HasVertexValue, IsVertexIn, kept, made}
use Rattle.dof_transfer.specs.VertexValues.{AreMade, IsKeyOf, IsVertexChange, VertexHeld}
use Rattle.forest_plain.specs.Rounds.{Room}
use Rattle.mesh_rounds.specs.Setting.{AreVerticesSet}
use Rattle.mesh_rounds.specs.State.{IsFirst, IsMeshRound, State}

-- the mesh with other labels
abbrev pub relabelled : Mesh → List (List ℤ) → Mesh
relabelled mesh labels = record { vertices = mesh.vertices; shape = mesh.shape; labels = labels; values = mesh.values }

module _ (mesh : Mesh) (from to : List (List ℤ)) where
  key-as : (key : VertexKey) (v : Vertex) → IsKeyOf (relabelled mesh from) key v → IsKeyOf (relabelled mesh to) key v
  key-as key v h = record { only = h.only; of_mesh = h.of_mesh; is = h.is }

  pub at-as : (held : VertexHeld) (v : Vertex) (x : ℤ) → HasAt (relabelled mesh from) held v x → HasAt (relabelled mesh to) held v x
  at-as held v x h = record { key = h.key; names = key-as h.key v h.names; is = h.is }

  inside-as : (members : Names) (key : VertexKey) → IsVertexIn (relabelled mesh from) members key → IsVertexIn (relabelled mesh to) members key
  inside-as members (Macro i) h = h
  inside-as members (Patch n) h = h

  made-as : (ps : List PatchName) (old new : VertexHeld) → AreMade (relabelled mesh from) old ps new → AreMade (relabelled mesh to) old ps new
  made-as [] old new h = h
  made-as (p ∷ ps) old new h = (
    h.0,
    record { first = h.1.first; second = h.1.second; first_is = key-as h.1.first _ h.1.first_is; second_is = key-as h.1.second _ h.1.second_is; is = h.1.is },
    made-as ps h.0 new h.2,
  )

  change-as : (old new : VertexHeld) (born died : List PatchName) → IsVertexChange (relabelled mesh from) old born died new → IsVertexChange (relabelled mesh to) old born died new
  change-as old new born died h = record { made = h.made; are_made = made-as born old h.made h.are_made; is = h.is }

  pub first-as : (state : State) → IsFirst (relabelled mesh from) state → IsFirst (relabelled mesh to) state
  first-as state h = record {
    members = h.members;
    vertices = record { macros = h.vertices.macros; patches = h.vertices.patches };
    elements = record { live = λ n. h.elements.live n ∙ entry n; used = h.elements.used };
  } where
    entry : (n : Name) → first_entry (relabelled mesh from) (size (shape_of mesh)) n ≡ first_entry (relabelled mesh to) (size (shape_of mesh)) n
    entry (r, []) = refl
    entry (r, b ∷ w) = refl

module _ (mesh : Mesh) (from to : List (List ℤ)) where
  value-as : (held : VertexHeld) (v : Vertex) (x : ℤ) → HasVertexValue (relabelled mesh from) held v x → HasVertexValue (relabelled mesh to) held v x
  value-as held _ _ (kept v x h) = kept v x (at-as mesh from to held v x h)
  value-as held _ _ (made a b x y none ha hb) = made a b x y (λ z h. none z (at-as mesh to from held _ z h)) (value-as held a x ha) (value-as held b y hb)

  values-as : (members : Names) (old new : VertexHeld) → AreVertexValues (relabelled mesh from) members old new → AreVertexValues (relabelled mesh to) members old new
  values-as members old new h = record {
    vertices = λ key inside. let r = h.vertices key (inside-as mesh to from members key inside) in (r.0, r.1, value-as old _ r.0 r.2);
    none = λ key out. h.none key (λ i. out (inside-as mesh from to members key i));
  }

  set-as : (members : Names) (rows : List MarkRow) (old new : VertexHeld) → AreVerticesSet (relabelled mesh from) members rows old new → AreVerticesSet (relabelled mesh to) members rows old new
  set-as members rows old new h = record {
    values = λ key inside. h.values key (inside-as mesh to from members key inside);
    none = h.none;
    indices = h.indices;
    flags = h.flags;
  }

  pub round-as : (room : Room) (rows : List MarkRow) (old new : State) → IsMeshRound (relabelled mesh from) room rows old new → IsMeshRound (relabelled mesh to) room rows old new
  round-as room rows old new h = record {
    delta = h.delta;
    forest = h.forest;
    vertices = record {
      set = h.vertices.set;
      rows_set = set-as old.members rows old.vertices h.vertices.set h.vertices.rows_set;
      values = values-as new.members h.vertices.set new.vertices h.vertices.values;
      changed = h.vertices.changed;
      change = change-as mesh from to h.vertices.set h.vertices.changed h.delta.born.items h.delta.died.items h.vertices.change;
      tidied = h.vertices.tidied;
    };
    elements = record { set = h.elements.set; rows_set = h.elements.rows_set; values = h.elements.values; tidied = h.elements.tidied };
  }

-- the same labels up to edge 2 give the same text
module _ (mesh : Mesh) (from to : List (List ℤ)) (same : (r k : ℕ) → k < 3 → label_of (relabelled mesh from) r k ≡ label_of (relabelled mesh to) r k) where
  labels-as : (n : Name) → labels (relabelled mesh from) n ≡ labels (relabelled mesh to) n
  labels-as n = λ i. let l = labels_below (same n.0 0 (omega arith) i, same n.0 1 (omega arith) i, same n.0 2 (omega arith) i) n.1 in l.0 ∷ l.1 ∷ l.2 ∷ []

  found-as : (held : VertexHeld) (vs : List Vertex) (xs : List ℤ) → AllZip (HasAt (relabelled mesh from) held) vs xs → AllZip (HasAt (relabelled mesh to) held) vs xs
  found-as held [] [] h = h
  found-as held [] (x ∷ xs) h = h
  found-as held (v ∷ vs) [] h = h
  found-as held (v ∷ vs) (x ∷ xs) h = (at-as mesh from to held v x h.0, found-as held vs xs h.1)

  elements-as : (written : List Vertex) (leaves : List Name) (ns : List (Name × ℤ)) → map (macro_element (relabelled mesh from) written leaves) ns ≡ map (macro_element (relabelled mesh to) written leaves) ns
  elements-as written leaves [] = refl
  elements-as written leaves (n ∷ ns) = λ i. record {
    corners = numbers (shape_of mesh) written n.0;
    labels = labels-as n.0 i;
    neighbours = neighbours (shape_of mesh) leaves n.0;
    value = n.1;
  } ∷ elements-as written leaves ns i

  mesh-as : (leaves : List Name) (xs ys : List ℤ) → written_mesh (relabelled mesh from) leaves xs ys ≡ written_mesh (relabelled mesh to) leaves xs ys
  mesh-as leaves xs ys = λ i. record {
    vertices = map (macro_vertex mesh) (zip (vertices (shape_of mesh) (length mesh.vertices) leaves) xs);
    elements = elements-as (vertices (shape_of mesh) (length mesh.vertices) leaves) leaves (zip leaves ys) i;
    labels_given = true;
    neighbours_given = true;
  }

  pub text-as : (list : List Name) (held : VertexHeld) (elements : Held) (text : List ℕ) → IsMeshText (relabelled mesh from) list held elements text → IsMeshText (relabelled mesh to) list held elements text
  text-as list held elements text h = record {
    vertex_values = h.vertex_values;
    of_vertices = found-as held _ h.vertex_values h.of_vertices;
    element_values = h.element_values;
    of_leaves = h.of_leaves;
    is = h.is ∙ (λ i. macro_bytes (mesh-as list h.vertex_values h.element_values i));
  }
