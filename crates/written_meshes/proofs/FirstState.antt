-- The first state of a written mesh stands for the state in which it was written.
use Rattle.std.proofs.Common.{◌≡◌, ℕ, zero, suc, ◌<◌, Bool, false, cond, refl, sym, ap, subst, ◌∙◌, List, [], ◌∷◌, map, length, arith, ⊎_elim}
use Rattle.std.specs.Prelude.{ℤ, pos, Option, Some, None, IsSome, option_map, slice_get, slice_index_or, zip}
use Rattle.std.specs.FinMap.{get, get-empty}
use Rattle.std.specs.FinSet.{contains, contains-empty}
use Rattle.std.proofs.lemmas.Bool.{lt-ltb}
use Rattle.macro_file.specs.declared.text.MacroElem.{MacroElem}
use Rattle.macro_file.specs.declared.text.MacroVertex.{MacroVertex}
use Rattle.macro_file.specs.Meaning.{Element, Macro as MacroData, Vertex as Placed}
use Rattle.macro_file.specs.Text.{element_of, vertex_of}
use Rattle.mesh_names.specs.Names.{Name, name_cmp}
use Rattle.mesh_names.specs.Triangles.{Vertex, Corner, midpoint, size, triangle}
use Rattle.mesh_names.specs.Forests.{Names, Has}
use Rattle.mesh_names.specs.declared.patch.VertexKey.{VertexKey}
use Rattle.mesh_names.specs.declared.patch.VertexKey.TheVariants.{Macro, Patch}
use Rattle.mesh_names.proofs.Booleans.{not_true}
use Rattle.mesh_names.proofs.Levels.{not_mid}
use Rattle.mesh_names.proofs.Neighbours.{none_some}
use Rattle.mesh_names.proofs.Sets.{both_sides}
use Rattle.name_tree.specs.declared.nodes.Entry.{Entry}
use Rattle.compat_check.specs.Meshes.{Mesh, across_in, shape_of}
use Rattle.dof_transfer.specs.Held.{Held, value_of}
use Rattle.dof_transfer.specs.VertexNames.{HasAt, IsVertexIn}
use Rattle.dof_transfer.specs.VertexValues.{IsKeyOf, value_at}
use Rattle.mesh_rounds.specs.State.{State}
use Rattle.mesh_writer.specs.MeshText.{macro_element, macro_vertex}
use Rattle.mesh_writer.specs.Numbering.{vertices}
use Rattle.written_meshes.specs.Continued.{IsGoingOn}
use Rattle.written_meshes.specs.ForestRenaming.{StandsFor}
use Rattle.written_meshes.specs.Renaming.{renamed, renamed_vertex}
use Rattle.written_meshes.proofs.Moved.{apart, inside, midpoint-moved, not_member}
use Rattle.written_meshes.proofs.OneValue.{one_at}
use Rattle.written_meshes.proofs.RenamedVertices.{IsVertex, Stand, are, in_members, old_at, ren, zip_at}
use Rattle.written_meshes.proofs.TextFacts.{map-twice}
use Rattle.written_meshes.proofs.WrittenVertices.{vertex_at}

no_second : {A B : Type 0} (xs : List A) → map (λ (p : A × B). p.1) (zip xs []) ≡ []
no_second [] = refl
no_second (x ∷ xs) = refl

zip-second : {A B : Type 0} (xs : List A) (ys : List B) → length ys ≡ length xs → map (λ (p : A × B). p.1) (zip xs ys) ≡ ys
zip-second xs [] e = no_second xs
zip-second [] (y ∷ ys) e = absurd (omega (arith, e))
zip-second (x ∷ xs) (y ∷ ys) e = ap (λ l. y ∷ l) (zip-second xs ys (omega (arith, e)))

got : (zs : List ℤ) (j : ℕ) (x : ℤ) → slice_get zs j ≡ Some x → (j < length zs) × (slice_index_or zs j (pos 0) ≡ x)
got [] j x e = absurd (none_some x e)
got (z ∷ zs) zero x e = (omega arith, some e)
  where
    some : {a b : ℤ} → Some a ≡ Some b → a ≡ b
    some e = cc
got (z ∷ zs) (suc j) x e = let r = got zs j x e in (omega (arith, r.0), r.1)

gets : (zs : List ℤ) (j : ℕ) → j < length zs → slice_get zs j ≡ Some (slice_index_or zs j (pos 0))
gets [] j h = absurd (omega (arith, h))
gets (z ∷ zs) zero h = refl
gets (z ∷ zs) (suc j) h = gets zs j (omega (arith, h))

module _ (mesh other : Mesh) (state : State) (list : List Name) (first : State) (g : IsGoingOn mesh state list other first) where
  abbrev members : Names
  members = state.members

  abbrev count : ℕ
  count = length mesh.vertices

  abbrev written : List Vertex
  written = vertices (shape_of mesh) count list

  out : (n : Name) → n.0 < size (shape_of other) → Has members (renamed list n) → ⊥
  out n h = not_member (shape_of mesh) (shape_of other) (across_in mesh) count members list (are mesh other state list first g) n h

  none_first : (n : Name) → contains first.members n ≡ false
  none_first n = ap (λ (s : Names). contains s n) g.is_first.members ∙ contains-empty name_cmp n

  pub first_members : StandsFor (shape_of other) (renamed list) first.members members
  first_members = record {
    rooted = λ n h. absurd (both_sides (contains first.members n) h (none_first n));
    same = λ n h. none_first n ∙ sym (not_true (contains members (renamed list n)) (out n h));
  }

  -- ---- values of elements
  text_values : map (λ (e : MacroElem). e.value) g.again.text.elements.items ≡ g.element_values
  text_values =
      sym (map-twice (λ (e : Element). e.value) element_of g.again.text.elements.items)
      ∙ ap (λ (m : MacroData). map (λ (e : Element). e.value) m.elements) g.again.written.is
      ∙ map-twice (λ (e : Element). e.value) (macro_element mesh written list) (zip list g.element_values)
      ∙ zip-second list g.element_values g.again.written.writing.of_leaves

  all_values : other.values ≡ g.element_values
  all_values = g.again.made.values ∙ text_values

  low : (r : ℕ) → r < size (shape_of other) → r < length list
  low r h = inside (shape_of mesh) (shape_of other) (across_in mesh) count members list (are mesh other state list first g) r h

  gone : (q : Name) (b : Bool) (w : List Bool) → q.1 ≡ b ∷ w → (Has members (q.0, w) → ⊥) → value_of state.elements q ≡ None
  gone q b w e none = by (value_of state.elements q) refl
    where
      by : (o : Option ℤ) → value_of state.elements q ≡ o → value_of state.elements q ≡ None
      by None h = h
      by (Some v) h = absurd (none (((g.is_state.elements.live q).1 (subst IsSome (sym h) refl)).born b w e))

  abbrev worth : Option Entry → Option ℤ
  worth o = option_map (λ (e : Entry). e.value) o

  first_values : (r : ℕ) (w : List Bool) → r < size (shape_of other) → value_of first.elements (r, w) ≡ value_of state.elements (renamed list (r, w))
  first_values r [] h =
      ap worth (g.is_first.elements.live (r, []))
      ∙ ap (λ (b : Bool). worth (cond b (Some (record { index = r; value = slice_index_or other.values r (pos 0) })) None)) (lt-ltb r (size (shape_of other)) h)
      ∙ ap (λ (zs : List ℤ). Some (slice_index_or zs r (pos 0))) all_values
      ∙ sym (zip_at (λ (n : Name) (v : ℤ). value_of state.elements n ≡ Some v) list g.element_values g.of_leaves r (0, []) (pos 0) (low r h))
  first_values r (b ∷ w) h = ap worth (g.is_first.elements.live (r, b ∷ w)) ∙ sym (gone (renamed list (r, b ∷ w)) b (renamed list (r, w)).1 refl (out (r, w) h))

  pub first_elements : (n : Name) → n.0 < size (shape_of other) → value_of first.elements n ≡ value_of state.elements (renamed list n)
  first_elements n h = first_values n.0 n.1 h

  -- ---- values of vertices
  spot_values : map (λ (v : MacroVertex). v.value) g.again.text.vertices.items ≡ g.vertex_values
  spot_values =
      sym (map-twice (λ (v : Placed). v.value) vertex_of g.again.text.vertices.items)
      ∙ ap (λ (m : MacroData). map (λ (v : Placed). v.value) m.vertices) g.again.written.is
      ∙ map-twice (λ (v : Placed). v.value) (macro_vertex mesh) (zip written g.vertex_values)
      ∙ zip-second written g.vertex_values g.again.written.writing.of_vertices

  macros : first.vertices.macros ≡ g.vertex_values
  macros = g.is_first.vertices.macros ∙ ap (map (λ (v : MacroVertex). v.value)) g.again.made.vertices ∙ spot_values

  no_patch : (n : Name) (x : ℤ) → value_of first.vertices.patches n ≡ Some x → ⊥
  no_patch n x e = none_some x (sym (ap (λ (p : Held). worth (get p.live n)) g.is_first.vertices.patches ∙ ap worth (get-empty name_cmp n)) ∙ e)

  first_to : (v : Vertex) (x : ℤ) (key : VertexKey) → IsKeyOf other key v → value_at first.vertices key ≡ Some x → HasAt mesh state.vertices (renamed_vertex written v) x
  first_to v x (Patch n) names e = absurd (no_patch n x e)
  first_to v x (Macro j) names e =
      let r = got g.vertex_values j x (ap (λ (zs : List ℤ). slice_get zs j) (sym macros) ∙ e) in
      let all = g.again.written.writing.of_vertices in
      subst (λ (p : Vertex × ℤ). HasAt mesh state.vertices p.0 p.1) (λ i. (renamed_vertex written (names.is i), r.1 i)) (old_at mesh other state list first g j (omega (arith, r.0, all)))

  mid_never : (v : Vertex) (n : Name) → n.0 < size (shape_of other) → v ≡ midpoint (triangle (shape_of other) n) → (key : VertexKey) → IsKeyOf mesh key (renamed_vertex written v) → IsVertexIn mesh members key → ⊥
  mid_never v n h e (Macro i) names is =
      let t = triangle (shape_of mesh) (renamed list n) in
      not_mid (shape_of mesh) i t.0 t.1 (names.is ∙ ap (renamed_vertex written) e ∙ midpoint-moved (shape_of mesh) (shape_of other) (across_in mesh) count members list (are mesh other state list first g) n h)
  mid_never v n h e (Patch q) names is =
      apart (shape_of mesh) (shape_of other) (across_in mesh) count members list (are mesh other state list first g) q n is.0 h
      (names.is ∙ ap (renamed_vertex written) e ∙ midpoint-moved (shape_of mesh) (shape_of other) (across_in mesh) count members list (are mesh other state list first g) n h)

  first_back : (v : Vertex) → IsVertex mesh other state list first g v → (x : ℤ) → HasAt mesh state.vertices (renamed_vertex written v) x → HasAt other first.vertices v x
  first_back v a x h = ⊎_elim
      (λ (p : (j : ℕ) × (j < length written) × (v ≡ Corner j)).
      let all = g.again.written.writing.of_vertices in
      let below = p.1 in
      let z = one_at mesh (ren mesh other state list first g).tells state.vertices (vertex_at written p.0) (renamed_vertex written v) (slice_index_or g.vertex_values p.0 (pos 0)) x (sym (ap (renamed_vertex written) p.2)) (old_at mesh other state list first g p.0 p.1) h in
      record {
        key = Macro p.0;
        names = record { only = tt; of_mesh = tt; is = sym p.2 };
        is = ap (λ (zs : List ℤ). slice_get zs p.0) macros ∙ gets g.vertex_values p.0 (omega (arith, all, below)) ∙ ap Some z;
      })
      (λ (p : (n : Name) × (n.0 < size (shape_of other)) × (length n.1 < a.0) × (v ≡ midpoint (triangle (shape_of other) n))). absurd (mid_never v p.0 p.1 p.3 h.key h.names (in_members mesh other state list first g h.key x h.is)))
      a.1

  pub first_vertices : Stand mesh other state list first g first.vertices state.vertices
  first_vertices v a x = ((λ h. first_to v x h.key h.names h.is), first_back v a x)
