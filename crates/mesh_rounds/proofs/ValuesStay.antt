-- Values are those of a forest: at first, and after each round.
use Rattle.std.proofs.Common.{◌≡◌, ℕ, ◌<◌, ◌≤◌, arith, ltb, ltb-true, lt-ltb, ℤ, Bool, true, false, cond, true≢false, refl, sym, ap, ◌∙◌, List, [], ◌∷◌, length, ⊎_elim}
use Rattle.std.specs.Prelude.{Option, Some, None, IsSome, is_some, option_map, pos, slice_get, slice_index_or}
use Rattle.std.specs.FinSet.{contains, empty, contains-empty}
use Rattle.std.specs.FinMap.{get-empty}
use Rattle.std.proofs.lemmas.Option.{slice_get-map, slice_get_cases, slice_get_past}
use Rattle.mesh_names.specs.Names.{Name, name_cmp}
use Rattle.mesh_names.specs.Triangles.{Shape, size}
use Rattle.mesh_names.specs.Forests.{Has, IsForest, IsLeaf}
use Rattle.mesh_names.specs.Leaves.{leaves}
use Rattle.mesh_names.specs.declared.patch.VertexKey.{VertexKey}
use Rattle.mesh_names.specs.declared.patch.VertexKey.TheVariants.{Macro, Patch}
use Rattle.mesh_names.proofs.Leaving.{leaves_are}
use Rattle.mesh_names.proofs.Sets.{both_sides, is_or_not}
use Rattle.macro_file.specs.declared.text.MacroVertex.{MacroVertex}
use Rattle.compat_check.specs.Meshes.{shape_of}
use Rattle.name_tree.specs.declared.nodes.Entry.{Entry}
use Rattle.dof_transfer.specs.Held.{Held, value_of}
use Rattle.dof_transfer.specs.VertexNames.{IsVertexIn}
use Rattle.dof_transfer.specs.VertexValues.{value_at}
use Rattle.mesh_rounds.specs.ForestValues.{ElementsStay, FirstElements, FirstVertices, VerticesStay}

pub no_member : (n : Name) → Has empty n → ⊥
no_member n h = both_sides (contains (empty {R = name_cmp}) n) h (contains-empty name_cmp n)

pub empty_forest : (mesh : Shape) → IsForest mesh empty
empty_forest mesh = record {
  rooted = λ n h. absurd (no_member n h);
  shallow = λ n h. absurd (no_member n h);
  closed = λ r b w h. absurd (no_member (r, b ∷ w) h);
}

pub elements_stay : ElementsStay
elements_stay mesh members old new forest are = record { forest = forest; live = λ n. (some n, leaf n) }
  where
    some : (n : Name) → IsLeaf mesh members n → IsSome (value_of new n)
    some n l = ap (λ (o : Option ℤ). is_some o) (are.leaves n l).1

    leaf : (n : Name) → IsSome (value_of new n) → IsLeaf mesh members n
    leaf n there = ⊎_elim
        (λ (h : Has (leaves mesh members) n). (leaves_are mesh members forest n).0 h)
        (λ (h : contains (leaves mesh members) n ≡ false).
        absurd (true≢false (sym there ∙ ap (λ (o : Option ℤ). is_some o) (are.none n (λ l. both_sides (contains (leaves mesh members) n) ((leaves_are mesh members forest n).1 l) h)))))
        (is_or_not (contains (leaves mesh members) n))

pub vertices_stay : VerticesStay
vertices_stay mesh members old new are = record {
  vertices = λ key inside. let r = are.vertices key inside in (r.0, r.1, tt);
  none = are.none;
}

pub first_elements : FirstElements
first_elements mesh held are = record { forest = empty_forest (shape_of mesh); live = by }
  where
    value : Option Entry → Option ℤ
    value o = option_map (λ (e : Entry). e.value) o

    by : (n : Name) → (IsLeaf (shape_of mesh) empty n → IsSome (value_of held n)) × (IsSome (value_of held n) → IsLeaf (shape_of mesh) empty n)
    by (r, []) = (
      λ l. ap (λ (o : Option Entry). is_some (value o)) (are.live (r, [])) ∙ ap (λ (b : Bool). is_some (value (cond b (Some (record { index = r; value = slice_index_or mesh.values r (pos 0) })) None))) (lt-ltb r (size (shape_of mesh)) l.rooted),
      λ there. record {
        rooted = low r (ltb r (size (shape_of mesh))) refl (sym (ap (λ (o : Option Entry). is_some (value o)) (are.live (r, []))) ∙ there);
        unsplit = contains-empty name_cmp (r, []);
        born = λ b w e. absurd (cc);
      },
    )
      where
        low : (r : ℕ) (b : Bool) → ltb r (size (shape_of mesh)) ≡ b → is_some (value (cond b (Some (record { index = r; value = slice_index_or mesh.values r (pos 0) })) None)) ≡ true → r < size (shape_of mesh)
        low r true e h = ltb-true r (size (shape_of mesh)) e
        low r false e h = absurd (true≢false (sym h))
    by (r, b ∷ w) = (
      λ l. absurd (no_member (r, w) (l.born b w refl)),
      λ there. absurd (true≢false (sym there ∙ ap (λ (o : Option Entry). is_some (value o)) (are.live (r, b ∷ w)))),
    )

pub first_vertices : FirstVertices
first_vertices mesh held are = record { vertices = there; none = nothing }
  where
    read : (i : ℕ) → slice_get held.macros i ≡ option_map (λ (v : MacroVertex). v.value) (slice_get mesh.vertices i)
    read i = ap (λ (vs : List ℤ). slice_get vs i) are.macros ∙ slice_get-map (λ (v : MacroVertex). v.value) mesh.vertices i

    there : (key : VertexKey) → IsVertexIn mesh empty key → (x : ℤ) × (value_at held key ≡ Some x) × Unit {0}
    there (Macro i) inside = ⊎_elim
        (λ (r : (v : MacroVertex) × (i < length mesh.vertices) × (slice_get mesh.vertices i ≡ Some v) × (slice_index_or mesh.vertices i v ≡ v)). (r.0.value, read i ∙ ap (option_map (λ (v : MacroVertex). v.value)) r.2, tt))
        (λ (r : (length mesh.vertices ≤ i) × (slice_get mesh.vertices i ≡ None)). let l = r.0 in absurd (omega (arith, inside, l)))
        (slice_get_cases mesh.vertices i).1
    there (Patch n) inside = absurd (no_member n inside.0)

    nothing : (key : VertexKey) → (IsVertexIn mesh empty key → ⊥) → value_at held key ≡ None
    nothing (Macro i) never = read i ∙ ap (option_map (λ (v : MacroVertex). v.value)) (slice_get_past mesh.vertices i (omega (arith, never)))
    nothing (Patch n) never = ap (λ (p : Held). value_of p n) are.patches ∙ ap (option_map (λ (e : Entry). e.value)) (get-empty name_cmp n)
