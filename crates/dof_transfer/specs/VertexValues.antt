-- What is held of vertices: the values of the macro vertices, and what the owners of patches hold for their midpoints.
use Rattle.std.specs.Prelude.{◌≡◌, ℕ, ◌^◌, ◌<◌, ◌≤◌, ℤ, pos, nat_abs, ◌+ℤ◌, true, cond, ltb, refl, List, [], ◌∷◌, length, map, All, replicate, slice_get, Option, Some, None, unwrap_or}
use Rattle.std.specs.Coded.{Coded, code_by, coded×, coded_list, coded_ℤ}
use Rattle.std.specs.FinMap.{empty}
use Rattle.dof_admin.specs.Administration.{used_at}
use Rattle.mesh_names.specs.Names.{Name}
use Rattle.mesh_names.specs.Triangles.{Vertex, triangle}
use Rattle.mesh_names.specs.Patches.{IsKey, vertex_of}
use Rattle.mesh_names.specs.declared.patch.PatchName.{PatchName}
use Rattle.mesh_names.specs.declared.patch.VertexKey.{VertexKey}
use Rattle.mesh_names.specs.declared.patch.VertexKey.TheVariants.{Macro, Patch}
use Rattle.macro_file.specs.declared.text.MacroVertex.{MacroVertex}
use Rattle.compat_check.specs.Corners.{IsOfMesh}
use Rattle.compat_check.specs.Meshes.{Mesh, across_in, shape_of}
use Rattle.dof_transfer.specs.Held.{Held, IsSound, IsTidied, all_given_back, held_code, index_of, taken, value_of}
use Rattle.dof_transfer.specs.Exchanges.{floor_half}

-- macro vertex i has index i and is never given back; a midpoint has the index of its patch's owner
pub record VertexHeld : Type 0 where
  pub macros : List ℤ
  pub patches : Held

-- it is stored as the pair of its parts
abbrev pub vertex_held_code : Coded VertexHeld
vertex_held_code = code_by (List ℤ × Held) (coded× (coded_list coded_ℤ) held_code) (λ h. (h.macros, h.patches)) (λ p. record { macros = p.0; patches = p.1 }) (λ _. refl)

-- the value of a live vertex
abbrev pub value_at : VertexHeld → VertexKey → Option ℤ
value_at held (Macro i) = slice_get held.macros i
value_at held (Patch n) = value_of held.patches n

-- the index of a live vertex
abbrev pub index_at : VertexHeld → VertexKey → Option ℕ
index_at held (Macro i) = cond (ltb i (length held.macros)) (Some i) None
index_at held (Patch n) = index_of held.patches n

-- each live vertex has a used index of its own
pub record IsVertexSound (held : VertexHeld) : Type 0 where
  pub patches : IsSound held.patches
  pub used : (i : ℕ) → i < length held.macros → used_at held.patches.flags i ≡ true
  pub above : (n : Name) (i : ℕ) → index_of held.patches n ≡ Some i → length held.macros ≤ i

-- all values are at most 2^31 in size
pub record AreSmall (held : VertexHeld) : Type 0 where
  pub macros : All (λ v. nat_abs v ≤ 2 ^ 31) held.macros
  pub patches : (n : Name) (v : ℤ) → value_of held.patches n ≡ Some v → nat_abs v ≤ 2 ^ 31

-- all macro vertices have their values, and nothing else has any
pub record AreMacroVertices (mesh : Mesh) (held : VertexHeld) : Type 0 where
  pub macros : held.macros ≡ map (λ (v : MacroVertex). v.value) mesh.vertices
  pub patches : held.patches ≡ record { live = empty; flags = replicate (length mesh.vertices) true }

-- one live vertex has another value, and nothing else has changed
pub record SetsVertex (old new : VertexHeld) (key : VertexKey) (v : ℤ) : Type 0 where
  pub value : value_at new key ≡ Some v
  pub others : (q : VertexKey) → (q ≡ key → ⊥) → value_at new q ≡ value_at old q
  pub indices : (q : VertexKey) → index_at new q ≡ index_at old q
  pub flags : new.patches.flags ≡ old.patches.flags

-- the key names this vertex of the mesh
pub record IsKeyOf (mesh : Mesh) (key : VertexKey) (v : Vertex) : Type 0 where
  pub only : IsKey (across_in mesh) key
  pub of_mesh : IsOfMesh (shape_of mesh) key
  pub is : vertex_of (shape_of mesh) key ≡ v

-- the value of a live vertex, and 0 of any other
abbrev pub worth : VertexHeld → VertexKey → ℤ
worth held key = unwrap_or (value_at held key) (pos 0)

-- the midpoint of a patch takes the least unused index, with half the sum of the values at the ends of the refinement edge, rounded down
pub record IsMade (mesh : Mesh) (old : VertexHeld) (p : PatchName) (new : VertexHeld) : Type 0 where
  pub first : VertexKey
  pub second : VertexKey
  pub first_is : IsKeyOf mesh first (triangle (shape_of mesh) p.first).0
  pub second_is : IsKeyOf mesh second (triangle (shape_of mesh) p.first).1
  pub is : new ≡ record { macros = old.macros; patches = taken old.patches p.first (floor_half (worth old first +ℤ worth old second)) }

-- the midpoints of patches in order
abbrev pub AreMade : Mesh → VertexHeld → List PatchName → VertexHeld → Type 0
AreMade mesh old [] new = new ≡ old
AreMade mesh old (p ∷ ps) new = (next : VertexHeld) × IsMade mesh old p next × AreMade mesh next ps new

-- the owners of patches
abbrev pub owners : List PatchName → List Name
owners ps = map (λ (p : PatchName). p.first) ps

-- the midpoints of born patches take their indices in order, and then those of died ones give theirs back in order
pub record IsVertexChange (mesh : Mesh) (old : VertexHeld) (born died : List PatchName) (new : VertexHeld) : Type 0 where
  pub made : VertexHeld
  pub are_made : AreMade mesh old born made
  pub is : new ≡ record { macros = made.macros; patches = all_given_back made.patches (owners died) }

-- an index of macro vertices stays, and those of midpoints are renumbered without holes exactly where unused indices outnumber the used ones
pub record IsVertexTidied (old new : VertexHeld) : Type 0 where
  pub macros : new.macros ≡ old.macros
  pub patches : IsTidied old.patches new.patches
