-- There is one state before any round, one after each, and one text of each.
use Rattle.std.proofs.Common.{◌≡◌, ℕ, zero, suc, ◌*◌, ◌<◌, ◌≤◌, ◌⊎◌, ℤ, Bool, true, false, cond, refl, sym, ap, ◌∙◌, subst, List, [], ◌∷◌, ◌++◌, length, Option, Some, None, inl, inr, ⊎_elim, arith, true≢false}
use Rattle.std.specs.Prelude.{IsSome, slice_get, slice_index_or, option_map, map, ltb, pos, replicate, ◌+ℤ◌}
use Rattle.std.specs.List.{All, AllZip}
use Rattle.std.specs.FinSet.{contains, contains-empty}
use Rattle.std.specs.FinMap.{empty, get, get-empty, same_map}
use Rattle.dof_admin.specs.Administration.{used_count}
use Rattle.mesh_names.specs.Names.{Name, name_cmp}
use Rattle.mesh_names.specs.Order.{name_cmp_total, name_cmp-same}
use Rattle.mesh_names.specs.Triangles.{Vertex, size}
use Rattle.mesh_names.specs.Forests.{Has, IsLeaf, Names}
use Rattle.mesh_names.specs.Leaves.{leaves}
use Rattle.mesh_names.specs.Patches.{owns}
use Rattle.mesh_names.specs.declared.patch.PatchName.{PatchName}
use Rattle.mesh_names.specs.declared.patch.VertexKey.{VertexKey}
use Rattle.mesh_names.specs.declared.patch.VertexKey.TheVariants.{Macro, Patch}
use Rattle.mesh_names.specs.declared.rows.MarkRow.{MarkRow}
use Rattle.mesh_names.proofs.Lists.{lists_are_one}
use Rattle.mesh_names.proofs.Sets.{both_sides, is_or_not}
use Rattle.compat_check.specs.Meshes.{Mesh, across_in, shape_of}
use Rattle.name_tree.specs.declared.nodes.Entry.{Entry}
use Rattle.dof_transfer.specs.Exchanges.{element_change, floor_half}
use Rattle.dof_transfer.specs.Held.{Held, IsTidied, all_given_back, index_of, taken, value_of}
use Rattle.dof_transfer.specs.VertexNames.{HasAt, IsVertexIn}
use Rattle.dof_transfer.specs.VertexValues.{AreMade, IsVertexChange, IsVertexTidied, VertexHeld, index_at, owners, value_at, worth}
use Rattle.dof_transfer.proofs.NamedVertices.{Laws, key-one}
use Rattle.forest_plain.specs.Rounds.{Room}
use Rattle.mesh_writer.specs.MeshText.{IsMeshText, written_mesh}
use Rattle.macro_file.specs.Written.{macro_bytes}
use Rattle.macro_file.specs.declared.text.MacroVertex.{MacroVertex}
use Rattle.dof_transfer.specs.Macros.{first_entry}
use Rattle.mesh_rounds.specs.OneState.{FirstIsOne, NextIsOne, TextIsOne}
use Rattle.mesh_rounds.specs.SameRounds.{AreSameRows, IsSameDelta}
use Rattle.mesh_rounds.specs.Setting.{AreElementsSet, AreSet, AreVerticesSet, Holding, SetsLeaf, TakesLast, leaf_holding, vertex_holding}
use Rattle.mesh_rounds.specs.State.{IsFirst, IsMeshRound, IsState, State}
use Rattle.mesh_rounds.proofs.OneRound.{rounds_change_alike}
use Rattle.mesh_rounds.proofs.Rounding.{laws-of}

-- ---- the last of the rows that are meant
abbrev rest : List MarkRow → List MarkRow
rest [] = []
rest (row ∷ rows) = rows

module _ (meant : MarkRow → Type 0) where
  later : (row : MarkRow) (rows : List MarkRow) → All (λ r. meant r → ⊥) (row ∷ rows) → All (λ r. meant r → ⊥) rows
  later row rows none k d low = none (suc k) d (omega (arith, low))

  -- a row among those of which none is meant
  is-none : (before : List MarkRow) (row : MarkRow) (after : List MarkRow) → All (λ r. meant r → ⊥) (before ++ row ∷ after) → meant row → ⊥
  is-none [] row after none = none 0 row (omega arith)
  is-none (x ∷ before) row after none = is-none before row after (later x (before ++ row ∷ after) none)

  same-last : (before before' : List MarkRow) (row row' : MarkRow) (after after' : List MarkRow) → before ++ row ∷ after ≡ before' ++ row' ∷ after' → meant row → meant row' → All (λ r. meant r → ⊥) after → All (λ r. meant r → ⊥) after' → row.number ≡ row'.number
  same-last [] [] row row' after after' e this this' none none' = ap (λ (l : List MarkRow). (slice_index_or l 0 row).number) e
  same-last [] (x ∷ before') row row' after after' e this this' none none' =
      absurd (is-none before' row' after' (subst (All (λ r. meant r → ⊥)) (ap rest e) none) this')
  same-last (x ∷ before) [] row row' after after' e this this' none none' =
      absurd (is-none before row after (subst (All (λ r. meant r → ⊥)) (sym (ap rest e)) none') this)
  same-last (x ∷ before) (y ∷ before') row row' after after' e this this' none none' = same-last before before' row row' after after' (ap rest e) this this' none none'

  same-taken : (rows : List MarkRow) (old a b : Option ℤ) → TakesLast meant rows old a → TakesLast meant rows old b → a ≡ b
  same-taken rows old a b (inl x) (inl y) = x.1 ∙ sym y.1
  same-taken rows old a b (inl x) (inr y) = absurd (is-none y.before y.row y.after (subst (All (λ r. meant r → ⊥)) y.split x.0) y.this)
  same-taken rows old a b (inr x) (inl y) = absurd (is-none x.before x.row x.after (subst (All (λ r. meant r → ⊥)) x.split y.0) x.this)
  same-taken rows old a b (inr x) (inr y) = x.number ∙ (λ i. Some (same-last x.before y.before x.row y.row x.after y.after (sym x.split ∙ y.split) x.this y.this x.none y.none i)) ∙ sym y.number

-- what the rows set is one
same-set : {A H : Type 0} (holding : Holding A H) (there : A → Type 0) (sets : A → MarkRow → Type 0) (rows : List MarkRow) (old a b : H) → ((x : A) → IsSome (holding.value old x) → there x) →
    AreSet holding there sets rows old a → AreSet holding there sets rows old b → (x : A) → holding.value a x ≡ holding.value b x
same-set holding there sets rows old a b live ha hb x = by (holding.value old x) refl where
  by : (o : Option ℤ) → holding.value old x ≡ o → holding.value a x ≡ holding.value b x
  by None e = ha.none x e ∙ sym (hb.none x e)
  by (Some z) e =
      let inside = live x (subst IsSome (sym e) refl) in
      same-taken (sets x) rows (holding.value old x) (holding.value a x) (holding.value b x) (ha.values x inside) (hb.values x inside)

-- ---- what is held, by values, indices and flags
same-entry : (o p : Option Entry) → option_map (λ (e : Entry). e.value) o ≡ option_map (λ (e : Entry). e.value) p → option_map (λ (e : Entry). e.index) o ≡ option_map (λ (e : Entry). e.index) p → o ≡ p
same-entry None None v k = refl
same-entry None (Some b) v k = absurd (apart v)
  where
    apart : {A : Type 0} {a : A} → None ≡ Some a → ⊥
    apart q = cc
same-entry (Some a) None v k = absurd (apart (sym v))
  where
    apart : {A : Type 0} {a : A} → None ≡ Some a → ⊥
    apart q = cc
same-entry (Some a) (Some b) v k = λ i. Some (record { index = inner k i; value = inner v i })
  where
    inner : {A : Type 0} {a b : A} → Some a ≡ Some b → a ≡ b
    inner q = cc

same-held : (a b : Held) → ((n : Name) → value_of a n ≡ value_of b n) → ((n : Name) → index_of a n ≡ index_of b n) → a.flags ≡ b.flags → a ≡ b
same-held a b values indices flags =
    let live : a.live ≡ b.live = same_map name_cmp_total name_cmp-same a.live b.live (λ n. same-entry (get a.live n) (get b.live n) (values n) (indices n)) in
    λ i. record { live = live i; flags = flags i }

same-list : {A : Type 0} (xs ys : List A) → ((i : ℕ) → slice_get xs i ≡ slice_get ys i) → xs ≡ ys
same-list [] [] e = refl
same-list [] (y ∷ ys) e = absurd (apart (e 0))
  where
    apart : {A : Type 0} {a : A} → None ≡ Some a → ⊥
    apart q = cc
same-list (x ∷ xs) [] e = absurd (apart (sym (e 0)))
  where
    apart : {A : Type 0} {a : A} → None ≡ Some a → ⊥
    apart q = cc
same-list (x ∷ xs) (y ∷ ys) e = λ i. inner (e 0) i ∷ same-list xs ys (λ k. e (suc k)) i
  where
    inner : {A : Type 0} {a b : A} → Some a ≡ Some b → a ≡ b
    inner q = cc

same-vertices : (a b : VertexHeld) → ((k : VertexKey) → value_at a k ≡ value_at b k) → ((k : VertexKey) → index_at a k ≡ index_at b k) → a.patches.flags ≡ b.patches.flags → a ≡ b
same-vertices a b values indices flags =
    let macros : a.macros ≡ b.macros = same-list a.macros b.macros (λ i. values (Macro i)) in
    let patches : a.patches ≡ b.patches = same-held a.patches b.patches (λ n. values (Patch n)) (λ n. indices (Patch n)) flags in
    λ i. record { macros = macros i; patches = patches i }

-- renumbered or kept
fewer-or-not : (a b : ℕ) → (a < b) ⊎ (b ≤ a)
fewer-or-not zero zero = inr (omega arith)
fewer-or-not zero (suc b) = inl (omega arith)
fewer-or-not (suc a) zero = inr (omega arith)
fewer-or-not (suc a) (suc b) = ⊎_elim (λ h. inl (omega (arith, h))) (λ h. inr (omega (arith, h))) (fewer-or-not a b)

same-tidied : (old a b : Held) → IsTidied old a → IsTidied old b → a ≡ b
same-tidied old a b ha hb = ⊎_elim
    (λ (h : 2 * used_count old.flags < length old.flags).
    let x = ha.compressed h in
    let y = hb.compressed h in
    same-held a b (λ n. x.values n ∙ sym (y.values n)) (λ n. x.indices n ∙ sym (y.indices n)) (x.flags ∙ sym y.flags))
    (λ (h : length old.flags ≤ 2 * used_count old.flags). ha.kept h ∙ sym (hb.kept h))
    (fewer-or-not (2 * used_count old.flags) (length old.flags))

-- ---- midpoints that are made
module _ (mesh : Mesh) (laws : Laws mesh) where
  same-made : (ps : List PatchName) (old a b : VertexHeld) → AreMade mesh old ps a → AreMade mesh old ps b → a ≡ b
  same-made [] old a b x y = x ∙ sym y
  same-made (p ∷ ps) old a b x y =
      let first : x.1.first ≡ y.1.first = key-one mesh laws _ x.1.first y.1.first x.1.first_is y.1.first_is in
      let second : x.1.second ≡ y.1.second = key-one mesh laws _ x.1.second y.1.second x.1.second_is y.1.second_is in
      let next : x.0 ≡ y.0 = x.1.is ∙ (λ i. record { macros = old.macros; patches = taken old.patches p.first (floor_half (worth old (first i) +ℤ worth old (second i))) }) ∙ sym y.1.is in
      same-made ps x.0 a b x.2 (subst (λ (h : VertexHeld). AreMade mesh h ps b) (sym next) y.2)

  same-changed : (old a b : VertexHeld) (born born' died died' : List PatchName) → born ≡ born' → died ≡ died' → IsVertexChange mesh old born died a → IsVertexChange mesh old born' died' b → a ≡ b
  same-changed old a b born born' died died' e f x y =
      let made : x.made ≡ y.made = same-made born old x.made y.made x.are_made (subst (λ (ps : List PatchName). AreMade mesh old ps y.made) (sym e) y.are_made) in
      x.is ∙ (λ i. record { macros = (made i).macros; patches = all_given_back (made i).patches (owners (f i)) }) ∙ sym y.is

  same-value : (held : VertexHeld) (v : Vertex) (a b : ℤ) → HasAt mesh held v a → HasAt mesh held v b → a ≡ b
  same-value held v a b x y = inner (sym x.is ∙ ap (value_at held) (key-one mesh laws v x.key y.key x.names y.names) ∙ y.is)
    where
      inner : {A : Type 0} {a b : A} → Some a ≡ Some b → a ≡ b
      inner q = cc

same-renumbered : (old a b : VertexHeld) → IsVertexTidied old a → IsVertexTidied old b → a ≡ b
same-renumbered old a b x y =
    let macros : a.macros ≡ b.macros = x.macros ∙ sym y.macros in
    let patches : a.patches ≡ b.patches = same-tidied old.patches a.patches b.patches x.patches y.patches in
    λ i. record { macros = macros i; patches = patches i }

-- ---- a round
-- no more than the vertices and the leaves of the forest have values
pub record HasNoOthers (mesh : Mesh) (state : State) : Type 0 where
  pub vertices : (key : VertexKey) → (IsVertexIn mesh state.members key → ⊥) → value_at state.vertices key ≡ None
  pub elements : (n : Name) → (IsLeaf (shape_of mesh) state.members n → ⊥) → value_of state.elements n ≡ None

leaf-or-not : (mesh : Mesh) (members : Names) (n : Name) → IsLeaf (shape_of mesh) members n ⊎ (IsLeaf (shape_of mesh) members n → ⊥)
leaf-or-not mesh members n = ⊎_elim
    (λ (low : n.0 < size (shape_of mesh)). ⊎_elim
    (λ h. inr (λ (l : IsLeaf (shape_of mesh) members n). both_sides (contains members n) h l.unsplit))
    (λ unsplit. ⊎_elim (λ born. inl (record { rooted = low; unsplit = unsplit; born = born })) (λ off. inr (λ (l : IsLeaf (shape_of mesh) members n). off l.born)) (born-or-not n.1 refl))
    (is_or_not (contains members n)))
    (λ high. inr (λ (l : IsLeaf (shape_of mesh) members n). let low = l.rooted in omega (arith, high, low)))
    (fewer-or-not n.0 (size (shape_of mesh)))
  where
    born-or-not : (u : List Bool) → n.1 ≡ u → ((b : Bool) (w : List Bool) → n.1 ≡ b ∷ w → Has members (n.0, w)) ⊎ (((b : Bool) (w : List Bool) → n.1 ≡ b ∷ w → Has members (n.0, w)) → ⊥)
    born-or-not [] e = inl (λ b w f. absurd (apart (sym e ∙ f)))
      where
        apart : {b : Bool} {w : List Bool} → [] ≡ b ∷ w → ⊥
        apart q = cc
    born-or-not (c ∷ u) e = ⊎_elim
        (λ h. inl (λ b w f. subst (λ (v : List Bool). Has members (n.0, v)) (tail (sym e ∙ f)) h))
        (λ h. inr (λ all. both_sides (contains members (n.0, u)) (all c u e) h))
        (is_or_not (contains members (n.0, u)))
      where
        tail : {b c : Bool} {v w : List Bool} → c ∷ v ≡ b ∷ w → v ≡ w
        tail q = cc

module _ (mesh : Mesh) (laws : Laws mesh) (old : State) (is : HasNoOthers mesh old) where
  -- what has a value is a vertex of the forest, or a leaf
  stands : (key : VertexKey) → IsSome (value_at old.vertices key) → IsVertexIn mesh old.members key
  stands key live = ⊎_elim (λ h. h) (λ h. absurd (true≢false (sym (subst IsSome (is.vertices key h) live)))) (either key)
    where
      either : (k : VertexKey) → IsVertexIn mesh old.members k ⊎ (IsVertexIn mesh old.members k → ⊥)
      either (Macro i) = ⊎_elim (λ h. inl h) (λ h. inr (λ l. omega (arith, h, l))) (fewer-or-not i (length mesh.vertices))
      either (Patch n) = ⊎_elim
          (λ h. ⊎_elim (λ o. inl (h, o)) (λ o. inr (λ p. both_sides (owns (across_in mesh) n) p.1 o)) (is_or_not (owns (across_in mesh) n)))
          (λ h. inr (λ p. both_sides (contains old.members n) p.0 h))
          (is_or_not (contains old.members n))

  is-leaf : (n : Name) → IsSome (value_of old.elements n) → IsLeaf (shape_of mesh) old.members n
  is-leaf n live = ⊎_elim (λ h. h) (λ h. absurd (true≢false (sym (subst IsSome (is.elements n h) live)))) (leaf-or-not mesh old.members n)

  vertices-set : (rows : List MarkRow) (a b : VertexHeld) → AreVerticesSet mesh old.members rows old.vertices a → AreVerticesSet mesh old.members rows old.vertices b → a ≡ b
  vertices-set rows a b x y = same-vertices a b
      (same-set vertex_holding (IsVertexIn mesh old.members) _ rows old.vertices a b stands x y)
      (λ k. x.indices k ∙ sym (y.indices k)) (x.flags ∙ sym y.flags)

  elements-set : (rows : List MarkRow) (a b : Held) → AreElementsSet mesh old.members rows old.elements a → AreElementsSet mesh old.members rows old.elements b → a ≡ b
  elements-set rows a b x y = same-held a b
      (same-set leaf_holding (IsLeaf (shape_of mesh) old.members) SetsLeaf rows old.elements a b is-leaf x y)
      (λ n. x.indices n ∙ sym (y.indices n)) (x.flags ∙ sym y.flags)

  pub same-round : (room : Room) (rows : List MarkRow) (a b : State) → (one : IsMeshRound mesh room rows old a) (two : IsMeshRound mesh room rows old b) → (a ≡ b) × IsSameDelta one.delta two.delta
  same-round room rows a b one two =
      let alike = rounds_change_alike (shape_of mesh) (across_in mesh) laws.tells room room old.members rows rows a.members b.members one.delta two.delta (same-rows rows) one.forest two.forest in
      let set : one.vertices.set ≡ two.vertices.set = vertices-set rows one.vertices.set two.vertices.set one.vertices.rows_set two.vertices.rows_set in
      let changed : one.vertices.changed ≡ two.vertices.changed = same-changed mesh laws one.vertices.set one.vertices.changed two.vertices.changed one.delta.born.items two.delta.born.items one.delta.died.items two.delta.died.items alike.1.born alike.1.died
      one.vertices.change (subst (λ (h : VertexHeld). IsVertexChange mesh h two.delta.born.items two.delta.died.items two.vertices.changed) (sym set) two.vertices.change) in
      let vertices : a.vertices ≡ b.vertices = same-renumbered one.vertices.changed a.vertices b.vertices one.vertices.tidied (subst (λ (h : VertexHeld). IsVertexTidied h b.vertices) (sym changed) two.vertices.tidied) in
      let leaf_set : one.elements.set ≡ two.elements.set = elements-set rows one.elements.set two.elements.set one.elements.rows_set two.elements.rows_set in
      let leaf_changed : element_change (shape_of mesh) one.elements.set one.delta.born.items one.delta.died.items ≡ element_change (shape_of mesh) two.elements.set two.delta.born.items two.delta.died.items =
      (λ i. element_change (shape_of mesh) (leaf_set i) (alike.1.born i) (alike.1.died i)) in
      let elements : a.elements ≡ b.elements = same-tidied _ a.elements b.elements one.elements.tidied (subst (λ (h : Held). IsTidied h b.elements) (sym leaf_changed) two.elements.tidied) in
      ((λ i. record { members = alike.0 i; vertices = vertices i; elements = elements i }), alike.1)
    where
      same-rows : (rs : List MarkRow) → AreSameRows rs rs
      same-rows [] = tt
      same-rows (r ∷ rs) = (record { what = refl; place = refl; number = refl }, same-rows rs)

-- before any round, and after each, nothing else has values
pub next-no-others : (mesh : Mesh) (room : Room) (rows : List MarkRow) (old new : State) → IsMeshRound mesh room rows old new → HasNoOthers mesh new
next-no-others mesh room rows old new round = record { vertices = round.vertices.values.none; elements = round.elements.values.none }

pub state-no-others : (mesh : Mesh) (state : State) → IsState mesh state → HasNoOthers mesh state
state-no-others mesh state is = record {
  vertices = is.vertices.none;
  elements = λ n off. by n off (value_of state.elements n) refl;
} where
  by : (n : Name) → (IsLeaf (shape_of mesh) state.members n → ⊥) → (o : Option ℤ) → value_of state.elements n ≡ o → value_of state.elements n ≡ None
  by n off None e = e
  by n off (Some z) e = absurd (off ((is.elements.live n).1 (subst IsSome (sym e) refl)))

pub first-no-others : (mesh : Mesh) (state : State) → IsFirst mesh state → HasNoOthers mesh state
first-no-others mesh state first = record {
  vertices = λ key off. subst (λ (h : VertexHeld). value_at h key ≡ None) (sym held) (none key off);
  elements = λ n off. ap (option_map (λ (e : Entry). e.value)) (first.elements.live n) ∙ off-entry n off;
} where
  held : state.vertices ≡ record { macros = map (λ (v : MacroVertex). v.value) mesh.vertices; patches = record { live = empty; flags = replicate (length mesh.vertices) true } }
  held = λ i. record { macros = first.vertices.macros i; patches = first.vertices.patches i }

  beyond : {A B : Type 0} (f : A → B) (xs : List A) (i : ℕ) → length xs ≤ i → slice_get (map f xs) i ≡ None
  beyond f [] i h = refl
  beyond f (x ∷ xs) zero h = absurd (omega (arith, h))
  beyond f (x ∷ xs) (suc i) h = beyond f xs i (omega (arith, h))

  none : (key : VertexKey) → (IsVertexIn mesh state.members key → ⊥) → value_at (record { macros = map (λ (v : MacroVertex). v.value) mesh.vertices; patches = record { live = empty; flags = replicate (length mesh.vertices) true } }) key ≡ None
  none (Macro i) off = beyond (λ (v : MacroVertex). v.value) mesh.vertices i (⊎_elim (λ h. absurd (off h)) (λ h. h) (fewer-or-not i (length mesh.vertices)))
  none (Patch n) off = ap (option_map (λ (e : Entry). e.value)) (get-empty name_cmp n)

  not-below : (r s : ℕ) → s ≤ r → ltb r s ≡ false
  not-below r s h = grind arith

  off-entry : (n : Name) → (IsLeaf (shape_of mesh) state.members n → ⊥) → option_map (λ (e : Entry). e.value) (first_entry mesh (size (shape_of mesh)) n) ≡ None
  off-entry (r, b ∷ w) off = refl
  off-entry (r, []) off = ⊎_elim
      (λ (low : r < size (shape_of mesh)). absurd (off (record {
        rooted = low;
        unsplit = ap (λ (m : Names). contains m (r, [])) first.members ∙ contains-empty name_cmp (r, []);
        born = λ b w e. absurd (apart e);
      })))
      (λ (high : size (shape_of mesh) ≤ r). ap (λ (c : Bool). option_map (λ (e : Entry). e.value) (cond c (Some (record { index = r; value = slice_index_or mesh.values r (pos 0) })) None)) (not-below r (size (shape_of mesh)) high))
      (fewer-or-not r (size (shape_of mesh)))
    where
      apart : {b : Bool} {w : List Bool} → [] ≡ b ∷ w → ⊥
      apart q = cc

pub next_is_one : NextIsOne
next_is_one mesh checked room rows old a b is one two = same-round mesh (laws-of mesh checked) old (state-no-others mesh old is) room rows a b one two

pub first_is_one : FirstIsOne
first_is_one mesh a b x y =
    let members : a.members ≡ b.members = x.members ∙ sym y.members in
    let macros : a.vertices.macros ≡ b.vertices.macros = x.vertices.macros ∙ sym y.vertices.macros in
    let patches : a.vertices.patches ≡ b.vertices.patches = x.vertices.patches ∙ sym y.vertices.patches in
    let live : a.elements.live ≡ b.elements.live = same_map name_cmp_total name_cmp-same a.elements.live b.elements.live (λ n. x.elements.live n ∙ sym (y.elements.live n)) in
    let flags : a.elements.flags ≡ b.elements.flags = x.elements.used ∙ sym y.elements.used in
    λ i. record { members = members i; vertices = record { macros = macros i; patches = patches i }; elements = record { live = live i; flags = flags i } }

-- ---- a text
same-zip : {A B : Type 0} (R : A → B → Type 0) → ((x : A) (a b : B) → R x a → R x b → a ≡ b) → (xs : List A) (vs ws : List B) → AllZip R xs vs → AllZip R xs ws → vs ≡ ws
same-zip R one [] [] [] x y = refl
same-zip R one [] [] (b ∷ ws) x y = absurd y
same-zip R one [] (a ∷ vs) ws x y = absurd x
same-zip R one (z ∷ xs) [] ws x y = absurd x
same-zip R one (z ∷ xs) (a ∷ vs) [] x y = absurd y
same-zip R one (z ∷ xs) (a ∷ vs) (b ∷ ws) x y = λ i. one z a b x.0 y.0 i ∷ same-zip R one xs vs ws x.1 y.1 i

pub same-text : (mesh : Mesh) → Laws mesh → (list : List Name) (vertices : VertexHeld) (elements : Held) (a b : List ℕ) → IsMeshText mesh list vertices elements a → IsMeshText mesh list vertices elements b → a ≡ b
same-text mesh laws list vertices elements a b x y =
    let vs : x.vertex_values ≡ y.vertex_values = same-zip (HasAt mesh vertices) (same-value mesh laws vertices) _ x.vertex_values y.vertex_values x.of_vertices y.of_vertices in
    let es : x.element_values ≡ y.element_values = same-zip (λ n v. value_of elements n ≡ Some v) (λ n v w h k. inner (sym h ∙ k)) list x.element_values y.element_values x.of_leaves y.of_leaves in
    x.is ∙ (λ i. macro_bytes (written_mesh mesh list (vs i) (es i))) ∙ sym y.is
  where
    inner : {A : Type 0} {a b : A} → Some a ≡ Some b → a ≡ b
    inner q = cc

pub text_is_one : TextIsOne
text_is_one mesh checked state a b x y =
    let lists : x.0 ≡ y.0 = lists_are_one (leaves (shape_of mesh) state.members) x.0 y.0 x.1 y.1 in
    same-text mesh (laws-of mesh checked) x.0 state.vertices state.elements a b x.2 (subst (λ (l : List Name). IsMeshText mesh l state.vertices state.elements b) (sym lists) y.2)
