-- From rows that can be done to the least forest.
use Rattle.std.proofs.Common.{◌≡◌, ℕ, zero, suc, ◌+◌, ◌<◌, ◌≤◌, ℤ, pos, Bool, true, false, cond, refl, sym, ap, ◌∙◌, subst, List, [], ◌∷◌, ◌++◌, map, length, slice_index_or, inl, inr, ⊎_elim, arith}
use Rattle.std.specs.Prelude.{All, Option, Some, None, unwrap_or}
use Rattle.std.specs.FinSet.{contains, empty, from_list, union, contains-empty}
use Rattle.std.specs.List.Sorted.{IsStrictlySortedBy}
use Rattle.mesh_names.specs.Names.{Name, name_cmp}
use Rattle.mesh_names.specs.Triangles.{Shape, size, level, grade_of}
use Rattle.mesh_names.specs.Partners.{Across, Tells}
use Rattle.mesh_names.specs.Forests.{Names, Has, IsForest, IsListOf, IsLeaf, IsInMesh}
use Rattle.mesh_names.specs.Leaves.{leaves}
use Rattle.mesh_names.specs.LeastForest.{Work, Reaches, CanHold, IsLeast, names_below, needs_of, least_forest}
use Rattle.mesh_names.specs.Marks.{is_mark, names_leaf, marks_leaf, later, last_mark, effective_mark, bisections, work_of}
use Rattle.mesh_names.specs.Patches.{owns, patch_count}
use Rattle.mesh_names.specs.declared.rows.MarkRow.{MarkRow}
use Rattle.mesh_names.proofs.Booleans.{and_both}
use Rattle.mesh_names.proofs.Sets.{In, item-in, both_sides, has-in, in-has, in-append, in-first, in-second, union-either, union-left, union-right, within-both}
use Rattle.mesh_names.proofs.Leaving.{leaves_are}
use Rattle.mesh_names.proofs.Needs.{needs_can_be_held}
use Rattle.mesh_names.proofs.Closing.{least_by_levels}
use Rattle.mesh_names.proofs.Conforming.{conforms_by_partners}
use Rattle.forest_plain.specs.Needed.{AreMarked, names_of, work_by}
use Rattle.forest_plain.specs.Rounds.{IsDeepestLeaf, IsFine, IsGreatestIn, IsRefined, Stands}
use Rattle.forest_plain.proofs.Counting.{len-retain}
use Rattle.forest_plain.proofs.MarkedLeaves.{marked_needs}

-- ---- the needed names as a set
pub names-needs : (work : Work) → from_list (names_of work) ≡ needs_of work
names-needs [] = refl
names-needs (a ∷ work) =
    let below = names_below a.1 a.0.0 a.0.1 in
    within-both (from_list (below ++ names_of work)) (union (from_list below) (needs_of work))
    (λ q h. ⊎_elim
    (λ i. union-left (from_list below) (needs_of work) q (in-has q below i))
    (λ i. union-right (from_list below) (needs_of work) q (subst (λ (s : Names). Has s q) (names-needs work) (in-has q (names_of work) i)))
    (in-append q below (names_of work) (has-in q (below ++ names_of work) h)))
    (λ q h. in-has q (below ++ names_of work) (⊎_elim
    (λ i. in-first q below (names_of work) (has-in q below i))
    (λ i. in-second q below (names_of work) (has-in q (names_of work) (subst (λ (s : Names). Has s q) (sym (names-needs work)) i)))
    (union-either (from_list below) (needs_of work) q h)))

-- ---- there is a leaf
record Below (mesh : Shape) (members : Names) : Type 0 where
  leaf : Name
  is_leaf : IsLeaf mesh members leaf

leaf_below : (mesh : Shape) (members : Names) → IsForest mesh members → (k r : ℕ) (w : List Bool) → r < size mesh → 24 ≤ level mesh (r, w) + k → ((b : Bool) (v : List Bool) → w ≡ b ∷ v → Has members (r, v)) → Below mesh members
leaf_below mesh members forest zero r w h deep born = record {
  leaf = (r, w);
  is_leaf = record { rooted = h; unsplit = by (contains members (r, w)) refl; born = born };
}
  where
    by : (b : Bool) → contains members (r, w) ≡ b → contains members (r, w) ≡ false
    by true e = let low = forest.shallow (r, w) e in absurd (omega (arith, low, deep))
    by false e = e
leaf_below mesh members forest (suc k) r w h deep born = by (contains members (r, w)) refl (λ e. leaf_below mesh members forest k r (true ∷ w) h (omega (arith, deep)) (λ b v s. subst (λ (u : List Bool). Has members (r, u)) (tails s) e))
  where
    tails : {a b : Bool} {u v : List Bool} → a ∷ u ≡ b ∷ v → u ≡ v
    tails s = cc

    by : (b : Bool) → contains members (r, w) ≡ b → (Has members (r, w) → Below mesh members) → Below mesh members
    by true e deeper = deeper e
    by false e deeper = record { leaf = (r, w); is_leaf = record { rooted = h; unsplit = e; born = born } }

some_in : (n : Name) (list : List Name) → In n list → 0 < length list
some_in n [] h = absurd h
some_in n (k ∷ list) h = omega arith

module _ (mesh : Shape) (members : Names) (list : List Name) (forest : IsForest mesh members) (is : IsListOf (leaves mesh members) list) where
  listed : (n : Name) → IsLeaf mesh members n → In n list
  listed n l = has-in n list (subst (λ (s : Names). Has s n) (sym is.all) ((leaves_are mesh members forest n).1 l))

  leaf_in : (n : Name) → In n list → IsLeaf mesh members n
  leaf_in n i = (leaves_are mesh members forest n).0 (subst (λ (s : Names). Has s n) is.all (in-has n list i))

  pub leaf_at : (i : ℕ) (d : Name) → i < length list → IsLeaf mesh members (slice_index_or list i d)
  leaf_at i d h = leaf_in (slice_index_or list i d) (item-in list i d h)

  pub some_leaf : 0 < size mesh → 0 < length list
  some_leaf h = let b = leaf_below mesh members forest 24 0 [] h (omega arith) (λ b v e. absurd (none e)) in some_in b.leaf list (listed b.leaf b.is_leaf)
    where
      none : {b : Bool} {v : List Bool} → [] ≡ b ∷ v → ⊥
      none e = cc

  pub leaves_rooted : All (λ n. n.0 < size mesh) list
  leaves_rooted i d h = (leaf_at i d h).rooted

  pub deepest_leaf : (greatest : ℕ) → IsGreatestIn mesh list greatest → IsDeepestLeaf mesh members greatest
  deepest_leaf greatest g = record {
    leaf = slice_index_or list g.place (0, []);
    is_leaf = leaf_at g.place (0, []) g.within;
    reached = g.reached;
    greatest = λ n l. by list (λ i d h. g.all i d h) n (listed n l);
  }
    where
      by : (ns : List Name) → All (λ m. level mesh m ≤ greatest) ns → (n : Name) → In n ns → level mesh n ≤ greatest
      by [] a n i = absurd i
      by (k ∷ ns) a n i = ⊎_elim
          (λ (e : n ≡ k). let here = a 0 k (omega arith) in let same = ap (λ (y : Name). level mesh y) e in omega (arith, here, same))
          (λ (j : In n ns). by ns (λ x d h. a (suc x) d (omega (arith, h))) n j)
          i

-- ---- a leaf's mark leads to no level above 24
module _ (mesh : Shape) (old : Names) (n : Name) (leaf : IsLeaf mesh old n) where
  marked : (rows : List MarkRow) → All (IsFine mesh old) rows → (z : ℤ) → last_mark rows n ≡ Some z → 0 < bisections z → level mesh n + bisections z ≤ 24
  marked [] fine z e h = absurd (none e)
    where
      none : {y : ℤ} → None ≡ Some y → ⊥
      none q = cc
  marked (row ∷ rows) fine z e h = by (last_mark rows n) refl (λ q. marked rows (λ k d l. fine (suc k) d (omega (arith, l))) z q h) e
    where
      some_same : {x y : ℤ} → Some x ≡ Some y → x ≡ y
      some_same q = cc

      none : {y : ℤ} → None ≡ Some y → ⊥
      none q = cc

      here : (b : Bool) → marks_leaf row n ≡ b → cond b (Some row.number) None ≡ Some z → level mesh n + bisections z ≤ 24
      here true m q =
          let both = and_both (is_mark row.what) (names_leaf row.place n) m in
          let same : row.number ≡ z = some_same q in
          let f = fine 0 row (omega arith) in
          subst (λ (y : ℤ). level mesh n + bisections y ≤ 24) same (f.within both.0 (subst (λ (y : ℤ). 0 < bisections y) (sym same) h) n leaf both.1)
      here false m q = absurd (none q)

      by : (o : Option ℤ) → last_mark rows n ≡ o → (last_mark rows n ≡ Some z → level mesh n + bisections z ≤ 24) → later (cond (marks_leaf row n) (Some row.number) None) (last_mark rows n) ≡ Some z → level mesh n + bisections z ≤ 24
      by None p rest q = here (marks_leaf row n) refl (sym (ap (later (cond (marks_leaf row n) (Some row.number) None)) p) ∙ q)
      by (Some y) p rest q = rest (p ∙ sym (ap (later (cond (marks_leaf row n) (Some row.number) None)) p) ∙ q)

  pub mark_fits : (rows : List MarkRow) → All (IsFine mesh old) rows → 0 < bisections (effective_mark rows n) → level mesh n + bisections (effective_mark rows n) ≤ 24
  mark_fits rows fine h = by (last_mark rows n) refl
    where
      by : (o : Option ℤ) → last_mark rows n ≡ o → level mesh n + bisections (effective_mark rows n) ≤ 24
      by None e =
          let zero_mark : bisections (effective_mark rows n) ≡ 0 = ap (λ (o : Option ℤ). bisections (unwrap_or o (pos 0))) e in
          absurd (omega (arith, h, zero_mark))
      by (Some z) e =
          let same : bisections (effective_mark rows n) ≡ bisections z = ap (λ (o : Option ℤ). bisections (unwrap_or o (pos 0))) e in
          let fits = marked rows fine z e (omega (arith, h, same)) in
          omega (arith, fits, same)

-- ---- the level of a leaf
pub leaf_level : (mesh : Shape) (old : Names) → IsForest mesh old → ((r : ℕ) → r < size mesh → grade_of mesh r ≤ 24) → (n : Name) → IsLeaf mesh old n → level mesh n ≤ 24
leaf_level mesh old forest low n l = by n.1 refl
  where
    by : (w : List Bool) → n.1 ≡ w → level mesh n ≤ 24
    by [] e = let g = low n.0 l.rooted in let s = ap (λ (v : List Bool). length v) e in omega (arith, g, s)
    by (b ∷ w) e = let h = forest.shallow (n.0, w) (l.born b w e) in let s = ap (λ (v : List Bool). length v) e in omega (arith, h, s)

-- ---- the work of the rows
module _ (mesh : Shape) (old : Names) (rows : List MarkRow) (forest : IsForest mesh old) (low : (r : ℕ) → r < size mesh → grade_of mesh r ≤ 24) (fine : All (IsFine mesh old) rows) where
  reached : (n : Name) → IsLeaf mesh old n → level mesh n + bisections (effective_mark rows n) ≤ 24
  reached n l = by (bisections (effective_mark rows n)) refl
    where
      by : (k : ℕ) → bisections (effective_mark rows n) ≡ k → level mesh n + bisections (effective_mark rows n) ≤ 24
      by zero e = let h = leaf_level mesh old forest low n l in omega (arith, e, h)
      by (suc k) e = mark_fits mesh old n l rows fine (omega (arith, e))

  reaches : (list : List Name) → ((n : Name) → In n list → IsLeaf mesh old n) → Reaches mesh (work_of rows list)
  reaches [] h = tt
  reaches (n ∷ list) h = ((h n (inl refl)).rooted, reached n (h n (inl refl)), reaches list (λ m i. h m (inr i)))

  module _ (x : Across) (tells : Tells mesh x) (list : List Name) (is : AreMarked mesh old rows list) where
    -- what the marks of the leaves ask for
    pub needs_fit : (mark : Name → ℤ) → ((n : Name) → mark n ≡ effective_mark rows n) → All (λ n. 0 < bisections (mark n) → length n.1 + bisections (mark n) ≤ 24) list
    needs_fit mark same i d h some =
        let n = slice_index_or list i d in
        let s = ap bisections (same n) in
        let fits = mark_fits mesh old n (is.leaves n (in-has n list (item-in list i d h))) rows fine (omega (arith, some, s)) in
        omega (arith, fits, s)

    work_same : (mark : Name → ℤ) → ((n : Name) → mark n ≡ effective_mark rows n) → work_by mark list ≡ work_of rows list
    work_same mark same = λ i. map (λ (t : Name). (t, bisections (same t i))) list

    needed_is : (mark : Name → ℤ) (needed : List Name) → ((n : Name) → mark n ≡ effective_mark rows n) → needed ≡ names_of (work_by mark list) → from_list needed ≡ needs_of (work_of rows list)
    needed_is mark needed same e = ap (λ (l : List Name). from_list l) (e ∙ ap names_of (work_same mark same)) ∙ names-needs (work_of rows list)

    work_can : CanHold mesh (needs_of (work_of rows list))
    work_can = needs_can_be_held mesh (work_of rows list) (reaches list (λ n i. is.leaves n (in-has n list i)))

    pub needed_can : (mark : Name → ℤ) (needed : List Name) → ((n : Name) → mark n ≡ effective_mark rows n) → needed ≡ names_of (work_by mark list) → CanHold mesh (from_list needed)
    needed_can mark needed same e = subst (λ (s : Names). CanHold mesh s) (sym (needed_is mark needed same e)) work_can

    pub refined_least : (mark : Name → ℤ) (needed : List Name) (start new : Names) → ((n : Name) → mark n ≡ effective_mark rows n) → needed ≡ names_of (work_by mark list) → start ≡ old → new ≡ least_forest mesh x start (from_list needed) → IsRefined mesh old rows new
    refined_least mark needed start new same e s closed = record {
      needs = needs_of (work_of rows list);
      are_needs = marked_needs mesh old rows list is;
      least = subst (λ (y : Names). IsLeast mesh old (needs_of (work_of rows list)) y)
          (sym (closed ∙ (λ i. least_forest mesh x (s i) (needed_is mark needed same e i))))
          (least_by_levels mesh x tells old (needs_of (work_of rows list)) (record { rooted = forest.rooted; shallow = forest.shallow }) work_can);
    }

-- ---- forests that stand
pub empty_stands : (mesh : Shape) (x : Across) (pool : ℕ) (s : Names) → s ≡ empty → 1 ≤ pool → pool ≤ 1048576 → Stands mesh x pool s
unfolding IsStrictlySortedBy
empty_stands mesh x pool s e some most = subst (λ (y : Names). Stands mesh x pool y) (sym e) (record {
  forest = record {
    rooted = λ n h. absurd (nothing n h);
    shallow = λ n h. absurd (nothing n h);
    closed = λ r b w h. absurd (nothing (r, b ∷ w) h);
  };
  partners = λ r w m t h p. absurd (nothing (r, w) h);
  room = let none = len-retain (owns x) [] tt in omega (arith, none);
  some = some;
  most = most;
})
  where
    nothing : (n : Name) → Has empty n → ⊥
    nothing n h = both_sides (contains (empty {R = name_cmp}) n) h (contains-empty name_cmp n)

pub refined_stands : (mesh : Shape) (x : Across) → Tells mesh x → (pool : ℕ) (old new : Names) (rows : List MarkRow) → Stands mesh x pool old → IsRefined mesh old rows new → patch_count x new ≤ pool → Stands mesh x pool new
refined_stands mesh x tells pool old new rows stands refined room = record {
  forest = refined.least.forest;
  partners = (conforms_by_partners mesh x tells new refined.least.forest).0 refined.least.conforms;
  room = room;
  some = stands.some;
  most = stands.most;
}

-- a member of a forest is a name of the mesh
pub member_in : (mesh : Shape) (members : Names) → IsForest mesh members → (n : Name) → Has members n → IsInMesh mesh n
member_in mesh members forest n held = let low = forest.shallow n held in record { rooted = forest.rooted n held; low = omega (arith, low) }

-- the members of a forest are names of the mesh
pub members_in : (mesh : Shape) (members : Names) (list : List Name) → IsForest mesh members → IsListOf members list → All (IsInMesh mesh) list
members_in mesh members list forest is i d h =
    let n = slice_index_or list i d in
    let held = subst (λ (s : Names). Has s n) is.all (in-has n list (item-in list i d h)) in
    let low = forest.shallow n held in
    record { rooted = forest.rooted n held; low = omega (arith, low) }

-- the leaves of a forest are names of the mesh
pub leaves_in : (mesh : Shape) (members : Names) (list : List Name) → IsForest mesh members → ((r : ℕ) → r < size mesh → grade_of mesh r ≤ 24) → IsListOf (leaves mesh members) list → All (IsInMesh mesh) list
leaves_in mesh members list forest low is i d h =
    let l = leaf_at mesh members list forest is i d h in
    record { rooted = l.rooted; low = leaf_level mesh members forest low (slice_index_or list i d) l }
