-- The leaves of a mesh in which nothing is bisected are its macro elements; those of one in which each of them is bisected once are their children.
use native.Mathlib.Decide.{dec_lt}
use Rattle.std.proofs.Common.{◌≡◌, ◌∙◌, ◌⊎◌, ◌+◌, ℕ, zero, suc, Bool, true, false, ◌≤◌, ◌<◌, arith, length, refl, sym, ap, subst, List, [], ◌∷◌, ◌++◌, reverse, inl, inr, ⊎_elim}
use Rattle.std.specs.Cmp.{nat_cmp_is}
use Rattle.std.specs.Cmp.Lexicographic.{slice_cmp}
use Rattle.std.specs.FinSet.{contains, from_list}
use Rattle.std.specs.List.{AllByRecursion}
use Rattle.std.specs.List.Sorted.{IsStrictlySortedBy}
use Rattle.std.specs.Ordering.{bool_cmp, ordering_then}
use Rattle.std.specs.declared.cmp.Ordering.{Ordering}
use Rattle.std.specs.declared.cmp.Ordering.TheVariants.{Less, Equal}
use Rattle.mesh_names.specs.Names.{Name, name_cmp}
use Rattle.mesh_names.specs.Triangles.{Shape, size, grade_of}
use Rattle.mesh_names.specs.Forests.{Names, Has, IsForest, IsLeaf}
use Rattle.mesh_names.specs.Leaves.{children, tops, leaves}
use Rattle.mesh_names.proofs.Leaving.{in-tops, tops-in, in-children, children-in, leaves_are}
use Rattle.mesh_names.proofs.Sets.{In, has-in, in-has, in-append, is_or_not, both_sides, within-both}
use Rattle.compat_check.specs.Meshes.{Mesh, shape_of}
use Rattle.locate_point.specs.Locating.{AreLeaves}

-- no name is bisected
no_names : Names
no_names = from_list []

nothing : (n : Name) → Has no_names n → ⊥
unfolding no_names
nothing n h = has-in n [] h

unsplit : (n : Name) → contains no_names n ≡ false
unsplit n = ⊎_elim (λ h. absurd (nothing n h)) (λ o. o) (is_or_not (contains no_names n))

no_forest : (mesh : Shape) → IsForest mesh no_names
no_forest mesh = record { rooted = λ n h. absurd (nothing n h); shallow = λ n h. absurd (nothing n h); closed = λ root b w h. absurd (nothing (root, b ∷ w) h) }

-- ---- the macro elements are in order
before : (k : ℕ) (m : Name) → In m (tops k) → name_cmp m (k, []) ≡ Less
before k m i = ap (λ (o : Ordering). ordering_then o (slice_cmp bool_cmp (reverse m.1) [])) (sym (nat_cmp_is m.0 k Less (tops-in k m i).0))

all_then : (P : Name → Type 0) (ks : List Name) (n : Name) → AllByRecursion P ks → P n → AllByRecursion P (ks ++ n ∷ [])
all_then P [] n h p = (p, tt)
all_then P (k ∷ ks) n h p = (h.0, all_then P ks n h.1 p)

sorted_then : (ks : List Name) (n : Name) → IsStrictlySortedBy name_cmp ks → ((m : Name) → In m ks → name_cmp m n ≡ Less) → IsStrictlySortedBy name_cmp (ks ++ n ∷ [])
unfolding IsStrictlySortedBy
sorted_then [] n s h = (tt, tt)
sorted_then (k ∷ ks) n s h = (all_then (λ m. name_cmp k m ≡ Less) ks n s.0 (h k (inl refl)), sorted_then ks n s.1 (λ m i. h m (inr i)))

sorted_tops : (k : ℕ) → IsStrictlySortedBy name_cmp (tops k)
unfolding IsStrictlySortedBy
sorted_tops zero = tt
sorted_tops (suc k) = sorted_then (tops k) (k, []) (sorted_tops k) (before k)

-- ---- they are the leaves
top_leaf : (mesh : Shape) (n : Name) → In n (tops (size mesh)) → IsLeaf mesh no_names n
top_leaf mesh n i =
    let top = tops-in (size mesh) n i in
    record { rooted = top.0; unsplit = unsplit n; born = λ b w e. absurd (apart b w (sym top.1 ∙ e)) }
  where
    apart : (b : Bool) (w : List Bool) → [] ≡ b ∷ w → ⊥
    apart b w e = cc

leaf_top : (mesh : Shape) (n : Name) → IsLeaf mesh no_names n → In n (tops (size mesh))
leaf_top mesh n leaf = by n.1 refl
  where
    by : (v : List Bool) → n.1 ≡ v → In n (tops (size mesh))
    by [] e = subst (λ (v : List Bool). In (n.0, v) (tops (size mesh))) (sym e) (in-tops (size mesh) n.0 leaf.rooted)
    by (b ∷ w) e = absurd (nothing (n.0, w) (leaf.born b w e))

all_tops : (mesh : Shape) → from_list (tops (size mesh)) ≡ leaves mesh no_names
all_tops mesh = within-both (from_list (tops (size mesh))) (leaves mesh no_names)
    (λ n h. (leaves_are mesh no_names (no_forest mesh) n).1 (top_leaf mesh n (has-in n (tops (size mesh)) h)))
    (λ n h. in-has n (tops (size mesh)) (leaf_top mesh n ((leaves_are mesh no_names (no_forest mesh) n).0 h)))

pub tops_are_leaves : (mesh : Mesh) → AreLeaves mesh (tops (size (shape_of mesh)))
tops_are_leaves mesh = (no_names, record { forest = no_forest (shape_of mesh); listed = record { in_order = sorted_tops (size (shape_of mesh)); all = all_tops (shape_of mesh) } })

-- ---- each macro element is bisected once
once : Shape → Names
once mesh = from_list (tops (size mesh))

module _ (mesh : Shape) (low : (r : ℕ) → r < size mesh → grade_of mesh r ≤ 23) where
  top_in : (n : Name) → Has (once mesh) n → (n.0 < size mesh) × (n.1 ≡ [])
  unfolding once
  top_in n h = tops-in (size mesh) n (has-in n (tops (size mesh)) h)

  in_top : (r : ℕ) → r < size mesh → Has (once mesh) (r, [])
  unfolding once
  in_top r h = in-has (r, []) (tops (size mesh)) (in-tops (size mesh) r h)

  apart : (b : Bool) (w : List Bool) → b ∷ w ≡ [] → ⊥
  apart b w e = cc

  once_forest : IsForest mesh (once mesh)
  once_forest = record {
    rooted = λ n h. (top_in n h).0;
    shallow = λ n h. let t = top_in n h in let g = low n.0 t.0 in let short = ap length t.1 in omega (arith, g, short);
    closed = λ root b w h. absurd (apart b w (top_in (root, b ∷ w) h).1);
  }

  child_leaf : (n : Name) → In n (children (tops (size mesh))) → IsLeaf mesh (once mesh) n
  child_leaf n i =
      let c = children-in (tops (size mesh)) n i in
      let top = tops-in (size mesh) (n.0, c.word) c.parent in
      let letters : n.1 ≡ c.side ∷ c.word = ap (λ (m : Name). m.1) c.is in
      record {
        rooted = top.0;
        unsplit = ⊎_elim (λ h. absurd (apart c.side c.word (sym letters ∙ (top_in n h).1))) (λ o. o) (is_or_not (contains (once mesh) n));
        born = λ b w e. subst (λ (v : List Bool). Has (once mesh) (n.0, v)) (sym top.1 ∙ tails c.side b c.word w (sym letters ∙ e)) (in_top n.0 top.0);
      }
    where
      tails : (a b : Bool) (v w : List Bool) → a ∷ v ≡ b ∷ w → v ≡ w
      tails a b v w e = cc

  leaf_child : (n : Name) → IsLeaf mesh (once mesh) n → In n (children (tops (size mesh)))
  leaf_child n leaf = by n.1 refl
    where
      by : (v : List Bool) → n.1 ≡ v → In n (children (tops (size mesh)))
      by [] e = absurd (both_sides (contains (once mesh) n) (subst (λ (v : List Bool). Has (once mesh) (n.0, v)) (sym e) (in_top n.0 leaf.rooted)) leaf.unsplit)
      by (b ∷ w) e =
          let top = (top_in (n.0, w) (leaf.born b w e)).1 in
          subst (λ (v : List Bool). In (n.0, v) (children (tops (size mesh)))) (sym e)
          (in-children n.0 b w (tops (size mesh)) (subst (λ (v : List Bool). In (n.0, v) (tops (size mesh))) (sym top) (in-tops (size mesh) n.0 leaf.rooted)))

  all_children : from_list (children (tops (size mesh))) ≡ leaves mesh (once mesh)
  all_children = within-both (from_list (children (tops (size mesh)))) (leaves mesh (once mesh))
      (λ n h. (leaves_are mesh (once mesh) once_forest n).1 (child_leaf n (has-in n (children (tops (size mesh))) h)))
      (λ n h. in-has n (children (tops (size mesh))) (leaf_child n ((leaves_are mesh (once mesh) once_forest n).0 h)))

-- ---- the children are in order
before_child : (k : ℕ) (b : Bool) (m : Name) → In m (children (tops k)) → name_cmp m (k, b ∷ []) ≡ Less
before_child k b m i =
    let c = children-in (tops k) m i in
    ap (λ (o : Ordering). ordering_then o (slice_cmp bool_cmp (reverse m.1) (reverse (b ∷ [])))) (sym (nat_cmp_is m.0 k Less (tops-in k (m.0, c.word) c.parent).0))

two_children : (k : ℕ) → name_cmp (k, false ∷ []) (k, true ∷ []) ≡ Less
two_children k = ap (λ (o : Ordering). ordering_then o (slice_cmp bool_cmp (reverse (false ∷ [])) (reverse (true ∷ [])))) (sym (nat_cmp_is k k Equal refl))

pub children_then : (ks : List Name) (n : Name) → children (ks ++ n ∷ []) ≡ (children ks ++ (n.0, false ∷ n.1) ∷ []) ++ (n.0, true ∷ n.1) ∷ []
children_then [] n = refl
children_then (k ∷ ks) n = ap (λ (ns : List Name). (k.0, false ∷ k.1) ∷ (k.0, true ∷ k.1) ∷ ns) (children_then ks n)

sorted_children : (k : ℕ) → IsStrictlySortedBy name_cmp (children (tops k))
unfolding IsStrictlySortedBy
sorted_children zero = tt
sorted_children (suc k) = subst (IsStrictlySortedBy name_cmp) (sym (children_then (tops k) (k, [])))
    (sorted_then (children (tops k) ++ (k, false ∷ []) ∷ []) (k, true ∷ []) (sorted_then (children (tops k)) (k, false ∷ []) (sorted_children k) (before_child k false))
    (λ m i. ⊎_elim
    (λ (h : In m (children (tops k))). before_child k true m h)
    (λ (h : (m ≡ (k, false ∷ [])) ⊎ ⊥). ⊎_elim (λ (e : m ≡ (k, false ∷ [])). subst (λ (q : Name). name_cmp q (k, true ∷ []) ≡ Less) (sym e) (two_children k)) (λ (f : ⊥). absurd f) h)
    (in-append m (children (tops k)) ((k, false ∷ []) ∷ []) i)))

pub halves_are_leaves : (mesh : Mesh) → ((r : ℕ) → r < size (shape_of mesh) → grade_of (shape_of mesh) r ≤ 23) → AreLeaves mesh (children (tops (size (shape_of mesh))))
halves_are_leaves mesh low = (once (shape_of mesh), record { forest = once_forest (shape_of mesh) low; listed = record { in_order = sorted_children (size (shape_of mesh)); all = all_children (shape_of mesh) low } })

-- ---- the list of the children grows by two, and each grade that was met is low
pub halves_more : (k : ℕ) (ks ls ms : List Name) (a b : Name) → ks ≡ children (tops k) → a ≡ (k, false ∷ []) → b ≡ (k, true ∷ []) → ls ≡ ks ++ a ∷ [] → ms ≡ ls ++ b ∷ [] → ms ≡ children (tops (k + 1))
halves_more k ks ls ms a b e ea eb el em =
    let inner : ls ≡ children (tops k) ++ (k, false ∷ []) ∷ [] = el ∙ (λ i. e i ++ ea i ∷ []) in
    em ∙ (λ i. inner i ++ eb i ∷ []) ∙ sym (children_then (tops k) (k, [])) ∙ ap (λ (j : ℕ). children (tops j)) next
  where
    next : suc k ≡ k + 1
    next = omega arith

pub low_more : (mesh : Shape) (k : ℕ) → ((r : ℕ) → r < k → grade_of mesh r ≤ 23) → grade_of mesh k ≤ 23 → (r : ℕ) → r < k + 1 → grade_of mesh r ≤ 23
low_more mesh k low here r h = by (dec_lt r k)
  where
    by : Dec (r < k) → grade_of mesh r ≤ 23
    by (yes p) = low r p
    by (no p) = subst (λ (q : ℕ). grade_of mesh q ≤ 23) same here
      where
        same : k ≡ r
        same = omega (arith, h, p)
