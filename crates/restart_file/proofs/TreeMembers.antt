-- The bisected names of trees, in order, and the trees of a forest.
use Rattle.std.proofs.Common.{◌≡◌, ◌⊎◌, ℕ, zero, suc, ◌+◌, ◌<◌, ◌≤◌, Bool, true, false, cond, refl, sym, ap, ◌∙◌, subst, List, [], ◌∷◌, ◌++◌, length, reverse, arith, inl, inr, ⊎_elim}
use Rattle.std.proofs.lemmas.List.{length-reverse}
use Rattle.std.specs.FinSet.{contains}
use Rattle.std.specs.List.Sorted.{IsStrictlySortedBy}
use Rattle.std.specs.declared.cmp.Ordering.TheVariants.{Less}
use Rattle.mesh_names.specs.Names.{Name, name_cmp}
use Rattle.mesh_names.specs.Triangles.{Shape, size, level}
use Rattle.mesh_names.specs.Forests.{Names, Has, IsForest}
use Rattle.mesh_names.proofs.Sets.{In, in-append, in-first, in-second, has-in, in-has, is_or_not, within-both}
use Rattle.mesh_names.proofs.Lists.{lists_are_one}
use Rattle.restart_file.specs.Kept.{IsKept, set_of}
use Rattle.restart_file.specs.Trees.{Tree, Leaf, Bisected, bisected, members_from}
use Rattle.restart_file.proofs.Merging.{behind, tail_sorted, cons_sorted, empty_sorted}
use Rattle.restart_file.proofs.Orders.{down, root-down, from_top, below_after, sides_in_order, roots_in_order}

-- q is n or below it
abbrev pub IsBelow : Name → Name → Type 0
IsBelow n q = (p : List Bool) × (q ≡ down p n)

-- the bisected names of a tree are at and below its name
pub bisected_below : (t : Tree) (n q : Name) → In q (bisected n t) → IsBelow n q
bisected_below Leaf n q i = absurd i
bisected_below (Bisected a b) n q i = ⊎_elim
    (λ (e : q ≡ n). ([], e))
    (λ (j : In q (bisected (n.0, false ∷ n.1) a ++ bisected (n.0, true ∷ n.1) b)). ⊎_elim
    (λ (k : In q (bisected (n.0, false ∷ n.1) a)). let r = bisected_below a (n.0, false ∷ n.1) q k in (false ∷ r.0, r.1))
    (λ (k : In q (bisected (n.0, true ∷ n.1) b)). let r = bisected_below b (n.0, true ∷ n.1) q k in (true ∷ r.0, r.1))
    (in-append q (bisected (n.0, false ∷ n.1) a) (bisected (n.0, true ∷ n.1) b) j))
    i

abbrev Sorted : List Name → Type 0
Sorted ks = IsStrictlySortedBy name_cmp ks

append_sorted : (xs ys : List Name) → Sorted xs → Sorted ys → ((p q : Name) → In p xs → In q ys → name_cmp p q ≡ Less) → Sorted (xs ++ ys)
append_sorted [] ys s t f = t
append_sorted (x ∷ xs) ys s t f = cons_sorted x (xs ++ ys) (λ q i. ⊎_elim (λ (a : In q xs). behind x xs s q a) (λ (b : In q ys). f x q (inl refl) b) (in-append q xs ys i)) (append_sorted xs ys (tail_sorted x xs s) t (λ p q i j. f p q (inr i) j))

below_is_after : (n q : Name) (c : Bool) → IsBelow (n.0, c ∷ n.1) q → name_cmp n q ≡ Less
below_is_after n q c b = subst (λ (y : Name). name_cmp n y ≡ Less) (sym b.1) (below_after c b.0 n)

pub bisected_sorted : (t : Tree) (n : Name) → Sorted (bisected n t)
bisected_sorted Leaf n = empty_sorted
bisected_sorted (Bisected a b) n =
    let l : Name = (n.0, false ∷ n.1) in let r : Name = (n.0, true ∷ n.1) in
    cons_sorted n (bisected l a ++ bisected r b)
    (λ q i. ⊎_elim (λ (k : In q (bisected l a)). below_is_after n q false (bisected_below a l q k)) (λ (k : In q (bisected r b)). below_is_after n q true (bisected_below b r q k)) (in-append q (bisected l a) (bisected r b) i))
    (append_sorted (bisected l a) (bisected r b) (bisected_sorted a l) (bisected_sorted b r)
    (λ p q i j. let x = bisected_below a l p i in let y = bisected_below b r q j in (λ k. name_cmp (x.1 k) (y.1 k)) ∙ sides_in_order x.0 y.0 n))

bisected_root : (t : Tree) (n q : Name) → In q (bisected n t) → q.0 ≡ n.0
bisected_root t n q i = let r = bisected_below t n q i in (λ k. (r.1 k).0) ∙ root-down r.0 n

pub members_root : (ts : List Tree) (r : ℕ) (q : Name) → In q (members_from r ts) → (r ≤ q.0) × (q.0 < r + length ts)
members_root [] r q i = absurd i
members_root (t ∷ ts) r q i = ⊎_elim
    (λ (a : In q (bisected (r, []) t)). let e : q.0 ≡ r = bisected_root t (r, []) q a in (omega arith, omega arith))
    (λ (b : In q (members_from (suc r) ts)). let h = members_root ts (suc r) q b in (omega arith, omega arith))
    (in-append q (bisected (r, []) t) (members_from (suc r) ts) i)

pub members_sorted : (ts : List Tree) (r : ℕ) → Sorted (members_from r ts)
members_sorted [] r = empty_sorted
members_sorted (t ∷ ts) r = append_sorted (bisected (r, []) t) (members_from (suc r) ts) (bisected_sorted t (r, [])) (members_sorted ts (suc r))
    (λ p q i j. let e : p.0 ≡ r = bisected_root t (r, []) p i in let h = members_root ts (suc r) q j in roots_in_order p q (omega arith))

-- ---- the bisected names of trees hold the parent of each
abbrev IsClosed : List Name → Type 0
IsClosed names = (r : ℕ) (b : Bool) (w : List Bool) → In (r, b ∷ w) names → In (r, w) names

child_of : Name → Bool → Name
child_of n c = (n.0, c ∷ n.1)

parent_at : (t : Tree) (n q : Name) (c : Bool) → In (child_of q c) (bisected n t) → (n ≡ child_of q c) ⊎ In q (bisected n t)
unfolding child_of
parent_at Leaf n q c i = absurd i
parent_at (Bisected a b) n q c i =
    let l : Name = (n.0, false ∷ n.1) in let r : Name = (n.0, true ∷ n.1) in
    let child : (s : Bool) → child_of n s ≡ child_of q c → In q (bisected n (Bisected a b)) = λ s e. inl (λ k. ((sym e k).0, tail ((sym e k).1))) in
    ⊎_elim
    (λ (e : child_of q c ≡ n). inl (sym e))
    (λ (j : In (child_of q c) (bisected l a ++ bisected r b)). inr (⊎_elim
    (λ (k : In (child_of q c) (bisected l a)). ⊎_elim (λ (e : l ≡ child_of q c). child false e) (λ (h : In q (bisected l a)). inr (in-first q (bisected l a) (bisected r b) h)) (parent_at a l q c k))
    (λ (k : In (child_of q c) (bisected r b)). ⊎_elim (λ (e : r ≡ child_of q c). child true e) (λ (h : In q (bisected r b)). inr (in-second q (bisected l a) (bisected r b) h)) (parent_at b r q c k))
    (in-append (child_of q c) (bisected l a) (bisected r b) j)))
    i
  where
    tail : List Bool → List Bool
    tail [] = []
    tail (x ∷ xs) = xs

pub members_closed : (ts : List Tree) (s : ℕ) → IsClosed (members_from s ts)
unfolding child_of
members_closed [] s r b w i = absurd i
members_closed (t ∷ ts) s r b w i = ⊎_elim
    (λ (h : In (r, b ∷ w) (bisected (s, []) t)). ⊎_elim (λ e. absurd (nil_cons (λ k. (e k).1))) (λ (k : In (r, w) (bisected (s, []) t)). in-first (r, w) (bisected (s, []) t) (members_from (suc s) ts) k) (parent_at t (s, []) (r, w) b h))
    (λ (h : In (r, b ∷ w) (members_from (suc s) ts)). in-second (r, w) (bisected (s, []) t) (members_from (suc s) ts) (members_closed ts (suc s) r b w h))
    (in-append (r, b ∷ w) (bisected (s, []) t) (members_from (suc s) ts) i)
  where
    nil_cons : {b : Bool} {w : List Bool} → [] ≡ b ∷ w → ⊥
    nil_cons e = cc

-- the names of trees whose levels are low are a forest
pub trees_forest : (mesh : Shape) (ts : List Tree) → length ts ≤ size mesh → ((n : Name) → Has (set_of (members_from 0 ts)) n → level mesh n ≤ 23) → IsForest mesh (set_of (members_from 0 ts))
trees_forest mesh ts few low = record {
  rooted = λ n h. let r = members_root ts 0 n (has-in n (members_from 0 ts) h) in omega arith;
  shallow = low;
  closed = λ r b w h. in-has (r, w) (members_from 0 ts) (members_closed ts 0 r b w (has-in (r, b ∷ w) (members_from 0 ts) h));
}

-- ---- the trees of a forest
module _ (mesh : Shape) (f : Names) (forest : IsForest mesh f) where
  pub tree_of : ℕ → Name → Tree
  tree_of zero n = Leaf
  tree_of (suc k) n = cond (contains f n) (Bisected (tree_of k (n.0, false ∷ n.1)) (tree_of k (n.0, true ∷ n.1))) Leaf

  trees_from : ℕ → ℕ → List Tree
  trees_from r zero = []
  trees_from r (suc c) = tree_of 24 (r, []) ∷ trees_from (suc r) c

  up : (p : List Bool) (n : Name) → Has f (down p n) → Has f n
  up [] n h = h
  up (c ∷ p) n h = forest.closed n.0 c n.1 (up p (n.0, c ∷ n.1) h)

  split : (k : ℕ) (n : Name) → Has f n → tree_of (suc k) n ≡ Bisected (tree_of k (n.0, false ∷ n.1)) (tree_of k (n.0, true ∷ n.1))
  unfolding tree_of
  split k n h = ap (λ (c : Bool). cond c (Bisected (tree_of k (n.0, false ∷ n.1)) (tree_of k (n.0, true ∷ n.1))) Leaf) h

  unsplit : (k : ℕ) (n : Name) → contains f n ≡ false → tree_of (suc k) n ≡ Leaf
  unfolding tree_of
  unsplit k n h = ap (λ (c : Bool). cond c (Bisected (tree_of k (n.0, false ∷ n.1)) (tree_of k (n.0, true ∷ n.1))) Leaf) h

  none_at : (n : Name) → tree_of zero n ≡ Leaf
  unfolding tree_of
  none_at n = refl

  tree_has : (k : ℕ) (p : List Bool) (n : Name) → length p < k → Has f (down p n) → In (down p n) (bisected n (tree_of k n))
  tree_has zero p n h m = absurd (omega (arith, h))
  tree_has (suc k) p n h m = subst (λ (t : Tree). In (down p n) (bisected n t)) (sym (split k n (up p n m))) (by (λ q l g i. tree_has k q l g i) p h m)
    where
      by : ((q : List Bool) (l : Name) → length q < k → Has f (down q l) → In (down q l) (bisected l (tree_of k l))) → (q : List Bool) → length q < suc k → Has f (down q n) → In (down q n) (bisected n (Bisected (tree_of k (n.0, false ∷ n.1)) (tree_of k (n.0, true ∷ n.1))))
      by ih [] g i = inl refl
      by ih (false ∷ q) g i = inr (in-first (down q (n.0, false ∷ n.1)) (bisected (n.0, false ∷ n.1) (tree_of k (n.0, false ∷ n.1))) (bisected (n.0, true ∷ n.1) (tree_of k (n.0, true ∷ n.1))) (ih q (n.0, false ∷ n.1) (omega (arith, g)) i))
      by ih (true ∷ q) g i = inr (in-second (down q (n.0, true ∷ n.1)) (bisected (n.0, false ∷ n.1) (tree_of k (n.0, false ∷ n.1))) (bisected (n.0, true ∷ n.1) (tree_of k (n.0, true ∷ n.1))) (ih q (n.0, true ∷ n.1) (omega (arith, g)) i))

  tree_only : (k : ℕ) (n q : Name) → In q (bisected n (tree_of k n)) → Has f q
  tree_only zero n q i = absurd (subst (λ (t : Tree). In q (bisected n t)) (none_at n) i)
  tree_only (suc k) n q i = ⊎_elim
      (λ h. ⊎_elim
      (λ (e : q ≡ n). subst (λ (y : Name). Has f y) (sym e) h)
      (λ j. ⊎_elim (λ a. tree_only k (n.0, false ∷ n.1) q a) (λ b. tree_only k (n.0, true ∷ n.1) q b) (in-append q (bisected (n.0, false ∷ n.1) (tree_of k (n.0, false ∷ n.1))) (bisected (n.0, true ∷ n.1) (tree_of k (n.0, true ∷ n.1))) j))
      (subst (λ (t : Tree). In q (bisected n t)) (split k n h) i))
      (λ h. absurd (subst (λ (t : Tree). In q (bisected n t)) (unsplit k n h) i))
      (is_or_not (contains f n))

  many : (r c : ℕ) → length (trees_from r c) ≡ c
  unfolding trees_from
  many r zero = refl
  many r (suc c) = ap suc (many (suc r) c)

  trees_have : (r c : ℕ) (q : Name) → r ≤ q.0 → q.0 < r + c → Has f q → In q (members_from r (trees_from r c))
  unfolding trees_from
  trees_have r zero q g h m = absurd (omega (arith, g, h))
  trees_have r (suc c) q g h m = ⊎_elim
      (λ (e : q.0 ≡ r).
      let short : length (reverse q.1) < 24 = let s = forest.shallow q m in let l : length (reverse q.1) ≡ length q.1 = length-reverse q.1 in omega arith in
      let at : q ≡ down (reverse q.1) (r, []) = from_top q ∙ ap (λ (x : ℕ). down (reverse q.1) (x, [])) e in
      let i : In (down (reverse q.1) (r, [])) (bisected (r, []) (tree_of 24 (r, []))) = tree_has 24 (reverse q.1) (r, []) short (subst (λ (y : Name). Has f y) at m) in
      in-first q (bisected (r, []) (tree_of 24 (r, []))) (members_from (suc r) (trees_from (suc r) c)) (subst (λ (y : Name). In y (bisected (r, []) (tree_of 24 (r, [])))) (sym at) i))
      (λ (l : r < q.0). in-second q (bisected (r, []) (tree_of 24 (r, []))) (members_from (suc r) (trees_from (suc r) c)) (trees_have (suc r) c q (omega arith) (omega arith) m))
      (at_or_after q.0 r g)
    where
      at_or_after : (a b : ℕ) → b ≤ a → (a ≡ b) ⊎ (b < a)
      at_or_after zero zero h = inl refl
      at_or_after zero (suc b) h = absurd (omega (arith, h))
      at_or_after (suc a) zero h = inr (omega arith)
      at_or_after (suc a) (suc b) h = ⊎_elim (λ (e : a ≡ b). inl (ap suc e)) (λ (l : b < a). inr (omega arith)) (at_or_after a b (omega (arith, h)))

  trees_only : (r c : ℕ) (q : Name) → In q (members_from r (trees_from r c)) → Has f q
  unfolding trees_from
  trees_only r zero q i = absurd i
  trees_only r (suc c) q i = ⊎_elim (λ a. tree_only 24 (r, []) q a) (λ b. trees_only (suc r) c q b) (in-append q (bisected (r, []) (tree_of 24 (r, []))) (members_from (suc r) (trees_from (suc r) c)) i)

  trees_set : set_of (members_from 0 (trees_from 0 (size mesh))) ≡ f
  trees_set = let all = members_from 0 (trees_from 0 (size mesh)) in within-both (set_of all) f (λ q h. trees_only 0 (size mesh) q (has-in q all h)) (λ q h. let g = forest.rooted q h in in-has q all (trees_have 0 (size mesh) q (omega arith) (omega arith) h))

-- a list of members in order is what some trees give
pub record HasTrees (mesh : Shape) (members : List Name) : Type 0 where
  pub trees : List Tree
  pub each : length trees ≡ size mesh
  pub members_are : members ≡ members_from 0 trees

pub has_trees : (mesh : Shape) (members : List Name) → IsKept mesh members → HasTrees mesh members
has_trees mesh members kept =
    let ts = trees_from mesh (set_of members) kept.forest 0 (size mesh) in
    record {
      trees = ts;
      each = many mesh (set_of members) kept.forest 0 (size mesh);
      members_are = lists_are_one (set_of members) members (members_from 0 ts) (record { in_order = kept.in_order; all = refl }) (record { in_order = members_sorted ts 0; all = trees_set mesh (set_of members) kept.forest });
    }
