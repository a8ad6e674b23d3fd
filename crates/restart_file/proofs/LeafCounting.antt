-- A forest has a leaf for each macro element and one more for each member.
use Rattle.std.proofs.Common.{◌≡◌, ℕ, zero, suc, ◌+◌, ◌*◌, ◌≤◌, Bool, true, false, cond, not, refl, sym, ap, ◌∙◌, subst, List, [], ◌∷◌, ◌++◌, length, inl, inr, ⊎_elim, arith}
use Rattle.std.specs.FinSet.{contains, difference, from_list, insert, items, len, len-empty, len-insert}
use Rattle.std.specs.List.Sorted.{IsStrictlySortedBy}
use Rattle.std.specs.Cmp.{tied_itself}
use Rattle.std.specs.declared.cmp.Ordering.TheVariants.{Less, Equal}
use Rattle.std.proofs.lemmas.List.{length-append}
use Rattle.mesh_names.specs.Names.{Name, name_cmp}
use Rattle.mesh_names.specs.Order.{name_cmp_total}
use Rattle.mesh_names.specs.Triangles.{Shape, size}
use Rattle.mesh_names.specs.Forests.{Has, Names}
use Rattle.mesh_names.specs.Leaves.{children, leaves, tops}
use Rattle.mesh_names.proofs.Booleans.{and_both, and-both, left, not-true, not_true, true-not}
use Rattle.mesh_names.proofs.Inserting.{has-insert, insert-either, new-insert}
use Rattle.mesh_names.proofs.Leaving.{children-in, in-children, in-tops, tops-in}
use Rattle.mesh_names.proofs.Sets.{In, both_sides, has-in, has-item, in-append, in-first, in-has, in-second, is_or_not, item-has, same-tied, tied-same, within-both}
use Rattle.std.specs.Ordering.{eq_by_cmp}
use Rattle.restart_file.specs.Kept.{IsKept, set_of}
use Rattle.restart_file.specs.LeafCounts.{HasFewLeaves, HasLeaves, LeavesAreCounted}
use Rattle.restart_file.proofs.Merging.{behind, tail_sorted}

-- no name stands twice
abbrev Apart : List Name → Type 0
Apart [] = Unit {0}
Apart (n ∷ ns) = (In n ns → ⊥) × Apart ns

-- ---- lists in which no name stands twice
not_less : (n : Name) → name_cmp n n ≡ Less → ⊥
not_less n e = other (sym e ∙ tied_itself name_cmp_total n)
  where
    other : Less ≡ Equal → ⊥
    other q = cc

sorted-apart : (ns : List Name) → IsStrictlySortedBy name_cmp ns → Apart ns
sorted-apart [] h = tt
sorted-apart (n ∷ ns) h = (λ i. not_less n (behind n ns h n i), sorted-apart ns (tail_sorted n ns h))

append-apart : (ns ms : List Name) → Apart ns → Apart ms → ((n : Name) → In n ns → In n ms → ⊥) → Apart (ns ++ ms)
append-apart [] ms a b other = b
append-apart (n ∷ ns) ms a b other = (
  λ i. ⊎_elim (λ (j : In n ns). a.0 j) (λ (k : In n ms). other n (inl refl) k) (in-append n ns ms i),
  append-apart ns ms a.1 b (λ m i j. other m (inr i) j),
)

tops-apart : (k : ℕ) → Apart (tops k)
tops-apart zero = tt
tops-apart (suc k) = append-apart (tops k) ((k, []) ∷ []) (tops-apart k) ((λ i. i), tt)
    (λ n i j. ⊎_elim (λ (e : n ≡ (k, [])). let l = (tops-in k n i).0 in let s = ap (λ (m : Name). m.0) e in omega (arith, l, s)) (λ (f : ⊥). f) j)

tops-length : (k : ℕ) → length (tops k) ≡ k
tops-length zero = refl
tops-length (suc k) = length-append (tops k) ((k, []) ∷ []) ∙ ap (λ (n : ℕ). n + 1) (tops-length k) ∙ one_more k
  where
    one_more : (n : ℕ) → n + 1 ≡ suc n
    one_more n = omega arith

-- a name without its last letter
abbrev below : List Bool → List Bool
below [] = []
below (b ∷ w) = w

abbrev last_is : Bool → List Bool → Bool
last_is d [] = d
last_is d (b ∷ w) = b

parent-in : (n : Name) (ns : List Name) (b : Bool) → In (n.0, b ∷ n.1) (children ns) → In n ns
parent-in n ns b i =
    let c = children-in ns (n.0, b ∷ n.1) i in
    subst (λ (w : List Bool). In (n.0, w) ns) (sym (ap (λ (m : Name). below m.1) c.is)) c.parent

children-apart : (ns : List Name) → Apart ns → Apart (children ns)
children-apart [] a = tt
children-apart (n ∷ ns) a = (
  λ i. ⊎_elim (λ (e : (n.0, false ∷ n.1) ≡ (n.0, true ∷ n.1)). other (ap (λ (m : Name). last_is false m.1) e)) (λ (j : In (n.0, false ∷ n.1) (children ns)). a.0 (parent-in n ns false j)) i,
  (λ j. a.0 (parent-in n ns true j), children-apart ns a.1),
)
  where
    other : false ≡ true → ⊥
    other q = cc

children-length : (ns : List Name) → length (children ns) ≡ 2 * length ns
children-length [] = refl
children-length (n ∷ ns) = let a = children-length ns in omega (arith, a)

-- ---- sets
len-apart : (ns : List Name) → Apart ns → len (from_list {R = name_cmp} ns) ≡ length ns
len-apart [] a = len-empty name_cmp
len-apart (n ∷ ns) a =
    let out : contains (from_list {R = name_cmp} ns) n ≡ false = not_true (contains (from_list ns) n) (λ h. a.0 (has-in n ns h)) in
    len-insert name_cmp_total (from_list {R = name_cmp} ns) n
    ∙ ap (λ (b : Bool). cond b (len (from_list {R = name_cmp} ns)) (len (from_list {R = name_cmp} ns) + 1)) out
    ∙ ap (λ (m : ℕ). m + 1) (len-apart ns a.1)
    ∙ one_more (length ns)
  where
    one_more : (m : ℕ) → m + 1 ≡ suc m
    one_more m = omega arith

-- what is in both is taken away
module _ (s : Names) where
  in-difference : (ns : List Name) (n : Name) → Has s n → (In n ns → ⊥) → Has (difference s (from_list ns)) n
  in-difference ns n h out = left s (from_list ns) n ∙ and-both (contains s n) (not (contains (from_list {R = name_cmp} ns) n)) h (not-true (contains (from_list ns) n) (not_true (contains (from_list ns) n) (λ i. out (has-in n ns i))))

  difference-in : (ns : List Name) (n : Name) → Has (difference s (from_list ns)) n → Has s n × (In n ns → ⊥)
  difference-in ns n h =
      let b = and_both (contains s n) (not (contains (from_list {R = name_cmp} ns) n)) (sym (left s (from_list ns) n) ∙ h) in
      (b.0, λ i. both_sides (contains (from_list {R = name_cmp} ns) n) (in-has n ns i) (true-not (contains (from_list {R = name_cmp} ns) n) b.1))

  len-less : (ns : List Name) → Apart ns → ((n : Name) → In n ns → Has s n) → len (difference s (from_list ns)) + length ns ≡ len s
  len-less [] a inside = let e : len (difference s (from_list [])) ≡ len s = ap (λ (t : Names). len t) (within-both (difference s (from_list [])) s (λ n h. (difference-in [] n h).0) (λ n h. in-difference [] n h (λ i. i))) in omega (arith, e)
  len-less (n ∷ ns) a inside =
      let more : difference s (from_list ns) ≡ insert (difference s (from_list (n ∷ ns))) n = within-both (difference s (from_list ns)) (insert (difference s (from_list (n ∷ ns))) n) to from in
      let out : contains (difference s (from_list (n ∷ ns))) n ≡ false = not_true (contains (difference s (from_list (n ∷ ns))) n) (λ h. (difference-in (n ∷ ns) n h).1 (inl refl)) in
      let one : len (difference s (from_list ns)) ≡ len (difference s (from_list (n ∷ ns))) + 1 = ap (λ (t : Names). len t) more ∙ len-insert name_cmp_total (difference s (from_list (n ∷ ns))) n ∙ ap (λ (b : Bool). cond b (len (difference s (from_list {R = name_cmp} (n ∷ ns)))) (len (difference s (from_list {R = name_cmp} (n ∷ ns))) + 1)) out in
      let rest = len-less ns a.1 (λ m i. inside m (inr i)) in
      omega (arith, one, rest)
    where
      to : (q : Name) → Has (difference s (from_list ns)) q → Has (insert (difference s (from_list (n ∷ ns))) n) q
      to q h = ⊎_elim
          (λ (e : eq_by_cmp name_cmp q n ≡ true). subst (Has (insert (difference s (from_list (n ∷ ns))) n)) (sym (tied-same q n e)) (new-insert (difference s (from_list (n ∷ ns))) n))
          (λ (ne : eq_by_cmp name_cmp q n ≡ false).
          let b = difference-in ns q h in
          has-insert (difference s (from_list (n ∷ ns))) n q (in-difference (n ∷ ns) q b.0 (λ i. ⊎_elim (λ (e : q ≡ n). both_sides (eq_by_cmp name_cmp q n) (same-tied q n e) ne) (λ (k : In q ns). b.1 k) i)))
          (is_or_not (eq_by_cmp name_cmp q n))

      from : (q : Name) → Has (insert (difference s (from_list (n ∷ ns))) n) q → Has (difference s (from_list ns)) q
      from q h = ⊎_elim
          (λ (e : q ≡ n). subst (Has (difference s (from_list ns))) (sym e) (in-difference ns n (inside n (inl refl)) a.0))
          (λ (k : Has (difference s (from_list (n ∷ ns))) q). let b = difference-in (n ∷ ns) q k in in-difference ns q b.0 (λ i. b.1 (inr i)))
          (insert-either (difference s (from_list (n ∷ ns))) n q h)

-- ---- leaves
module _ (mesh : Shape) (members : List Name) (kept : IsKept mesh members) where
  abbrev all : List Name
  all = tops (size mesh) ++ children members

  all-apart : Apart all
  all-apart = append-apart (tops (size mesh)) (children members) (tops-apart (size mesh)) (children-apart members (sorted-apart members kept.in_order))
      (λ n i j. let t = (tops-in (size mesh) n i).1 in let c = children-in members n j in other (sym t ∙ ap (λ (m : Name). m.1) c.is))
    where
      other : {b : Bool} {w : List Bool} → ◌≡◌ {A = List Bool} [] (b ∷ w) → ⊥
      other q = cc

  -- each member is a macro element or the child of a member
  member-in : (n : Name) → In n members → In n all
  member-in (r, []) i = in-first (r, []) (tops (size mesh)) (children members) (in-tops (size mesh) r (kept.forest.rooted (r, []) (in-has (r, []) members i)))
  member-in (r, b ∷ w) i = in-second (r, b ∷ w) (tops (size mesh)) (children members) (in-children r b w members (has-in (r, w) members (kept.forest.closed r b w (in-has (r, b ∷ w) members i))))

  same-children : (ns ms : List Name) → ((n : Name) → In n ns → In n ms) → (n : Name) → In n (children ns) → In n (children ms)
  same-children ns ms f n i = let c = children-in ns n i in subst (λ (m : Name). In m (children ms)) (sym c.is) (in-children n.0 c.side c.word ms (f (n.0, c.word) c.parent))

  same-all : from_list {R = name_cmp} (tops (size mesh) ++ children (items (set_of members))) ≡ from_list all
  same-all = within-both (from_list (tops (size mesh) ++ children (items (set_of members)))) (from_list all)
      (λ n h. in-has n all (both (items (set_of members)) members (λ m i. has-in m members (item-has (set_of members) m i)) n (has-in n (tops (size mesh) ++ children (items (set_of members))) h)))
      (λ n h. in-has n (tops (size mesh) ++ children (items (set_of members))) (both members (items (set_of members)) (λ m i. has-item (set_of members) m (in-has m members i)) n (has-in n all h)))
    where
      both : (ns ms : List Name) → ((n : Name) → In n ns → In n ms) → (n : Name) → In n (tops (size mesh) ++ children ns) → In n (tops (size mesh) ++ children ms)
      both ns ms f n i = ⊎_elim
          (λ (a : In n (tops (size mesh))). in-first n (tops (size mesh)) (children ms) a)
          (λ (b : In n (children ns)). in-second n (tops (size mesh)) (children ms) (same-children ns ms f n b))
          (in-append n (tops (size mesh)) (children ns) i)

  pub leaf-count : (count : ℕ) → HasLeaves mesh members count → count ≡ size mesh + length members
  leaf-count count h =
      let listed : len (from_list {R = name_cmp} h.0) ≡ length h.0 = len-apart h.0 (sorted-apart h.0 h.1.in_order) in
      let set : len (from_list {R = name_cmp} h.0) ≡ len (leaves mesh (set_of members)) = ap (λ (s : Names). len s) h.1.all in
      let same : len (leaves mesh (set_of members)) ≡ len (difference (from_list all) (set_of members)) = ap (λ (s : Names). len (difference s (set_of members))) same-all in
      let less : len (difference (from_list all) (set_of members)) + length members ≡ len (from_list {R = name_cmp} all) = len-less (from_list all) members (sorted-apart members kept.in_order) (λ n i. in-has n all (member-in n i)) in
      let whole : len (from_list {R = name_cmp} all) ≡ length (tops (size mesh)) + length (children members) = len-apart all all-apart ∙ length-append (tops (size mesh)) (children members) in
      let tops_are = tops-length (size mesh) in
      let children_are = children-length members in
      let is = h.2 in
      omega (arith, listed, set, same, less, whole, tops_are, children_are, is)

pub leaves_are_counted : LeavesAreCounted
leaves_are_counted mesh members count kept h = leaf-count mesh members kept count h

-- so has a forest that has at most as many members as two others together
pub few_leaves : (mesh : Shape) (first second both : List Name) → IsKept mesh first → IsKept mesh second → IsKept mesh both → length both ≤ length first + length second → HasFewLeaves mesh first second both
few_leaves mesh first second both a b c few one other count h k l =
    let x = leaf-count mesh first a one h in
    let y = leaf-count mesh second b other k in
    let z = leaf-count mesh both c count l in
    omega (arith, x, y, z, few)
