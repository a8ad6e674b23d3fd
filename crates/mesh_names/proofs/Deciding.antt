-- Forests that are given by lists of names: what can be seen by computing.
use Rattle.std.proofs.Common.{◌≡◌, ℕ, arith, Bool, true, false, not, ◌&&◌, ◌||◌, true≢false, refl, sym, ap, ◌∙◌, subst, List, [], ◌∷◌, ◌++◌, inl, inr, ⊎_elim}
use Rattle.std.specs.Prelude.{Option, Some, None, ltb}
use Rattle.std.proofs.lemmas.Bool.{ltb-true}
use Rattle.std.specs.Ordering.{is_lt, eq_by_cmp}
use Rattle.std.specs.declared.cmp.Ordering.{Ordering}
use Rattle.std.specs.declared.cmp.Ordering.TheVariants.{Less, Equal, Greater}
use Rattle.std.specs.List.{list_all, list_any, AllByRecursion}
use Rattle.std.specs.List.Sorted.{IsStrictlySortedBy}
use Rattle.std.specs.FinSet.{contains, contains-from_list, from_list}
use Rattle.mesh_names.specs.Names.{Name, name_cmp}
use Rattle.mesh_names.specs.Order.{name_cmp_total}
use Rattle.mesh_names.specs.Triangles.{Shape, size, level}
use Rattle.mesh_names.specs.Partners.{Across, Tells, partner}
use Rattle.mesh_names.specs.Forests.{Names, Has, Within, IsForest, IsLeaf, IsListOf}
use Rattle.mesh_names.specs.Conformity.{HoldsPartners}
use Rattle.mesh_names.specs.LeastForest.{IsLeast}
use Rattle.mesh_names.specs.Leaves.{leaves, tops, children}
use Rattle.mesh_names.proofs.Sets.{In, has-in, in-has, in-append, in-first, in-second, within-both, or_either}
use Rattle.mesh_names.proofs.Booleans.{and_both, true-not}
use Rattle.mesh_names.proofs.Leaving.{in-tops, in-children, leaves_are}
use Rattle.mesh_names.proofs.Conforming.{conforms_by_partners}

-- whether a list has a name
abbrev pub has : List Name → Name → Bool
has list n = list_any (eq_by_cmp name_cmp n) list

held : (list : List Name) (n : Name) → has list n ≡ true → Has (from_list list) n
held list n h = contains-from_list name_cmp_total list n ∙ h

all_in : (p : Name → Bool) (list : List Name) → list_all p list ≡ true → (n : Name) → In n list → p n ≡ true
all_in p [] h n i = absurd i
all_in p (k ∷ ks) h n i = ⊎_elim (λ (e : n ≡ k). ap p e ∙ (and_both (p k) (list_all p ks) h).0) (λ (j : In n ks). all_in p ks (and_both (p k) (list_all p ks) h).1 n j) i

-- the parent, and the partner, as a list of one or none
abbrev pub parents : ℕ → List Bool → List Name
parents r [] = []
parents r (b ∷ w) = (r, w) ∷ []

abbrev pub partners : Option (Name × Bool) → List Name
partners None = []
partners (Some m) = m.0 ∷ []

abbrev pub above : Across → Name → List Name
above x n = parents n.0 n.1 ++ partners (partner x n.0 n.1)

-- ---- a forest that conforms
-- a name of the mesh that can be bisected, with its parent and its partner in the list
abbrev pub is_fit : Shape → Across → List Name → Name → Bool
is_fit mesh x list n = ltb n.0 (size mesh) && (ltb (level mesh n) 24 && list_all (has list) (above x n))

abbrev pub is_closed : Shape → Across → List Name → Bool
is_closed mesh x list = list_all (is_fit mesh x list) list

module _ (mesh : Shape) (x : Across) (list : List Name) (closed : is_closed mesh x list ≡ true) where
  fit : (n : Name) → Has (from_list list) n → is_fit mesh x list n ≡ true
  fit n h = all_in (is_fit mesh x list) list closed n (has-in n list h)

  inner : (n : Name) → Has (from_list list) n → (ltb (level mesh n) 24 && list_all (has list) (above x n)) ≡ true
  inner n h = (and_both (ltb n.0 (size mesh)) (ltb (level mesh n) 24 && list_all (has list) (above x n)) (fit n h)).1

  above_in : (n m : Name) → Has (from_list list) n → In m (above x n) → Has (from_list list) m
  above_in n m h i = held list m (all_in (has list) (above x n) (and_both (ltb (level mesh n) 24) (list_all (has list) (above x n)) (inner n h)).1 m i)

  pub forest_of : IsForest mesh (from_list list)
  forest_of = record {
    rooted = λ n h. ltb-true n.0 (size mesh) (and_both (ltb n.0 (size mesh)) (ltb (level mesh n) 24 && list_all (has list) (above x n)) (fit n h)).0;
    shallow = λ n h. let low = ltb-true (level mesh n) 24 (and_both (ltb (level mesh n) 24) (list_all (has list) (above x n)) (inner n h)).0 in omega (arith, low);
    closed = λ r b w h. above_in (r, b ∷ w) (r, w) h (inl refl);
  }

  pub partners_of : HoldsPartners x (from_list list)
  partners_of r w m t h e = above_in (r, w) m h (in-second m (parents r w) (partners (partner x r w)) (subst (λ (o : Option (Name × Bool)). In m (partners o)) (sym e) (inl refl)))

-- ---- what every conforming forest has to hold
abbrev pub all_above : Across → List Name → List Name
all_above x [] = []
all_above x (n ∷ ns) = above x n ++ all_above x ns

-- each name is given, or is above one that comes before
abbrev pub is_forced : Across → List Name → List Name → List Name → Bool
is_forced x given seen [] = true
is_forced x given seen (n ∷ ns) = (has given n || has (all_above x seen) n) && is_forced x given (n ∷ seen) ns

module _ (mesh : Shape) (x : Across) (other : Names) (forest : IsForest mesh other) (mates : HoldsPartners x other) (given : List Name) (holds : (q : Name) → In q given → Has other q) where
  has_partner : (n m : Name) → Has other n → (o : Option (Name × Bool)) → partner x n.0 n.1 ≡ o → In m (partners o) → Has other m
  has_partner n m h None e i = absurd i
  has_partner n m h (Some p) e i = ⊎_elim (λ (q : m ≡ p.0). mates n.0 n.1 m p.1 h (e ∙ (λ j. Some (sym q j, p.1)))) (λ b. absurd b) i

  has_parent : (m : Name) (r : ℕ) (w : List Bool) → Has other (r, w) → In m (parents r w) → Has other m
  has_parent m r [] h i = absurd i
  has_parent m r (b ∷ w) h i = ⊎_elim (λ (e : m ≡ (r, w)). subst (Has other) (sym e) (forest.closed r b w h)) (λ z. absurd z) i

  has_above : (seen : List Name) → ((q : Name) → In q seen → Has other q) → (m : Name) → In m (all_above x seen) → Has other m
  has_above [] all m i = absurd i
  has_above (n ∷ ns) all m i = ⊎_elim
      (λ (a : In m (above x n)). ⊎_elim (λ (p : In m (parents n.0 n.1)). has_parent m n.0 n.1 (all n (inl refl)) p) (λ (p : In m (partners (partner x n.0 n.1))). has_partner n m (all n (inl refl)) (partner x n.0 n.1) refl p) (in-append m (parents n.0 n.1) (partners (partner x n.0 n.1)) a))
      (λ (b : In m (all_above x ns)). has_above ns (λ q j. all q (inr j)) m b)
      (in-append m (above x n) (all_above x ns) i)

  pub forced : (seen names : List Name) → ((q : Name) → In q seen → Has other q) → is_forced x given seen names ≡ true → (q : Name) → In q names → Has other q
  forced seen [] all h q i = absurd i
  forced seen (n ∷ ns) all h q i =
      let parts = and_both (has given n || has (all_above x seen) n) (is_forced x given (n ∷ seen) ns) h in
      let first : Has other n = ⊎_elim (λ (a : has given n ≡ true). holds n (has-in n given (held given n a))) (λ (b : has (all_above x seen) n ≡ true). has_above seen all n (has-in n (all_above x seen) (held (all_above x seen) n b))) (or_either (has given n) (has (all_above x seen) n) parts.0) in
      ⊎_elim
      (λ (e : q ≡ n). subst (Has other) (sym e) first)
      (λ (j : In q ns). forced (n ∷ seen) ns (λ p k. ⊎_elim (λ (e : p ≡ n). subst (Has other) (sym e) first) (λ (l : In p seen). all p l) k) parts.1 q j)
      i

-- the least forest, whose members are listed as they are forced
pub gives_least : (mesh : Shape) (x : Across) → Tells mesh x → (old needed new : List Name) → is_closed mesh x new ≡ true → is_forced x (old ++ needed) [] new ≡ true → list_all (has new) (old ++ needed) ≡ true → IsLeast mesh (from_list old) (from_list needed) (from_list new)
gives_least mesh x tells old needed new closed forced_by held_all =
    let forest = forest_of mesh x new closed in
    let given = λ (n : Name) (i : In n (old ++ needed)). held new n (all_in (has new) (old ++ needed) held_all n i) in
    record {
      forest = forest;
      conforms = (conforms_by_partners mesh x tells (from_list new) forest).1 (partners_of mesh x new closed);
      holds_old = λ n h. given n (in-first n old needed (has-in n old h));
      holds_needs = λ n h. given n (in-second n old needed (has-in n needed h));
      least = λ other is_forest conforms holds_old holds_needs n h.
          forced mesh x other is_forest ((conforms_by_partners mesh x tells other is_forest).0 conforms) (old ++ needed)
          (λ q i. ⊎_elim (λ (a : In q old). holds_old q (in-has q old a)) (λ (b : In q needed). holds_needs q (in-has q needed b)) (in-append q old needed i))
          [] new (λ q i. absurd i) forced_by n (has-in n new h);
    }

-- ---- leaves in order
abbrev pub rises : List Name → Bool
rises [] = true
rises (n ∷ ns) = list_all (λ m. is_lt (name_cmp n m)) ns && rises ns

less_is : (r : Ordering) → is_lt r ≡ true → r ≡ Less
less_is Less e = refl
less_is Equal e = absurd (true≢false (sym e))
less_is Greater e = absurd (true≢false (sym e))

all_less : (n : Name) (ns : List Name) → list_all (λ m. is_lt (name_cmp n m)) ns ≡ true → AllByRecursion (λ m. name_cmp n m ≡ Less) ns
all_less n [] h = tt
all_less n (m ∷ ms) h = let p = and_both (is_lt (name_cmp n m)) (list_all (λ k. is_lt (name_cmp n k)) ms) h in (less_is (name_cmp n m) p.0, all_less n ms p.1)

in_order : (ns : List Name) → rises ns ≡ true → IsStrictlySortedBy name_cmp ns
unfolding IsStrictlySortedBy
in_order [] h = tt
in_order (n ∷ ns) h = let p = and_both (list_all (λ m. is_lt (name_cmp n m)) ns) (rises ns) h in (all_less n ns p.0, in_order ns p.1)

-- a name of the mesh that is no member, with its parent among the members
abbrev pub is_leaf_of : Shape → List Name → Name → Bool
is_leaf_of mesh members n = ltb n.0 (size mesh) && (not (has members n) && list_all (has members) (parents n.0 n.1))

abbrev pub is_leaf_list : Shape → List Name → List Name → Bool
is_leaf_list mesh members list = rises list && (list_all (is_leaf_of mesh members) list && list_all (λ n. has members n || has list n) (tops (size mesh) ++ children members))

unheld : (members : List Name) (n : Name) → has members n ≡ false → contains {R = name_cmp} (from_list members) n ≡ false
unheld members n h = contains-from_list name_cmp_total members n ∙ h

pub gives_leaves : (mesh : Shape) (members list : List Name) → IsForest mesh (from_list members) → is_leaf_list mesh members list ≡ true → IsListOf (leaves mesh (from_list members)) list
gives_leaves mesh members list forest h = record { in_order = in_order list first.0; all = within-both (from_list list) (leaves mesh (from_list members)) to from }
  where
    first : (rises list ≡ true) × ((list_all (is_leaf_of mesh members) list && list_all (λ n. has members n || has list n) (tops (size mesh) ++ children members)) ≡ true)
    first = and_both (rises list) (list_all (is_leaf_of mesh members) list && list_all (λ n. has members n || has list n) (tops (size mesh) ++ children members)) h

    then_ : (list_all (is_leaf_of mesh members) list ≡ true) × (list_all (λ n. has members n || has list n) (tops (size mesh) ++ children members) ≡ true)
    then_ = and_both (list_all (is_leaf_of mesh members) list) (list_all (λ n. has members n || has list n) (tops (size mesh) ++ children members)) first.1

    to : Within (from_list list) (leaves mesh (from_list members))
    to n i =
        let leaf = and_both (ltb n.0 (size mesh)) (not (has members n) && list_all (has members) (parents n.0 n.1)) (all_in (is_leaf_of mesh members) list then_.0 n (has-in n list i)) in
        let rest = and_both (not (has members n)) (list_all (has members) (parents n.0 n.1)) leaf.1 in
        (leaves_are mesh (from_list members) forest n).1 (record {
          rooted = ltb-true n.0 (size mesh) leaf.0;
          unsplit = unheld members n (true-not (has members n) rest.0);
          born = λ b w e. held members (n.0, w) (all_in (has members) (parents n.0 n.1) rest.1 (n.0, w) (subst (λ (v : List Bool). In (n.0, w) (parents n.0 v)) (sym e) (inl refl)));
        })

    from : Within (leaves mesh (from_list members)) (from_list list)
    from n i = held list n (⊎_elim (λ (a : has members n ≡ true). absurd (true≢false (sym (held members n a) ∙ leaf.unsplit))) (λ (b : has list n ≡ true). b) (or_either (has members n) (has list n) (all_in (λ k. has members k || has list k) (tops (size mesh) ++ children members) then_.1 n (place n.1 refl))))
      where
        leaf : IsLeaf mesh (from_list members) n
        leaf = (leaves_are mesh (from_list members) forest n).0 i

        place : (w : List Bool) → n.1 ≡ w → In n (tops (size mesh) ++ children members)
        place [] e = in-first n (tops (size mesh)) (children members) (subst (λ (v : List Bool). In (n.0, v) (tops (size mesh))) (sym e) (in-tops (size mesh) n.0 leaf.rooted))
        place (b ∷ w) e = in-second n (tops (size mesh)) (children members) (subst (λ (v : List Bool). In (n.0, v) (children members)) (sym e) (in-children n.0 b w members (has-in (n.0, w) members (leaf.born b w e))))
