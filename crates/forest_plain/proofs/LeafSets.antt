-- The set of leaves, name by name.
use Rattle.std.proofs.Common.{◌≡◌, ◌⊎◌, ℕ, suc, ◌+◌, ◌<◌, Bool, true, false, cond, not, refl, sym, ap, ◌∙◌, subst, List, [], ◌∷◌, ◌++◌, take, length, inl, inr, ⊎_elim, arith, append_assoc, slice_index_or, take-suc}
use Rattle.std.specs.FinSet.{contains, insert, empty, from_list, items, difference, contains-empty}
use Rattle.std.specs.List.{Contains, dedup}
use Rattle.std.specs.List.Sorted.{IsPermutation, IsSorted, IsStrictlySortedBy}
use Rattle.std.proofs.lemmas.Cmp.{eq_by_cmp_equiv}
use Rattle.std.proofs.lemmas.List.Kept.{Contains-dedup, Contains-from_dedup, IsStrictlySortedBy-dedup}
use Rattle.std.proofs.lemmas.List.Sorted.{Contains-permutation, IsPermutation-sym}
use Rattle.mesh_names.specs.Names.{Name, depth, name_cmp, name_eq}
use Rattle.mesh_names.specs.Order.{name_cmp_total}
use Rattle.mesh_names.specs.Triangles.{Shape, size}
use Rattle.mesh_names.specs.Forests.{Names, Has, IsForest, IsListOf}
use Rattle.mesh_names.specs.Leaves.{tops, children, leaves}
use Rattle.mesh_names.proofs.Booleans.{and_both, and-both, not-true, true-not, left}
use Rattle.mesh_names.proofs.Sets.{In, item-in, is_or_not, both_sides, has-in, in-has, has-item, item-has, tied-same, in-append, in-first, in-second, within-both}
use Rattle.mesh_names.proofs.Inserting.{has-insert, new-insert, insert-either}
use Rattle.mesh_names.proofs.Leaving.{in-children, children-in}
use Rattle.forest_plain.specs.Rounds.{IsUnsplit, set_of}

has-left : (all : List Name) (members : Names) (q : Name) → In q all → contains members q ≡ false → Has (difference (from_list all) members) q
has-left all members q i out = left (from_list all) members q ∙ and-both (contains (from_list {R = name_cmp} all) q) (not (contains members q)) (in-has q all i) (not-true (contains members q) out)

left-in : (all : List Name) (members : Names) (q : Name) → Has (difference (from_list all) members) q → In q all × (contains members q ≡ false)
left-in all members q h =
    let b = and_both (contains (from_list {R = name_cmp} all) q) (not (contains members q)) (sym (left (from_list all) members q) ∙ h) in
    (has-in q all b.0, true-not (contains members q) b.1)

-- two lists of the same names leave the same
pub same_left : (xs ys : List Name) (members : Names) → ((q : Name) → In q xs → In q ys) → ((q : Name) → In q ys → In q xs) → difference (from_list {R = name_cmp} xs) members ≡ difference (from_list ys) members
same_left xs ys members f g = within-both (difference (from_list xs) members) (difference (from_list ys) members)
    (λ q h. let b = left-in xs members q h in has-left ys members q (f q b.0) b.1)
    (λ q h. let b = left-in ys members q h in has-left xs members q (g q b.0) b.1)

-- one name more
pub unsplit-push : (all : List Name) (n : Name) (members found next : Names) → IsUnsplit all members found → next ≡ cond (contains members n) found (insert found n) → IsUnsplit (all ++ n ∷ []) members next
unsplit-push all n members found next is step = ⊎_elim (λ h. member h) (λ h. leaf h) (is_or_not (contains members n))
  where
    more : List Name
    more = all ++ n ∷ []

    last : In n more
    last = in-second n all (n ∷ []) (inl refl)

    from_more : (q : Name) → In q more → In q all ⊎ (q ≡ n)
    from_more q i = ⊎_elim (λ a. inl a) (λ (b : (q ≡ n) ⊎ ⊥). ⊎_elim (λ (e : q ≡ n). inr e) (λ (f : ⊥). absurd f) b) (in-append q all (n ∷ []) i)

    member : contains members n ≡ true → IsUnsplit more members next
    member h = step ∙ ap (λ (c : Bool). cond c found (insert found n)) h ∙ is ∙ within-both (difference (from_list all) members) (difference (from_list more) members)
        (λ q i. let b = left-in all members q i in has-left more members q (in-first q all (n ∷ []) b.0) b.1)
        (λ q i. let b = left-in more members q i in ⊎_elim (λ a. has-left all members q a b.1) (λ (e : q ≡ n). absurd (both_sides (contains members n) h (subst (λ (y : Name). contains members y ≡ false) e b.1))) (from_more q b.0))

    leaf : contains members n ≡ false → IsUnsplit more members next
    leaf h = step ∙ ap (λ (c : Bool). cond c found (insert found n)) h ∙ within-both (insert found n) (difference (from_list more) members)
        (λ q i. ⊎_elim
        (λ (e : q ≡ n). subst (λ (y : Name). Has (difference (from_list more) members) y) (sym e) (has-left more members n last h))
        (λ (k : Has found q). let b = left-in all members q (subst (λ (s : Names). Has s q) is k) in has-left more members q (in-first q all (n ∷ []) b.0) b.1)
        (insert-either found n q i))
        (λ q i. let b = left-in more members q i in ⊎_elim
        (λ a. has-insert found n q (subst (λ (s : Names). Has s q) (sym is) (has-left all members q a b.1)))
        (λ (e : q ≡ n). subst (λ (y : Name). Has (insert found n) y) (sym e) (new-insert found n))
        (from_more q b.0))

-- a name at the end of a list is one more of its set
pub pushed-insert : (list : List Name) (n : Name) → set_of (list ++ n ∷ []) ≡ insert (set_of list) n
pushed-insert list n = within-both (set_of (list ++ n ∷ [])) (insert (set_of list) n)
    (λ q i. ⊎_elim
    (λ (a : In q list). has-insert (set_of list) n q (in-has q list a))
    (λ (b : (q ≡ n) ⊎ ⊥). ⊎_elim (λ (e : q ≡ n). subst (λ (y : Name). Has (insert (set_of list) n) y) (sym e) (new-insert (set_of list) n)) (λ (f : ⊥). absurd f) b)
    (in-append q list (n ∷ []) (has-in q (list ++ n ∷ []) i)))
    (λ q i. ⊎_elim
    (λ (e : q ≡ n). in-has q (list ++ n ∷ []) (in-second q list (n ∷ []) (inl e)))
    (λ (k : Has (set_of list) q). in-has q (list ++ n ∷ []) (in-first q list (n ∷ []) (has-in q list k)))
    (insert-either (set_of list) n q i))

-- lists of the same names have one set
pub one_set : (xs ys : List Name) → ((q : Name) → In q xs → In q ys) → ((q : Name) → In q ys → In q xs) → set_of xs ≡ set_of ys
one_set xs ys f g = within-both (set_of xs) (set_of ys) (λ q h. in-has q ys (f q (has-in q xs h))) (λ q h. in-has q xs (g q (has-in q ys h)))

pub nothing_found : (members : Names) → IsUnsplit [] members empty
nothing_found members = within-both empty (difference (from_list []) members)
    (λ q h. absurd (both_sides (contains (empty {R = name_cmp}) q) h (contains-empty name_cmp q)))
    (λ q h. absurd (left-in [] members q h).0)

pub top-push : (k : ℕ) (members found next : Names) (n : Name) → IsUnsplit (tops k) members found → n ≡ (k, []) → next ≡ cond (contains members n) found (insert found n) → IsUnsplit (tops (k + 1)) members next
top-push k members found next n is named step =
    let same : suc k ≡ k + 1 = omega arith in
    subst (λ (j : ℕ). IsUnsplit (tops j) members next) same (subst (λ (y : Name). IsUnsplit (tops k ++ y ∷ []) members next) named (unsplit-push (tops k) n members found next is step))

-- the children of one name more
children-push : (xs : List Name) (n : Name) → children (xs ++ n ∷ []) ≡ children xs ++ (n.0, false ∷ n.1) ∷ (n.0, true ∷ n.1) ∷ []
children-push [] n = refl
children-push (x ∷ xs) n = ap (λ (l : List Name). (x.0, false ∷ x.1) ∷ (x.0, true ∷ x.1) ∷ l) (children-push xs n)

pub pair-push : (all : List Name) (names : List Name) (i : ℕ) (n d a b : Name) (members found one two : Names) → i < length names → n ≡ slice_index_or names i d → IsUnsplit (all ++ children (take i names)) members found →
    a ≡ (n.0, false ∷ n.1) → b ≡ (n.0, true ∷ n.1) → one ≡ cond (contains members a) found (insert found a) → two ≡ cond (contains members b) one (insert one b) → IsUnsplit (all ++ children (take (i + 1) names)) members two
pair-push all names i n d a b members found one two low at is ea eb first second =
    let so_far = all ++ children (take i names) in
    let step = unsplit-push (so_far ++ a ∷ []) b members one two (unsplit-push so_far a members found one is first) second in
    subst (λ (l : List Name). IsUnsplit l members two) joined step
  where
    next : take (i + 1) names ≡ take i names ++ n ∷ []
    next = (λ j. take (same j) names) ∙ take-suc names i d low ∙ (λ j. take i names ++ sym at j ∷ [])
      where
        same : i + 1 ≡ suc i
        same = omega arith

    joined : ((all ++ children (take i names)) ++ a ∷ []) ++ b ∷ [] ≡ all ++ children (take (i + 1) names)
    joined =
        append_assoc (all ++ children (take i names)) (a ∷ []) (b ∷ [])
        ∙ append_assoc all (children (take i names)) (a ∷ b ∷ [])
        ∙ ap (λ (l : List Name). all ++ l) ((λ j. children (take i names) ++ ea j ∷ eb j ∷ []) ∙ sym (children-push (take i names) n) ∙ ap children (sym next))

pub all_leaves : (mesh : Shape) (members found : Names) (names : List Name) → IsListOf members names → IsUnsplit (tops (size mesh) ++ children names) members found → found ≡ leaves mesh members
all_leaves mesh members found names is h = h ∙ same_left (tops (size mesh) ++ children names) (tops (size mesh) ++ children (items members)) members
    (λ q i. ⊎_elim (λ a. in-first q (tops (size mesh)) (children (items members)) a) (λ b. in-second q (tops (size mesh)) (children (items members)) (moved names (items members) q (λ n j. has-item members n (subst (λ (s : Names). Has s n) is.all (in-has n names j))) b)) (in-append q (tops (size mesh)) (children names) i))
    (λ q i. ⊎_elim (λ a. in-first q (tops (size mesh)) (children names) a) (λ b. in-second q (tops (size mesh)) (children names) (moved (items members) names q (λ n j. has-in n names (subst (λ (s : Names). Has s n) (sym is.all) (item-has members n j))) b)) (in-append q (tops (size mesh)) (children (items members)) i))
  where
    moved : (xs ys : List Name) (q : Name) → ((n : Name) → In n xs → In n ys) → In q (children xs) → In q (children ys)
    moved xs ys q f i = let c = children-in xs q i in subst (λ (y : Name). In y (children ys)) (sym c.is) (in-children q.0 c.side c.word ys (f (q.0, c.word) c.parent))

-- the names of a forest can have children
pub members_short : (mesh : Shape) (members : Names) (names : List Name) → IsForest mesh members → IsListOf members names → (i : ℕ) (d : Name) → i < length names → depth (slice_index_or names i d) < 24
members_short mesh members names forest is i d h =
    let low = forest.shallow (slice_index_or names i d) (subst (λ (s : Names). Has s (slice_index_or names i d)) is.all (in-has (slice_index_or names i d) names (item-in names i d h))) in
    omega (arith, low)

-- names of a list, by their places
in-contains : (q : Name) (xs : List Name) → In q xs → Contains xs q
in-contains q [] i = absurd i
in-contains q (x ∷ xs) i = ⊎_elim
    (λ (e : q ≡ x). (0, omega arith, sym e))
    (λ (r : In q xs). let c = in-contains q xs r in let low = c.1 in (suc c.0, omega (arith, low), c.2))
    i

contains-in : (q : Name) (xs : List Name) → Contains xs q → In q xs
contains-in q xs c = subst (λ (y : Name). In y xs) c.2 (item-in xs c.0 q c.1)

-- what is left of a list that is sorted and stripped of equal neighbours is the list of its set
pub listed : (found sorted last : List Name) → IsPermutation found sorted → IsSorted name_cmp sorted → last ≡ dedup name_eq sorted → IsListOf (set_of found) last
listed found sorted last moved order is = record {
  in_order = subst (IsStrictlySortedBy name_cmp) (sym is) (IsStrictlySortedBy-dedup name_cmp_total (λ x y. refl) sorted order);
  all = one_set last found
      (λ q i. contains-in q found (Contains-permutation sorted found q (IsPermutation-sym found sorted moved) (Contains-from_dedup name_eq sorted q (subst (λ (l : List Name). Contains l q) is (in-contains q last i)))))
      (λ q i. contains-in q last (subst (λ (l : List Name). Contains l q) (sym is) (Contains-dedup (eq_by_cmp_equiv name_cmp_total) (λ x y e. tied-same x y e) sorted q (Contains-permutation found sorted q moved (in-contains q found i)))));
}
