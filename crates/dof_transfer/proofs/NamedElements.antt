-- Values of elements by name: what patches do to the values of a forest's leaves.
use Rattle.std.proofs.Common.{◌≡◌, ◌≢◌, ℕ, suc, ◌<◌, eqb, arith, ℤ, pos, Bool, true, false, cond, not, ◌&&◌, List, [], ◌∷◌, ◌++◌, refl, ap, sym, ◌∙◌, subst, Option, Some, None, option_map, unwrap_or, true≢false, map, ◌⊎◌, inl, inr, ⊎_elim}
use Rattle.std.specs.Prelude.{◌+ℤ◌, IsSome, IfSome}
use Rattle.std.specs.List.{All, AllPairs}
use Rattle.std.proofs.lemmas.List.Elements.{All-head, All-tail}
use Rattle.std.specs.Ordering.{eq_by_cmp}
use Rattle.std.specs.FinSet.{contains, contains-difference, difference, from_list, union}
use Rattle.std.specs.FinMap.{get, get-insert, get-remove}
use Rattle.mesh_names.specs.Names.{Name, name_cmp, depth}
use Rattle.mesh_names.specs.Order.{name_cmp_total}
use Rattle.mesh_names.specs.Triangles.{Shape, level, size}
use Rattle.mesh_names.specs.Forests.{Names, Has, IsLeaf}
use Rattle.mesh_names.specs.declared.patch.PatchName.{PatchName}
use Rattle.mesh_names.proofs.Sets.{In, both_sides, has-in, in-has, is_or_not, same-tied, tied-same, union-either, union-left, union-right}
use Rattle.name_tree.specs.declared.nodes.Entry.{Entry}
use Rattle.dof_transfer.specs.Held.{Held, value_of, given_back, taken, all_given_back, all_taken, least_unused}
use Rattle.dof_transfer.specs.Exchanges.{IsPair, value_in, bisected, all_bisected, coarsened, all_coarsened, by_level, joined, all_members, members_of, child, children, element_change, halves, listed, part, sum_in, with_values}
use Rattle.dof_transfer.specs.Changes.{AreBisections, AreCoarsenings, AreOfForest, AreParents, IsBottom, IsChange}
use Rattle.dof_transfer.specs.ByName.{AreElementValues, HasValue, split, sum, IsSplit, LeavesHave}
use Rattle.dof_transfer.proofs.FirstNames.{untied}
use Rattle.dof_transfer.proofs.Exchanging.{Misses, misses-children, other_child}

-- the value of each name once one has given its index back, or taken one
pub value-given : (held : Held) (n q : Name) → value_of (given_back held n) q ≡ cond (eq_by_cmp name_cmp q n) None (value_of held q)
value-given held n q = ap (option_map (λ (e : Entry). e.value)) (get-remove name_cmp_total held.live n q) ∙ moved (eq_by_cmp name_cmp q n) (get held.live q) where
  moved : (b : Bool) (o : Option Entry) → option_map (λ (e : Entry). e.value) (cond b None o) ≡ cond b None (option_map (λ (e : Entry). e.value) o)
  moved true o = refl
  moved false o = refl

pub value-took : (held : Held) (n q : Name) (v : ℤ) → value_of (taken held n v) q ≡ cond (eq_by_cmp name_cmp q n) (Some v) (value_of held q)
value-took held n q v = ap (option_map (λ (e : Entry). e.value)) (get-insert name_cmp_total held.live n (record { index = least_unused held.flags; value = v }) q) ∙ moved (eq_by_cmp name_cmp q n) (get held.live q) where
  moved : (b : Bool) (o : Option Entry) → option_map (λ (e : Entry). e.value) (cond b (Some (record { index = least_unused held.flags; value = v })) o) ≡ cond b (Some v) (option_map (λ (e : Entry). e.value) o)
  moved true o = refl
  moved false o = refl

given-else : (held : Held) (n q : Name) → q ≢ n → value_of (given_back held n) q ≡ value_of held q
given-else held n q other = value-given held n q ∙ ap (λ (b : Bool). cond b None (value_of held q)) (untied q n other)

given-here : (held : Held) (n q : Name) → q ≡ n → value_of (given_back held n) q ≡ None
given-here held n q e = value-given held n q ∙ ap (λ (b : Bool). cond b None (value_of held q)) (same-tied q n e)

pub took-here : (held : Held) (n q : Name) (v : ℤ) → q ≡ n → value_of (taken held n v) q ≡ Some v
took-here held n q v e = value-took held n q v ∙ ap (λ (b : Bool). cond b (Some v) (value_of held q)) (same-tied q n e)

pub took-else : (held : Held) (n q : Name) (v : ℤ) → q ≢ n → value_of (taken held n v) q ≡ value_of held q
took-else held n q v other = value-took held n q v ∙ ap (λ (b : Bool). cond b (Some v) (value_of held q)) (untied q n other)

-- a name stands in a list or not
pub in-or-misses : (q : Name) (ns : List Name) → In q ns ⊎ Misses q ns
in-or-misses q [] = inr tt
in-or-misses q (n ∷ ns) = ⊎_elim
    (λ (t : eq_by_cmp name_cmp q n ≡ true). inl (inl (tied-same q n t)))
    (λ (f : eq_by_cmp name_cmp q n ≡ false). ⊎_elim (λ (i : In q ns). inl (inr i)) (λ (m : Misses q ns). inr ((λ e. both_sides (eq_by_cmp name_cmp q n) (same-tied q n e) f), m)) (in-or-misses q ns))
    (is_or_not (eq_by_cmp name_cmp q n))

pub not-in : (q : Name) (ns : List Name) → Misses q ns → In q ns → ⊥
not-in q [] m i = i
not-in q (n ∷ ns) m i = ⊎_elim (λ (e : q ≡ n). m.0 e) (λ (j : In q ns). not-in q ns m.1 j) i

-- what many give back and take
pub given-miss : (held : Held) (ns : List Name) (q : Name) → Misses q ns → value_of (all_given_back held ns) q ≡ value_of held q
given-miss held [] q m = refl
given-miss held (n ∷ ns) q m = given-miss (given_back held n) ns q m.1 ∙ given-else held n q m.0

given-none : (held : Held) (ns : List Name) (q : Name) → value_of held q ≡ None → value_of (all_given_back held ns) q ≡ None
given-none held [] q e = e
given-none held (n ∷ ns) q e = given-none (given_back held n) ns q (value-given held n q ∙ ap (cond (eq_by_cmp name_cmp q n) None) e ∙ both (eq_by_cmp name_cmp q n)) where
  both : (b : Bool) → cond {A = Option ℤ} b None None ≡ None
  both true = refl
  both false = refl

pub given-hit : (held : Held) (ns : List Name) (q : Name) → In q ns → value_of (all_given_back held ns) q ≡ None
given-hit held [] q i = absurd i
given-hit held (n ∷ ns) q i = ⊎_elim (λ (e : q ≡ n). given-none (given_back held n) ns q (given-here held n q e)) (λ (j : In q ns). given-hit (given_back held n) ns q j) i

-- the names that take
abbrev takers : List (Name × ℤ) → List Name
takers [] = []
takers (p ∷ ps) = p.0 ∷ takers ps

took-miss : (held : Held) (ps : List (Name × ℤ)) (q : Name) → Misses q (takers ps) → value_of (all_taken held ps) q ≡ value_of held q
took-miss held [] q m = refl
took-miss held (p ∷ ps) q m = took-miss (taken held p.0 p.1) ps q m.1 ∙ took-else held p.0 q p.1 m.0

takers-halves : (held : Held) (ns : List Name) → takers (halves held ns) ≡ children ns
takers-halves held [] = refl
takers-halves held (n ∷ ns) = ap (λ (l : List Name). child false n ∷ child true n ∷ l) (takers-halves held ns)

takers-sums : (f : Name → ℤ) (ns : List Name) → takers (with_values ns (map f ns)) ≡ ns
takers-sums f [] = refl
takers-sums f (n ∷ ns) = ap (λ (l : List Name). n ∷ l) (takers-sums f ns)

-- no name stands twice
abbrev pub Apart : List Name → Type 0
Apart [] = Unit {0}
Apart (n ∷ ns) = Misses n ns × Apart ns

halves-hit : (held new : Held) (ns : List Name) (n : Name) (b : Bool) → Apart ns → In n ns → value_of (all_taken new (halves held ns)) (child b n) ≡ Some (part b (value_in held n))
halves-hit held new [] n b apart i = absurd i
halves-hit held new (m ∷ ms) n b apart i = ⊎_elim
    (λ (e : n ≡ m). subst (λ (k : Name). value_of (all_taken new (halves held (m ∷ ms))) (child b k) ≡ Some (part b (value_in held k))) (sym e) (here b))
    (λ (j : In n ms). halves-hit held (taken (taken new (child false m) (part false (value_in held m))) (child true m) (part true (value_in held m))) ms n b apart.1 j)
    i where
      rest : (c : Bool) → Misses (child c m) (takers (halves held ms))
      rest c = subst (Misses (child c m)) (sym (takers-halves held ms)) (misses-children ms c m apart.0)

      here : (c : Bool) → value_of (all_taken new (halves held (m ∷ ms))) (child c m) ≡ Some (part c (value_in held m))
      here true = took-miss _ (halves held ms) (child true m) (rest true) ∙ took-here _ (child true m) (child true m) _ refl
      here false = took-miss _ (halves held ms) (child false m) (rest false) ∙ took-else _ (child true m) (child false m) _ (λ e. other_child m (sym e)) ∙ took-here _ (child false m) (child false m) _ refl

sums-hit : (f : Name → ℤ) (new : Held) (ns : List Name) (n : Name) → Apart ns → In n ns → value_of (all_taken new (with_values ns (map f ns))) n ≡ Some (f n)
sums-hit f new [] n apart i = absurd i
sums-hit f new (m ∷ ms) n apart i = ⊎_elim
    (λ (e : n ≡ m). subst (λ (k : Name). value_of (all_taken new (with_values (m ∷ ms) (map f (m ∷ ms)))) k ≡ Some (f k)) (sym e) here)
    (λ (j : In n ms). sums-hit f (taken new m (f m)) ms n apart.1 j)
    i where
      here : value_of (all_taken new (with_values (m ∷ ms) (map f (m ∷ ms)))) m ≡ Some (f m)
      here = took-miss (taken new m (f m)) (with_values ms (map f ms)) m (subst (Misses m) (sym (takers-sums f ms)) apart.0) ∙ took-here new m m (f m) refl

-- children and their parents
child-of : (q : Name) (ns : List Name) → In q (children ns) → (b : Bool) × (n : Name) × In n ns × (q ≡ child b n)
child-of q [] i = absurd i
child-of q (n ∷ ns) i = ⊎_elim
    (λ (e : q ≡ child false n). (false, n, inl refl, e))
    (λ (j : (q ≡ child true n) ⊎ In q (children ns)). ⊎_elim
    (λ (e : q ≡ child true n). (true, n, inl refl, e))
    (λ (k : In q (children ns)). let r = child-of q ns k in (r.0, r.1, inr r.2, r.3))
    j)
    i

child-in : (b : Bool) (n : Name) (ns : List Name) → In n ns → In (child b n) (children ns)
child-in b n [] i = absurd i
child-in b n (m ∷ ns) i = ⊎_elim (λ (e : n ≡ m). first b e) (λ (j : In n ns). inr (inr (child-in b n ns j))) i where
  first : (c : Bool) → n ≡ m → In (child c n) (children (m ∷ ns))
  first false e = inl (ap (child false) e)
  first true e = inr (inl (ap (child true) e))

-- what is true of all is true of each
pub of-each : (P : Name → Type 0) (ns : List Name) (n : Name) → All P ns → In n ns → P n
of-each P [] n all i = absurd i
of-each P (m ∷ ns) n all i = ⊎_elim (λ (e : n ≡ m). subst P (sym e) (All-head P m ns all)) (λ (j : In n ns). of-each P ns n (All-tail P m ns all) j) i

-- members with their parents, all of the mesh
pub record Grown (mesh : Shape) (members : Names) : Type 0 where
  pub rooted : (n : Name) → Has members n → n.0 < size mesh
  pub closed : (root : ℕ) (b : Bool) (w : List Bool) → Has members (root, b ∷ w) → Has members (root, w)

-- one more list of leaves is bisected: with its names the forest has their children as leaves
pub with-either : (members : Names) (ns : List Name) (q : Name) → Has (union members (from_list ns)) q → Has members q ⊎ In q ns
with-either members ns q h = ⊎_elim (λ (a : Has members q). inl a) (λ (b : Has (from_list ns) q). inr (has-in q ns b)) (union-either members (from_list ns) q h)

-- what is in neither is not in both together
no-with : (members : Names) (ns : List Name) (q : Name) → contains members q ≡ false → Misses q ns → contains (union members (from_list ns)) q ≡ false
no-with members ns q out m = ⊎_elim
    (λ (t : Has (union members (from_list ns)) q). ⊎_elim (λ (a : Has members q). absurd (both_sides (contains members q) a out)) (λ (i : In q ns). absurd (not-in q ns m i)) (with-either members ns q t))
    (λ (f : contains (union members (from_list ns)) q ≡ false). f)
    (is_or_not (contains (union members (from_list ns)) q))

module _ (mesh : Shape) (members : Names) (ns : List Name) (grown : Grown mesh members) (leaf : (n : Name) → In n ns → IsLeaf mesh members n) where
  abbrev more : Names
  more = union members (from_list ns)

  -- a leaf's child is no member, and no leaf's child is a leaf
  child-out : (b : Bool) (n : Name) → In n ns → contains members (child b n) ≡ false
  child-out b n i = ⊎_elim
      (λ (t : Has members (child b n)). absurd (both_sides (contains members n) (grown.closed n.0 b n.1 t) (leaf n i).unsplit))
      (λ (f : contains members (child b n) ≡ false). f)
      (is_or_not (contains members (child b n)))

  child-misses : (b : Bool) (n : Name) → In n ns → Misses (child b n) ns
  child-misses b n i = ⊎_elim
      (λ (j : In (child b n) ns). absurd (both_sides (contains members n) ((leaf (child b n) j).born b n.1 refl) (leaf n i).unsplit))
      (λ (m : Misses (child b n) ns). m)
      (in-or-misses (child b n) ns)

  child-leaf : (b : Bool) (n : Name) → In n ns → IsLeaf mesh more (child b n)
  child-leaf b n i = record {
    rooted = (leaf n i).rooted;
    unsplit = no-with members ns (child b n) (child-out b n i) (child-misses b n i);
    born = λ c w e. union-right members (from_list ns) (n.0, w) (in-has (n.0, w) ns (subst (λ (u : List Bool). In (n.0, u) ns) (tail-of b c n.1 w e) i));
  } where
    tail-of : (b c : Bool) (v w : List Bool) → b ∷ v ≡ c ∷ w → v ≡ w
    tail-of b c v w e = ap rest e where
      rest : List Bool → List Bool
      rest [] = []
      rest (x ∷ l) = l

  -- a leaf that is no child of these was one before
  old-leaf : (q : Name) → Misses q (children ns) → IsLeaf mesh more q → IsLeaf mesh members q
  old-leaf q m l = record {
    rooted = l.rooted;
    unsplit = ⊎_elim
        (λ (t : Has members q). absurd (both_sides (contains more q) (union-left members (from_list ns) q t) l.unsplit))
        (λ (f : contains members q ≡ false). f)
        (is_or_not (contains members q));
    born = λ b w e. ⊎_elim
        (λ (a : Has members (q.0, w)). a)
        (λ (i : In (q.0, w) ns). absurd (not-in q (children ns) m (subst (λ (u : List Bool). In (q.0, u) (children ns)) (sym e) (child-in b (q.0, w) ns i))))
        (with-either members ns (q.0, w) (l.born b w e));
  }

  -- a leaf that is none of these is one still
  new-leaf : (q : Name) → Misses q ns → IsLeaf mesh members q → IsLeaf mesh more q
  new-leaf q m l = record {
    rooted = l.rooted;
    unsplit = no-with members ns q l.unsplit m;
    born = λ b w e. union-left members (from_list ns) (q.0, w) (l.born b w e);
  }

  split-leaf : (q : Name) → In q ns → IsLeaf mesh more q → ⊥
  split-leaf q i l = both_sides (contains more q) (union-right members (from_list ns) q (in-has q ns i)) l.unsplit

  pub grown-with : Grown mesh more
  grown-with = record {
    rooted = λ n h. ⊎_elim (λ (a : Has members n). grown.rooted n a) (λ (i : In n ns). (leaf n i).rooted) (with-either members ns n h);
    closed = λ r b w h. union-left members (from_list ns) (r, w) (⊎_elim (λ (a : Has members (r, b ∷ w)). grown.closed r b w a) (λ (i : In (r, b ∷ w) ns). (leaf (r, b ∷ w) i).born b w refl) (with-either members ns (r, b ∷ w) h));
  }

  abbrev halved : Held → Held
  halved held = all_taken (all_given_back held ns) (halves held ns)

  abbrev Told : Held → Held → Name → Type 0
  Told old held q = (v : ℤ) × (value_of (halved held) q ≡ Some v) × IsSplit old q v

  -- children have the parts of their parents' values, and all else stays
  pub bisected-values : (old held : Held) → Apart ns → LeavesHave mesh members held (IsSplit old) → LeavesHave mesh more (all_taken (all_given_back held ns) (halves held ns)) (IsSplit old)
  bisected-values old held apart has = record {
    leaves = λ q l. ⊎_elim
        (λ (i : In q (children ns)). subst (λ (k : Name). Told old held k) (sym (child-of q ns i).3) (at-child (child-of q ns i).0 (child-of q ns i).1 (child-of q ns i).2))
        (λ (m : Misses q (children ns)). ⊎_elim
        (λ (j : In q ns). absurd (split-leaf q j l))
        (λ (n : Misses q ns). let r = has.leaves q (old-leaf q m l) in (r.0, same q m n ∙ r.1, r.2))
        (in-or-misses q ns))
        (in-or-misses q (children ns));
    none = λ q no. ⊎_elim
        (λ (i : In q (children ns)). absurd (no (subst (IsLeaf mesh more) (sym (child-of q ns i).3) (child-leaf (child-of q ns i).0 (child-of q ns i).1 (child-of q ns i).2))))
        (λ (m : Misses q (children ns)). ⊎_elim
        (λ (j : In q ns). took-miss (all_given_back held ns) (halves held ns) q (missed q m) ∙ given-hit held ns q j)
        (λ (n : Misses q ns). same q m n ∙ has.none q (λ l. no (new-leaf q n l)))
        (in-or-misses q ns))
        (in-or-misses q (children ns));
  } where
    missed : (q : Name) → Misses q (children ns) → Misses q (takers (halves held ns))
    missed q m = subst (Misses q) (sym (takers-halves held ns)) m

    same : (q : Name) → Misses q (children ns) → Misses q ns → value_of (halved held) q ≡ value_of held q
    same q m n = took-miss (all_given_back held ns) (halves held ns) q (missed q m) ∙ given-miss held ns q n

    at-child : (b : Bool) (n : Name) → In n ns → Told old held (child b n)
    at-child b n i =
        let r = has.leaves n (leaf n i) in (
          part b r.0,
          halves-hit held (all_given_back held ns) ns n b apart i ∙ ap (λ (o : Option ℤ). Some (part b (unwrap_or o (pos 0)))) r.1,
          record {
            word = b ∷ r.2.word;
            leaf = r.2.leaf;
            value = r.2.value;
            below = ap (λ (w : List Bool). b ∷ w) r.2.below;
            held = r.2.held;
            is = ap (part b) r.2.is;
          },
        )

-- a list of members is taken away: without its names the forest has these as leaves
pub less-member : (members : Names) (ns : List Name) (q : Name) → Has (difference members (from_list ns)) q → Has members q × Misses q ns
less-member members ns q h = ⊎_elim
    (λ (i : In q ns). absurd (both_sides (contains members q && not (contains (from_list ns) q)) (sym (contains-difference name_cmp_total members (from_list ns) q) ∙ h) (gone (contains members q) (contains (from_list ns) q) (in-has q ns i))))
    (λ (m : Misses q ns). (kept (contains members q) (contains (from_list ns) q) (sym (contains-difference name_cmp_total members (from_list ns) q) ∙ h), m))
    (in-or-misses q ns) where
      gone : (a b : Bool) → b ≡ true → (a && not b) ≡ false
      gone true b e = ap not e
      gone false b e = refl

      kept : (a b : Bool) → (a && not b) ≡ true → a ≡ true
      kept true b e = refl
      kept false b e = e

pub less-has : (members : Names) (ns : List Name) (q : Name) → Has members q → Misses q ns → Has (difference members (from_list ns)) q
less-has members ns q h m = contains-difference name_cmp_total members (from_list ns) q ∙ (λ i. h i && not (out i)) where
  out : contains (from_list {R = name_cmp} ns) q ≡ false
  out = ⊎_elim (λ (t : Has (from_list ns) q). absurd (not-in q ns m (has-in q ns t))) (λ (f : contains (from_list {R = name_cmp} ns) q ≡ false). f) (is_or_not (contains (from_list {R = name_cmp} ns) q))

module _ (mesh : Shape) (members : Names) (ns : List Name) (grown : Grown mesh members) (bottom : (n : Name) → In n ns → IsBottom members n) where
  abbrev less : Names
  less = difference members (from_list ns)

  no-child : (b : Bool) (n : Name) → In n ns → contains members (child b n) ≡ false
  no-child true n i = (bottom n i).one
  no-child false n i = (bottom n i).zero

  -- what has a member below it is none of these
  above-misses : (b : Bool) (q : Name) → Has members (child b q) → Misses q ns
  above-misses b q h = ⊎_elim (λ (i : In q ns). absurd (both_sides (contains members (child b q)) h (no-child b q i))) (λ (m : Misses q ns). m) (in-or-misses q ns)

  no-less : (q : Name) → contains members q ≡ false → contains less q ≡ false
  no-less q out = ⊎_elim (λ (t : Has less q). absurd (both_sides (contains members q) (less-member members ns q t).0 out)) (λ (f : contains less q ≡ false). f) (is_or_not (contains less q))

  child-was-leaf : (b : Bool) (n : Name) → In n ns → IsLeaf mesh members (child b n)
  child-was-leaf b n i = record {
    rooted = grown.rooted n (bottom n i).member;
    unsplit = no-child b n i;
    born = λ c w e. subst (λ (u : List Bool). Has members (n.0, u)) (ap rest e) (bottom n i).member;
  } where
    rest : List Bool → List Bool
    rest [] = []
    rest (x ∷ l) = l

  joined-leaf : (n : Name) → In n ns → IsLeaf mesh less n
  joined-leaf n i = record {
    rooted = grown.rooted n (bottom n i).member;
    unsplit = ⊎_elim (λ (t : Has less n). absurd (not-in n ns (less-member members ns n t).1 i)) (λ (f : contains less n ≡ false). f) (is_or_not (contains less n));
    born = λ b w e.
        let whole : Has members (n.0, b ∷ w) = subst (λ (u : List Bool). Has members (n.0, u)) e (bottom n i).member in
        less-has members ns (n.0, w) (grown.closed n.0 b w whole) (above-misses b (n.0, w) whole);
  }

  was-leaf : (q : Name) → Misses q ns → IsLeaf mesh less q → IsLeaf mesh members q
  was-leaf q m l = record {
    rooted = l.rooted;
    unsplit = ⊎_elim (λ (t : Has members q). absurd (both_sides (contains less q) (less-has members ns q t m) l.unsplit)) (λ (f : contains members q ≡ false). f) (is_or_not (contains members q));
    born = λ b w e. (less-member members ns (q.0, w) (l.born b w e)).0;
  }

  still-leaf : (q : Name) → Misses q (children ns) → IsLeaf mesh members q → IsLeaf mesh less q
  still-leaf q m l = record {
    rooted = l.rooted;
    unsplit = no-less q l.unsplit;
    born = λ b w e. less-has members ns (q.0, w) (l.born b w e) (⊎_elim
        (λ (i : In (q.0, w) ns). absurd (not-in q (children ns) m (subst (λ (u : List Bool). In (q.0, u) (children ns)) (sym e) (child-in b (q.0, w) ns i))))
        (λ (n : Misses (q.0, w) ns). n)
        (in-or-misses (q.0, w) ns));
  }

  gone-leaf : (q : Name) → In q (children ns) → IsLeaf mesh less q → ⊥
  gone-leaf q i l =
      let r = child-of q ns i in
      not-in r.1 ns (less-member members ns r.1 (subst (λ (k : ℕ). Has less (k, r.1.1)) (ap (λ (n : Name). n.0) r.3) (l.born r.0 r.1.1 (ap (λ (n : Name). n.1) r.3)))).1 r.2

  pub grown-less : Grown mesh less
  grown-less = record {
    rooted = λ n h. grown.rooted n (less-member members ns n h).0;
    closed = λ r b w h. let was = (less-member members ns (r, b ∷ w) h).0 in less-has members ns (r, w) (grown.closed r b w was) (above-misses b (r, w) was);
  }

  abbrev summed : Held → Held
  summed held = coarsened held ns

  -- these have the sums of their children's values, and all else stays
  pub coarsened-values : (old held : Held) → Apart ns → LeavesHave mesh members held (HasValue old) → LeavesHave mesh less (summed held) (HasValue old)
  coarsened-values old held apart has = record {
    leaves = λ q l. ⊎_elim
        (λ (i : In q ns). joined-value q i)
        (λ (m : Misses q ns). ⊎_elim
        (λ (j : In q (children ns)). absurd (gone-leaf q j l))
        (λ (n : Misses q (children ns)). let r = has.leaves q (was-leaf q m l) in (r.0, same q m n ∙ r.1, r.2))
        (in-or-misses q (children ns)))
        (in-or-misses q ns);
    none = λ q no. ⊎_elim
        (λ (i : In q ns). absurd (no (joined-leaf q i)))
        (λ (m : Misses q ns). ⊎_elim
        (λ (j : In q (children ns)). took-miss (all_given_back held (children ns)) (with_values ns (map (sum_in held) ns)) q (missed q m) ∙ given-hit held (children ns) q j)
        (λ (n : Misses q (children ns)). same q m n ∙ has.none q (λ l. no (still-leaf q n l)))
        (in-or-misses q (children ns)))
        (in-or-misses q ns);
  } where
    missed : (q : Name) → Misses q ns → Misses q (takers (with_values ns (map (sum_in held) ns)))
    missed q m = subst (Misses q) (sym (takers-sums (sum_in held) ns)) m

    same : (q : Name) → Misses q ns → Misses q (children ns) → value_of (summed held) q ≡ value_of held q
    same q m n = took-miss (all_given_back held (children ns)) (with_values ns (map (sum_in held) ns)) q (missed q m) ∙ given-miss held (children ns) q n

    joined-value : (n : Name) → In n ns → (v : ℤ) × (value_of (summed held) n ≡ Some v) × HasValue old n v
    joined-value n i =
        let a = has.leaves (child false n) (child-was-leaf false n i) in
        let b = has.leaves (child true n) (child-was-leaf true n i) in
        (a.0 +ℤ b.0, sums-hit (sum_in held) (all_given_back held (children ns)) ns n apart i ∙ (λ j. Some (unwrap_or (a.1 j) (pos 0) +ℤ unwrap_or (b.1 j) (pos 0))), sum n a.0 b.0 a.2 b.2)

-- the members of a patch that can be bisected stand apart
pair-apart : (p : PatchName) → IsPair p → Apart (members_of p)
pair-apart p pair = by p.second pair.second where
  by : (o : Option Name) → IfSome o (λ m. (depth m < 24) × (m ≢ p.first)) → Apart (p.first ∷ listed o)
  by None h = (tt, tt)
  by (Some m) h = ((λ e. h.1 (sym e), tt), (tt, tt))

-- born patches one after another
all-bisected-values : (mesh : Shape) (old : Held) (ps : List PatchName) (members : Names) (held : Held) (after : Names) → Grown mesh members → LeavesHave mesh members held (IsSplit old) → AreBisections mesh members ps after →
    Grown mesh after × LeavesHave mesh after (all_bisected held ps) (IsSplit old)
all-bisected-values mesh old [] members held after grown has is = subst (λ (m : Names). Grown mesh m × LeavesHave mesh m held (IsSplit old)) (sym is) (grown, has)
all-bisected-values mesh old (p ∷ ps) members held after grown has is =
    let leaf : (n : Name) → In n (members_of p) → IsLeaf mesh members n = λ n i. of-each (IsLeaf mesh members) (members_of p) n is.0.leaves i in
    all-bisected-values mesh old ps (union members (from_list (members_of p))) (bisected held p) after
    (grown-with mesh members (members_of p) grown leaf)
    (bisected-values mesh members (members_of p) grown leaf old held (pair-apart p is.0.pair) has)
    is.1

-- all runs, one after another
abbrev flat : List (List Name) → List Name
flat [] = []
flat (r ∷ rs) = r ++ flat rs

flat-joined : (mesh : Shape) (n : Name) (runs : List (List Name)) → flat (joined mesh n runs) ≡ n ∷ flat runs
flat-joined mesh n [] = refl
flat-joined mesh n ([] ∷ runs) = refl
flat-joined mesh n ((m ∷ run) ∷ runs) = either (eqb (level mesh n) (level mesh m)) where
  either : (b : Bool) → flat (cond b ((n ∷ m ∷ run) ∷ runs) ((n ∷ []) ∷ (m ∷ run) ∷ runs)) ≡ n ∷ m ∷ (run ++ flat runs)
  either true = refl
  either false = refl

flat-by_level : (mesh : Shape) (ns : List Name) → flat (by_level mesh ns) ≡ ns
flat-by_level mesh [] = refl
flat-by_level mesh (n ∷ ns) = flat-joined mesh n (by_level mesh ns) ∙ ap (λ (l : List Name). n ∷ l) (flat-by_level mesh ns)

misses-first : (q : Name) (ms ns : List Name) → Misses q (ms ++ ns) → Misses q ms
misses-first q [] ns h = tt
misses-first q (m ∷ ms) ns h = (h.0, misses-first q ms ns h.1)

apart-first : (ms ns : List Name) → Apart (ms ++ ns) → Apart ms
apart-first [] ns h = tt
apart-first (m ∷ ms) ns h = (misses-first m ms ns h.0, apart-first ms ns h.1)

apart-rest : (ms ns : List Name) → Apart (ms ++ ns) → Apart ns
apart-rest [] ns h = h
apart-rest (m ∷ ms) ns h = apart-rest ms ns h.1

pairs-misses : (n : Name) (ns : List Name) → All (λ m. n ≢ m) ns → Misses n ns
pairs-misses n [] h = tt
pairs-misses n (m ∷ ns) h = (All-head (λ k. n ≢ k) m ns h, pairs-misses n ns (All-tail (λ k. n ≢ k) m ns h))

pairs-apart : (ns : List Name) → AllPairs (λ m n. m ≢ n) ns → Apart ns
pairs-apart [] h = tt
pairs-apart (n ∷ ns) h = (pairs-misses n ns (λ k d below. h 0 (suc k) d (omega arith) (omega arith)), pairs-apart ns (λ i j d low below. h (suc i) (suc j) d (omega arith) (omega arith)))

all-coarsened-values : (mesh : Shape) (old : Held) (runs : List (List Name)) (members : Names) (held : Held) (after : Names) → Apart (flat runs) → Grown mesh members → LeavesHave mesh members held (HasValue old) → AreCoarsenings members runs after →
    LeavesHave mesh after (all_coarsened held runs) (HasValue old)
all-coarsened-values mesh old [] members held after apart grown has is = subst (λ (m : Names). LeavesHave mesh m held (HasValue old)) (sym is) has
all-coarsened-values mesh old (ns ∷ runs) members held after apart grown has is =
    let bottom : (n : Name) → In n ns → IsBottom members n = λ n i. of-each (IsBottom members) ns n is.0 i in
    all-coarsened-values mesh old runs (difference members (from_list ns)) (coarsened held ns) after
    (apart-rest ns (flat runs) apart)
    (grown-less mesh members ns grown bottom)
    (coarsened-values mesh members ns grown bottom old held (apart-first ns (flat runs) apart) has)
    is.1

-- before a round each leaf has its own value
own-values : (mesh : Shape) (members : Names) (held : Held) → AreOfForest mesh members held → LeavesHave mesh members held (IsSplit held)
own-values mesh members held of = record {
  leaves = λ n l. own n (value_of held n) refl ((of.live n).0 l);
  none = λ n never. none n (value_of held n) refl never;
} where
  own : (n : Name) (o : Option ℤ) → value_of held n ≡ o → IsSome o → (v : ℤ) × (o ≡ Some v) × IsSplit held n v
  own n None e h = absurd (true≢false (sym h))
  own n (Some v) e h = (v, refl, record { word = []; leaf = n.1; value = v; below = refl; held = e; is = refl })

  none : (n : Name) (o : Option ℤ) → value_of held n ≡ o → (IsLeaf mesh members n → ⊥) → o ≡ None
  none n None e never = refl
  none n (Some v) e never = absurd (never ((of.live n).1 (subst IsSome (sym e) refl)))

-- the values after a round are those of the names
pub element-values : (mesh : Shape) (held : Held) (born died : List PatchName) (before after : Names) → AreParents mesh (all_members died) → AreOfForest mesh before held → IsChange mesh before born died after → AreElementValues mesh after held (element_change mesh held born died)
element-values mesh held born died before after parents of change =
    let grown : Grown mesh before = record { rooted = of.forest.rooted; closed = of.forest.closed } in
    let refined = all-bisected-values mesh held born before held change.refined grown (own-values mesh before held of) change.bisections in
    all-coarsened-values mesh held (by_level mesh (all_members died)) change.refined (all_bisected held born) after
    (subst Apart (sym (flat-by_level mesh (all_members died))) (pairs-apart (all_members died) parents.apart))
    refined.0
    (record { leaves = λ n l. let r = refined.1.leaves n l in (r.0, r.1, split n r.0 r.2); none = refined.1.none })
    change.coarsenings
