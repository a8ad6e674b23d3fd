-- The slots of a tree, name by name.
use Rattle.std.proofs.Common.{◌≡◌, ◌≢◌, ℕ, zero, suc, ◌<◌, ◌≤◌, set, Bool, true, false, cond, List, [], ◌∷◌, ◌++◌, map, length, refl, sym, ap, ◌∙◌, subst, arith, Option, Some, None, option_map, unwrap_or, is_some, inl, inr, ◌⊎◌, ⊎_elim, true≢false, length-set}
use Rattle.std.specs.Prelude.{All, slice_index_or}
use Rattle.std.proofs.lemmas.List.{get_or-set_same, get_or-set_other, get_or_past}
use Rattle.std.proofs.lemmas.Bool.{cases_lt}
use Rattle.std.specs.Ordering.{eq_by_cmp}
use Rattle.std.specs.FinMap.{contains_key, empty, find, get, get-empty, insert, get-from_entries, get-insert, same_map}
use Rattle.mesh_names.specs.Names.{Name, depth, name_cmp}
use Rattle.mesh_names.specs.Order.{name_cmp_total, name_cmp-same}
use Rattle.mesh_names.proofs.Neighbours.{none_some}
use Rattle.mesh_names.proofs.Sets.{is_or_not, same-tied, tied-same}
use Rattle.name_tree.specs.declared.nodes.Node.{Node}
use Rattle.name_tree.specs.declared.nodes.Nodes.{Nodes}
use Rattle.name_tree.specs.Growth.{Keeps}
use Rattle.name_tree.specs.NodeSlots.{gathered, moved_node, names_within, slots_of, with_slot, words}
use Rattle.name_tree.specs.Slots.{Slot, live_at, live_of, moved_slot}
use Rattle.name_tree.specs.Trees.{IsBlank, IsKept, IsTree, Pairs, Root, Source, Under, blank, live_in, node_at, pair_at, pairs_of, place, slot_in}
use Rattle.name_tree.proofs.LiveNames.{same_live}
use Rattle.name_tree.proofs.MorePairs.{blanks-else, named-within}
use Rattle.name_tree.proofs.Places.{named-place, nat_either, one_place, place-kept, top-nowhere}

-- in a list
abbrev among : {A : Type 0} → A → List A → Type 0
among x [] = ⊥
among x (y ∷ ys) = (x ≡ y) ⊎ among x ys

among-left : {A : Type 0} (x : A) (xs ys : List A) → among x xs → among x (xs ++ ys)
among-left x [] ys h = absurd h
among-left x (y ∷ xs) ys h = ⊎_elim (λ (e : x ≡ y). inl e) (λ (r : among x xs). inr (among-left x xs ys r)) h

among-right : {A : Type 0} (x : A) (xs ys : List A) → among x ys → among x (xs ++ ys)
among-right x [] ys h = h
among-right x (y ∷ xs) ys h = inr (among-right x xs ys h)

among-either : {A : Type 0} (x : A) (xs ys : List A) → among x (xs ++ ys) → among x xs ⊎ among x ys
among-either x [] ys h = inr h
among-either x (y ∷ xs) ys h = ⊎_elim (λ (e : x ≡ y). inl (inl e)) (λ (r : among x (xs ++ ys)). ⊎_elim (λ (l : among x xs). inl (inr l)) (λ (m : among x ys). inr m) (among-either x xs ys r)) h

among-map : {A B : Type 0} (f : A → B) (x : A) (xs : List A) → among x xs → among (f x) (map f xs)
among-map f x [] h = absurd h
among-map f x (y ∷ xs) h = ⊎_elim (λ (e : x ≡ y). inl (ap f e)) (λ (r : among x xs). inr (among-map f x xs r)) h

from-map : {A B : Type 0} (f : A → B) (y : B) (xs : List A) → among y (map f xs) → (x : A) × (y ≡ f x) × among x xs
from-map f y [] h = absurd h
from-map f y (x ∷ xs) h = ⊎_elim (λ (e : y ≡ f x). (x, e, inl refl)) (λ (r : among y (map f xs)). let z = from-map f y xs r in (z.0, z.1, inr z.2)) h

among-words : (w : List Bool) (k : ℕ) → length w ≤ k → among w (words k)
unfolding words
among-words [] zero h = inl refl
among-words [] (suc k) h = inl refl
among-words (b ∷ w) zero h = absurd (omega arith)
among-words (false ∷ w) (suc k) h = inr (among-left (false ∷ w) (map (λ w. false ∷ w) (words k)) (map (λ w. true ∷ w) (words k)) (among-map (λ w. false ∷ w) w (words k) (among-words w k (omega arith))))
among-words (true ∷ w) (suc k) h = inr (among-right (true ∷ w) (map (λ w. false ∷ w) (words k)) (map (λ w. true ∷ w) (words k)) (among-map (λ w. true ∷ w) w (words k) (among-words w k (omega arith))))

words-short : (w : List Bool) (k : ℕ) → among w (words k) → length w ≤ k
unfolding words
words-short w zero h = ⊎_elim (λ (e : w ≡ []). omega (arith, ap length e)) (λ (f : ⊥). absurd f) h
words-short w (suc k) h =
    ⊎_elim
    (λ (e : w ≡ []). omega (arith, ap length e))
    (λ (r : among w (map (λ w. false ∷ w) (words k) ++ map (λ w. true ∷ w) (words k))).
    ⊎_elim
    (λ (l : among w (map (λ w. false ∷ w) (words k))). let z = from-map (λ w. false ∷ w) w (words k) l in let s = words-short z.0 k z.2 in omega (arith, ap length z.1))
    (λ (m : among w (map (λ w. true ∷ w) (words k))). let z = from-map (λ w. true ∷ w) w (words k) m in let s = words-short z.0 k z.2 in omega (arith, ap length z.1))
    (among-either w (map (λ w. false ∷ w) (words k)) (map (λ w. true ∷ w) (words k)) r))
    h

among-names : (q : Name) (r k : ℕ) → q.0 < r → depth q ≤ k → among q (names_within r k)
among-names q zero k low h = absurd (omega arith)
among-names q (suc r) k low h =
    ⊎_elim
    (λ (e : q.0 ≡ r). among-left q (map (λ w. (r, w)) (words k)) (names_within r k) (subst (λ (n : Name). among n (map (λ w. (r, w)) (words k))) (λ i. (sym e i, q.1)) (among-map (λ w. (r, w)) q.1 (words k) (among-words q.1 k h))))
    (λ (ne : q.0 ≢ r). among-right q (map (λ w. (r, w)) (words k)) (names_within r k) (among-names q r k (omega arith) h))
    (nat_either q.0 r)

names-short : (q : Name) (r k : ℕ) → among q (names_within r k) → depth q ≤ k
names-short q zero k h = absurd h
names-short q (suc r) k h =
    ⊎_elim
    (λ (l : among q (map (λ w. (r, w)) (words k))). let z = from-map (λ w. (r, w)) q (words k) l in let s = words-short z.0 k z.2 in omega (arith, ap depth z.1))
    (λ (m : among q (names_within r k)). names-short q r k m)
    (among-either q (map (λ w. (r, w)) (words k)) (names_within r k) h)

-- what is gathered of a name that has no slot
found-none : (f : Name → Option Slot) (q : Name) (ns : List Name) → f q ≡ None → find name_cmp q (gathered f ns) ≡ None
found-none f q [] none = refl
found-none f q (n ∷ ns) none = by (f n) refl (found-none f q ns none)
  where
    by : (o : Option Slot) → f n ≡ o → find name_cmp q (gathered f ns) ≡ None → find name_cmp q (with_slot n o (gathered f ns)) ≡ None
    by None e rest = rest
    by (Some s) e rest =
        ⊎_elim
        (λ (tied : eq_by_cmp name_cmp q n ≡ true). absurd (none_some s (sym none ∙ ap f (tied-same q n tied) ∙ e)))
        (λ (not : eq_by_cmp name_cmp q n ≡ false). ap (λ (b : Bool). cond b (Some s) (find name_cmp q (gathered f ns))) not ∙ rest)
        (is_or_not (eq_by_cmp name_cmp q n))

found-among : (f : Name → Option Slot) (q : Name) (ns : List Name) → among q ns → find name_cmp q (gathered f ns) ≡ f q
found-among f q [] h = absurd h
found-among f q (n ∷ ns) h = by (f n) refl (λ (r : among q ns). found-among f q ns r)
  where
    by : (o : Option Slot) → f n ≡ o → (among q ns → find name_cmp q (gathered f ns) ≡ f q) → find name_cmp q (with_slot n o (gathered f ns)) ≡ f q
    by None e rest = ⊎_elim (λ (is : q ≡ n). let none : f q ≡ None = ap f is ∙ e in found-none f q ns none ∙ sym none) rest h
    by (Some s) e rest =
        ⊎_elim
        (λ (tied : eq_by_cmp name_cmp q n ≡ true). ap (λ (b : Bool). cond b (Some s) (find name_cmp q (gathered f ns))) tied ∙ sym e ∙ ap f (sym (tied-same q n tied)))
        (λ (not : eq_by_cmp name_cmp q n ≡ false).
        ap (λ (b : Bool). cond b (Some s) (find name_cmp q (gathered f ns))) not
        ∙ ⊎_elim (λ (is : q ≡ n). absurd (true≢false (sym (same-tied q n is) ∙ not))) rest h)
        (is_or_not (eq_by_cmp name_cmp q n))

found-out : (f : Name → Option Slot) (q : Name) (ns : List Name) → (among q ns → ⊥) → find name_cmp q (gathered f ns) ≡ None
found-out f q [] out = refl
found-out f q (n ∷ ns) out = by (f n) (found-out f q ns (λ (r : among q ns). out (inr r)))
  where
    by : (o : Option Slot) → find name_cmp q (gathered f ns) ≡ None → find name_cmp q (with_slot n o (gathered f ns)) ≡ None
    by None rest = rest
    by (Some s) rest =
        ⊎_elim
        (λ (tied : eq_by_cmp name_cmp q n ≡ true). absurd (out (inl (tied-same q n tied))))
        (λ (not : eq_by_cmp name_cmp q n ≡ false). ap (λ (b : Bool). cond b (Some s) (find name_cmp q (gathered f ns))) not ∙ rest)
        (is_or_not (eq_by_cmp name_cmp q n))

module _ (t : Nodes) (q : Name) where
  abbrev slot : Name → Option Slot
  slot = slot_in (pairs_of t) t.nodes

  pub slot-low : depth q ≤ 24 → get (slots_of t) q ≡ slot_in (pairs_of t) t.nodes q
  unfolding slots_of
  slot-low low =
      get-from_entries name_cmp_total (gathered slot (names_within (length t.tops.items) 24)) q
      ∙ by (cases_lt q.0 (length t.tops.items))
    where
      by : (q.0 < length t.tops.items) ⊎ (length t.tops.items ≤ q.0) → find name_cmp q (gathered slot (names_within (length t.tops.items) 24)) ≡ slot q
      by h =
          ⊎_elim
          (λ (small : q.0 < length t.tops.items). found-among slot q (names_within (length t.tops.items) 24) (among-names q (length t.tops.items) 24 small low))
          (λ (large : length t.tops.items ≤ q.0).
          let none : slot q ≡ None = ap (option_map (λ i. (node_at t.nodes i).entry)) (top-nowhere (pairs_of t) q (get_or_past t.tops.items q.0 None large)) in
          found-none slot q (names_within (length t.tops.items) 24) none ∙ sym none)
          h

  pub slot-deep : 24 < depth q → get (slots_of t) q ≡ None
  unfolding slots_of
  slot-deep deep =
      get-from_entries name_cmp_total (gathered slot (names_within (length t.tops.items) 24)) q
      ∙ found-out slot q (names_within (length t.tops.items) 24) (λ h. let low = names-short q (length t.tops.items) 24 h in absurd (omega arith))

pub low_or_deep : (q : Name) → (depth q ≤ 24) ⊎ (24 < depth q)
low_or_deep q = ⊎_elim (λ (e : 24 < depth q). inr e) (λ (e : depth q ≤ 24). inl e) (cases_lt 24 (depth q))

-- nodes in which the same stands by name
pub same-entries : (t u : Nodes) → ((n : Name) → live_in (pairs_of u) u.nodes n ≡ live_in (pairs_of t) t.nodes n) → live_of (slots_of u) ≡ live_of (slots_of t)
same-entries t u h = same_live (slots_of u) (slots_of t) (λ q.
    ⊎_elim
    (λ (low : depth q ≤ 24). ap (λ (o : Option Slot). unwrap_or o None) (slot-low u q low) ∙ h q ∙ ap (λ (o : Option Slot). unwrap_or o None) (sym (slot-low t q low)))
    (λ (deep : 24 < depth q). ap (λ (o : Option Slot). unwrap_or o None) (slot-deep u q deep ∙ sym (slot-deep t q deep)))
    (low_or_deep q))

pub live-slot : (t : Nodes) (q : Name) → depth q ≤ 24 → live_at (slots_of t) q ≡ live_in (pairs_of t) t.nodes q
live-slot t q low = ap (λ (o : Option Slot). unwrap_or o None) (slot-low t q low)

-- a name without a node has no slot
pub no-slot : (t : Nodes) (q : Name) → place (pairs_of t) q.0 q.1 ≡ None → get (slots_of t) q ≡ None
no-slot t q none =
    ⊎_elim
    (λ (low : depth q ≤ 24). slot-low t q low ∙ ap (option_map (λ i. (node_at t.nodes i).entry)) none)
    (λ (deep : 24 < depth q). slot-deep t q deep)
    (low_or_deep q)

-- a name with a node has a slot
pub some-slot : (t : Nodes) (q : Name) (i : ℕ) → depth q ≤ 24 → place (pairs_of t) q.0 q.1 ≡ Some i → get (slots_of t) q ≡ Some (node_at t.nodes i).entry
some-slot t q i low there = slot-low t q low ∙ ap (option_map (λ i. (node_at t.nodes i).entry)) there

pub slot-there : (t : Nodes) (q : Name) (i : ℕ) → depth q ≤ 24 → place (pairs_of t) q.0 q.1 ≡ Some i → contains_key (slots_of t) q ≡ true
slot-there t q i low there = ap is_some (some-slot t q i low there)

-- no name loses its slot
pub keeps-slots : (t u : Nodes) → Keeps t u → (q : Name) → contains_key (slots_of t) q ≡ true → contains_key (slots_of u) q ≡ true
keeps-slots t u h q there =
    ⊎_elim
    (λ (low : depth q ≤ 24). by low (place (pairs_of t) q.0 q.1) refl)
    (λ (deep : 24 < depth q). absurd (true≢false (sym there ∙ ap is_some (slot-deep t q deep))))
    (low_or_deep q)
  where
    by : depth q ≤ 24 → (o : Option ℕ) → place (pairs_of t) q.0 q.1 ≡ o → contains_key (slots_of u) q ≡ true
    by low None e = absurd (true≢false (sym there ∙ ap is_some (no-slot t q e)))
    by low (Some i) e = slot-there u q i low (place-kept (pairs_of t) (pairs_of u) h.pairs q.0 q.1 i e)

-- another entry in the node of a name
module _ (t u : Nodes) (k : IsKept t) (n : Name) (i : ℕ) (e : Slot) (low : depth n ≤ 24) (there : place (pairs_of t) n.0 n.1 ≡ Some i)
    (nodes : u.nodes ≡ set t.nodes i (record (node_at t.nodes i) { entry = e })) (tops : u.tops.items ≡ t.tops.items) where
  abbrev put_in : List Node
  put_in = set t.nodes i (record (node_at t.nodes i) { entry = e })

  inside : i < length t.nodes
  inside = let a = named-within (pairs_of t) i k.count k.tree.within (named-place (pairs_of t) n.0 n.1 i there) in let w = k.whole in omega arith

  below_same : (j : ℕ) → (node_at put_in j).below ≡ (node_at t.nodes j).below
  below_same j =
      ⊎_elim
      (λ (is : j ≡ i). ap (λ (x : ℕ). (node_at put_in x).below) is ∙ ap (λ (x : Node). x.below) (get_or-set_same t.nodes i (record (node_at t.nodes i) { entry = e }) blank inside) ∙ ap (λ (x : ℕ). (node_at t.nodes x).below) (sym is))
      (λ (ne : j ≢ i). ap (λ (x : Node). x.below) (get_or-set_other t.nodes i j (record (node_at t.nodes i) { entry = e }) blank ne))
      (nat_either j i)

  same_pairs : (s : Source) → pair_at t.tops.items put_in s ≡ pair_at t.tops.items t.nodes s
  same_pairs (Root r) = refl
  same_pairs (Under j) = below_same j

  pub put-pairs : pairs_of u ≡ pairs_of t
  put-pairs = (λ j. pair_at (tops j) (nodes j)) ∙ (λ j s. same_pairs s j)

  pub put-kept : u.spare.items ≡ t.spare.items → IsKept u
  put-kept spare = record {
    count = k.count;
    whole = ap length nodes ∙ length-set t.nodes i _ ∙ k.whole;
    small = k.small;
    tree = subst (λ (l : List ℕ). IsTree (pairs_of u) k.count l) (sym spare) (subst (λ (f : Pairs). IsTree f k.count t.spare.items) (sym put-pairs) k.tree);
    blanks = subst (λ (l : List Node). All (IsBlank l) u.spare.items) (sym nodes) (subst (λ (l : List ℕ). All (IsBlank put_in) l) (sym spare) (blanks-else t.tops.items t.nodes k.count i t.spare.items _ k.tree (named-place (pairs_of t) n.0 n.1 i there) k.blanks));
  }

  at_name : (q : Name) → q ≡ n → slot_in (pairs_of t) put_in q ≡ Some e
  at_name q is = ap (slot_in (pairs_of t) put_in) is ∙ ap (option_map (λ j. (node_at put_in j).entry)) there ∙ ap (λ (x : Node). Some x.entry) (get_or-set_same t.nodes i (record (node_at t.nodes i) { entry = e }) blank inside)

  other_name : (q : Name) → q ≢ n → slot_in (pairs_of t) put_in q ≡ slot_in (pairs_of t) t.nodes q
  other_name q ne = by (place (pairs_of t) q.0 q.1) refl
    where
      by : (o : Option ℕ) → place (pairs_of t) q.0 q.1 ≡ o → option_map (λ j. (node_at put_in j).entry) o ≡ option_map (λ j. (node_at t.nodes j).entry) o
      by None at = refl
      by (Some j) at = ap (λ (x : Node). Some x.entry) (get_or-set_other t.nodes i j (record (node_at t.nodes i) { entry = e }) blank (λ (same : j ≡ i). let one = one_place (pairs_of t) k.tree.apart q.0 n.0 q.1 n.1 j at (there ∙ ap Some (sym same)) in ne (λ x. (one.0 x, one.1 x))))

  in_new : (q : Name) → slot_in (pairs_of u) u.nodes q ≡ slot_in (pairs_of t) put_in q
  in_new q = λ j. slot_in (put-pairs j) (nodes j) q

  pub put-slots : slots_of u ≡ insert (slots_of t) n e
  put-slots = same_map name_cmp_total name_cmp-same (slots_of u) (insert (slots_of t) n e) (λ q.
      ⊎_elim
      (λ (tied : eq_by_cmp name_cmp q n ≡ true).
      let is = tied-same q n tied in
      slot-low u q (subst (λ (m : Name). depth m ≤ 24) (sym is) low) ∙ in_new q ∙ at_name q is ∙ ap (λ (b : Bool). cond b (Some e) (get (slots_of t) q)) (sym tied) ∙ sym (get-insert name_cmp_total (slots_of t) n e q))
      (λ (not : eq_by_cmp name_cmp q n ≡ false).
      let ne : q ≢ n = λ (is : q ≡ n). true≢false (sym (same-tied q n is) ∙ not) in
      ⊎_elim
      (λ (small : depth q ≤ 24). slot-low u q small ∙ in_new q ∙ other_name q ne ∙ sym (slot-low t q small))
      (λ (deep : 24 < depth q). slot-deep u q deep ∙ sym (slot-deep t q deep))
      (low_or_deep q)
      ∙ ap (λ (b : Bool). cond b (Some e) (get (slots_of t) q)) (sym not)
      ∙ sym (get-insert name_cmp_total (slots_of t) n e q))
      (is_or_not (eq_by_cmp name_cmp q n)))

pub node-inside : (t : Nodes) (n : Name) (i : ℕ) → IsKept t → place (pairs_of t) n.0 n.1 ≡ Some i → i < length t.nodes
node-inside t n i k there = let a = named-within (pairs_of t) i k.count k.tree.within (named-place (pairs_of t) n.0 n.1 i there) in let w = k.whole in omega arith

pub new-slots : (t : Nodes) → t.tops.items ≡ [] → slots_of t ≡ empty
new-slots t none = same_map name_cmp_total name_cmp-same (slots_of t) empty (λ q. no-slot t q (top-nowhere (pairs_of t) q (ap (λ (l : List (Option ℕ)). slice_index_or l q.0 None) none)) ∙ sym (get-empty name_cmp q))

-- other indices in all entries
module _ (t u : Nodes) (moved : List ℕ) (moved_at : (i : ℕ) → node_at u.nodes i ≡ moved_node moved (node_at t.nodes i)) (long : length u.nodes ≡ length t.nodes) (tops : u.tops.items ≡ t.tops.items) where
  moved_pair : (s : Source) → pairs_of u s ≡ pairs_of t s
  moved_pair (Root r) = ap (λ (l : List (Option ℕ)). slice_index_or l r None) tops
  moved_pair (Under j) = ap (λ (x : Node). x.below) (moved_at j)

  pub moved-pairs : pairs_of u ≡ pairs_of t
  moved-pairs = λ i s. moved_pair s i

  pub moved-kept : IsKept t → u.spare.items ≡ t.spare.items → IsKept u
  moved-kept k spare = record {
    count = k.count;
    whole = long ∙ k.whole;
    small = k.small;
    tree = subst (λ (l : List ℕ). IsTree (pairs_of u) k.count l) (sym spare) (subst (λ (f : Pairs). IsTree f k.count t.spare.items) (sym moved-pairs) k.tree);
    blanks = subst (λ (l : List ℕ). All (IsBlank u.nodes) l) (sym spare) (λ i d low. let b = k.blanks i d low in record { zero = moved_at _ ∙ ap (moved_node moved) b.zero; one = moved_at _ ∙ ap (moved_node moved) b.one });
  }

  moved_slot_in : (o : Option ℕ) → unwrap_or (option_map (λ i. (node_at u.nodes i).entry) o) None ≡ moved_slot moved (unwrap_or (option_map (λ i. (node_at t.nodes i).entry) o) None)
  moved_slot_in None = refl
  moved_slot_in (Some i) = ap (λ (x : Node). x.entry) (moved_at i)

  pub moved-live : (n : Name) → live_at (slots_of u) n ≡ moved_slot moved (live_at (slots_of t) n)
  moved-live n =
      ⊎_elim
      (λ (low : depth n ≤ 24). live-slot u n low ∙ ap (λ (f : Pairs). live_in f u.nodes n) moved-pairs ∙ moved_slot_in (place (pairs_of t) n.0 n.1) ∙ ap (moved_slot moved) (sym (live-slot t n low)))
      (λ (deep : 24 < depth n). ap (λ (o : Option Slot). unwrap_or o None) (slot-deep u n deep) ∙ ap (λ (o : Option Slot). moved_slot moved (unwrap_or o None)) (sym (slot-deep t n deep)))
      (low_or_deep n)
