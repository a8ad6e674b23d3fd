-- A tree as pairs are added and given back.
use Rattle.std.proofs.Common.{◌≡◌, ℕ, ◌+◌, ◌*◌, ◌<◌, ◌≤◌, set, Bool, true, false, List, [], ◌∷◌, ◌++◌, length, refl, sym, ap, ◌∙◌, subst, arith, Option, Some, None, ⊎_elim, length-set}
use Rattle.std.specs.Prelude.{◌≢◌, All, slice_index_or}
use Rattle.std.proofs.lemmas.List.{get_or-set_same, get_or-set_other, get_or_past}
use Rattle.std.proofs.lemmas.List.Elements.{All-push}
use Rattle.std.proofs.lemmas.List.Quantifiers.{all_pairs_push}
use Rattle.mesh_names.specs.Names.{digit}
use Rattle.mesh_names.proofs.Neighbours.{some_inj, none_some}
use Rattle.name_tree.specs.declared.nodes.Node.{Node}
use Rattle.name_tree.specs.declared.nodes.Nodes.{Nodes}
use Rattle.name_tree.specs.Trees.{IsBlank, IsKept, IsTree, Source, Root, Under, Pairs, blank, node_at, pair_at, pairs_of}
use Rattle.name_tree.specs.Growth.{Adds, IsFree, IsNamed}
use Rattle.name_tree.proofs.Places.{adds-kept, digits, source_either}

-- a tree in which a pair is named in addition
pub tree-added : (f g : Pairs) (s : Source) (q count : ℕ) (spare : List ℕ) → Adds f g s q → ((t : Source) → f t ≡ Some q → ⊥) → q < count → All (λ p. p ≢ q) spare → IsTree f count spare → IsTree g count spare
tree-added f g s q count spare a unnamed low free tree = record {
  within = within;
  apart = apart;
  unnamed = kept_apart;
  others = tree.others;
  inside = tree.inside;
} where
  is_new : (t : Source) (p : ℕ) → g t ≡ Some p → t ≡ s → q ≡ p
  is_new t p e is = some_inj q p (sym a.after ∙ ap g (sym is) ∙ e)

  is_old : (t : Source) (p : ℕ) → g t ≡ Some p → t ≢ s → f t ≡ Some p
  is_old t p e ne = sym (a.others t ne) ∙ e

  within : (t : Source) (p : ℕ) → g t ≡ Some p → p < count
  within t p e = ⊎_elim (λ (is : t ≡ s). subst (λ (x : ℕ). x < count) (is_new t p e is) low) (λ (ne : t ≢ s). tree.within t p (is_old t p e ne)) (source_either t s)

  apart : (t u : Source) (p : ℕ) → g t ≡ Some p → g u ≡ Some p → t ≡ u
  apart t u p d e =
      ⊎_elim
      (λ (t_is : t ≡ s).
      ⊎_elim
      (λ (u_is : u ≡ s). t_is ∙ sym u_is)
      (λ (u_ne : u ≢ s). absurd (unnamed u (is_old u p e u_ne ∙ ap Some (sym (is_new t p d t_is)))))
      (source_either u s))
      (λ (t_ne : t ≢ s).
      ⊎_elim
      (λ (u_is : u ≡ s). absurd (unnamed t (is_old t p d t_ne ∙ ap Some (sym (is_new u p e u_is)))))
      (λ (u_ne : u ≢ s). tree.apart t u p (is_old t p d t_ne) (is_old u p e u_ne))
      (source_either u s))
      (source_either t s)

  kept_apart : (t : Source) (p : ℕ) → g t ≡ Some p → All (λ k. k ≢ p) spare
  kept_apart t p e = ⊎_elim (λ (is : t ≡ s). subst (λ (x : ℕ). All (λ k. k ≢ x) spare) (is_new t p e is) free) (λ (ne : t ≢ s). tree.unnamed t p (is_old t p e ne)) (source_either t s)

-- a tree in which a pair is named no longer
pub tree-left : (f g : Pairs) (s : Source) (q count : ℕ) (spare : List ℕ) → Adds f g s q → IsTree g count spare → IsTree f count spare
tree-left f g s q count spare a tree = record {
  within = λ t p e. tree.within t p (adds-kept f g s q a t p e);
  apart = λ t u p d e. tree.apart t u p (adds-kept f g s q a t p d) (adds-kept f g s q a u p e);
  unnamed = λ t p e. tree.unnamed t p (adds-kept f g s q a t p e);
  others = tree.others;
  inside = tree.inside;
}

-- and is given back
pub tree-given : (f g : Pairs) (s : Source) (q count : ℕ) (spare : List ℕ) → Adds f g s q → IsTree g count spare → IsTree f count (spare ++ q ∷ [])
tree-given f g s q count spare a tree = record {
  within = λ t p e. tree.within t p (adds-kept f g s q a t p e);
  apart = λ t u p d e. tree.apart t u p (adds-kept f g s q a t p d) (adds-kept f g s q a u p e);
  unnamed = λ t p e. All-push (λ k. k ≢ p) spare q (tree.unnamed t p (adds-kept f g s q a t p e)) (λ (same : q ≡ p). other t p e same);
  others = all_pairs_push (λ x y. x ≢ y) spare q tree.others (tree.unnamed s q a.after);
  inside = All-push (λ k. k < count) spare q tree.inside (tree.within s q a.after);
} where
  other : (t : Source) (p : ℕ) → f t ≡ Some p → q ≡ p → ⊥
  other t p e same =
      let is : s ≡ t = tree.apart s t q a.after (adds-kept f g s q a t p e ∙ ap Some (sym same)) in
      none_some p (sym a.before ∙ ap f is ∙ e)

-- one pair more, which is not named
pub tree-wider : (f : Pairs) (count : ℕ) (spare : List ℕ) → IsTree f count spare → IsTree f (count + 1) spare
tree-wider f count spare tree = record {
  within = λ t p e. let low = tree.within t p e in omega arith;
  apart = tree.apart;
  unnamed = tree.unnamed;
  others = tree.others;
  inside = λ k d low. let small = tree.inside k d low in omega arith;
}

-- the pairs are named by the lists of macro elements and nodes
pub pairs-same : (tops tops' : List (Option ℕ)) (nodes nodes' : List Node) → tops' ≡ tops → ((i : ℕ) → node_at nodes' i ≡ node_at nodes i) → pair_at tops' nodes' ≡ pair_at tops nodes
pairs-same tops tops' nodes nodes' e h = λ i s. each s i where
  each : (s : Source) → pair_at tops' nodes' s ≡ pair_at tops nodes s
  each (Root r) = ap (λ (ts : List (Option ℕ)). slice_index_or ts r None) e
  each (Under i) = ap (λ (n : Node). n.below) (h i)

pub blank-same : (nodes nodes' : List Node) (q : ℕ) → ((i : ℕ) → node_at nodes' i ≡ node_at nodes i) → IsBlank nodes q → IsBlank nodes' q
blank-same nodes nodes' q h b = record { zero = h (2 * q) ∙ b.zero; one = h (2 * q + 1) ∙ b.one }

pub blank-side : (nodes : List Node) (q : ℕ) (b : Bool) → IsBlank nodes q → node_at nodes (2 * q + digit b) ≡ blank
blank-side nodes q false h = let same : 2 * q + 0 ≡ 2 * q = omega arith in ap (node_at nodes) same ∙ h.zero
blank-side nodes q true h = h.one

-- a node in another pair than this is none of this pair's
other_side : (p q i : ℕ) (b c : Bool) → q ≢ p → 2 * p + digit c ≡ i → 2 * q + digit b ≢ i
other_side p q i b c ne is = λ (e : 2 * q + digit b ≡ i). ne (digits b c q p (e ∙ sym is)).0

zero_side : (q i : ℕ) → 2 * q + digit false ≢ i → 2 * q ≢ i
zero_side q i ne e = ne (omega arith)

pub blank-else : (nodes : List Node) (p q i : ℕ) (c : Bool) (x : Node) → q ≢ p → 2 * p + digit c ≡ i → IsBlank nodes q → IsBlank (set nodes i x) q
blank-else nodes p q i c x ne is b = record {
  zero = get_or-set_other nodes i (2 * q) x blank (zero_side q i (other_side p q i false c ne is)) ∙ b.zero;
  one = get_or-set_other nodes i (2 * q + 1) x blank (other_side p q i true c ne is) ∙ b.one;
}

-- of the given-back pairs none has a node that stands in a named pair
pub blanks-else : (tops : List (Option ℕ)) (nodes : List Node) (count i : ℕ) (spare : List ℕ) (x : Node) → IsTree (pair_at tops nodes) count spare → IsNamed (pair_at tops nodes) i → All (IsBlank nodes) spare → All (IsBlank (set nodes i x)) spare
blanks-else tops nodes count i spare x tree n blanks = λ k d low. blank-else nodes n.pair _ i n.side x (tree.unnamed n.source n.pair n.named k d low) n.is (blanks k d low)

pub named-within : (f : Pairs) (i count : ℕ) → ((s : Source) (p : ℕ) → f s ≡ Some p → p < count) → IsNamed f i → i < 2 * count
named-within f i count within n =
    let low = within n.source n.pair n.named in
    let is = n.is in
    let small = small_digit n.side in
    omega arith
  where
    small_digit : (b : Bool) → digit b < 2
    small_digit true = omega arith
    small_digit false = omega arith

-- a pair is named under a node
pub adds-join : (tops : List (Option ℕ)) (nodes : List Node) (i q : ℕ) → i < length nodes → (node_at nodes i).below ≡ None → IsBlank nodes q → IsNamed (pair_at tops nodes) i → ((s : Source) → pair_at tops nodes s ≡ Some q → ⊥) →
    Adds (pair_at tops nodes) (pair_at tops (set nodes i (record (node_at nodes i) { below = Some q }))) (Under i) q
adds-join tops nodes i q low none blank_pair n unnamed = record {
  before = none;
  after = ap (λ (x : Node). x.below) (get_or-set_same nodes i (record (node_at nodes i) { below = Some q }) blank low);
  others = others;
  bare = λ b. ap (λ (x : Node). x.below) (get_or-set_other nodes i (2 * q + digit b) (record (node_at nodes i) { below = Some q }) blank (other_side n.pair q i b n.side apart n.is) ∙ blank-side nodes q b blank_pair);
} where
  apart : q ≢ n.pair
  apart e = unnamed n.source (n.named ∙ ap Some (sym e))

  others : (t : Source) → t ≢ Under i → pair_at tops (set nodes i (record (node_at nodes i) { below = Some q })) t ≡ pair_at tops nodes t
  others (Root r) ne = refl
  others (Under j) ne = ap (λ (x : Node). x.below) (get_or-set_other nodes i j (record (node_at nodes i) { below = Some q }) blank (λ (e : j ≡ i). ne (ap Under e)))

-- what is below a node changes no entry
pub entries-join : (nodes : List Node) (i : ℕ) (below : Option ℕ) (j : ℕ) → i < length nodes → (node_at (set nodes i (record (node_at nodes i) { below = below })) j).entry ≡ (node_at nodes j).entry
entries-join nodes i below j low =
    ⊎_elim
    (λ (is : Under j ≡ Under i). let same : j ≡ i = cc in ap (λ (k : ℕ). (node_at (set nodes i (record (node_at nodes i) { below = below })) k).entry) same ∙ ap (λ (x : Node). x.entry) (get_or-set_same nodes i (record (node_at nodes i) { below = below }) blank low) ∙ ap (λ (k : ℕ). (node_at nodes k).entry) (sym same))
    (λ (ne : Under j ≢ Under i). ap (λ (x : Node). x.entry) (get_or-set_other nodes i j (record (node_at nodes i) { below = below }) blank (λ (e : j ≡ i). ne (ap Under e))))
    (source_either (Under j) (Under i))

-- a pair is named at a macro element
pub adds-top : (tops : List (Option ℕ)) (nodes : List Node) (r q : ℕ) → r < length tops → pair_at tops nodes (Root r) ≡ None → IsBlank nodes q → Adds (pair_at tops nodes) (pair_at (set tops r (Some q)) nodes) (Root r) q
adds-top tops nodes r q low none blank_pair = record {
  before = none;
  after = get_or-set_same tops r (Some q) None low;
  others = others;
  bare = λ b. ap (λ (x : Node). x.below) (blank-side nodes q b blank_pair);
} where
  others : (t : Source) → t ≢ Root r → pair_at (set tops r (Some q)) nodes t ≡ pair_at tops nodes t
  others (Root s) ne = get_or-set_other tops r s (Some q) None (λ (e : s ≡ r). ne (ap Root e))
  others (Under j) ne = refl

-- a pair is named under a node of a tree that is kept
module _ (t u : Nodes) (i q : ℕ) (k : IsKept t) (n : IsNamed (pairs_of t) i) (none : (node_at t.nodes i).below ≡ None) (free : IsFree t q)
    (nodes : u.nodes ≡ set t.nodes i (record (node_at t.nodes i) { below = Some q })) (tops : u.tops.items ≡ t.tops.items) (spare : u.spare.items ≡ t.spare.items) where
  abbrev after_join : List Node
  after_join = set t.nodes i (record (node_at t.nodes i) { below = Some q })

  pub joined-low : i < length t.nodes
  joined-low = let a = named-within (pairs_of t) i k.count k.tree.within n in let w = k.whole in omega arith

  joined_named : pairs_of u ≡ pair_at t.tops.items after_join
  joined_named = λ j. pair_at (tops j) (nodes j)

  pub joined-adds : Adds (pairs_of t) (pairs_of u) (Under i) q
  joined-adds = subst (λ (f : Pairs). Adds (pairs_of t) f (Under i) q) (sym joined_named) (adds-join t.tops.items t.nodes i q joined-low none free.blank n free.unnamed)

  pub joined-kept : IsKept u
  joined-kept = record {
    count = k.count;
    whole = ap length nodes ∙ length-set t.nodes i _ ∙ k.whole;
    small = k.small;
    tree = subst (λ (l : List ℕ). IsTree (pairs_of u) k.count l) (sym spare) (tree-added (pairs_of t) (pairs_of u) (Under i) q k.count t.spare.items joined-adds free.unnamed (let a = free.inside in let w = k.whole in omega arith) free.unspared k.tree);
    blanks = subst (λ (l : List Node). All (IsBlank l) u.spare.items) (sym nodes) (subst (λ (l : List ℕ). All (IsBlank after_join) l) (sym spare) (blanks-else t.tops.items t.nodes k.count i t.spare.items _ k.tree n k.blanks));
  }

  pub joined-entries : (j : ℕ) → (node_at u.nodes j).entry ≡ (node_at t.nodes j).entry
  joined-entries j = ap (λ (l : List Node). (node_at l j).entry) nodes ∙ entries-join t.nodes i (Some q) j joined-low

  pub joined-empty : (b : Bool) → (node_at u.nodes (2 * q + digit b)).entry ≡ None
  joined-empty b = joined-entries (2 * q + digit b) ∙ ap (λ (x : Node). x.entry) (blank-side t.nodes q b free.blank)

-- a pair is named under a node no longer
module _ (t u : Nodes) (i q : ℕ) (k : IsKept t) (n : IsNamed (pairs_of t) i) (is : (node_at t.nodes i).below ≡ Some q) (empty : IsBlank t.nodes q)
    (nodes : u.nodes ≡ set t.nodes i (record (node_at t.nodes i) { below = None })) (tops : u.tops.items ≡ t.tops.items) where
  abbrev after_part : List Node
  after_part = set t.nodes i (record (node_at t.nodes i) { below = None })

  part_low : i < length t.nodes
  part_low = let a = named-within (pairs_of t) i k.count k.tree.within n in let w = k.whole in omega arith

  parted_named : pairs_of u ≡ pair_at t.tops.items after_part
  parted_named = λ j. pair_at (tops j) (nodes j)

  others : (s : Source) → s ≢ Under i → pair_at t.tops.items t.nodes s ≡ pair_at t.tops.items after_part s
  others (Root r) ne = refl
  others (Under j) ne = ap (λ (x : Node). x.below) (sym (get_or-set_other t.nodes i j (record (node_at t.nodes i) { below = None }) blank (λ (e : j ≡ i). ne (ap Under e))))

  pub parted-adds : Adds (pairs_of u) (pairs_of t) (Under i) q
  parted-adds = subst (λ (f : Pairs). Adds f (pairs_of t) (Under i) q) (sym parted_named) (record {
    before = ap (λ (x : Node). x.below) (get_or-set_same t.nodes i (record (node_at t.nodes i) { below = None }) blank part_low);
    after = is;
    others = others;
    bare = λ b. ap (λ (x : Node). x.below) (blank-side t.nodes q b empty);
  })

  apart : q ≢ n.pair
  apart e =
      let own : node_at t.nodes i ≡ blank = ap (node_at t.nodes) (sym n.is ∙ ap (λ (p : ℕ). 2 * p + digit n.side) (sym e)) ∙ blank-side t.nodes q n.side empty in
      none_some q (sym (ap (λ (x : Node). x.below) own) ∙ is)

  whole : length u.nodes ≡ 2 * k.count
  whole = ap length nodes ∙ length-set t.nodes i _ ∙ k.whole

  blanks : All (IsBlank after_part) t.spare.items
  blanks = blanks-else t.tops.items t.nodes k.count i t.spare.items _ k.tree n k.blanks

  pub parted-kept : u.spare.items ≡ t.spare.items → IsKept u
  parted-kept spare = record {
    count = k.count;
    whole = whole;
    small = k.small;
    tree = subst (λ (l : List ℕ). IsTree (pairs_of u) k.count l) (sym spare) (tree-left (pairs_of u) (pairs_of t) (Under i) q k.count t.spare.items parted-adds k.tree);
    blanks = subst (λ (l : List Node). All (IsBlank l) u.spare.items) (sym nodes) (subst (λ (l : List ℕ). All (IsBlank after_part) l) (sym spare) blanks);
  }

  pub parted-given : u.spare.items ≡ t.spare.items ++ q ∷ [] → IsKept u
  parted-given spare = record {
    count = k.count;
    whole = whole;
    small = k.small;
    tree = subst (λ (l : List ℕ). IsTree (pairs_of u) k.count l) (sym spare) (tree-given (pairs_of u) (pairs_of t) (Under i) q k.count t.spare.items parted-adds k.tree);
    blanks = subst (λ (l : List Node). All (IsBlank l) u.spare.items) (sym nodes) (subst (λ (l : List ℕ). All (IsBlank after_part) l) (sym spare) (All-push (IsBlank after_part) t.spare.items q blanks (blank-else t.nodes n.pair q i n.side _ apart n.is empty)));
  }

-- one pair more in a tree that is kept
pub kept-wider : (t u : Nodes) (k : IsKept t) → k.count < 2147483647 → length u.nodes ≡ length t.nodes + 2 → ((i : ℕ) → node_at u.nodes i ≡ node_at t.nodes i) → u.tops.items ≡ t.tops.items → u.spare.items ≡ [] → IsKept u × IsFree u k.count
kept-wider t u k few longer nodes tops none = (
  record {
    count = k.count + 1;
    whole = let w = k.whole in omega arith;
    small = omega arith;
    tree = record {
      within = λ s p e. let low = k.tree.within s p (sym (ap (λ (f : Pairs). f s) same) ∙ e) in omega arith;
      apart = λ s r p d e. k.tree.apart s r p (sym (ap (λ (f : Pairs). f s) same) ∙ d) (sym (ap (λ (f : Pairs). f r) same) ∙ e);
      unnamed = λ s p e. nothing (λ q. q ≢ p);
      others = λ i j d low high. absurd (omega (arith, ap length none));
      inside = nothing (λ q. q < k.count + 1);
    };
    blanks = nothing (IsBlank u.nodes);
  },
  record {
    inside = let w = k.whole in omega arith;
    blank = record { zero = nodes (2 * k.count) ∙ past (2 * k.count) (let w = k.whole in omega arith); one = nodes (2 * k.count + 1) ∙ past (2 * k.count + 1) (let w = k.whole in omega arith) };
    unnamed = λ s e. let low = k.tree.within s k.count (sym (ap (λ (f : Pairs). f s) same) ∙ e) in absurd (omega arith);
    unspared = nothing (λ q. q ≢ k.count);
  },
) where
  same : pairs_of u ≡ pairs_of t
  same = pairs-same t.tops.items u.tops.items t.nodes u.nodes tops nodes

  nothing : (P : ℕ → Type 0) → All P u.spare.items
  nothing P i d low = absurd (omega (arith, ap length none))

  past : (i : ℕ) → length t.nodes ≤ i → node_at t.nodes i ≡ blank
  past i high = get_or_past t.nodes i blank high

pub empty_list : (l : List ℕ) → length l ≡ 0 → l ≡ []
empty_list [] e = refl
empty_list (x ∷ l) e = absurd (omega arith)

-- a pair is named at a macro element of a tree that is kept
pub planted-kept : (t u : Nodes) (r q : ℕ) → IsKept t → r < length t.tops.items → pairs_of t (Root r) ≡ None → IsFree t q → u.nodes ≡ t.nodes → u.tops.items ≡ set t.tops.items r (Some q) → u.spare.items ≡ t.spare.items → IsKept u
planted-kept t u r q k low none free nodes tops spare = record {
  count = k.count;
  whole = ap length nodes ∙ k.whole;
  small = k.small;
  tree = subst (λ (l : List ℕ). IsTree (pairs_of u) k.count l) (sym spare) (tree-added (pairs_of t) (pairs_of u) (Root r) q k.count t.spare.items adds free.unnamed (let a = free.inside in let w = k.whole in omega arith) free.unspared k.tree);
  blanks = subst (λ (l : List Node). All (IsBlank l) u.spare.items) (sym nodes) (subst (λ (l : List ℕ). All (IsBlank t.nodes) l) (sym spare) k.blanks);
} where
  planted : pairs_of u ≡ pair_at (set t.tops.items r (Some q)) t.nodes
  planted = λ j. pair_at (tops j) (nodes j)

  adds : Adds (pairs_of t) (pairs_of u) (Root r) q
  adds = subst (λ (f : Pairs). Adds (pairs_of t) f (Root r) q) (sym planted) (adds-top t.tops.items t.nodes r q low none free.blank)
