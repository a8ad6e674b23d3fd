-- The names of a tree, as a walk finds them.
use Rattle.std.proofs.Common.{◌≡◌, ◌⊎◌, ℕ, suc, ◌+◌, ◌*◌, ◌<◌, ◌≤◌, Bool, true, false, cond, List, [], ◌∷◌, ◌++◌, refl, sym, ap, ◌∙◌, subst, arith, append-nil, Option, Some, None, option_map, unwrap_or, is_some, inl, inr, ⊎_elim, append_assoc, length-append}
use Rattle.std.specs.FinMap.{contains_key-keys, keys}
use Rattle.std.specs.FinSet.{contains, contains-from_list, from_list}
use Rattle.std.specs.List.{Contains, dedup}
use Rattle.std.specs.List.Sorted.{IsPermutation, IsSorted, IsStrictlySortedBy}
use Rattle.std.proofs.lemmas.Bool.{cases_lt}
use Rattle.std.proofs.lemmas.Cmp.{eq_by_cmp_equiv}
use Rattle.std.proofs.lemmas.List.Kept.{Contains-dedup, Contains-from_dedup, IsStrictlySortedBy-dedup}
use Rattle.std.proofs.lemmas.List.Sorted.{Contains-permutation, IsPermutation-sym}
use Rattle.mesh_names.specs.Names.{Name, depth, digit, name_cmp, name_eq}
use Rattle.mesh_names.specs.Order.{name_cmp_total}
use Rattle.mesh_names.specs.Forests.{Has, IsListOf}
use Rattle.mesh_names.proofs.Neighbours.{none_some}
use Rattle.mesh_names.proofs.Sets.{In, both_sides, has-in, in-has, item-in, in-append, in-first, in-second, tied-same, within-both}
use Rattle.name_tree.specs.Held.{Gathers, IsLive, held}
use Rattle.name_tree.specs.NodeSlots.{slots_of}
use Rattle.name_tree.specs.Slots.{Slot, Slots, live_at, live_of}
use Rattle.name_tree.specs.Trees.{Pairs, Root, Under, live_in, node_at, pairs_of, place}
use Rattle.name_tree.specs.declared.nodes.Entry.{Entry}
use Rattle.name_tree.specs.declared.nodes.Nodes.{Nodes}
use Rattle.name_tree.proofs.LiveNames.{get-live}
use Rattle.name_tree.proofs.Places.{no_child, to_child}
use Rattle.name_tree.proofs.SlotsOfNodes.{live-slot, low_or_deep, slot-deep}

-- a name is held where it has an entry
pub has-held : (s : Slots) (n : Name) → contains (held s) n ≡ is_some (live_at s n)
has-held s n =
    contains-from_list name_cmp_total (keys (live_of s)) n
    ∙ sym (contains_key-keys (live_of s) n)
    ∙ ap is_some (get-live s n)

module _ (t : Nodes) where
  -- an entry at the node of a name is that of the name
  at-node : (n : Name) (i : ℕ) → place (pairs_of t) n.0 n.1 ≡ Some i → live_in (pairs_of t) t.nodes n ≡ (node_at t.nodes i).entry
  at-node n i there = ap (λ (o : Option ℕ). unwrap_or (option_map (λ k. (node_at t.nodes k).entry) o) None) there

  -- a name without a node has no entry
  nowhere : (n : Name) → place (pairs_of t) n.0 n.1 ≡ None → IsLive t n → ⊥
  nowhere n none l = none_some l.entry (sym (ap (λ (o : Option ℕ). unwrap_or (option_map (λ k. (node_at t.nodes k).entry) o) None) none) ∙ l.is)

  -- nothing at a name, and nothing below it
  none_deeper : (r : ℕ) (w u : List Bool) → ((b : Bool) → place (pairs_of t) r (b ∷ w) ≡ None) → (c : Bool) → place (pairs_of t) r ((c ∷ u) ++ w) ≡ None
  none_deeper r w [] none c = none c
  none_deeper r w (b ∷ u) none c = ap (λ (o : Option ℕ). at c o) (none_deeper r w u none b)
    where
      at : Bool → Option ℕ → Option ℕ
      at c o = option_map (λ p. 2 * p + digit c) (under o)
        where
          under : Option ℕ → Option ℕ
          under None = None
          under (Some i) = pairs_of t (Under i)

  one_entry : Name → ℕ → List Name
  one_entry name i = cond (is_some (node_at t.nodes i).entry) (name ∷ []) []

  -- the name itself
  module _ (name : Name) (i : ℕ) (there : place (pairs_of t) name.0 name.1 ≡ Some i) (low : depth name ≤ 24) (old now : List Name) (step : now ≡ old ++ cond (is_some (node_at t.nodes i).entry) (name ∷ []) []) where
    kept_one : (n : Name) → Has (from_list old) n → Has (from_list now) n
    kept_one n h = subst (λ (l : List Name). Has (from_list l) n) (sym step) (in-has n (old ++ cond (is_some (node_at t.nodes i).entry) (name ∷ []) []) (in-first n old _ (has-in n old h)))

    live_one : (n : Name) → Has (from_list now) n → Has (from_list old) n ⊎ IsLive t n
    live_one n h = ⊎_elim
        (λ (k : In n old). inl (in-has n old k))
        (λ k. by (node_at t.nodes i).entry refl k)
        (in-append n old (cond (is_some (node_at t.nodes i).entry) (name ∷ []) []) (has-in n (old ++ cond (is_some (node_at t.nodes i).entry) (name ∷ []) []) (subst (λ (l : List Name). Has (from_list l) n) step h)))
      where
        by : (o : Option Entry) → (node_at t.nodes i).entry ≡ o → In n (cond (is_some o) (name ∷ []) []) → Has (from_list old) n ⊎ IsLive t n
        by None e k = absurd k
        by (Some x) e k = ⊎_elim
            (λ (p : n ≡ name). inr (subst (λ (y : Name). IsLive t y) (sym p) (record { low = low; entry = x; is = at-node name i there ∙ e })))
            (λ (f : ⊥). absurd f)
            k

    own : IsLive t name → Has (from_list now) name
    own l = subst (λ (ks : List Name). Has (from_list ks) name) (sym step) (in-has name (old ++ cond (is_some (node_at t.nodes i).entry) (name ∷ []) []) (in-second name old _ (by (node_at t.nodes i).entry refl)))
      where
        by : (o : Option Entry) → (node_at t.nodes i).entry ≡ o → In name (cond (is_some o) (name ∷ []) [])
        by None e = absurd (none_some l.entry (sym (at-node name i there ∙ e) ∙ l.is))
        by (Some x) e = inl refl

    -- no names are below it
    pub gathers_alone : ((b : Bool) (u : List Bool) → IsLive t (name.0, (b ∷ u) ++ name.1) → ⊥) → Gathers t name old now
    gathers_alone none = record {
      keeps = kept_one;
      live = live_one;
      all = λ n l below. by below.0 n l below.1;
    }
      where
        by : (u : List Bool) (n : Name) → IsLive t n → n ≡ (name.0, u ++ name.1) → Has (from_list now) n
        by [] n l is = subst (λ (y : Name). Has (from_list now) y) (sym is) (own (subst (λ (y : Name). IsLive t y) is l))
        by (b ∷ u) n l is = absurd (none b u (subst (λ (y : Name). IsLive t y) is l))

    -- the names below it are found from both children
    pub gathers_both : (first second : Name) (one two : List Name) → first ≡ (name.0, false ∷ name.1) → second ≡ (name.0, true ∷ name.1) → Gathers t first now one → Gathers t second one two → Gathers t name old two
    gathers_both first second one two f s g h = record {
      keeps = λ n k. h.keeps n (g.keeps n (kept_one n k));
      live = λ n k. ⊎_elim (λ (a : Has (from_list one) n). ⊎_elim (λ (b : Has (from_list now) n). live_one n b) (λ (l : IsLive t n). inr l) (g.live n a)) (λ (l : IsLive t n). inr l) (h.live n k);
      all = λ n l below. by below.0 n l below.1;
    }
      where
        last : (b : Bool) (u : List Bool) → (v : List Bool) × (c : Bool) × (b ∷ u ≡ v ++ c ∷ [])
        last b [] = ([], b, refl)
        last b (d ∷ u) = let r = last d u in (b ∷ r.0, r.1, ap (λ (l : List Bool). b ∷ l) r.2)

        below_child : (n : Name) → IsLive t n → (v : List Bool) (c : Bool) → n ≡ (name.0, v ++ (c ∷ name.1)) → Has (from_list two) n
        below_child n l v false is = h.keeps n (g.all n l (v, is ∙ (λ i. ((sym f i).0, v ++ (sym f i).1))))
        below_child n l v true is = h.all n l (v, is ∙ (λ i. ((sym s i).0, v ++ (sym s i).1)))

        by : (u : List Bool) (n : Name) → IsLive t n → n ≡ (name.0, u ++ name.1) → Has (from_list two) n
        by [] n l is = h.keeps n (g.keeps n (subst (λ (y : Name). Has (from_list now) y) (sym is) (own (subst (λ (y : Name). IsLive t y) is l))))
        by (b ∷ u) n l is = let r = last b u in below_child n l r.0 r.1 (is ∙ (λ i. (name.0, r.2 i ++ name.1)) ∙ (λ i. (name.0, append_assoc r.0 (r.1 ∷ []) name.1 i)))

  -- a name of 24 letters is the last on its way
  pub none_longer : (name : Name) → 24 ≤ depth name → (b : Bool) (u : List Bool) → IsLive t (name.0, (b ∷ u) ++ name.1) → ⊥
  none_longer name deep b u l = let low = l.low in omega (arith, low, deep, length-append (b ∷ u) name.1)

  -- without a pair there is nothing below
  pub none_under : (name : Name) (i : ℕ) → place (pairs_of t) name.0 name.1 ≡ Some i → (node_at t.nodes i).below ≡ None → (b : Bool) (u : List Bool) → IsLive t (name.0, (b ∷ u) ++ name.1) → ⊥
  none_under name i there none b u l = nowhere (name.0, (b ∷ u) ++ name.1) (none_deeper name.0 name.1 u (λ c. no_child (pairs_of t) name.0 i c name.1 there none) b) l

  -- no macro element, no names
  pub none_from : (r : ℕ) (old : List Name) → pairs_of t (Root r) ≡ None → Gathers t (r, []) old old
  none_from r old none = record {
    keeps = λ n h. h;
    live = λ n h. inl h;
    all = λ n l below. absurd (nowhere n (ap (λ (y : Name). place (pairs_of t) y.0 y.1) below.1 ∙ gone below.0) l);
  }
    where
      under : Option ℕ → Option ℕ
      under None = None
      under (Some i) = pairs_of t (Under i)

      gone : (u : List Bool) → place (pairs_of t) r (u ++ []) ≡ None
      gone [] = ap (option_map (λ p. 2 * p)) none
      gone (b ∷ u) = ap (λ (o : Option ℕ). option_map (λ p. 2 * p + digit b) (under o)) (gone u)

-- the node of a child
pub child-place : (pairs : Pairs) (n : Name) (i p x : ℕ) (b : Bool) (m : Name) → place pairs n.0 n.1 ≡ Some i → pairs (Under i) ≡ Some p → m ≡ (n.0, b ∷ n.1) → x ≡ 2 * p + digit b → place pairs m.0 m.1 ≡ Some x
child-place pairs n i p x b m there below e f = ap (λ (y : Name). place pairs y.0 y.1) e ∙ to_child pairs n.0 i p b n.1 there below ∙ ap Some (sym f)

-- the node of a macro element
pub top-place : (pairs : Pairs) (r p x : ℕ) (m : Name) → pairs (Root r) ≡ Some p → m ≡ (r, []) → x ≡ 2 * p + digit false → place pairs m.0 m.1 ≡ Some x
top-place pairs r p x m is e f = ap (λ (y : Name). place pairs y.0 y.1) e ∙ ap (option_map (λ q. 2 * q)) is ∙ ap Some (omega (arith, f))

-- ---- macro element by macro element
pub record FoundBelow (t : Nodes) (count : ℕ) (found : List Name) : Type 0 where
  pub live : (n : Name) → Has (from_list found) n → IsLive t n
  pub all : (n : Name) → IsLive t n → n.0 < count → Has (from_list found) n

pub none-found : (t : Nodes) → FoundBelow t 0 []
none-found t = record {
  live = λ n h. absurd (has-in n [] h);
  all = λ n l low. absurd (omega (arith, low));
}

pub more-found : (t : Nodes) (r : ℕ) (old new : List Name) → FoundBelow t r old → Gathers t (r, []) old new → FoundBelow t (r + 1) new
more-found t r old new f g = record {
  live = λ n h. ⊎_elim (λ (k : Has (from_list old) n). f.live n k) (λ (l : IsLive t n). l) (g.live n h);
  all = λ n l low. ⊎_elim
      (λ (below : n.0 < r). g.keeps n (f.all n l below))
      (λ (here : r ≤ n.0). let same : n.0 ≡ r = omega (arith, here, low) in g.all n l (n.1, (λ i. (same i, n.1)) ∙ (λ i. (r, sym (append-nil n.1) i))))
      (cases_lt n.0 r);
}

-- ---- the names of the tree
live-held : (t : Nodes) (n : Name) → IsLive t n → Has (held (slots_of t)) n
live-held t n l = has-held (slots_of t) n ∙ ap is_some (live-slot t n l.low ∙ l.is)

held-live : (t : Nodes) (n : Name) → Has (held (slots_of t)) n → IsLive t n
held-live t n h = by (low_or_deep n)
  where
    there : is_some (live_at (slots_of t) n) ≡ true
    there = sym (has-held (slots_of t) n) ∙ h

    by : (depth n ≤ 24) ⊎ (24 < depth n) → IsLive t n
    by c = ⊎_elim
        (λ (low : depth n ≤ 24). some (live_in (pairs_of t) t.nodes n) refl low)
        (λ (deep : 24 < depth n). absurd (both_sides (is_some (live_at (slots_of t) n)) there (ap (λ (o : Option Slot). is_some (unwrap_or o None)) (slot-deep t n deep))))
        c
      where
        some : (o : Option Entry) → live_in (pairs_of t) t.nodes n ≡ o → depth n ≤ 24 → IsLive t n
        some None e low = absurd (both_sides (is_some (live_at (slots_of t) n)) there (ap is_some (live-slot t n low ∙ e)))
        some (Some x) e low = record { low = low; entry = x; is = e }

pub all-found : (t : Nodes) (count : ℕ) (found : List Name) → FoundBelow t count found → ((n : Name) → Has (held (slots_of t)) n → n.0 < count) → from_list found ≡ held (slots_of t)
all-found t count found f below = within-both (from_list found) (held (slots_of t))
    (λ n h. live-held t n (f.live n h))
    (λ n h. f.all n (held-live t n h) (below n h))

-- ---- names in order, each once
in-contains : (q : Name) (xs : List Name) → In q xs → Contains xs q
in-contains q [] i = absurd i
in-contains q (x ∷ xs) i = ⊎_elim
    (λ (e : q ≡ x). (0, omega arith, sym e))
    (λ (r : In q xs). let c = in-contains q xs r in let low = c.1 in (suc c.0, omega (arith, low), c.2))
    i

contains-in : (q : Name) (xs : List Name) → Contains xs q → In q xs
contains-in q xs c = subst (λ (y : Name). In y xs) c.2 (item-in xs c.0 q c.1)

pub listed : (found sorted last : List Name) → IsPermutation found sorted → IsSorted name_cmp sorted → last ≡ dedup name_eq sorted → IsListOf (from_list found) last
listed found sorted last moved order is = record {
  in_order = subst (IsStrictlySortedBy name_cmp) (sym is) (IsStrictlySortedBy-dedup name_cmp_total (λ x y. refl) sorted order);
  all = within-both (from_list last) (from_list found)
      (λ q h. in-has q found (contains-in q found (Contains-permutation sorted found q (IsPermutation-sym found sorted moved) (Contains-from_dedup name_eq sorted q (subst (λ (l : List Name). Contains l q) is (in-contains q last (has-in q last h)))))))
      (λ q h. in-has q last (contains-in q last (subst (λ (l : List Name). Contains l q) (sym is) (Contains-dedup (eq_by_cmp_equiv name_cmp_total) (λ x y e. tied-same x y e) sorted q (Contains-permutation found sorted q moved (in-contains q found (has-in q found h)))))));
}
