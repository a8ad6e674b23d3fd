-- Where names stand in a tree.
use Rattle.std.proofs.Common.{◌≡◌, ℕ, zero, suc, ◌+◌, ◌-◌, ◌*◌, ◌<◌, ◌≤◌, set, get_or, Bool, true, false, List, [], ◌∷◌, length, drop, refl, sym, ap, ◌∙◌, arith, Option, Some, None, option_map, unwrap_or, inl, inr, ◌⊎◌, ⊎_elim, eqb, eqb-true, eq-eqb, true≢false}
use Rattle.std.specs.Prelude.{◌≢◌, IfSome}
use Rattle.mesh_names.specs.Names.{Name, digit, depth}
use Rattle.mesh_names.proofs.Neighbours.{some_inj, none_some}
use Rattle.name_tree.specs.declared.nodes.Entry.{Entry}
use Rattle.name_tree.specs.declared.nodes.Node.{Node}
use Rattle.name_tree.specs.Letters.{first_letters}
use Rattle.name_tree.specs.Paths.{IsPath}
use Rattle.name_tree.specs.declared.path.Path.{Path}
use Rattle.std.specs.Prelude.{slice_index}
use Rattle.std.proofs.lemmas.List.{get_or-set_same, get_or-set_other}
use Rattle.name_tree.proofs.FirstLetters.{fewer-letters, letters-depth, all_letters, next-letter}
use Rattle.name_tree.specs.Trees.{Source, Root, Under, Pairs, node_at, side_of, pair_under, place, pairs_of, live_in, LeadsTo}
use Rattle.name_tree.specs.Growth.{Adds, Grows, IsNamed, Keeps, Shrinks, Stays}
use Rattle.name_tree.specs.declared.nodes.Nodes.{Nodes}

pub digits : (b c : Bool) (p q : ℕ) → 2 * p + digit b ≡ 2 * q + digit c → (p ≡ q) × (b ≡ c)
digits true true p q e = (omega arith, refl)
digits true false p q e = absurd (omega arith)
digits false true p q e = absurd (omega arith)
digits false false p q e = (omega arith, refl)

-- what was mapped
pub from_mapped : (g : ℕ → ℕ) (o : Option ℕ) (i : ℕ) → option_map g o ≡ Some i → (p : ℕ) × (o ≡ Some p) × (g p ≡ i)
from_mapped g None i e = absurd (none_some i e)
from_mapped g (Some p) i e = (p, refl, some_inj (g p) i e)

pub from_under : (pairs : Pairs) (o : Option ℕ) (p : ℕ) → pair_under pairs o ≡ Some p → (i : ℕ) × (o ≡ Some i) × (pairs (Under i) ≡ Some p)
from_under pairs None p e = absurd (none_some p e)
from_under pairs (Some i) p e = (i, refl, e)

-- a longer word's node is on one side of the pair below its parent's node
pub from_child : (pairs : Pairs) (r i : ℕ) (b : Bool) (w : List Bool) → place pairs r (b ∷ w) ≡ Some i → (j p : ℕ) × (place pairs r w ≡ Some j) × (pairs (Under j) ≡ Some p) × (2 * p + digit b ≡ i)
from_child pairs r i b w e =
    let a = from_mapped (λ p. 2 * p + digit b) (pair_under pairs (place pairs r w)) i e in
    let u = from_under pairs (place pairs r w) a.0 a.1 in
    (u.0, a.0, u.1, u.2, a.2)

pub to_child : (pairs : Pairs) (r j p : ℕ) (b : Bool) (w : List Bool) → place pairs r w ≡ Some j → pairs (Under j) ≡ Some p → place pairs r (b ∷ w) ≡ Some (2 * p + digit b)
to_child pairs r j p b w e f = ap (λ (o : Option ℕ). side_of b (pair_under pairs o)) e ∙ ap (side_of b) f

pub no_child : (pairs : Pairs) (r j : ℕ) (b : Bool) (w : List Bool) → place pairs r w ≡ Some j → pairs (Under j) ≡ None → place pairs r (b ∷ w) ≡ None
no_child pairs r j b w e f = ap (λ (o : Option ℕ). side_of b (pair_under pairs o)) e ∙ ap (side_of b) f

-- two names have nodes of their own
module _ (pairs : Pairs) (apart : (s t : Source) (p : ℕ) → pairs s ≡ Some p → pairs t ≡ Some p → s ≡ t) where
  one_pair : (s t : Source) (p q : ℕ) → pairs s ≡ Some p → pairs t ≡ Some q → p ≡ q → s ≡ t
  one_pair s t p q e f same = apart s t p e (f ∙ ap Some (sym same))

  pub one_place : (r s : ℕ) (w v : List Bool) (i : ℕ) → place pairs r w ≡ Some i → place pairs s v ≡ Some i → (r ≡ s) × (w ≡ v)
  one_place r s [] [] i e f =
      let a = from_mapped (λ p. 2 * p) (pairs (Root r)) i e in
      let b = from_mapped (λ p. 2 * p) (pairs (Root s)) i f in
      let same : a.0 ≡ b.0 = omega (arith, a.2, b.2) in
      let source : Root r ≡ Root s = one_pair (Root r) (Root s) a.0 b.0 a.1 b.1 same in
      (cc, refl)
  one_place r s [] (c ∷ v) i e f =
      let a = from_mapped (λ p. 2 * p) (pairs (Root r)) i e in
      let x = from_child pairs s i c v f in
      let same : a.0 ≡ x.1 = (digits false c a.0 x.1 (omega (arith, a.2, x.4))).0 in
      let source : Root r ≡ Under x.0 = one_pair (Root r) (Under x.0) a.0 x.1 a.1 x.3 same in
      absurd (cc)
  one_place r s (b ∷ w) [] i e f =
      let a = from_mapped (λ p. 2 * p) (pairs (Root s)) i f in
      let x = from_child pairs r i b w e in
      let same : a.0 ≡ x.1 = (digits false b a.0 x.1 (omega (arith, a.2, x.4))).0 in
      let source : Root s ≡ Under x.0 = one_pair (Root s) (Under x.0) a.0 x.1 a.1 x.3 same in
      absurd (cc)
  one_place r s (b ∷ w) (c ∷ v) i e f =
      let x = from_child pairs r i b w e in
      let y = from_child pairs s i c v f in
      let same = digits b c x.1 y.1 (x.4 ∙ sym y.4) in
      let source : Under x.0 ≡ Under y.0 = one_pair (Under x.0) (Under y.0) x.1 y.1 x.3 y.3 same.0 in
      let node : x.0 ≡ y.0 = cc in
      let rest = one_place r s w v x.0 x.2 (y.2 ∙ ap Some (sym node)) in
      (rest.0, λ k. same.1 k ∷ rest.1 k)

pub nat_either : (r s : ℕ) → (r ≡ s) ⊎ (r ≢ s)
nat_either r s =
    elim (eqb r s) as (λ (b : Bool). eqb r s ≡ b → (r ≡ s) ⊎ (r ≢ s)) [
      | true ↦ λ (e : eqb r s ≡ true). inl (eqb-true r s e)
      | false ↦ λ (e : eqb r s ≡ false). inr (λ (f : r ≡ s). true≢false (sym (eqb_of f) ∙ e))
    ] refl
  where
    eqb_of : r ≡ s → eqb r s ≡ true
    eqb_of f = eq-eqb r s f

pub source_either : (s t : Source) → (s ≡ t) ⊎ (s ≢ t)
source_either (Root r) (Root s) = ⊎_elim (λ (e : r ≡ s). inl (ap Root e)) (λ (ne : r ≢ s). inr (λ (e : Root r ≡ Root s). ne (cc))) (nat_either r s)
source_either (Root r) (Under j) = inr (λ (e : Root r ≡ Under j). absurd (cc))
source_either (Under i) (Root s) = inr (λ (e : Under i ≡ Root s). absurd (cc))
source_either (Under i) (Under j) = ⊎_elim (λ (e : i ≡ j). inl (ap Under e)) (λ (ne : i ≢ j). inr (λ (e : Under i ≡ Under j). ne (cc))) (nat_either i j)

pub adds-kept : (f g : Pairs) (s : Source) (q : ℕ) → Adds f g s q → (t : Source) (p : ℕ) → f t ≡ Some p → g t ≡ Some p
adds-kept f g s q a t p e =
    ⊎_elim
    (λ (is : t ≡ s). absurd (none_some p (sym a.before ∙ ap f (sym is) ∙ e)))
    (λ (ne : t ≢ s). a.others t ne ∙ e)
    (source_either t s)

pub place-kept : (f g : Pairs) → ((t : Source) (p : ℕ) → f t ≡ Some p → g t ≡ Some p) → (r : ℕ) (w : List Bool) (i : ℕ) → place f r w ≡ Some i → place g r w ≡ Some i
place-kept f g kept r [] i e =
    let a = from_mapped (λ p. 2 * p) (f (Root r)) i e in
    ap (option_map (λ p. 2 * p)) (kept (Root r) a.0 a.1) ∙ ap Some a.2
place-kept f g kept r (b ∷ w) i e =
    let x = from_child f r i b w e in
    to_child g r x.0 x.1 b w (place-kept f g kept r w x.0 x.2) (kept (Under x.0) x.1 x.3) ∙ ap Some x.4

pub place-new : (f g : Pairs) (s : Source) (q : ℕ) → Adds f g s q → (r : ℕ) (w : List Bool) (i : ℕ) → place g r w ≡ Some i → (place f r w ≡ Some i) ⊎ ((b : Bool) × (2 * q + digit b ≡ i))
place-new f g s q a r [] i e =
    let x = from_mapped (λ p. 2 * p) (g (Root r)) i e in
    ⊎_elim
    (λ (is : Root r ≡ s). let same : q ≡ x.0 = some_inj q x.0 (sym a.after ∙ ap g (sym is) ∙ x.1) in inr (false, omega (arith, x.2)))
    (λ (ne : Root r ≢ s). inl (ap (option_map (λ p. 2 * p)) (sym (a.others (Root r) ne) ∙ x.1) ∙ ap Some x.2))
    (source_either (Root r) s)
place-new f g s q a r (b ∷ w) i e =
    let x = from_child g r i b w e in
    ⊎_elim
    (λ (is : Under x.0 ≡ s). let same : q ≡ x.1 = some_inj q x.1 (sym a.after ∙ ap g (sym is) ∙ x.3) in inr (b, ap (λ (p : ℕ). 2 * p + digit b) same ∙ x.4))
    (λ (ne : Under x.0 ≢ s).
    ⊎_elim
    (λ (old : place f r w ≡ Some x.0). inl (to_child f r x.0 x.1 b w old (sym (a.others (Under x.0) ne) ∙ x.3) ∙ ap Some x.4))
    (λ (new : (c : Bool) × (2 * q + digit c ≡ x.0)). absurd (none_some x.1 (sym (a.bare new.0) ∙ ap (λ (k : ℕ). g (Under k)) new.1 ∙ x.3)))
    (place-new f g s q a r w x.0 x.2))
    (source_either (Under x.0) s)

abbrev flat : Option (Option Entry) → Option Entry
flat o = unwrap_or o None

abbrev at_place : List Node → Option ℕ → Option Entry
at_place nodes o = flat (option_map (λ i. (node_at nodes i).entry) o)

-- an empty pair more changes no entry
pub live-adds : (f g : Pairs) (s : Source) (q : ℕ) (nodes : List Node) → Adds f g s q → ((b : Bool) → (node_at nodes (2 * q + digit b)).entry ≡ None) → (n : Name) → live_in g nodes n ≡ live_in f nodes n
live-adds f g s q nodes a empty n = by (place f n.0 n.1) (place g n.0 n.1) (place-kept f g (adds-kept f g s q a) n.0 n.1) (place-new f g s q a n.0 n.1)
  where
    by : (x y : Option ℕ) → ((i : ℕ) → x ≡ Some i → y ≡ Some i) → ((i : ℕ) → y ≡ Some i → (x ≡ Some i) ⊎ ((b : Bool) × (2 * q + digit b ≡ i))) → at_place nodes y ≡ at_place nodes x
    by (Some i) y kept new = ap (at_place nodes) (kept i refl)
    by None None kept new = refl
    by None (Some i) kept new =
        ⊎_elim
        (λ (old : None ≡ Some i). absurd (none_some i old))
        (λ (b : (b : Bool) × (2 * q + digit b ≡ i)). ap (λ (k : ℕ). (node_at nodes k).entry) (sym b.1) ∙ empty b.0)
        (new i refl)

-- a name above one that has a node has one
pub place-above : (pairs : Pairs) (r : ℕ) (j : ℕ) (w : List Bool) (i : ℕ) → place pairs r w ≡ Some i → (k : ℕ) × (place pairs r (drop j w) ≡ Some k)
place-above pairs r zero w i e = (i, e)
place-above pairs r (suc j) [] i e = (i, e)
place-above pairs r (suc j) (b ∷ w) i e = let x = from_child pairs r i b w e in place-above pairs r j w x.0 x.2

-- where a tree has lost an empty pair, a path to a node that is left leads there still
pub leads-left : (f g : Pairs) (n : Name) (i : ℕ) (places : List ℕ) → ((t : Source) (p : ℕ) → f t ≡ Some p → g t ≡ Some p) → LeadsTo g n (depth n) places → place f n.0 n.1 ≡ Some i → LeadsTo f n (depth n) places
leads-left f g n i places kept leads there k within =
    let above = place-above f n.0 (depth n - k) n.1 i there in
    above.1 ∙ sym (place-kept f g kept n.0 (first_letters n k).1 above.0 above.1) ∙ leads k within

pub leads-kept : (f g : Pairs) (n : Name) (end : ℕ) (places : List ℕ) → ((t : Source) (p : ℕ) → f t ≡ Some p → g t ≡ Some p) → LeadsTo f n end places → LeadsTo g n end places
leads-kept f g n end places kept leads k within = place-kept f g kept n.0 (first_letters n k).1 _ (leads k within)

-- a node stands in a pair
pub place-within : (pairs : Pairs) (count : ℕ) → ((s : Source) (p : ℕ) → pairs s ≡ Some p → p < count) → (r : ℕ) (w : List Bool) (i : ℕ) → place pairs r w ≡ Some i → i < 2 * count
place-within pairs count within r [] i e =
    let a = from_mapped (λ p. 2 * p) (pairs (Root r)) i e in
    let low : a.0 < count = within (Root r) a.0 a.1 in
    omega (arith, a.2)
place-within pairs count within r (b ∷ w) i e =
    let x = from_child pairs r i b w e in
    let low : x.1 < count = within (Under x.0) x.1 x.3 in
    let small = small_digit b in
    omega (arith, x.4)
  where
    small_digit : (c : Bool) → digit c < 2
    small_digit true = omega arith
    small_digit false = omega arith

-- no name has a node where one above it has none
pub none-below : (pairs : Pairs) (r j : ℕ) (w : List Bool) → place pairs r (drop j w) ≡ None → place pairs r w ≡ None
none-below pairs r j w none =
    elim (place pairs r w) as (λ (o : Option ℕ). place pairs r w ≡ o → o ≡ None) [
      | None ↦ λ _. refl
      | Some i ↦ λ (e : place pairs r w ≡ Some i). let above = place-above pairs r j w i e in absurd (none_some above.0 (sym none ∙ above.1))
    ] refl

-- a path leads to the first letters that two names have in common
pub common-leads : (pairs : Pairs) (m n : Name) (end : ℕ) (places : List ℕ) → end ≤ depth m → end ≤ depth n → first_letters m end ≡ first_letters n end → LeadsTo pairs m (depth m) places → LeadsTo pairs n end places
common-leads pairs m n end places low high same leads k within =
    let words : (first_letters m k).1 ≡ (first_letters n k).1 = sym (fewer-letters m k end within low) ∙ ap (λ (q : Name). (first_letters q k).1) same ∙ fewer-letters n k end within high in
    let roots : n.0 ≡ m.0 = ap (λ (q : Name). q.0) (sym same) in
    let back : (first_letters n k).1 ≡ (first_letters m k).1 = sym words in
    let there : place pairs n.0 (first_letters n k).1 ≡ place pairs m.0 (first_letters m k).1 = λ i. place pairs (roots i) (back i) in
    there ∙ leads k (omega arith)

pub leads-first : (pairs : Pairs) (n : Name) (end : ℕ) (places : List ℕ) → end ≤ depth n → LeadsTo pairs n end places → LeadsTo pairs (first_letters n end) (depth (first_letters n end)) places
leads-first pairs n end places high leads k within =
    let low : k ≤ end = omega (arith, letters-depth n end high) in
    ap (place pairs n.0) (fewer-letters n k end low high) ∙ leads k low

pub leads-end : (pairs : Pairs) (n : Name) (places : List ℕ) → LeadsTo pairs n (depth n) places → place pairs n.0 n.1 ≡ Some (slice_index places (depth n))
leads-end pairs n places leads = ap (place pairs n.0) (sym (all_letters n)) ∙ leads (depth n) (omega arith)

-- a path goes on to a child
pub leads-more : (pairs : Pairs) (n : Name) (k p x : ℕ) (b : Bool) (places : List ℕ) →
    LeadsTo pairs n k places → pairs (Under (slice_index places k)) ≡ Some p → (first_letters n (k + 1)).1 ≡ b ∷ (first_letters n k).1 → x ≡ 2 * p + digit b → k + 1 < length places →
    LeadsTo pairs n (k + 1) (set places (k + 1) x)
leads-more pairs n k p x b places leads named word is room j within =
    ⊎_elim
    (λ (same : j ≡ k + 1).
    ap (λ (y : ℕ). place pairs n.0 (first_letters n y).1) same
    ∙ ap (place pairs n.0) word
    ∙ to_child pairs n.0 (slice_index places k) p b (first_letters n k).1 (leads k (omega arith)) named
    ∙ ap Some (sym is ∙ sym (get_or-set_same places (k + 1) x 0 room) ∙ ap (λ (y : ℕ). get_or (set places (k + 1) x) y 0) (sym same)))
    (λ (other : j ≢ k + 1). leads j (omega arith) ∙ ap Some (sym (get_or-set_other places (k + 1) j x 0 other)))
    (nat_either j (k + 1))

-- where a path ends at a node with nothing below it, no longer name has a node
pub leads-nowhere : (pairs : Pairs) (n : Name) (k : ℕ) (places : List ℕ) → LeadsTo pairs n k places → k < depth n → pairs (Under (slice_index places k)) ≡ None → place pairs n.0 n.1 ≡ None
leads-nowhere pairs n k places leads low none =
    let next = next-letter n k low in
    none-below pairs n.0 (depth n - (k + 1)) n.1 (ap (place pairs n.0) next.1 ∙ no_child pairs n.0 (slice_index places k) next.0 (first_letters n k).1 (leads k (omega arith)) none)

pub top-nowhere : (pairs : Pairs) (n : Name) → pairs (Root n.0) ≡ None → place pairs n.0 n.1 ≡ None
top-nowhere pairs (r, []) none = ap (option_map (λ p. 2 * p)) none
top-nowhere pairs (r, b ∷ w) none = ap (λ (o : Option ℕ). side_of b (pair_under pairs o)) (top-nowhere pairs (r, w) none)

pub named-place : (pairs : Pairs) (r : ℕ) (w : List Bool) (i : ℕ) → place pairs r w ≡ Some i → IsNamed pairs i
named-place pairs r [] i e =
    let a = from_mapped (λ p. 2 * p) (pairs (Root r)) i e in
    record { source = Root r; pair = a.0; side = false; named = a.1; is = omega (arith, a.2) }
named-place pairs r (b ∷ w) i e =
    let x = from_child pairs r i b w e in
    record { source = Under x.0; pair = x.1; side = b; named = x.3; is = x.4 }

-- entries that stand as before
pub live-entries : (nodes nodes' : List Node) → ((i : ℕ) → (node_at nodes' i).entry ≡ (node_at nodes i).entry) → (pairs : Pairs) (n : Name) → live_in pairs nodes' n ≡ live_in pairs nodes n
live-entries nodes nodes' same pairs n = by (place pairs n.0 n.1)
  where
    by : (o : Option ℕ) → at_place nodes' o ≡ at_place nodes o
    by None = refl
    by (Some i) = same i

pub grows-live : (old new : Nodes) (s : Source) (q : ℕ) → Grows old new s q → (n : Name) → live_in (pairs_of new) new.nodes n ≡ live_in (pairs_of old) old.nodes n
grows-live old new s q g n = live-adds (pairs_of old) (pairs_of new) s q new.nodes g.adds g.empty n ∙ live-entries old.nodes new.nodes g.entries (pairs_of old) n

pub shrinks-live : (old new : Nodes) (i q : ℕ) → Shrinks old new i q → (n : Name) → live_in (pairs_of new) new.nodes n ≡ live_in (pairs_of old) old.nodes n
shrinks-live old new i q h n = sym (live-adds (pairs_of new) (pairs_of old) (Under i) q new.nodes h.adds h.empty n) ∙ live-entries old.nodes new.nodes h.entries (pairs_of old) n

pub stays-live : (old new : Nodes) → Stays old new → (n : Name) → live_in (pairs_of new) new.nodes n ≡ live_in (pairs_of old) old.nodes n
stays-live old new h n = ap (λ (f : Pairs). live_in f new.nodes n) (λ i s. h.pairs s i) ∙ live-entries old.nodes new.nodes h.entries (pairs_of old) n

-- a node with a pair below it keeps its place where another pair is given back
pub place-left : (f g : Pairs) (s : Source) (q p : ℕ) (n : Name) (i : ℕ) → Adds f g s q → place g n.0 n.1 ≡ Some i → g (Under i) ≡ Some p → place f n.0 n.1 ≡ Some i
place-left f g s q p n i a there below =
    ⊎_elim
    (λ (old : place f n.0 n.1 ≡ Some i). old)
    (λ (new : (b : Bool) × (2 * q + digit b ≡ i)). absurd (none_some p (sym (a.bare new.0) ∙ ap (λ (k : ℕ). g (Under k)) new.1 ∙ below)))
    (place-new f g s q a n.0 n.1 i there)

pub grows-keeps : (old new : Nodes) (s : Source) (q : ℕ) → Grows old new s q → Keeps old new
grows-keeps old new s q g = record { pairs = adds-kept (pairs_of old) (pairs_of new) s q g.adds; live = grows-live old new s q g }

pub stays-keeps : (old new : Nodes) → Stays old new → Keeps old new
stays-keeps old new h = record { pairs = λ s p e. h.pairs s ∙ e; live = stays-live old new h }

pub keeps-then : (t u v : Nodes) → Keeps t u → Keeps u v → Keeps t v
keeps-then t u v a b = record { pairs = λ s p e. b.pairs s p (a.pairs s p e); live = λ n. b.live n ∙ a.live n }

pub keeps-path : (old new : Nodes) (path : Path) → Keeps old new → IsPath (pairs_of old) path → IsPath (pairs_of new) path
keeps-path old new path h = by path.name
  where
    by : (o : Option Name) → IfSome o (λ n. LeadsTo (pairs_of old) n (depth n) path.places) → IfSome o (λ n. LeadsTo (pairs_of new) n (depth n) path.places)
    by None leads = leads
    by (Some n) leads = leads-kept (pairs_of old) (pairs_of new) n (depth n) path.places h.pairs leads

-- a path to a name leads to a child of it
pub leads-child : (pairs : Pairs) (r i p x : ℕ) (b : Bool) (w : List Bool) (places : List ℕ) → LeadsTo pairs (r, w) (length w) places → place pairs r w ≡ Some i → pairs (Under i) ≡ Some p → x ≡ 2 * p + digit b → length w + 1 < length places → LeadsTo pairs (r, b ∷ w) (length w + 1) (set places (length w + 1) x)
leads-child pairs r i p x b w places leads there below is room =
    let end : i ≡ slice_index places (length w) = some_inj i (slice_index places (length w)) (sym there ∙ leads-end pairs (r, w) places leads) in
    leads-more pairs (r, b ∷ w) (length w) p x b places inner (ap (λ (k : ℕ). pairs (Under k)) (sym end) ∙ below) word is room
  where
    inner : LeadsTo pairs (r, b ∷ w) (length w) places
    inner k within = let step : suc (length w) - k ≡ suc (length w - k) = omega arith in ap (λ (j : ℕ). place pairs r (drop j (b ∷ w))) step ∙ leads k within

    word : (first_letters (r, b ∷ w) (length w + 1)).1 ≡ b ∷ (first_letters (r, b ∷ w) (length w)).1
    word =
        let all : suc (length w) - (length w + 1) ≡ 0 = omega arith in
        let one : suc (length w) - length w ≡ suc 0 = omega arith in
        ap (λ (j : ℕ). drop j (b ∷ w)) all ∙ ap (λ (j : ℕ). b ∷ drop j (b ∷ w)) (sym one)
