-- Values stay within their range: the parts of a value, and the sum of two.
use Rattle.std.proofs.Common.{◌≡◌, ℕ, suc, ◌+◌, ◌*◌, ◌-◌, ◌^◌, ◌<◌, ◌≤◌, ℤ, pos, negsuc, Bool, true, false, cond, List, [], ◌∷◌, refl, ap, sym, ◌∙◌, subst, arith, Option, Some, None, option_map, unwrap_or, is_some, true≢false, map, add-one}
use Rattle.std.specs.Prelude.{nat_abs, ◌+ℤ◌, ◌-ℤ◌}
use Rattle.std.proofs.Math.Nat.{pow-suc}
use Rattle.std.proofs.Math.Pow.{pow_mono}
use Rattle.std.proofs.lemmas.Int.{ints}
use Rattle.std.specs.List.{All}
use Rattle.std.proofs.lemmas.List.Elements.{All-head, All-tail}
use Rattle.std.specs.Ordering.{eq_by_cmp}
use Rattle.std.specs.FinMap.{get, get-insert, get-remove}
use Rattle.mesh_names.specs.Names.{Name, name_cmp, depth}
use Rattle.mesh_names.specs.Order.{name_cmp_total}
use Rattle.mesh_names.specs.declared.patch.PatchName.{PatchName}
use Rattle.mesh_names.proofs.Sets.{tied-same}
use Rattle.name_tree.specs.declared.nodes.Entry.{Entry}
use Rattle.dof_transfer.specs.Held.{Held, AreSized, IsSized, all_given_back, all_taken, given_back, least_unused, taken, value_of}
use Rattle.dof_transfer.specs.Exchanges.{bisected, child, children, coarsened, floor_half, halves, members_of, sum_in, value_in, with_values}

pub half-sized : (v : ℤ) (k : ℕ) → nat_abs v ≤ 2 * k → nat_abs (floor_half v) ≤ k
half-sized (pos n) k h = omega arith
half-sized (negsuc n) k h = omega arith

pub rest-sized : (v : ℤ) (k : ℕ) → nat_abs v ≤ 2 * k → nat_abs (v -ℤ floor_half v) ≤ k
rest-sized (pos n) k h = omega (arith, ints)
rest-sized (negsuc n) k h = omega (arith, ints)

pub sum-sized : (a b : ℤ) (k : ℕ) → nat_abs a ≤ k → nat_abs b ≤ k → nat_abs (a +ℤ b) ≤ 2 * k
sum-sized a b k ha hb = omega (arith, ints)

-- one letter more leaves room for half as much
pub room-halves : (w : ℕ) → w < 24 → 2 ^ 31 * 2 ^ (24 - w) ≡ 2 * (2 ^ 31 * 2 ^ (24 - (w + 1)))
room-halves w deep =
    let k = 24 - (w + 1) in
    let next : 24 - w ≡ suc k = omega arith in
    let double : 2 ^ (24 - w) ≡ 2 ^ k * 2 = ap (λ (m : ℕ). 2 ^ m) next ∙ pow-suc 2 k in
    omega (arith, double)

-- the value of any name is within its range
pub value-sized : (held : Held) (n : Name) → AreSized held → IsSized (depth n) (value_in held n)
value-sized held n sized = cases (value_of held n) refl where
  cases : (o : Option ℤ) → value_of held n ≡ o → IsSized (depth n) (unwrap_or o (pos 0))
  cases None e = omega arith
  cases (Some v) e = sized.sized n v e

-- what one name gives back leaves the others' values
pub sized-given_back : (held : Held) (n : Name) → AreSized held → AreSized (given_back held n)
sized-given_back held n sized = record {
  deep = λ q v h. sized.deep q v (still q v h);
  sized = λ q v h. sized.sized q v (still q v h);
} where
  still : (q : Name) (v : ℤ) → value_of (given_back held n) q ≡ Some v → value_of held q ≡ Some v
  still q v h =
      elim (eq_by_cmp name_cmp q n) as (λ (b : Bool). option_map (λ (e : Entry). e.value) (cond b None (get held.live q)) ≡ Some v → value_of held q ≡ Some v) [
        | true ↦ λ (g : None ≡ Some v). absurd (true≢false (sym (ap is_some g)))
        | false ↦ λ (g : option_map (λ (e : Entry). e.value) (get held.live q) ≡ Some v). g
      ] (sym (ap (option_map (λ (e : Entry). e.value)) (get-remove name_cmp_total held.live n q)) ∙ h)

-- a value within its range may be taken
pub sized-taken : (held : Held) (n : Name) (v : ℤ) → depth n ≤ 24 → IsSized (depth n) v → AreSized held → AreSized (taken held n v)
sized-taken held n v deep own sized = record {
  deep = λ q w h. (either q w h).0;
  sized = λ q w h. (either q w h).1;
} where
  either : (q : Name) (w : ℤ) → value_of (taken held n v) q ≡ Some w → (depth q ≤ 24) × IsSized (depth q) w
  either q w h =
      elim (eq_by_cmp name_cmp q n) as (λ (b : Bool). eq_by_cmp name_cmp q n ≡ b → option_map (λ (e : Entry). e.value) (cond b (Some (record { index = least_unused held.flags; value = v })) (get held.live q)) ≡ Some w → (depth q ≤ 24) × IsSized (depth q) w) [
        | true ↦ λ (t : eq_by_cmp name_cmp q n ≡ true) (g : Some v ≡ Some w).
            subst (λ (x : Name × ℤ). (depth x.0 ≤ 24) × IsSized (depth x.0) x.1) (λ i. (sym (tied-same q n t) i, ap (λ (o : Option ℤ). unwrap_or o w) g i)) (deep, own)
        | false ↦ λ _ (g : option_map (λ (e : Entry). e.value) (get held.live q) ≡ Some w). (sized.deep q w g, sized.sized q w g)
      ] refl (sym (ap (option_map (λ (e : Entry). e.value)) (get-insert name_cmp_total held.live n (record { index = least_unused held.flags; value = v }) q)) ∙ h)

pub sized-all_given_back : (held : Held) (ns : List Name) → AreSized held → AreSized (all_given_back held ns)
sized-all_given_back held [] sized = sized
sized-all_given_back held (n ∷ ns) sized = sized-all_given_back (given_back held n) ns (sized-given_back held n sized)

-- names with values within their ranges
abbrev pub AllSized : List (Name × ℤ) → Type 0
AllSized [] = Unit {0}
AllSized (p ∷ ps) = (depth p.0 ≤ 24) × IsSized (depth p.0) p.1 × AllSized ps

pub sized-all_taken : (held : Held) (ps : List (Name × ℤ)) → AllSized ps → AreSized held → AreSized (all_taken held ps)
sized-all_taken held [] h sized = sized
sized-all_taken held (p ∷ ps) h sized = sized-all_taken (taken held p.0 p.1) ps h.2 (sized-taken held p.0 p.1 h.0 h.1 sized)

-- each name is less than 24 letters long
abbrev pub AllDeep : List Name → Type 0
AllDeep [] = Unit {0}
AllDeep (n ∷ ns) = (depth n < 24) × AllDeep ns

pub halves-sized : (held : Held) (ns : List Name) → AllDeep ns → AreSized held → AllSized (halves held ns)
halves-sized held [] deep sized = tt
halves-sized held (n ∷ ns) deep sized =
    let k = 2 ^ 31 * 2 ^ (24 - (depth n + 1)) in
    let own : nat_abs (value_in held n) ≤ 2 * k = subst (λ (m : ℕ). nat_abs (value_in held n) ≤ m) (room-halves (depth n) deep.0) (value-sized held n sized) in
    (omega (arith, deep.0), at_child (floor_half (value_in held n)) (half-sized (value_in held n) k own), (omega (arith, deep.0), at_child (value_in held n -ℤ floor_half (value_in held n)) (rest-sized (value_in held n) k own), halves-sized held ns deep.1 sized)) where
      at_child : (v : ℤ) → nat_abs v ≤ 2 ^ 31 * 2 ^ (24 - (depth n + 1)) → nat_abs v ≤ 2 ^ 31 * 2 ^ (24 - suc (depth n))
      at_child v h = rw add-one at h

pub sum-in-sized : (held : Held) (n : Name) → depth n < 24 → AreSized held → IsSized (depth n) (sum_in held n)
sum-in-sized held n deep sized =
    let k = 2 ^ 31 * 2 ^ (24 - (depth n + 1)) in
    subst (λ (m : ℕ). nat_abs (sum_in held n) ≤ m) (sym (room-halves (depth n) deep))
    (sum-sized (value_in held (child false n)) (value_in held (child true n)) k (at_child (child false n) (value-sized held (child false n) sized)) (at_child (child true n) (value-sized held (child true n) sized))) where
      at_child : (q : Name) → nat_abs (value_in held q) ≤ 2 ^ 31 * 2 ^ (24 - suc (depth n)) → nat_abs (value_in held q) ≤ 2 ^ 31 * 2 ^ (24 - (depth n + 1))
      at_child q h = rw add-one h

pub sums-sized : (held : Held) (ns : List Name) → AllDeep ns → AreSized held → AllSized (with_values ns (map (sum_in held) ns))
sums-sized held [] deep sized = tt
sums-sized held (n ∷ ns) deep sized = (omega (arith, deep.0), sum-in-sized held n deep.0 sized, sums-sized held ns deep.1 sized)

pub sized-bisected : (held : Held) (p : PatchName) → AllDeep (members_of p) → AreSized held → AreSized (bisected held p)
sized-bisected held p deep sized = sized-all_taken (all_given_back held (members_of p)) (halves held (members_of p)) (halves-sized held (members_of p) deep sized) (sized-all_given_back held (members_of p) sized)

pub sized-coarsened : (held : Held) (ns : List Name) → AllDeep ns → AreSized held → AreSized (coarsened held ns)
sized-coarsened held ns deep sized = sized-all_taken (all_given_back held (children ns)) (with_values ns (map (sum_in held) ns)) (sums-sized held ns deep sized) (sized-all_given_back held (children ns) sized)

-- and it is far from the end of 64 bits
pub sum-in-fits : (held : Held) (n : Name) → depth n < 24 → AreSized held → nat_abs (sum_in held n) ≤ 2 ^ 55
sum-in-fits held n deep sized = le-through (sum-in-sized held n deep sized) (bound (24 - depth n) (omega arith)) where
  le-through : {a b c : ℕ} → a ≤ b → b ≤ c → a ≤ c
  le-through h g = omega arith

  bound : (k : ℕ) → k ≤ 24 → 2 ^ 31 * 2 ^ k ≤ 2 ^ 55
  bound k low = let p : 2 ^ k ≤ 2 ^ 24 = pow_mono low in omega (arith, p)

pub all-deep : (ns : List Name) → All (λ n. depth n < 24) ns → AllDeep ns
all-deep [] h = tt
all-deep (n ∷ ns) h = (All-head (λ n. depth n < 24) n ns h, all-deep ns (All-tail (λ n. depth n < 24) n ns h))
