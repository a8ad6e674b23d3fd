-- A list of entries in the order of names: a search in it, and one entry more.
use Rattle.std.proofs.Common.{◌≡◌, ℕ, zero, suc, ◌<◌, ◌≤◌, Bool, true, false, cond, ◌-◌, refl, sym, ap, subst, ◌∙◌, List, [], ◌∷◌, ◌++◌, length, get_or, arith, ⊎_elim, true≢false}
use Rattle.std.specs.List.{AllByRecursion}
use Rattle.std.specs.Prelude.{All, Option, Some, None, Result, Ok, Err, MatchResult, slice_get}
use Rattle.std.specs.BTreeMap.{is_at}
use Rattle.std.specs.List.Sorted.{IsStrictlySortedBy, IsSearchInRange, IsBinarySearchResult, IsNonDecreasingBy}
use Rattle.std.specs.Map.{keys_of, lookup}
use Rattle.std.specs.Ordering.{eq_by_cmp, is_eq, is_lt, ordering_index, ordering_reverse}
use Rattle.std.specs.declared.cmp.Ordering.{Ordering}
use Rattle.std.specs.declared.cmp.Ordering.TheVariants.{Less, Equal, Greater}
use Rattle.std.proofs.lemmas.Bool.{cases_lt}
use Rattle.std.proofs.lemmas.List.{get_or_default, get_or-map, length-map}
use Rattle.std.proofs.lemmas.Map.Entries.{lookup_from_place, lookup_at_gap}
use Rattle.std.proofs.lemmas.Map.Keys.{IsDistinct-from_sorted, Less-from_sorted}
use Rattle.std.proofs.lemmas.Option.{slice_get-get_or}
use Rattle.std.specs.Cmp.{eq_by_cmp_equiv}
use Rattle.mesh_names.specs.Names.{Name, name_cmp}
use Rattle.mesh_names.specs.Order.{name_cmp_total, name_cmp-same}
use Rattle.mesh_names.proofs.Sets.{tied-same}
use Rattle.mesh_writer.specs.Owners.{first_of}

abbrev Entries : Type 0
Entries = List (Name × ℕ)

abbrev none : Name × ℕ
none = ((0, []), 0)

-- where a name comes before another, its comparison with a third is no greater
index_rises : (a b n : Name) → name_cmp a b ≡ Less → ordering_index (name_cmp a n) ≤ ordering_index (name_cmp b n)
index_rises a b n h = either (name_cmp b n) refl
  where
    either : (o : Ordering) → name_cmp b n ≡ o → ordering_index (name_cmp a n) ≤ ordering_index o
    either Less e = omega (arith, ap ordering_index (name_cmp_total.trans a b n h e))
    either Equal e = omega (arith, ap ordering_index (subst (λ (m : Name). name_cmp a m ≡ Less) (name_cmp-same b n e) h))
    either Greater e = top (name_cmp a n)
      where
        top : (o : Ordering) → ordering_index o ≤ 2
        top Less = omega arith
        top Equal = omega arith
        top Greater = omega arith

module _ (es : Entries) (sorted : IsStrictlySortedBy name_cmp (keys_of es)) (n : Name) where
  rises : IsNonDecreasingBy (λ (e : Name × ℕ). ordering_index (name_cmp e.0 n)) es
  rises i j d le inside = ⊎_elim
      (λ (lt : i < j).
      let here = get_or-map (λ (e : Name × ℕ). e.0) es i d d.0 (omega (arith, lt, inside)) in
      let there = get_or-map (λ (e : Name × ℕ). e.0) es j d d.0 inside in
      let less = Less-from_sorted name_cmp (keys_of es) i j d.0 sorted lt (omega (arith, inside, length-map es (λ (e : Name × ℕ). e.0))) in
      index_rises (get_or es i d).0 (get_or es j d).0 n (sym (λ k. name_cmp (here k) (there k)) ∙ less))
      (λ (ge : j ≤ i). let same : i ≡ j = omega (arith, le, ge) in subst (λ (k : ℕ). ordering_index (name_cmp (get_or es i d).0 n) ≤ ordering_index (name_cmp (get_or es k d).0 n)) same (omega arith))
      (cases_lt i j)

  -- a search by name ends at the entry of the name, or there is none
  pub found : (r : Result ℕ ℕ) → IsSearchInRange r (length es) → IsBinarySearchResult (λ (e : Name × ℕ). name_cmp e.0 n) es r →
      MatchResult r (λ i. (d : Name × ℕ) → lookup (is_at (name_cmp n)) es ≡ Some (get_or es i d).1) (λ i. lookup (is_at (name_cmp n)) es ≡ None)
  found (Ok i) inside at = λ d.
      let k = (get_or es i d).0 in
      let same : k ≡ n = name_cmp-same k n (at d) in
      subst (λ (m : Name). lookup (is_at (name_cmp m)) es ≡ Some (get_or es i d).1) same
      (lookup_from_place (eq_by_cmp_equiv name_cmp_total) es i k (get_or es i d).1 (IsDistinct-from_sorted name_cmp (keys_of es) sorted) (slice_get-get_or es i d inside))
  found (Err i) inside parted =
      lookup_at_gap name_cmp_total n es i sorted
      (λ j e lt at. name_cmp_total.antisymm n e.0 ∙ ap ordering_reverse (below j e lt at))
      (λ e at. name_cmp_total.antisymm n e.0 ∙ ap ordering_reverse (above e at))
    where
      within : (j : ℕ) (e : Name × ℕ) → slice_get es j ≡ Some e → (j < length es) × (get_or es j none ≡ e)
      within j e at = inside_of es j e at
        where
          inside_of : (xs : Entries) (k : ℕ) (e : Name × ℕ) → slice_get xs k ≡ Some e → (k < length xs) × (get_or xs k none ≡ e)
          inside_of [] k e h = absurd (cc)
          inside_of (x ∷ xs) zero e h = (omega arith, cc)
          inside_of (x ∷ xs) (suc k) e h = let r = inside_of xs k e h in (omega (arith, r.0), r.1)

      below : (j : ℕ) (e : Name × ℕ) → j < i → slice_get es j ≡ Some e → name_cmp e.0 n ≡ Less
      below j e lt at = let w = within j e at in subst (λ (x : Name × ℕ). name_cmp x.0 n ≡ Less) w.1 ((parted rises).0 j none (omega arith) lt)

      above : (e : Name × ℕ) → slice_get es i ≡ Some e → name_cmp e.0 n ≡ Greater
      above e at = let w = within i e at in subst (λ (x : Name × ℕ). name_cmp x.0 n ≡ Greater) w.1 ((parted rises).1 i none (omega arith) w.0)

-- a list in order, with a name more that comes after all
pub rising_push : (ks : List Name) (n : Name) → IsStrictlySortedBy name_cmp ks → All (λ k. name_cmp k n ≡ Less) ks → IsStrictlySortedBy name_cmp (ks ++ n ∷ [])
unfolding IsStrictlySortedBy
rising_push [] n sorted all = (tt, tt)
rising_push (k ∷ ks) n sorted all = (more ks sorted.0, rising_push ks n sorted.1 (λ i d inside. all (suc i) d (omega (arith, inside))))
  where
    more : (ls : List Name) → AllByRecursion (λ (y : Name). name_cmp k y ≡ Less) ls → AllByRecursion (λ (y : Name). name_cmp k y ≡ Less) (ls ++ n ∷ [])
    more [] h = (all zero k (omega arith), tt)
    more (l ∷ ls) h = (h.0, more ls h.1)

pub keys-push : (es : Entries) (n : Name) (slot : ℕ) → keys_of (es ++ (n, slot) ∷ []) ≡ keys_of es ++ n ∷ []
keys-push [] n slot = refl
keys-push (e ∷ es) n slot = ap (λ (ks : List Name). e.0 ∷ ks) (keys-push es n slot)

pub lookup-push : (test : Name → Bool) (es : Entries) (n : Name) (slot : ℕ) → lookup test (es ++ (n, slot) ∷ []) ≡ first_of (lookup test es) (cond (test n) (Some slot) None)
lookup-push test [] n slot = refl
lookup-push test (e ∷ es) n slot = either (test e.0) (lookup-push test es n slot)
  where
    either : (b : Bool) → lookup test (es ++ (n, slot) ∷ []) ≡ first_of (lookup test es) (cond (test n) (Some slot) None) → cond b (Some e.1) (lookup test (es ++ (n, slot) ∷ [])) ≡ first_of (cond b (Some e.1) (lookup test es)) (cond (test n) (Some slot) None)
    either true h = refl
    either false h = h

-- where the last name comes before another, all do
pub last_before : (ks : List Name) (n : Name) → IsStrictlySortedBy name_cmp ks → (d : Name) → 0 < length ks → name_cmp (get_or ks (length ks - 1) d) n ≡ Less → All (λ k. name_cmp k n ≡ Less) ks
last_before ks n sorted d some h = λ i e inside. ⊎_elim
    (λ (lt : i < length ks - 1). name_cmp_total.trans (get_or ks i e) (get_or ks (length ks - 1) e) n (Less-from_sorted name_cmp ks i (length ks - 1) e sorted lt (omega (arith, some))) (subst (λ (k : Name). name_cmp k n ≡ Less) (get_or_default ks (length ks - 1) d e (omega (arith, some))) h))
    (λ (ge : length ks - 1 ≤ i). let same : i ≡ length ks - 1 = omega (arith, ge, inside) in subst (λ (j : ℕ). name_cmp (get_or ks j e) n ≡ Less) (sym same) (subst (λ (k : Name). name_cmp k n ≡ Less) (get_or_default ks (length ks - 1) d e (omega (arith, some))) h))
    (cases_lt i (length ks - 1))

-- what a new name is told, in the list or else in the map
pub put_told : (a b : Option ℕ) (same : Bool) (slot : ℕ) → (same ≡ true → first_of a b ≡ None) → first_of (first_of a (cond same (Some slot) None)) b ≡ cond same (Some slot) (first_of a b)
put_told (Some k) b true slot new = absurd (cc (new refl))
put_told None b true slot new = refl
put_told (Some k) b false slot new = refl
put_told None b false slot new = refl

pub put_late : (a b : Option ℕ) (same : Bool) (slot : ℕ) → (same ≡ true → first_of a b ≡ None) → first_of a (cond same (Some slot) b) ≡ cond same (Some slot) (first_of a b)
put_late (Some k) b true slot new = absurd (cc (new refl))
put_late None b true slot new = refl
put_late (Some k) b false slot new = refl
put_late None b false slot new = refl

pub found_ok : (es : Entries) → IsStrictlySortedBy name_cmp (keys_of es) → (n : Name) (r : Result ℕ ℕ) → IsSearchInRange r (length es) → IsBinarySearchResult (λ (e : Name × ℕ). name_cmp e.0 n) es r → (i : ℕ) → r ≡ Ok i → (e : Name × ℕ) → e ≡ get_or es i e → Some e.1 ≡ lookup (is_at (name_cmp n)) es
found_ok es sorted n r inside at i is e there =
    ap (λ (x : Name × ℕ). Some x.1) there
    ∙ sym (subst (λ (q : Result ℕ ℕ). MatchResult q (λ j. (d : Name × ℕ) → lookup (is_at (name_cmp n)) es ≡ Some (get_or es j d).1) (λ j. lookup (is_at (name_cmp n)) es ≡ None)) is (found es sorted n r inside at) e)

pub found_err : (es : Entries) → IsStrictlySortedBy name_cmp (keys_of es) → (n : Name) (r : Result ℕ ℕ) → IsSearchInRange r (length es) → IsBinarySearchResult (λ (e : Name × ℕ). name_cmp e.0 n) es r → (i : ℕ) → r ≡ Err i → None ≡ lookup (is_at (name_cmp n)) es
found_err es sorted n r inside at i is =
    sym (subst (λ (q : Result ℕ ℕ). MatchResult q (λ j. (d : Name × ℕ) → lookup (is_at (name_cmp n)) es ≡ Some (get_or es j d).1) (λ j. lookup (is_at (name_cmp n)) es ≡ None)) is (found es sorted n r inside at))

later_apart : (n k : Name) → name_cmp k n ≡ Less → is_at (name_cmp n) k ≡ false
later_apart n k h = ap is_eq (name_cmp_total.antisymm n k ∙ ap ordering_reverse h)

-- a name that comes after all is not there
pub newest_none : (es : Entries) (n : Name) → All (λ k. name_cmp k n ≡ Less) (keys_of es) → None ≡ lookup (is_at (name_cmp n)) es
newest_none [] n all = refl
newest_none (e ∷ es) n all = newest_none es n (λ i d inside. all (suc i) d (omega (arith, inside))) ∙ ap (λ (b : Bool). cond b (Some e.1) (lookup (is_at (name_cmp n)) es)) (sym (later_apart n e.0 (all zero e.0 (omega arith))))

inside_of : (xs : Entries) (k : ℕ) (e : Name × ℕ) → slice_get xs k ≡ Some e → (k < length xs) × ((d : Name × ℕ) → get_or xs k d ≡ e)
inside_of [] k e h = absurd (cc)
inside_of (x ∷ xs) zero e h = (omega arith, λ d. cc)
inside_of (x ∷ xs) (suc k) e h = let r = inside_of xs k e h in (omega (arith, r.0), r.1)

pub newest : (es : Entries) (n : Name) (e : Name × ℕ) → IsStrictlySortedBy name_cmp (keys_of es) → slice_get es (length es - 1) ≡ Some e → name_cmp e.0 n ≡ Less → All (λ k. name_cmp k n ≡ Less) (keys_of es)
newest es n e sorted at h =
    let w = inside_of es (length es - 1) e at in
    let many : length (keys_of es) ≡ length es = length-map es (λ (x : Name × ℕ). x.0) in
    let last : get_or (keys_of es) (length es - 1) e.0 ≡ e.0 = get_or-map (λ (x : Name × ℕ). x.0) es (length es - 1) e e.0 w.0 ∙ ap (λ (x : Name × ℕ). x.0) (w.1 e) in
    last_before (keys_of es) n sorted e.0 (omega (arith, many, w.0)) (subst (λ (k : Name). name_cmp k n ≡ Less) (sym (ap (λ (m : ℕ). get_or (keys_of es) (m - 1) e.0) many ∙ last)) h)

turned_eq : (m n : Name) → eq_by_cmp name_cmp m n ≡ eq_by_cmp name_cmp n m
turned_eq m n = ap is_eq (name_cmp_total.antisymm m n) ∙ back (name_cmp n m)
  where
    back : (o : Ordering) → is_eq (ordering_reverse o) ≡ is_eq o
    back Less = refl
    back Equal = refl
    back Greater = refl

-- the list with one name more, and the map with one
pub put_in_list : (es new : Entries) (late : Name → Option ℕ) (n : Name) (slot : ℕ) → new ≡ es ++ (n, slot) ∷ [] → first_of (lookup (is_at (name_cmp n)) es) (late n) ≡ None → (m : Name) →
    first_of (lookup (is_at (name_cmp m)) new) (late m) ≡ cond (eq_by_cmp name_cmp n m) (Some slot) (first_of (lookup (is_at (name_cmp m)) es) (late m))
put_in_list es new late n slot is none m =
    (λ i. first_of (lookup (is_at (name_cmp m)) (is i)) (late m))
    ∙ (λ i. first_of (lookup-push (is_at (name_cmp m)) es n slot i) (late m))
    ∙ (λ i. first_of (first_of (lookup (is_at (name_cmp m)) es) (cond (turned_eq m n i) (Some slot) None)) (late m))
    ∙ put_told (lookup (is_at (name_cmp m)) es) (late m) (eq_by_cmp name_cmp n m) slot (λ h. subst (λ (k : Name). first_of (lookup (is_at (name_cmp k)) es) (late k) ≡ None) (tied-same n m h) none)

pub put_in_map : (es : Entries) (late then : Name → Option ℕ) (n : Name) (slot : ℕ) → ((m : Name) → then m ≡ cond (eq_by_cmp name_cmp n m) (Some slot) (late m)) → first_of (lookup (is_at (name_cmp n)) es) (late n) ≡ None → (m : Name) →
    first_of (lookup (is_at (name_cmp m)) es) (then m) ≡ cond (eq_by_cmp name_cmp n m) (Some slot) (first_of (lookup (is_at (name_cmp m)) es) (late m))
put_in_map es late then n slot is none m =
    ap (first_of (lookup (is_at (name_cmp m)) es)) (is m)
    ∙ put_late (lookup (is_at (name_cmp m)) es) (late m) (eq_by_cmp name_cmp n m) slot (λ h. subst (λ (k : Name). first_of (lookup (is_at (name_cmp k)) es) (late k) ≡ None) (tied-same n m h) none)

pub less_from_test : (o : Ordering) → is_lt o ≡ true → o ≡ Less
less_from_test Less h = refl
less_from_test Equal h = absurd (true≢false (sym h))
less_from_test Greater h = absurd (true≢false (sym h))
