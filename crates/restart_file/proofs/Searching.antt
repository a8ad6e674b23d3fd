-- A name is searched in a list in order.
use Rattle.std.proofs.Common.{◌≡◌, ◌⊎◌, ℕ, zero, suc, ◌+◌, ◌<◌, ◌≤◌, Bool, true, false, true≢false, refl, sym, ap, ◌∙◌, subst, List, [], ◌∷◌, ◌++◌, length, take, drop, get_or, drop-cons, take-suc, arith, inl, inr, ⊎_elim}
use Rattle.std.specs.Prelude.{Option, Some, None, Result, Ok, Err, MatchBool, option_map, is_err}
use Rattle.std.proofs.lemmas.List.{take-append-drop, take_all}
use Rattle.std.specs.FinSet.{contains}
use Rattle.std.specs.List.Sorted.{IsStrictlySortedBy, IsBinarySearchResult, IsNonDecreasingBy, IsSearchInRange}
use Rattle.std.specs.Cmp.{tied_itself}
use Rattle.std.specs.Ordering.{ordering_index}
use Rattle.std.specs.declared.cmp.Ordering.{Ordering}
use Rattle.std.specs.declared.cmp.Ordering.TheVariants.{Less, Equal, Greater}
use Rattle.mesh_names.specs.Names.{Name, name_cmp}
use Rattle.mesh_names.specs.Order.{name_cmp_total, name_cmp-same}
use Rattle.mesh_names.specs.Triangles.{Shape, size, level}
use Rattle.mesh_names.specs.Forests.{Names, Has, IsForest}
use Rattle.mesh_names.specs.Partners.{Across, partner}
use Rattle.mesh_names.proofs.Sets.{In, item-in, has-in, in-has, is_or_not, in-append}
use Rattle.restart_file.specs.Kept.{set_of}
use Rattle.restart_file.specs.Refusals.{IsAlone, IsFirstAlone}
use Rattle.restart_file.specs.Parts.{HoldsAllPartners}
use Rattle.restart_file.proofs.Merging.{behind, tail_sorted}
use Rattle.restart_file.proofs.Orders.{not_before}

abbrev pub Sorted : List Name → Type 0
Sorted ks = IsStrictlySortedBy name_cmp ks

pub sorted_at : (xs : List Name) (i j : ℕ) (d : Name) → Sorted xs → i < j → j < length xs → name_cmp (get_or xs i d) (get_or xs j d) ≡ Less
sorted_at [] i j d s h k = absurd (omega (arith, k))
sorted_at (x ∷ xs) i zero d s h k = absurd (omega (arith, h))
sorted_at (x ∷ xs) zero (suc j) d s h k = behind x xs s (get_or xs j d) (item-in xs j d (omega (arith, k)))
sorted_at (x ∷ xs) (suc i) (suc j) d s h k = sorted_at xs i j d (tail_sorted x xs s) (omega (arith, h)) (omega (arith, k))

-- a lesser name is no further along, seen from any name
rises : (a b q : Name) → name_cmp a b ≡ Less → ordering_index (name_cmp a q) ≤ ordering_index (name_cmp b q)
rises a b q h = by (name_cmp b q) refl
  where
    by : (o : Ordering) → name_cmp b q ≡ o → ordering_index (name_cmp a q) ≤ ordering_index o
    by Less e = let f : ordering_index (name_cmp a q) ≡ 0 = ap ordering_index (name_cmp_total.trans a b q h e) in omega arith
    by Equal e = let f : ordering_index (name_cmp a q) ≡ 0 = ap ordering_index (ap (name_cmp a) (sym (name_cmp-same b q e)) ∙ h) in omega arith
    by Greater e = top (name_cmp a q)
      where
        top : (o : Ordering) → ordering_index o ≤ 2
        top Less = omega arith
        top Equal = omega arith
        top Greater = omega arith

non_decreasing : (xs : List Name) (q : Name) → Sorted xs → IsNonDecreasingBy (λ y. ordering_index (name_cmp y q)) xs
non_decreasing xs q s i j d h k = ⊎_elim
    (λ (e : i ≡ j). let f : ordering_index (name_cmp (get_or xs i d) q) ≡ ordering_index (name_cmp (get_or xs j d) q) = ap (λ (n : ℕ). ordering_index (name_cmp (get_or xs n d) q)) e in omega arith)
    (λ (l : i < j). rises (get_or xs i d) (get_or xs j d) q (sorted_at xs i j d s l k))
    (equal_or_less i j h)
  where
    equal_or_less : (a b : ℕ) → a ≤ b → (a ≡ b) ⊎ (a < b)
    equal_or_less zero zero h = inl refl
    equal_or_less zero (suc b) h = inr (omega arith)
    equal_or_less (suc a) zero h = absurd (omega (arith, h))
    equal_or_less (suc a) (suc b) h = ⊎_elim (λ (e : a ≡ b). inl (ap suc e)) (λ (l : a < b). inr (omega arith)) (equal_or_less a b (omega (arith, h)))

-- where a name of a list stands
pub place_of : (xs : List Name) (q : Name) → In q xs → (k : ℕ) × (k < length xs) × (get_or xs k q ≡ q)
place_of [] q i = absurd i
place_of (x ∷ xs) q i = ⊎_elim (λ (e : q ≡ x). (0, omega arith, sym e)) (λ (j : In q xs). let r = place_of xs q j in (suc r.0, omega (arith, r.1), r.2)) i

apart_greater : Greater ≡ Equal → ⊥
apart_greater e = cc

-- what a binary search tells of a list in order
pub searched : (xs : List Name) (q : Name) (r : Result ℕ ℕ) → Sorted xs → IsSearchInRange r (length xs) → IsBinarySearchResult (λ y. name_cmp y q) xs r → MatchBool (is_err r) (Has (set_of xs) q → ⊥) (Has (set_of xs) q)
searched xs q (Ok i) s within h =
    let e : get_or xs i q ≡ q = name_cmp-same (get_or xs i q) q (h q) in
    in-has q xs (subst (λ (n : Name). In n xs) e (item-in xs i q within))
searched xs q (Err i) s within h = λ has.
    let p = h (non_decreasing xs q s) in let at = place_of xs q (has-in q xs has) in
    ⊎_elim
    (λ (l : at.0 < i). not_before q (ap (λ (n : Name). name_cmp n q) (sym at.2) ∙ p.0 at.0 q (omega arith) l))
    (λ (g : i ≤ at.0). apart_greater (sym (p.1 at.0 q g at.1) ∙ ap (λ (n : Name). name_cmp n q) at.2 ∙ tied_itself name_cmp_total q))
    (before_or_not at.0 i)
  where
    before_or_not : (a b : ℕ) → (a < b) ⊎ (b ≤ a)
    before_or_not zero zero = inr (omega arith)
    before_or_not zero (suc b) = inl (omega arith)
    before_or_not (suc a) zero = inr (omega arith)
    before_or_not (suc a) (suc b) = ⊎_elim (λ (l : a < b). inl (omega arith)) (λ (g : b ≤ a). inr (omega arith)) (before_or_not a b)

-- ---- names whose partner is no member
pub not_alone : (x : Across) (members : Names) (n : Name) → None ≡ option_map (λ (m : Name × Bool). m.0) (partner x n.0 n.1) → IsAlone x members n → ⊥
not_alone x members n e a = differs (e ∙ ap (option_map (λ (m : Name × Bool). m.0)) a.2)
  where
    differs : {y : Name} → None ≡ Some y → ⊥
    differs q = cc

same_partner : (x : Across) (n q p : Name) (t : Bool) → Some q ≡ option_map (λ (m : Name × Bool). m.0) (partner x n.0 n.1) → partner x n.0 n.1 ≡ Some (p, t) → q ≡ p
same_partner x n q p t e f = inner (e ∙ ap (option_map (λ (m : Name × Bool). m.0)) f)
  where
    inner : {a b : Name} → Some a ≡ Some b → a ≡ b
    inner g = cc

pub is_alone : (x : Across) (xs : List Name) (n q : Name) (b : Bool) → Some q ≡ option_map (λ (m : Name × Bool). m.0) (partner x n.0 n.1) → MatchBool b (Has (set_of xs) q → ⊥) (Has (set_of xs) q) → MatchBool b (IsAlone x (set_of xs) n) (IsAlone x (set_of xs) n → ⊥)
is_alone x xs n q true e h = by (partner x n.0 n.1) refl
  where
    by : (o : Option (Name × Bool)) → partner x n.0 n.1 ≡ o → IsAlone x (set_of xs) n
    by None f = absurd (differs (e ∙ ap (option_map (λ (m : Name × Bool). m.0)) f))
      where
        differs : {y : Name} → Some y ≡ None → ⊥
        differs g = cc
    by (Some a) f = (a.0, a.1, f, ⊎_elim (λ (i : Has (set_of xs) a.0). absurd (h (subst (λ (y : Name). Has (set_of xs) y) (sym (same_partner x n q a.0 a.1 e f)) i))) (λ o. o) (is_or_not (contains (set_of xs) a.0)))
is_alone x xs n q false e h = λ a. true≢false (sym (subst (λ (y : Name). Has (set_of xs) y) (same_partner x n q a.0 a.1 e a.2) h) ∙ a.3)

-- ---- the least of them
abbrev pub NoneAlone : Across → List Name → ℕ → Type 0
NoneAlone x xs i = (m : Name) → Has (set_of (take i xs)) m → IsAlone x (set_of xs) m → ⊥

pub none_yet : (x : Across) (xs : List Name) → NoneAlone x xs 0
none_yet x xs m h = absurd (has-in m [] h)

pub none_more : (x : Across) (xs : List Name) (i : ℕ) (n : Name) → i < length xs → n ≡ get_or xs i n → NoneAlone x xs i → (IsAlone x (set_of xs) n → ⊥) → NoneAlone x xs (i + 1)
none_more x xs i n inside e none last m h a =
    let one : i + 1 ≡ suc i = omega arith in
    let more : take (i + 1) xs ≡ take i xs ++ n ∷ [] = ap (λ (k : ℕ). take k xs) one ∙ take-suc xs i n inside ∙ ap (λ (y : Name). take i xs ++ y ∷ []) (sym e) in
    ⊎_elim
    (λ (j : In m (take i xs)). none m (in-has m (take i xs) j) a)
    (λ j. ⊎_elim (λ (q : m ≡ n). last (subst (λ (y : Name). IsAlone x (set_of xs) y) q a)) (λ f. absurd f) j)
    (in-append m (take i xs) (n ∷ []) (subst (λ (l : List Name). In m l) more (has-in m (take (i + 1) xs) h)))

pub drop_sorted : (xs : List Name) (i : ℕ) → Sorted xs → Sorted (drop i xs)
drop_sorted xs zero s = s
drop_sorted [] (suc i) s = s
drop_sorted (x ∷ xs) (suc i) s = drop_sorted xs i (tail_sorted x xs s)

pub first_found : (x : Across) (xs : List Name) (i : ℕ) (n : Name) → Sorted xs → i < length xs → n ≡ get_or xs i n → NoneAlone x xs i → IsAlone x (set_of xs) n → IsFirstAlone x (set_of xs) n
first_found x xs i n s inside e none alone = record {
  member = in-has n xs (subst (λ (y : Name). In y xs) (sym e) (item-in xs i n inside));
  alone = alone;
  first = λ m h l a.
      let rest : drop i xs ≡ n ∷ drop (suc i) xs = drop-cons xs i n inside ∙ ap (λ (y : Name). y ∷ drop (suc i) xs) (sym e) in
      let s2 : Sorted (n ∷ drop (suc i) xs) = subst Sorted rest (drop_sorted xs i s) in
      ⊎_elim
      (λ (j : In m (take i xs)). none m (in-has m (take i xs) j) a)
      (λ (j : In m (drop i xs)). ⊎_elim
      (λ (q : m ≡ n). not_before n (subst (λ (y : Name). name_cmp y n ≡ Less) q l))
      (λ (k : In m (drop (suc i) xs)). not_before n (name_cmp_total.trans n m n (behind n (drop (suc i) xs) s2 m k) l))
      (subst (λ (y : List Name). In m y) rest j))
      (in-append m (take i xs) (drop i xs) (subst (λ (y : List Name). In m y) (sym (take-append-drop i xs)) (has-in m xs h)));
}

pub none_at_all : (x : Across) (xs : List Name) (i : ℕ) → length xs ≤ i → NoneAlone x xs i → HoldsAllPartners x (set_of xs)
none_at_all x xs i over none m h = none m (subst (λ (l : List Name). Has (set_of l) m) (sym (take_all i xs over)) h)

-- a member of a forest is of the mesh
pub member_level : (mesh : Shape) (xs : List Name) (i : ℕ) (n : Name) → IsForest mesh (set_of xs) → i < length xs → n ≡ get_or xs i n → (n.0 < size mesh) × (level mesh n ≤ 24)
member_level mesh xs i n forest inside e =
    let h : Has (set_of xs) n = in-has n xs (subst (λ (y : Name). In y xs) (sym e) (item-in xs i n inside)) in
    let l = forest.shallow n h in (forest.rooted n h, omega arith)
