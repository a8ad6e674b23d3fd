-- Where a name can stand in a list in order, and the part of the list in which it is searched.
use Rattle.std.proofs.Common.{◌≡◌, ◌⊎◌, ℕ, zero, suc, ◌+◌, ◌-◌, ◌<◌, ◌≤◌, Bool, true, false, true≢false, not, refl, sym, ap, ◌∙◌, subst, List, [], ◌∷◌, length, take, drop, get_or, slice_range, arith, inl, inr, ⊎_elim}
use Rattle.std.specs.Prelude.{MatchBool, Result, Ok, Err, is_err}
use Rattle.std.specs.Ordering.{is_lt, is_gt, ordering_reverse}
use Rattle.std.specs.List.Sorted.{IsBinarySearchResult, IsSearchInRange}
use Rattle.std.specs.declared.cmp.Ordering.{Ordering}
use Rattle.std.specs.declared.cmp.Ordering.TheVariants.{Less, Equal, Greater}
use Rattle.std.proofs.lemmas.List.{take-append-drop, length-drop, get_or-drop}
use Rattle.mesh_names.specs.Names.{Name, name_cmp}
use Rattle.mesh_names.specs.Order.{name_cmp_total}
use Rattle.mesh_names.specs.Forests.{Has}
use Rattle.mesh_names.proofs.Sets.{In, has-in, in-has, in-first, in-second}
use Rattle.restart_file.specs.Kept.{set_of}
use Rattle.restart_file.specs.Windows.{AreGreaterFrom, AreLessBefore}
use Rattle.restart_file.proofs.Merging.{behind, tail_sorted, cons_sorted, empty_sorted}
use Rattle.restart_file.proofs.Orders.{not_before}
use Rattle.restart_file.proofs.Searching.{Sorted, sorted_at, place_of, drop_sorted, searched}

-- ---- the ends of the part
other_default : (xs : List Name) (i : ℕ) (d e : Name) → i < length xs → get_or xs i d ≡ get_or xs i e
other_default [] i d e h = absurd (omega (arith, h))
other_default (x ∷ xs) zero d e h = refl
other_default (x ∷ xs) (suc i) d e h = other_default xs i d e (omega (arith, h))

equal_or_less : (a b : ℕ) → a ≤ b → (a ≡ b) ⊎ (a < b)
equal_or_less zero zero h = inl refl
equal_or_less zero (suc b) h = inr (omega arith)
equal_or_less (suc a) zero h = absurd (omega (arith, h))
equal_or_less (suc a) (suc b) h = ⊎_elim (λ (e : a ≡ b). inl (ap suc e)) (λ (l : a < b). inr (omega arith)) (equal_or_less a b (omega (arith, h)))

module _ (xs : List Name) (i : ℕ) (d q : Name) (s : Sorted xs) (inside : i < length xs) (e : d ≡ get_or xs i d) where
  here : get_or xs i q ≡ d
  here = other_default xs i q d inside ∙ sym e

  less_to : name_cmp d q ≡ Less → AreLessBefore (suc i) xs q
  less_to h k l = ⊎_elim
      (λ (f : k ≡ i). ap (λ (j : ℕ). name_cmp (get_or xs j q) q) f ∙ ap (λ (n : Name). name_cmp n q) here ∙ h)
      (λ (m : k < i). name_cmp_total.trans (get_or xs k q) d q (ap (name_cmp (get_or xs k q)) (sym here) ∙ sorted_at xs k i q s m inside) h)
      (equal_or_less k i (omega (arith, l)))

  greater_from : name_cmp d q ≡ Greater → AreGreaterFrom i xs q
  greater_from h k g l = ⊎_elim
      (λ (f : i ≡ k). ap (λ (j : ℕ). name_cmp (get_or xs j q) q) (sym f) ∙ ap (λ (n : Name). name_cmp n q) here ∙ h)
      (λ (m : i < k). turned (get_or xs k q) (name_cmp_total.trans q d (get_or xs k q) (name_cmp_total.antisymm q d ∙ ap ordering_reverse h) (ap (λ (n : Name). name_cmp n (get_or xs k q)) (sym here) ∙ sorted_at xs i k q s m l)))
      (equal_or_less i k g)
    where
      turned : (n : Name) → name_cmp q n ≡ Less → name_cmp n q ≡ Greater
      turned n f = name_cmp_total.antisymm n q ∙ ap ordering_reverse f

pub tells_less : (xs : List Name) (place i : ℕ) (d q : Name) (b : Bool) → Sorted xs → place ≡ suc i → place ≤ length xs → d ≡ get_or xs i d → b ≡ is_lt (name_cmp d q) → MatchBool b (AreLessBefore place xs q) (0 < place)
tells_less xs place i d q false s e h at eb = omega (arith, e)
tells_less xs place i d q true s e h at eb = subst (λ (j : ℕ). AreLessBefore j xs q) (sym e) (less_to xs i d q s (omega (arith, e, h)) at (by (name_cmp d q) (sym eb)))
  where
    by : (o : Ordering) → is_lt o ≡ true → o ≡ Less
    by Less f = refl
    by Equal f = absurd (true≢false (sym f))
    by Greater f = absurd (true≢false (sym f))

pub tells_greater : (xs : List Name) (i : ℕ) (d q : Name) (b : Bool) → Sorted xs → i < length xs → d ≡ get_or xs i d → b ≡ is_gt (name_cmp d q) → MatchBool b (AreGreaterFrom i xs q) (i < length xs)
tells_greater xs i d q false s h at eb = h
tells_greater xs i d q true s h at eb = greater_from xs i d q s h at (by (name_cmp d q) (sym eb))
  where
    by : (o : Ordering) → is_gt o ≡ true → o ≡ Greater
    by Greater f = refl
    by Equal f = absurd (true≢false (sym f))
    by Less f = absurd (true≢false (sym f))

-- ---- a part of a list in order
take_in : (xs : List Name) (i : ℕ) (q : Name) → In q (take i xs) → In q xs
take_in xs i q h = subst (λ (l : List Name). In q l) (take-append-drop i xs) (in-first q (take i xs) (drop i xs) h)

drop_in : (xs : List Name) (i : ℕ) (q : Name) → In q (drop i xs) → In q xs
drop_in xs i q h = subst (λ (l : List Name). In q l) (take-append-drop i xs) (in-second q (take i xs) (drop i xs) h)

take_sorted : (xs : List Name) (i : ℕ) → Sorted xs → Sorted (take i xs)
take_sorted xs zero s = empty_sorted
take_sorted [] (suc i) s = empty_sorted
take_sorted (x ∷ xs) (suc i) s = cons_sorted x (take i xs) (λ q j. behind x xs s q (take_in xs i q j)) (take_sorted xs i (tail_sorted x xs s))

in_take : (xs : List Name) (n k : ℕ) (q : Name) → k < n → k < length xs → get_or xs k q ≡ q → In q (take n xs)
in_take [] n k q b c e = absurd (omega (arith, c))
in_take (x ∷ xs) zero k q b c e = absurd (omega (arith, b))
in_take (x ∷ xs) (suc n) zero q b c e = inl (sym e)
in_take (x ∷ xs) (suc n) (suc k) q b c e = inr (in_take xs n k q (omega (arith, b)) (omega (arith, c)) e)

abbrev pub window : ℕ → ℕ → List Name → List Name
window low high xs = slice_range xs low high

in_window : (xs : List Name) (low high k : ℕ) (q : Name) → low ≤ k → k < high → k < length xs → get_or xs k q ≡ q → In q (window low high xs)
in_window xs low high k q a b c e =
    let sum : low + (k - low) ≡ k = omega (arith, a) in
    let more : length (drop low xs) ≡ length xs - low = length-drop low xs in
    in_take (drop low xs) (high - low) (k - low) q (omega (arith, a, b)) (omega (arith, a, c, more)) (get_or-drop low xs (k - low) q ∙ ap (λ (i : ℕ). get_or xs i q) sum ∙ e)

less_or_not : (a b : ℕ) → (a < b) ⊎ (b ≤ a)
less_or_not zero zero = inr (omega arith)
less_or_not zero (suc b) = inl (omega arith)
less_or_not (suc a) zero = inr (omega arith)
less_or_not (suc a) (suc b) = ⊎_elim (λ (l : a < b). inl (omega arith)) (λ (g : b ≤ a). inr (omega arith)) (less_or_not a b)

-- a name between the ends is in the list exactly where it is in the part
module _ (xs : List Name) (q : Name) (low high : ℕ) (s : Sorted xs) (less : AreLessBefore low xs q) (greater : AreGreaterFrom high xs q) where
  from_window : Has (set_of (window low high xs)) q → Has (set_of xs) q
  from_window h = in-has q xs (drop_in xs low q (take_in (drop low xs) (high - low) q (has-in q (window low high xs) h)))

  same_not_less : (k : ℕ) → get_or xs k q ≡ q → name_cmp (get_or xs k q) q ≡ Less → ⊥
  same_not_less k e h = not_before q (ap (λ (n : Name). name_cmp n q) (sym e) ∙ h)

  same_not_greater : (k : ℕ) → get_or xs k q ≡ q → name_cmp (get_or xs k q) q ≡ Greater → ⊥
  same_not_greater k e h = not_before q (name_cmp_total.antisymm q q ∙ ap ordering_reverse (ap (λ (n : Name). name_cmp n q) (sym e) ∙ h))

  to_window : Has (set_of xs) q → Has (set_of (window low high xs)) q
  to_window h =
      let at = place_of xs q (has-in q xs h) in
      ⊎_elim
      (λ (l : at.0 < low). absurd (same_not_less at.0 at.2 (less at.0 l)))
      (λ (a : low ≤ at.0). ⊎_elim
      (λ (b : at.0 < high). in-has q (window low high xs) (in_window xs low high at.0 q a b at.1 at.2))
      (λ (g : high ≤ at.0). absurd (same_not_greater at.0 at.2 (greater at.0 g at.1)))
      (less_or_not at.0 high))
      (less_or_not at.0 low)

  told : (r : Result ℕ ℕ) → IsSearchInRange r (length (window low high xs)) → IsBinarySearchResult (λ y. name_cmp y q) (window low high xs) r → MatchBool (is_err r) (Has (set_of (window low high xs)) q → ⊥) (Has (set_of (window low high xs)) q)
  told r within h = searched (window low high xs) q r (take_sorted (drop low xs) (high - low) (drop_sorted xs low s)) within h

  pub is_there : (r : Result ℕ ℕ) (i : ℕ) → r ≡ Ok i → IsSearchInRange r (length (window low high xs)) → IsBinarySearchResult (λ y. name_cmp y q) (window low high xs) r → Has (set_of xs) q
  is_there r i e within h = from_window (subst (λ (x : Result ℕ ℕ). MatchBool (is_err x) (Has (set_of (window low high xs)) q → ⊥) (Has (set_of (window low high xs)) q)) e (told r within h))

  pub is_absent : (r : Result ℕ ℕ) (i : ℕ) → r ≡ Err i → IsSearchInRange r (length (window low high xs)) → IsBinarySearchResult (λ y. name_cmp y q) (window low high xs) r → Has (set_of xs) q → ⊥
  is_absent r i e within h has = subst (λ (x : Result ℕ ℕ). MatchBool (is_err x) (Has (set_of (window low high xs)) q → ⊥) (Has (set_of (window low high xs)) q)) e (told r within h) (to_window has)

-- the answer turned round
pub turned_round : (b : Bool) (P : Type 0) → MatchBool b P (P → ⊥) → MatchBool (not b) (P → ⊥) P
turned_round true P h = h
turned_round false P h = h
