-- A place more among the links, and a walk along them.
use Rattle.std.proofs.Common.{◌≡◌, ℕ, zero, suc, ◌+◌, ◌<◌, ◌≤◌, min, max, List, [], ◌∷◌, ◌++◌, length, get_or, set, refl, sym, ap, subst, ◌∙◌, inl, inr, ⊎_elim, ◌⊎◌, arith}
use Rattle.std.specs.Prelude.{Option, Some, None}
use Rattle.std.proofs.lemmas.Bool.{cases_eq, cases_lt}
use Rattle.std.proofs.lemmas.Grind.{get_or-set_at}
use Rattle.std.proofs.lemmas.List.{get_or_default, length-append, length-set}
use Rattle.mesh_names.specs.Triangles.{Triple}
use Rattle.mesh_names.specs.Validity.{IsSamePair}
use Rattle.compat_check.specs.Places.{IsEarlier, ends_at}
use Rattle.mesh_writer.specs.Links.{AreLinked, IsLast, edge_at}
use Rattle.mesh_writer.specs.declared.links.Links.{Links}

pub same_pair : (a b c d : ℕ) → min a b ≡ min c d → max a b ≡ max c d → ((a ≡ c) × (b ≡ d)) ⊎ ((a ≡ d) × (b ≡ c))
same_pair a b c d h k = ⊎_elim
    (λ (x : a < b). ⊎_elim (λ (y : c < d). inl (omega arith, omega arith)) (λ (y : d ≤ c). inr (omega arith, omega arith)) (cases_lt c d))
    (λ (x : b ≤ a). ⊎_elim (λ (y : c < d). inr (omega arith, omega arith)) (λ (y : d ≤ c). inl (omega arith, omega arith)) (cases_lt c d))
    (cases_lt a b)

pub lower : (p q : ℕ × ℕ) → IsSamePair p q → min p.0 p.1 ≡ min q.0 q.1
lower p q h = omega (arith, h)

pub upper : (p q : ℕ × ℕ) → IsSamePair p q → max p.0 p.1 ≡ max q.0 q.1
upper p q h = omega (arith, h)

abbrev pub measure : Option ℕ → ℕ
measure None = 0
measure (Some q) = suc q

module _ (triples : List Triple) where
  abbrev E : ℕ → ℕ × ℕ
  E k = edge_at triples k

  -- no place from here on to n has the edge of n
  abbrev pub IsLeft : ℕ → Option ℕ → Type 0
  IsLeft n None = (k : ℕ) → k < n → (E k).0 ≡ (E n).0 → (E k).1 ≡ (E n).1 → ⊥
  IsLeft n (Some q) = (q < n) × ((E q).0 ≡ (E n).0) × ((k : ℕ) → q < k → k < n → (E k).0 ≡ (E n).0 → (E k).1 ≡ (E n).1 → ⊥)

  pub left_first : (n : ℕ) (o : Option ℕ) → IsLast triples (E n).0 n o → IsLeft n o
  left_first n None h = λ k less one two. h k less one
  left_first n (Some q) h = (h.0, h.1, λ k more less one two. h.2 k more less one)

  left_between : (n q k : ℕ) → IsLeft n (Some q) → (k < q → (E k).0 ≡ (E n).0 → (E k).1 ≡ (E n).1 → ⊥) → ((E q).1 ≡ (E n).1 → ⊥) → k < n → (E k).0 ≡ (E n).0 → (E k).1 ≡ (E n).1 → ⊥
  left_between n q k h under other less one two = ⊎_elim
      (λ (x : k < q). under x one two)
      (λ (x : q ≤ k). ⊎_elim (λ (e : k ≡ q). other (sym (ap (λ (i : ℕ). (E i).1) e) ∙ two)) (λ (ne : k ≡ q → ⊥). h.2 k (omega (arith, x, ne)) less one two) (cases_eq k q))
      (cases_lt k q)

  pub left_next : (n q : ℕ) (o : Option ℕ) → IsLeft n (Some q) → ((E q).1 ≡ (E n).1 → ⊥) → IsLast triples (E q).0 q o → IsLeft n o
  left_next n q None h other last = λ k less one two. left_between n q k h (λ x a b. last k x (a ∙ sym h.1)) other less one two
  left_next n q (Some j) h other last = (
    omega (arith, last.0, h.0),
    last.1 ∙ h.1,
    λ k more less one two. left_between n q k h (λ x a b. last.2 k more x (a ∙ sym h.1)) other less one two,
  )

  pub left_found : (n q : ℕ) → IsLeft n (Some q) → (E q).1 ≡ (E n).1 → IsEarlier triples n (Some q)
  left_found n q h e = (
    h.0,
    same_pair (ends_at triples q).0 (ends_at triples q).1 (ends_at triples n).0 (ends_at triples n).1 h.1 e,
    λ k more less m. h.2 k more less (lower (ends_at triples k) (ends_at triples n) m) (upper (ends_at triples k) (ends_at triples n) m),
  )

  pub left_none : (n : ℕ) → IsLeft n None → IsEarlier triples n None
  left_none n h = λ k less m. h k less (lower (ends_at triples k) (ends_at triples n) m) (upper (ends_at triples k) (ends_at triples n) m)

  last_kept : (v n : ℕ) (o : Option ℕ) → ((E n).0 ≡ v → ⊥) → IsLast triples v n o → IsLast triples v (n + 1) o
  last_kept v n None other h = λ k less e. ⊎_elim (λ (x : k < n). h k x e) (λ (x : n ≤ k). let same : n ≡ k = omega (arith, x, less) in other (ap (λ (i : ℕ). (E i).0) same ∙ e)) (cases_lt k n)
  last_kept v n (Some j) other h = (
    omega (arith, h.0),
    h.1,
    λ k more less e. ⊎_elim (λ (x : k < n). h.2 k more x e) (λ (x : n ≤ k). let same : n ≡ k = omega (arith, x, less) in other (ap (λ (i : ℕ). (E i).0) same ∙ e)) (cases_lt k n),
  )

  pub other_set : (xs : List (Option ℕ)) (i j : ℕ) (o : Option ℕ) → (j ≡ i → ⊥) → get_or (set xs i o) j None ≡ get_or xs j None
  other_set [] i j o ne = refl
  other_set (x ∷ xs) zero zero o ne = absurd (ne refl)
  other_set (x ∷ xs) zero (suc j) o ne = refl
  other_set (x ∷ xs) (suc i) zero o ne = refl
  other_set (x ∷ xs) (suc i) (suc j) o ne = other_set xs i j o (λ e. ne (ap suc e))

  pub front : (xs ys : List (Option ℕ)) (i : ℕ) → i < length xs → get_or (xs ++ ys) i None ≡ get_or xs i None
  front [] ys i low = absurd (omega (arith, low))
  front (x ∷ xs) ys zero low = refl
  front (x ∷ xs) ys (suc i) low = front xs ys i (omega (arith, low))

  pub final : (xs : List (Option ℕ)) (y : Option ℕ) (i : ℕ) → i ≡ length xs → get_or (xs ++ y ∷ []) i None ≡ y
  final [] y i e = ap (λ (k : ℕ). get_or (y ∷ []) k None) e
  final (x ∷ xs) y zero e = absurd (omega (arith, e))
  final (x ∷ xs) y (suc i) e = final xs y i (omega (arith, e))

  pub linked_more : (n v : ℕ) (old new : Links) (o : Option ℕ) → AreLinked triples n old → v ≡ (E n).0 → v < length old.lasts.items → o ≡ get_or old.lasts.items v o → new.lasts.items ≡ set old.lasts.items v (Some n) → new.before.items ≡ old.before.items ++ o ∷ [] → AreLinked triples (n + 1) new
  linked_more n v old new o h at inside read lasts before = record {
    each = ap length before ∙ length-append old.before.items (o ∷ []) ∙ omega (arith, h.each);
    lasts = λ u low. subst (λ (l : List (Option ℕ)). IsLast triples u (n + 1) (get_or l u None)) (sym lasts) (each_last u (omega (arith, low, ap length lasts, length-set old.lasts.items v (Some n))));
    before = λ k low. subst (λ (l : List (Option ℕ)). IsLast triples (E k).0 k (get_or l k None)) (sym before) (each_before k low);
  }
    where
      each_last : (u : ℕ) → u < length old.lasts.items → IsLast triples u (n + 1) (get_or (set old.lasts.items v (Some n)) u None)
      each_last u low = ⊎_elim
          (λ (e : u ≡ v). subst (IsLast triples u (n + 1)) (sym (get_or-set_at old.lasts.items v u (Some n) None e inside)) (omega arith, sym at ∙ sym e, λ k more less same. absurd (omega (arith, more, less))))
          (λ (ne : u ≡ v → ⊥). subst (IsLast triples u (n + 1)) (sym (other_set old.lasts.items v u (Some n) ne)) (last_kept u n (get_or old.lasts.items u None) (λ e. ne (sym e ∙ sym at)) (h.lasts u low)))
          (cases_eq u v)

      each_before : (k : ℕ) → k < n + 1 → IsLast triples (E k).0 k (get_or (old.before.items ++ o ∷ []) k None)
      each_before k low = ⊎_elim
          (λ (x : k < n). subst (IsLast triples (E k).0 k) (sym (front old.before.items (o ∷ []) k (omega (arith, x, h.each)))) (h.before k x))
          (λ (x : n ≤ k). let same : k ≡ n = omega (arith, x, low) in
          let there : get_or old.lasts.items v None ≡ o = get_or_default old.lasts.items v None o inside ∙ sym read in
          subst (IsLast triples (E k).0 k) (sym (final old.before.items o k (same ∙ sym h.each)))
          (subst (λ (p : ℕ × ℕ). IsLast triples p.0 p.1 o) (λ i. ((at ∙ ap (λ (j : ℕ). (E j).0) (sym same)) i, sym same i)) (subst (IsLast triples v n) there (h.lasts v inside))))
          (cases_lt k n)

  pub read_before : (before : List (Option ℕ)) (q n : ℕ) (o : Option ℕ) → length before ≡ n → ((k : ℕ) → k < n → IsLast triples (E k).0 k (get_or before k None)) → q < n → o ≡ get_or before q o → IsLast triples (E q).0 q o
  read_before before q n o each known low is = subst (IsLast triples (E q).0 q) (get_or_default before q None o (omega (arith, low, each)) ∙ sym is) (known q low)
