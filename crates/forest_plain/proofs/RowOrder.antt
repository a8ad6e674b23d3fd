-- Rows that are tried in order.
use Rattle.std.proofs.Common.{◌≡◌, ◌⊎◌, true, ℕ, zero, suc, ◌+◌, ◌<◌, ◌≤◌, sym, ap, ◌∙◌, subst, List, [], ◌∷◌, ◌++◌, take, drop, length, max, slice_index_or, take-suc, arith, inl, inr, ⊎_elim}
use native.Mathlib.Decide.{dec_lt}
use Rattle.std.specs.Prelude.{All, Option, Some, None, IfSome}
use Rattle.std.proofs.lemmas.List.{get_or_default}
use Rattle.mesh_names.specs.Names.{Name}
use Rattle.mesh_names.specs.Triangles.{Shape, level}
use Rattle.mesh_names.specs.Forests.{Names, IsLeaf}
use Rattle.mesh_names.specs.Marks.{NamesElement, names_leaf}
use Rattle.mesh_names.proofs.Sets.{tied-same, same-tied}
use Rattle.mesh_names.specs.declared.rows.MarkRow.{MarkRow}
use Rattle.mesh_names.specs.declared.rows.Place.{Place}
use Rattle.mesh_names.specs.declared.rows.Place.TheVariants.{EveryLeaf, Elem, Corner}
use Rattle.forest_plain.specs.declared.refusal.RoundRefusal.{RoundRefusal}
use Rattle.forest_plain.specs.Rounds.{IsDeepest, IsFine, IsFirstFault, IsRowFault, named}

-- a fact for each of a list, and for one more
pub all-push : {A : Type 0} (P : A → Type 0) (xs : List A) (x : A) → All P xs → P x → All P (xs ++ x ∷ [])
all-push P [] x h p zero d l = p
all-push P [] x h p (suc k) d l = absurd (omega (arith, l))
all-push P (y ∷ xs) x h p zero d l = h zero d (omega arith)
all-push P (y ∷ xs) x h p (suc k) d l = all-push P xs x (λ j e m. h (suc j) e (omega (arith, m))) p k d (omega (arith, l))

pub next-take : {A : Type 0} (xs : List A) (i : ℕ) (x d : A) → i < length xs → x ≡ slice_index_or xs i d → take (i + 1) xs ≡ take i xs ++ x ∷ []
next-take xs i x d low at = (λ j. take (same j) xs) ∙ take-suc xs i d low ∙ (λ j. take i xs ++ sym at j ∷ [])
  where
    same : i + 1 ≡ suc i
    same = omega arith

pub all-next : {A : Type 0} (P : A → Type 0) (xs : List A) (i : ℕ) (x d : A) → i < length xs → x ≡ slice_index_or xs i d → All P (take i xs) → P x → All P (take (i + 1) xs)
all-next P xs i x d low at h p = subst (All P) (sym (next-take xs i x d low at)) (all-push P (take i xs) x h p)

-- a list, split at a place
pub split_at : {A : Type 0} (xs : List A) (i : ℕ) (x d : A) → i < length xs → x ≡ slice_index_or xs i d → xs ≡ take i xs ++ x ∷ drop (suc i) xs
split_at [] i x d low at = absurd (omega (arith, low))
split_at (y ∷ xs) zero x d low at = λ j. sym at j ∷ xs
split_at (y ∷ xs) (suc i) x d low at = ap (λ l. y ∷ l) (split_at xs i x d (omega (arith, low)) at)

pub first_fault : (mesh : Shape) (old : Names) (rows : List MarkRow) (i : ℕ) (row d : MarkRow) (refusal : RoundRefusal) → i < length rows → row ≡ slice_index_or rows i d → All (IsFine mesh old) (take i rows) → IsRowFault mesh old row refusal → IsFirstFault mesh old rows refusal
first_fault mesh old rows i row d refusal low at fine fault = record {
  before = take i rows;
  row = row;
  after = drop (suc i) rows;
  split = split_at rows i row d low at;
  fine = fine;
  fault = fault;
}

pub all_taken : {A : Type 0} (P : A → Type 0) (xs : List A) (i : ℕ) → length xs ≤ i → All P (take i xs) → All P xs
all_taken P [] i f t k d l = absurd (omega (arith, l))
all_taken P (x ∷ xs) zero f t k d l = absurd (omega (arith, f))
all_taken P (x ∷ xs) (suc i) f t zero d l = t zero d (omega arith)
all_taken P (x ∷ xs) (suc i) f t (suc k) d l = all_taken P xs i (omega (arith, f)) (λ j e m. t (suc j) e (omega (arith, m))) k d (omega (arith, l))

-- ---- the leaf that a row names
named_only : (p : Place) (name n : Name) → named p ≡ Some name → NamesElement p → names_leaf p n ≡ true → n ≡ name
named_only EveryLeaf name n e t h = absurd (cc)
named_only (Elem m) name n e t h = let same : m ≡ name = cc in sym (tied-same m n h) ∙ same
named_only (Corner m k) name n e t h = absurd t

names_itself : (p : Place) (name : Name) → named p ≡ Some name → NamesElement p → names_leaf p name ≡ true
names_itself EveryLeaf name e t = absurd (cc)
names_itself (Elem m) name e t = let same : m ≡ name = cc in same-tied m name same
names_itself (Corner m k) name e t = absurd t

pub deepest_named : (mesh : Shape) (old : Names) (row : MarkRow) (name : Name) → named row.place ≡ Some name → NamesElement row.place → (o : Option ℕ) → IfSome o (λ g. IsLeaf mesh old name × (g ≡ level mesh name)) → IfSome o (IsDeepest mesh old row)
deepest_named mesh old row name e t None h = tt
deepest_named mesh old row name e t (Some g) h = record {
  leaf = name;
  is_leaf = h.0;
  is_named = names_itself row.place name e t;
  reached = sym h.1;
  greatest = λ n l k. let same = ap (λ (y : Name). level mesh y) (named_only row.place name n e t k) in let is = h.1 in omega (arith, same, is);
}

-- ---- the greatest level
pub greatest_next : (mesh : Shape) (leaves : List Name) (i place old now new : ℕ) (n d : Name) → i < length leaves → n ≡ slice_index_or leaves i d → now ≡ level mesh n → new ≡ max old now →
    place < length leaves → level mesh (slice_index_or leaves place (0, [])) ≡ old → All (λ m. level mesh m ≤ old) (take i leaves) →
    (p : ℕ) × (p < length leaves) × (level mesh (slice_index_or leaves p (0, [])) ≡ new) × All (λ m. level mesh m ≤ new) (take (i + 1) leaves)
greatest_next mesh leaves i place old now new n d low at is step there reached all =
    ⊎_elim
    (λ (p : new ≡ old). (place, there, reached ∙ sym p, bounded))
    (λ (p : new ≡ now). (i, low, ap (λ (y : Name). level mesh y) (sym (at ∙ get_or_default leaves i d (0, []) low)) ∙ sym is ∙ sym p, bounded))
    which
  where
    which : (new ≡ old) ⊎ (new ≡ now)
    which = by (dec_lt old now)
      where
        by : Dec (old < now) → (new ≡ old) ⊎ (new ≡ now)
        by (yes h) = inr (omega (arith, step, h))
        by (no h) = inl (omega (arith, step, h))

    bounded : All (λ m. level mesh m ≤ new) (take (i + 1) leaves)
    bounded = all-next (λ m. level mesh m ≤ new) leaves i n d low at (λ k e l. let b = all k e l in omega (arith, b, step)) (omega (arith, is, step))

-- a fact for each of a list, at a place
pub all_at : {A : Type 0} (P : A → Type 0) (xs : List A) (i : ℕ) (x d : A) → All P xs → i < length xs → x ≡ slice_index_or xs i d → P x
all_at P xs i x d h low at = subst P (sym at) (h i d low)
