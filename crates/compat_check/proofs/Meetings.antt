-- Equal keys are edges that meet.
use Rattle.std.proofs.Common.{◌≡◌, ℕ, ◌<◌, ◌≤◌, ◌⊎◌, min, max, List, length, refl, sym, ◌∙◌, subst, inl, inr, ⊎_elim, arith}
use Rattle.std.specs.Prelude.{Option, Some, None, slice_get, slice_index_or}
use Rattle.std.specs.Cmp.{nat_cmp_is}
use Rattle.std.specs.Ordering.{nat_cmp, ordering_then, MatchOrdering}
use Rattle.std.specs.declared.cmp.Ordering.{Ordering}
use Rattle.std.specs.declared.cmp.Ordering.TheVariants.{Less, Equal, Greater}
use Rattle.std.proofs.lemmas.Cmp.{ranked}
use Rattle.std.proofs.lemmas.Option.{slice_get_within}
use Rattle.std.proofs.lemmas.Bool.{cases_lt}
use Rattle.mesh_names.specs.Triangles.{Triple}
use Rattle.mesh_names.specs.Validity.{IsSamePair}
use Rattle.compat_check.specs.Earlier.{AreLastTies, IsLastTie, Ties}
use Rattle.compat_check.specs.Places.{AreEarlier, AreEdgeKeys, IsEarlier, Meets, ends_at, in_order}
use Rattle.compat_check.proofs.Links.{same_some}

pub number_ties : (a b : ℕ) → nat_cmp a b ≡ Equal → a ≡ b
number_ties a b e = subst (λ (r : Ordering). MatchOrdering r (a < b) (a ≡ b) (b < a)) e (ranked a b (nat_cmp a b) refl)

pub numbers_tie : (a b : ℕ) → a ≡ b → nat_cmp a b ≡ Equal
numbers_tie a b e = sym (nat_cmp_is a b Equal e)

pub both_tie : (r s : Ordering) → ordering_then r s ≡ Equal → (r ≡ Equal) × (s ≡ Equal)
both_tie Less s e = absurd (cc)
both_tie Equal s e = (refl, e)
both_tie Greater s e = absurd (cc)

pub then_tie : (r s : Ordering) → r ≡ Equal → s ≡ Equal → ordering_then r s ≡ Equal
then_tie r s e f = (λ i. ordering_then (e i) (f i))

abbrev pub key_cmp : ℕ × ℕ → ℕ × ℕ → Ordering
key_cmp p q = ordering_then (nat_cmp p.0 q.0) (nat_cmp p.1 q.1)

keys_tie : (p q : ℕ × ℕ) → IsSamePair p q → key_cmp (in_order p) (in_order q) ≡ Equal
keys_tie p q h = then_tie _ _ (numbers_tie (min p.0 p.1) (min q.0 q.1) (omega arith)) (numbers_tie (max p.0 p.1) (max q.0 q.1) (omega arith))

same_pair : (a b c d : ℕ) → min a b ≡ min c d → max a b ≡ max c d → ((a ≡ c) × (b ≡ d)) ⊎ ((a ≡ d) × (b ≡ c))
same_pair a b c d h k = ⊎_elim
    (λ (x : a < b). ⊎_elim (λ (y : c < d). inl (omega arith, omega arith)) (λ (y : d ≤ c). inr (omega arith, omega arith)) (cases_lt c d))
    (λ (x : b ≤ a). ⊎_elim (λ (y : c < d). inr (omega arith, omega arith)) (λ (y : d ≤ c). inl (omega arith, omega arith)) (cases_lt c d))
    (cases_lt a b)

tied_keys : (p q : ℕ × ℕ) → key_cmp (in_order p) (in_order q) ≡ Equal → IsSamePair p q
tied_keys p q h = let both = both_tie (nat_cmp (min p.0 p.1) (min q.0 q.1)) (nat_cmp (max p.0 p.1) (max q.0 q.1)) h in
    same_pair p.0 p.1 q.0 q.1 (number_ties (min p.0 p.1) (min q.0 q.1) both.0) (number_ties (max p.0 p.1) (max q.0 q.1) both.1)

module _ (triples : List Triple) (keys : List (ℕ × ℕ)) (known : AreEdgeKeys triples keys) where
  ties_meet : (j i : ℕ) → Ties key_cmp keys j i → Meets triples j i
  ties_meet j i t =
      let a : t.0 ≡ in_order (ends_at triples j) = same_some t.0 (in_order (ends_at triples j)) (slice_get keys j) t.1.1 (known.key j (slice_get_within keys j t.0 t.1.1)) in
      let b : t.1.0 ≡ in_order (ends_at triples i) = same_some t.1.0 (in_order (ends_at triples i)) (slice_get keys i) t.1.2 (known.key i (slice_get_within keys i t.1.0 t.1.2)) in
      tied_keys (ends_at triples j) (ends_at triples i) (subst (λ (y : (ℕ × ℕ) × (ℕ × ℕ)). key_cmp y.0 y.1 ≡ Equal) (λ x. (a x, b x)) t.1.3)

  meets_tie : (j i : ℕ) → j < length keys → i < length keys → Meets triples j i → Ties key_cmp keys j i
  meets_tie j i hj hi m = (in_order (ends_at triples j), (in_order (ends_at triples i), known.key j hj, known.key i hi, keys_tie (ends_at triples j) (ends_at triples i) m))

  earlier_at : (i : ℕ) → i < length keys → (o : Option ℕ) → IsLastTie key_cmp keys i o → IsEarlier triples i o
  earlier_at i hi None h = λ j less m. h j less (meets_tie j i (omega arith) hi m)
  earlier_at i hi (Some j) h = (h.0, ties_meet j i h.1, λ k jk ki m. h.2 k jk ki (meets_tie k i (omega arith) hi m))

  pub earlier_from_ties : (earlier : List (Option ℕ)) → AreLastTies key_cmp keys earlier → AreEarlier triples earlier
  earlier_from_ties earlier ties = record {
    each = ties.each ∙ known.each;
    last = λ i hi. let inside : i < length keys = omega (arith, known.each) in earlier_at i inside (slice_index_or earlier i None) (ties.last i inside);
  }
