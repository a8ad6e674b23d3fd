-- Equal keys are twins.
use Rattle.std.proofs.Common.{◌≡◌, ℕ, ◌<◌, List, length, refl, sym, ◌∙◌, subst, inl, inr, ⊎_elim, arith}
use Rattle.std.specs.Prelude.{Option, Some, None, slice_get, slice_index_or}
use Rattle.std.specs.Ordering.{nat_cmp, ordering_then}
use Rattle.std.specs.declared.cmp.Ordering.{Ordering}
use Rattle.std.specs.declared.cmp.Ordering.TheVariants.{Equal}
use Rattle.std.proofs.lemmas.Option.{slice_get_within}
use Rattle.mesh_names.specs.Triangles.{Triple, corner_of}
use Rattle.mesh_names.specs.Validity.{IsTwin, HasCorner}
use Rattle.compat_check.specs.Earlier.{AreLastTies, IsLastTie, Ties}
use Rattle.compat_check.specs.Faults.{IsFirst, IsRepeated, triple_in}
use Rattle.compat_check.specs.Twins.{AreCornerKeys, AreTwins, IsTwinBefore, corner_key}
use Rattle.compat_check.proofs.Links.{same_some}
use Rattle.compat_check.proofs.Meetings.{number_ties, numbers_tie, both_tie, then_tie}
use Rattle.compat_check.proofs.Sorted3.{OneOf, low3, mid3, high3, key_has, has_key, in_order3, same_three}

abbrev pub three_cmp : ℕ × ℕ × ℕ → ℕ × ℕ × ℕ → Ordering
three_cmp p q = ordering_then (ordering_then (nat_cmp p.0 q.0) (nat_cmp p.1 q.1)) (nat_cmp p.2 q.2)

three_tie : (p q : ℕ × ℕ × ℕ) → three_cmp p q ≡ Equal → (p.0 ≡ q.0) × (p.1 ≡ q.1) × (p.2 ≡ q.2)
three_tie p q h =
    let a = both_tie (ordering_then (nat_cmp p.0 q.0) (nat_cmp p.1 q.1)) (nat_cmp p.2 q.2) h in
    let b = both_tie (nat_cmp p.0 q.0) (nat_cmp p.1 q.1) a.0 in
    (number_ties p.0 q.0 b.0, number_ties p.1 q.1 b.1, number_ties p.2 q.2 a.1)

tie_three : (p q : ℕ × ℕ × ℕ) → (p.0 ≡ q.0) × (p.1 ≡ q.1) × (p.2 ≡ q.2) → three_cmp p q ≡ Equal
tie_three p q h = then_tie (ordering_then (nat_cmp p.0 q.0) (nat_cmp p.1 q.1)) (nat_cmp p.2 q.2) (then_tie (nat_cmp p.0 q.0) (nat_cmp p.1 q.1) (numbers_tie p.0 q.0 h.0) (numbers_tie p.1 q.1 h.1)) (numbers_tie p.2 q.2 h.2)

moved : (v a b c x y z : ℕ) → (low3 a b c ≡ low3 x y z) × (mid3 a b c ≡ mid3 x y z) × (high3 a b c ≡ high3 x y z) → OneOf v a b c → OneOf v x y z
moved v a b c x y z e h = has_key v x y z (subst (λ (k : ℕ × ℕ × ℕ). OneOf v k.0 k.1 k.2) (λ i. (e.0 i, e.1 i, e.2 i)) (key_has v a b c h))

pub twin_from_key : (t u : Triple) → three_cmp (corner_key t) (corner_key u) ≡ Equal → IsTwin t u
twin_from_key t u h =
    let e = three_tie (corner_key t) (corner_key u) h in
    let m : (v : ℕ) → HasCorner t v → HasCorner u v = λ v. moved v (corner_of t 0) (corner_of t 1) (corner_of t 2) (corner_of u 0) (corner_of u 1) (corner_of u 2) e in
    (m (corner_of t 0) (inl refl), m (corner_of t 1) (inr (inl refl)), m (corner_of t 2) (inr (inr refl)))

sent : (a b c : ℕ) (u : Triple) → HasCorner u a → HasCorner u b → HasCorner u c → (v : ℕ) → OneOf v a b c → HasCorner u v
sent a b c u ha hb hc v h = ⊎_elim (λ p. subst (HasCorner u) (sym p) ha) (λ h2. ⊎_elim (λ p. subst (HasCorner u) (sym p) hb) (λ p. subst (HasCorner u) (sym p) hc) h2) h

ordered : (t : Triple) → (IsRepeated t → ⊥) → (low3 (corner_of t 0) (corner_of t 1) (corner_of t 2) < mid3 (corner_of t 0) (corner_of t 1) (corner_of t 2)) × (mid3 (corner_of t 0) (corner_of t 1) (corner_of t 2) < high3 (corner_of t 0) (corner_of t 1) (corner_of t 2))
ordered t h = in_order3 (corner_of t 0) (corner_of t 1) (corner_of t 2) (λ e. h (inl e)) (λ e. h (inr (inl e))) (λ e. h (inr (inr e)))

pub key_from_twin : (t u : Triple) → (IsRepeated t → ⊥) → (IsRepeated u → ⊥) → IsTwin t u → three_cmp (corner_key t) (corner_key u) ≡ Equal
key_from_twin t u dt du twin =
    let a = corner_of t 0 in let b = corner_of t 1 in let c = corner_of t 2 in
    let x = corner_of u 0 in let y = corner_of u 1 in let z = corner_of u 2 in
    let in_u : (v : ℕ) → OneOf v a b c → OneOf v (low3 x y z) (mid3 x y z) (high3 x y z) = λ v h. key_has v x y z (sent a b c u twin.0 twin.1 twin.2 v h) in
    tie_three (corner_key t) (corner_key u)
    (same_three (low3 a b c) (mid3 a b c) (high3 a b c) (low3 x y z) (mid3 x y z) (high3 x y z) (ordered t dt).0 (ordered t dt).1 (ordered u du).0 (ordered u du).1
    (in_u (low3 a b c) (has_key (low3 a b c) a b c (inl refl)))
    (in_u (mid3 a b c) (has_key (mid3 a b c) a b c (inr (inl refl))))
    (in_u (high3 a b c) (has_key (high3 a b c) a b c (inr (inr refl)))))

module _ (triples : List Triple) (distinct : IsFirst (length triples) (λ r. IsRepeated (triple_in triples r)) None) (keys : List (ℕ × ℕ × ℕ)) (known : AreCornerKeys triples keys) where
  ties_are_twins : (r s : ℕ) → Ties three_cmp keys r s → IsTwin (triple_in triples r) (triple_in triples s)
  ties_are_twins r s t =
      let a : t.0 ≡ corner_key (triple_in triples r) = same_some t.0 (corner_key (triple_in triples r)) (slice_get keys r) t.1.1 (known.key r (slice_get_within keys r t.0 t.1.1)) in
      let b : t.1.0 ≡ corner_key (triple_in triples s) = same_some t.1.0 (corner_key (triple_in triples s)) (slice_get keys s) t.1.2 (known.key s (slice_get_within keys s t.1.0 t.1.2)) in
      twin_from_key (triple_in triples r) (triple_in triples s) (subst (λ (y : (ℕ × ℕ × ℕ) × (ℕ × ℕ × ℕ)). three_cmp y.0 y.1 ≡ Equal) (λ x. (a x, b x)) t.1.3)

  twins_tie : (r s : ℕ) → r < length keys → s < length keys → IsTwin (triple_in triples r) (triple_in triples s) → Ties three_cmp keys r s
  twins_tie r s hr hs twin = (corner_key (triple_in triples r), (corner_key (triple_in triples s), known.key r hr, known.key s hs, key_from_twin (triple_in triples r) (triple_in triples s) (distinct r (omega (arith, known.each))) (distinct s (omega (arith, known.each))) twin))

  twin_before : (s : ℕ) → s < length keys → (o : Option ℕ) → IsLastTie three_cmp keys s o → IsTwinBefore triples s o
  twin_before s hs None h = λ r less twin. h r less (twins_tie r s (omega arith) hs twin)
  twin_before s hs (Some r) h = (h.0, ties_are_twins r s h.1)

  pub twins_from_ties : (earlier : List (Option ℕ)) → AreLastTies three_cmp keys earlier → AreTwins triples earlier
  twins_from_ties earlier ties = record {
    each = ties.each ∙ known.each;
    last = λ s hs. let inside : s < length keys = omega (arith, known.each) in twin_before s inside (slice_index_or earlier s None) (ties.last s inside);
  }

pub twin_swap : (t u : Triple) → (IsRepeated t → ⊥) → (IsRepeated u → ⊥) → IsTwin t u → IsTwin u t
twin_swap t u dt du h =
    let e = three_tie (corner_key t) (corner_key u) (key_from_twin t u dt du h) in
    twin_from_key u t (tie_three (corner_key u) (corner_key t) (sym e.0, sym e.1, sym e.2))

-- two twins of a third are twins
pub twin_join : (t u v : Triple) → (IsRepeated t → ⊥) → (IsRepeated u → ⊥) → (IsRepeated v → ⊥) → IsTwin t v → IsTwin u v → IsTwin t u
twin_join t u v dt du dv h k =
    let a = three_tie (corner_key t) (corner_key v) (key_from_twin t v dt dv h) in
    let b = three_tie (corner_key u) (corner_key v) (key_from_twin u v du dv k) in
    twin_from_key t u (tie_three (corner_key t) (corner_key u) (a.0 ∙ sym b.0, a.1 ∙ sym b.1, a.2 ∙ sym b.2))
