-- Places and edges.
use Rattle.std.proofs.Common.{◌≡◌, ℕ, zero, suc, ◌+◌, ◌*◌, ◌/◌, ◌%◌, ◌<◌, Bool, true, false, not, cond, eqb, List, [], refl, sym, ap, ◌∙◌, inl, inr, ⊎_elim, arith, eq-eqb}
use Rattle.std.specs.Prelude.{slice_index_or}
use Rattle.std.proofs.lemmas.Bool.Decides.{nat_tests}
use Rattle.mesh_names.specs.Triangles.{Triple}
use Rattle.mesh_names.specs.Partners.{Edge, Edge0, Edge1, Edge2}
use Rattle.mesh_names.specs.Validity.{ends_of, IsSamePair}
use Rattle.compat_check.specs.Meshes.{edge_of, edge_number}
use Rattle.compat_check.specs.Places.{ends_at}
use Rattle.compat_check.specs.Faults.{triple_in}

pub edge_low : (e : Edge) → edge_number e < 3
edge_low Edge0 = omega arith
edge_low Edge1 = omega arith
edge_low Edge2 = omega arith

pub edge_back : (e : Edge) → edge_of (edge_number e) ≡ e
edge_back Edge0 = refl
edge_back Edge1 = refl
edge_back Edge2 = refl

pub number_back : (k : ℕ) → k < 3 → edge_number (edge_of k) ≡ k
number_back zero h = refl
number_back (suc zero) h = refl
number_back (suc (suc zero)) h = refl
number_back (suc (suc (suc k))) h = absurd (omega arith)

pub element_at : (r : ℕ) (e : Edge) → (r * 3 + edge_number e) / 3 ≡ r
element_at r e = omega (arith, edge_low e)

pub number_at : (r : ℕ) (e : Edge) → (r * 3 + edge_number e) % 3 ≡ edge_number e
number_at r e = omega (arith, edge_low e)

pub place_ends : (triples : List Triple) (r : ℕ) (e : Edge) → ends_at triples (r * 3 + edge_number e) ≡ ends_of (triple_in triples r) e
place_ends triples r e = (λ i. ends_of (slice_index_or triples (element_at r e i) []) (edge_of (number_at r e i))) ∙ ap (ends_of (triple_in triples r)) (edge_back e)

-- a place is the place of its element and edge
pub place_is : (k : ℕ) → (k / 3) * 3 + edge_number (edge_of (k % 3)) ≡ k
place_is k = omega (arith, number_back (k % 3) (omega arith))

pub pair_trans : (p q s : ℕ × ℕ) → IsSamePair p q → IsSamePair q s → IsSamePair p s
pair_trans p q s h k = ⊎_elim
    (λ (a : (p.0 ≡ q.0) × (p.1 ≡ q.1)). ⊎_elim
    (λ (b : (q.0 ≡ s.0) × (q.1 ≡ s.1)). inl (a.0 ∙ b.0, a.1 ∙ b.1))
    (λ (b : (q.0 ≡ s.1) × (q.1 ≡ s.0)). inr (a.0 ∙ b.0, a.1 ∙ b.1)) k)
    (λ (a : (p.0 ≡ q.1) × (p.1 ≡ q.0)). ⊎_elim
    (λ (b : (q.0 ≡ s.0) × (q.1 ≡ s.1)). inr (a.0 ∙ b.1, a.1 ∙ b.0))
    (λ (b : (q.0 ≡ s.1) × (q.1 ≡ s.0)). inl (a.0 ∙ b.1, a.1 ∙ b.0)) k)
    h

pub not_equal : (a b : ℕ) → (a ≡ b → ⊥) → eqb a b ≡ false
not_equal a b h = grind (arith, nat_tests)

pub turn_is : (p q : ℕ × ℕ) (t : Bool) → (p.0 ≡ p.1 → ⊥) → (q.0 ≡ cond t p.1 p.0) × (q.1 ≡ cond t p.0 p.1) → not (eqb p.0 q.0) ≡ t
turn_is p q true apart e = ap not (not_equal p.0 q.0 (λ h. apart (h ∙ e.0)))
turn_is p q false apart e = ap not (eq-eqb p.0 q.0 (sym e.0))
