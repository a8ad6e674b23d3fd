-- Edges of triples, and their numbers.
use Rattle.std.proofs.Common.{◌≡◌, ℕ, zero, suc, ◌<◌, refl, sym, ◌∙◌, inl, inr, ⊎_elim, arith}
use Rattle.mesh_names.specs.Triangles.{Triple, corner_of}
use Rattle.mesh_names.specs.Partners.{Edge, Edge0, Edge1, Edge2}
use Rattle.mesh_names.specs.Validity.{IsSamePair, ends_of}
use Rattle.compat_check.specs.Meshes.{edge_of, edge_number}
use Rattle.compat_check.specs.Faults.{IsRepeated}

pub number_back : (k : ℕ) → k < 3 → edge_number (edge_of k) ≡ k
number_back zero h = refl
number_back (suc zero) h = refl
number_back (suc (suc zero)) h = refl
number_back (suc (suc (suc k))) h = absurd (omega arith)

pub same_pair_back : (p q : ℕ × ℕ) → IsSamePair p q → IsSamePair q p
same_pair_back p q h = ⊎_elim (λ (x : (p.0 ≡ q.0) × (p.1 ≡ q.1)). inl (sym x.0, sym x.1)) (λ (x : (p.0 ≡ q.1) × (p.1 ≡ q.0)). inr (sym x.1, sym x.0)) h

pub pair_trans : (p q s : ℕ × ℕ) → IsSamePair p q → IsSamePair q s → IsSamePair p s
pair_trans p q s h k = ⊎_elim
    (λ (a : (p.0 ≡ q.0) × (p.1 ≡ q.1)). ⊎_elim
    (λ (b : (q.0 ≡ s.0) × (q.1 ≡ s.1)). inl (a.0 ∙ b.0, a.1 ∙ b.1))
    (λ (b : (q.0 ≡ s.1) × (q.1 ≡ s.0)). inr (a.0 ∙ b.0, a.1 ∙ b.1)) k)
    (λ (a : (p.0 ≡ q.1) × (p.1 ≡ q.0)). ⊎_elim
    (λ (b : (q.0 ≡ s.0) × (q.1 ≡ s.1)). inr (a.0 ∙ b.1, a.1 ∙ b.0))
    (λ (b : (q.0 ≡ s.1) × (q.1 ≡ s.0)). inl (a.0 ∙ b.1, a.1 ∙ b.0)) k)
    h

-- two edges of one triple have different ends
pub one_edge : (t : Triple) → (IsRepeated t → ⊥) → (e f : Edge) → IsSamePair (ends_of t e) (ends_of t f) → e ≡ f
one_edge t d Edge0 Edge0 s = refl
one_edge t d Edge1 Edge1 s = refl
one_edge t d Edge2 Edge2 s = refl
one_edge t d Edge0 Edge1 s = absurd (⊎_elim (λ p. d (inr (inl p.0))) (λ p. d (inl (sym p.0))) s)
one_edge t d Edge0 Edge2 s = absurd (⊎_elim (λ p. d (inl (sym p.0))) (λ p. d (inr (inr (sym p.1)))) s)
one_edge t d Edge1 Edge0 s = absurd (⊎_elim (λ p. d (inr (inl (sym p.0)))) (λ p. d (inl p.1)) s)
one_edge t d Edge1 Edge2 s = absurd (⊎_elim (λ p. d (inr (inr (sym p.0)))) (λ p. d (inr (inl (sym p.0)))) s)
one_edge t d Edge2 Edge0 s = absurd (⊎_elim (λ p. d (inl p.0)) (λ p. d (inr (inr p.0))) s)
one_edge t d Edge2 Edge1 s = absurd (⊎_elim (λ p. d (inr (inr p.0))) (λ p. d (inr (inl p.1))) s)
