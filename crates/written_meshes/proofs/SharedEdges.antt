-- A shared edge has one middle.
use Rattle.std.proofs.Common.{◌≡◌, ℕ, refl, sym, ◌∙◌, ⊎_elim}
use Rattle.mesh_names.specs.Triangles.{Shape, Corner, triple_of, middle}
use Rattle.mesh_names.specs.Partners.{Edge, Edge0, Edge1, Edge2, edge_middle}
use Rattle.mesh_names.specs.Validity.{IsSamePair, Shares, ends_of}
use Rattle.mesh_names.proofs.Middles.{middle-swap}

pair_middle : (p q : ℕ × ℕ) → IsSamePair p q → middle (Corner p.0) (Corner p.1) ≡ middle (Corner q.0) (Corner q.1)
pair_middle p q s = ⊎_elim
    (λ (a : (p.0 ≡ q.0) × (p.1 ≡ q.1)). (λ i. middle (Corner (a.0 i)) (Corner (a.1 i))))
    (λ (a : (p.0 ≡ q.1) × (p.1 ≡ q.0)). (λ i. middle (Corner (a.0 i)) (Corner (a.1 i))) ∙ middle-swap (Corner q.1) (Corner q.0))
    s

edge_ends : (mesh : Shape) (r : ℕ) (e : Edge) → edge_middle mesh r e ≡ middle (Corner (ends_of (triple_of mesh r) e).0) (Corner (ends_of (triple_of mesh r) e).1)
edge_ends mesh r Edge0 = refl
edge_ends mesh r Edge1 = refl
edge_ends mesh r Edge2 = refl

pub shared_middle : (mesh : Shape) (r s : ℕ) (e f : Edge) → Shares mesh r e s f → edge_middle mesh r e ≡ edge_middle mesh s f
shared_middle mesh r s e f h = edge_ends mesh r e ∙ pair_middle (ends_of (triple_of mesh r) e) (ends_of (triple_of mesh s) f) h ∙ sym (edge_ends mesh s f)
