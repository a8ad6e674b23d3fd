-- A partner is another name of the same level, and a name is the partner of its partner.
use Rattle.std.proofs.Common.{◌≡◌, Bool, sym, subst, ⊎_elim}
use Rattle.std.specs.Prelude.{Some}
use Rattle.mesh_names.specs.Triangles.{triangle, midpoint}
use Rattle.mesh_names.specs.Partners.{PartnersPair, partner}
use Rattle.mesh_names.proofs.Levels.{levels_apart}
use Rattle.mesh_names.proofs.Partners.{partners_share}
use Rattle.mesh_names.proofs.Only.{Far, far, only}

pub partners_pair : PartnersPair
partners_pair mesh x tells n m t hn e =
    let apart : Far mesh x tells n.0 n.1 (Some (m, t)) = subst (Far mesh x tells n.0 n.1) e (far mesh x tells n.0 n.1 hn) in
    let share : midpoint (triangle mesh m) ≡ midpoint (triangle mesh n) = partners_share mesh x tells n.0 n.1 m t e in
    let other : m ≡ n → ⊥ = λ q. apart.1 (λ i. (triangle mesh (sym q i)).2) in
    record {
      rooted = apart.0;
      other = other;
      level = levels_apart mesh x tells m n apart.0 hn share;
      back = ⊎_elim
          (λ (p : (m.0 ≡ n.0) × (m.1 ≡ n.1)). absurd (other (λ i. (p.0 i, p.1 i))))
          (λ (p : (t : Bool) × (partner x m.0 m.1 ≡ Some (n, t))). p)
          (only mesh x tells m.0 n.0 m.1 n.1 apart.0 hn share);
    }
