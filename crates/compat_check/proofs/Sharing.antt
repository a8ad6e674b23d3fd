-- A partner is the one other name with the refinement edge.
use Rattle.std.proofs.Common.{◌≡◌, ◌<◌, Bool, sym, ap, ◌∙◌, ⊎_elim}
use Rattle.std.specs.Prelude.{Option, Some, option_map}
use Rattle.mesh_names.specs.Names.{Name}
use Rattle.mesh_names.specs.Triangles.{Shape, size}
use Rattle.mesh_names.specs.Partners.{Across, Tells, partner, PartnersPair, PartnersShare, PartnerIsOnly}
use Rattle.compat_check.specs.Partnership.{SharesEdge}

pub partner_shares : (mesh : Shape) (x : Across) → PartnersPair → PartnersShare → Tells mesh x → (n m : Name) (t : Bool) → n.0 < size mesh → partner x n.0 n.1 ≡ Some (m, t) → SharesEdge mesh n m
partner_shares mesh x pairs share tells n m t hr e =
    let pair = pairs mesh x tells n m t hr e in
    record { rooted = pair.rooted; other = pair.other; shares = share mesh x tells n.0 n.1 m t e }

pub only_partner : (mesh : Shape) (x : Across) → PartnerIsOnly → Tells mesh x → (n : Name) → n.0 < size mesh → (m : Name) → SharesEdge mesh n m → (r : Option Name) → r ≡ option_map (λ (y : Name × Bool). y.0) (partner x n.0 n.1) → r ≡ Some m
only_partner mesh x only tells n hr m shared r is = ⊎_elim
    (λ (p : (n.0 ≡ m.0) × (n.1 ≡ m.1)). absurd (shared.other (λ i. (sym p.0 i, sym p.1 i))))
    (λ (p : (t : Bool) × (partner x n.0 n.1 ≡ Some (m, t))). is ∙ ap (option_map (λ (y : Name × Bool). y.0)) p.1)
    (only mesh x tells n.0 m.0 n.1 m.1 hr shared.rooted (sym shared.shares))
