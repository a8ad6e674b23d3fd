use Rattle.std.proofs.Common.{◌∙◌, Bool, ap, sym}
use Rattle.std.specs.Prelude.{None, option_map}
use Rattle.mesh_names.specs.Names.{Name}
use Rattle.compat_check.specs.Meshes.{across_in, shape_of}
use Rattle.compat_check.proofs.Walks.{stored_at}
use Rattle.compat_check.proofs.Sharing.{partner_shares, only_partner}
use Rattle.compat_check.proofs.mesh.MacroMesh.partner.Goals as goal

pub returns-in-None-clause-only : goal.returns-in-None-clause-only
returns-in-None-clause-only c = λ m shared.
    let stored = stored_at _ c.args.self.now c.self.inside.sides.items c.self.view_is c.self.invariant in
    only_partner (shape_of c.args.self.now) (across_in c.args.self.now) c.partner_is_only.ensures stored.checked.tells c.args.name c.requires.root m shared None
    (sym (ap (option_map (λ (y : Name × Bool). y.0)) (sym c.turned_partner.ensures ∙ c.in-None.is)))

pub returns-in-Some-clause-shares : goal.returns-in-Some-clause-shares
returns-in-Some-clause-shares c =
    let stored = stored_at _ c.args.self.now c.self.inside.sides.items c.self.view_is c.self.invariant in
    partner_shares (shape_of c.args.self.now) (across_in c.args.self.now) c.partners_pair.ensures c.partners_share.ensures stored.checked.tells c.args.name _ _ c.requires.root (sym c.in-Some.ensures)

pub returns-in-Some-clause-only : goal.returns-in-Some-clause-only
returns-in-Some-clause-only c = λ m shared.
    let stored = stored_at _ c.args.self.now c.self.inside.sides.items c.self.view_is c.self.invariant in
    only_partner (shape_of c.args.self.now) (across_in c.args.self.now) c.partner_is_only.ensures stored.checked.tells c.args.name c.requires.root m shared _
    (ap (option_map (λ (y : Name × Bool). y.0)) c.in-Some.ensures)
