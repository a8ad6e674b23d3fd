use Rattle.std.proofs.Common.{◌∙◌, ℕ, Bool, ap, sym}
use Rattle.std.specs.Prelude.{None, Some, option_map}
use Rattle.mesh_names.specs.Partners.{Edge}
use Rattle.compat_check.specs.Meshes.{edge_of, shape_of}
use Rattle.compat_check.specs.Sides.{side_told}
use Rattle.compat_check.proofs.Walks.{read_told, stored_at}
use Rattle.compat_check.proofs.Across.{neighbour_shares, only_neighbour}
use Rattle.compat_check.proofs.mesh.MacroMesh.neighbour.Goals as goal

pub returns-in-None-clause-only : goal.returns-in-None-clause-only
returns-in-None-clause-only c = λ s neighbour.
    let stored = stored_at _ c.args.self.now c.self.inside.sides.items c.self.view_is c.self.invariant in
    let told = read_told c.args.self.now c.self.inside.sides.items stored c.args.element c.args.edge c.index.result.now _ c.requires.edge c.index.ensures c.requires.element in
    only_neighbour (shape_of c.args.self.now) stored.checked.valid c.args.element (edge_of c.args.edge) c.requires.element s neighbour None
    (ap (λ o. option_map (λ (a : ℕ × Edge × Bool). a.0) (side_told o)) (sym c.in-None.is) ∙ ap (option_map (λ (a : ℕ × Edge × Bool). a.0)) told)

pub returns-in-Some-clause-shares : goal.returns-in-Some-clause-shares
returns-in-Some-clause-shares c =
    let stored = stored_at _ c.args.self.now c.self.inside.sides.items c.self.view_is c.self.invariant in
    let told = read_told c.args.self.now c.self.inside.sides.items stored c.args.element c.args.edge c.index.result.now _ c.requires.edge c.index.ensures c.requires.element in
    neighbour_shares (shape_of c.args.self.now) stored.checked.valid c.args.element (edge_of c.args.edge) (c.in-Some.side.element, edge_of c.in-Some.side.edge, c.in-Some.side.turned) (sym told ∙ ap side_told c.in-Some.is)

pub returns-in-Some-clause-only : goal.returns-in-Some-clause-only
returns-in-Some-clause-only c = λ s neighbour.
    let stored = stored_at _ c.args.self.now c.self.inside.sides.items c.self.view_is c.self.invariant in
    let told = read_told c.args.self.now c.self.inside.sides.items stored c.args.element c.args.edge c.index.result.now _ c.requires.edge c.index.ensures c.requires.element in
    only_neighbour (shape_of c.args.self.now) stored.checked.valid c.args.element (edge_of c.args.edge) c.requires.element s neighbour (Some c.in-Some.side.element)
    (ap (λ o. option_map (λ (a : ℕ × Edge × Bool). a.0) (side_told o)) (sym c.in-Some.is) ∙ ap (option_map (λ (a : ℕ × Edge × Bool). a.0)) told)
