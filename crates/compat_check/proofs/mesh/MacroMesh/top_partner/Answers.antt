use Rattle.compat_check.proofs.Walks.{side_within, stored_at}
use Rattle.compat_check.proofs.mesh.MacroMesh.top_partner.Goals as goal

pub edge_name-requires : goal.edge_name-requires
edge_name-requires c = side_within c.args.self.now c.self.inside.sides.items (stored_at _ _ _ c.self.view_is c.self.invariant) c.args.root c.args.edge c.index.result.now _ c.in-Some.side c.requires.edge c.index.ensures c.requires.root c.in-Some.is
