use Rattle.compat_check.specs.Meshes.{across_in}
use Rattle.compat_check.proofs.Walks.{child_around}
use Rattle.compat_check.proofs.mesh.MacroMesh.around_child.Goals as goal

pub returns-clause-around : goal.returns-clause-around
returns-clause-around c = record {
  partner_is = child_around (across_in c.args.self.now) c.child_at.result c.args.parent.now.name c.args.side c.child_partner.result c.child_at.ensures c.child_partner.ensures;
  above_is = (c.child_at.ensures, c.requires.parent.partner_is);
}
