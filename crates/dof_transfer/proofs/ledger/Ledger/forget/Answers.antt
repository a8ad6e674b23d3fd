use Rattle.std.proofs.Common.{ap}
use Rattle.std.specs.FinMap.{FinMap}
use Rattle.mesh_names.specs.Names.{name_cmp}
use Rattle.name_tree.specs.declared.nodes.Entry.{Entry}
use Rattle.dof_transfer.specs.Held.{Held}
use Rattle.dof_transfer.proofs.ledger.Ledger.forget.Goals as goal

pub returns-clause-held : goal.returns-clause-held
returns-clause-held c = ap {B = Held} (λ (l : FinMap name_cmp Entry). record { live = l; flags = c.args.self.now.admin.flags }) c.forget.ensures
