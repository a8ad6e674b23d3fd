use Rattle.std.proofs.Common.{◌∙◌, sym}
use Rattle.name_tree.proofs.LiveNames.{get-live}
use Rattle.dof_transfer.proofs.ledger.Ledger.get.Goals as goal

pub returns : goal.returns
returns c = c.get.ensures ∙ sym (get-live c.args.self.now.entries c.args.name)
