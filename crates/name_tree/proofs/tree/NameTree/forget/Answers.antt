use Rattle.std.proofs.Common.{◌∙◌, ap}
use Rattle.name_tree.specs.Slots.{live_of}
use Rattle.name_tree.proofs.SlotsOfNodes.{same-entries}
use Rattle.name_tree.proofs.tree.NameTree.forget.Goals as goal

pub returns : goal.returns
returns c = same-entries c.self.inside.nodes c.prune.new.self c.prune.ensures.same ∙ ap live_of c.self.view_is
