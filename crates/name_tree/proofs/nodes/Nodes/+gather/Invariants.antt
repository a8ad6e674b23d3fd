use Rattle.std.proofs.Common.{◌-◌}
use Rattle.mesh_names.specs.Names.{depth}
use Rattle.name_tree.proofs.nodes.Nodes.+gather.Given as goal

abbrev pub decreases-gather : goal.decreases-gather
decreases-gather l = 24 - depth l.name
