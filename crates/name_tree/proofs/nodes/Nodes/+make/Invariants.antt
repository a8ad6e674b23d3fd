use Rattle.mesh_names.specs.Names.{depth}
use Rattle.name_tree.proofs.nodes.Nodes.+make.Given as goal

abbrev pub decreases-make : goal.decreases-make
decreases-make l = depth l.name
