use Rattle.std.proofs.Common.{List, sym, subst}
use Rattle.mesh_names.specs.Names.{Name}
use Rattle.mesh_names.specs.Forests.{IsListOf, Names}
use Rattle.forest_tree.proofs.leaves.leaf_list.Goals as goal

pub leaves_beside-requires-clause-names : goal.leaves_beside-requires-clause-names
leaves_beside-requires-clause-names c =
    subst (λ (s : Names). IsListOf s c.deref.result.now) (sym c.finder-finder.ensures)
    (subst (λ (l : List Name). IsListOf c.args.members.now l) (sym c.deref.ensures.value) c.in_ok-names.ensures)
