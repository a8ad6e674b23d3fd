use Rattle.std.proofs.Common.{List, subst}
use Rattle.mesh_names.specs.declared.rows.MarkRow.{MarkRow}
use Rattle.mesh_rounds.specs.Setting.{leaf_holding}
use Rattle.mesh_rounds.specs.Taking.{LeavesSet, MeansLeaf}
use Rattle.mesh_rounds.proofs.Lasts.{set-from}
use Rattle.mesh_rounds.proofs.Overruled.{leaves-overruled, rest-all}
use Rattle.mesh_rounds.proofs.rows.set_leaf_values.Goals as goal

pub returns : goal.returns
returns c =
    set-from leaf_holding (λ q. Unit {0}) (MeansLeaf c.args.leaves.now) c.args.rows.now c.start-start.result c.args.elements.now c.set_leaf_rows.new.elements c.start-start.ensures.within
    (λ n there. leaves-overruled c.args.leaves.now c.args.rows.now c.start-start.result n c.start-start.ensures.start (λ k d low every. c.requires.every k d low every n there.1))
    (subst (λ (l : List MarkRow). LeavesSet c.args.leaves.now l c.args.elements.now c.set_leaf_rows.new.elements) (rest-all c.args.rows.now c.start-start.result) c.set_leaf_rows.ensures)
