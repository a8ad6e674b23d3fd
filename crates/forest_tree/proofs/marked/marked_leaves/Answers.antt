use Rattle.compat_check.specs.Meshes.{shape_of}
use Rattle.forest_plain.proofs.MarkedLeaves.{all_marked}
use Rattle.forest_tree.proofs.RowNames.{marked_few}
use Rattle.forest_tree.proofs.marked.marked_leaves.Goals as goal

pub returns-then-marks_others : goal.returns-then-marks_others
returns-then-marks_others c = all_marked (shape_of c.args.mesh.now) c.args.members.now c.args.rows.now c.in_ok-all.all.items c.requires.forest c.in_ok-all.ensures

pub returns : goal.returns
returns c = marked_few (shape_of c.args.mesh.now) c.args.members.now c.args.rows.now c.in_ok-found.found.items c.requires.fine c.in_ok-found.ensures (c.marks_others.ensures c.if-marks_others.false)
