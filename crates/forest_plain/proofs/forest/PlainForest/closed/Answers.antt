use Rattle.compat_check.specs.Meshes.{across_in, shape_of}
use Rattle.forest_plain.specs.MarkMaps.{mark_in}
use Rattle.forest_plain.proofs.MarkedLeaves.{all_marked}
use Rattle.forest_plain.proofs.Readiness.{ready}
use Rattle.forest_plain.proofs.Refining.{needs_fit, needed_can, refined_least}
use Rattle.forest_plain.proofs.forest.PlainForest.closed.Goals as goal

pub needed_names-requires : goal.needed_names-requires
needed_names-requires c =
    let checked = c.element_count-checked.ensures.checked in
    needs_fit (shape_of c.args.self.now.mesh.now) c.args.self.now.members c.args.rows.now c.args.self.now.stands.forest checked.low c.requires.fine (across_in c.args.self.now.mesh.now) c.element_count-checked.ensures.tells c.args.list.now (all_marked (shape_of c.args.self.now.mesh.now) c.args.self.now.members c.args.rows.now c.args.list.now c.args.self.now.stands.forest c.requires.leaves) (mark_in c.in_ok-marks.marks) c.in_ok-marks.ensures

pub close-requires-clause-can : goal.close-requires-clause-can
close-requires-clause-can c =
    let checked = c.element_count-checked.ensures.checked in
    needed_can (shape_of c.args.self.now.mesh.now) c.args.self.now.members c.args.rows.now c.args.self.now.stands.forest checked.low c.requires.fine (across_in c.args.self.now.mesh.now) c.element_count-checked.ensures.tells c.args.list.now (all_marked (shape_of c.args.self.now.mesh.now) c.args.self.now.members c.args.rows.now c.args.list.now c.args.self.now.stands.forest c.requires.leaves) (mark_in c.in_ok-marks.marks) c.in_ok-needed.needed.items c.in_ok-marks.ensures c.in_ok-needed.ensures

pub returns : goal.returns
returns c =
    let checked = c.element_count-checked.ensures.checked in
    let shape = shape_of c.args.self.now.mesh.now in
    let sides = across_in c.args.self.now.mesh.now in
    let tells = c.element_count-checked.ensures.tells in
    let refined = refined_least shape c.args.self.now.members c.args.rows.now c.args.self.now.stands.forest checked.low c.requires.fine sides tells c.args.list.now (all_marked (shape_of c.args.self.now.mesh.now) c.args.self.now.members c.args.rows.now c.args.list.now c.args.self.now.stands.forest c.requires.leaves) (mark_in c.in_ok-marks.marks) c.in_ok-needed.needed.items c.in_ok-members.members c.close.new.members
    c.in_ok-marks.ensures c.in_ok-needed.ensures c.in_ok-members.ensures c.in_ok-close.ensures.least in
    ready shape sides tells c.args.self.now.members c.args.rows.now c.args.self.now.stands.forest c.args.list.now (all_marked (shape_of c.args.self.now.mesh.now) c.args.self.now.members c.args.rows.now c.args.list.now c.args.self.now.stands.forest c.requires.leaves) (mark_in c.in_ok-marks.marks) c.in_ok-marks.ensures (record { members = c.close.new.members; marks = c.in_ok-leaf_marks.leaf_marks }) refined c.in_ok-leaf_marks.ensures.marks c.in_ok-leaf_marks.ensures.parents
