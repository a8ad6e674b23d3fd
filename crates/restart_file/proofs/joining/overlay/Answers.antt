use Rattle.compat_check.specs.Meshes.{shape_of, across_in}
use Rattle.restart_file.proofs.LeafCounting.{few_leaves}
use Rattle.restart_file.proofs.Merging.{merge_short}
use Rattle.restart_file.proofs.Unions.{is_kept, is_least}
use Rattle.restart_file.proofs.joining.overlay.Goals as goal

pub returns-clause-kept : goal.returns-clause-kept
returns-clause-kept c = is_kept (shape_of c.args.mesh.now) (across_in c.args.mesh.now) c.element_count-count.ensures.tells c.args.first.now c.args.second.now c.in_ok-both.both.items c.requires.first c.requires.second c.in_ok-both.ensures

pub returns-clause-least : goal.returns-clause-least
returns-clause-least c = is_least (shape_of c.args.mesh.now) (across_in c.args.mesh.now) c.element_count-count.ensures.tells c.args.first.now c.args.second.now c.in_ok-both.both.items c.requires.first c.requires.second c.in_ok-both.ensures

pub returns-clause-few : goal.returns-clause-few
returns-clause-few c = merge_short c.in_ok-both.both.items c.args.first.now c.args.second.now c.in_ok-both.ensures

pub returns-clause-leaves : goal.returns-clause-leaves
returns-clause-leaves c =
    few_leaves (shape_of c.args.mesh.now) c.args.first.now c.args.second.now c.in_ok-both.both.items c.requires.first c.requires.second
    (is_kept (shape_of c.args.mesh.now) (across_in c.args.mesh.now) c.element_count-count.ensures.tells c.args.first.now c.args.second.now c.in_ok-both.both.items c.requires.first c.requires.second c.in_ok-both.ensures)
    (merge_short c.in_ok-both.both.items c.args.first.now c.args.second.now c.in_ok-both.ensures)
