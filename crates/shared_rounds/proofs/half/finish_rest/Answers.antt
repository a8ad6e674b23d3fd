use Rattle.std.proofs.Common.{◌++◌, List, All, ◌∙◌, subst, sym, ap}
use Rattle.compat_check.specs.Meshes.{shape_of}
use Rattle.mesh_names.specs.Names.{Name}
use Rattle.mesh_table.specs.Told.{sight}
use Rattle.table_passes.specs.Answers.{IsAimed}
use Rattle.shared_rounds.specs.Reached.{all_put_off}
use Rattle.shared_rounds.proofs.Knowing.{all_off_hold}
use Rattle.shared_rounds.proofs.half.finish_rest.Goals as goal

pub finish_names-last-requires-clause-aimed : goal.finish_names-last-requires-clause-aimed
finish_names-last-requires-clause-aimed g c κs within =
    let P = IsAimed (shape_of c.args.table.now.site.mesh.now) (sight c.args.owner.now.seat).ruling.plan.target in
    subst (All P) (sym (c.add_all_put_off.ensures.items ∙ ap (λ (ns : List Name). ns ++ all_put_off c.args.joined.now) c.requires.names.0)) (all_off_hold P c.args.joined.now c.requires.aimed)
