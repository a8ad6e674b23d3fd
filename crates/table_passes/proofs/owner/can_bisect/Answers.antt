use Rattle.std.proofs.Common.{refl, subst, All}
use Rattle.std.proofs.lemmas.List.Elements.{All-more}
use Rattle.std.proofs.lemmas.List.{take_all}
use Rattle.compat_check.specs.Meshes.{shape_of}
use Rattle.mesh_table.specs.Crews.{CanBisect}
use Rattle.table_passes.proofs.owner.can_bisect.Goals as goal

pub loop-name-preserved : goal.loop-name-preserved
loop-name-preserved c = All-more (CanBisect (shape_of c.args.mesh.now)) c.args.names.now c.loop-name.name-index c.name-item.result c.loop-name-test.true c.loop-name.invariant
    (subst (CanBisect (shape_of c.args.mesh.now)) c.name-item.is (c.if-not-can_bisect_one.ensures.all refl))

pub returns-clause-all : goal.returns-clause-all
returns-clause-all c = λ e. subst (All (CanBisect (shape_of c.args.mesh.now))) (take_all c.loop-name.name-index c.args.names.now c.loop-name-test.false) c.loop-name.invariant
