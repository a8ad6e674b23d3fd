use Rattle.compat_check.specs.Meshes.{across_in, shape_of}
use Rattle.restart_file.proofs.Searching.{none_yet, none_more, first_found, none_at_all, member_level}
use Rattle.restart_file.proofs.reading.first_alone.Goals as goal

pub loop-name-init : goal.loop-name-init
loop-name-init c = none_yet (across_in c.args.mesh.now) c.args.members.now

pub is_alone-requires-clause-root : goal.is_alone-requires-clause-root
is_alone-requires-clause-root c = (member_level (shape_of c.args.mesh.now) c.args.members.now c.loop-name.name-index c.name-item.result c.requires.forest c.loop-name-test.true c.name-item.is).0

pub is_alone-requires-clause-level : goal.is_alone-requires-clause-level
is_alone-requires-clause-level c = (member_level (shape_of c.args.mesh.now) c.args.members.now c.loop-name.name-index c.name-item.result c.requires.forest c.loop-name-test.true c.name-item.is).1

pub returns-then-is_alone : goal.returns-then-is_alone
returns-then-is_alone c = first_found (across_in c.args.mesh.now) c.args.members.now c.loop-name.name-index c.name-item.result c.requires.in_order c.loop-name-test.true c.name-item.is c.loop-name.invariant c.if-is_alone.ensures

pub loop-name-preserved : goal.loop-name-preserved
loop-name-preserved c = none_more (across_in c.args.mesh.now) c.args.members.now c.loop-name.name-index c.name-item.result c.loop-name-test.true c.name-item.is c.loop-name.invariant c.if-is_alone.ensures

pub returns : goal.returns
returns c = none_at_all (across_in c.args.mesh.now) c.args.members.now c.loop-name.name-index c.loop-name-test.false c.loop-name.invariant
