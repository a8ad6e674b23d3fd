use Rattle.std.specs.FinSet.{empty}
use Rattle.mesh_rounds.proofs.GivenWhole.{is_resumed, resumed-state, whole-follows}
use Rattle.mesh_rounds.proofs.resuming.resumed.Goals as goal
use Rattle.std.proofs.Common.{refl}

pub follow-requires-clause-pairs : goal.follow-requires-clause-pairs
follow-requires-clause-pairs c = (whole-follows c.args.mesh.now c.element_count-checked.ensures.checked c.requires.0 c.args.delta.now c.requires.1).pairs

pub follow-requires-clause-rooted : goal.follow-requires-clause-rooted
follow-requires-clause-rooted c = (whole-follows c.args.mesh.now c.element_count-checked.ensures.checked c.requires.0 c.args.delta.now c.requires.1).rooted

pub follow-requires-clause-low : goal.follow-requires-clause-low
follow-requires-clause-low c = (whole-follows c.args.mesh.now c.element_count-checked.ensures.checked c.requires.0 c.args.delta.now c.requires.1).low

pub follow-requires-clause-parents : goal.follow-requires-clause-parents
follow-requires-clause-parents c = (whole-follows c.args.mesh.now c.element_count-checked.ensures.checked c.requires.0 c.args.delta.now c.requires.1).parents

pub returns-clause-resumed : goal.returns-clause-resumed
returns-clause-resumed c members whole =
    is_resumed c.args.mesh.now c.element_count-checked.ensures.checked members c.args.delta.now whole c.in_ok-values.values c.follow.new.self
    (record { members = refl; vertices = c.in_ok-values.ensures.vertices; elements = c.in_ok-values.ensures.elements })
    (c.in_ok-follow.ensures.vertices empty members) (c.in_ok-follow.ensures.elements empty members)

pub returns-clause-state : goal.returns-clause-state
returns-clause-state c members whole =
    resumed-state c.args.mesh.now c.element_count-checked.ensures.checked members c.args.delta.now whole c.in_ok-values.values c.follow.new.self
    (record { members = refl; vertices = c.in_ok-values.ensures.vertices; elements = c.in_ok-values.ensures.elements })
    (c.in_ok-follow.ensures.vertices empty members) (c.in_ok-follow.ensures.elements empty members)
