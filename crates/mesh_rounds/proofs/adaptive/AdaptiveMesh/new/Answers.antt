use Rattle.mesh_rounds.specs.State.{with_values}
use Rattle.mesh_rounds.proofs.Belonging.{state-belongs}
use Rattle.mesh_rounds.proofs.Texts.{first-state}
use Rattle.mesh_rounds.proofs.adaptive.AdaptiveMesh.new.Goals as goal

pub invariant_of-result : goal.invariant_of-result
invariant_of-result g c =
    let state = with_values (g.F.Forest.seen c.args.forest).members c.in_ok-values.values in
    record {
      closed = c.requires.closed;
      shape = c.requires.mesh;
      sides = c.requires.sides;
      state = λ _. state-belongs c.args.mesh.now state (first-state c.args.mesh.now state (record { members = c.requires.nothing; vertices = c.in_ok-values.ensures.vertices; elements = c.in_ok-values.ensures.elements }));
    }

pub returns-clause-state : goal.returns-clause-state
returns-clause-state g c =
    first-state c.args.mesh.now (with_values (g.F.Forest.seen c.args.forest).members c.in_ok-values.values) (record { members = c.requires.nothing; vertices = c.in_ok-values.ensures.vertices; elements = c.in_ok-values.ensures.elements })
