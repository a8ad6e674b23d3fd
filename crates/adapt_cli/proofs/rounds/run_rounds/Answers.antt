use Rattle.std.proofs.Common.{ℕ, refl, ap, ◌∙◌, subst}
use Rattle.compat_check.specs.Meshes.{Mesh, across_in, shape_of}
use Rattle.mesh_rounds.specs.Adaptive.{mesh_of, seen_of, state_of}
use Rattle.mesh_rounds.specs.State.{IsMeshRound}
use Rattle.adapt_cli.specs.Rounds.{whole}
use Rattle.adapt_cli.proofs.RoundOrder.{end_here, next_round, refused-as, stop_here}
use Rattle.adapt_cli.proofs.rounds.run_rounds.Goals as goal

pub returns-in-Err-clause-stopped : goal.returns-in-Err-clause-stopped
returns-in-Err-clause-stopped c =
    let start = c.args.mesh.now in
    let here = c.loop-round.mesh in
    let inv = c.loop-round.invariant in
    stop_here (mesh_of start) (seen_of start).pool c.args.rounds.now (state_of start) c.loop-round.round-index (state_of here) inv.so_far
    c.round-item.result _ c.in-Err.refusal c.loop-round-test.true c.round-item.is
    (refused-as (mesh_of start) (seen_of here) (seen_of start).pool c.round-item.result.rows.items c.in-Err.refusal (here.shape ∙ ap shape_of inv.same) (here.sides ∙ ap across_in inv.same) inv.pool refl c.in-Err.ensures.refused)
    c.round_stop.result c.round_stop.ensures

pub loop-round-preserved : goal.loop-round-preserved
loop-round-preserved c =
    let start = c.args.mesh.now in
    let here = c.loop-round.mesh in
    let next = c.round.new.self in
    let inv = c.loop-round.invariant in
    record {
      so_far = next_round (mesh_of start) (seen_of start).pool c.args.rounds.now (state_of start) c.loop-round.round-index (state_of here) inv.so_far
          (state_of next) c.round-item.result _ c.loop-round-test.true c.round-item.is
          (subst (λ (t : Mesh × ℕ). IsMeshRound t.0 (whole t.1) c.round-item.result.rows.items (state_of here) (state_of next)) (λ i. (inv.same i, inv.pool i)) c.in_default.ensures.ok);
      state = c.in_default.ensures.state;
      same = c.in_default.ensures.same ∙ inv.same;
      pool = c.in_default.ensures.rest.pool ∙ inv.pool;
    }

pub returns-clause-ok : goal.returns-clause-ok
returns-clause-ok c = end_here (mesh_of c.args.mesh.now) (seen_of c.args.mesh.now).pool c.args.rounds.now (state_of c.args.mesh.now) c.loop-round.round-index (state_of c.loop-round.mesh) c.loop-round.invariant.so_far c.loop-round-test.false
