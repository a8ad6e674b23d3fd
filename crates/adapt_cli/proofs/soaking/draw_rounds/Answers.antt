use Rattle.std.proofs.Common.{ℕ, ◌+◌, ◌∙◌, refl, sym, subst}
use Rattle.compat_check.specs.Meshes.{Mesh}
use Rattle.mesh_rounds.specs.Adaptive.{mesh_of, seen_of, state_of}
use Rattle.soak.specs.Rows.{Drawing}
use Rattle.adapt_cli.specs.Soaks.{DrawnTo, DrawsTo}
use Rattle.adapt_cli.specs.Stops.{StopsBy}
use Rattle.adapt_cli.proofs.Drawing.{DrawnSoFar, all-drawn, none-drawn, one-drawn, stops-drawing}
use Rattle.adapt_cli.proofs.soaking.draw_rounds.Goals as goal

pub loop-made-init : goal.loop-made-init
loop-made-init c =
    let start = c.args.mesh.now in
    record {
      so_far = subst (λ (d : Drawing). DrawnSoFar (mesh_of start) (seen_of start).pool c.args.rounds (record { state = c.args.start; row = 1 }) (state_of start) 0 d (state_of start)) (sym c.new-draws.ensures) (none-drawn (mesh_of start) (seen_of start).pool c.args.rounds (record { state = c.args.start; row = 1 }) (state_of start));
      state = c.requires.state;
      same = refl;
      pool = refl;
    }

pub loop-made-preserved : goal.loop-made-preserved
loop-made-preserved c =
    let start = c.args.mesh.now in
    let here = c.loop-made.mesh in
    let next = c.draw_one.new.mesh in
    let inv = c.loop-made.invariant in
    record {
      so_far = one-drawn (mesh_of start) (seen_of start).pool c.args.rounds (record { state = c.args.start; row = 1 }) (state_of start) c.loop-made.made c.loop-made.draws c.draw_one.new.draws (state_of here) (state_of next) inv.so_far c.loop-made-test.true
          (subst (λ (t : Mesh × ℕ). DrawnTo t.0 t.1 (c.loop-made.made + 1) c.loop-made.draws (state_of here) c.draw_one.new.draws (state_of next)) (λ i. (inv.same i, inv.pool i)) c.in_default.ensures.ok);
      state = c.in_default.ensures.state;
      same = c.in_default.ensures.same.0 ∙ inv.same;
      pool = c.in_default.ensures.same.1 ∙ inv.pool;
    }

pub returns-in-Err-clause-stopped : goal.returns-in-Err-clause-stopped
returns-in-Err-clause-stopped c =
    let start = c.args.mesh.now in
    let here = c.loop-made.mesh in
    let inv = c.loop-made.invariant in
    stops-drawing (mesh_of start) (seen_of start).pool c.args.rounds (record { state = c.args.start; row = 1 }) (state_of start) c.loop-made.made c.loop-made.draws (state_of here) c.in-Err.stop inv.so_far c.loop-made-test.true
    (subst (λ (t : Mesh × ℕ). StopsBy (DrawsTo t.0 t.1 1 (c.loop-made.made + 1) c.loop-made.draws (state_of here)) c.in-Err.stop) (λ i. (inv.same i, inv.pool i)) c.in-Err.ensures.stopped)

pub returns-clause-ok : goal.returns-clause-ok
returns-clause-ok c = all-drawn (mesh_of c.args.mesh.now) (seen_of c.args.mesh.now).pool c.args.rounds (record { state = c.args.start; row = 1 }) (state_of c.args.mesh.now) c.loop-made.made c.loop-made.draws (state_of c.loop-made.mesh) c.loop-made.invariant.so_far c.loop-made-test.false
