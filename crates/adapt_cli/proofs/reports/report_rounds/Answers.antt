use Rattle.std.proofs.Common.{ℕ, ◌+◌, ◌++◌, List, refl, sym, ap, ◌∙◌, subst}
use Rattle.std.specs.Prelude.{string_bytes}
use Rattle.compat_check.specs.Meshes.{Mesh, across_in, shape_of}
use Rattle.forest_plain.specs.AnyForest.{Seen}
use Rattle.mesh_rounds.specs.Adaptive.{mesh_of, seen_of, state_of}
use Rattle.mesh_rounds.specs.State.{IsMeshRound, State}
use Rattle.adapt_cli.specs.Reports.{IsRoundText}
use Rattle.adapt_cli.specs.Rounds.{whole}
use Rattle.adapt_cli.proofs.RoundOrder.{next-reported, none-reported, refused-as, report-ends, stop_here}
use Rattle.adapt_cli.proofs.reports.report_rounds.Goals as goal

pub returns-in-Err-clause-stopped : goal.returns-in-Err-clause-stopped
returns-in-Err-clause-stopped c =
    let start = c.args.mesh.now in
    let here = c.loop-round.mesh in
    let inv = c.loop-round.invariant in
    stop_here (mesh_of start) (seen_of start).pool c.args.rounds.now (state_of start) c.loop-round.round-index (state_of here) inv.reported.so_far
    c.round-item.result _ c.in-Err.refusal c.loop-round-test.true c.round-item.is
    (refused-as (mesh_of start) (seen_of here) (seen_of start).pool c.round-item.result.rows.items c.in-Err.refusal (here.shape ∙ ap shape_of inv.same) (here.sides ∙ ap across_in inv.same) inv.pool refl c.in-Err.ensures.refused)
    c.round_stop.result c.round_stop.ensures

pub loop-round-init : goal.loop-round-init
loop-round-init c =
    let start = c.args.mesh.now in
    record {
      reported = none-reported (mesh_of start) (seen_of start).pool c.args.rounds.now (state_of start) c.new-text.result.items c.new-text.ensures.items;
      same = refl;
      pool = refl;
      number = refl;
    }

pub loop-round-preserved : goal.loop-round-preserved
loop-round-preserved c =
    let start = c.args.mesh.now in
    let here = c.loop-round.mesh in
    let made = c.round.new.self in
    let next = c.round_text.new.mesh in
    let inv = c.loop-round.invariant in
    let kept = c.in-Ok.ensures.same in
    let mesh = c.in_default.ensures.same ∙ inv.same in
    let grown = c.in_ok-extend_from_slice.ensures.items ∙ ap (λ (l : List ℕ). c.loop-round.text.items ++ l) c.as_bytes.ensures.value in
    record {
      reported = next-reported (mesh_of start) (seen_of start).pool c.args.rounds.now (state_of start) c.loop-round.round-index (state_of here) c.loop-round.text.items inv.reported
          (state_of next) c.round-item.result _ c.loop-round-test.true c.round-item.is
          (subst (λ (t : Mesh × ℕ × State). IsMeshRound t.0 (whole t.1) c.round-item.result.rows.items (state_of here) t.2) (λ i. (inv.same i, inv.pool i, sym kept.state i)) c.in_default.ensures.ok)
          (c.loop-round.number + 1) (ap (λ (n : ℕ). n + 1) inv.number) (string_bytes c.in-Ok.line) c.extend_from_slice.new.self.items
          (subst (λ (t : Mesh × State). IsRoundText t.0 (c.loop-round.number + 1) t.1 (string_bytes c.in-Ok.line)) (λ i. (mesh i, sym kept.state i)) c.in-Ok.ensures.ok)
          grown;
      same = kept.mesh ∙ mesh;
      pool = ap (λ (s : Seen). s.pool) kept.forest ∙ c.in_default.ensures.rest.pool ∙ inv.pool;
      number = ap (λ (n : ℕ). n + 1) inv.number;
    }

pub returns-clause-ok : goal.returns-clause-ok
returns-clause-ok c = report-ends (mesh_of c.args.mesh.now) (seen_of c.args.mesh.now).pool c.args.rounds.now (state_of c.args.mesh.now) c.loop-round.round-index (state_of c.loop-round.mesh) c.loop-round.text.items c.loop-round.invariant.reported c.loop-round-test.false
