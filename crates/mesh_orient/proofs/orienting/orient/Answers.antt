use Rattle.std.proofs.Common.{[], sym}
use Rattle.mesh_orient.specs.Orients.{Passes}
use Rattle.mesh_orient.proofs.SameTexts.{faultless_same, passes_same}
use Rattle.mesh_orient.proofs.orienting.orient.Goals as goal

pub returns-then-branch-clause-oriented : goal.returns-then-branch-clause-oriented
returns-then-branch-clause-oriented c =
    let text = c.args.text.now in
    let made = c.in_ok-made.made in
    let passes : Passes text = c.in_ok-is_accepted.ensures.accepted c.if-branch.true in
    record {
      turned = ([], c.in_ok-made.ensures.turned);
      passes = passes_same text made (sym c.in_ok-made.ensures.same) passes;
      kept = λ _. c.in_ok-made.ensures.same;
      paired = λ refused. absurd (refused passes);
      neighbours = (faultless_same text made (sym c.in_ok-made.ensures.same) c.in_ok-check_triangulation.ensures.ok).neighbours;
    }
