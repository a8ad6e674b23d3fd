use Rattle.std.proofs.Common.{sym, subst, arith}
use Rattle.compat_check.specs.Meshes.{Mesh, shape_of}
use Rattle.table_words.specs.Views.{Plan}
use Rattle.table_passes.specs.Answers.{IsAimed}
use Rattle.table_passes.proofs.tests.a_draw_beyond_the_free_blocks_is_refused.Goals as goal

pub refine-answer-requires-clause-aimed : goal.refine-answer-requires-clause-aimed
refine-answer-requires-clause-aimed g c = subst (λ (x : Mesh × Plan). IsAimed (shape_of x.0) x.1.target c.child_at.result)
    (λ i. (sym c.in_ok-table.ensures.mesh i, sym c.split-pass.ensures.plan i)) (c.in_ok-table.ensures.aimed 1 c.top-top.result (omega arith))
