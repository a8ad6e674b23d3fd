use Rattle.std.proofs.Common.{ap, sym, subst, arith, ◌∙◌}
use Rattle.compat_check.specs.Meshes.{Mesh, shape_of}
use Rattle.table_words.specs.Views.{Plan}
use Rattle.mesh_table.specs.Sights.{Sight}
use Rattle.table_passes.specs.Answers.{IsAimed}
use Rattle.table_passes.proofs.tests.a_claim_of_another_pass_defers.Goals as goal

pub call_both-first-requires-clause-first : goal.call_both-first-requires-clause-first
call_both-first-requires-clause-first g c κs = subst (λ (x : Mesh × Plan). IsAimed (shape_of x.0) x.1.target c.top-zero.result)
    (λ i. (sym c.in_ok-table.ensures.mesh i, sym c.split-one.ensures.plan i)) (c.in_ok-table.ensures.aimed 0 c.top-zero.result (omega arith))

pub call_both-first-requires-clause-second : goal.call_both-first-requires-clause-second
call_both-first-requires-clause-second g c κs = subst (λ (x : Mesh × Plan). IsAimed (shape_of x.0) x.1.target c.top-beside.result)
    (λ i. (sym c.in_ok-table.ensures.mesh i, sym (c.split-two.ensures.plan ∙ ap (λ (v : Sight). v.ruling.plan) c.split-one.ensures.left) i)) (c.in_ok-table.ensures.aimed 1 c.top-zero.result (omega arith))
