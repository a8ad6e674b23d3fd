use Rattle.std.proofs.Common.{ap, sym, subst, arith}
use Rattle.compat_check.specs.Meshes.{Mesh, shape_of}
use Rattle.table_words.specs.Views.{Plan}
use Rattle.mesh_table.specs.Sights.{Sight}
use Rattle.table_passes.specs.Answers.{IsAimed}
use Rattle.table_passes.proofs.tests.names_are_refined_with_all_above_them.Goals as goal

pub three_calls-requires-clause-first : goal.three_calls-requires-clause-first
three_calls-requires-clause-first g c κs = subst (λ (x : Mesh × Plan). IsAimed (shape_of x.0) x.1.target c.child_at.result)
    (λ i. (sym c.in_ok-table.ensures.mesh i, sym (ap (λ (v : Sight). v.ruling.plan) c.split-scout.ensures.left) i)) (c.in_ok-table.ensures.aimed 1 c.top-top.result (omega arith))

pub three_calls-requires-clause-second : goal.three_calls-requires-clause-second
three_calls-requires-clause-second g c κs = subst (λ (x : Mesh × Plan). IsAimed (shape_of x.0) x.1.target c.child_at-2.result)
    (λ i. (sym c.in_ok-table.ensures.mesh i, sym (ap (λ (v : Sight). v.ruling.plan) c.split-scout.ensures.left) i)) (c.in_ok-table.ensures.aimed 2 c.top-top.result (omega arith))
