use Rattle.std.proofs.Common.{◌≡◌, ◌≤◌, ◌∙◌, ap, sym, subst, ℕ, arith}
use Rattle.std.specs.Prelude.{IfOk}
use Rattle.compat_check.specs.Meshes.{shape_of}
use Rattle.mesh_table.specs.Sights.{Sight}
use Rattle.mesh_table.specs.Told.{sight}
use Rattle.table_passes.specs.Answers.{IsAimed}
use Rattle.table_passes.specs.Crew.{left_by}
use Rattle.table_passes.proofs.Sharing.{shares_all, shares_count}
use Rattle.table_passes.proofs.owner.OwnerSeat.split_shares.Goals as goal

pub split_tasks-requires-clause-few : goal.split_tasks-requires-clause-few
split_tasks-requires-clause-few c = let count = shares_count (λ w. w.items) c.in_ok-work.work.items c.args.names.now c.args.workers c.in_ok-work.ensures in let few = c.requires.workers.1 in omega arith

pub split_tasks-requires-clause-aimed : goal.split_tasks-requires-clause-aimed
split_tasks-requires-clause-aimed c = shares_all (λ w. w.items) (IsAimed (shape_of c.args.table.now.site.mesh.now) (sight c.args.self.now.seat).ruling.plan.target) c.in_ok-work.work.items c.args.names.now c.args.workers c.in_ok-work.ensures c.requires.aimed

pub returns-clause-left : goal.returns-clause-left
returns-clause-left c = subst (λ (n : ℕ). IfOk c.split_tasks.result (λ tasks. sight c.split_tasks.new.self.seat ≡ left_by n (sight c.args.self.now.seat)))
    (shares_count (λ w. w.items) c.in_ok-work.work.items c.args.names.now c.args.workers c.in_ok-work.ensures) c.split_tasks.ensures.left
