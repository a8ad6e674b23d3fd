use Rattle.std.proofs.Common.{ℕ, ◌∙◌, subst, All}
use Rattle.mesh_table.specs.Told.{sight}
use Rattle.table_passes.specs.Tasks.{HasRoom}
use Rattle.table_passes.proofs.Making.{ready_all, made_all}
use Rattle.table_passes.proofs.owner.OwnerSeat.split_tasks.Goals as goal

pub returns-clause-made : goal.returns-clause-made
returns-clause-made c = made_all c.args.table.now.table.shared.table_id c.args.table.now.site (sight c.args.self.now.seat) c.split_drafts.result.items c.split_drafts.ensures.new

pub returns-clause-ready : goal.returns-clause-ready
returns-clause-ready c = ready_all c.args.table.now.table.shared.table_id c.args.table.now.site (sight c.args.self.now.seat) c.requires.half c.requires.closed
    (λ names. names.items) c.args.work.items c.split_drafts.result.items (c.split_drafts.ensures.names ∙ c.in_ok-drafts.ensures.names) c.requires.aimed c.split_drafts.ensures.new

pub split_drafts-requires-clause-lists : goal.split_drafts-requires-clause-lists
split_drafts-requires-clause-lists c = subst (λ (pool : ℕ). All (λ d. HasRoom pool d.names.items d.lists) c.in_ok-drafts.drafts.items) c.requires.pool c.in_ok-drafts.ensures.room
