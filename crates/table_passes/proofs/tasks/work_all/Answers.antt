use Rattle.table_passes.proofs.Keeping.{done_workers}
use Rattle.table_passes.proofs.tasks.work_all.Goals as goal

pub returns-clause-workers : goal.returns-clause-workers
returns-clause-workers g c = done_workers c.args.table.now.table.shared.table_id c.args.table.now.site c.args.tasks.now c.work_nested.new.tasks c.requires.ready c.work_nested.ensures.done
