use Rattle.table_passes.proofs.Leaving.{late_workers}
use Rattle.table_passes.proofs.late.retire_all.Goals as goal

pub returns-clause-workers : goal.returns-clause-workers
returns-clause-workers g c = late_workers c.args.table.now.table.shared.table_id c.args.table.now.site c.args.tasks.now c.late_nested.new.tasks c.requires.ready c.late_nested.ensures.done
