use Rattle.std.proofs.Common.{◌++◌, List, sym, subst}
use Rattle.std.specs.List.{AllZip}
use Rattle.table_passes.specs.Tasks.{IsDone}
use Rattle.table_passes.specs.declared.work.Task.{Task}
use Rattle.table_passes.proofs.Zips.{zip_append}
use Rattle.table_passes.proofs.tasks.+works.Goals as goal

pub work_nested-returns : goal.work_nested-returns
work_nested-returns g t c =
    let done = IsDone c.args.table.now.site in
    record {
      done = subst (λ (tasks : List Task). AllZip done tasks (c.work_halves.new.left ++ c.work_halves.new.right)) (sym c.split_at_mut-left.ensures.value)
          (zip_append done c.split_at_mut-left.result.0.now c.split_at_mut-left.result.1.now c.work_halves.new.left c.work_halves.new.right c.work_halves.ensures.left c.work_halves.ensures.right);
    }
