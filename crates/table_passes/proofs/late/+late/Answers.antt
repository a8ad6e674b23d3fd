use Rattle.std.proofs.Common.{◌++◌, List, sym, subst}
use Rattle.std.specs.List.{AllZip}
use Rattle.table_passes.specs.Late.{IsLateDone}
use Rattle.table_passes.specs.declared.late_work.LateTask.{LateTask}
use Rattle.table_passes.proofs.Zips.{zip_append}
use Rattle.table_passes.proofs.late.+late.Goals as goal

pub late_nested-returns : goal.late_nested-returns
late_nested-returns g t c =
    let done = IsLateDone c.args.table.now.site in
    record {
      done = subst (λ (tasks : List LateTask). AllZip done tasks (c.late_halves.new.left ++ c.late_halves.new.right)) (sym c.split_at_mut-left.ensures.value)
          (zip_append done c.split_at_mut-left.result.0.now c.split_at_mut-left.result.1.now c.late_halves.new.left c.late_halves.new.right c.late_halves.ensures.left c.late_halves.ensures.right);
    }
