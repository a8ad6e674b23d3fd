use Rattle.std.proofs.Common.{◌+◌, ◌*◌}
use Rattle.std.specs.Prelude.{None, slice_index_or}
use Rattle.compat_check.specs.Tables.{label_by}
use Rattle.compat_check.proofs.Lists.{length_pushed}
use Rattle.compat_check.proofs.Labelling.{row_more}
use Rattle.compat_check.proofs.checking.made_labels.Goals as goal

pub loop-element-preserved : goal.loop-element-preserved
loop-element-preserved c = record {
  each = length_pushed c.loop-element.labels.items c.push.new.self.items c.made_row.result c.loop-element.element c.loop-element.invariant.each c.in_ok-push.ensures.items;
  made = row_more (λ r k. label_by (slice_index_or c.args.sides.now (r * 3 + k) None)) c.loop-element.labels.items c.push.new.self.items c.made_row.result c.loop-element.element c.loop-element.invariant.each c.in_ok-push.ensures.items c.made_row.ensures c.loop-element.invariant.made;
}
