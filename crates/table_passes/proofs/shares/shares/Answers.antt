use Rattle.std.proofs.Common.{refl}
use Rattle.macro_file.proofs.AssemblyLemmas.{made_more}
use Rattle.table_passes.specs.Shares.{every}
use Rattle.table_passes.proofs.shares.shares.Goals as goal

pub loop-first-preserved : goal.loop-first-preserved
loop-first-preserved c = made_more (λ w. w.items) (λ first. every c.args.workers first c.args.names.now) c.loop-first.shares.items c.push.new.self.items c.in_ok-share.field-0 c.loop-first.first c.loop-first.invariant c.in_ok-push.ensures.items c.in_ok-share.ensures
