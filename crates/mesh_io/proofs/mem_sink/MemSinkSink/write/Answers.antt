use Rattle.std.proofs.Common.{ap, Some}
use Rattle.mesh_io.specs.Sinks.{MemBytes}
use Rattle.mesh_io.proofs.Planned.{failed_call}
use Rattle.mesh_io.proofs.mem_sink.MemSinkSink.write.Goals as goal

pub returns-then-failed-clause-writes : goal.returns-then-failed-clause-writes
returns-then-failed-clause-writes c =
    let faults = failed_call c.args.self.now.plan c.self.inside.plan c.count_call.new.self c.if-fails_next.failed (ap (λ (s : MemBytes). s.plan) c.self.view_is) c.count_call.ensures.counted c.if-failed.true c.count_call.ensures.fits in
    record {
      never_falls = faults.0;
      taken = tt;
      failed = (faults.1, ap (λ (s : MemBytes). Some s.held) c.self.view_is);
    }
