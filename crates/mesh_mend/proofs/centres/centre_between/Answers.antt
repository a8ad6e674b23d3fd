use Rattle.std.proofs.Common.{◌≤◌, arith}
use Rattle.mesh_mend.proofs.Halves.{stored_centre}
use Rattle.mesh_mend.proofs.centres.centre_between.Goals as goal

pub invariant_of-result : goal.invariant_of-result
invariant_of-result c =
    let a = c.args.first.now in
    let b = c.args.second.now in
    let d = c.args.third.now in
    record {
      in_range = (
        stored_centre 4096000000000000000 c.centre_of.result a.x b.x d.x (omega arith) a.in_range.0 b.in_range.0 d.in_range.0 c.centre_of.ensures,
        stored_centre 4096000000000000000 c.centre_of-2.result a.y b.y d.y (omega arith) a.in_range.1 b.in_range.1 d.in_range.1 c.centre_of-2.ensures,
        stored_centre 2147483648 c.centre_of-3.result a.value b.value d.value (omega arith) a.in_range.2 b.in_range.2 d.in_range.2 c.centre_of-3.ensures,
      );
    }
