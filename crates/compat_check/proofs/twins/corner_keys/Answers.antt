use Rattle.compat_check.specs.Faults.{triple_in}
use Rattle.compat_check.specs.Twins.{corner_key}
use Rattle.compat_check.proofs.Lists.{length_pushed, get_pushed}
use Rattle.compat_check.proofs.twins.corner_keys.Goals as goal

pub loop-triple-preserved : goal.loop-triple-preserved
loop-triple-preserved c = record {
  each = length_pushed c.loop-triple.keys.items c.push.new.self.items c.ordered_corners.result c.loop-triple.triple-index c.loop-triple.invariant.each c.in_ok-push.ensures.items;
  key = get_pushed c.loop-triple.keys.items c.push.new.self.items c.ordered_corners.result c.loop-triple.triple-index (λ r. corner_key (triple_in c.args.triples.now r)) c.loop-triple.invariant.each c.in_ok-push.ensures.items c.loop-triple.invariant.key c.ordered_corners.ensures;
}
