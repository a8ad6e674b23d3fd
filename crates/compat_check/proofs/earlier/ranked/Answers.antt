use Rattle.std.proofs.Common.{arith}
use Rattle.compat_check.proofs.Ranks.{ranked_is}
use Rattle.compat_check.proofs.earlier.ranked.Goals as goal

pub returns : goal.returns
returns g c = ranked_is g.K.Ord.cmp g.met.K.Ord.total c.args.keys.now c.loop-i.entries.items c.sort_unstable.new.self.items c.loop-i.i (omega arith) c.loop-i.invariant c.sort_unstable.ensures.permutation c.sort_unstable.ensures.sorted (omega arith)
