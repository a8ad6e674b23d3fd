use Rattle.compat_check.proofs.Halving.{half_is}
use Rattle.locate_point.proofs.triangle.middle.Goals as goal

pub returns-clause-between : goal.returns-clause-between
returns-clause-between c = let p = c.args.first in let q = c.args.second in λ i. (half_is p.0 q.0 c.requires.first.0 c.requires.second.0 i, half_is p.1 q.1 c.requires.first.1 c.requires.second.1 i)
