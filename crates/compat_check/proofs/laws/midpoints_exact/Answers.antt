use Rattle.compat_check.proofs.Exact.{exact}
use Rattle.compat_check.proofs.laws.midpoints_exact.Goals as goal

pub returns : goal.returns
returns c = exact
