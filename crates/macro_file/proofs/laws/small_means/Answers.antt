use Rattle.std.proofs.Common.{refl}
use Rattle.macro_file.specs.Keywords.{keyword_of}
use Rattle.macro_file.proofs.laws.small_means.Goals as goal

pub returns : goal.returns
unfolding keyword_of
returns c = refl
