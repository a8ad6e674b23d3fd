use Rattle.std.proofs.Common.{refl}
use Rattle.macro_file.specs.Keywords.{keyword_of}
use Rattle.macro_file.proofs.laws.refusals.Goals as goal

pub returns : goal.returns
unfolding keyword_of
returns c = (refl, refl, refl, refl, refl, refl, refl, refl, refl)
