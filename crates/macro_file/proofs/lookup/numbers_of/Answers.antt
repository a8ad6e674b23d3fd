use Rattle.std.proofs.Common.{◌∙◌}
use Rattle.macro_file.proofs.LookupLemmas.{numbers-some, numbers-none}
use Rattle.macro_file.proofs.lookup.numbers_of.Goals as goal

pub returns-in-Some : goal.returns-in-Some
returns-in-Some c = c.as_slice.ensures.value ∙ numbers-some c.args.keyword c.args.lists.now c.in-Some.list.now c.in-Some.ensures

pub returns-in-None : goal.returns-in-None
returns-in-None c = numbers-none c.args.keyword c.args.lists.now c.in-None.ensures
