use Rattle.std.proofs.Common.{◌∙◌}
use Rattle.macro_file.proofs.LookupLemmas.{given}
use Rattle.macro_file.proofs.lookup.is_given.Goals as goal

pub returns : goal.returns
returns c = c.is_some.ensures ∙ given c.args.keyword c.args.lists.now c.list_of.result c.list_of.ensures
