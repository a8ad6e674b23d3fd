use Rattle.std.proofs.Common.{ap, sym, ◌∙◌}
use Rattle.csv.specs.Records.{fields_of}
use Rattle.mark_file.specs.Fields.{trimmed}
use Rattle.mark_file.proofs.FieldLemmas.{field_there, field_missing}
use Rattle.mark_file.proofs.row.field_of.Goals as goal

pub returns-in-Some : goal.returns-in-Some
returns-in-Some c = c.trimmed.ensures ∙ ap trimmed (sym (field_there (fields_of c.args.row.now) c.args.at _ c.in-Some.ensures.value))

pub returns-in-None : goal.returns-in-None
returns-in-None c = sym (field_missing (fields_of c.args.row.now) c.args.at c.in-None.ensures.value)
