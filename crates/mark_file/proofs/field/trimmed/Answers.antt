use Rattle.std.proofs.Common.{◌-◌, length, take, drop}
use Rattle.std.proofs.lemmas.List.{take_rest}
use Rattle.mark_file.proofs.FieldLemmas.{trimmed-cut}
use Rattle.mark_file.proofs.field.trimmed.Goals as goal

pub returns : goal.returns
returns c =
    let front = c.front_blanks-front.result in
    trimmed-cut c.args.field.now (take (length c.args.field.now - front) (drop front c.args.field.now)) front c.end_blanks.result
    c.front_blanks-front.ensures.blanks
    (take_rest c.args.field.now front)
    c.end_blanks.ensures.blanks
