use Rattle.std.proofs.Common.{◌≡◌, Bool, [], ◌∷◌, cond, Result, subst, sym}
use Rattle.std.specs.Result.{IfOk}
use Rattle.csv.specs.Records.{fields_of}
use Rattle.mark_file.specs.Unread.{unread}
use Rattle.mark_file.specs.declared.refusal.MarkRefusal.{MarkRefusal}
use Rattle.mark_file.proofs.UnreadLemmas.{unread-read}
use Rattle.mark_file.proofs.source.next_row.Goals as goal
use Rattle.mark_file.proofs.source.next_row.Goals.{in-Ok, in-Err}

pub returns-clause-next : goal.returns-clause-next
returns-clause-next c =
    let old = c.args.reader.now in
    let new = c.read_byte_record.new.self in
    let fields = fields_of c.read_byte_record.new.row in
    let Tells : Result Bool MarkRefusal → Type 0 = λ r. IfOk r (λ found. unread old ≡ cond found (fields ∷ unread new) []) in
    elim c.match-read_byte_record.branch [
      | in-Ok w ↦ subst Tells (sym w.result-is) (unread-read old new fields w.in-Ok.found c.requires (w.in-Ok.ensures.reads c.requires.untrimmed c.requires.ready))
      | in-Err w ↦ subst Tells (sym w.result-is) tt
    ]
