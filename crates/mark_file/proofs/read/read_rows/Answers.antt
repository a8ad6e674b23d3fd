use Rattle.std.proofs.Common.{ℕ, Err, ◌≢◌, Result, ◌≡◌, ◌+◌, [], ◌∷◌, cond, length, sym, ap, ◌∙◌, subst, arith}
use Rattle.csv.specs.Records.{fields_of}
use Rattle.std.specs.Result.{IfErr}
use Rattle.std.specs.Prelude.{Vec}
use Rattle.std.specs.declared.alloc.Global.{Global}
use Rattle.std.proofs.lemmas.Result.{err_from_is_err_and}
use Rattle.mesh_names.specs.declared.rows.RoundMarks.{RoundMarks}
use Rattle.mark_file.specs.declared.refusal.MarkRefusal.{MarkRefusal}
use Rattle.mark_file.specs.declared.refusal.MarkRefusal.TheVariants.{Memory}
use Rattle.mark_file.specs.Rows.{row_meaning}
use Rattle.mark_file.specs.Meaning.{IsRefused, rounds_read}
use Rattle.mark_file.specs.Unread.{unread}
use Rattle.mark_file.proofs.AcceptedLemmas.{row_meaning-early}
use Rattle.mark_file.proofs.RoundLemmas.{length-rounds_read}
use Rattle.mark_file.proofs.ReadLemmas.{SoFar, none_yet, one_more, all_read, one_refused, length-far}
use Rattle.mark_file.proofs.read.read_rows.Goals as goal

pub rows-init : goal.rows-init
rows-init c = (
  c.requires.steady,
  omega arith,
  omega arith,
  subst (λ items. SoFar (fields_of c.args.row.now) (unread c.args.reader.now) 1 (fields_of c.args.row.now) (unread c.args.reader.now) (rounds_read items)) (sym c.new-rounds.ensures.items)
      (none_yet (fields_of c.args.row.now) (unread c.args.reader.now) c.requires.first),
)

pub take_row-requires : goal.take_row-requires
take_row-requires c = omega (arith, length-far _ _ _ _ _ _ c.rows.invariant.3, length-rounds_read c.rows.rounds.items)

pub rows-smaller : goal.rows-smaller
rows-smaller c =
    let takes = c.in_ok-take_row.ensures.ok in
    let early = row_meaning-early (c.rows.number + 1) (length (rounds_read c.rows.rounds.items)) (fields_of c.next_row.new.row) takes.0 takes.1 in
    omega (arith, early)

pub rows-preserved : goal.rows-preserved
rows-preserved c =
    let inv = c.rows.invariant in
    let takes = c.in_ok-take_row.ensures.ok in
    let early = row_meaning-early (c.rows.number + 1) (length (rounds_read c.rows.rounds.items)) (fields_of c.next_row.new.row) takes.0 takes.1 in
    let next : unread c.rows.reader ≡ fields_of c.next_row.new.row ∷ unread c.next_row.new.reader =
    c.in_ok-next_row.ensures.next ∙ ap (λ b. cond b (fields_of c.next_row.new.row ∷ unread c.next_row.new.reader) []) c.if-branch.true in (
      c.in_ok-next_row.ensures.steady,
      omega arith,
      early,
      one_more (fields_of c.args.row.now) (unread c.args.reader.now) c.rows.number (fields_of c.rows.row) (fields_of c.next_row.new.row) (unread c.rows.reader) (unread c.next_row.new.reader) (rounds_read c.rows.rounds.items) (rounds_read c.take_row.new.rounds.items) inv.3 next takes,
    )

pub returns-in_err-take_row-clause-err : goal.returns-in_err-take_row-clause-err
returns-in_err-take_row-clause-err c =
    let first = fields_of c.args.row.now in
    let all = unread c.args.reader.now in
    let r = fields_of c.next_row.new.row in
    let out = err_from_is_err_and c.from_residual-in_err-take_row.result c.from_residual-in_err-take_row.ensures.1 in
    let next : unread c.rows.reader ≡ r ∷ unread c.next_row.new.reader = c.in_ok-next_row.ensures.next ∙ ap (λ b. cond b (r ∷ unread c.next_row.new.reader) []) c.if-branch.true in
    let Refuses : ℕ → Type 0 = λ n. c.in_err-take_row.field-0.0 ≢ Memory → row_meaning (c.rows.number + 1) n r ≡ Err c.in_err-take_row.field-0.0 in
    let refused : Refuses (length (rounds_read c.rows.rounds.items)) = subst Refuses (sym (length-rounds_read c.rows.rounds.items)) c.in_err-take_row.ensures.err in
    let told : IsRefused first all c.in_err-take_row.field-0.0 =
    one_refused first all c.rows.number (fields_of c.rows.row) r (unread c.rows.reader) (unread c.next_row.new.reader) (rounds_read c.rows.rounds.items) c.in_err-take_row.field-0.0 c.rows.invariant.3 next refused in
    let Told : Result (Vec RoundMarks Global) MarkRefusal → Type 0 = λ result. IfErr result (IsRefused first all) in
    subst Told (sym out.1) (subst (IsRefused first all) (sym out.2) told)

pub returns-clause-ok : goal.returns-clause-ok
returns-clause-ok c =
    let next : unread c.rows.reader ≡ [] = c.in_ok-next_row.ensures.next ∙ ap (λ b. cond b (fields_of c.next_row.new.row ∷ unread c.next_row.new.reader) []) c.if-branch.false in
    all_read (fields_of c.args.row.now) (unread c.args.reader.now) c.rows.number (fields_of c.rows.row) (unread c.rows.reader) (rounds_read c.rows.rounds.items) c.rows.invariant.3 next
