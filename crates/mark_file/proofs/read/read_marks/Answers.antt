use Rattle.std.proofs.Common.{◌≡◌, [], ◌∷◌, Ok, cond, sym, ap, ◌∙◌}
use Rattle.std.specs.Result.{result_map_both}
use Rattle.std.proofs.lemmas.Result.{IfOk-weaker, MatchResult-weaker}
use Rattle.csv.specs.Records.{fields_of}
use Rattle.mark_file.specs.Meaning.{accepted, GivesRounds, marks_meaning, rounds_of, rounds_read}
use Rattle.mark_file.specs.Unread.{unread}
use Rattle.mark_file.proofs.ReadLemmas.{no_header, bad_header, after_header, header_round}
use Rattle.mark_file.proofs.read.read_marks.Goals as goal
use Rattle.mark_file.proofs.read.read_marks.Goals.{then-not-branch-via-then-not-branch, then-not-branch-via-else-not-branch+then-not-is_header}

pub returns-then-not-branch-clause-err : goal.returns-then-not-branch-clause-err
returns-then-not-branch-clause-err c = λ some.
    let rows = unread c.open-reader.result in
    let first = fields_of c.next_row.new.row in
    let rest = unread c.next_row.new.reader in
    elim c.then-not-branch.branch [
      | then-not-branch-via-then-not-branch w ↦ no_header c.args.bytes.now rows c.open-reader.ensures.records (c.in_ok-next_row.ensures.next ∙ ap (λ b. cond b (first ∷ rest) []) w.if-not-branch.true)
      | then-not-branch-via-else-not-branch+then-not-is_header w ↦ bad_header c.args.bytes.now rows first rest c.open-reader.ensures.records (c.in_ok-next_row.ensures.next ∙ ap (λ b. cond b (first ∷ rest) []) w.if-not-branch.false) (sym w.if-not-is_header.ensures)
    ]

pub read_rows-requires-clause-first : goal.read_rows-requires-clause-first
read_rows-requires-clause-first c = header_round (fields_of c.next_row.new.row) (sym c.if-not-is_header.ensures)

pub returns-clause-ok : goal.returns-clause-ok
returns-clause-ok c =
    let first = fields_of c.next_row.new.row in
    let rest = unread c.next_row.new.reader in
    let split : unread c.open-reader.result ≡ first ∷ rest = c.in_ok-next_row.ensures.next ∙ ap (λ b. cond b (first ∷ rest) []) c.if-not-branch.false in
    let means : marks_meaning c.args.bytes.now ≡ result_map_both rounds_of (λ e. e) (accepted first rest) =
    after_header c.args.bytes.now (unread c.open-reader.result) first rest c.open-reader.ensures.records split (sym c.if-not-is_header.ensures) in
    IfOk-weaker c.read_rows.result (λ rounds. GivesRounds first rest (rounds_read rounds.items)) (λ rounds. marks_meaning c.args.bytes.now ≡ Ok (rounds_read rounds.items)) (λ rounds h. means ∙ h.0) c.read_rows.ensures.ok

pub returns-clause-err : goal.returns-clause-err
returns-clause-err c =
    let first = fields_of c.next_row.new.row in
    let rest = unread c.next_row.new.reader in
    let split : unread c.open-reader.result ≡ first ∷ rest = c.in_ok-next_row.ensures.next ∙ ap (λ b. cond b (first ∷ rest) []) c.if-not-branch.false in
    let means : marks_meaning c.args.bytes.now ≡ result_map_both rounds_of (λ e. e) (accepted first rest) =
    after_header c.args.bytes.now (unread c.open-reader.result) first rest c.open-reader.ensures.records split (sym c.if-not-is_header.ensures) in
    MatchResult-weaker c.read_rows.result c.read_rows.ensures.err (λ rounds t. t) (λ e refused some. means ∙ ap (result_map_both rounds_of (λ e. e)) (refused some))
