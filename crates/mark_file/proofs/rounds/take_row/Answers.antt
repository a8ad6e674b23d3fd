use Rattle.std.proofs.Common.{to_z, of_z, refl, ◌≡◌, [], ◌∷◌, ◌++◌, Ok, cond, length, sym, ap, ◌∙◌, subst, arith}
use Rattle.std.specs.Result.{is_ok}
use mir.Syntax.{w64}
use Rattle.csv.specs.Records.{fields_of}
use Rattle.mark_file.specs.Rows.{row_meaning}
use Rattle.mark_file.specs.Meaning.{mark_row, rounds_read}
use Rattle.mark_file.proofs.RoundLemmas.{length-filled, length-rounds_read, row_joins}
use Rattle.mark_file.proofs.AcceptedLemmas.{row_meaning-accepts, number_whole}
use Rattle.mark_file.proofs.rounds.take_row.Goals as goal

pub fill_rounds-requires-clause-low : goal.fill_rounds-requires-clause-low
fill_rounds-requires-clause-low c =
    let a = row_meaning-accepts c.args.number c.len.result (fields_of c.args.row.now) c.in_ok-round.field-0 (sym c.read_row.ensures ∙ c.in_ok-round.was) in
    omega (arith, a.rises, c.len.ensures)

pub fill_rounds-requires-clause-high : goal.fill_rounds-requires-clause-high
fill_rounds-requires-clause-high c =
    let a = row_meaning-accepts c.args.number c.len.result (fields_of c.args.row.now) c.in_ok-round.field-0 (sym c.read_row.ensures ∙ c.in_ok-round.was) in
    omega (arith, a.high)

pub overflow_sub-count : goal.overflow_sub-count
overflow_sub-count c =
    let a = row_meaning-accepts c.args.number c.len.result (fields_of c.args.row.now) c.in_ok-round.field-0 (sym c.read_row.ensures ∙ c.in_ok-round.was) in
    omega (arith, a.some)

pub index_mut-requires : goal.index_mut-requires
index_mut-requires c =
    let a = row_meaning-accepts c.args.number c.len.result (fields_of c.args.row.now) c.in_ok-round.field-0 (sym c.read_row.ensures ∙ c.in_ok-round.was) in
    let size = length-filled c.args.rounds.now.items c.fill_rounds.new.rounds.items c.in_ok-round.field-0.round (omega (arith, a.rises, c.len.ensures)) c.in_ok-fill_rounds.ensures.ok in
    omega (arith, a.some, size)

pub returns-clause-ok : goal.returns-clause-ok
returns-clause-ok c =
    let row = c.in_ok-round.field-0 in
    let means = sym c.read_row.ensures ∙ c.in_ok-round.was in
    let a = row_meaning-accepts c.args.number c.len.result (fields_of c.args.row.now) row means in
    let before : c.len.result ≡ length (rounds_read c.args.rounds.now.items) = omega (arith, c.len.ensures, length-rounds_read c.args.rounds.now.items) in
    let held = c.index_mut.result.now.rows.items in
    let number : to_z w64 (of_z w64 row.number) ≡ row.number = number_whole row.what row.number a.formed.small in (
      row,
      subst (λ n. row_meaning c.args.number n (fields_of c.args.row.now) ≡ Ok row) before means,
      λ rows. row_joins c.args.rounds.now.items c.fill_rounds.new.rounds.items c.index_mut.result.now _ rows row c.in_ok-fill_rounds.ensures.ok (omega (arith, a.rises, c.len.ensures)) a.some c.index_mut.ensures.value refl
          (c.push.ensures.items ∙ (λ i. cond (is_ok c.push.result) (held ++ (record { row = row.row; what = row.what; place = row.place; number = number i } ∷ [])) held) ∙ ap (λ b. cond b (held ++ (mark_row row ∷ [])) held) c.if-is_err.ensures.negation),
    )
