use Rattle.std.proofs.Common.{◌-◌, map, ◌≡◌, ◌+◌, [], ◌∷◌, ◌++◌, cond, length, sym, ap, ◌∙◌, subst, arith}
use Rattle.std.specs.List.{range_with_len}
use Rattle.std.proofs.lemmas.List.{length-append}
use Rattle.mesh_names.specs.declared.rows.RoundMarks.{RoundMarks}
use Rattle.mark_file.specs.Meaning.{round_read, empty_round, rounds_read}
use Rattle.mark_file.proofs.RoundLemmas.{fill_step}
use Rattle.mark_file.proofs.rounds.fill_rounds.Goals as goal

pub fill-preserved : goal.fill-preserved
fill-preserved c =
    let inv = c.fill.invariant in
    let marks : RoundMarks = record { number = c.len-in-fill.result + 1; rows = c.new-rows.result } in
    let pushed : c.push.new.self.items ≡ c.fill.rounds.items ++ (marks ∷ []) = c.push.ensures.items ∙ ap (λ b. cond b (c.fill.rounds.items ++ (marks ∷ [])) c.fill.rounds.items) c.if-is_err.ensures.negation in
    let number : c.len-in-fill.result + 1 ≡ length c.fill.rounds.items + 1 = omega (arith, c.len-in-fill.ensures) in
    let own : round_read marks ≡ empty_round (length c.fill.rounds.items + 1) = λ i. record { number = number i; rows = c.new-rows.ensures.items i } in
    let size : length c.push.new.self.items ≡ length c.fill.rounds.items + 1 = ap length pushed ∙ length-append c.fill.rounds.items (marks ∷ []) in (
      omega (arith, size, inv.0),
      omega (arith, size, c.fill-test.true, c.len.ensures),
      subst (λ items. rounds_read items ≡ rounds_read c.args.rounds.now.items ++ map empty_round (range_with_len (length c.args.rounds.now.items + 1) (length items - length c.args.rounds.now.items)))
          (sym pushed) (fill_step c.args.rounds.now.items c.fill.rounds.items marks inv.0 own inv.2),
    )
