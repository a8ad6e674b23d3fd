use Rattle.std.proofs.Common.{◌≡◌, ◌<◌, ℕ, false, get_or, length, sym, arith}
use Rattle.std.proofs.lemmas.Bool.{eq-eqb}
use Rattle.std.proofs.lemmas.List.Sums.{position_or_len_is}
use Rattle.restart_file.specs.Heads.{is_newline}
use Rattle.restart_file.proofs.head.newline_of.Goals as goal

pub returns-then-byte-eq10-clause-place : goal.returns-then-byte-eq10-clause-place
returns-then-byte-eq10-clause-place c =
    sym (position_or_len_is is_newline c.args.text.now c.loop-at.at 0 (omega arith) c.loop-at.invariant (λ _. eq-eqb (get_or c.args.text.now c.loop-at.at 0) 10 c.if-byte-eq10.true))

pub returns-clause-place : goal.returns-clause-place
returns-clause-place c =
    let none : (k : ℕ) → k < length c.args.text.now → is_newline (get_or c.args.text.now k 0) ≡ false = λ k h. c.loop-at.invariant k (omega arith) in
    sym (position_or_len_is is_newline c.args.text.now (length c.args.text.now) 0 (omega arith) none (λ h. absurd (omega arith)))
