use Rattle.std.proofs.Common.{◌≡◌, ◌<◌, ℕ, false, get_or, length, sym, arith}
use Rattle.std.proofs.lemmas.Bool.{eq-eqb}
use Rattle.std.proofs.lemmas.List.Sums.{position_or_len_is}
use Rattle.mesh_names.specs.Spelling.{is_point}
use Rattle.mesh_names.proofs.spelling.point_of.Goals as goal

pub returns-then-c-eq46-clause-place : goal.returns-then-c-eq46-clause-place
returns-then-c-eq46-clause-place c =
    sym (position_or_len_is is_point c.args.text.now c.loop-at.at 0 (omega arith) c.loop-at.invariant (λ _. eq-eqb (get_or c.args.text.now c.loop-at.at 0) 46 c.if-c-eq46.true))

pub returns-clause-place : goal.returns-clause-place
returns-clause-place c =
    let none : (k : ℕ) → k < length c.args.text.now → is_point (get_or c.args.text.now k 0) ≡ false = λ k h. c.loop-at.invariant k (omega arith) in
    sym (position_or_len_is is_point c.args.text.now (length c.args.text.now) 0 (omega arith) none (λ h. absurd (omega arith)))
