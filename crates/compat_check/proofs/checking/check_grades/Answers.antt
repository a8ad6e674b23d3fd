use Rattle.std.proofs.Common.{◌≡◌, ◌+◌, ◌*◌, ◌/◌, ◌%◌, subst, arith}
use Rattle.compat_check.specs.Passes.{IsStuck}
use Rattle.compat_check.proofs.checking.check_grades.Goals as goal

pub returns-in-Some-clause-refused : goal.returns-in-Some-clause-refused
returns-in-Some-clause-refused c =
    let place : c.in-Some.place ≡ c.in-Some.place / 3 * 3 + c.in-Some.place % 3 = omega arith in
    (omega arith, subst (IsStuck c.args.sides.now) place c.in-Some.ensures)
