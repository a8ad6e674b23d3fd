use Rattle.std.proofs.Common.{rules, ◌≡◌, ◌++◌, ◌∷◌, [], sym, ap, ◌∙◌, Ok}
use Rattle.macro_file.specs.Lines.{words}
use Rattle.locate_point.proofs.Adding.{push-within}
use Rattle.locate_point.proofs.points.take_line.Goals as goal

pub returns-else-is_err-clause-within : goal.returns-else-is_err-clause-within
returns-else-is_err-clause-within c =
    let pushed : c.push.new.self.items ≡ c.args.points.now.items ++ c.in-Some.point ∷ [] = search rules in
    push-within c.args.points.now.items c.push.new.self.items c.args.line (words c.args.text.now) c.in-Some.point (sym (c.in_ok-point.was ∙ ap Ok c.in-Some.is) ∙ c.read_line.ensures) pushed
