use Rattle.std.proofs.Common.{◌≡◌, ℕ, List, ◌∙◌, subst}
use Rattle.std.specs.Prelude.{IfOk, string_bytes}
use Rattle.adapt_cli.specs.FaultTexts.{at_element}
use Rattle.adapt_cli.proofs.macro_lines.grade_too_high.Goals as goal

pub returns : goal.returns
returns c = subst (λ (what : List ℕ). IfOk c.at_element.result (λ t. string_bytes t ≡ at_element c.args.element what)) (c.deref.ensures ∙ c.in_ok-what.ensures.ok) c.at_element.ensures
