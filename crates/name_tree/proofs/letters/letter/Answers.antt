use Rattle.std.proofs.Common.{◌≡◌, ◌-◌, suc, ℕ, Bool, List, ap, sym, ◌∙◌, arith, ◌∷◌, drop}
use Rattle.mesh_names.specs.Names.{Name, depth}
use Rattle.name_tree.proofs.FirstLetters.{drop-tail}
use Rattle.name_tree.proofs.letters.letter.Goals as goal

pub returns-in-Some : goal.returns-in-Some
returns-in-Some c =
    let from = depth c.args.name - c.args.letters in
    let whole : drop from c.args.name.1 ≡ c.in-Some.last ∷ c.in-Some.field-0-0.1 = ap (λ (n : Name). n.1) (sym c.first_letters.ensures ∙ c.in-Some.ensures) in
    let rest = drop-tail from c.args.name.1 c.in-Some.last c.in-Some.field-0-0.1 whole in
    let some = c.requires.some in
    let within = c.requires.within in
    let step : suc (depth c.args.name - c.args.letters) ≡ depth c.args.name - (c.args.letters - 1) = omega arith in
    whole ∙ ap (λ (v : List Bool). c.in-Some.last ∷ v) (sym rest ∙ ap (λ (x : ℕ). drop x c.args.name.1) step)
