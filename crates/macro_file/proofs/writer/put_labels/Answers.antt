use Rattle.std.proofs.Common.{◌≡◌, ◌∷◌, [], ◌++◌, ◌∙◌, sym, ap, get_or, rules}
use Rattle.std.specs.Prelude.{pos}
use Rattle.std.proofs.lemmas.Result.{on_ok_weaker}
use mir.Val.{SFits, to_z, of_z}
use mir.Syntax.{w64, w8}
use Rattle.macro_file.specs.Written.{numbers_line}
use Rattle.macro_file.proofs.WriterLemmas.{three_items, widened}
use Rattle.macro_file.proofs.writer.put_labels.Goals as goal

pub returns-clause-ok : goal.returns-clause-ok
returns-clause-ok c =
    let xs = c.args.labels.now in
    let f : SFits w8 (get_or xs 0 (pos 0)) = search rules in
    let g : SFits w8 (get_or xs 1 (pos 0)) = search rules in
    let h : SFits w8 (get_or xs 2 (pos 0)) = search rules in
    let same : to_z w64 (of_z w64 c.from.result) ∷ to_z w64 (of_z w64 c.from-2.result) ∷ to_z w64 (of_z w64 c.from-3.result) ∷ [] ≡ xs =
    (λ i. widened w8 _ _ f c.from.type_inv c.from.ensures i ∷ widened w8 _ _ g c.from-2.type_inv c.from-2.ensures i ∷ widened w8 _ _ h c.from-3.type_inv c.from-3.ensures i ∷ []) ∙ sym (three_items xs (pos 0) c.told-labels) in
    on_ok_weaker c.put_three.result (λ e. e ∙ ap (λ ys. c.args.to.now.items ++ (numbers_line ys ++ 10 ∷ [])) same) c.put_three.ensures.ok
