use Rattle.std.proofs.Common.{◌++◌, ◌∷◌, [], ◌∙◌, sym, ap, get_or, rules}
use Rattle.std.specs.Prelude.{pos}
use Rattle.std.proofs.lemmas.Result.{on_ok_weaker}
use Rattle.std.proofs.lemmas.Int.{to_z-of_z}
use mir.Val.{SFits}
use mir.Syntax.{w8, w64}
use Rattle.macro_file.specs.Written.{numbers_line}
use Rattle.macro_file.proofs.WriterLemmas.{three_items}
use Rattle.mesh_writer.proofs.line.ArrayI83Line.put.Goals as goal

pub returns : goal.returns
returns c =
    let xs = c.args.self.now in
    let f : SFits w8 (get_or xs 0 (pos 0)) = search rules in
    let g : SFits w8 (get_or xs 1 (pos 0)) = search rules in
    let h : SFits w8 (get_or xs 2 (pos 0)) = search rules in
    let k : SFits w64 c.from.result = search rules in
    let l : SFits w64 c.from-2.result = search rules in
    let m : SFits w64 c.from-3.result = search rules in
    let a = to_z-of_z w64 c.from.result k ∙ c.from.ensures ∙ to_z-of_z w8 (get_or xs 0 (pos 0)) f in
    let b = to_z-of_z w64 c.from-2.result l ∙ c.from-2.ensures ∙ to_z-of_z w8 (get_or xs 1 (pos 0)) g in
    let d = to_z-of_z w64 c.from-3.result m ∙ c.from-3.ensures ∙ to_z-of_z w8 (get_or xs 2 (pos 0)) h in
    let same = (λ i. a i ∷ b i ∷ d i ∷ []) ∙ sym (three_items xs (pos 0) c.told-self) in
    on_ok_weaker c.put_three.result (λ e. e ∙ ap (λ ys. c.args.to.now.items ++ (numbers_line ys ++ 10 ∷ [])) same) c.put_three.ensures
