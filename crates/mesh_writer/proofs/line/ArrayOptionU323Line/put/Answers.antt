use Rattle.std.proofs.Common.{◌++◌, ◌∷◌, [], ◌∙◌, sym, ap, map, rules}
use Rattle.std.specs.Prelude.{None}
use Rattle.std.proofs.lemmas.Result.{on_ok_weaker}
use Rattle.std.proofs.lemmas.Int.{to_z-of_z}
use mir.Val.{SFits}
use mir.Syntax.{w64}
use Rattle.macro_file.specs.Written.{numbers_line}
use Rattle.macro_file.proofs.WriterLemmas.{three_items}
use Rattle.mesh_writer.specs.Others.{leaf_at}
use Rattle.mesh_writer.proofs.line.ArrayOptionU323Line.put.Goals as goal

pub returns : goal.returns
returns c =
    let xs = c.args.self.now in
    let f : SFits w64 c.leaf_at.result = search rules in
    let g : SFits w64 c.leaf_at-2.result = search rules in
    let h : SFits w64 c.leaf_at-3.result = search rules in
    let a = to_z-of_z w64 c.leaf_at.result f ∙ c.leaf_at.ensures in
    let b = to_z-of_z w64 c.leaf_at-2.result g ∙ c.leaf_at-2.ensures in
    let d = to_z-of_z w64 c.leaf_at-3.result h ∙ c.leaf_at-3.ensures in
    let same = (λ i. a i ∷ b i ∷ d i ∷ []) ∙ sym (ap (map leaf_at) (three_items xs None c.told-self)) in
    on_ok_weaker c.put_three.result (λ e. e ∙ ap (λ ys. c.args.to.now.items ++ (numbers_line ys ++ 10 ∷ [])) same) c.put_three.ensures
