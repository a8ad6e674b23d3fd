use Rattle.std.proofs.Common.{◌++◌, ◌∷◌, [], ◌∙◌, ap, rules}
use Rattle.std.proofs.lemmas.Result.{on_ok_weaker}
use Rattle.std.proofs.lemmas.Int.{to_z-of_z}
use mir.Val.{SFits}
use mir.Syntax.{w64}
use Rattle.compat_check.specs.Points.{Point}
use Rattle.mesh_writer.specs.MeshText.{coordinates_line}
use Rattle.mesh_writer.proofs.line.Tuple2I64I64Line.put.Goals as goal

pub returns : goal.returns
returns c =
    let p = c.args.self.now in
    let f : SFits w64 p.0 = search rules in
    let g : SFits w64 p.1 = search rules in
    on_ok_weaker c.put_pair.result (λ e. e ∙ ap (λ (q : Point). c.args.to.now.items ++ (coordinates_line q ++ 10 ∷ [])) (λ i. (to_z-of_z w64 p.0 f i, to_z-of_z w64 p.1 g i))) c.put_pair.ensures
