use Rattle.std.proofs.Common.{◌++◌, ◌∙◌, ap, rules}
use Rattle.std.proofs.lemmas.Result.{on_ok_weaker}
use Rattle.std.proofs.lemmas.Int.{to_z-of_z}
use mir.Val.{SFits}
use mir.Syntax.{w64}
use Rattle.mesh_io.specs.Decimals.{written_units}
use Rattle.macro_file.proofs.WriterLemmas.{put_two}
use Rattle.macro_file.proofs.writer.put_point.Goals as goal

pub returns-clause-ok : goal.returns-clause-ok
returns-clause-ok c =
    let v = c.args.vertex.now in
    let f : SFits w64 v.x = search rules in
    let g : SFits w64 v.y = search rules in
    let x = ap (λ z. c.args.to.now.items ++ written_units z) (to_z-of_z w64 v.x f) in
    let y = ap (λ z. c.put_text.new.to.items ++ written_units z) (to_z-of_z w64 v.y g) in
    on_ok_weaker c.put_text-2.result
    (put_two _ _ _ _ _ (written_units v.x) (written_units v.y) (c.in_ok-put_coordinate.ensures.ok ∙ x) c.in_ok-put_text.ensures.ok (c.in_ok-put_coordinate-2.ensures.ok ∙ y))
    c.put_text-2.ensures.ok
