use Rattle.std.proofs.Common.{◌++◌, ◌∙◌, ap}
use Rattle.std.proofs.lemmas.Result.{on_ok_weaker}
use Rattle.std.proofs.lemmas.Int.{to_z-of_z}
use mir.Syntax.{w64}
use Rattle.mesh_io.specs.Decimals.{written_units}
use Rattle.macro_file.proofs.WriterLemmas.{put_two}
use Rattle.mesh_writer.proofs.line.put_pair.Goals as goal

pub returns : goal.returns
returns c =
    let x = ap (λ z. c.args.to.now.items ++ written_units z) (to_z-of_z w64 c.args.x c.ranges.x) in
    let y = ap (λ z. c.put_text.new.to.items ++ written_units z) (to_z-of_z w64 c.args.y c.ranges.y) in
    on_ok_weaker c.put_text-2.result
    (put_two _ _ _ _ _ (written_units c.args.x) (written_units c.args.y) (c.in_ok-put_coordinate.ensures ∙ x) c.in_ok-put_text.ensures (c.in_ok-put_coordinate-2.ensures ∙ y))
    c.put_text-2.ensures
