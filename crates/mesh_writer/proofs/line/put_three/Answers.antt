use Rattle.std.proofs.Common.{◌++◌, ◌∙◌, ap}
use Rattle.std.specs.Fmt.{signed_decimal}
use Rattle.std.proofs.lemmas.Result.{on_ok_weaker}
use Rattle.std.proofs.lemmas.Int.{to_z-of_z}
use mir.Syntax.{w64}
use Rattle.macro_file.proofs.WriterLemmas.{put_three}
use Rattle.mesh_writer.proofs.line.put_three.Goals as goal

pub returns : goal.returns
returns c =
    let a = ap (λ z. c.args.to.now.items ++ signed_decimal z) (to_z-of_z w64 c.args.first c.ranges.first) in
    let b = ap (λ z. c.put_text.new.to.items ++ signed_decimal z) (to_z-of_z w64 c.args.second c.ranges.second) in
    let d = ap (λ z. c.put_text-2.new.to.items ++ signed_decimal z) (to_z-of_z w64 c.args.third c.ranges.third) in
    on_ok_weaker c.put_text-3.result
    (put_three _ _ _ _ _ _ _ (signed_decimal c.args.first) (signed_decimal c.args.second) (signed_decimal c.args.third) (c.in_ok-put_number.ensures ∙ a) c.in_ok-put_text.ensures (c.in_ok-put_number-2.ensures ∙ b) c.in_ok-put_text-2.ensures (c.in_ok-put_number-3.ensures ∙ d))
    c.put_text-3.ensures
