use Rattle.std.proofs.Common.{◌++◌, ◌∙◌, ap}
use Rattle.std.specs.Fmt.{signed_decimal}
use Rattle.std.proofs.lemmas.Result.{on_ok_weaker}
use Rattle.std.proofs.lemmas.Int.{to_z-of_z}
use mir.Syntax.{w64}
use Rattle.macro_file.proofs.WriterLemmas.{put_three}
use Rattle.macro_file.proofs.writer.put_three.Goals as goal

pub returns-clause-ok : goal.returns-clause-ok
returns-clause-ok c =
    let a = ap (λ z. c.args.to.now.items ++ signed_decimal z) (to_z-of_z w64 c.args.a c.ranges.a) in
    let b = ap (λ z. c.put_text.new.to.items ++ signed_decimal z) (to_z-of_z w64 c.args.b c.ranges.b) in
    let d = ap (λ z. c.put_text-2.new.to.items ++ signed_decimal z) (to_z-of_z w64 c.args.c c.ranges.c) in
    on_ok_weaker c.put_text-3.result
    (put_three _ _ _ _ _ _ _ (signed_decimal c.args.a) (signed_decimal c.args.b) (signed_decimal c.args.c) (c.in_ok-put_number.ensures.ok ∙ a) c.in_ok-put_text.ensures.ok (c.in_ok-put_number-2.ensures.ok ∙ b) c.in_ok-put_text-2.ensures.ok (c.in_ok-put_number-3.ensures.ok ∙ d))
    c.put_text-3.ensures.ok
