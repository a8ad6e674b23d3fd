use Rattle.std.proofs.Common.{◌≡◌, ◌++◌, ◌∙◌, ap, arith}
use Rattle.std.specs.Prelude.{pos}
use Rattle.std.specs.Fmt.{signed_decimal}
use Rattle.std.proofs.lemmas.Int.{ints}
use Rattle.std.proofs.lemmas.Result.{on_ok_weaker}
use mir.Val.{to_z}
use mir.Syntax.{w64}
use Rattle.macro_file.proofs.WriterLemmas.{put_head}
use Rattle.macro_file.proofs.writer.put_head.Goals as goal

pub returns-clause-ok : goal.returns-clause-ok
returns-clause-ok c =
    let v : to_z w64 c.args.vertices ≡ pos c.args.vertices = omega (arith, ints) in
    let e : to_z w64 c.args.elements ≡ pos c.args.elements = omega (arith, ints) in
    on_ok_weaker c.put_text-3.result
    (put_head _ _ _ _ _ _ c.args.vertices c.args.elements c.in_ok-put_text.ensures.ok (c.in_ok-put_number.ensures.ok ∙ ap (λ z. c.put_text.new.to.items ++ signed_decimal z) v)
    c.in_ok-put_text-2.ensures.ok (c.in_ok-put_number-2.ensures.ok ∙ ap (λ z. c.put_text-2.new.to.items ++ signed_decimal z) e))
    c.put_text-3.ensures.ok
