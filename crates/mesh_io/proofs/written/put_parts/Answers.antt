use Rattle.std.proofs.Common.{◌≡◌, ◌+◌, ◌*◌, ◌/◌, ◌%◌, ◌^◌, ◌++◌, ◌∙◌, ap, arith, append_assoc, pos}
use Rattle.std.proofs.lemmas.Result.{IfOk-weaker, IfErr-weaker}
use Rattle.std.specs.Fmt.{sign_text, decimal}
use Rattle.std.proofs.lemmas.Int.{ints}
use mir.Val.{to_z, of_z}
use mir.Syntax.{w64}
use lib.Signed.{lt_z}
use Rattle.mesh_io.specs.Written.{fraction, written_units}
use Rattle.mesh_io.proofs.Padded.{kept_front, whole_part, part_rest}
use Rattle.mesh_io.proofs.written.put_parts.Goals as goal

pub returns-clause-ok : goal.returns-clause-ok
returns-clause-ok c =
    let old = c.args.to.now.items in
    let s = c.unsigned_abs-size.result in
    let size = c.unsigned_abs-size.ensures.value in
    let z = to_z w64 (of_z w64 c.args.units) in
    let same : z ≡ c.args.units = omega (arith, ints) in
    let sgn = sign_text (lt_z z (pos 0)) in
    let w = whole_part s ∙ ap (λ n. n * 244140625 / 10 ^ 22) size in
    let p = part_rest s ∙ ap (λ n. n * 244140625 % 10 ^ 22) size in
    let f = fraction (s / 4096 % 10000000000 * 1000000000000 + s % 4096 * 244140625) in
    IfOk-weaker c.put_fraction.result _ _
    (λ r h. h ∙ (λ i. c.in_ok-put_front.ensures.ok i ++ f) ∙ append_assoc old (sgn ++ decimal (s / 4096 / 10000000000)) f ∙ ap (λ t. old ++ t) (λ i. sgn ++ decimal (w i) ++ fraction (p i)) ∙ ap (λ u. old ++ written_units u) same)
    c.put_fraction.ensures.ok

pub returns-clause-err : goal.returns-clause-err
returns-clause-err c =
    IfErr-weaker c.put_fraction.result _ _ (λ r h. kept_front c.args.to.now.items c.put_front.new.to.items c.put_fraction.new.to.items _ c.in_ok-put_front.ensures.ok h) c.put_fraction.ensures.err
