use Rattle.std.proofs.Common.{◌≡◌, ◌++◌, ◌∙◌, refl, ap, arith, length}
use Rattle.mesh_io.specs.Written.{padded}
use Rattle.mesh_io.proofs.Padded.{joined}
use Rattle.mesh_io.proofs.written.fraction_digits.Goals as goal

pub returns : goal.returns
returns c =
    let front = c.put_digits.ensures ∙ ap (λ k. padded k c.args.upper) c.split_at_mut-front.ensures.front_len in
    let twelve : length c.split_at_mut-front.result.1.now ≡ 12 = omega (arith, c.split_at_mut-front.ensures.back_len) in
    let back = c.put_digits-2.ensures ∙ ap (λ k. padded k c.args.lower) twelve in
    (λ i. front i ++ back i) ∙ joined 10 12 c.args.upper c.args.lower _ 22 refl refl c.requires
