use Rattle.mesh_io.specs.Decimals.{greatest_cut}
use Rattle.std.proofs.Common.{◌≡◌, ◌-◌, ◌*◌, ◌/◌, ◌^◌, ◌∙◌, sym, ap, arith}
use Rattle.mesh_io.proofs.Powers.{ten_le, ten_pos, shift_up, shift_down, div_is, div_low, div_high, mul_le}
use Rattle.std.proofs.lemmas.Nat.{div_below}
use Rattle.mesh_io.proofs.decimal.scaled.Goals as goal

pub pow-requires : goal.pow-requires
pow-requires c = let b = ten_le (c.args.down - c.args.up) 28 c.if-by-gt28.false in omega (arith, b)

pub nonzero_div-result : goal.nonzero_div-result
nonzero_div-result c = omega (arith, c.pow.ensures, ten_pos (c.args.down - c.args.up))

pub returns-then-by-gt28-clause-some : goal.returns-then-by-gt28-clause-some
returns-then-by-gt28-clause-some c =
    let big = ten_le 28 (c.args.down - c.args.up) (omega arith) in
    let e = shift_down c.args.kept c.args.up c.args.down (omega arith) in
    let z : c.args.kept / 10 ^ (c.args.down - c.args.up) ≡ 0 = div_is _ _ 0 (ten_pos _) (omega arith) (omega (arith, big, c.requires)) in (sym (e ∙ z), omega arith)

pub returns-else-by-gt28-clause-some : goal.returns-else-by-gt28-clause-some
returns-else-by-gt28-clause-some c =
    let ten = ten_le 1 (c.args.down - c.args.up) (omega arith) in
    let e = shift_down c.args.kept c.args.up c.args.down (omega arith) in
    let same = ap (λ p. c.args.kept / p) c.pow.ensures in
    let low = div_below c.args.kept (10 ^ (c.args.down - c.args.up)) (10 ^ 27) (ten_pos _) (omega (arith, ten, c.requires)) in
    (same ∙ sym e, omega (arith, same, low))

pub returns-then-by-gt28-2-clause-none : goal.returns-then-by-gt28-2-clause-none
returns-then-by-gt28-2-clause-none c =
    let big = ten_le 28 (c.args.up - c.args.down) (omega arith) in
    let e = shift_up c.args.kept c.args.up c.args.down (omega arith) in
    let more = mul_le 1 c.args.kept _ _ (omega arith) big in omega (arith, e, more)

pub pow-power-requires : goal.pow-power-requires
pow-power-requires c = let b = ten_le (c.args.up - c.args.down) 28 c.if-by-gt28-2.false in omega (arith, b)

pub nonzero_div-power : goal.nonzero_div-power
nonzero_div-power c = omega (arith, c.pow-power.ensures, ten_pos (c.args.up - c.args.down))

pub returns-then-kept-power-clause-none : goal.returns-then-kept-power-clause-none
returns-then-kept-power-clause-none c =
    let e = shift_up c.args.kept c.args.up c.args.down (omega arith) in
    let same = ap (λ p. c.args.kept * p) c.pow-power.ensures in
    let p = ten_pos (c.args.up - c.args.down) in
    let high = div_high greatest_cut c.pow-power.result (omega (arith, c.pow-power.ensures, p)) in
    let over = mul_le _ _ c.pow-power.result c.pow-power.result c.if-kept-power.true (omega arith) in omega (arith, e, same, high, over)

pub returns-else-kept-power-clause-some : goal.returns-else-kept-power-clause-some
returns-else-kept-power-clause-some c =
    let e = shift_up c.args.kept c.args.up c.args.down (omega arith) in
    let same = ap (λ p. c.args.kept * p) c.pow-power.ensures in
    let low = div_low greatest_cut c.pow-power.result in
    let under = mul_le _ _ c.pow-power.result c.pow-power.result c.if-kept-power.false (omega arith) in (same ∙ sym e, omega (arith, low, under))
