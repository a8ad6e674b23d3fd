use Rattle.std.proofs.Common.{◌-◌, ◌<◌, ◌%◌, arith}
use Rattle.mesh_io.proofs.Powers.{ten_le, ten_pos}
use Rattle.mesh_io.proofs.Shortened.{short_down, short_up}
use Rattle.mesh_io.proofs.decimal.short_units.Goals as goal

pub nonzero_div-whole : goal.nonzero_div-whole
nonzero_div-whole c = omega (arith, c.power_of_ten-power.ensures, ten_pos (c.args.down - c.args.up))

pub nonzero_rem-result : goal.nonzero_rem-result
nonzero_rem-result c = omega (arith, c.power_of_ten-power.ensures, ten_pos (c.args.down - c.args.up))

pub nonzero_div-result : goal.nonzero_div-result
nonzero_div-result c = omega (arith, c.power_of_ten-power.ensures, ten_pos (c.args.down - c.args.up))

pub overflow_mul-result-then-up-down : goal.overflow_mul-result-then-up-down
overflow_mul-result-then-up-down c =
    let some = ten_pos (c.args.down - c.args.up) in
    let top = ten_le (c.args.down - c.args.up) 15 c.if-by-gt-MOST_SHIFT.false in
    let low : c.args.m % c.power_of_ten-power.result < c.power_of_ten-power.result = omega (arith, c.power_of_ten-power.ensures, some) in
    omega (arith, c.power_of_ten-power.ensures, top, low)

pub returns-else-whole-gt-MOST_WHOLE : goal.returns-else-whole-gt-MOST_WHOLE
returns-else-whole-gt-MOST_WHOLE c = short_down c.args.m c.args.up c.args.down c.power_of_ten-power.result (omega arith) c.power_of_ten-power.ensures

pub returns-else-whole-gt-MOST_WHOLE-2 : goal.returns-else-whole-gt-MOST_WHOLE-2
returns-else-whole-gt-MOST_WHOLE-2 c = short_up c.args.m c.args.up c.args.down c.power_of_ten.result c.in_ok-whole.whole (omega arith) c.power_of_ten.ensures c.in_ok-whole.ensures.1
