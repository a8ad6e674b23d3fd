use Rattle.std.proofs.Common.{◌≡◌, ◌+◌, ◌-◌, ◌∙◌, sym, ap, take, drop, arith}
use Rattle.std.specs.List.{list_any}
use Rattle.macro_file.specs.Walks.{ends_key}
use Rattle.macro_file.proofs.Cuts.{any_piece}
use Rattle.macro_file.proofs.lines.plain_length.Goals as goal

pub loop-at-preserved : goal.loop-at-preserved
loop-at-preserved c =
    let at = c.loop-at.at in
    let sixteen : at + 16 - at ≡ 16 = omega arith in
    record {
      plain = any_piece ends_key c.args.bytes.now at 16 c.loop-at.invariant.plain (ap (λ n. list_any ends_key (take n (drop at c.args.bytes.now))) (sym sixteen) ∙ sym c.has_key_end.ensures ∙ c.if-not-has_key_end.true);
      within = omega arith;
    }
