use Rattle.std.proofs.Common.{◌≡◌, ◌-◌, ◌+◌, ◌<◌, ◌∙◌, sym, ap, arith, length, take, drop}
use Rattle.std.proofs.lemmas.List.{take_rest, length-drop}
use Rattle.macro_file.specs.Walks.{at_colon}
use Rattle.macro_file.proofs.LineLemmas.{found, none_found, read_line, newline_at}
use Rattle.macro_file.proofs.lines.next_key.Goals as goal

pub returns-then-at_colon-clause-parts : goal.returns-then-at_colon-clause-parts
returns-then-at_colon-clause-parts c =
    let bytes = c.args.bytes.now in let at = c.loop-rest.at in let end = c.key_length-end.result in
    let rest = take (length bytes - at) (drop at bytes) in
    found c.args.line c.loop-rest.here at end bytes rest _ c.loop-rest.invariant.read (take_rest bytes at) c.key_length-end.ensures.value
    (ap at_colon (sym (take_rest rest end)) ∙ sym c.at_colon.ensures.colon ∙ c.if-at_colon.true) (take_rest rest (end + 1))

pub returns-then-newline-rest-clause-parts : goal.returns-then-newline-rest-clause-parts
returns-then-newline-rest-clause-parts c =
    let bytes = c.args.bytes.now in let at = c.loop-rest.at in let end = c.key_length-end.result in
    let rest = take (length bytes - at) (drop at bytes) in
    none_found c.args.line c.loop-rest.here at end c.to_newline.result bytes rest c.loop-rest.invariant.read (take_rest bytes at) c.key_length-end.ensures.value
    (ap at_colon (sym (take_rest rest end)) ∙ sym c.at_colon.ensures.colon ∙ c.if-at_colon.false) (c.to_newline.ensures.value ∙ ap newline_at (take_rest rest end)) c.if-newline-rest.true

pub loop-rest-preserved : goal.loop-rest-preserved
loop-rest-preserved c =
    let bytes = c.args.bytes.now in let at = c.loop-rest.at in let end = c.key_length-end.result in
    let rest = take (length bytes - at) (drop at bytes) in
    let size : length rest ≡ length bytes - at = ap length (take_rest bytes at) ∙ length-drop at bytes in
    let part : length (take (length rest - end) (drop end rest)) ≡ length rest - end = ap length (take_rest rest end) ∙ length-drop end rest in
    let less : end + c.to_newline.result < length rest = omega (arith, c.to_newline.ensures.within, part, c.if-newline-rest.false, c.key_length-end.ensures.within) in
    record {
      read = read_line c.args.line c.loop-rest.here at end c.to_newline.result bytes rest c.loop-rest.invariant.read c.loop-rest.invariant.within (take_rest bytes at) c.key_length-end.ensures.value
          (ap at_colon (sym (take_rest rest end)) ∙ sym c.at_colon.ensures.colon ∙ c.if-at_colon.false) (c.to_newline.ensures.value ∙ ap newline_at (take_rest rest end)) less;
      within = omega (arith, less, size, c.loop-rest.invariant.within);
      counted = omega (arith, c.loop-rest.invariant.counted);
    }
