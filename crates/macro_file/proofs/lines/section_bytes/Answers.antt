use Rattle.std.proofs.Common.{◌+◌, ◌<◌, arith, length}
use Rattle.std.proofs.lemmas.List.{take_rest}
use Rattle.macro_file.proofs.LineLemmas.{after-last, section_found}
use Rattle.macro_file.proofs.lines.section_bytes.Goals as goal

pub returns-then-newline-bytes-clause-parts : goal.returns-then-newline-bytes-clause-parts
returns-then-newline-bytes-clause-parts c = after-last c.args.line c.to_newline-newline.result c.args.bytes.now c.to_newline-newline.ensures.value c.if-newline-bytes.true

pub returns-clause-parts : goal.returns-clause-parts
returns-clause-parts c =
    let less : c.to_newline-newline.result < length c.args.bytes.now = omega (arith, c.to_newline-newline.ensures.within, c.if-newline-bytes.false) in
    section_found c.args.line c.to_newline-newline.result c.args.bytes.now _ c.next_key.result.0.now _ c.to_newline-newline.ensures.value less (take_rest c.args.bytes.now (c.to_newline-newline.result + 1)) c.next_key.ensures.parts c.next_key.ensures.front
