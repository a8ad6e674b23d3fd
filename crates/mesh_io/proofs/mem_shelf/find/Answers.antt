use Rattle.std.proofs.Common.{rules, ◌∙◌, sym, ap, arith, Some}
use Rattle.mesh_io.proofs.Finding.{get-files, found-here, found-later, found-none}
use Rattle.mesh_io.proofs.mem_shelf.find.Goals as goal

pub returns-then-eq : goal.returns-then-eq
returns-then-eq c = ap Some c.as_slice.ensures.value ∙ sym (get-files c.args.name.now c.args.files.now ∙ c.loop-file.invariant ∙ found-here c.args.name.now c.args.files.now c.loop-file.file-index c.file-item.result (omega arith) c.file-item.is (search rules))

pub loop-file-preserved : goal.loop-file-preserved
loop-file-preserved c = c.loop-file.invariant ∙ found-later c.args.name.now c.args.files.now c.loop-file.file-index c.file-item.result (omega arith) c.file-item.is (search rules)

pub returns : goal.returns
returns c = sym (get-files c.args.name.now c.args.files.now ∙ c.loop-file.invariant ∙ found-none c.args.name.now c.args.files.now c.loop-file.file-index (omega arith))
