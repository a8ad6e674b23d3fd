use Rattle.std.proofs.Common.{arith}
use Rattle.adapt_words.specs.Mending.{mend_said}
use Rattle.adapt_cli.specs.InputFiles.{AcceptsText, RefusesText}
use Rattle.adapt_cli.specs.Loads.{AsksOnce}
use Rattle.adapt_cli.specs.Mending.{MendsTo}
use Rattle.adapt_cli.specs.declared.fault.FileStop.TheVariants.{Stopped}
use Rattle.adapt_cli.proofs.FilesInTurn.{asks_none, ends-stops, ends-text, then-stops, then-text}
use Rattle.adapt_cli.proofs.mending.mend_text.Goals as goal

pub returns-in-Ok-mended_file-clause-ok : goal.returns-in-Ok-mended_file-clause-ok
returns-in-Ok-mended_file-clause-ok g c =
    then-text (mend_said c.args.mend.now).macro_file 3 (omega arith) (omega arith) RefusesText AcceptsText (λ text told. MendsTo text) (g.S.Shelf.files c.args.shelf.now) (AsksOnce (mend_said c.args.mend.now).macro_file) (λ n e. e) (g.S.Shelf.steady c.args.shelf.now) (g.S.Shelf.faults c.args.shelf.now) c.in-Ok.text (g.S.Shelf.faults c.load_text.new.shelf) (g.S.Shelf.files c.load_text.new.shelf) c.in-Ok.ensures.same (g.S.Shelf.steady c.load_text.new.shelf) c.in-Ok.ensures.stays c.in-Ok.ensures.ok (g.S.Shelf.faults c.load_text.new.shelf) c.in-Ok-mended_file.bytes.items
    (ends-text (MendsTo c.in-Ok.text) (g.S.Shelf.files c.load_text.new.shelf) (g.S.Shelf.faults c.load_text.new.shelf) c.in-Ok-mended_file.bytes.items c.in-Ok-mended_file.ensures.ok)

pub returns-clause-stopped : goal.returns-clause-stopped
returns-clause-stopped g c =
    then-stops (mend_said c.args.mend.now).macro_file 3 (omega arith) (omega arith) RefusesText AcceptsText (λ text told. MendsTo text) (g.S.Shelf.files c.args.shelf.now) (AsksOnce (mend_said c.args.mend.now).macro_file) (λ n e. e) (g.S.Shelf.steady c.args.shelf.now) (g.S.Shelf.faults c.args.shelf.now) c.in-Ok.text (g.S.Shelf.faults c.load_text.new.shelf) (g.S.Shelf.files c.load_text.new.shelf) c.in-Ok.ensures.same (g.S.Shelf.steady c.load_text.new.shelf) c.in-Ok.ensures.stays c.in-Ok.ensures.ok asks_none (λ n a x. absurd x) (g.S.Shelf.faults c.load_text.new.shelf) (Stopped c.in-Err-mended_file.stop)
    (ends-stops (MendsTo c.in-Ok.text) asks_none (λ fault h. (omega (arith, h.0), omega (arith, h.0))) (g.S.Shelf.files c.load_text.new.shelf) (g.S.Shelf.steady c.load_text.new.shelf) (g.S.Shelf.faults c.load_text.new.shelf) c.in-Err-mended_file.stop c.in-Err-mended_file.ensures.stopped)
