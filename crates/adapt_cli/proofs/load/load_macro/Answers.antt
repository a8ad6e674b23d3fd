use Rattle.std.proofs.Common.{inr}
use Rattle.adapt_cli.specs.InputFiles.{AcceptsMacro, AcceptsText, RefusesMacro, TellsCheck}
use Rattle.adapt_cli.proofs.Loading.{given-refused, gives-more}
use Rattle.adapt_cli.proofs.load.load_macro.Goals as goal

pub returns-in-Ok-macro_mesh-clause-ok : goal.returns-in-Ok-macro_mesh-clause-ok
returns-in-Ok-macro_mesh-clause-ok g c =
    gives-more (λ bytes. AcceptsText bytes c.in-Ok.text) (λ bytes. AcceptsMacro bytes c.in-Ok-macro_mesh.mesh) (λ bytes h. (c.in-Ok.text, h, c.in-Ok-macro_mesh.ensures.ok)) c.args.name.now (g.S.Shelf.files c.args.shelf.now) (g.S.Shelf.faults c.args.shelf.now) (g.S.Shelf.faults c.load_text.new.shelf) c.in-Ok.ensures.ok

pub returns-in-Err-macro_mesh-clause-stopped : goal.returns-in-Err-macro_mesh-clause-stopped
returns-in-Err-macro_mesh-clause-stopped g c =
    given-refused c.args.name.now 3 (g.S.Shelf.files c.args.shelf.now) (g.S.Shelf.steady c.args.shelf.now) (g.S.Shelf.faults c.args.shelf.now) (g.S.Shelf.faults c.load_text.new.shelf) (λ bytes. AcceptsText bytes c.in-Ok.text) (TellsCheck c.in-Ok.text) RefusesMacro (λ bytes line a t. inr (c.in-Ok.text, a, t)) c.in-Ok.ensures.ok c.in-Err-macro_mesh.stop c.in-Err-macro_mesh.ensures.stopped
