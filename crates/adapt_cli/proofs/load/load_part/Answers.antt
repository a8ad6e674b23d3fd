use Rattle.std.proofs.Common.{List, ℕ, subst, sym}
use Rattle.adapt_cli.specs.InputFiles.{AcceptsMacro, macro_limit}
use Rattle.adapt_cli.specs.Restarts.{AcceptsPart}
use Rattle.adapt_cli.specs.Stops.{GivesBytes}
use Rattle.adapt_cli.proofs.Loading.{gives-more}
use Rattle.adapt_cli.proofs.load.load_part.Goals as goal

pub returns-in-Ok-part_mesh-clause-ok : goal.returns-in-Ok-part_mesh-clause-ok
returns-in-Ok-part_mesh-clause-ok g c =
    let mesh = c.in-Ok-part_mesh.mesh in
    let given = c.in-Ok.bytes.items in
    let part : AcceptsMacro given mesh = subst (λ (l : List ℕ). AcceptsMacro l mesh) c.deref.ensures.value c.in-Ok-part_mesh.ensures.ok in
    gives-more (GivesBytes given macro_limit) (λ bytes. AcceptsPart bytes (given, mesh)) (λ bytes h. (h.0, subst (λ (l : List ℕ). AcceptsMacro l mesh) (sym h.0) part)) c.args.name.now (g.S.Shelf.files c.args.shelf.now) (g.S.Shelf.faults c.args.shelf.now) (g.S.Shelf.faults c.load_bytes.new.shelf) c.in-Ok.ensures.ok

pub returns-in-Ok-part_mesh-clause-part : goal.returns-in-Ok-part_mesh-clause-part
returns-in-Ok-part_mesh-clause-part g c = subst (λ (l : List ℕ). AcceptsMacro l c.in-Ok-part_mesh.mesh) c.deref.ensures.value c.in-Ok-part_mesh.ensures.ok
