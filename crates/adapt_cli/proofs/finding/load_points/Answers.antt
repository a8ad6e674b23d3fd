use Rattle.std.proofs.Common.{List, ℕ, subst, sym}
use Rattle.adapt_cli.specs.Finding.{AcceptsPoints, points_limit}
use Rattle.adapt_cli.specs.Stops.{GivesBytes}
use Rattle.adapt_cli.proofs.Loading.{gives-more}
use Rattle.adapt_cli.proofs.finding.load_points.Goals as goal

pub returns-in-Ok-points_of-clause-ok : goal.returns-in-Ok-points_of-clause-ok
returns-in-Ok-points_of-clause-ok g c =
    let points = c.in-Ok-points_of.points.items in
    let given = c.in-Ok.bytes.items in
    let read : AcceptsPoints given points = subst (λ (l : List ℕ). AcceptsPoints l points) c.deref.ensures.value c.in-Ok-points_of.ensures.ok in
    gives-more (GivesBytes given points_limit) (λ bytes. AcceptsPoints bytes points) (λ bytes h. subst (λ (l : List ℕ). AcceptsPoints l points) (sym h.0) read) c.args.name.now (g.S.Shelf.files c.args.shelf.now) (g.S.Shelf.faults c.args.shelf.now) (g.S.Shelf.faults c.load_bytes.new.shelf) c.in-Ok.ensures.ok
