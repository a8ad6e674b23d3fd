use Rattle.std.proofs.Common.{◌∙◌, ◌<◌, length, rules, sym}
use Rattle.mesh_names.proofs.Sets.{tied-same}
use Rattle.mesh_writer.proofs.Walking.{named_at}
use Rattle.mesh_writer.proofs.walk.Walk.known.Goals as goal

pub returns-then-eq : goal.returns-then-eq
returns-then-eq c =
    let low : c.from-depth.result < length c.args.self.now.last.items = search rules in
    named_at c.args.self.now c.args.name c.from-depth.result c.index.result.now low c.index.ensures (tied-same c.index.result.now.name c.args.name (sym c.eq.ensures ∙ c.if-eq.true))
