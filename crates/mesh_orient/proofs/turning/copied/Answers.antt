use Rattle.std.proofs.Common.{◌∙◌}
use Rattle.mesh_orient.proofs.Turned.{not_turned}
use Rattle.mesh_orient.proofs.turning.copied.Goals as goal

pub returns-clause-same : goal.returns-clause-same
returns-clause-same c = c.in_ok-made.ensures ∙ not_turned c.args.text.now
