use Rattle.std.proofs.Common.{sym, ap, ◌∙◌, length}
use Rattle.mesh_names.specs.Letters.{length-letters}
use Rattle.mesh_names.proofs.name.ElemName.depth.Goals as goal

pub returns-clause-depth : goal.returns-clause-depth
returns-clause-depth c = sym (length-letters c.self.inside.level c.self.inside.bits) ∙ ap (λ n. length n.1) c.self.view_is
