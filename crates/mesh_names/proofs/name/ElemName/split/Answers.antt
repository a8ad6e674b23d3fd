use Rattle.std.proofs.Common.{sym, ◌∙◌, ◌<◌, arith}
use Rattle.mesh_names.specs.Letters.{letters-split}
use Rattle.mesh_names.proofs.name.ElemName.split.Goals as goal

pub returns : goal.returns
returns c =
    let above : 0 < c.self.inside.level = omega arith in
    sym c.self.view_is ∙ (λ i. (c.self.inside.root, letters-split c.self.inside.level c.self.inside.bits above i))
