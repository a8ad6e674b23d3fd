use Rattle.std.proofs.Common.{ℤ, Some, ap, ◌∙◌, w64, rules}
use Rattle.std.proofs.lemmas.Int.{to_z-of_z}
use Rattle.mesh_rounds.proofs.Taking.{leaf-takes}
use Rattle.mesh_rounds.proofs.setting.set_leaf.Goals as goal

pub returns : goal.returns
returns c = leaf-takes c.args.elements.now c.set_element.new.self c.args.leaf c.args.number c.requires.live (record { value = c.set_element.ensures.value ∙ ap (λ (z : ℤ). Some z) (to_z-of_z w64 c.args.number (search rules)); index = c.set_element.ensures.index; others = c.set_element.ensures.others; flags = c.set_element.ensures.flags })
