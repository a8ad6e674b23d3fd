use Rattle.std.proofs.Common.{◌≡◌, ℕ, ◌^◌, ◌<◌, length, sym, ap, ◌∙◌, subst}
use Rattle.mesh_names.specs.Names.{depth, bits_of}
use Rattle.mesh_names.specs.Letters.{length-letters, bits-letters}
use Rattle.mesh_names.proofs.name.ElemName.bits.Goals as goal

pub returns-clause-bits : goal.returns-clause-bits
returns-clause-bits c = sym (bits-letters c.self.inside.level c.self.inside.bits c.self.invariant.2) ∙ ap (λ n. bits_of n.1) c.self.view_is

pub returns-clause-small : goal.returns-clause-small
returns-clause-small c =
    let long : c.self.inside.level ≡ depth c.args.self = sym (length-letters c.self.inside.level c.self.inside.bits) ∙ ap (λ n. length n.1) c.self.view_is in
    subst (λ (k : ℕ). c.self.inside.bits < 2 ^ k) long c.self.invariant.2
