use Rattle.std.proofs.Common.{◌≡◌, ◌-◌, ◌/◌, ◌^◌, ◌<◌, ℕ, arith, sym, ap, ◌∙◌, subst}
use Rattle.mesh_names.specs.Names.{bits_of, depth, letters}
use Rattle.name_tree.proofs.FirstLetters.{first-bits-below, first-letters}
use Rattle.name_tree.proofs.letters.first_letters.Goals as goal

pub of_bits-requires : goal.of_bits-requires
of_bits-requires c = (c.root.ensures.small, omega (arith, c.depth.ensures), subst (λ (x : ℕ). x < 2 ^ c.args.letters) (sym (λ i. c.bits.ensures.bits i / 2 ^ (c.depth.ensures.depth i - c.args.letters))) (first-bits-below c.args.name c.args.letters c.requires))

pub returns : goal.returns
returns c =
    let bits : c.bits.result / 2 ^ (c.depth.result - c.args.letters) ≡ bits_of c.args.name.1 / 2 ^ (depth c.args.name - c.args.letters) = λ i. c.bits.ensures.bits i / 2 ^ (c.depth.ensures.depth i - c.args.letters) in
    c.of_bits.ensures ∙ (λ i. (c.root.ensures.root i, (ap (letters c.args.letters) bits ∙ first-letters c.args.name c.args.letters c.requires) i))
