use Rattle.std.proofs.Common.{◌≡◌, ap, sym, subst, Some, option_map}
use Rattle.name_tree.specs.declared.nodes.Entry.{Entry}
use Rattle.dof_transfer.specs.Held.{Held, index_of}
use Rattle.dof_transfer.proofs.elements.ElementValues.index.Goals as goal

pub returns-in-Some-clause-apart : goal.returns-in-Some-clause-apart
returns-in-Some-clause-apart c = λ m h. c.self.invariant.0.apart m c.args.name c.in-Some.entry.index
    (subst (λ (held : Held). index_of held m ≡ Some c.in-Some.entry.index) (sym c.self.view_is) h)
    (ap (option_map (λ (e : Entry). e.index)) (sym c.in-Some.ensures))
