use Rattle.std.proofs.Common.{◌-◌, ◌∙◌, sym, ap, length}
use Rattle.std.specs.Option.{option_copied}
use Rattle.std.specs.Prelude.{slice_get}
use Rattle.mesh_names.specs.Names.{name_cmp}
use Rattle.mesh_writer.proofs.OwnerLists.{less_from_test, newest}
use Rattle.mesh_writer.proofs.owners.Owners.is_newest.Goals as goal

pub returns-in-Some : goal.returns-in-Some
returns-in-Some c = λ sorted test.
    let es = c.args.self.now.in_order.items in
    let last = c.in-Some.entry.now in
    newest es c.args.name last sorted
    ((λ i. slice_get (sym c.deref.ensures.value i) (length (sym c.deref.ensures.value i) - 1)) ∙ sym c.last.ensures.value ∙ ap option_copied c.in-Some.is)
    (less_from_test (name_cmp last.0 c.args.name) (sym c.lt.ensures ∙ test))
