use Rattle.std.proofs.Common.{◌≡◌, ap, ◌∙◌, sym, subst, ℤ, Option, Some, option_map, is_some, true≢false, w64}
use Rattle.std.proofs.lemmas.Int.{to_z-of_z}
use Rattle.std.specs.FinMap.{FinMap, insert, insert as put_in}
use Rattle.mesh_names.specs.Names.{name_cmp}
use Rattle.name_tree.specs.declared.nodes.Entry.{Entry}
use Rattle.name_tree.specs.Slots.{live_of}
use Rattle.dof_transfer.specs.Held.{IsSound, SetsValue}
use Rattle.dof_transfer.specs.Ledgers.{held_of}
use Rattle.name_tree.proofs.LiveNames.{get-live, live-put}
use Rattle.dof_transfer.proofs.Soundness.{sets_value, sound-set}
use Rattle.dof_transfer.proofs.ledger.Ledger.set.Goals as goal

set : (c : goal.After-put) → insert (live_of c.args.self.now.entries) c.args.name (record { index = c.in-Some.entry.index; value = c.args.value }) ≡ live_of c.put.new.self
set c =
    sym (ap live_of c.put.ensures
    ∙ ap (λ (v : ℤ). live_of (put_in c.args.self.now.entries c.args.name (Some (record { index = c.in-Some.entry.index; value = v })))) (to_z-of_z w64 c.args.value c.ranges.value)
    ∙ live-put c.args.self.now.entries c.args.name (record { index = c.in-Some.entry.index; value = c.args.value }))

pub returns-in-Some-clause-set : goal.returns-in-Some-clause-set
returns-in-Some-clause-set c =
    let has = get-live c.args.self.now.entries c.args.name ∙ sym c.in-Some.ensures in
    subst (λ (l : FinMap name_cmp Entry). SetsValue (held_of c.args.self.now) (record { live = l; flags = c.args.self.now.admin.flags }) c.args.name c.args.value) (set c) (sets_value (held_of c.args.self.now) c.args.name c.in-Some.entry c.args.value has)

pub returns-in-Some-clause-sound : goal.returns-in-Some-clause-sound
returns-in-Some-clause-sound c =
    let has = get-live c.args.self.now.entries c.args.name ∙ sym c.in-Some.ensures in
    subst (λ (l : FinMap name_cmp Entry). IsSound (record { live = l; flags = c.args.self.now.admin.flags })) (set c) (sound-set (held_of c.args.self.now) c.args.name c.in-Some.entry c.args.value has c.requires.sound)

pub returns-in_default-clause-set : goal.returns-in_default-clause-set
returns-in_default-clause-set c =
    let none = get-live c.args.self.now.entries c.args.name ∙ sym c.in_default.ensures in
    absurd (true≢false (sym c.requires.live ∙ ap (λ (o : Option Entry). is_some (option_map (λ (e : Entry). e.value) o)) none))
