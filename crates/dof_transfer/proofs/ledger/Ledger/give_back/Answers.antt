use Rattle.std.proofs.Common.{◌≡◌, ap, ◌∙◌, sym, subst, ℕ, ℤ, pos, Option, unwrap_or, option_map, w64, rules}
use Rattle.std.proofs.lemmas.Int.{to_z-of_z}
use Rattle.name_tree.specs.declared.nodes.Entry.{Entry}
use Rattle.dof_transfer.specs.Held.{IsSound, cleared, given_back}
use Rattle.dof_transfer.specs.Ledgers.{held_of}
use Rattle.name_tree.proofs.LiveNames.{get-live}
use Rattle.dof_transfer.proofs.Soundness.{sound-given_back}
use Rattle.dof_transfer.proofs.ledger.Ledger.give_back.Goals as goal

-- what stands in the slot is what the name has
abbrev index_in : Option Entry → Option ℕ
index_in o = option_map (λ (e : Entry). e.index) o

abbrev value_at : Option Entry → ℤ
value_at o = unwrap_or (option_map (λ (e : Entry). e.value) o) (pos 0)

pub returns-in_default-clause-value : goal.returns-in_default-clause-value
returns-in_default-clause-value c = ap value_at (c.in_default.ensures.value ∙ sym (get-live c.args.self.now.entries c.args.name))

none_held : (c : goal.In_default) → held_of (record { entries = c.take_out.new.self; admin = c.args.self.now.admin }) ≡ given_back (held_of c.args.self.now) c.args.name
none_held c =
    let none = get-live c.args.self.now.entries c.args.name ∙ sym c.in_default.ensures.value in
    let flags = ap (λ (o : Option Entry). cleared c.args.self.now.admin.flags (index_in o)) (sym none) in
    λ i. record { live = c.take_out.ensures.live i; flags = flags i }

pub returns-in_default-clause-held : goal.returns-in_default-clause-held
returns-in_default-clause-held c = none_held c

pub returns-in_default-clause-sound : goal.returns-in_default-clause-sound
returns-in_default-clause-sound c = subst IsSound (sym (none_held c)) (sound-given_back (held_of c.args.self.now) c.args.name c.requires)

pub free-requires : goal.free-requires
free-requires c = c.requires.used c.args.name c.in-Some.entry.index (ap index_in (get-live c.args.self.now.entries c.args.name ∙ sym c.in-Some.ensures.value))

pub returns-clause-value : goal.returns-clause-value
returns-clause-value c =
    to_z-of_z w64 c.in-Some.entry.value (search rules)
    ∙ ap value_at (c.in-Some.ensures.value ∙ sym (get-live c.args.self.now.entries c.args.name))

held : (c : goal.After-struct_told-1) → held_of (record { entries = c.take_out.new.self; admin = c.free.new.self }) ≡ given_back (held_of c.args.self.now) c.args.name
held c =
    let index = ap index_in (get-live c.args.self.now.entries c.args.name ∙ sym c.in-Some.ensures.value) in
    let flags = c.free.ensures.flags ∙ ap (cleared c.args.self.now.admin.flags) (sym index) in
    λ i. record { live = c.take_out.ensures.live i; flags = flags i }

pub returns-clause-held : goal.returns-clause-held
returns-clause-held c = held c

pub returns-clause-sound : goal.returns-clause-sound
returns-clause-sound c = subst IsSound (sym (held c)) (sound-given_back (held_of c.args.self.now) c.args.name c.requires)
