use Rattle.std.proofs.Common.{◌≡◌, ap, ◌∙◌, sym, subst, ℕ, ℤ, Some, w64}
use Rattle.std.proofs.lemmas.Int.{to_z-of_z}
use Rattle.std.specs.FinMap.{contains_key, insert, insert as put_in}
use Rattle.dof_admin.specs.Administration.{with_used}
use Rattle.name_tree.specs.Slots.{Slots, live_of}
use Rattle.dof_transfer.specs.Held.{IsSound, taken}
use Rattle.dof_transfer.specs.Ledgers.{held_of}
use Rattle.name_tree.proofs.LiveNames.{live-put}
use Rattle.dof_transfer.proofs.Soundness.{least_is, sound-taken}
use Rattle.dof_transfer.proofs.Ledgers.{kept-insert}
use Rattle.dof_transfer.proofs.ledger.Ledger.take.Goals as goal

held : (c : goal.After-put) → held_of (record { entries = c.put.new.self; admin = c.get-index.new.self }) ≡ taken (held_of c.args.self.now) c.args.name c.args.value
held c =
    let index = sym (least_is c.args.self.now.admin.flags c.get-index.result c.get-index.ensures.least) in
    let same = to_z-of_z w64 c.args.value c.ranges.value in
    let live = ap live_of c.put.ensures ∙ ap (λ (v : ℤ). live_of (put_in c.args.self.now.entries c.args.name (Some (record { index = c.get-index.result; value = v })))) same ∙ live-put c.args.self.now.entries c.args.name (record { index = c.get-index.result; value = c.args.value }) ∙ ap (λ (i : ℕ). insert (live_of c.args.self.now.entries) c.args.name (record { index = i; value = c.args.value })) index in
    let flags = c.get-index.ensures.flags ∙ ap (with_used c.args.self.now.admin.flags) index in
    λ i. record { live = live i; flags = flags i }

pub returns-clause-held : goal.returns-clause-held
returns-clause-held c = held c

pub returns-clause-sound : goal.returns-clause-sound
returns-clause-sound c = subst IsSound (sym (held c)) (sound-taken (held_of c.args.self.now) c.args.name c.args.value c.requires.sound)

pub returns-clause-kept : goal.returns-clause-kept
returns-clause-kept c = λ n there. ap (λ (s : Slots). contains_key s n) c.put.ensures ∙ kept-insert c.args.self.now.entries c.args.name n _ there
