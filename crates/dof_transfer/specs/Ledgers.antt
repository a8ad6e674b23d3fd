-- A ledger, as contracts see it.
use Rattle.std.specs.Prelude.{◌≡◌, false, true}
use Rattle.std.specs.FinMap.{contains_key}
use Rattle.mesh_names.specs.Names.{Name}
use Rattle.name_tree.specs.Slots.{live_of}
use Rattle.dof_transfer.specs.Held.{Held}
use Rattle.dof_transfer.specs.Exchanges.{child}
use Rattle.dof_transfer.specs.declared.ledger.Ledger.{Ledger}

-- what stands in the slots, and which indices are used
abbrev pub held_of : Ledger → Held
held_of ledger = record { live = live_of ledger.entries; flags = ledger.admin.flags }

-- the names that have slots keep them
abbrev pub KeepsReady : Ledger → Ledger → Type 0
KeepsReady old new = (n : Name) → contains_key old.entries n ≡ true → contains_key new.entries n ≡ true

-- the children of a name have slots
pub record HasRoomBelow (ledger : Ledger) (n : Name) : Type 0 where
  pub zero : contains_key ledger.entries (child false n) ≡ true
  pub one : contains_key ledger.entries (child true n) ≡ true

-- the name has a slot
abbrev pub HasRoom : Ledger → Name → Type 0
HasRoom ledger n = contains_key ledger.entries n ≡ true
