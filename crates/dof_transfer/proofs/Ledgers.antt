-- A ledger whose slots change.
use Rattle.std.proofs.Common.{◌≡◌, Bool, true, false, cond, refl, ap, sym, ◌∙◌, Option, Some, None, is_some, true≢false, unwrap_or}
use Rattle.std.specs.Ordering.{eq_by_cmp}
use Rattle.std.specs.FinMap.{get, insert, contains_key, get-insert}
use Rattle.mesh_names.specs.Names.{Name, name_cmp}
use Rattle.mesh_names.specs.Order.{name_cmp_total}
use Rattle.mesh_names.proofs.Sets.{same-tied}
use Rattle.name_tree.specs.declared.nodes.Entry.{Entry}
use Rattle.name_tree.specs.Slots.{Slot, Slots, live_at}

pub kept-insert : (s : Slots) (n q : Name) (v : Slot) → contains_key s q ≡ true → contains_key (insert s n v) q ≡ true
kept-insert s n q v h = ap is_some (get-insert name_cmp_total s n v q) ∙ either (eq_by_cmp name_cmp q n) (get s q) h where
  either : (b : Bool) (o : Option Slot) → is_some o ≡ true → is_some (cond b (Some v) o) ≡ true
  either true o h = refl
  either false o h = h

pub there-insert : (s : Slots) (n : Name) (v : Slot) → contains_key (insert s n v) n ≡ true
there-insert s n v = ap is_some (get-insert name_cmp_total s n v n) ∙ ap (λ (b : Bool). is_some (cond b (Some v) (get s n))) (same-tied n n refl)

-- a live name has a slot
pub there-live : (s : Slots) (n : Name) (e : Entry) → live_at s n ≡ Some e → contains_key s n ≡ true
there-live s n e h = some_slot (get s n) h where
  some_slot : (o : Option Slot) → unwrap_or o None ≡ Some e → is_some o ≡ true
  some_slot None h = absurd (true≢false (sym (ap is_some h)))
  some_slot (Some v) h = refl
