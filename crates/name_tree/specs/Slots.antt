-- Slots by name, and what stands in them.
use Rattle.std.specs.Prelude.{option_map, slice_index_or, ℕ, ℤ, unwrap_or, Option, Some, None, List, [], ◌∷◌, refl}
use Rattle.std.specs.Coded.{Coded, code_by, coded×, coded_ℕ, coded_ℤ, coded_option, coded_list, coded_bool}
use Rattle.std.specs.FinMap.{FinMap, code, entries, from_entries, get}
use Rattle.mesh_names.specs.Names.{Name, name_cmp}
use Rattle.name_tree.specs.declared.nodes.Entry.{Entry}

-- an index and a value, or nothing
abbrev pub Slot : Type 0
Slot = Option Entry

abbrev pub Slots : Type 0
Slots = FinMap name_cmp Slot

-- an entry is stored as the pair of its parts
abbrev pub entry_code : Coded Entry
entry_code = code_by (ℕ × ℤ) (coded× coded_ℕ coded_ℤ) (λ e. (e.index, e.value)) (λ p. record { index = p.0; value = p.1 }) (λ _. refl)

abbrev pub slots_code : Coded Slots
slots_code = code (coded× coded_ℕ (coded_list coded_bool)) (coded_option entry_code)

-- what stands in the slot of a name
abbrev pub live_at : Slots → Name → Option Entry
live_at slots n = unwrap_or (get slots n) None

-- the names whose slots are not empty, with what stands there
abbrev pub live_list : List (Name × Slot) → List (Name × Entry)
live_list [] = []
live_list ((n, None) ∷ slots) = live_list slots
live_list ((n, Some e) ∷ slots) = (n, e) ∷ live_list slots

unfoldable pub live_of : Slots → FinMap name_cmp Entry
live_of slots = from_entries (live_list (entries slots))

-- an entry with the new index that stands at the place of the old one
abbrev pub moved_entry : List ℕ → Entry → Entry
moved_entry moved e = record { index = slice_index_or moved e.index e.index; value = e.value }

abbrev pub moved_slot : List ℕ → Slot → Slot
moved_slot moved slot = option_map (moved_entry moved) slot
