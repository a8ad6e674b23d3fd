-- Slots in the order in which they first appear, and their numbers.
use Rattle.std.specs.Prelude.{◌≡◌, ◌<◌, ℕ, zero, suc, ◌+◌, cond, eqb, List, [], ◌∷◌, ◌++◌, length, Option, Some, None, slice_index_or}
use Rattle.std.specs.Option.{is_some, option_map, unwrap_or}
use Rattle.mesh_writer.specs.Slots.{slot_at}
use Rattle.mesh_writer.specs.declared.order.Order.{Order}

-- how many of these slots stand before the slot; none where it is not among them
abbrev pub place_in : ℕ → List ℕ → Option ℕ
place_in s [] = None
place_in s (u ∷ us) = cond (eqb s u) (Some 0) (option_map (λ k. k + 1) (place_in s us))

-- its number, which is 0 too where it is not among them
abbrev pub number_in : ℕ → List ℕ → ℕ
number_in s us = unwrap_or (place_in s us) 0

-- the first slots, so many
abbrev pub first_slots : ℕ → List ℕ
first_slots zero = []
first_slots (suc k) = first_slots k ++ k ∷ []

-- what was seen, and then each further slot once, where it stands first
abbrev pub with_slots : List ℕ → List ℕ → List ℕ
with_slots seen [] = seen
with_slots seen (s ∷ ss) = with_slots (cond (is_some (place_in s seen)) seen (seen ++ s ∷ [])) ss

-- the slots of the corners, three by three
abbrev pub slots_of : List (List ℕ) → List ℕ
slots_of [] = []
slots_of (t ∷ ts) = slot_at t 0 ∷ slot_at t 1 ∷ slot_at t 2 ∷ slots_of ts

-- the numbers of three slots
abbrev pub numbered : List ℕ → List ℕ → List ℕ
numbered order t = number_in (slot_at t 0) order ∷ number_in (slot_at t 1) order ∷ number_in (slot_at t 2) order ∷ []

-- the three slots are below n
abbrev pub AreBelow : ℕ → List ℕ → Type 0
AreBelow n t = (slot_at t 0 < n) × (slot_at t 1 < n) × (slot_at t 2 < n)

-- each slot is told its place
abbrev pub IsOrder : Order → Type 0
IsOrder order = (s : ℕ) → s < length order.numbers.items → slice_index_or order.numbers.items s None ≡ place_in s order.slots.items
