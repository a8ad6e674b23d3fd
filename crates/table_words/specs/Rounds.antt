-- The ROUND word as a number.
use Rattle.std.specs.Prelude.{◌≡◌, ℕ, ◌+◌, ◌*◌, ◌/◌, ◌%◌, ◌^◌, ◌<◌}
use Rattle.table_words.specs.declared.round_word.RoundPins.{RoundPins}

-- the round in the upper 32 bits, the pins in the lower
abbrev pub round_word : RoundPins → ℕ
round_word r = r.finished * 4294967296 + r.taken

-- what a word spells
abbrev pub round_of : ℕ → RoundPins
round_of n = record { finished = n / 4294967296; taken = n % 4294967296 }

-- the law that a round and its pins are read from their word
abbrev pub RoundsRead : Type 0
RoundsRead = (r : RoundPins) → r.taken < 2 ^ 32 → round_of (round_word r) ≡ r

-- the law that each word is that of what it spells
abbrev pub RoundsSpell : Type 0
RoundsSpell = (n : ℕ) → round_word (round_of n) ≡ n
