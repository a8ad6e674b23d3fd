-- NAME words as numbers.
use Rattle.std.specs.Prelude.{◌≡◌, ℕ, ◌+◌, ◌-◌, ◌*◌, ◌/◌, ◌%◌, ◌^◌, ◌<◌, ◌≤◌, ◌⊎◌, cond, eqb, Option, Some, None, IfSome}
use Rattle.mesh_names.specs.Names.{Name, letters, bits_of, depth}

-- a name that can be spelled: of one of at most 65535 macro elements, with at most 24 letters
abbrev pub IsRooted : Name → Type 0
IsRooted n = (n.0 < 65535) × (depth n ≤ 24)

-- the root, the number of letters, and the letters as bits, in one number
abbrev pub name_code : Name → ℕ
name_code n = 1 + n.0 * 536870912 + depth n * 16777216 + bits_of n.1

-- the word of a member, or 0 for none
abbrev pub name_word : Option Name → ℕ
name_word None = 0
name_word (Some n) = name_code n

-- the word is 0 or that of a name
abbrev pub IsNameWord : ℕ → Type 0
IsNameWord k = (name : Option Name) × IfSome name IsRooted × (k ≡ name_word name)

-- the name that a number less 1 spells
abbrev pub name_in : ℕ → Name
name_in k = (k / 536870912, letters (k / 16777216 % 32) (k % 16777216))

-- the name that a word spells
abbrev pub name_of : ℕ → Option Name
name_of k = cond (eqb k 0) None (Some (name_in (k - 1)))

-- the law that a name, or that there is none, is read from its word
abbrev pub NamesRead : Type 0
NamesRead = (name : Option Name) → IfSome name IsRooted → name_of (name_word name) ≡ name

-- the word that spells a root, a number of letters and bits
abbrev pub spelled_word : ℕ → ℕ → ℕ → ℕ
spelled_word root level bits = 1 + root * 536870912 + level * 16777216 + bits

-- a name has a root below 65535, at most 24 letters, and one bit for each letter
abbrev pub AreParts : ℕ → ℕ → ℕ → Type 0
AreParts root level bits = (root < 65535) × (level ≤ 24) × (bits < 2 ^ level)

-- the law that such a root, number of letters and bits are read from their word, which
-- is the word of their name; and that each word of a name but 0 is spelled so
abbrev pub NamesSpell : Type 0
NamesSpell = ((root level bits : ℕ) → AreParts root level bits → (name_of (spelled_word root level bits) ≡ Some (root, letters level bits))
    × (name_word (Some (root, letters level bits)) ≡ spelled_word root level bits) × IsNameWord (spelled_word root level bits))
    × ((k : ℕ) → IsNameWord k → (k ≡ 0) ⊎ ((root level bits : ℕ) × AreParts root level bits × (k ≡ spelled_word root level bits)))
