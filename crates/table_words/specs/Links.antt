-- LINK and HISTORY words as numbers.
use Rattle.std.specs.Prelude.{◌≡◌, ℕ, zero, suc, ◌+◌, ◌*◌, ◌/◌, ◌%◌, ◌^◌, ◌<◌, true, eqb, Option, Some, None, IfSome}
use Rattle.std.specs.Int.RustNames.{bit_or}
use Rattle.mesh_names.specs.Names.{digit}
use Rattle.table_words.specs.declared.link.Link.{Link}

-- one more than the number, or 0 for none
abbrev pub after : Option ℕ → ℕ
after None = 0
after (Some b) = b + 1

-- the number before, or none for 0
abbrev pub before : ℕ → Option ℕ
before zero = None
before (suc b) = Some b

-- the block and the round have room in their bits
abbrev pub IsLink : Link → Type 0
IsLink l = IfSome l.block (λ b. b < 2097151) × (l.died < 65536)

-- the word: the claim in bit 0, one more than the block in bits 1 to 21, the retired round in bits 22 to 37
abbrev pub link_word : Link → ℕ
link_word l = digit l.claimed + 2 * after l.block + 4194304 * l.died

-- what the low 38 bits of a word spell
abbrev pub link_of : ℕ → Link
link_of n = record { claimed = eqb (n % 2) 1; block = before (n / 2 % 2097152); died = n / 4194304 % 65536 }

-- the law that a link is read from its word
abbrev pub LinksRead : Type 0
LinksRead = (l : Link) → IsLink l → (link_word l < 2 ^ 38) × (link_of (link_word l) ≡ l)

-- the law that each word of 38 bits spells a link, of which it is the word
abbrev pub LinksSpell : Type 0
LinksSpell = (n : ℕ) → n < 2 ^ 38 → IsLink (link_of n) × (link_word (link_of n) ≡ n)

-- the law that a claim sets bit 0 and leaves the rest
abbrev pub ClaimSets : Type 0
ClaimSets = (l : Link) → IsLink l → bit_or (link_word l) 1 ≡ link_word (record l { claimed = true })
