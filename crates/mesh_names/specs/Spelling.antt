-- How the name of an element is spelled, and which name a text spells.
use Rattle.std.specs.Prelude.{◌≡◌, ◌↔◌, ℕ, ◌<◌, ◌≤◌, ◌==◌, ◌&&◌, Bool, cond, List, [], ◌∷◌, ◌++◌, map, reverse, length, nat_lt, nat_le, if◌then◌else◌, Option, Some, None, bytes_eq, decimal}
use Rattle.std.specs.List.{before_first, after_first}
use Rattle.std.specs.Str.Parse.{digits_value}
use Rattle.mesh_names.specs.Names.{Name, depth}

-- the digit of a letter
abbrev pub letter_text : Bool → ℕ
letter_text b = cond b 49 48

-- the letters of a word, the first letter first
abbrev pub letters_text : List Bool → List ℕ
letters_text w = map letter_text (reverse w)

-- a point and the letters; nothing where there is no letter
abbrev pub word_text : List Bool → List ℕ
word_text [] = []
word_text (b ∷ w) = 46 ∷ letters_text (b ∷ w)

-- the digits are those of a root
pub record IsRoot (digits : List ℕ) (r : ℕ) : Type 0 where
  pub small : r < 65535
  pub digits_are : digits ≡ decimal r

-- the letters are those of a word of 1 to 24
pub record IsWord (letters : List ℕ) (w : List Bool) : Type 0 where
  pub some : 0 < length w
  pub few : length w ≤ 24
  pub letters_are : letters ≡ letters_text w

-- the spelling of a name: its root in decimal without leading zeros, and then its letters
abbrev pub spelling : Name → List ℕ
spelling n = decimal n.0 ++ word_text n.1

-- the text is the spelling of the name, whose root is at most 65,534 and which has at most 24 letters
pub record Spells (text : List ℕ) (n : Name) : Type 0 where
  pub text_is : text ≡ spelling n
  pub rooted : n.0 < 65535
  pub shallow : depth n ≤ 24

-- the byte is the point between root and letters
-- the byte is a point
abbrev pub is_point : ℕ → Bool
is_point c = c == 46

-- the only name that the text could spell: digits up to a point, and letters after it
abbrev pub likely_name : List ℕ → Name
likely_name text = (digits_value 10 (before_first is_point text), map (λ c. c == 49) (reverse (after_first is_point text)))

-- whether the text is the spelling of the name, which is within the limits
abbrev pub is_spelling : List ℕ → Name → Bool
is_spelling text n = bytes_eq text (spelling n) && nat_lt n.0 65535 && nat_le (depth n) 24

-- the name that the text spells
unfoldable pub name_spelled : List ℕ → Option Name
name_spelled text = if is_spelling text (likely_name text) then Some (likely_name text) else None

-- the law that the name which a text spells is the one whose spelling it is
abbrev pub SpellingTells : Type 0
SpellingTells = (text : List ℕ) (n : Name) → ((name_spelled text ≡ Some n) ↔ Spells text n)

-- the law that two names with one spelling are equal
abbrev pub SpellingIsOne : Type 0
SpellingIsOne = (text : List ℕ) (m n : Name) → Spells text m → Spells text n → m ≡ n
