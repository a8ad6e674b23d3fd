-- Numbers of places, of members and of the words' functions.
use Rattle.std.specs.Prelude.{◌≡◌, ℕ, ◌+◌, ◌-◌, ◌*◌, ◌/◌, ◌%◌, ◌<◌, Bool, cond, ltb}
use Rattle.mesh_names.specs.Names.{digit}
use Rattle.table_words.specs.declared.layout.Layout.{Layout}
use Rattle.table_words.specs.declared.layout.ElemAt.{ElemAt}
use Rattle.table_words.specs.declared.layout.ElemAt.TheVariants.{Macro, Child}
use Rattle.table_words.specs.Layout.{IsElemAt}

-- the number of a block's first or second member
abbrev pub member_of : ℕ → Bool → ℕ
member_of b second = 2 * b + digit second

-- the place of child c of a block's member, where there are e macro elements
abbrev pub child_place : ℕ → ℕ → Bool → Bool → ℕ
child_place e b second c = e + 4 * b + 2 * digit second + digit c

-- how many places a table has
abbrev pub place_count : Layout → ℕ
place_count l = l.elements + 4 * l.pool

-- the number of a place: macro elements first, then the children of each block
abbrev pub place_number : Layout → ElemAt → ℕ
place_number l (Macro x) = x
place_number l (Child b c) = l.elements + 4 * b + c

-- the place of a number
abbrev pub place_at : Layout → ℕ → ElemAt
place_at l x = cond (ltb x l.elements) (Macro x) (Child ((x - l.elements) / 4) ((x - l.elements) % 4))

-- the law that places are numbered from 0 without a gap
abbrev pub PlacesNumbered : Type 0
PlacesNumbered = (l : Layout) → ((at : ElemAt) → IsElemAt l at → (place_number l at < place_count l) × (place_at l (place_number l at) ≡ at))
    × ((x : ℕ) → x < place_count l → IsElemAt l (place_at l x) × (place_number l (place_at l x) ≡ x))
