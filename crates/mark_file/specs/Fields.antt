-- What the fields of a row say.
use Rattle.std.specs.Prelude.{ℕ, ◌-◌, ◌==◌, ◌&&◌, ◌||◌, Bool, List, length, take, drop, nat_le, if◌then◌else◌, Option, Some, None, ℤ, nat_abs, codes, bytes_eq}
use Rattle.std.specs.List.{prefix_len, suffix_len}
use Rattle.std.specs.Option.{option_map, option_and_then}
use Rattle.std.specs.Str.{all_ascii_digits}
use Rattle.std.specs.Str.Parse.{digits_value, signed_digits_value, without_leading_sign}
use Rattle.mesh_names.specs.Marks.{largest_number}
use Rattle.mesh_names.specs.Spelling.{name_spelled}
use Rattle.mesh_names.specs.declared.rows.What.{What}
use Rattle.mesh_names.specs.declared.rows.What.TheVariants.{Mark, Elem as element_value, Vert as vertex_value}
use Rattle.mesh_names.specs.declared.rows.Place.{Place}
use Rattle.mesh_names.specs.declared.rows.Place.TheVariants.{EveryLeaf, Elem, Corner}

-- the bytes of a field
abbrev pub Field : Type 0
Field = List ℕ

-- a space or a tab
abbrev pub is_blank : ℕ → Bool
is_blank c = (c == 32) || (c == 9)

-- a field without the blanks at its front
abbrev pub without_front : Field → Field
without_front field = drop (prefix_len is_blank field) field

-- a field without the blanks at its end
abbrev pub without_end : Field → Field
without_end field = take (length field - suffix_len is_blank field) field

-- a field without the blanks at both ends
unfoldable pub trimmed : Field → Field
trimmed field = without_end (without_front field)

-- one to five digits that give a number from 1 to 65,535
abbrev pub is_round : Field → Bool
is_round field = all_ascii_digits field && nat_le 1 (length field) && nat_le (length field) 5 && nat_le 1 (digits_value 10 field) && nat_le (digits_value 10 field) 65535

-- the round that a field gives
unfoldable pub round_in : Field → Option ℕ
round_in field = if is_round field then Some (digits_value 10 field) else None

-- what a field says that the row sets
unfoldable pub what_in : Field → Option What
what_in field =
    if bytes_eq field (codes "mark") then Some Mark else
    if bytes_eq field (codes "elem") then Some element_value else
    if bytes_eq field (codes "vert") then Some vertex_value else None

-- the element whose spelling the field is
abbrev pub element_in : Field → Option Place
element_in field = option_map Elem (name_spelled field)

-- the corner that two bytes give: a `/` and 0, 1 or 2
unfoldable pub corner_number : Field → Option ℕ
corner_number ending =
    if bytes_eq ending (codes "/0") then Some 0 else
    if bytes_eq ending (codes "/1") then Some 1 else
    if bytes_eq ending (codes "/2") then Some 2 else None

-- the corner whose spelling the field is: that of its element, and then two bytes
unfoldable pub corner_in : Field → Option Place
corner_in field =
    let front = length field - 2 in
    option_and_then (λ k. option_map (λ n. Corner n k) (name_spelled (take front field))) (corner_number (drop front field))

-- what a row of this kind names beside `*`: an element, or for a vertex's value a corner
abbrev pub spelled_in : What → Field → Option Place
spelled_in Mark = element_in
spelled_in element_value = element_in
spelled_in vertex_value = corner_in

-- the place that a field gives in a row of this kind
unfoldable pub place_in : What → Field → Option Place
place_in what field = if bytes_eq field (codes "*") then Some EveryLeaf else spelled_in what field

-- an optional sign and one or more digits
abbrev pub is_whole : Field → Bool
is_whole field = nat_le 1 (length (without_leading_sign field)) && all_ascii_digits (without_leading_sign field)

-- the whole number that a field gives, however long it is
abbrev pub whole_in : Field → Option ℤ
whole_in field = if is_whole field then Some (signed_digits_value 10 field) else None

-- the number is none too large for a row of this kind
abbrev pub is_number_of : What → ℤ → Bool
is_number_of what n = nat_le (nat_abs n) (largest_number what)

-- the number that a field gives in a row of this kind
unfoldable pub number_in : What → Field → Option ℤ
number_in what field = option_and_then (λ n. if is_number_of what n then Some n else None) (whole_in field)
