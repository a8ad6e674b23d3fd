-- What is written of a row is read as the same row.
use Rattle.std.proofs.Common.{◌≡◌, ◌≢◌, ℕ, zero, suc, ◌+◌, ◌-◌, ◌<◌, ◌≤◌, ◌^◌, Bool, true, false, cond, not, eqb, leb, ltb, ◌&&◌, ◌||◌, List, [], ◌∷◌, ◌++◌, length, map, reverse, take, drop, get_or, Option, Some, None, Ok, Err, ℤ, pos, negsuc, neg_ℤ, nat_abs, sym, refl, ap, ◌∙◌, subst, arith, decimal, append_assoc}
use Rattle.std.specs.Prelude.{FitsSigned, OnErr, Result, bytes_eq, codes}
use Rattle.std.specs.Fmt.{signed_decimal}
use Rattle.std.specs.List.{AllByRecursion, list_any, prefix_len, suffix_len}
use Rattle.std.specs.Option.{option_map}
use Rattle.std.specs.Str.Parse.{AllDigits, IsNumeral, digits_value, signed_digits_value, without_leading_sign, starts_with_minus}
use Rattle.std.proofs.lemmas.Bool.{and_from, and_parts, eqb-true, false_from_ne_true, le-leb, le-ltb, leb-true, ne_eqb, not-true}
use Rattle.std.proofs.lemmas.Fmt.{decimal_nonempty, digits_decimal, digits_value-decimal, length-decimal-le}
use Rattle.std.proofs.lemmas.List.{append-nil, length-append, reverse-append, take-take}
use Rattle.std.proofs.Math.Seq.{take-append_seam, take-length}
use Rattle.std.proofs.lemmas.Slice.Eq.{bytes_eq-Decides}
use Rattle.std.proofs.lemmas.Str.Parse.{digit_at}
use Rattle.std.proofs.Math.ListN.{get_or-append}
use Rattle.csv.specs.Machine.{next_record}
use Rattle.csv.specs.Reading.{default_config}
use Rattle.csv.specs.Writing.{default_writer, field_text, fields_text, is_blank as is_blank_record, needs_byte, quoted, row_text}
use Rattle.csv.specs.declared.parser.State.TheVariants.{StartRecord}
use Rattle.csv.proofs.RoundTrip.{read-write-many}
use Rattle.mesh_names.specs.Names.{Name}
use Rattle.mesh_names.specs.Marks.{IsPlaceOf, IsWellFormed, largest_number}
use Rattle.mesh_names.specs.Spelling.{letter_text, letters_text, name_spelled, spelling, word_text}
use Rattle.mesh_names.specs.declared.rows.MarkRow.{MarkRow}
use Rattle.mesh_names.specs.declared.rows.What.{What}
use Rattle.mesh_names.specs.declared.rows.What.TheVariants.{Mark, Elem as element_value, Vert as vertex_value}
use Rattle.mesh_names.specs.declared.rows.Place.{Place}
use Rattle.mesh_names.specs.declared.rows.Place.TheVariants.{EveryLeaf, Elem, Corner}
use Rattle.mesh_names.proofs.SpelledNames.{own, spelling_tells}
use Rattle.mark_file.specs.Fields.{Field, is_blank, trimmed, without_end, without_front, round_in, what_in, place_in, number_in, element_in, corner_in}
use Rattle.mark_file.specs.Rows.{Record, last_row, row_meaning}
use Rattle.mark_file.specs.Written.{CanBeWritten, IsBounded, IsReadAs, IsRecordOf, MeansRow, NamesBounded, WrittenIsRead, by_commas, place_text, row_fields, row_line, what_text}
use Rattle.mark_file.proofs.CornerLemmas.{corners_tell}
use Rattle.mark_file.proofs.FieldLemmas.{largest-small, number_inside, round_some}
use mir.Syntax.{w64}

-- the byte is no mark of the format and no blank: it is above a comma, or a `*`
abbrev is_plain : ℕ → Bool
is_plain b = leb 42 b && not (eqb b 44)

abbrev Plain : List ℕ → Type 0
Plain f = AllByRecursion (λ b. is_plain b ≡ true) f

record Clear (b : ℕ) : Type 0 where
  high : 42 ≤ b
  other : b ≡ 44 → ⊥

clear : (b : ℕ) → is_plain b ≡ true → Clear b
clear b e =
    let h = and_parts (leb 42 b) (not (eqb b 44)) e in
    record { high = leb-true 42 b h.0; other = λ q. absurd (apart (eqb b 44) (not-true (eqb b 44) h.1) (equal q)) }
  where
    equal : b ≡ 44 → eqb b 44 ≡ true
    equal q = ap (λ n. eqb n 44) q

    apart : (t : Bool) → t ≡ false → t ≡ true → ⊥
    apart t n y = cc

plain-high : (b : ℕ) → 45 ≤ b → is_plain b ≡ true
plain-high b h = and_from (leb 42 b) (not (eqb b 44)) (le-leb 42 b (omega (arith, h))) (ap not (ne_eqb b 44 (λ q. omega (arith, q, h))))

plain_at : (f : List ℕ) → ((k : ℕ) → k < length f → 45 ≤ get_or f k 0) → Plain f
plain_at [] h = tt
plain_at (b ∷ f) h = (plain-high b (h 0 (omega arith)), plain_at f (λ k l. h (suc k) (omega (arith, l))))

plain-append : (f g : List ℕ) → Plain f → Plain g → Plain (f ++ g)
plain-append [] g h k = k
plain-append (b ∷ f) g h k = (h.0, plain-append f g h.1 k)

plain-reverse : (f : List ℕ) → Plain f → Plain (reverse f)
plain-reverse [] h = tt
plain-reverse (b ∷ f) h = subst Plain (sym (reverse-append (b ∷ []) f)) (plain-append (reverse f) (b ∷ []) (plain-reverse f h.1) (h.0, tt))

-- numbers are plain
decimal-digit : (n : ℕ) → n < 2 ^ 64 → (k : ℕ) → k < length (decimal n) → 48 ≤ get_or (decimal n) k 0
decimal-digit n h k l = (digit_at (decimal n) k (digits_decimal own n h) l).0

decimal-plain : (n : ℕ) → n < 2 ^ 64 → Plain (decimal n)
decimal-plain n h = plain_at (decimal n) (λ k l. let d = decimal-digit n h k l in omega (arith, d))

signed-plain : (z : ℤ) → nat_abs z ≤ 2147483648 → Plain (signed_decimal z)
signed-plain (pos n) h = decimal-plain n (omega (arith, h))
signed-plain (negsuc n) h = (plain-high 45 (omega arith), decimal-plain (suc n) (omega (arith, h)))

-- names are plain
letters-plain : (w : List Bool) → Plain (map letter_text w)
letters-plain [] = tt
letters-plain (true ∷ w) = (plain-high 49 (omega arith), letters-plain w)
letters-plain (false ∷ w) = (plain-high 48 (omega arith), letters-plain w)

word-plain : (w : List Bool) → Plain (word_text w)
word-plain [] = tt
word-plain (b ∷ w) = (plain-high 46 (omega arith), letters-plain (reverse (b ∷ w)))

spelling-plain : (n : Name) → n.0 < 65535 → Plain (spelling n)
spelling-plain n h = plain-append (decimal n.0) (word_text n.1) (decimal-plain n.0 (omega (arith, h))) (word-plain n.1)

what-plain : (what : What) → Plain (what_text what)
what-plain Mark = (plain-high 109 (omega arith), (plain-high 97 (omega arith), (plain-high 114 (omega arith), (plain-high 107 (omega arith), tt))))
what-plain element_value = (plain-high 101 (omega arith), (plain-high 108 (omega arith), (plain-high 101 (omega arith), (plain-high 109 (omega arith), tt))))
what-plain vertex_value = (plain-high 118 (omega arith), (plain-high 101 (omega arith), (plain-high 114 (omega arith), (plain-high 116 (omega arith), tt))))

place-plain : (what : What) (place : Place) → IsPlaceOf what place → NamesBounded place → Plain (place_text place)
place-plain what EveryLeaf p h = (refl, tt)
place-plain what (Elem n) p h = spelling-plain n h.0
place-plain Mark (Corner n k) p h = absurd p
place-plain element_value (Corner n k) p h = absurd p
place-plain vertex_value (Corner n k) p h = plain-append (spelling n) (47 ∷ (48 + k) ∷ []) (spelling-plain n h.0) (plain-high 47 (omega arith), (plain-high (48 + k) (omega arith), tt))

-- a plain field has no blanks at its ends
no_blank : (b : ℕ) → is_plain b ≡ true → is_blank b ≡ false
no_blank b e = let c = clear b e in let h = c.high in λ i. ne_eqb b 32 (λ q. omega (arith, q, h)) i || ne_eqb b 9 (λ q. omega (arith, q, h)) i

no_front : (f : List ℕ) → Plain f → prefix_len is_blank f ≡ 0
no_front [] h = refl
no_front (b ∷ f) h = ap (λ (t : Bool). cond t (1 + prefix_len is_blank f) 0) (no_blank b h.0)

trimmed-plain : (f : List ℕ) → Plain f → trimmed f ≡ f
unfolding trimmed
trimmed-plain f h =
    let front : without_front f ≡ f = ap (λ k. drop k f) (no_front f h) in
    let whole : length f - 0 ≡ length f = omega arith in
    ap without_end front ∙ ap (λ k. take (length f - k) f) (no_front (reverse f) (plain-reverse f h)) ∙ ap (λ k. take k f) whole ∙ take-length f

-- a plain field is written as it is
no_quotes : (f : List ℕ) → Plain f → list_any (needs_byte default_writer) f ≡ false
no_quotes [] h = refl
no_quotes (b ∷ f) h =
    let c = clear b h.0 in
    let high = c.high in
    let none : needs_byte default_writer b ≡ false = λ i. ((ne_eqb b 44 c.other i || ne_eqb b 34 (λ q. omega (arith, q, high)) i) || (ne_eqb b 13 (λ q. omega (arith, q, high)) i || ne_eqb b 10 (λ q. omega (arith, q, high)) i) || false) || false in
    λ i. none i || no_quotes f h.1 i

as_it_is : (f : List ℕ) → Plain f → field_text default_writer f ≡ f
as_it_is f h = ap (λ (b : Bool). cond b (quoted default_writer f) f) (no_quotes f h)

written_row : (a b c d : Field) → Plain a → Plain b → Plain c → Plain d → row_text default_writer (a ∷ b ∷ c ∷ d ∷ []) ≡ by_commas (a ∷ b ∷ c ∷ d ∷ []) ++ 10 ∷ []
unfolding fields_text is_blank_record
written_row a b c d ha hb hc hd =
    let last : field_text default_writer d ++ [] ≡ d = ap (λ t. t ++ []) (as_it_is d hd) ∙ append-nil d in
    λ i. (as_it_is a ha i ++ (44 ∷ (as_it_is b hb i ++ (44 ∷ (as_it_is c hc i ++ (44 ∷ last i)))))) ++ 10 ∷ []

read_again : (a b c d : Field) → Plain a → Plain b → Plain c → Plain d → IsRecordOf (by_commas (a ∷ b ∷ c ∷ d ∷ []) ++ 10 ∷ []) (a ∷ b ∷ c ∷ d ∷ [])
read_again a b c d ha hb hc hd rest = ap (λ t. next_record default_config StartRecord [] [] (t ++ rest)) (sym (written_row a b c d ha hb hc hd)) ∙ read-write-many a b (c ∷ d ∷ []) rest

-- what each field gives
round_read : (round : ℕ) → 1 ≤ round → round ≤ 65535 → round_in (decimal round) ≡ Some round
round_read round low high =
    let value = digits_value-decimal own round (omega (arith, high)) in
    round_some (decimal round) (record {
      digits = digits_decimal own round (omega (arith, high));
      some = decimal_nonempty round (omega (arith, high));
      few = length-decimal-le 5 round (omega arith) (omega (arith, high)) (omega (arith, high));
      low = omega (arith, value, low);
      high = omega (arith, value, high);
    }) ∙ ap Some value

what_read : (what : What) → what_in (what_text what) ≡ Some what
unfolding what_in
what_read Mark = refl
what_read element_value = refl
what_read vertex_value = refl

-- a field that begins with a digit is no `*`
no_star : (f : Field) → 48 ≤ get_or f 0 0 → bytes_eq f (codes "*") ≡ false
no_star f h = false_from_ne_true (bytes_eq f (codes "*")) (λ e. let first = ap (λ t. get_or t 0 0) ((bytes_eq-Decides f (codes "*")).0 e) in omega (arith, first, h))

spelling-first : (n : Name) (more : List ℕ) → n.0 < 65535 → 48 ≤ get_or (spelling n ++ more) 0 0
spelling-first n more h =
    let some = decimal_nonempty n.0 (omega (arith, h)) in
    let digit = decimal-digit n.0 (omega (arith, h)) 0 some in
    let one = get_or-append (decimal n.0) (word_text n.1 ++ more) 0 0 some in
    let all = ap (λ t. get_or t 0 0) (append_assoc (decimal n.0) (word_text n.1) more) in
    omega (arith, digit, one, all)

spelled : (n : Name) → IsBounded n → name_spelled (spelling n) ≡ Some n
spelled n h = (spelling_tells (spelling n) n).1 (record { text_is = refl; rooted = h.0; shallow = h.1 })

element_read : (n : Name) → IsBounded n → element_in (spelling n) ≡ Some (Elem n)
element_read n h = ap (option_map Elem) (spelled n h)

first_of : (n : Name) → n.0 < 65535 → 48 ≤ get_or (spelling n) 0 0
first_of n h = let a = spelling-first n [] h in let b = ap (λ t. get_or t 0 0) (append-nil (spelling n)) in omega (arith, a, b)

place_read : (what : What) (place : Place) → IsPlaceOf what place → NamesBounded place → place_in what (place_text place) ≡ Some place
unfolding place_in
place_read what EveryLeaf p h = refl
place_read Mark (Elem n) p h = ap (λ (b : Bool). cond b (Some EveryLeaf) (element_in (spelling n))) (no_star (spelling n) (first_of n h.0)) ∙ element_read n h
place_read element_value (Elem n) p h = ap (λ (b : Bool). cond b (Some EveryLeaf) (element_in (spelling n))) (no_star (spelling n) (first_of n h.0)) ∙ element_read n h
place_read vertex_value (Elem n) p h = absurd p
place_read Mark (Corner n k) p h = absurd p
place_read element_value (Corner n k) p h = absurd p
place_read vertex_value (Corner n k) p h =
    let field = spelling n ++ 47 ∷ (48 + k) ∷ [] in
    ap (λ (b : Bool). cond b (Some EveryLeaf) (corner_in field)) (no_star field (spelling-first n (47 ∷ (48 + k) ∷ []) h.0))
    ∙ (corners_tell field n k).1 (record { element = spelling n; spells = record { text_is = refl; rooted = h.0; shallow = h.1 }; field_is = refl; within = p })

-- digits have no sign
no_sign : (ds : List ℕ) → 48 ≤ get_or ds 0 0 → (starts_with_minus ds ≡ false) × (without_leading_sign ds ≡ ds)
no_sign ds h =
    let minus : starts_with_minus ds ≡ false = ne_eqb (get_or ds 0 0) 45 (λ q. omega (arith, q, h)) in
    let plus : eqb (get_or ds 0 0) 43 ≡ false = ne_eqb (get_or ds 0 0) 43 (λ q. omega (arith, q, h)) in
    (minus, λ i. cond (minus i) (drop 1 ds) (drop (cond (plus i) 1 0) ds))

plain_value : (ds : List ℕ) → starts_with_minus ds ≡ false → without_leading_sign ds ≡ ds → signed_digits_value 10 ds ≡ pos (digits_value 10 ds)
plain_value ds minus same = λ i. cond (minus i) (neg_ℤ (pos (digits_value 10 (same i)))) (pos (digits_value 10 (same i)))

small_fits : (z : ℤ) → nat_abs z ≤ 2147483648 → FitsSigned w64 z
small_fits (pos n) b = omega (arith, b)
small_fits (negsuc n) b = omega (arith, b)

number_read : (what : What) (z : ℤ) → nat_abs z ≤ largest_number what → number_in what (signed_decimal z) ≡ Some z
number_read what (pos n) h =
    let most = largest-small what in
    let small : n < 2 ^ 64 = omega (arith, h, most) in
    let first = decimal-digit n small 0 (decimal_nonempty n small) in
    let none = no_sign (decimal n) first in
    let value : signed_digits_value 10 (decimal n) ≡ pos n = plain_value (decimal n) none.0 none.1 ∙ ap pos (digits_value-decimal own n small) in
    let fits : FitsSigned w64 (signed_digits_value 10 (decimal n)) = subst (FitsSigned w64) (sym value) (small_fits (pos n) (omega (arith, h, most))) in
    number_inside what (decimal n) (pos n) ((subst (IsNumeral 10) (sym none.1) (decimal_nonempty n small, digits_decimal own n small), fits), sym value) h
number_read what (negsuc n) h =
    let most = largest-small what in
    let small : suc n < 2 ^ 64 = omega (arith, h, most) in
    let value : signed_digits_value 10 (45 ∷ decimal (suc n)) ≡ negsuc n = ap (λ k. neg_ℤ (pos k)) (digits_value-decimal own (suc n) small) in
    let fits : FitsSigned w64 (signed_digits_value 10 (45 ∷ decimal (suc n))) = subst (FitsSigned w64) (sym value) (small_fits (negsuc n) (omega (arith, h, most))) in
    number_inside what (45 ∷ decimal (suc n)) (negsuc n) (((decimal_nonempty (suc n) small, digits_decimal own (suc n) small), fits), sym value) h

module _ (round : ℕ) (row : MarkRow) (can : CanBeWritten round row) where
  round_plain : Plain (decimal round)
  round_plain = let h = can.high in decimal-plain round (omega (arith, h))

  what_is_plain : Plain (what_text row.what)
  what_is_plain = what-plain row.what

  place_is_plain : Plain (place_text row.place)
  place_is_plain = place-plain row.what row.place can.formed.place can.bounded

  number_is_plain : Plain (signed_decimal row.number)
  number_is_plain = let most = largest-small row.what in let h = can.formed.small in signed-plain row.number (omega (arith, h, most))

  means : MeansRow (row_fields round row) round row
  unfolding row_meaning
  means number before few order =
      let low = le-ltb last_row number few in
      let round_is : round_in (trimmed (decimal round)) ≡ Some round = ap round_in (trimmed-plain (decimal round) round_plain) ∙ round_read round can.low can.high in
      let in_order = le-ltb round before order in
      let what_is : what_in (trimmed (what_text row.what)) ≡ Some row.what = ap what_in (trimmed-plain (what_text row.what) what_is_plain) ∙ what_read row.what in
      let place_is : place_in row.what (trimmed (place_text row.place)) ≡ Some row.place = ap (place_in row.what) (trimmed-plain (place_text row.place) place_is_plain) ∙ place_read row.what row.place can.formed.place can.bounded in
      let number_is : number_in row.what (trimmed (signed_decimal row.number)) ≡ Some row.number = ap (number_in row.what) (trimmed-plain (signed_decimal row.number) number_is_plain) ∙ number_read row.what row.number can.formed.small in
      rw (low, round_is, in_order, what_is, place_is, number_is) refl

pub written_is_read : WrittenIsRead
written_is_read round row can = record {
  fields = row_fields round row;
  is_record = read_again (decimal round) (what_text row.what) (place_text row.place) (signed_decimal row.number) (round_plain round row can) (what_is_plain round row can) (place_is_plain round row can) (number_is_plain round row can);
  means = means round row can;
}

-- what was there before two pieces is still there where a part of the second was written
pub kept_before : (old front after : List ℕ) → take (length (old ++ front)) after ≡ old ++ front → take (length old) after ≡ old
kept_before old front after h =
    sym (take-take (length old) (length (old ++ front)) after (omega (arith, length-append old front))) ∙ ap (take (length old)) h ∙ take-append_seam old front

-- a line is its three pieces
pub line_of_pieces : (old round what place number : List ℕ) → ((old ++ (round ++ (44 ∷ (what ++ 44 ∷ [])))) ++ place) ++ (44 ∷ (number ++ 10 ∷ [])) ≡ old ++ (by_commas (round ∷ what ∷ place ∷ number ∷ []) ++ 10 ∷ [])
line_of_pieces old round what place number = simp append_assoc refl

-- what holds anyway holds on a refusal
pub on_refusal : {A E : Type 0} (r : Result A E) (P : Type 0) → P → OnErr r P
on_refusal (Ok a) P p = tt
on_refusal (Err e) P p = p
