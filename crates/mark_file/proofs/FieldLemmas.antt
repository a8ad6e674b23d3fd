-- What the fields of a row give.
use Rattle.std.proofs.Common.{◌≡◌, ℕ, zero, suc, ◌+◌, ◌-◌, ◌*◌, ◌<◌, ◌≤◌, Bool, true, false, cond, eqb, leb, ◌&&◌, List, [], ◌∷◌, length, take, drop, get_or, Option, Some, None, Ok, ℤ, pos, negsuc, nat_abs, sym, refl, ap, ◌∙◌, arith}
use Rattle.std.specs.Char.{digit_value}
use Rattle.std.specs.List.{prefix_len, suffix_len}
use Rattle.std.specs.Option.{option_and_then}
use Rattle.std.specs.Result.{OkIff}
use Rattle.std.specs.Str.{all_ascii_digits, IsAscii, IsUtf8}
use Rattle.std.specs.Str.Parse.{AllDigits, IsNumeral, digits_value, signed_digits_value, without_leading_sign}
use Rattle.std.specs.Prelude.{FitsSigned}
use Rattle.std.proofs.lemmas.Bool.{eqb-true, leb-true, le-leb}
use Rattle.std.proofs.lemmas.Fmt.{IsAscii-from_digits}
use Rattle.std.proofs.lemmas.Int.Digits.{digits_value_more}
use Rattle.std.proofs.lemmas.Str.{digit_value_digit, IsUtf8-from_ascii}
use Rattle.std.proofs.lemmas.Str.Parse.{IsNumeralModel, numerals_by_value, tells_all_ascii_digits}
use Rattle.mesh_names.specs.Marks.{largest_number}
use Rattle.mesh_names.specs.declared.rows.What.{What}
use Rattle.mesh_names.specs.declared.rows.What.TheVariants.{Mark, Elem as element_value, Vert as vertex_value}
use Rattle.mark_file.specs.Fields.{Field, is_blank, trimmed, without_end, is_round, round_in, is_whole, is_number_of, number_in}
use Rattle.csv.specs.Records.{field_at}
use mir.Syntax.{w64}

-- std's own words for digits and their number
own : IsNumeralModel (λ ds. all_ascii_digits ds ≡ true) (digits_value 10)
own = numerals_by_value (λ ds. all_ascii_digits ds ≡ true) tells_all_ascii_digits

-- both tests pass, where their conjunction does
pub both : (a b : Bool) → (a && b) ≡ true → (a ≡ true) × (b ≡ true)
both true b e = (refl, e)
both false b e = absurd (cc)

-- what a round's field is
pub record IsRound (field : Field) : Type 0 where
  pub digits : AllDigits 10 field
  pub some : 1 ≤ length field
  pub few : length field ≤ 5
  pub low : 1 ≤ digits_value 10 field
  pub high : digits_value 10 field ≤ 65535

pub round_facts : (field : Field) → is_round field ≡ true → IsRound field
round_facts field e =
    let h = both _ _ e in
    let l = both _ _ h.0 in
    let f = both _ _ l.0 in
    let s = both _ _ f.0 in
    record {
      digits = own.to field s.0;
      some = leb-true 1 (length field) s.1;
      few = leb-true (length field) 5 f.1;
      low = leb-true 1 (digits_value 10 field) l.1;
      high = leb-true (digits_value 10 field) 65535 h.1;
    }

pub round_none : (field : Field) → ¬ (IsRound field) → round_in field ≡ None
unfolding round_in
round_none field h = by (is_round field) refl where
  by : (b : Bool) → is_round field ≡ b → cond b (Some (digits_value 10 field)) None ≡ None
  by false e = refl
  by true e = absurd (h (round_facts field e))

pub round_some : (field : Field) → IsRound field → round_in field ≡ Some (digits_value 10 field)
unfolding round_in
round_some field h =
    ap (λ b. cond b (Some (digits_value 10 field)) None)
    (λ i. own.from field h.digits i && le-leb 1 (length field) h.some i && le-leb (length field) 5 h.few i && le-leb 1 (digits_value 10 field) h.low i && le-leb (digits_value 10 field) 65535 h.high i)

-- the leading test on a greater number
gt-leb : (n m : ℕ) → m < n → leb n m ≡ false
gt-leb n m h = by (leb n m) refl where
  by : (b : Bool) → leb n m ≡ b → b ≡ false
  by false e = refl
  by true e = let f : n ≤ m = leb-true n m e in absurd (omega arith)

-- one more digit
pub digit_more : (ds : List ℕ) (i n more : ℕ) → i < length ds → 48 ≤ get_or ds i 0 → get_or ds i 0 ≤ 57 → n ≡ digits_value 10 (take i ds) → more ≡ get_or ds i 0 - 48 → n * 10 + more ≡ digits_value 10 (take (i + 1) ds)
digit_more ds i n more inside low high e digit =
    let step : digits_value 10 (take (i + 1) ds) ≡ digits_value 10 (take i ds) * 10 + digit_value (get_or ds i 0) = digits_value_more 10 ds i inside in
    let value : digit_value (get_or ds i 0) + 48 ≡ get_or ds i 0 = digit_value_digit (get_or ds i 0) (low, high) in
    omega (arith, step, value, e, digit)

-- what a whole number is
whole_facts : (field : Field) → is_whole field ≡ true → IsNumeral 10 (without_leading_sign field)
whole_facts field e =
    let h = both _ _ e in
    (leb-true 1 (length (without_leading_sign field)) h.0, own.to (without_leading_sign field) h.1)

whole_are : (field : Field) → IsNumeral 10 (without_leading_sign field) → is_whole field ≡ true
whole_are field h = λ i. le-leb 1 (length (without_leading_sign field)) h.0 i && own.from (without_leading_sign field) h.1 i

-- no kind of row takes a number above 2^31 in size
pub largest-small : (w : What) → largest_number w ≤ 2147483648
largest-small Mark = omega arith
largest-small element_value = omega arith
largest-small vertex_value = omega arith

small_fits : (z : ℤ) → nat_abs z ≤ 2147483648 → FitsSigned w64 z
small_fits (pos n) b = omega (arith, b)
small_fits (negsuc n) b = omega (arith, b)

number_fits : (w : What) (z : ℤ) → is_number_of w z ≡ true → FitsSigned w64 z
number_fits w z e =
    let low = leb-true (nat_abs z) (largest_number w) e in
    let most = largest-small w in
    small_fits z (omega (arith, low, most))

number_whole : (w : What) (field : Field) (z : ℤ) → IsNumeral 10 (without_leading_sign field) → z ≡ signed_digits_value 10 field → number_in w field ≡ cond (is_number_of w z) (Some z) None
unfolding number_in
number_whole w field z h e =
    ap (λ b. option_and_then (λ n. cond (is_number_of w n) (Some n) None) (cond b (Some (signed_digits_value 10 field)) None)) (whole_are field h)
    ∙ ap (λ v. cond (is_number_of w v) (Some v) None) (sym e)

-- a field that is no whole number of 64 bits is no number of a row
pub number_none : (w : What) (field : Field) → ¬ (IsNumeral 10 (without_leading_sign field) × FitsSigned w64 (signed_digits_value 10 field)) → number_in w field ≡ None
unfolding number_in
number_none w field h = by (is_whole field) (is_number_of w (signed_digits_value 10 field)) refl refl where
  by : (b m : Bool) → is_whole field ≡ b → is_number_of w (signed_digits_value 10 field) ≡ m
      → option_and_then (λ n. cond (is_number_of w n) (Some n) None) (cond b (Some (signed_digits_value 10 field)) None) ≡ None
  by false m e f = refl
  by true false e f = ap (λ b. cond b (Some (signed_digits_value 10 field)) None) f
  by true true e f = absurd (h (whole_facts field e, number_fits w (signed_digits_value 10 field) f))

front_ascii : (c : ℕ) (cs : List ℕ) → c < 128 → IsAscii cs → IsAscii (c ∷ cs)
front_ascii c cs low rest zero = low
front_ascii c cs low rest (suc i) = rest i

signed_ascii : (c : ℕ) (cs : List ℕ) → AllDigits 10 (without_leading_sign (c ∷ cs)) → IsAscii (c ∷ cs)
signed_ascii c cs = by (eqb c 45) (eqb c 43) refl refl where
  by : (m p : Bool) → eqb c 45 ≡ m → eqb c 43 ≡ p → AllDigits 10 (cond m cs (drop (cond p 1 0) (c ∷ cs))) → IsAscii (c ∷ cs)
  by true p e f h = let same : c ≡ 45 = eqb-true c 45 e in front_ascii c cs (omega arith) (IsAscii-from_digits cs h)
  by false true e f h = let same : c ≡ 43 = eqb-true c 43 f in front_ascii c cs (omega arith) (IsAscii-from_digits cs h)
  by false false e f h = IsAscii-from_digits (c ∷ cs) h

-- a whole number is text
numeral_text : (field : Field) → IsNumeral 10 (without_leading_sign field) → IsUtf8 field
numeral_text [] h = IsUtf8-from_ascii [] (λ i. omega arith)
numeral_text (c ∷ cs) h = IsUtf8-from_ascii (c ∷ cs) (signed_ascii c cs h.1)

pub number_no_text : (w : What) (field : Field) → ¬ (IsUtf8 field) → number_in w field ≡ None
number_no_text w field h = number_none w field (λ f. h (numeral_text field f.0))

-- a field, cut at its blanks
pub trimmed-cut : (field rest : Field) (front end : ℕ) → front ≡ prefix_len is_blank field → rest ≡ drop front field → end ≡ suffix_len is_blank rest → take (length rest - end) rest ≡ trimmed field
unfolding trimmed
trimmed-cut field rest front end f r e = (λ i. take (length rest - e i) rest) ∙ ap without_end (r ∙ ap (λ k. drop k field) f)

pub number_outside : (w : What) (field : Field) (z : ℤ) → OkIff {E = ℕ} (Ok z) (IsNumeral 10 (without_leading_sign field) × FitsSigned w64 (signed_digits_value 10 field)) (signed_digits_value 10 field) → largest_number w < nat_abs z → number_in w field ≡ None
number_outside w field z h large = number_whole w field z h.0.0 h.1 ∙ ap (λ b. cond b (Some z) None) (gt-leb (nat_abs z) (largest_number w) large)

pub number_inside : (w : What) (field : Field) (z : ℤ) → OkIff {E = ℕ} (Ok z) (IsNumeral 10 (without_leading_sign field) × FitsSigned w64 (signed_digits_value 10 field)) (signed_digits_value 10 field) → nat_abs z ≤ largest_number w → number_in w field ≡ Some z
number_inside w field z h small = number_whole w field z h.0.0 h.1 ∙ ap (λ b. cond b (Some z) None) (le-leb (nat_abs z) (largest_number w) small)

-- a field that a record has
pub field_there : (fields : List (List ℕ)) (k : ℕ) (f : List ℕ) → Some f ≡ field_at fields k → get_or fields k [] ≡ f
unfolding field_at
field_there [] k f e = absurd (cc)
field_there (g ∷ gs) zero f e = cc
field_there (g ∷ gs) (suc k) f e = field_there gs k f e

-- one that it does not have reads as no bytes
pub field_missing : (fields : List (List ℕ)) (k : ℕ) → ◌≡◌ {A = Option (List ℕ)} None (field_at fields k) → trimmed (get_or fields k []) ≡ []
unfolding field_at trimmed
field_missing [] k e = refl
field_missing (g ∷ gs) zero e = absurd (cc)
field_missing (g ∷ gs) (suc k) e = field_missing gs k e
