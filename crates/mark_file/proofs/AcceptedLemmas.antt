-- What an accepted row is.
use mir.Syntax.{w64}
use Rattle.std.proofs.lemmas.Int.{ints}
use Rattle.std.proofs.Common.{to_z, of_z, pos, negsuc, ◌≡◌, ℕ, ◌-◌, ◌<◌, ◌≤◌, take, drop, Bool, true, false, cond, eqb, ltb, not, length, Option, Some, None, Result, Ok, Err, ℤ, nat_abs, sym, refl, ap, ◌∙◌, subst, arith, ◌⊎◌, inl, inr}
use Rattle.std.specs.Prelude.{bytes_eq, codes, unwrap_or}
use Rattle.std.specs.Option.{option_map, option_and_then}
use Rattle.std.specs.Str.Parse.{digits_value}
use Rattle.std.proofs.lemmas.Bool.{cases_lt, false≢true, leb-true, lt-ltb}
use Rattle.mesh_names.specs.Names.{Name}
use Rattle.mesh_names.specs.Marks.{IsPlaceOf, IsWellFormed, NamesCorner, NamesElement, largest_number}
use Rattle.mesh_names.specs.Spelling.{name_spelled}
use Rattle.mesh_names.specs.declared.rows.What.{What}
use Rattle.mesh_names.specs.declared.rows.What.TheVariants.{Mark, Elem as element_value, Vert as vertex_value}
use Rattle.mesh_names.specs.declared.rows.Place.{Place}
use Rattle.mesh_names.specs.declared.rows.Place.TheVariants.{EveryLeaf, Elem, Corner}
use Rattle.mark_file.specs.Fields.{Field, is_round, round_in, what_in, spelled_in, corner_number, corner_in, place_in, is_number_of, number_in, whole_in}
use Rattle.mark_file.specs.Rows.{Record, field_of, needs, last_row, row_meaning, round_of}
use Rattle.mark_file.specs.Meaning.{mark_row}
use Rattle.mark_file.specs.declared.row.RoundRow.{RoundRow}
use Rattle.mark_file.specs.declared.refusal.MarkRefusal.{MarkRefusal}
use Rattle.mark_file.specs.declared.refusal.MarkRefusal.TheVariants.{BadFields, BadRound, BadWhat, BadWhere, BadNumber, RoundsFall, TooMany}
use Rattle.mark_file.proofs.FieldLemmas.{round_facts, largest-small}

-- what an accepted row is, after a row of the round `before`
pub record Accepts (before : ℕ) (r : Record) (row : RoundRow) : Type 0 where
  pub round : round_of r ≡ row.round
  pub rises : before ≤ row.round
  pub some : 1 ≤ row.round
  pub high : row.round ≤ 65535
  pub formed : IsWellFormed (mark_row row)

round_in-facts : (field : Field) (n : ℕ) → round_in field ≡ Some n → (1 ≤ n) × (n ≤ 65535)
unfolding round_in
round_in-facts field n h = by (is_round field) refl h where
  by : (t : Bool) → is_round field ≡ t → cond t (Some (digits_value 10 field)) None ≡ Some n → (1 ≤ n) × (n ≤ 65535)
  by false e h = absurd (cc)
  by true e h =
      let f = round_facts field e in
      let same : digits_value 10 field ≡ n = cc in
      (omega (arith, f.low, same), omega (arith, f.high, same))

-- every leaf may be named in a row of each kind
every_fits : (w : What) → IsPlaceOf w EveryLeaf
every_fits Mark = tt
every_fits element_value = tt
every_fits vertex_value = tt

element-named : (o : Option Name) (p : Place) → option_map Elem o ≡ Some p → NamesElement p
element-named None p h = absurd (cc)
element-named (Some n) p h = let same : Elem n ≡ p = cc in subst NamesElement same tt

corner_number-small : (ending : Field) (k : ℕ) → corner_number ending ≡ Some k → k < 3
unfolding corner_number
corner_number-small ending k h = by (bytes_eq ending (codes "/0")) (bytes_eq ending (codes "/1")) (bytes_eq ending (codes "/2")) h where
  by : (a b c : Bool) → cond a (Some 0) (cond b (Some 1) (cond c (Some 2) None)) ≡ Some k → k < 3
  by true b c h = let same : 0 ≡ k = cc in omega (arith, same)
  by false true c h = let same : 1 ≡ k = cc in omega (arith, same)
  by false false true h = let same : 2 ≡ k = cc in omega (arith, same)
  by false false false h = absurd (cc)

corner-named : (k : ℕ) (o : Option Name) (p : Place) → k < 3 → option_map (λ n. Corner n k) o ≡ Some p → NamesCorner p
corner-named k None p low h = absurd (cc)
corner-named k (Some n) p low h = let same : Corner n k ≡ p = cc in subst NamesCorner same low

corner_in-named : (field : Field) (p : Place) → corner_in field ≡ Some p → NamesCorner p
unfolding corner_in
corner_in-named field p h = by (corner_number (drop (length field - 2) field)) refl h where
  by : (o : Option ℕ) → corner_number (drop (length field - 2) field) ≡ o → option_and_then (λ k. option_map (λ n. Corner n k) (name_spelled (take (length field - 2) field))) o ≡ Some p → NamesCorner p
  by None e h = absurd (cc)
  by (Some k) e h = corner-named k (name_spelled (take (length field - 2) field)) p (corner_number-small (drop (length field - 2) field) k e) h

spelled_in-fits : (w : What) (field : Field) (p : Place) → spelled_in w field ≡ Some p → IsPlaceOf w p
spelled_in-fits Mark field p h = element-named (name_spelled field) p h
spelled_in-fits element_value field p h = element-named (name_spelled field) p h
spelled_in-fits vertex_value field p h = corner_in-named field p h

place_in-fits : (w : What) (field : Field) (p : Place) → place_in w field ≡ Some p → IsPlaceOf w p
unfolding place_in
place_in-fits w field p h = by (bytes_eq field (codes "*")) h where
  by : (t : Bool) → cond t (Some EveryLeaf) (spelled_in w field) ≡ Some p → IsPlaceOf w p
  by true h = let same : EveryLeaf ≡ p = cc in subst (IsPlaceOf w) same (every_fits w)
  by false h = spelled_in-fits w field p h

kept : (w : What) (o : Option ℤ) (z : ℤ) → option_and_then (λ n. cond (is_number_of w n) (Some n) None) o ≡ Some z → is_number_of w z ≡ true
kept w None z h = absurd (cc)
kept w (Some n) z h = by (is_number_of w n) refl h where
  by : (t : Bool) → is_number_of w n ≡ t → cond t (Some n) None ≡ Some z → is_number_of w z ≡ true
  by false e h = absurd (cc)
  by true e h = let same : n ≡ z = cc in ap (is_number_of w) (sym same) ∙ e

number_in-small : (w : What) (field : Field) (z : ℤ) → number_in w field ≡ Some z → nat_abs z ≤ largest_number w
unfolding number_in
number_in-small w field z h = leb-true (nat_abs z) (largest_number w) (kept w (whole_in field) z h)

small_whole : (z : ℤ) → nat_abs z ≤ 2147483648 → to_z w64 (of_z w64 z) ≡ z
small_whole (pos k) h = omega (arith, ints, h)
small_whole (negsuc k) h = omega (arith, ints, h)

-- the number of a row is the one that its 64 bits stand for
pub number_whole : (w : What) (z : ℤ) → nat_abs z ≤ largest_number w → to_z w64 (of_z w64 z) ≡ z
number_whole w z h = let most = largest-small w in small_whole z (omega (arith, h, most))

not-less : (a b : ℕ) → ltb a b ≡ false → b ≤ a
not-less a b e = by (cases_lt a b) where
  by : (a < b) ⊎ (b ≤ a) → b ≤ a
  by (inl h) = absurd (false≢true (sym e ∙ lt-ltb a b h))
  by (inr h) = h

-- an accepted row has what its four fields give
record Parts (before : ℕ) (round : Option ℕ) (place : What → Option Place) (value : What → Option ℤ) (row : RoundRow) : Type 0 where
  round_is : round ≡ Some row.round
  rises : before ≤ row.round
  place_is : place row.what ≡ Some row.place
  value_is : value row.what ≡ Some row.number

-- what is left to be read after the round, and after the kind
abbrev rest_of : ℕ → ℕ → What → Option Place → Option ℤ → Result RoundRow MarkRefusal
rest_of number a w place value = needs place (BadWhere number) (λ p. needs value (BadNumber number) (λ z. Ok (record { round = a; row = number; what = w; place = p; number = z })))

after_what : (number before a : ℕ) (w : What) (place : What → Option Place) (value : What → Option ℤ) (row : RoundRow) → before ≤ a → (p : Option Place) (z : Option ℤ) → place w ≡ p → value w ≡ z → rest_of number a w p z ≡ Ok row → Parts before (Some a) place value row
after_what number before a w place value row h None z ep ez e = absurd (cc)
after_what number before a w place value row h (Some p) None ep ez e = absurd (cc)
after_what number before a w place value row h (Some p) (Some z) ep ez e =
    let same : record { round = a; row = number; what = w; place = p; number = z } ≡ row = cc in
    record {
      round_is = ap (λ (r : RoundRow). Some r.round) same;
      rises = subst (λ (r : RoundRow). before ≤ r.round) same h;
      place_is = subst (λ (r : RoundRow). place r.what ≡ Some r.place) same ep;
      value_is = subst (λ (r : RoundRow). value r.what ≡ Some r.number) same ez;
    }

after_round : (number before a : ℕ) (what : Option What) (place : What → Option Place) (value : What → Option ℤ) (row : RoundRow) → before ≤ a → needs what (BadWhat number) (λ w. rest_of number a w (place w) (value w)) ≡ Ok row → Parts before (Some a) place value row
after_round number before a None place value row h e = absurd (cc)
after_round number before a (Some w) place value row h e = after_what number before a w place value row h (place w) (value w) refl refl e

all_parts : (number before : ℕ) (round : Option ℕ) (what : Option What) (place : What → Option Place) (value : What → Option ℤ) (row : RoundRow)
    → needs round (BadRound number) (λ a. cond (ltb a before) (Err (RoundsFall number)) (needs what (BadWhat number) (λ w. rest_of number a w (place w) (value w)))) ≡ Ok row → Parts before round place value row
all_parts number before None what place value row e = absurd (cc)
all_parts number before (Some a) what place value row e = by (ltb a before) refl e where
  rest : Result RoundRow MarkRefusal
  rest = needs what (BadWhat number) (λ w. rest_of number a w (place w) (value w))

  by : (t : Bool) → ltb a before ≡ t → cond t (Err (RoundsFall number)) rest ≡ Ok row → Parts before (Some a) place value row
  by true f e = absurd (cc)
  by false f e = after_round number before a what place value row (not-less a before f) e

-- a test that refuses did not pass
passed : (t : Bool) (e : MarkRefusal) (x : Result RoundRow MarkRefusal) (row : RoundRow) → cond t (Err e) x ≡ Ok row → x ≡ Ok row
passed true e x row h = absurd (cc)
passed false e x row h = h

abbrev place_of : Record → What → Option Place
place_of r w = place_in w (field_of r 2)

abbrev value_of : Record → What → Option ℤ
value_of r w = number_in w (field_of r 3)

accepts-from : (before : ℕ) (r : Record) (row : RoundRow) → Parts before (round_in (field_of r 0)) (place_of r) (value_of r) row → Accepts before r row
accepts-from before r row h =
    let limits = round_in-facts (field_of r 0) row.round h.round_is in
    record {
      round = ap (λ o. unwrap_or o 0) h.round_is;
      rises = h.rises;
      some = limits.0;
      high = limits.1;
      formed = record {
        place = place_in-fits row.what (field_of r 2) row.place h.place_is;
        small = number_in-small row.what (field_of r 3) row.number h.value_is;
      };
    }

pub row_meaning-accepts : (number before : ℕ) (r : Record) (row : RoundRow) → row_meaning number before r ≡ Ok row → Accepts before r row
unfolding row_meaning
row_meaning-accepts number before r row e =
    accepts-from before r row
    (all_parts number before (round_in (field_of r 0)) (what_in (field_of r 1)) (place_of r) (value_of r) row
    (passed (not (eqb (length r) 4)) (BadFields number) _ row (passed (ltb last_row number) (TooMany number) _ row e)))

-- no accepted row comes after the last that a file may have
pub row_meaning-early : (number before : ℕ) (r : Record) (row : RoundRow) → row_meaning number before r ≡ Ok row → number ≤ 1048577
unfolding row_meaning
row_meaning-early number before r row e = by (ltb last_row number) _ refl e where
  by : (t : Bool) (x : Result RoundRow MarkRefusal) → ltb last_row number ≡ t → cond t (Err (TooMany number)) x ≡ Ok row → number ≤ 1048577
  by true x f e = absurd (cc)
  by false x f e = not-less last_row number f
