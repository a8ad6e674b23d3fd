-- When a word gives a number, and which.
use Rattle.std.proofs.Common.{◌≡◌, ℕ, ◌≤◌, Bool, true, false, cond, ◌&&◌, length, Some, None, refl, ap}
use Rattle.std.specs.Str.{all_ascii_digits}
use Rattle.std.specs.Str.Parse.{digits_value}
use Rattle.std.proofs.lemmas.Bool.{and_parts, leb-true, le-leb}
use Rattle.std.proofs.lemmas.Str.Parse.{IsNumeralModel, numerals_by_value, tells_all_ascii_digits}
use Rattle.adapt_words.specs.Numbers.{Word, is_number_in, number_in}

-- std's own words for digits and their number
pub own : IsNumeralModel (λ ds. all_ascii_digits ds ≡ true) (digits_value 10)
own = numerals_by_value (λ ds. all_ascii_digits ds ≡ true) tells_all_ascii_digits

-- what a number's word is
pub record IsNumberIn (low high : ℕ) (word : Word) : Type 0 where
  pub digits : all_ascii_digits word ≡ true
  pub some : 1 ≤ length word
  pub few : length word ≤ 7
  pub low_is : low ≤ digits_value 10 word
  pub high_is : digits_value 10 word ≤ high

number_facts : (low high : ℕ) (word : Word) → is_number_in low high word ≡ true → IsNumberIn low high word
number_facts low high word e =
    let h = and_parts _ _ e in
    let l = and_parts _ _ h.0 in
    let f = and_parts _ _ l.0 in
    let s = and_parts _ _ f.0 in
    record {
      digits = s.0;
      some = leb-true 1 (length word) s.1;
      few = leb-true (length word) 7 f.1;
      low_is = leb-true low (digits_value 10 word) l.1;
      high_is = leb-true (digits_value 10 word) high h.1;
    }

pub number_none : (low high : ℕ) (word : Word) → ¬ (IsNumberIn low high word) → number_in low high word ≡ None
unfolding number_in
number_none low high word h = by (is_number_in low high word) refl where
  by : (b : Bool) → is_number_in low high word ≡ b → cond b (Some (digits_value 10 word)) None ≡ None
  by false e = refl
  by true e = absurd (h (number_facts low high word e))

pub number_some : (low high : ℕ) (word : Word) → IsNumberIn low high word → number_in low high word ≡ Some (digits_value 10 word)
unfolding number_in
number_some low high word h =
    ap (λ b. cond b (Some (digits_value 10 word)) None)
    (λ i. h.digits i && le-leb 1 (length word) h.some i && le-leb (length word) 7 h.few i && le-leb low (digits_value 10 word) h.low_is i && le-leb (digits_value 10 word) high h.high_is i)
