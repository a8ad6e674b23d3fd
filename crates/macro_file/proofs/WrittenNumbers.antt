-- A written number is a word, and is read as the number.
use Rattle.std.proofs.Common.{◌≡◌, ℕ, suc, ℤ, pos, negsuc, neg_ℤ, nat_abs, List, [], ◌∷◌, ◌++◌, Bool, true, false, ◌==◌, ◌&&◌, ◌||◌, cond, nat_le, length, Option, Some, None, Ok, Err, ◌*◌, ◌/◌, ◌%◌, ◌<◌, ◌≤◌, ◌≤ℤ◌, ◌^◌, ◌∙◌, refl, ap, arith, length-append}
use Rattle.std.specs.Prelude.{int_lt}
use Rattle.std.specs.Fmt.{decimal, signed_decimal, sign_text}
use Rattle.std.specs.List.{list_any}
use lib.Signed.{lt_z}
use Rattle.std.proofs.lemmas.Bool.{or_from}
use Rattle.std.proofs.lemmas.Bool.Decides.{nat_tests}
use Rattle.std.proofs.lemmas.Int.{ints}
use Rattle.std.proofs.lemmas.List.Folds.{list_any-append}
use Rattle.mesh_io.specs.Decimals.{is_digit, is_minus, unsigned, after_digits, number, with_sign}
use Rattle.mesh_io.specs.Written.{written_units, padded, trimmed, fraction}
use Rattle.mesh_io.proofs.Numerals.{AllDigits, after-all, decimal_whole, padded-digits}
use Rattle.mesh_io.proofs.TrimmedZeros.{trimmed-digits}
use Rattle.mesh_io.proofs.ReadingBack.{read_back}
use Rattle.macro_file.specs.declared.keyword.Keyword.{Keyword}
use Rattle.macro_file.specs.declared.keyword.Keyword.TheVariants.{Coordinates, Triples, Labels, Neighbours, VertexValues, ElementValues}
use Rattle.macro_file.specs.declared.refusal.MacroRefusal.{MacroRefusal}
use Rattle.macro_file.specs.declared.refusal.MacroRefusal.TheVariants.{BadNumber, TooMany, ValueRange}
use Rattle.macro_file.specs.Limits.{AtMost, Between, InRange}
use Rattle.macro_file.specs.Lines.{is_word}
use Rattle.macro_file.specs.Numbers.{whole, bounded, coordinate, value}
use Rattle.macro_file.proofs.WrittenWords.{ends_number, IsWord, Reads}

-- a digit is no mark and no sign
digit_is_not : (d k : ℕ) → is_digit d ≡ true → k < 48 → (d == k) ≡ false
digit_is_not d k digit low = grind (arith, nat_tests)

digit_is_no_colon : (d : ℕ) → is_digit d ≡ true → (d == 58) ≡ false
digit_is_no_colon d digit = grind (arith, nat_tests)

digit_goes_on : (d : ℕ) → is_digit d ≡ true → ends_number d ≡ false
digit_goes_on d e = or_from _ _ (or_from _ _ (digit_is_not d 32 e (omega arith)) (digit_is_not d 9 e (omega arith))) (or_from _ _ (digit_is_no_colon d e) (or_from _ _ (digit_is_not d 10 e (omega arith)) (or_from _ _ (digit_is_not d 13 e (omega arith)) (digit_is_not d 35 e (omega arith)))))

digits-whole : (ds : List ℕ) → AllDigits ds → list_any ends_number ds ≡ false
digits-whole [] h = refl
digits-whole (d ∷ ds) h = or_from _ _ (digit_goes_on d h.0) (digits-whole ds h.1)

some_word : (w : List ℕ) → 1 ≤ length w → is_word w ≡ true
some_word [] h = absurd (omega arith)
some_word (b ∷ bs) h = refl

sign-whole : (minus : Bool) → list_any ends_number (sign_text minus) ≡ false
sign-whole true = refl
sign-whole false = refl

-- whole numbers
decimal_word : (n : ℕ) → n < 2 ^ 64 → IsWord (decimal n)
decimal_word n small = let h = decimal_whole n small in record { some = some_word (decimal n) h.some; whole = digits-whole (decimal n) h.digits }

signed_word : (z : ℤ) → nat_abs z < 2 ^ 63 → IsWord (signed_decimal z)
signed_word (pos n) small = decimal_word n (omega arith)
signed_word (negsuc n) small = record { some = refl; whole = (decimal_word (suc n) (omega arith)).whole }

signless : (ds : List ℕ) → AllDigits ds → 1 ≤ length ds → (is_minus ds ≡ false) × (unsigned ds ≡ ds)
signless [] all some = absurd (omega arith)
signless (d ∷ ds) all some =
    let minus : (d == 45) ≡ false = digit_is_not d 45 all.0 (omega arith) in
    let plus : (d == 43) ≡ false = digit_is_not d 43 all.0 (omega arith) in
    (minus, λ i. cond (minus i || plus i) ds (d ∷ ds))

abbrev whole_by : Bool → List ℕ → Option ℤ
whole_by minus ds = cond (nat_le 1 (length ds) && length (after_digits ds) == 0) (Some (with_sign minus (number 0 ds))) None

whole_digits : (minus : Bool) (n : ℕ) → n < 2 ^ 64 → whole_by minus (decimal n) ≡ Some (with_sign minus n)
whole_digits minus n small =
    let h = decimal_whole n small in
    let some : nat_le 1 (length (decimal n)) ≡ true = grind (arith, nat_tests) in
    let ends : (length (after_digits (decimal n)) == 0) ≡ true = ap (λ (ds : List ℕ). length ds == 0) (after-all (decimal n) h.digits) in
    (λ i. cond (some i && ends i) (Some (with_sign minus (number 0 (decimal n)))) None) ∙ ap (λ k. Some (with_sign minus k)) h.value

whole-signed : (z : ℤ) → nat_abs z < 2 ^ 63 → whole (signed_decimal z) ≡ Some z
whole-signed (pos n) small =
    let h = decimal_whole n (omega arith) in
    let s = signless (decimal n) h.digits h.some in
    (λ i. whole_by (s.0 i) (s.1 i)) ∙ whole_digits false n (omega arith)
whole-signed (negsuc n) small = whole_digits true (suc n) (omega arith)

bounded-in : (least greatest z : ℤ) (below above : ℕ → MacroRefusal) (line : ℕ) → Between least greatest z → bounded least greatest below above line (Some z) ≡ Ok z
bounded-in least greatest z below above line h =
    let low : int_lt z least ≡ false = grind (arith, ints) in
    let high : int_lt greatest z ≡ false = grind (arith, ints) in
    λ i. cond (low i) (Err (below line)) (cond (high i) (Err (above line)) (Ok z))

module _ (least greatest z : ℤ) (h : Between least greatest z) (small : nat_abs z < 2 ^ 63) where
  read_bounded : (below above : ℕ → MacroRefusal) (line : ℕ) → bounded least greatest below above line (whole (signed_decimal z)) ≡ Ok z
  read_bounded below above line = ap (bounded least greatest below above line) (whole-signed z small) ∙ bounded-in least greatest z below above line h

size-between : (n : ℕ) (z : ℤ) → Between (neg_ℤ (pos n)) (pos n) z → nat_abs z ≤ n
size-between n (pos m) h = omega (arith, ints)
size-between n (negsuc m) h = omega (arith, ints)

between-wide : (least greatest z : ℤ) (n : ℕ) → Between least greatest z → neg_ℤ (pos n) ≤ℤ least → greatest ≤ℤ pos n → nat_abs z ≤ n
between-wide least greatest z n h low high = size-between n z (omega (arith, ints), omega (arith, ints))

between-size : (n : ℕ) (z : ℤ) → AtMost n z → Between (neg_ℤ (pos n)) (pos n) z
between-size n (pos m) h = (omega (arith, ints), omega (arith, ints))
between-size n (negsuc m) h = (omega (arith, ints), omega (arith, ints))

small-between : (least greatest z : ℤ) (n : ℕ) → Between least greatest z → neg_ℤ (pos n) ≤ℤ least → greatest ≤ℤ pos n → n < 2 ^ 63 → nat_abs z < 2 ^ 63
small-between least greatest z n h low high small = let le = between-wide least greatest z n h low high in omega arith

-- each number of a list is read from its signed decimal
pub reads_count : (k : Keyword) (n : ℕ) → Between (pos 1) (pos 65535) (pos n) → ((line : ℕ) → value k (line, signed_decimal (pos n)) ≡ bounded (pos 1) (pos 65535) BadNumber TooMany line (whole (signed_decimal (pos n)))) → Reads k signed_decimal (pos n)
reads_count k n h e = let small : nat_abs (pos n) < 2 ^ 63 = small-between (pos 1) (pos 65535) (pos n) 65535 h (omega (arith, ints)) (omega (arith, ints)) (omega arith) in
    record { word = signed_word (pos n) small; value = λ line. e line ∙ read_bounded (pos 1) (pos 65535) (pos n) h small BadNumber TooMany line }

pub reads_corner : (z : ℤ) → InRange Triples z → Reads Triples signed_decimal z
reads_corner z h = let small = small-between (pos 0) (pos 65535) z 65535 h (omega (arith, ints)) (omega (arith, ints)) (omega arith) in
    record { word = signed_word z small; value = λ line. read_bounded (pos 0) (pos 65535) z h small BadNumber BadNumber line }

pub reads_label : (z : ℤ) → InRange Labels z → Reads Labels signed_decimal z
reads_label z h = let small = small-between (neg_ℤ (pos 128)) (pos 127) z 128 h (omega (arith, ints)) (omega (arith, ints)) (omega arith) in
    record { word = signed_word z small; value = λ line. read_bounded (neg_ℤ (pos 128)) (pos 127) z h small BadNumber BadNumber line }

pub reads_neighbour : (z : ℤ) → InRange Neighbours z → Reads Neighbours signed_decimal z
reads_neighbour z h = let small = small-between (neg_ℤ (pos 1)) (pos 65535) z 65535 h (omega (arith, ints)) (omega (arith, ints)) (omega arith) in
    record { word = signed_word z small; value = λ line. read_bounded (neg_ℤ (pos 1)) (pos 65535) z h small BadNumber BadNumber line }

pub reads_vertex_value : (z : ℤ) → InRange VertexValues z → Reads VertexValues signed_decimal z
reads_vertex_value z h = let small : nat_abs z < 2 ^ 63 = omega arith in
    record { word = signed_word z small; value = λ line. read_bounded (neg_ℤ (pos (2 ^ 31))) (pos (2 ^ 31)) z (between-size (2 ^ 31) z h) small ValueRange ValueRange line }

pub reads_element_value : (z : ℤ) → InRange ElementValues z → Reads ElementValues signed_decimal z
reads_element_value z h = let small : nat_abs z < 2 ^ 63 = omega arith in
    record { word = signed_word z small; value = λ line. read_bounded (neg_ℤ (pos (2 ^ 55))) (pos (2 ^ 55)) z (between-size (2 ^ 55) z h) small ValueRange ValueRange line }

fraction-whole : (f : ℕ) (b : Bool) → list_any ends_number (cond b [] (46 ∷ trimmed (padded 22 f))) ≡ false
fraction-whole f true = refl
fraction-whole f false = digits-whole (trimmed (padded 22 f)) (trimmed-digits (padded 22 f) (padded-digits 22 f))

-- and a coordinate from its exact decimal
units_word : (z : ℤ) → nat_abs z ≤ 4096000000000000000 → IsWord (written_units z)
units_word z low =
    let parts = nat_abs z * 244140625 in
    let sign = sign_text (lt_z z (pos 0)) in
    let front = decimal (parts / 10 ^ 22) in
    let h = decimal_word (parts / 10 ^ 22) (omega arith) in
    let w = decimal_whole (parts / 10 ^ 22) (omega arith) in
    record {
      some = some_word (written_units z) (omega (arith, w.some, length-append (sign ++ front) (fraction (parts % 10 ^ 22)), length-append sign front));
      whole = list_any-append ends_number (sign ++ front) (fraction (parts % 10 ^ 22)) ∙ or_from _ _ (list_any-append ends_number sign front ∙ or_from _ _ (sign-whole (lt_z z (pos 0))) h.whole) (fraction-whole (parts % 10 ^ 22) (parts % 10 ^ 22 == 0));
    }

pub reads_coordinate : (z : ℤ) → InRange Coordinates z → Reads Coordinates written_units z
reads_coordinate z h = record { word = units_word z h; value = λ line. ap (coordinate line) (read_back z h) }
