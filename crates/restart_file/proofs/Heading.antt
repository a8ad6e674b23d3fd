-- The head line of a restart file.
use Rattle.std.proofs.Common.{◌≡◌, ℕ, zero, suc, ◌+◌, ◌-◌, ◌*◌, ◌<◌, ◌≤◌, ◌⊎◌, true, false, List, [], ◌∷◌, ◌++◌, length, take, drop, get_or, drop-cons, sym, ap, ◌∙◌, subst, ⊎_elim, arith, decimal, append_assoc}
use Rattle.std.specs.Prelude.{codes, nat_eq}
use Rattle.std.specs.List.{position_or_len}
use Rattle.std.specs.Cmp.Lexicographic.{pointwise, bytes_decides}
use Rattle.std.specs.Str.Parse.{AllDigits, digits_value}
use Rattle.std.specs.Char.{digit_value}
use Rattle.std.proofs.lemmas.Int.Digits.{digits_value_more}
use Rattle.std.proofs.lemmas.Str.{digit_value_digit}
use Rattle.std.proofs.lemmas.Bool.{ne_eqb, eqb-true, true≢false}
use Rattle.std.proofs.lemmas.Fmt.{decimal-digits_value, decimal_digit, decimal_nonempty, digits_decimal, digits_value-decimal, first_decimal}
use Rattle.std.proofs.lemmas.List.{length-append, length-drop, take-append-drop, take_all}
use Rattle.std.proofs.lemmas.List.Sums.{position_or_len_is, passes_at_first}
use Rattle.std.proofs.lemmas.Str.Parse.{digit_at, digits_value-take-le}
use Rattle.std.proofs.Math.Seq.{take-append_seam, drop-append_seam, get_or-append_seam}
use Rattle.std.proofs.Math.ListN.{get_or-append}
use Rattle.mesh_names.proofs.SpelledNames.{own}
use Rattle.restart_file.specs.Files.{part_limit}
use Rattle.restart_file.specs.Heads.{is_newline, IsCount}
use Rattle.restart_file.specs.Refusals.{HasHead}

-- ---- the digits
-- no number has no digits
pub count_empty : (ds : List ℕ) → length ds ≡ 0 → (m : ℕ) → ¬ (IsCount ds m)
count_empty ds e m h =
    let some : 0 < length (decimal m) = decimal_nonempty m (omega (arith, h.few)) in
    let same : length ds ≡ length (decimal m) = ap length h.digits_are in
    absurd (omega arith)

-- no number has a zero before other digits
pub count_zeros : (ds : List ℕ) → get_or ds 0 0 ≡ 48 → 1 < length ds → (m : ℕ) → ¬ (IsCount ds m)
count_zeros ds z more zero h =
    let same : length ds ≡ length (decimal 0) = ap length h.digits_are in
    let one : length (decimal 0) ≡ 1 = ap length (decimal_digit 0 (omega arith)) in
    absurd (omega arith)
count_zeros ds z more (suc m) h =
    let first : 48 < get_or (decimal (suc m)) 0 0 = first_decimal (suc m) (omega arith) (omega (arith, h.few)) in
    let same : get_or ds 0 0 ≡ get_or (decimal (suc m)) 0 0 = ap (λ xs. get_or xs 0 0) h.digits_are in
    absurd (omega arith)

-- no number has a byte that is no digit
pub count_other : (ds : List ℕ) (i : ℕ) → i < length ds → (get_or ds i 0 < 48) ⊎ (57 < get_or ds i 0) → (m : ℕ) → ¬ (IsCount ds m)
count_other ds i inside out m h =
    let same : get_or ds i 0 ≡ get_or (decimal m) i 0 = ap (λ xs. get_or xs i 0) h.digits_are in
    let size : length ds ≡ length (decimal m) = ap length h.digits_are in
    let d = digit_at (decimal m) i (digits_decimal own m (omega (arith, h.few))) (omega arith) in
    absurd (⊎_elim (λ (l : get_or ds i 0 < 48). omega (arith, d.0)) (λ (l : 57 < get_or ds i 0). omega (arith, d.1)) out)

-- no number within the limit has digits that begin with those of a greater one
pub count_large : (ds : List ℕ) (i : ℕ) → 16777216 < digits_value 10 (take i ds) → (m : ℕ) → ¬ (IsCount ds m)
count_large ds i large m h =
    let front : digits_value 10 (take i ds) ≤ digits_value 10 ds = digits_value-take-le 10 ds i (omega arith) in
    let whole : digits_value 10 ds ≡ m = ap (digits_value 10) h.digits_are ∙ digits_value-decimal own m (omega (arith, h.few)) in
    absurd (omega (arith, h.few))

-- digits without leading zeros are those of their number
pub count_whole : (ds : List ℕ) → 0 < length ds → (get_or ds 0 0 ≡ 48 → length ds ≡ 1) → AllDigits 10 ds → digits_value 10 ds ≤ 16777216 → IsCount ds (digits_value 10 ds)
count_whole ds some lead all small = record { few = small; digits_are = sym (decimal-digits_value own ds all some lead (omega arith)) }

-- one more digit
pub count_more : (ds : List ℕ) (i count more : ℕ) → i < length ds → 48 ≤ get_or ds i 0 → get_or ds i 0 ≤ 57 → count ≡ digits_value 10 (take i ds) → more ≡ get_or ds i 0 - 48 → count * 10 + more ≡ digits_value 10 (take (i + 1) ds)
count_more ds i count more inside low high e digit =
    let step : digits_value 10 (take (i + 1) ds) ≡ digits_value 10 (take i ds) * 10 + digit_value (get_or ds i 0) = digits_value_more 10 ds i inside in
    let value : digit_value (get_or ds i 0) + 48 ≡ get_or ds i 0 = digit_value_digit (get_or ds i 0) (low, high) in
    omega (arith, step, value, e, digit)

-- ---- the line
start : List ℕ
start = codes "restart: "

-- no digit is a newline
no_newline : (m : ℕ) → m ≤ part_limit → (k : ℕ) → k < length (decimal m) → is_newline (get_or (decimal m) k 0) ≡ false
no_newline m h k i =
    let d = digit_at (decimal m) k (digits_decimal own m (omega arith)) i in
    ne_eqb (get_or (decimal m) k 0) 10 (omega arith)

-- the newline is where the digits end
pub newline_at : (m : ℕ) (rest : List ℕ) → m ≤ part_limit → position_or_len is_newline (decimal m ++ 10 ∷ rest) ≡ length (decimal m)
newline_at m rest h =
    position_or_len_is is_newline (decimal m ++ 10 ∷ rest) (length (decimal m)) 0
    (omega (arith, length-append (decimal m) (10 ∷ rest)))
    (λ k i. ap is_newline (get_or-append (decimal m) (10 ∷ rest) 0 k i) ∙ no_newline m h k i)
    (λ _. ap is_newline (get_or-append_seam (decimal m) 10 rest 0))

head_is : (bytes : List ℕ) (m : ℕ) (rest : List ℕ) → HasHead bytes m rest → bytes ≡ codes "restart: " ++ (decimal m ++ 10 ∷ rest)
head_is bytes m rest h = h.bytes_are ∙ append_assoc (codes "restart: ") (decimal m ++ 10 ∷ []) rest ∙ ap (λ (l : List ℕ). codes "restart: " ++ l) (append_assoc (decimal m) (10 ∷ []) rest)

-- bytes that begin otherwise have no head line
pub no_start : (bytes : List ℕ) → pointwise nat_eq (take 9 bytes) (codes "restart: ") ≡ false → (m : ℕ) (rest : List ℕ) → ¬ (HasHead bytes m rest)
no_start bytes e m rest h =
    let front : take 9 bytes ≡ codes "restart: " = ap (take 9) (head_is bytes m rest h) ∙ take-append_seam (codes "restart: ") (decimal m ++ 10 ∷ rest) in
    true≢false (sym ((bytes_decides (take 9 bytes) (codes "restart: ")).1 front) ∙ e)

-- the line after its start
module _ (bytes line : List ℕ) (end : ℕ) (cut : line ≡ drop 9 bytes) (place : end ≡ position_or_len is_newline line) where
  pub line_is : (m : ℕ) (rest : List ℕ) → HasHead bytes m rest → line ≡ decimal m ++ 10 ∷ rest
  line_is m rest h = cut ∙ ap (drop 9) (head_is bytes m rest h) ∙ drop-append_seam (codes "restart: ") (decimal m ++ 10 ∷ rest)

  end_is : (m : ℕ) (rest : List ℕ) → HasHead bytes m rest → end ≡ length (decimal m)
  end_is m rest h = place ∙ ap (position_or_len is_newline) (line_is m rest h) ∙ newline_at m rest h.few

  pub no_end : length line ≤ end → (m : ℕ) (rest : List ℕ) → ¬ (HasHead bytes m rest)
  no_end over m rest h =
      let size : length line ≡ length (decimal m) + suc (length rest) = ap length (line_is m rest h) ∙ length-append (decimal m) (10 ∷ rest) in
      let e = end_is m rest h in absurd (omega arith)

  pub no_count : ((m : ℕ) → ¬ (IsCount (take end line) m)) → (m : ℕ) (rest : List ℕ) → ¬ (HasHead bytes m rest)
  no_count none m rest h = none m (record {
    few = h.few;
    digits_are = (λ i. take (end_is m rest h i) (line_is m rest h i)) ∙ take-append_seam (decimal m) (10 ∷ rest);
  })

  pub is_head : pointwise nat_eq (take 9 bytes) (codes "restart: ") ≡ true → end < length line → (m : ℕ) → IsCount (take end line) m → HasHead bytes m (drop (end + 1) line)
  is_head front inside m count =
      let at : get_or line end 0 ≡ 10 = eqb-true (get_or line end 0) 10 (subst (λ (k : ℕ). is_newline (get_or line k 0) ≡ true) (sym place) (passes_at_first is_newline line 0 (subst (λ (k : ℕ). k < length line) place inside))) in
      let one : suc end ≡ end + 1 = omega arith in
      let rest : drop end line ≡ 10 ∷ drop (end + 1) line = drop-cons line end 0 inside ∙ (λ i. at i ∷ drop (one i) line) in
      let whole : line ≡ decimal m ++ 10 ∷ drop (end + 1) line = sym (take-append-drop end line) ∙ (λ i. count.digits_are i ++ rest i) in
      let all : bytes ≡ codes "restart: " ++ line = sym (take-append-drop 9 bytes) ∙ (λ i. (bytes_decides (take 9 bytes) (codes "restart: ")).0 front i ++ sym cut i) in
      record {
        few = count.few;
        bytes_are = all ∙ ap (λ (l : List ℕ). codes "restart: " ++ l) (whole ∙ sym (append_assoc (decimal m) (10 ∷ []) (drop (end + 1) line))) ∙ sym (append_assoc (codes "restart: ") (decimal m ++ 10 ∷ []) (drop (end + 1) line));
      }

-- a range of a text up to its end
pub tail_whole : (i : ℕ) (xs : List ℕ) → take (length xs - i) (drop i xs) ≡ drop i xs
tail_whole i xs = let e : length (drop i xs) ≡ length xs - i = length-drop i xs in take_all (length xs - i) (drop i xs) (omega arith)
