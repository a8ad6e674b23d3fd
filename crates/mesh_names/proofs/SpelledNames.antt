-- A spelling is taken apart at its point.
use Rattle.std.proofs.Common.{◌≡◌, ◌≢◌, ℕ, ◌+◌, ◌<◌, ◌≤◌, Bool, true, false, cond, eqb, ltb, leb, ◌&&◌, List, [], ◌∷◌, ◌++◌, length, map, reverse, take, drop, get_or, Option, Some, None, sym, refl, ap, ◌∙◌, subst, inl, inr, arith, decimal, bytes_eq, MatchOption, zero, suc, ◌-◌, ◌⊎◌, ⊎_elim, append_assoc, set, ◌*◌}
use Rattle.std.specs.List.{position_or_len, before_first, after_first}
use Rattle.std.specs.Str.Parse.{AllDigits, digits_value}
use Rattle.std.specs.Char.{digit_value}
use Rattle.std.proofs.lemmas.Int.Digits.{digits_value_more}
use Rattle.std.proofs.lemmas.Str.{digit_value_digit}
use Rattle.std.proofs.lemmas.Bool.{ne_eqb, eqb-true, ltb-true, lt-ltb, leb-true, le-leb}
use Rattle.std.proofs.lemmas.Fmt.{decimal-digits_value, decimal_digit, decimal_nonempty, digits_decimal, digits_value-decimal, first_decimal}
use Rattle.std.proofs.lemmas.List.{map-append, reverse-append, reverse-reverse, drop-set, get_or-map, length-append, length-map, append-nil}
use Rattle.std.proofs.lemmas.List.Sums.{position_or_len_is, split_at_first, passes_at_first}
use Rattle.std.proofs.lemmas.Slice.Eq.{bytes_eq-Decides}
use Rattle.std.proofs.lemmas.Str.Parse.{IsNumeralModel, numerals_by_value, tells_digits, digit_at, digits_value-take-le}
use Rattle.std.proofs.Math.Seq.{take-append_seam, take-length, drop-append-add, get_or-append_seam}
use Rattle.std.proofs.Math.ListN.{get_or-append}
use Rattle.mesh_names.specs.Names.{Name, depth}
use Rattle.mesh_names.specs.Spelling.{letter_text, letters_text, word_text, spelling, Spells, likely_name, is_point, is_spelling, name_spelled, IsRoot, IsWord, SpellingTells, SpellingIsOne}

-- std's own words for digits and their number
pub own : IsNumeralModel (AllDigits 10) (digits_value 10)
own = numerals_by_value (AllDigits 10) tells_digits

-- no digit is a point
pub decimal-no_point : (r : ℕ) → r < 65535 → (k : ℕ) → k < length (decimal r) → is_point (get_or (decimal r) k 0) ≡ false
decimal-no_point r h k i =
    let d = digit_at (decimal r) k (digits_decimal own r (omega arith)) i in
    ne_eqb (get_or (decimal r) k 0) 46 (omega arith)

-- the first letter follows a point
word-point : (r : ℕ) (w : List Bool) → length (decimal r) < length (decimal r ++ word_text w) → is_point (get_or (decimal r ++ word_text w) (length (decimal r)) 0) ≡ true
word-point r [] h = absurd (omega (arith, length-append (decimal r) []))
word-point r (b ∷ w) h = ap is_point (get_or-append_seam (decimal r) 46 (map letter_text (reverse (b ∷ w))) 0)

-- the point is where the digits end
pub point_at : (r : ℕ) (w : List Bool) → r < 65535 → position_or_len is_point (decimal r ++ word_text w) ≡ length (decimal r)
point_at r w h =
    position_or_len_is is_point (decimal r ++ word_text w) (length (decimal r)) 0
    (omega (arith, length-append (decimal r) (word_text w)))
    (λ k i. ap is_point (get_or-append (decimal r) (word_text w) 0 k i) ∙ decimal-no_point r h k i)
    (word-point r w)

-- what stands before the point of a spelling
pub before-spelling : (r : ℕ) (w : List Bool) → r < 65535 → before_first is_point (decimal r ++ word_text w) ≡ decimal r
before-spelling r w h = ap (λ k. take k (decimal r ++ word_text w)) (point_at r w h) ∙ take-append_seam (decimal r) (word_text w)

word_text-rest : (w : List Bool) → drop 1 (word_text w) ≡ map letter_text (reverse w)
word_text-rest [] = refl
word_text-rest (b ∷ w) = refl

-- what stands after it
pub after-spelling : (r : ℕ) (w : List Bool) → r < 65535 → after_first is_point (decimal r ++ word_text w) ≡ map letter_text (reverse w)
after-spelling r w h =
    ap (λ k. drop (k + 1) (decimal r ++ word_text w)) (point_at r w h)
    ∙ drop-append-add (decimal r) (word_text w) 1
    ∙ word_text-rest w

pub map-reverse : {X Y : Type 0} (f : X → Y) (xs : List X) → map f (reverse xs) ≡ reverse (map f xs)
map-reverse f [] = refl
map-reverse f (x ∷ xs) =
    ap (map f) (reverse-append (x ∷ []) xs) ∙ map-append f (reverse xs) (x ∷ []) ∙ ap (λ ys. ys ++ f x ∷ []) (map-reverse f xs) ∙ sym (reverse-append (f x ∷ []) (map f xs))

letters-back : (w : List Bool) → map (λ c. eqb c 49) (map letter_text w) ≡ w
letters-back [] = refl
letters-back (false ∷ w) = ap (λ v. false ∷ v) (letters-back w)
letters-back (true ∷ w) = ap (λ v. true ∷ v) (letters-back w)

-- the letters of a text, last letter first
pub letters-read : (w : List Bool) → map (λ c. eqb c 49) (reverse (map letter_text (reverse w))) ≡ w
letters-read w =
    ap (λ v. map (λ c. eqb c 49) v) (sym (map-reverse letter_text (reverse w)) ∙ ap (map letter_text) (reverse-reverse w)) ∙ letters-back w

-- the name that a spelling could spell is its own
pub likely-spelling : (n : Name) → n.0 < 65535 → likely_name (spelling n) ≡ n
likely-spelling n h =
    let root : digits_value 10 (before_first is_point (spelling n)) ≡ n.0 = ap (digits_value 10) (before-spelling n.0 n.1 h) ∙ digits_value-decimal own n.0 (omega arith) in
    let word : map (λ c. eqb c 49) (reverse (after_first is_point (spelling n))) ≡ n.1 = ap (λ ls. map (λ c. eqb c 49) (reverse ls)) (after-spelling n.0 n.1 h) ∙ letters-read n.1 in
    λ i. (root i, word i)

three-true : (a b c : Bool) → (a && b && c) ≡ true → (a ≡ true) × (b ≡ true) × (c ≡ true)
three-true true true true e = (refl, refl, refl)
three-true true true false e = absurd (cc)
three-true true false c e = absurd (cc)
three-true false b c e = absurd (cc)

three-are : (a b c : Bool) → a ≡ true → b ≡ true → c ≡ true → (a && b && c) ≡ true
three-are a b c ea eb ec = λ i. ea i && eb i && ec i

is_spelling-spells : (text : List ℕ) (n : Name) → is_spelling text n ≡ true → Spells text n
is_spelling-spells text n e =
    let t = three-true (bytes_eq text (spelling n)) (ltb n.0 65535) (leb (depth n) 24) e in
    record {
      text_is = (bytes_eq-Decides text (spelling n)).0 t.0;
      rooted = ltb-true n.0 65535 t.1;
      shallow = leb-true (depth n) 24 t.2;
    }

spells-is_spelling : (text : List ℕ) (n : Name) → Spells text n → is_spelling text n ≡ true
spells-is_spelling text n h =
    three-are (bytes_eq text (spelling n)) (ltb n.0 65535) (leb (depth n) 24)
    ((bytes_eq-Decides text (spelling n)).1 h.text_is)
    (lt-ltb n.0 65535 h.rooted)
    (le-leb (depth n) 24 h.shallow)

pub spelling_is_one : SpellingIsOne
spelling_is_one text m n hm hn = sym (likely-spelling m hm.rooted) ∙ ap likely_name (sym hm.text_is ∙ hn.text_is) ∙ likely-spelling n hn.rooted

-- what a value that passed its test says
some-is : (b : Bool) (m n : Name) → cond b (Some m) None ≡ Some n → (b ≡ true) × (m ≡ n)
some-is true m n e = (refl, cc)
some-is false m n e = absurd (cc)

pub spelling_tells : SpellingTells
unfolding name_spelled
spelling_tells text n = (to, from) where
  to : name_spelled text ≡ Some n → Spells text n
  to e =
      let s = some-is (is_spelling text (likely_name text)) (likely_name text) n e in
      subst (Spells text) s.1 (is_spelling-spells text (likely_name text) s.0)

  from : Spells text n → name_spelled text ≡ Some n
  from h =
      let e : likely_name text ≡ n = ap likely_name h.text_is ∙ likely-spelling n h.rooted in
      (λ i. cond (is_spelling text (e i)) (Some (e i)) None) ∙ ap (λ b. cond b (Some n) None) (spells-is_spelling text n h)

-- the answer of a reader that finds what the text spells
pub told : (text : List ℕ) (r : Option Name) → MatchOption r ((n : Name) → ¬ (Spells text n)) (λ n. Spells text n) → r ≡ name_spelled text
told text (Some n) h = sym ((spelling_tells text n).1 h)
told text None h = none (name_spelled text) refl where
  none : (o : Option Name) → name_spelled text ≡ o → None ≡ name_spelled text
  none None e = sym e
  none (Some n) e = absurd (h n ((spelling_tells text n).0 e))

-- no name is spelled where no root stands before the point
pub root_missing : (text : List ℕ) → ((r : ℕ) → ¬ (IsRoot (before_first is_point text) r)) → (n : Name) → ¬ (Spells text n)
root_missing text none n h = none n.0 (record { small = h.rooted; digits_are = ap (before_first is_point) h.text_is ∙ before-spelling n.0 n.1 h.rooted })

-- a root with no point after it is a name
pub root_alone : (text : List ℕ) (r : ℕ) → position_or_len is_point text ≡ length text → IsRoot (before_first is_point text) r → Spells text (r, [])
root_alone text r e h = record {
  text_is = sym (take-length text) ∙ ap (λ k. take k text) (sym e) ∙ h.digits_are ∙ sym (append-nil (decimal r));
  rooted = h.small;
  shallow = omega arith;
}

word_text-is : (w : List Bool) → 0 < length w → word_text w ≡ 46 ∷ map letter_text (reverse w)
word_text-is [] h = absurd (omega arith)
word_text-is (b ∷ w) h = refl

word_text-some : (w : List Bool) → 0 < length (word_text w) → 0 < length w
word_text-some [] h = absurd (omega arith)
word_text-some (b ∷ w) h = omega arith

-- a point inside a spelling stands before letters
letters-some : (text : List ℕ) (n : Name) → position_or_len is_point text < length text → Spells text n → 0 < length n.1
letters-some text n inside s =
    let place : position_or_len is_point text ≡ length (decimal n.0) = ap (position_or_len is_point) s.text_is ∙ point_at n.0 n.1 s.rooted in
    let size : length text ≡ length (decimal n.0) + length (word_text n.1) = ap length s.text_is ∙ length-append (decimal n.0) (word_text n.1) in
    word_text-some n.1 (omega arith)

-- what a word after the point makes of a root before it
pub word_told : (text : List ℕ) (r : ℕ) (o : Option Name) → position_or_len is_point text < length text → IsRoot (before_first is_point text) r
    → MatchOption o ((w : List Bool) → ¬ (IsWord (after_first is_point text) w)) (λ n. (n.0 ≡ r) × IsWord (after_first is_point text) n.1)
    → MatchOption o ((n : Name) → ¬ (Spells text n)) (λ n. Spells text n)
word_told text r None inside root h = λ n s. h n.1 (record {
  some = letters-some text n inside s;
  few = s.shallow;
  letters_are = ap (after_first is_point) s.text_is ∙ after-spelling n.0 n.1 s.rooted;
})
word_told text r (Some n) inside root h =
    let point : get_or text (position_or_len is_point text) 0 ≡ 46 = eqb-true (get_or text (position_or_len is_point text) 0) 46 (passes_at_first is_point text 0 inside) in
    record {
      text_is = split_at_first is_point text 0 inside ∙ (λ i. root.digits_are i ++ (point i ∷ h.1.letters_are i)) ∙ (λ i. decimal (sym h.0 i) ++ sym (word_text-is n.1 h.1.some) i);
      rooted = omega (arith, h.0, root.small);
      shallow = h.1.few;
    }

-- no root has no digits
pub root_empty : (ds : List ℕ) → length ds ≡ 0 → (r : ℕ) → ¬ (IsRoot ds r)
root_empty ds e r h =
    let some : 0 < length (decimal r) = decimal_nonempty r (omega (arith, h.small)) in
    let same : length ds ≡ length (decimal r) = ap length h.digits_are in
    absurd (omega arith)

-- no root has a zero before other digits
pub root_zeros : (ds : List ℕ) → get_or ds 0 0 ≡ 48 → 1 < length ds → (r : ℕ) → ¬ (IsRoot ds r)
root_zeros ds z more zero h =
    let same : length ds ≡ length (decimal 0) = ap length h.digits_are in
    let one : length (decimal 0) ≡ 1 = ap length (decimal_digit 0 (omega arith)) in
    absurd (omega arith)
root_zeros ds z more (suc r) h =
    let first : 48 < get_or (decimal (suc r)) 0 0 = first_decimal (suc r) (omega arith) (omega (arith, h.small)) in
    let same : get_or ds 0 0 ≡ get_or (decimal (suc r)) 0 0 = ap (λ xs. get_or xs 0 0) h.digits_are in
    absurd (omega arith)

-- no root has a byte that is no digit
pub root_other : (ds : List ℕ) (i : ℕ) → i < length ds → (get_or ds i 0 < 48) ⊎ (57 < get_or ds i 0) → (r : ℕ) → ¬ (IsRoot ds r)
root_other ds i inside out r h =
    let same : get_or ds i 0 ≡ get_or (decimal r) i 0 = ap (λ xs. get_or xs i 0) h.digits_are in
    let size : length ds ≡ length (decimal r) = ap length h.digits_are in
    let d = digit_at (decimal r) i (digits_decimal own r (omega (arith, h.small))) (omega arith) in
    absurd (⊎_elim (λ (l : get_or ds i 0 < 48). omega (arith, d.0)) (λ (l : 57 < get_or ds i 0). omega (arith, d.1)) out)

-- no root has digits that begin with those of a greater number
pub root_large : (ds : List ℕ) (i : ℕ) → 65534 < digits_value 10 (take i ds) → (r : ℕ) → ¬ (IsRoot ds r)
root_large ds i large r h =
    let front : digits_value 10 (take i ds) ≤ digits_value 10 ds = digits_value-take-le 10 ds i (omega arith) in
    let whole : digits_value 10 ds ≡ r = ap (digits_value 10) h.digits_are ∙ digits_value-decimal own r (omega (arith, h.small)) in
    absurd (omega (arith, h.small))

-- digits without leading zeros are those of their number
pub root_whole : (ds : List ℕ) → 0 < length ds → (get_or ds 0 0 ≡ 48 → length ds ≡ 1) → AllDigits 10 ds → digits_value 10 ds < 65535 → IsRoot ds (digits_value 10 ds)
root_whole ds some lead all small = record { small = small; digits_are = sym (decimal-digits_value own ds all some lead (omega arith)) }

-- the letters of a word are 0 and 1
word_letter : (v : List Bool) (i : ℕ) → i < length v → (get_or (map letter_text v) i 0 ≡ 48) ⊎ (get_or (map letter_text v) i 0 ≡ 49)
word_letter v i inside = subst (λ c. (c ≡ 48) ⊎ (c ≡ 49)) (sym (get_or-map letter_text v i false 0 inside)) (letter (get_or v i false)) where
  letter : (b : Bool) → (letter_text b ≡ 48) ⊎ (letter_text b ≡ 49)
  letter false = inl refl
  letter true = inr refl

-- no word has another letter
pub word_other : (ls : List ℕ) (i : ℕ) → i < length ls → get_or ls i 0 ≢ 48 → get_or ls i 0 ≢ 49 → (w : List Bool) → ¬ (IsWord ls w)
word_other ls i inside no_zero no_one w h =
    let same : get_or ls i 0 ≡ get_or (map letter_text (reverse w)) i 0 = ap (λ xs. get_or xs i 0) h.letters_are in
    let size : length ls ≡ length (reverse w) = ap length h.letters_are ∙ length-map (reverse w) letter_text in
    ⊎_elim (λ (z : get_or (map letter_text (reverse w)) i 0 ≡ 48). no_zero (same ∙ z)) (λ (o : get_or (map letter_text (reverse w)) i 0 ≡ 49). no_one (same ∙ o)) (word_letter (reverse w) i (omega arith))

-- the letters that were read are those of the word
pub word_whole : (ls : List ℕ) (w : List Bool) → map letter_text w ≡ reverse ls → 0 < length w → length w ≤ 24 → IsWord ls w
word_whole ls w e some few = record {
  some = some;
  few = few;
  letters_are = sym (reverse-reverse ls) ∙ ap reverse (sym e) ∙ sym (map-reverse letter_text w);
}

-- one more letter before those that stand at the end of the room
letter_put : (room : List ℕ) (at : ℕ) (taken : List Bool) (b : Bool) (v : ℕ) → 0 < at → at ≤ length room → v ≡ letter_text b → drop at room ≡ map letter_text (reverse taken)
    → drop (at - 1) (set room (at - 1) v) ≡ map letter_text (reverse (taken ++ (b ∷ [])))
letter_put room at taken b v some within e rest =
    let inside : at - 1 < length room = omega arith in
    let back : (at - 1) + 1 ≡ at = omega arith in
    drop-set room (at - 1) v inside
    ∙ (λ i. e i ∷ drop (back i) room)
    ∙ ap (λ ls. letter_text b ∷ ls) rest
    ∙ ap (map letter_text) (sym (reverse-append taken (b ∷ [])))

-- the letters that were taken from a word, last first, stand at the end of the room
abbrev pub HasTaken : List Bool → List Bool → List ℕ → ℕ → Type 0
HasTaken word rest room start = (start ≡ length rest) × ((taken : List Bool) × (word ≡ taken ++ rest) × (drop start room ≡ letters_text taken))

pub letter_step : (word rest parent : List Bool) (side : Bool) (room : List ℕ) (start v : ℕ) → length room ≡ length word → HasTaken word rest room start → rest ≡ side ∷ parent → v ≡ letter_text side
    → HasTaken word parent (set room (start - 1) v) (start - 1)
letter_step word rest parent side room start v size inv parts digit =
    let taken = inv.1.0 in
    let count : start ≡ suc (length parent) = inv.0 ∙ ap length parts in
    let whole : length word ≡ length taken + length rest = ap length inv.1.1 ∙ length-append taken rest in
    (omega (arith, count), (taken ++ (side ∷ []), inv.1.1 ∙ ap (λ r. taken ++ r) parts ∙ sym (append_assoc taken (side ∷ []) parent), letter_put room start taken side v (omega (arith, count)) (omega (arith, whole, size, inv.0)) digit inv.1.2))

-- one more digit
pub root_more : (ds : List ℕ) (i root more : ℕ) → i < length ds → 48 ≤ get_or ds i 0 → get_or ds i 0 ≤ 57 → root ≡ digits_value 10 (take i ds) → more ≡ get_or ds i 0 - 48 → root * 10 + more ≡ digits_value 10 (take (i + 1) ds)
root_more ds i root more inside low high e digit =
    let step : digits_value 10 (take (i + 1) ds) ≡ digits_value 10 (take i ds) * 10 + digit_value (get_or ds i 0) = digits_value_more 10 ds i inside in
    let value : digit_value (get_or ds i 0) + 48 ≡ get_or ds i 0 = digit_value_digit (get_or ds i 0) (low, high) in
    omega (arith, step, value, e, digit)
