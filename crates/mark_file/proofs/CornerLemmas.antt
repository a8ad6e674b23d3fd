-- A corner has one spelling.
use Rattle.std.proofs.Common.{◌≡◌, ℕ, zero, suc, ◌+◌, ◌-◌, ◌<◌, Bool, true, false, cond, [], ◌∷◌, ◌++◌, length, take, drop, Option, Some, None, sym, refl, ap, ◌∙◌, arith}
use Rattle.std.specs.Prelude.{bytes_eq, codes}
use Rattle.std.specs.Option.{option_map, option_and_then}
use Rattle.std.proofs.lemmas.List.{length-append, take-append-drop}
use Rattle.std.proofs.lemmas.Slice.Eq.{bytes_eq-Decides}
use Rattle.std.proofs.Math.Seq.{take-append_seam, drop-append_seam}
use Rattle.mesh_names.specs.Names.{Name}
use Rattle.mesh_names.specs.Spelling.{name_spelled}
use Rattle.mesh_names.proofs.SpelledNames.{spelling_tells}
use Rattle.mesh_names.specs.declared.rows.Place.TheVariants.{Corner}
use Rattle.mark_file.specs.Fields.{Field, corner_number, corner_in}
use Rattle.mark_file.specs.Corners.{CornersTell, SpellsCorner}

-- the two bytes of a corner
abbrev ending_of : ℕ → Field
ending_of k = 47 ∷ (48 + k) ∷ []

number-ending : (ending : Field) (k : ℕ) → corner_number ending ≡ Some k → (k < 3) × (ending ≡ ending_of k)
unfolding corner_number
number-ending ending k h = by (bytes_eq ending (codes "/0")) (bytes_eq ending (codes "/1")) (bytes_eq ending (codes "/2")) refl refl refl h where
  by : (a b c : Bool) → bytes_eq ending (codes "/0") ≡ a → bytes_eq ending (codes "/1") ≡ b → bytes_eq ending (codes "/2") ≡ c → cond a (Some 0) (cond b (Some 1) (cond c (Some 2) None)) ≡ Some k → (k < 3) × (ending ≡ ending_of k)
  by true b c ea eb ec h = let same : 0 ≡ k = cc in (omega (arith, same), (bytes_eq-Decides ending (codes "/0")).0 ea ∙ ap ending_of same)
  by false true c ea eb ec h = let same : 1 ≡ k = cc in (omega (arith, same), (bytes_eq-Decides ending (codes "/1")).0 eb ∙ ap ending_of same)
  by false false true ea eb ec h = let same : 2 ≡ k = cc in (omega (arith, same), (bytes_eq-Decides ending (codes "/2")).0 ec ∙ ap ending_of same)
  by false false false ea eb ec h = absurd (cc)

ending-number : (k : ℕ) → k < 3 → corner_number (ending_of k) ≡ Some k
unfolding corner_number
ending-number zero h = refl
ending-number (suc zero) h = refl
ending-number (suc (suc zero)) h = refl
ending-number (suc (suc (suc k))) h = absurd (omega (arith, h))

-- both parts of a corner's field were read
both_read : (number : Option ℕ) (name : Option Name) (n : Name) (k : ℕ) → option_and_then (λ j. option_map (λ m. Corner m j) name) number ≡ Some (Corner n k) → (number ≡ Some k) × (name ≡ Some n)
both_read None name n k h = absurd (cc)
both_read (Some j) None n k h = absurd (cc)
both_read (Some j) (Some m) n k h =
    let same_number : j ≡ k = cc in
    let same_name : m ≡ n = cc in
    (ap Some same_number, ap Some same_name)

pub corners_tell : CornersTell
unfolding corner_in
corners_tell field n k = (to, from) where
  to : corner_in field ≡ Some (Corner n k) → SpellsCorner field n k
  to h =
      let front = length field - 2 in
      let read = both_read (corner_number (drop front field)) (name_spelled (take front field)) n k h in
      let ending = number-ending (drop front field) k read.0 in
      record {
        element = take front field;
        spells = (spelling_tells (take front field) n).0 read.1;
        field_is = sym (take-append-drop front field) ∙ ap (λ (e : Field). take front field ++ e) ending.1;
        within = ending.0;
      }

  from : SpellsCorner field n k → corner_in field ≡ Some (Corner n k)
  from h =
      let whole = ap length h.field_is ∙ length-append h.element (ending_of k) in
      let size : length field - 2 ≡ length h.element = omega (arith, whole) in
      let front : take (length field - 2) field ≡ h.element = (λ i. take (size i) (h.field_is i)) ∙ take-append_seam h.element (ending_of k) in
      let back : drop (length field - 2) field ≡ ending_of k = (λ i. drop (size i) (h.field_is i)) ∙ drop-append_seam h.element (ending_of k) in
      let spelled : name_spelled (take (length field - 2) field) ≡ Some n = ap name_spelled front ∙ (spelling_tells h.element n).1 h.spells in
      let number : corner_number (drop (length field - 2) field) ≡ Some k = ap corner_number back ∙ ending-number k h.within in
      λ i. option_and_then (λ j. option_map (λ m. Corner m j) (spelled i)) (number i)
