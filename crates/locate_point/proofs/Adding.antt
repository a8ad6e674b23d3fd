-- The points of a file, line by line.
use Rattle.std.proofs.Common.{◌≡◌, ℕ, List, [], ◌∷◌, ◌++◌, ◌+◌, ◌<◌, ◌≤◌, length, refl, sym, ap, subst, ◌∙◌, append_assoc, arith}
use Rattle.std.specs.Prelude.{ℤ, Option, Some, None, Result, Ok, Err, All, IfSome}
use Rattle.std.proofs.lemmas.List.Elements.{All-push}
use denote.Ref.{Bor}
use Rattle.mesh_io.specs.Decimals.{fine_units}
use Rattle.mesh_io.specs.declared.decimal.DecimalRefusal.{DecimalRefusal}
use Rattle.mesh_io.specs.declared.decimal.DecimalRefusal.TheVariants.{NotANumber, CoordRange}
use Rattle.macro_file.specs.Limits.{AtMost}
use Rattle.macro_file.specs.Lines.{lines, words}
use Rattle.macro_file.specs.Numbers.{coordinate}
use Rattle.macro_file.specs.declared.keyword.Keyword.TheVariants.{Coordinates}
use Rattle.macro_file.proofs.RangeLemmas.{value-range}
use Rattle.compat_check.specs.Points.{Point}
use Rattle.compat_check.specs.Within.{IsWithin}
use Rattle.locate_point.specs.declared.refusal.PointRefusal.{PointRefusal}
use Rattle.locate_point.specs.PointsFile.{line_point, onto, point_by, points_in, points_of_lines, some_point}
use Rattle.locate_point.specs.Reading.{Continues, left_size, lines_after, points_then}

-- fine units are within the range
units-within : (token : List ℕ) (z : ℤ) → fine_units token ≡ Ok z → AtMost 4096000000000000000 z
units-within token z e = value-range Coordinates (0, token) z (ap (coordinate 0) e)

by-within : (line : ℕ) (r s : Result ℤ DecimalRefusal) (p : Point) → ((z : ℤ) → r ≡ Ok z → AtMost 4096000000000000000 z) → ((z : ℤ) → s ≡ Ok z → AtMost 4096000000000000000 z) → point_by line r s ≡ Ok p → IsWithin p
by-within line (Ok x) (Ok y) p f g e = let same : (x, y) ≡ p = cc in subst IsWithin same (f x refl, g y refl)
by-within line (Ok x) (Err r) p f g e = absurd (cc)
by-within line (Err NotANumber) s p f g e = absurd (cc)
by-within line (Err CoordRange) (Ok y) p f g e = absurd (cc)
by-within line (Err CoordRange) (Err r) p f g e = absurd (cc)

some_ok : (r : Result Point PointRefusal) (p : Point) → some_point r ≡ Ok (Some p) → r ≡ Ok p
some_ok (Ok q) p e = cc
some_ok (Err r) p e = absurd (cc)

-- the point of a line is within the range
pub line-within : (line : ℕ) (ws : List (List ℕ)) (p : Point) → line_point line ws ≡ Ok (Some p) → IsWithin p
line-within line [] p e = absurd (cc)
line-within line (a ∷ []) p e = absurd (cc)
line-within line (a ∷ b ∷ []) p e = by-within line (fine_units a) (fine_units b) p (units-within a) (units-within b) (some_ok (point_by line (fine_units a) (fine_units b)) p e)
line-within line (a ∷ b ∷ c ∷ more) p e = absurd (cc)

pub push-within : (ps qs : List Point) (line : ℕ) (ws : List (List ℕ)) (p : Point) → Ok (Some p) ≡ line_point line ws → qs ≡ ps ++ p ∷ [] → All IsWithin ps → All IsWithin qs
push-within ps qs line ws p e q all = subst (All IsWithin) (sym q) (All-push IsWithin ps p all (line-within line ws p (sym e)))

-- what a line adds
continued : (ps qs : List Point) (r : Result (Option Point) PointRefusal) (rest : Result (List Point) PointRefusal) → Continues ps r qs → points_then ps (onto r rest) ≡ points_then qs rest
continued ps qs (Ok None) rest same = ap (λ xs. points_then xs rest) (sym same)
continued ps qs (Ok (Some p)) (Ok xs) same = ap Ok (sym (append_assoc ps (p ∷ []) xs) ∙ ap (λ ys. ys ++ xs) (sym same))
continued ps qs (Ok (Some p)) (Err r) same = refl
continued ps qs (Err r) rest none = absurd none

pub line-continues : (bytes : List ℕ) (ps qs : List Point) (line : ℕ) (left : Option (Bor (List ℕ))) (text : Bor (List ℕ)) (front : List ℕ) (after : Option (Bor (List ℕ))) →
    points_in bytes ≡ points_then ps (points_of_lines line (lines_after left)) → left ≡ Some text → lines text.now ≡ front ∷ lines_after after → Continues ps (line_point line (words front)) qs →
    points_in bytes ≡ points_then qs (points_of_lines (line + 1) (lines_after after))
line-continues bytes ps qs line left text front after known is here adds =
    known ∙ ap (λ o. points_then ps (points_of_lines line (lines_after o))) is ∙ ap (λ ls. points_then ps (points_of_lines line ls)) here ∙ continued ps qs (line_point line (words front)) (points_of_lines (line + 1) (lines_after after)) adds

-- fewer bytes are left after a line
pub fewer_left : (left : Option (Bor (List ℕ))) (text : Bor (List ℕ)) (after : Option (Bor (List ℕ))) (line bound : ℕ) → left ≡ Some text → IfSome after (λ rest. length rest.now < length text.now) → line + left_size left ≤ bound → line + 1 + left_size after ≤ bound
fewer_left left text None line bound e h k = let s : left_size left ≡ 1 + length text.now = ap left_size e in omega (arith, s, k)
fewer_left left text (Some rest) line bound e h k = let s : left_size left ≡ 1 + length text.now = ap left_size e in omega (arith, s, h, k)
