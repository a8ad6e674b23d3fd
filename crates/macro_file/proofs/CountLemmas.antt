-- The section of a key, and its one number.
use Rattle.std.proofs.Common.{◌≡◌, List, [], ◌∷◌, Bool, true, false, cond, map, ℤ, pos, Some, None, Result, Ok, ◌∙◌, refl, sym, ap}
use Rattle.std.specs.Prelude.{find, option_map}
use Rattle.macro_file.specs.declared.keyword.Keyword.{Keyword}
use Rattle.macro_file.specs.declared.section.Section.{Section as Place}
use Rattle.macro_file.specs.declared.refusal.MacroRefusal.{MacroRefusal}
use Rattle.macro_file.specs.Steps.{then}
use Rattle.macro_file.specs.Keywords.{same}
use Rattle.macro_file.specs.Sections.{Section}
use Rattle.macro_file.specs.Meaning.{numbers, number_at, single, single_in}
use Rattle.macro_file.specs.Places.{section_of}

find-section : (k : Keyword) (ss : List Place) → find (λ (s : Section). same s.keyword k) (map section_of ss) ≡ option_map section_of (find (λ (s : Place). same s.keyword k) ss)
find-section k [] = refl
find-section k (s ∷ ss) = ap (λ o. cond (same s.keyword k) (Some (section_of s)) o) (find-section k ss) ∙ by (same s.keyword k)
  where
    by : (t : Bool) → cond t (Some (section_of s)) (option_map section_of (find (λ (p : Place). same p.keyword k) ss)) ≡ option_map section_of (cond t (Some s) (find (λ (p : Place). same p.keyword k) ss))
    by true = refl
    by false = refl

pub single-none : (k : Keyword) (ss : List Place) → None ≡ find (λ (s : Place). same s.keyword k) ss → single k (map section_of ss) ≡ Ok (pos 0)
single-none k ss e = ap single_in (find-section k ss ∙ ap (option_map section_of) (sym e))

pub single-some : (k : Keyword) (ss : List Place) (s : Place) (r : Result (List ℤ) MacroRefusal) → Some s ≡ find (λ (p : Place). same p.keyword k) ss → numbers 1 (section_of s) ≡ r → single k (map section_of ss) ≡ then r (λ zs. Ok (number_at zs 0))
single-some k ss s r e h = ap single_in (find-section k ss ∙ ap (option_map section_of) (sym e)) ∙ ap (λ q. then q (λ zs. Ok (number_at zs 0))) h
