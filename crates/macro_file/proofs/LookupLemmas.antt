-- The list of a key.
use Rattle.std.proofs.Common.{◌≡◌, List, [], ◌∷◌, Bool, true, false, cond, map, Option, Some, None, ◌∙◌, refl, sym, ap}
use Rattle.std.specs.Prelude.{find, option_map, is_some}
use denote.Bor.{Bor}
use Rattle.macro_file.specs.declared.keyword.Keyword.{Keyword}
use Rattle.macro_file.specs.declared.lists.NumberList.{NumberList}
use Rattle.macro_file.specs.Keywords.{same}
use Rattle.macro_file.specs.Meaning.{listed, numbers_in, numbers_of}
use Rattle.macro_file.specs.Places.{listed_of}

abbrev found : Keyword → List NumberList → Option NumberList
found k ls = find (λ (l : NumberList). same l.keyword k) ls

listed-map : (k : Keyword) (ls : List NumberList) → listed k (map listed_of ls) ≡ option_map listed_of (found k ls)
listed-map k [] = refl
listed-map k (l ∷ ls) = ap (λ o. cond (same l.keyword k) (Some (listed_of l)) o) (listed-map k ls) ∙ by (same l.keyword k)
  where
    by : (t : Bool) → cond t (Some (listed_of l)) (option_map listed_of (found k ls)) ≡ option_map listed_of (cond t (Some l) (found k ls))
    by true = refl
    by false = refl

pub given : (k : Keyword) (ls : List NumberList) (o : Option (Bor NumberList)) → option_map (λ (l : Bor NumberList). l.now) o ≡ find (λ (l : NumberList). same l.keyword k) ls → is_some o ≡ is_some (listed k (map listed_of ls))
given k ls o e = by o ∙ sym (ap is_some (listed-map k ls ∙ ap (option_map listed_of) (sym e)))
  where
    by : (p : Option (Bor NumberList)) → is_some p ≡ is_some (option_map listed_of (option_map (λ (l : Bor NumberList). l.now) p))
    by None = refl
    by (Some l) = refl

pub numbers-some : (k : Keyword) (ls : List NumberList) (l : NumberList) → Some l ≡ find (λ (l : NumberList). same l.keyword k) ls → l.numbers.items ≡ numbers_of k (map listed_of ls)
numbers-some k ls l e = sym (ap numbers_in (listed-map k ls ∙ ap (option_map listed_of) (sym e)))

pub numbers-none : (k : Keyword) (ls : List NumberList) → None ≡ find (λ (l : NumberList). same l.keyword k) ls → [] ≡ numbers_of k (map listed_of ls)
numbers-none k ls e = sym (ap numbers_in (listed-map k ls ∙ ap (option_map listed_of) (sym e)))
