-- The four steps together.
use Rattle.std.proofs.Common.{◌≡◌, ℤ, pos, negsuc, nat_abs, List, [], ◌∷◌, Bool, true, false, not, cond, map, ◌≤◌, Option, Some, None, Ok, Err, ◌∙◌, ⊎_elim, refl, sym, ap, subst, arith, All}
use Rattle.std.specs.Prelude.{find}
use Rattle.std.specs.List.{list_any}
use Rattle.std.proofs.lemmas.Bool.{not-false, or_cases, true≢false}
use Rattle.std.proofs.lemmas.Int.{ints}
use Rattle.std.proofs.lemmas.List.Elements.{All-nil, All-head, All-tail}
use Rattle.macro_file.specs.declared.keyword.Keyword.{Keyword}
use Rattle.macro_file.specs.declared.keyword.Keyword.TheVariants.{Dim, DimOfWorld, VertexCount, ElementCount}
use Rattle.macro_file.specs.declared.refusal.Key.{Key}
use Rattle.macro_file.specs.declared.refusal.Key.TheVariants.{VertexCount as vertex_count, ElementCount as element_count, Coordinates as coordinates, Triples as triples}
use Rattle.macro_file.specs.declared.refusal.MacroRefusal.{MacroRefusal}
use Rattle.macro_file.specs.declared.refusal.MacroRefusal.TheVariants.{KeyMissing}
use Rattle.macro_file.specs.declared.counts.Counts.{Counts}
use Rattle.macro_file.specs.declared.section.Section.{Section as Place}
use Rattle.macro_file.specs.Limits.{Between, InRange}
use Rattle.macro_file.specs.Steps.{then}
use Rattle.macro_file.specs.Keywords.{same}
use Rattle.macro_file.specs.Sections.{Section, stands}
use Rattle.macro_file.specs.Meaning.{Listed, required, keyword_for, unless_missing, complete, numbers, wanted, single, counts, lists, listed, numbers_in, numbers_of, made, sections_mean}
use Rattle.macro_file.specs.Places.{section_of}
use Rattle.macro_file.proofs.SectionLemmas.{stands-map}
use Rattle.macro_file.proofs.RangeLemmas.{then-ok, each-range, numbers-range, same-true, single-range, find-passes}

-- the first key of the four that no section has
abbrev pub missing : List Place → Option Key
missing ps = find (λ key. not (list_any (λ (s : Place). same s.keyword (keyword_for key)) ps)) required

missing-map : (ps : List Place) → find (λ key. not (stands (keyword_for key) (map section_of ps))) required ≡ missing ps
missing-map ps = λ i. find (λ key. not (stands-map (keyword_for key) ps i)) required

pub key_missing : (ps : List Place) (key : Key) → Some key ≡ missing ps → sections_mean (map section_of ps) ≡ Err (KeyMissing key)
key_missing ps key h = ap (λ o. then (unless_missing o (map section_of ps)) (λ ss. then (counts ss) (λ n. then (lists n ss) (λ ls. Ok (made n ls))))) (missing-map ps ∙ sym h)

pub all_there : (ps : List Place) → None ≡ missing ps → complete (map section_of ps) ≡ Ok (map section_of ps)
all_there ps h = ap (λ o. unless_missing o (map section_of ps)) (missing-map ps ∙ sym h)

module _ (ss : List Section) (there : complete ss ≡ Ok ss) where
  pub counted : sections_mean ss ≡ then (counts ss) (λ n. then (lists n ss) (λ ls. Ok (made n ls)))
  counted = ap (λ r. then r (λ ss. then (counts ss) (λ n. then (lists n ss) (λ ls. Ok (made n ls))))) there

  pub counts_refused : (r : MacroRefusal) → counts ss ≡ Err r → sections_mean ss ≡ Err r
  counts_refused r e = counted ∙ ap (λ q. then q (λ n. then (lists n ss) (λ ls. Ok (made n ls)))) e

  pub lists_refused : (n : Counts) (r : MacroRefusal) → counts ss ≡ Ok n → lists n ss ≡ Err r → sections_mean ss ≡ Err r
  lists_refused n r e h = counted ∙ ap (λ q. then q (λ n. then (lists n ss) (λ ls. Ok (made n ls)))) e ∙ ap (λ q. then q (λ ls. Ok (made n ls))) h

  pub means_made : (n : Counts) (ls : List Listed) → counts ss ≡ Ok n → lists n ss ≡ Ok ls → sections_mean ss ≡ Ok (made n ls)
  means_made n ls e h = counted ∙ ap (λ q. then q (λ n. then (lists n ss) (λ ls. Ok (made n ls)))) e ∙ ap (λ q. then q (λ ls. Ok (made n ls))) h

find-none : {X : Type 0} (p : X → Bool) (x : X) (xs : List X) → find p (x ∷ xs) ≡ None → (p x ≡ false) × (find p xs ≡ None)
find-none p x xs e = by (p x) refl e
  where
    by : (t : Bool) → p x ≡ t → cond t (Some x) (find p xs) ≡ None → (p x ≡ false) × (find p xs ≡ None)
    by true f h = cc
    by false f h = (f, h)

complete-none : (ss : List Section) → complete ss ≡ Ok ss → find (λ key. not (stands (keyword_for key) ss)) required ≡ None
complete-none ss e = by (find (λ key. not (stands (keyword_for key) ss)) required) refl e
  where
    by : (o : Option Key) → find (λ key. not (stands (keyword_for key) ss)) required ≡ o → unless_missing o ss ≡ Ok ss → find (λ key. not (stands (keyword_for key) ss)) required ≡ None
    by None f h = f
    by (Some key) f h = cc

none-any : {X : Type 0} (p : X → Bool) (xs : List X) → find p xs ≡ None → list_any p xs ≡ true → ⊥
none-any p [] e t = true≢false (sym t)
none-any p (x ∷ xs) e t = let n = find-none p x xs e in ⊎_elim (λ h. true≢false (sym h ∙ n.0)) (λ h. none-any p xs n.1 h) (or_cases (p x) (list_any p xs) t)

-- the number of a key that is there
count_there : (k : Keyword) (ss : List Section) (z : ℤ) → stands k ss ≡ true → single k ss ≡ Ok z → InRange k z
count_there k ss z t e = ⊎_elim (λ h. h) (λ h. absurd (none-any (λ (s : Section). same s.keyword k) ss h.0 t)) (single-range k ss z e)

between_one : (z : ℤ) → Between (pos 1) (pos 65535) z → (1 ≤ nat_abs z) × (nat_abs z ≤ 65535)
between_one (pos n) b = (omega (arith, ints), omega (arith, ints))
between_one (negsuc n) b = absurd (omega (arith, ints))

-- the counts of a file that has both
pub counts-range : (ss : List Section) (n : Counts) → complete ss ≡ Ok ss → counts ss ≡ Ok n → ((1 ≤ n.vertices) × (n.vertices ≤ 65535)) × ((1 ≤ n.elements) × (n.elements ≤ 65535))
counts-range ss n there e =
    let none = complete-none ss there in
    let first = find-none (λ key. not (stands (keyword_for key) ss)) vertex_count (element_count ∷ coordinates ∷ triples ∷ []) none in
    let second = find-none (λ key. not (stands (keyword_for key) ss)) element_count (coordinates ∷ triples ∷ []) first.1 in
    let a = then-ok (single Dim ss) (λ _. then (single DimOfWorld ss) (λ _. then (single VertexCount ss) (λ v. then (single ElementCount ss) (λ w. Ok (record { vertices = nat_abs v; elements = nat_abs w }))))) n e in
    let b = then-ok (single DimOfWorld ss) (λ _. then (single VertexCount ss) (λ v. then (single ElementCount ss) (λ w. Ok (record { vertices = nat_abs v; elements = nat_abs w })))) n a.2 in
    let v = then-ok (single VertexCount ss) (λ v. then (single ElementCount ss) (λ w. Ok (record { vertices = nat_abs v; elements = nat_abs w }))) n b.2 in
    let w = then-ok (single ElementCount ss) (λ w. Ok (record { vertices = nat_abs v.0; elements = nat_abs w })) n v.2 in
    let is : record { vertices = nat_abs v.0; elements = nat_abs w.0 } ≡ n = cc in
    let P : Counts → Type 0 = λ m. ((1 ≤ m.vertices) × (m.vertices ≤ 65535)) × ((1 ≤ m.elements) × (m.elements ≤ 65535)) in
    subst P is (between_one v.0 (count_there VertexCount ss v.0 (not-false _ first.0) v.1), between_one w.0 (count_there ElementCount ss w.0 (not-false _ second.0) w.1))

find-in : {X : Type 0} (P : X → Type 0) (p : X → Bool) (xs : List X) (x : X) → All P xs → find p xs ≡ Some x → P x
find-in P p [] x all e = cc
find-in P p (y ∷ ys) x all e = by (p y) e (find-in P p ys x (All-tail P y ys all))
  where
    by : (t : Bool) → cond t (Some y) (find p ys) ≡ Some x → (find p ys ≡ Some x → P x) → P x
    by true h again = let here : y ≡ x = cc in subst P here (All-head P y ys all)
    by false h again = again h

-- the numbers of each list are in their range
pub lists-range : (n : Counts) (ss : List Section) (ls : List Listed) → lists n ss ≡ Ok ls → (k : Keyword) → All (InRange k) (numbers_of k ls)
lists-range n ss ls e k =
    let all = each-range (λ (l : Listed). All (InRange l.0) l.1) (λ (s : Section). then (numbers (wanted n s.keyword) s) (λ zs. Ok (s.keyword, zs))) ss ls one e in
    by (listed k ls) refl all.0
  where
    one : (s : Section) (l : Listed) → then (numbers (wanted n s.keyword) s) (λ zs. Ok (s.keyword, zs)) ≡ Ok l → All (InRange l.0) l.1
    one s l h = let a = then-ok (numbers (wanted n s.keyword) s) (λ zs. Ok (s.keyword, zs)) l h in
        let is : (s.keyword, a.0) ≡ l = cc in
        let P : Listed → Type 0 = λ m. All (InRange m.0) m.1 in
        subst P is (numbers-range (wanted n s.keyword) s a.0 a.1).0

    by : (o : Option Listed) → listed k ls ≡ o → All (λ (l : Listed). All (InRange l.0) l.1) ls → All (InRange k) (numbers_in o)
    by None f all = All-nil (InRange k)
    by (Some l) f all = subst (λ j. All (InRange j) l.1) (same-true l.0 k (find-passes (λ (m : Listed). same m.0 k) ls l f)) (find-in (λ (m : Listed). All (InRange m.0) m.1) (λ (m : Listed). same m.0 k) ls l all f)
