-- The numbers that are read lie in their ranges.
use Rattle.std.proofs.Common.{◌≡◌, ℕ, zero, suc, ℤ, pos, negsuc, neg_ℤ, nat_abs, List, [], ◌∷◌, Bool, true, false, ◌==◌, nat_le, cond, length, get_or, ◌≤◌, ◌^◌, Option, Some, None, Result, Ok, Err, ◌∙◌, ◌⊎◌, inl, inr, ⊎_elim, refl, sym, ap, subst, arith, All}
use Rattle.std.specs.Prelude.{int_lt, find}
use Rattle.std.proofs.lemmas.Bool.{eqb-true, leb-true}
use Rattle.std.proofs.lemmas.Int.{ints}
use Rattle.std.proofs.lemmas.List.Elements.{All-nil, All-cons}
use Rattle.mesh_io.specs.Decimals.{Decimal, units, with_sign, greatest_units, measured, decimal_of, fine_units}
use Rattle.mesh_io.specs.declared.decimal.DecimalRefusal.{DecimalRefusal}
use Rattle.mesh_io.specs.declared.decimal.DecimalRefusal.TheVariants.{NotANumber as not_a_number, CoordRange as out_of_range}
use Rattle.macro_file.specs.declared.keyword.Keyword.{Keyword}
use Rattle.macro_file.specs.declared.keyword.Keyword.TheVariants.{Dim, DimOfWorld, VertexCount, ElementCount, Coordinates, Triples, Labels, Neighbours, VertexValues, ElementValues}
use Rattle.macro_file.specs.declared.refusal.MacroRefusal.{MacroRefusal}
use Rattle.macro_file.specs.declared.refusal.MacroRefusal.TheVariants.{BadNumber, TooMany, ValueRange, CountDiffers}
use Rattle.macro_file.specs.Limits.{AtMost, Between, InRange}
use Rattle.macro_file.specs.Steps.{then, each}
use Rattle.macro_file.specs.Keywords.{keywords, place, same}
use Rattle.macro_file.specs.Sections.{Token, Section}
use Rattle.macro_file.specs.Numbers.{whole, bounded, coordinate, value}
use Rattle.macro_file.specs.Meaning.{numbers, number_at, single, single_in}

-- what a step that goes on has given
pub then-ok : {A B R : Type 0} (r : Result A R) (next : A → Result B R) (y : B) → then r next ≡ Ok y → (x : A) × (r ≡ Ok x) × (next x ≡ Ok y)
then-ok (Ok x) next y e = (x, refl, e)
then-ok (Err r) next y e = cc

between-from : (least greatest z : ℤ) → int_lt z least ≡ false → int_lt greatest z ≡ false → Between least greatest z
between-from least greatest z e f = (grind (arith, ints), grind (arith, ints))

bounded-range : (least greatest z : ℤ) (below above : ℕ → MacroRefusal) (line : ℕ) (o : Option ℤ) → bounded least greatest below above line o ≡ Ok z → Between least greatest z
bounded-range least greatest z below above line None e = cc
bounded-range least greatest z below above line (Some w) e = by (int_lt w least) (int_lt greatest w) refl refl e
  where
    by : (t u : Bool) → int_lt w least ≡ t → int_lt greatest w ≡ u → ◌≡◌ {A = Result ℤ MacroRefusal} (cond t (Err (below line)) (cond u (Err (above line)) (Ok w))) (Ok z) → Between least greatest z
    by true u f g h = cc
    by false true f g h = cc
    by false false f g h = let same : w ≡ z = cc in subst (Between least greatest) same (between-from least greatest w f g)

at_most : (limit : ℕ) (z : ℤ) → Between (neg_ℤ (pos limit)) (pos limit) z → AtMost limit z
at_most limit (pos n) h = omega (arith, ints)
at_most limit (negsuc n) h = omega (arith, ints)

size-with_sign : (minus : Bool) (n : ℕ) → nat_abs (with_sign minus n) ≡ n
size-with_sign true zero = refl
size-with_sign true (suc n) = refl
size-with_sign false n = refl

measured-range : (o : Option Decimal) (z : ℤ) → measured o ≡ Ok z → AtMost 4096000000000000000 z
measured-range None z e = cc
measured-range (Some x) z e = by (nat_le (units x) greatest_units) refl e
  where
    by : (t : Bool) → nat_le (units x) greatest_units ≡ t → ◌≡◌ {A = Result ℤ DecimalRefusal} (cond t (Ok (with_sign x.minus (units x))) (Err out_of_range)) (Ok z) → AtMost 4096000000000000000 z
    by true f h = let same : with_sign x.minus (units x) ≡ z = cc in subst (AtMost 4096000000000000000) same (subst (λ k. k ≤ 4096000000000000000) (sym (size-with_sign x.minus (units x))) (leb-true (units x) greatest_units f))
    by false f h = cc

coordinate-range : (line : ℕ) (r : Result ℤ DecimalRefusal) (z : ℤ) → ((w : ℤ) → r ≡ Ok w → AtMost 4096000000000000000 w) → coordinate line r ≡ Ok z → AtMost 4096000000000000000 z
coordinate-range line (Ok w) z h e = let same : w ≡ z = cc in subst (AtMost 4096000000000000000) same (h w refl)
coordinate-range line (Err not_a_number) z h e = cc
coordinate-range line (Err out_of_range) z h e = cc

pub value-range : (k : Keyword) (t : Token) (z : ℤ) → value k t ≡ Ok z → InRange k z
value-range Dim t z e = bounded-range _ _ z BadNumber BadNumber t.0 (whole t.1) e
value-range DimOfWorld t z e = bounded-range _ _ z BadNumber BadNumber t.0 (whole t.1) e
value-range VertexCount t z e = bounded-range _ _ z BadNumber TooMany t.0 (whole t.1) e
value-range ElementCount t z e = bounded-range _ _ z BadNumber TooMany t.0 (whole t.1) e
value-range Coordinates t z e = coordinate-range t.0 (fine_units t.1) z (λ w h. measured-range (decimal_of t.1) w h) e
value-range Triples t z e = bounded-range _ _ z BadNumber BadNumber t.0 (whole t.1) e
value-range Labels t z e = bounded-range _ _ z BadNumber BadNumber t.0 (whole t.1) e
value-range Neighbours t z e = bounded-range _ _ z BadNumber BadNumber t.0 (whole t.1) e
value-range VertexValues t z e = at_most (2 ^ 31) z (bounded-range _ _ z ValueRange ValueRange t.0 (whole t.1) e)
value-range ElementValues t z e = at_most (2 ^ 55) z (bounded-range _ _ z ValueRange ValueRange t.0 (whole t.1) e)

-- what holds of what a step gives holds of what it gives of each
pub each-range : {A B R : Type 0} (P : B → Type 0) (f : A → Result B R) (xs : List A) (ys : List B) → ((x : A) (y : B) → f x ≡ Ok y → P y) → each f xs ≡ Ok ys → All P ys × (length ys ≡ length xs)
each-range P f [] ys h e = let none : [] ≡ ys = cc in subst (λ zs. All P zs × (length zs ≡ 0)) none (All-nil P, refl)
each-range P f (x ∷ xs) ys h e =
    let a = then-ok (f x) (λ y. then (each f xs) (λ zs. Ok (y ∷ zs))) ys e in
    let b = then-ok (each f xs) (λ zs. Ok (a.0 ∷ zs)) ys a.2 in
    let rest = each-range P f xs b.0 h b.1 in
    let same : a.0 ∷ b.0 ≡ ys = cc in
    subst (λ zs. All P zs × (length zs ≡ suc (length xs))) same (All-cons P a.0 b.0 (h x a.0 a.1) rest.0, ap suc rest.1)

pub numbers-range : (wanted : ℕ) (s : Section) (zs : List ℤ) → numbers wanted s ≡ Ok zs → All (InRange s.keyword) zs × (length zs ≡ wanted)
numbers-range wanted s zs e = by (length s.tokens == wanted) refl e
  where
    by : (t : Bool) → (length s.tokens == wanted) ≡ t → cond t (each (value s.keyword) s.tokens) (Err (CountDiffers s.line wanted (length s.tokens))) ≡ Ok zs → All (InRange s.keyword) zs × (length zs ≡ wanted)
    by true f h = let r = each-range (InRange s.keyword) (value s.keyword) s.tokens zs (value-range s.keyword) h in (r.0, r.1 ∙ eqb-true _ _ f)
    by false f h = cc

placed : (k : Keyword) → get_or keywords (place k) Dim ≡ k
placed Dim = refl
placed DimOfWorld = refl
placed VertexCount = refl
placed ElementCount = refl
placed Coordinates = refl
placed Triples = refl
placed Labels = refl
placed Neighbours = refl
placed VertexValues = refl
placed ElementValues = refl

pub same-true : (a b : Keyword) → same a b ≡ true → a ≡ b
same-true a b e = sym (placed a) ∙ ap (λ n. get_or keywords n Dim) (eqb-true (place a) (place b) e) ∙ placed b

pub find-passes : {X : Type 0} (p : X → Bool) (xs : List X) (x : X) → find p xs ≡ Some x → p x ≡ true
find-passes p [] x e = cc
find-passes p (y ∷ ys) x e = by (p y) refl e (find-passes p ys x)
  where
    by : (t : Bool) → p y ≡ t → cond t (Some y) (find p ys) ≡ Some x → (find p ys ≡ Some x → p x ≡ true) → p x ≡ true
    by true f h again = let here : y ≡ x = cc in sym (ap p here) ∙ f
    by false f h again = again h

-- the one number of a key: in its range, where the key is there
pub single-range : (k : Keyword) (ss : List Section) (z : ℤ) → single k ss ≡ Ok z → InRange k z ⊎ ((find (λ (s : Section). same s.keyword k) ss ≡ None) × (z ≡ pos 0))
single-range k ss z e = by (find (λ (s : Section). same s.keyword k) ss) refl e
  where
    by : (o : Option Section) → find (λ (s : Section). same s.keyword k) ss ≡ o → single_in o ≡ Ok z → InRange k z ⊎ ((find (λ (s : Section). same s.keyword k) ss ≡ None) × (z ≡ pos 0))
    by None f h = inr (f, (let zero_is : pos 0 ≡ z = cc in sym zero_is))
    by (Some s) f h =
        let a = then-ok (numbers 1 s) (λ zs. Ok (number_at zs 0)) z h in
        let r = numbers-range 1 s a.0 a.1 in
        let key : s.keyword ≡ k = same-true s.keyword k (find-passes (λ (p : Section). same p.keyword k) ss s f) in
        let same_number : number_at a.0 0 ≡ z = cc in
        inl (subst (λ w. InRange k w) same_number (subst (λ j. InRange j (number_at a.0 0)) key (r.0 0 (pos 0) (omega (arith, r.1)))))

pub count-small : (z : ℤ) (n : ℕ) → Between (pos 1) (pos 65535) z ⊎ (z ≡ pos 0) → n ≡ nat_abs z → n ≤ 65535
count-small (pos m) n h e = ⊎_elim (λ b. omega (arith, ints)) (λ zero_is. omega (arith, ap nat_abs zero_is)) h
count-small (negsuc m) n h e = ⊎_elim (λ b. absurd (omega (arith, ints))) (λ zero_is. absurd cc) h

or_zero : {A B : Type 0} (z : ℤ) → A ⊎ (B × (z ≡ pos 0)) → A ⊎ (z ≡ pos 0)
or_zero z (inl a) = inl a
or_zero z (inr b) = inr b.1

pub vertices_small : (ss : List Section) (z : ℤ) (n : ℕ) → single VertexCount ss ≡ Ok z → n ≡ nat_abs z → n ≤ 65535
vertices_small ss z n e = count-small z n (or_zero z (single-range VertexCount ss z e))

pub elements_small : (ss : List Section) (z : ℤ) (n : ℕ) → single ElementCount ss ≡ Ok z → n ≡ nat_abs z → n ≤ 65535
elements_small ss z n e = count-small z n (or_zero z (single-range ElementCount ss z e))
