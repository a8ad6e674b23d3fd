-- Places and members have different numbers.
use Rattle.std.proofs.Common.{◌≡◌, ℕ, ◌+◌, ◌-◌, ◌*◌, ◌/◌, ◌%◌, ◌<◌, ◌≤◌, Bool, true, false, cond, ltb, eqb, refl, sym, ap, ◌∙◌, subst, arith, ltb-true, lt-ltb}
use native.Mathlib.Decide.{dec_lt}
use Rattle.table_words.specs.declared.layout.Layout.{Layout}
use Rattle.table_words.specs.declared.layout.ElemAt.{ElemAt}
use Rattle.table_words.specs.declared.layout.ElemAt.TheVariants.{Macro, Child}
use Rattle.mesh_names.specs.Names.{digit}
use Rattle.table_words.specs.Layout.{IsElemAt, OfBlock, NameOf, HistoryOf}
use Rattle.table_words.specs.Words.{NumbersTell}
use Rattle.table_words.specs.Places.{member_of, child_place, place_count, place_number, place_at, PlacesNumbered}

-- a member's number tells its block and its side
pub member_one : (b c : ℕ) (s t : Bool) → member_of b s ≡ member_of c t → (b ≡ c) × (s ≡ t)
member_one b c true true e = (omega arith, refl)
member_one b c true false e = absurd (omega arith)
member_one b c false true e = absurd (omega arith)
member_one b c false false e = (omega arith, refl)

-- a child's place tells its block, its member and its side
pub child_one : (e b c : ℕ) (s t u v : Bool) → child_place e b s t ≡ child_place e c u v → (b ≡ c) × (s ≡ u) × (t ≡ v)
child_one e b c true true true true h = (omega arith, refl, refl)
child_one e b c true true true false h = absurd (omega arith)
child_one e b c true true false true h = absurd (omega arith)
child_one e b c true true false false h = absurd (omega arith)
child_one e b c true false true true h = absurd (omega arith)
child_one e b c true false true false h = (omega arith, refl, refl)
child_one e b c true false false true h = absurd (omega arith)
child_one e b c true false false false h = absurd (omega arith)
child_one e b c false true true true h = absurd (omega arith)
child_one e b c false true true false h = absurd (omega arith)
child_one e b c false true false true h = (omega arith, refl, refl)
child_one e b c false true false false h = absurd (omega arith)
child_one e b c false false true true h = absurd (omega arith)
child_one e b c false false true false h = absurd (omega arith)
child_one e b c false false false true h = absurd (omega arith)
child_one e b c false false false false h = (omega arith, refl, refl)

-- a child's place is no macro element's
pub child_outside : (e b : ℕ) (s c : Bool) → child_place e b s c < e → ⊥
child_outside e b s c l = omega arith

not_less : (x n : ℕ) → n ≤ x → ltb x n ≡ false
not_less x n l = by (ltb x n) refl
  where
    by : (t : Bool) → ltb x n ≡ t → ltb x n ≡ false
    by true e = let h = ltb-true x n e in absurd (omega arith)
    by false e = e

pub macro_place : (l : Layout) (x : ℕ) → x < l.elements → place_at l x ≡ Macro x
macro_place l x h = ap (λ (t : Bool). cond t (Macro x) (Child ((x - l.elements) / 4) ((x - l.elements) % 4))) (lt-ltb x l.elements h)

pub block_place : (l : Layout) (x : ℕ) → l.elements ≤ x → place_at l x ≡ Child ((x - l.elements) / 4) ((x - l.elements) % 4)
block_place l x h = ap (λ (t : Bool). cond t (Macro x) (Child ((x - l.elements) / 4) ((x - l.elements) % 4))) (not_less x l.elements h)

place_to : (l : Layout) (at : ElemAt) → IsElemAt l at → (place_number l at < place_count l) × (place_at l (place_number l at) ≡ at)
place_to l (Macro x) h = (omega arith, macro_place l x h)
place_to l (Child b c) h =
    let m = h.0 in let k = h.1 in
    let p : (l.elements + 4 * b + c - l.elements) / 4 ≡ b = omega arith in
    let q : (l.elements + 4 * b + c - l.elements) % 4 ≡ c = omega arith in
    (omega arith, block_place l (l.elements + 4 * b + c) (omega arith) ∙ (λ i. Child (p i) (q i)))

place_back : (l : Layout) (x : ℕ) → x < place_count l → IsElemAt l (place_at l x) × (place_number l (place_at l x) ≡ x)
place_back l x h = elim (dec_lt x l.elements) [
  | yes a ↦ subst (λ at. IsElemAt l at × (place_number l at ≡ x)) (sym (macro_place l x a)) (a, refl)
  | no a ↦ subst (λ at. IsElemAt l at × (place_number l at ≡ x)) (sym (block_place l x (omega arith))) ((omega arith, omega arith), omega arith)
]

pub places_numbered : PlacesNumbered
places_numbered l = (place_to l, place_back l)

child_at : (l : Layout) (b : ℕ) (t c : Bool) (i : ℕ) → i ≡ 2 * digit t + digit c → place_at l (child_place l.elements b t c) ≡ Child b i
child_at l b t c i e =
    let low : digit c < 2 = small c in let two : digit t < 2 = small t in
    let p : (child_place l.elements b t c - l.elements) / 4 ≡ b = omega arith in
    let q : (child_place l.elements b t c - l.elements) % 4 ≡ i = omega arith in
    block_place l (child_place l.elements b t c) (omega arith) ∙ (λ j. Child (p j) (q j))
  where
    small : (u : Bool) → digit u < 2
    small true = omega arith
    small false = omega arith

member_side : (b : ℕ) (t : Bool) → (member_of b t / 2 ≡ b) × (eqb (member_of b t % 2) 1 ≡ t)
member_side b true = let p : (2 * b + 1) % 2 ≡ 1 = omega arith in (omega arith, ap (λ i. eqb i 1) p)
member_side b false = let p : (2 * b + 0) % 2 ≡ 0 = omega arith in (omega arith, ap (λ i. eqb i 1) p)

pub numbers_tell : NumbersTell
numbers_tell = record {
  names = λ b t. let p = member_side b t in λ i. OfBlock (p.0 i) (NameOf (p.1 i));
  histories = λ b t. let p = member_side b t in λ i. OfBlock (p.0 i) (HistoryOf (p.1 i));
  tops = macro_place;
  firsts = λ l b. (child_at l b false false 0 refl, child_at l b false true 1 refl);
  seconds = λ l b. (child_at l b true false 2 refl, child_at l b true true 3 refl);
}
