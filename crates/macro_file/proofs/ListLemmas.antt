-- The numbers of a section, one by one.
use Rattle.std.proofs.Common.{◌≡◌, ◌≢◌, ℕ, ℤ, List, [], ◌∷◌, ◌++◌, Bool, true, false, ◌==◌, cond, length, ◌+◌, ◌<◌, ◌≤◌, Result, Ok, Err, ◌∙◌, refl, sym, ap, arith}
use Rattle.std.proofs.lemmas.Bool.{eq-eqb, ne_eqb}
use Rattle.macro_file.specs.declared.refusal.MacroRefusal.{MacroRefusal}
use Rattle.macro_file.specs.declared.refusal.MacroRefusal.TheVariants.{CountDiffers}
use Rattle.macro_file.specs.Steps.{each}
use Rattle.macro_file.specs.Sections.{Token, Section}
use Rattle.macro_file.specs.Numbers.{value}
use Rattle.macro_file.specs.Meaning.{numbers}
use Rattle.macro_file.proofs.StepLemmas.{onto, each-more, each-refused, each-all, each-begin}

-- Of the words of a section these numbers are read, and these words are left.
pub record Reads (s : Section) (found : ℕ) (done : List ℤ) (left : List Token) : Type 0 where
  pub read : each (value s.keyword) s.tokens ≡ onto done (each (value s.keyword) left)
  pub counted : length s.tokens ≡ found + length left

pub none_read : (s : Section) → Reads s 0 [] s.tokens
none_read s = record { read = each-begin (value s.keyword) s.tokens; counted = omega arith }

pub one_read : (s : Section) (found : ℕ) (done items : List ℤ) (left rest : List Token) (t : Token) (z : ℤ) → Reads s found done left → left ≡ t ∷ rest → value s.keyword t ≡ Ok z → items ≡ done ++ z ∷ [] → Reads s (found + 1) items rest
one_read s found done items left rest t z r e h more = record {
  read = each-more (value s.keyword) s.tokens left t rest done z r.read e h ∙ ap (λ zs. onto zs (each (value s.keyword) rest)) (sym more);
  counted = omega (arith, r.counted, ap length e);
}

differs : (s : Section) (wanted found : ℕ) → length s.tokens ≡ found → found ≢ wanted → numbers wanted s ≡ Err (CountDiffers s.line wanted found)
differs s wanted found e ne = ap (λ t. cond t (each (value s.keyword) s.tokens) (Err (CountDiffers s.line wanted (length s.tokens)))) (ne_eqb (length s.tokens) wanted (λ h. ne (sym e ∙ h))) ∙ ap (λ n. Err (CountDiffers s.line wanted n)) e

-- too few words, or too many
pub few : (s : Section) (wanted found : ℕ) (done : List ℤ) (left : List Token) → Reads s found done left → left ≡ [] → found < wanted → numbers wanted s ≡ Err (CountDiffers s.line wanted found)
few s wanted found done left r e h = differs s wanted found (omega (arith, r.counted, ap length e)) (λ same. absurd (omega arith))

pub many : (s : Section) (wanted more : ℕ) (done : List ℤ) (left : List Token) → Reads s wanted done left → more ≡ length left → 0 < more → numbers wanted s ≡ Err (CountDiffers s.line wanted (wanted + more))
many s wanted more done left r e h = differs s wanted (wanted + more) (omega (arith, r.counted)) (λ same. absurd (omega arith))

choose : (b : Bool) (r q : MacroRefusal) → ◌≡◌ {A = Result (List ℤ) MacroRefusal} (cond b (Err r) (Err q)) (Err (cond b r q))
choose true r q = refl
choose false r q = refl

-- a word that is refused
pub refused : (s : Section) (wanted found more : ℕ) (done : List ℤ) (left rest : List Token) (t : Token) (r : MacroRefusal) → Reads s found done left → left ≡ t ∷ rest → more ≡ length rest → value s.keyword t ≡ Err r →
    numbers wanted s ≡ Err (cond (found + 1 + more == wanted) r (CountDiffers s.line wanted (found + 1 + more)))
refused s wanted found more done left rest t r reads e m h =
    let all : length s.tokens ≡ found + 1 + more = omega (arith, reads.counted, ap length e) in
    (λ i. cond (all i == wanted) (each-refused (value s.keyword) s.tokens left t rest done r reads.read e h i) (Err (CountDiffers s.line wanted (all i)))) ∙ choose (found + 1 + more == wanted) r (CountDiffers s.line wanted (found + 1 + more))

pub all_read : (s : Section) (wanted more : ℕ) (done : List ℤ) (left : List Token) → Reads s wanted done left → more ≡ length left → more ≤ 0 → numbers wanted s ≡ Ok done
all_read s wanted more done left r e h =
    let count : length s.tokens ≡ wanted = omega (arith, r.counted) in
    ap (λ t. cond t (each (value s.keyword) s.tokens) (Err (CountDiffers s.line wanted (length s.tokens)))) (eq-eqb (length s.tokens) wanted count)
    ∙ each-all (value s.keyword) s.tokens left done r.read (nothing left (omega arith))
  where
    nothing : (ts : List Token) → length ts ≤ 0 → ts ≡ []
    nothing [] k = refl
    nothing (t ∷ ts) k = absurd (omega arith)
