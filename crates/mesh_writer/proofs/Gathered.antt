-- From the results of the pieces to the text of all.
use Rattle.std.proofs.Common.{◌≡◌, ℕ, ◌<◌, List, [], ◌∷◌, ◌++◌, map, refl, sym, ap, ◌∙◌, subst}
use Rattle.std.specs.Prelude.{IfOk, Ok, Err, Result, Vec, MatchResult, Contains}
use Rattle.std.specs.declared.alloc.Global.{Global}
use Rattle.std.specs.declared.alloc.AllocError.{AllocError}
use Rattle.std.specs.List.{AllZip, flat_map}
use Rattle.std.proofs.lemmas.List.{map-append}
use Rattle.rayon.specs.Lists.{chunks_of}
use Rattle.rayon.proofs.ToStd.{chunks_of-concat}
use Rattle.macro_file.specs.Written.{lines_text}
use Rattle.macro_file.proofs.WriterLemmas.{lines-append}
use denote.Bor.{Bor}

abbrev pub Bytes : Type 0
Bytes = Vec ℕ Global

abbrev pub bytes_of : Bytes → List ℕ
bytes_of piece = piece.items

module _ {X : Type 0} (text : List X → List ℕ) where
  abbrev pub Wrote : List X → Result Bytes AllocError → Type 0
  Wrote run r = IfOk r (λ t. t.items ≡ text run)

  texts : (zs : List (Bor (List X))) (ys : List Bytes) → AllZip (λ z r. Wrote z.now r) zs (map {B = Result Bytes AllocError} Ok ys) → map bytes_of ys ≡ map text (map (λ (z : Bor (List X)). z.now) zs)
  texts [] [] h = refl
  texts [] (y ∷ ys) h = absurd h
  texts (z ∷ zs) [] h = absurd h
  texts (z ∷ zs) (y ∷ ys) h = λ i. h.0 i ∷ texts zs ys h.1 i

  pub gathered : (zs : List (Bor (List X))) (cs : List (List X)) (rs : List (Result Bytes AllocError)) (v : Result (Vec Bytes Global) AllocError) →
      map (λ (z : Bor (List X)). z.now) zs ≡ cs → AllZip (λ z r. Wrote z.now r) zs rs →
      MatchResult v (λ c. (ys : List Bytes) × (rs ≡ map {B = Result Bytes AllocError} Ok ys) × (c.items ≡ ys)) (λ e. Contains rs (Err e)) → IfOk v (λ c. map bytes_of c.items ≡ map text cs)
  gathered zs cs rs (Ok c) shown each h = ap (map bytes_of) h.2 ∙ texts zs h.0 (subst (AllZip (λ z r. Wrote z.now r) zs) h.1 each) ∙ ap (map text) shown
  gathered zs cs rs (Err e) shown each h = tt

itself : List ℕ → List ℕ
itself t = t

module _ {X : Type 0} (line : X → List ℕ) where
  abbrev run_text : List X → List ℕ
  run_text run = lines_text (map line run)

  all_bytes : (ps : List Bytes) (ts : List (List ℕ)) → map bytes_of ps ≡ ts → flat_map bytes_of ps ≡ flat_map (λ (t : List ℕ). t) ts
  all_bytes ps ts e = as_map ps ∙ ap (flat_map (λ (t : List ℕ). t)) e
    where
      as_map : (qs : List Bytes) → flat_map bytes_of qs ≡ flat_map (λ (t : List ℕ). t) (map bytes_of qs)
      as_map [] = refl
      as_map (q ∷ qs) = ap (λ (t : List ℕ). q.items ++ t) (as_map qs)

  all_runs : (runs : List (List X)) → flat_map (λ (t : List ℕ). t) (map run_text runs) ≡ run_text (flat_map (λ (l : List X). l) runs)
  all_runs [] = refl
  all_runs (r ∷ rs) = ap (λ (t : List ℕ). run_text r ++ t) (all_runs rs) ∙ sym (ap lines_text (map-append line r (flat_map (λ (l : List X). l) rs)) ∙ lines-append (map line r) (map line (flat_map (λ (l : List X). l) rs)))

  pub joined : (size : ℕ) (xs : List X) (ps : List Bytes) → 0 < size → map bytes_of ps ≡ map run_text (chunks_of size xs) → flat_map bytes_of ps ≡ run_text xs
  joined size xs ps some e = all_bytes ps (map run_text (chunks_of size xs)) e ∙ all_runs (chunks_of size xs) ∙ ap run_text (chunks_of-concat size xs some)
