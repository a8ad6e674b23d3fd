-- The first line of a text.
use Rattle.std.proofs.Common.{◌≡◌, ℕ, suc, List, [], ◌∷◌, Bool, true, false, ◌==◌, ◌&&◌, cond, length, take, drop, get_or, ◌+◌, ◌-◌, ◌<◌, ◌≤◌, ◌∙◌, ⊎_elim, refl, sym, ap, subst, arith}
use Rattle.std.specs.List.{position_or_len, onto_first}
use Rattle.std.proofs.lemmas.Bool.{cases_Bool, eqb-true}
use Rattle.std.proofs.lemmas.List.{take_rest}
use Rattle.macro_file.specs.Lines.{lines}
use Rattle.macro_file.proofs.Cuts.{position-yes, position-no}
use Rattle.macro_file.proofs.TokenLemmas.{lines-plain}
use Rattle.locate_point.specs.Reading.{without_return}

abbrev newline_at : List ℕ → ℕ
newline_at = position_or_len (λ b. b == 10)

-- a carriage return at the end
pub return-off : (xs : List ℕ) → 1 ≤ length xs → get_or xs (length xs - 1) 0 ≡ 13 → take (length xs - 1) xs ≡ without_return xs
return-off [] h e = absurd (omega arith)
return-off (b ∷ []) h e = sym (ap (λ t. cond t [] (b ∷ [])) (ap (λ n. n == 13) e))
return-off (b ∷ c ∷ cs) h e =
    let k : length (b ∷ c ∷ cs) - 1 ≡ suc (length (c ∷ cs) - 1) = omega arith in
    ap (λ n. take n (b ∷ c ∷ cs)) k ∙ ap (λ ys. b ∷ ys) (return-off (c ∷ cs) (omega arith) (ap (λ n. get_or (b ∷ c ∷ cs) n 0) (sym k) ∙ e))

pub return-none : (xs : List ℕ) → (1 ≤ length xs → get_or xs (length xs - 1) 0 ≡ 13 → ⊥) → xs ≡ without_return xs
return-none [] h = refl
return-none (b ∷ []) h = ⊎_elim (λ yes. absurd (h (omega arith) (eqb-true b 13 yes))) (λ none. sym (ap (λ t. cond t [] (b ∷ [])) none)) (cases_Bool (b == 13))
return-none (b ∷ c ∷ cs) h =
    let k : length (b ∷ c ∷ cs) - 1 ≡ suc (length (c ∷ cs) - 1) = omega arith in
    ap (λ ys. b ∷ ys) (return-none (c ∷ cs) (λ some e. h (omega arith) (ap (λ n. get_or (b ∷ c ∷ cs) n 0) k ∙ e)))

-- the line before the first newline, where that of the rest is known
abbrev IsFront : List ℕ → Type 0
IsFront bs = lines bs ≡ without_return (take (newline_at bs) bs) ∷ lines (drop (suc (newline_at bs)) bs)

ended : (t : Bool) (b : ℕ) (ds : List ℕ) → cond (t && true) ([] ∷ lines ds) ((b ∷ []) ∷ lines ds) ≡ cond t [] (b ∷ []) ∷ lines ds
ended true b ds = refl
ended false b ds = refl

and_false : (t : Bool) → (t && false) ≡ false
and_false true = refl
and_false false = refl

later : (b : ℕ) (cs : List ℕ) → (b == 10) ≡ false → newline_at cs < length cs → IsFront cs → lines (b ∷ cs) ≡ without_return (b ∷ take (newline_at cs) cs) ∷ lines (drop (suc (newline_at cs)) cs)
later b [] plain h known = absurd (omega arith)
later b (c ∷ cs) plain h known = ⊎_elim
    (λ yes.
    let zero_at : newline_at (c ∷ cs) ≡ 0 = position-yes (λ b. b == 10) c cs yes in
    let tail : lines (c ∷ cs) ≡ [] ∷ lines cs = (let P : ℕ → Type 0 = λ k. lines (k ∷ cs) ≡ [] ∷ lines cs in subst P (sym (eqb-true c 10 yes)) refl) in
    (λ i. cond (plain i) ([] ∷ lines (c ∷ cs)) (cond (b == 13 && yes i) (tail i) (onto_first b (tail i)))) ∙ ended (b == 13) b cs ∙ sym (ap (λ n. without_return (b ∷ take n (c ∷ cs)) ∷ lines (drop (suc n) (c ∷ cs))) zero_at))
    (λ none.
    let next : newline_at (c ∷ cs) ≡ suc (newline_at cs) = position-no (λ b. b == 10) c cs none in
    lines-plain b (c ∷ cs) plain (ap (λ t. b == 13 && t) none ∙ and_false (b == 13)) ∙ ap (onto_first b) known
    ∙ ap (λ n. onto_first b (without_return (take n (c ∷ cs)) ∷ lines (drop (suc n) (c ∷ cs)))) next ∙ sym (ap (λ n. without_return (b ∷ take n (c ∷ cs)) ∷ lines (drop (suc n) (c ∷ cs))) next))
    (cases_Bool (c == 10))

pub line-front : (bs : List ℕ) → newline_at bs < length bs → IsFront bs
line-front [] h = absurd (omega arith)
line-front (b ∷ bs) h = ⊎_elim
    (λ yes. (let P : ℕ → Type 0 = λ k. lines (k ∷ bs) ≡ [] ∷ lines bs in subst P (sym (eqb-true b 10 yes)) refl) ∙ sym (ap (λ n. without_return (take n (b ∷ bs)) ∷ lines (drop (suc n) (b ∷ bs))) (position-yes (λ b. b == 10) b bs yes)))
    (λ plain.
    let next = position-no (λ b. b == 10) b bs plain in
    let less : newline_at bs < length bs = omega (arith, next, h) in
    later b bs plain less (line-front bs less) ∙ sym (ap (λ n. without_return (take n (b ∷ bs)) ∷ lines (drop (suc n) (b ∷ bs))) next))
    (cases_Bool (b == 10))

pub front_answer : (bs : List ℕ) (end : ℕ) (line : List ℕ) → end ≡ newline_at bs → end < length bs → line ≡ without_return (take end bs) → lines bs ≡ line ∷ lines (take (length bs - (end + 1)) (drop (end + 1) bs))
front_answer bs end line at h e =
    let one : end + 1 ≡ suc (newline_at bs) = omega (arith, at) in
    line-front bs (omega (arith, at, h)) ∙ (λ i. (ap (λ n. without_return (take n bs)) (sym at) ∙ sym e) i ∷ lines ((ap (λ n. drop n bs) (sym one) ∙ sym (take_rest bs (end + 1))) i))

pub some_there : (xs : List ℕ) → false ≡ (length xs == 0) → 1 ≤ length xs
some_there [] e = absurd (cc)
some_there (x ∷ xs) e = omega arith
