-- Padded digits in two parts, and the zeros at the end.
use Rattle.std.proofs.Common.{◌≡◌, ◌≢◌, ℕ, List, [], ◌∷◌, ◌++◌, false, ◌==◌, cond, length, is_ok, Result, Ok, Err, IfOk, get_or, take, drop, zero, suc, ◌+◌, ◌-◌, ◌*◌, ◌/◌, ◌%◌, ◌^◌, ◌<◌, ◌≤◌, ◌∙◌, refl, sym, ap, arith, append_assoc, length-append}
use Rattle.std.proofs.lemmas.Nat.{pow-add}
use Rattle.std.proofs.lemmas.Bool.Decides.{nat_tests}
use Rattle.mesh_io.specs.Written.{padded, trimmed, before_trimmed, fraction}

joined_zero : (j u l n : ℕ) → l < 1 → n ≡ u → padded j u ++ [] ≡ padded j n
joined_zero j u l n h e = append_nil (padded j u) ∙ ap (padded j) (sym e)
  where
    append_nil : (xs : List ℕ) → xs ++ [] ≡ xs
    append_nil [] = refl
    append_nil (x ∷ xs) = λ i. x ∷ append_nil xs i

-- digits in two parts
pub joined : (j k u l n m : ℕ) → m ≡ j + k → n ≡ u * 10 ^ k + l → l < 10 ^ k → padded j u ++ padded k l ≡ padded m n
joined j zero u l n m em e h = joined_zero j u l n h (omega (arith, e, h)) ∙ ap (λ i. padded i n) (let s : j ≡ m = omega (arith, em) in s)
joined j (suc k) u l n m em e h =
    let ten : 10 ^ suc k ≡ 10 ^ k * 10 = ap (λ i. 10 ^ i) (omega arith) ∙ pow-add 10 k 1 in
    let e' : n ≡ u * 10 ^ k * 10 + l = omega (arith, e, ap (λ p. u * p) ten) in
    let low : l / 10 < 10 ^ k = omega (arith, h, ten) in
    let up : n / 10 ≡ u * 10 ^ k + l / 10 = omega (arith, e') in
    let last : n % 10 ≡ l % 10 = omega (arith, e') in
    sym (append_assoc (padded j u) (padded k (l / 10)) ((48 + l % 10) ∷ []))
    ∙ (λ i. joined j k u (l / 10) (n / 10) (j + k) refl up low i ++ (48 + sym last i) ∷ [])
    ∙ ap (λ i. padded i n) (let s : suc (j + k) ≡ m = omega (arith, em) in s)

-- a list is its front and its last item
pub last_at : (xs : List ℕ) (n : ℕ) → length xs ≡ n + 1 → take n xs ++ get_or xs n 0 ∷ [] ≡ xs
last_at [] n e = absurd (omega (arith, e))
last_at (x ∷ []) zero e = refl
last_at (x ∷ y ∷ ys) zero e = absurd (omega (arith, e))
last_at (x ∷ xs) (suc n) e = λ i. x ∷ last_at xs n (omega (arith, e)) i

snoc_zero : (xs : List ℕ) → trimmed (xs ++ 48 ∷ []) ≡ trimmed xs
snoc_zero [] = refl
snoc_zero (x ∷ xs) = ap (before_trimmed x) (snoc_zero xs)

front-snoc : (x : ℕ) (xs : List ℕ) (d : ℕ) → before_trimmed x (xs ++ d ∷ []) ≡ x ∷ (xs ++ d ∷ [])
front-snoc x [] d = refl
front-snoc x (y ∷ ys) d = refl

snoc_other : (xs : List ℕ) (d : ℕ) → d ≢ 48 → trimmed (xs ++ d ∷ []) ≡ xs ++ d ∷ []
snoc_other [] d ne = ap (λ b. cond b [] (d ∷ [])) (let e : (d == 48) ≡ false = grind (arith, nat_tests) in e)
snoc_other (x ∷ xs) d ne = ap (before_trimmed x) (snoc_other xs d ne) ∙ front-snoc x xs d

-- a 0 at the end is dropped
pub trim_zero : (xs : List ℕ) → 1 ≤ length xs → get_or xs (length xs - 1) 0 ≡ 48 → trimmed (take (length xs - 1) xs) ≡ trimmed xs
trim_zero xs le z = let front = take (length xs - 1) xs in
    sym (snoc_zero front) ∙ ap (λ d. trimmed (front ++ d ∷ [])) (sym z) ∙ ap trimmed (last_at xs (length xs - 1) (omega arith))

-- another digit at the end stays
pub trim_other : (xs : List ℕ) → 1 ≤ length xs → get_or xs (length xs - 1) 0 ≢ 48 → trimmed xs ≡ xs
trim_other xs le ne = let e = last_at xs (length xs - 1) (omega arith) in ap trimmed (sym e) ∙ snoc_other (take (length xs - 1) xs) (get_or xs (length xs - 1) 0) ne ∙ e

-- a fraction that is not 0 has a point
pub fraction_some : (f : ℕ) → f ≢ 0 → fraction f ≡ 46 ∷ trimmed (padded 22 f)
fraction_some f ne = ap (λ b. cond b [] (46 ∷ trimmed (padded 22 f))) (let e : (f == 0) ≡ false = grind (arith, nat_tests) in e)

-- an append that may fail
pub appended : {U E : Type 0} (r : Result U E) (new old more goal : List ℕ) → new ≡ cond (is_ok r) (old ++ more) old → old ++ more ≡ goal → IfOk r (λ _. new ≡ goal)
appended (Ok x) new old more goal e g = e ∙ g
appended (Err y) new old more goal e g = tt

take_front : (xs ys : List ℕ) → take (length xs) (xs ++ ys) ≡ xs
take_front [] ys = refl
take_front (x ∷ xs) ys = λ i. x ∷ take_front xs ys i

take_again : (xs ys : List ℕ) (k : ℕ) → take (length xs) ys ≡ xs → k ≤ length xs → take k ys ≡ take k xs
take_again xs ys zero e h = refl
take_again [] ys (suc k) e h = absurd (omega (arith, h))
take_again (x ∷ xs) [] (suc k) e h = absurd (omega (arith, ap length e))
take_again (x ∷ xs) (y ∷ ys) (suc k) e h = let hd : y ≡ x = ap (λ zs. get_or zs 0 0) e in let tl : take (length xs) ys ≡ xs = ap (λ zs. drop 1 zs) e in λ i. hd i ∷ take_again xs ys k tl (omega (arith, h)) i

-- what was there is still there after two appends, of which the second failed
pub kept_front : (old s new more : List ℕ) → s ≡ old ++ more → take (length s) new ≡ s → take (length old) new ≡ old
kept_front old s new more e h = take_again s new (length old) h (omega (arith, ap length e, length-append old more)) ∙ ap (take (length old)) e ∙ take_front old more

-- the whole part and the fraction of a number of fine units
pub whole_part : (n : ℕ) → n / 4096 / 10000000000 ≡ n * 244140625 / 10 ^ 22
whole_part n = omega arith

-- its rest
pub part_rest : (n : ℕ) → n / 4096 % 10000000000 * 1000000000000 + n % 4096 * 244140625 ≡ n * 244140625 % 10 ^ 22
part_rest n = omega arith
