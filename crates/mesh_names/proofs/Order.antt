-- The order of names by numbers: each word is moved to the front of 24 bits, and its length decides between equal ones.
use Rattle.std.proofs.Common.{◌≡◌, ◌⊎◌, ℕ, zero, suc, ◌+◌, ◌-◌, ◌*◌, ◌/◌, ◌%◌, ◌^◌, ◌<◌, ◌≤◌, Bool, true, false, eqb, List, [], ◌∷◌, ◌++◌, length, reverse, refl, sym, ap, ◌∙◌, arith, inl, inr, ⊎_elim, nat_cmp}
use Rattle.std.proofs.lemmas.List.{length-reverse, reverse-append}
use Rattle.std.specs.Cmp.{nat_cmp_is}
use native.Mathlib.Decide.{dec_lt}
use Rattle.std.specs.Cmp.Lexicographic.{slice_cmp}
use Rattle.std.specs.Ordering.{bool_cmp, ordering_then}
use Rattle.std.specs.declared.cmp.Ordering.{Ordering}
use Rattle.std.specs.declared.cmp.Ordering.TheVariants.{Less, Equal, Greater}
use Rattle.mesh_names.specs.Names.{letters, digit, name_cmp}
use Rattle.mesh_names.specs.Letters.{length-letters}
use Rattle.mesh_names.specs.Order.{ranked}

-- the number whose d bits begin with a word
abbrev pub front : ℕ → List Bool → ℕ
front d [] = 0
front zero (x ∷ xs) = 0
front (suc d) (x ∷ xs) = digit x * 2 ^ d + front d xs

twice : (d : ℕ) → 2 ^ suc d ≡ 2 * 2 ^ d
twice d = grind arith

pub front-lt : (d : ℕ) (xs : List Bool) → front d xs < 2 ^ d
front-lt zero [] = omega arith
front-lt zero (x ∷ xs) = omega arith
front-lt (suc d) [] = let h = front-lt d [] in omega (arith, twice d)
front-lt (suc d) (false ∷ xs) = let h = front-lt d xs in omega (arith, twice d)
front-lt (suc d) (true ∷ xs) = let h = front-lt d xs in omega (arith, twice d)

front-snoc : (d e : ℕ) (xs : List Bool) (x : Bool) → length xs + suc e ≡ d → front d (xs ++ x ∷ []) ≡ front d xs + digit x * 2 ^ e
front-snoc zero e xs x h = absurd (omega arith)
front-snoc (suc d) e [] x h = let same : d ≡ e = omega arith in let p : 2 ^ d ≡ 2 ^ e = ap (λ (k : ℕ). 2 ^ k) same in let q : digit x * 2 ^ d ≡ digit x * 2 ^ e = ap (λ (k : ℕ). digit x * k) p in omega arith
front-snoc (suc d) e (y ∷ ys) x h = let shorter : length ys + suc e ≡ d = omega arith in omega (arith, front-snoc d e ys x shorter)

pub front-letters : (d n e bits : ℕ) → bits < 2 ^ n → n + e ≡ d → front d (reverse (letters n bits)) ≡ bits * 2 ^ e
front-letters d zero e bits h s = let z : bits ≡ 0 = omega arith in rw z (omega arith)
front-letters d (suc n) e bits h s =
    let small : bits / 2 < 2 ^ n = omega (arith, twice n) in
    let less : n + suc e ≡ d = omega arith in
    let rest : front d (reverse (letters n (bits / 2))) ≡ bits / 2 * 2 ^ suc e = front-letters d n (suc e) (bits / 2) small less in
    let long : length (reverse (letters n (bits / 2))) + suc e ≡ d = omega (arith, length-reverse (letters n (bits / 2)), length-letters n (bits / 2)) in
    let last : front d (reverse (letters n (bits / 2)) ++ eqb (bits % 2) 1 ∷ []) ≡ front d (reverse (letters n (bits / 2))) + digit (eqb (bits % 2) 1) * 2 ^ e = front-snoc d e (reverse (letters n (bits / 2))) (eqb (bits % 2) 1) long in
    let bit : digit (eqb (bits % 2) 1) ≡ bits % 2 = digit_of (bits % 2) (omega arith) in
    let parts : bits ≡ 2 * (bits / 2) + bits % 2 = omega arith in
    let whole : bits * 2 ^ e ≡ (2 * (bits / 2) + bits % 2) * 2 ^ e = ap (λ (k : ℕ). k * 2 ^ e) parts in
    let low : digit (eqb (bits % 2) 1) * 2 ^ e ≡ bits % 2 * 2 ^ e = ap (λ (k : ℕ). k * 2 ^ e) bit in
    let up : bits / 2 * 2 ^ suc e ≡ bits / 2 * (2 * 2 ^ e) = ap (λ (k : ℕ). bits / 2 * k) (twice e) in
    let turned : front d (reverse (letters (suc n) bits)) ≡ front d (reverse (letters n (bits / 2)) ++ eqb (bits % 2) 1 ∷ []) = ap (front d) (reverse-append (eqb (bits % 2) 1 ∷ []) (letters n (bits / 2))) in
    turned ∙ last ∙ omega arith
  where
    digit_of : (r : ℕ) → r < 2 → digit (eqb r 1) ≡ r
    digit_of zero h = refl
    digit_of (suc zero) h = refl
    digit_of (suc (suc r)) h = absurd (omega arith)

-- two numbers and then two lengths
abbrev by_front : ℕ → ℕ → ℕ → ℕ → Ordering
by_front a b l m = ordering_then (nat_cmp a b) (nat_cmp l m)

less : (a b l m : ℕ) → a < b → Less ≡ by_front a b l m
less a b l m h = ap (λ (o : Ordering). ordering_then o (nat_cmp l m)) (nat_cmp_is a b Less h)

greater : (a b l m : ℕ) → b < a → Greater ≡ by_front a b l m
greater a b l m h = ap (λ (o : Ordering). ordering_then o (nat_cmp l m)) (nat_cmp_is a b Greater h)

below_or : (a b : ℕ) → a ≤ b → Dec (a < b) → (a < b) ⊎ (a ≡ b)
below_or a b h (yes d) = inl d
below_or a b h (no d) = inr (omega (arith, d))

equal : (a b l m : ℕ) → a ≡ b → nat_cmp l m ≡ by_front a b l m
equal a b l m e = ap (λ (o : Ordering). ordering_then o (nat_cmp l m)) (nat_cmp_is a b Equal e)

shorter : (a b l m : ℕ) → a ≤ b → l < m → Less ≡ by_front a b l m
shorter a b l m h k = ⊎_elim (λ e. less a b l m e) (λ e. nat_cmp_is l m Less k ∙ equal a b l m e) (below_or a b h (dec_lt a b))

longer : (a b l m : ℕ) → b ≤ a → m < l → Greater ≡ by_front a b l m
longer a b l m h k = ⊎_elim (λ e. greater a b l m e) (λ e. nat_cmp_is l m Greater k ∙ equal a b l m (sym e)) (below_or b a h (dec_lt b a))

-- one more on both sides changes nothing
nat_cmp-add : (k a b : ℕ) → nat_cmp a b ≡ nat_cmp (k + a) (k + b)
nat_cmp-add k a b = three (dec_lt a b) (dec_lt b a)
  where
    three : Dec (a < b) → Dec (b < a) → nat_cmp a b ≡ nat_cmp (k + a) (k + b)
    three (yes h) e = sym (nat_cmp_is a b Less h) ∙ nat_cmp_is (k + a) (k + b) Less (omega arith)
    three (no h) (yes g) = sym (nat_cmp_is a b Greater g) ∙ nat_cmp_is (k + a) (k + b) Greater (omega arith)
    three (no h) (no g) = let e : a ≡ b = omega (arith, h, g) in sym (nat_cmp_is a b Equal e) ∙ nat_cmp_is (k + a) (k + b) Equal (omega arith)

same_front : (k a b l m : ℕ) → by_front a b l m ≡ by_front (k + a) (k + b) (suc l) (suc m)
same_front k a b l m = λ i. ordering_then (nat_cmp-add k a b i) (step i)
  where
    step : nat_cmp l m ≡ nat_cmp (suc l) (suc m)
    step = nat_cmp-add 1 l m ∙ ap2 (omega arith) (omega arith)
      where
        ap2 : (1 + l ≡ suc l) → (1 + m ≡ suc m) → nat_cmp (1 + l) (1 + m) ≡ nat_cmp (suc l) (suc m)
        ap2 p q = λ i. nat_cmp (p i) (q i)

pub words_by_front : (d : ℕ) (xs ys : List Bool) → length xs ≤ d → length ys ≤ d → slice_cmp bool_cmp xs ys ≡ by_front (front d xs) (front d ys) (length xs) (length ys)
words_by_front d [] [] h k = equal (front d []) (front d []) 0 0 refl
words_by_front d [] (y ∷ ys) h k = shorter (front d []) (front d (y ∷ ys)) 0 (suc (length ys)) (omega arith) (omega arith)
words_by_front d (x ∷ xs) [] h k = longer (front d (x ∷ xs)) (front d []) (suc (length xs)) 0 (omega arith) (omega arith)
words_by_front zero (x ∷ xs) (y ∷ ys) h k = absurd (omega arith)
words_by_front (suc d) (false ∷ xs) (false ∷ ys) h k = words_by_front d xs ys (omega arith) (omega arith) ∙ same_front (0 * 2 ^ d) (front d xs) (front d ys) (length xs) (length ys)
words_by_front (suc d) (false ∷ xs) (true ∷ ys) h k = let lt = front-lt d xs in less (front (suc d) (false ∷ xs)) (front (suc d) (true ∷ ys)) (suc (length xs)) (suc (length ys)) (omega arith)
words_by_front (suc d) (true ∷ xs) (false ∷ ys) h k = let lt = front-lt d ys in greater (front (suc d) (true ∷ xs)) (front (suc d) (false ∷ ys)) (suc (length xs)) (suc (length ys)) (omega arith)
words_by_front (suc d) (true ∷ xs) (true ∷ ys) h k = words_by_front d xs ys (omega arith) (omega arith) ∙ same_front (1 * 2 ^ d) (front d xs) (front d ys) (length xs) (length ys)

then-assoc : (a b c : Ordering) → ordering_then (ordering_then a b) c ≡ ordering_then a (ordering_then b c)
then-assoc Less b c = refl
then-assoc Equal b c = refl
then-assoc Greater b c = refl

shifted : (level bits : ℕ) → level ≤ 24 → bits < 2 ^ level → bits * 2 ^ (24 - level) % 4294967296 ≡ front 24 (reverse (letters level bits))
shifted level bits h k =
    let e : front 24 (reverse (letters level bits)) ≡ bits * 2 ^ (24 - level) = front-letters 24 level (24 - level) bits k (omega arith) in
    let small : front 24 (reverse (letters level bits)) < 2 ^ 24 = front-lt 24 (reverse (letters level bits)) in
    omega arith

long : (level bits : ℕ) → length (reverse (letters level bits)) ≡ level
long level bits = length-reverse (letters level bits) ∙ length-letters level bits

pub name_by_front : (r l b r' l' b' : ℕ) → l ≤ 24 → b < 2 ^ l → l' ≤ 24 → b' < 2 ^ l' →
    ordering_then (ordering_then (nat_cmp r r') (nat_cmp (b * 2 ^ (24 - l) % 4294967296) (b' * 2 ^ (24 - l') % 4294967296))) (nat_cmp l l') ≡ name_cmp (r, letters l b) (r', letters l' b')
name_by_front r l b r' l' b' h k h' k' =
    then-assoc (nat_cmp r r') (nat_cmp (b * 2 ^ (24 - l) % 4294967296) (b' * 2 ^ (24 - l') % 4294967296)) (nat_cmp l l')
    ∙ (λ i. ordering_then (nat_cmp r r') (ordering_then (nat_cmp (shifted l b h k i) (shifted l' b' h' k' i)) (nat_cmp (sym (long l b) i) (sym (long l' b') i))))
    ∙ ap (ordering_then (nat_cmp r r')) (sym (words_by_front 24 (reverse (letters l b)) (reverse (letters l' b')) (omega (arith, long l b)) (omega (arith, long l' b'))))

-- what a comparison of numbers of two parts comes to, from those of the parts
by_parts : (a b a' b' x y : ℕ) → (a < a' → x < y) → (a' < a → y < x) → (a ≡ a' → nat_cmp b b' ≡ nat_cmp x y) → nat_cmp x y ≡ by_front a a' b b'
by_parts a b a' b' x y low high same = three (dec_lt a a') (dec_lt a' a)
  where
    three : Dec (a < a') → Dec (a' < a) → nat_cmp x y ≡ by_front a a' b b'
    three (yes h) e = sym (nat_cmp_is x y Less (low h)) ∙ less a a' b b' h
    three (no h) (yes g) = sym (nat_cmp_is x y Greater (high g)) ∙ greater a a' b b' g
    three (no h) (no g) = let e : a ≡ a' = omega (arith, h, g) in sym (same e) ∙ equal a a' b b' e

at_same : (k x y b b' : ℕ) → k + b ≡ x → k + b' ≡ y → nat_cmp b b' ≡ nat_cmp x y
at_same k x y b b' p q = nat_cmp-add k b b' ∙ (λ i. nat_cmp (p i) (q i))

by_level : (a l a' l' : ℕ) → l < 32 → l' < 32 → nat_cmp (a * 32 + l) (a' * 32 + l') ≡ by_front a a' l l'
by_level a l a' l' h h' = by_parts a l a' l' (a * 32 + l) (a' * 32 + l') (λ d. omega arith) (λ d. omega arith) (λ e. at_same (a * 32) (a * 32 + l) (a' * 32 + l') l l' (omega arith) (omega arith))

by_word : (a f a' f' : ℕ) → f < 16777216 → f' < 16777216 → nat_cmp (a * 16777216 + f) (a' * 16777216 + f') ≡ by_front a a' f f'
by_word a f a' f' h h' = by_parts a f a' f' (a * 16777216 + f) (a' * 16777216 + f') (λ d. omega arith) (λ d. omega arith) (λ e. at_same (a * 16777216) (a * 16777216 + f) (a' * 16777216 + f') f f' (omega arith) (omega arith))

-- one comparison of numbers is three
pub ranked_cmp : (r f l r' f' l' : ℕ) → f < 16777216 → f' < 16777216 → l < 32 → l' < 32 → nat_cmp (ranked r f l) (ranked r' f' l') ≡ ordering_then (ordering_then (nat_cmp r r') (nat_cmp f f')) (nat_cmp l l')
ranked_cmp r f l r' f' l' h h' k k' =
    by_level (r * 16777216 + f) l (r' * 16777216 + f') l' k k'
    ∙ ap (λ (o : Ordering). ordering_then o (nat_cmp l l')) (by_word r f r' f' h h')

-- a word at the front of 24 bits has 24 bits
pub front_is_low : (level bits : ℕ) → level ≤ 24 → bits < 2 ^ level → bits * 2 ^ (24 - level) % 4294967296 < 16777216
front_is_low level bits h k = let e = shifted level bits h k in let small : front 24 (reverse (letters level bits)) < 2 ^ 24 = front-lt 24 (reverse (letters level bits)) in omega arith
