-- Three numbers in order.
use Rattle.std.proofs.Common.{◌≡◌, ℕ, ◌<◌, ◌≤◌, ◌⊎◌, min, max, ◌∙◌, inl, inr, ⊎_elim, arith}
use Rattle.std.proofs.lemmas.Bool.{cases_lt}

abbrev pub OneOf : ℕ → ℕ → ℕ → ℕ → Type 0
OneOf v a b c = (v ≡ a) ⊎ (v ≡ b) ⊎ (v ≡ c)

abbrev pub low3 : ℕ → ℕ → ℕ → ℕ
low3 a b c = min (min a b) c

abbrev pub mid3 : ℕ → ℕ → ℕ → ℕ
mid3 a b c = max (min a b) (min (max a b) c)

abbrev pub high3 : ℕ → ℕ → ℕ → ℕ
high3 a b c = max (max a b) c

first_in : (a b c : ℕ) → OneOf a (low3 a b c) (mid3 a b c) (high3 a b c)
first_in a b c = ⊎_elim
    (λ (p : a < b). ⊎_elim (λ (q : a < c). inl (omega arith)) (λ (q : c ≤ a). inr (inl (omega arith))) (cases_lt a c))
    (λ (p : b ≤ a). ⊎_elim (λ (q : a < c). inr (inl (omega arith))) (λ (q : c ≤ a). inr (inr (omega arith))) (cases_lt a c))
    (cases_lt a b)

second_in : (a b c : ℕ) → OneOf b (low3 a b c) (mid3 a b c) (high3 a b c)
second_in a b c = ⊎_elim
    (λ (p : b < a). ⊎_elim (λ (q : b < c). inl (omega arith)) (λ (q : c ≤ b). inr (inl (omega arith))) (cases_lt b c))
    (λ (p : a ≤ b). ⊎_elim (λ (q : b < c). inr (inl (omega arith))) (λ (q : c ≤ b). inr (inr (omega arith))) (cases_lt b c))
    (cases_lt b a)

third_in : (a b c : ℕ) → OneOf c (low3 a b c) (mid3 a b c) (high3 a b c)
third_in a b c = ⊎_elim
    (λ (p : c < min a b). inl (omega arith))
    (λ (p : min a b ≤ c). ⊎_elim (λ (q : c < max a b). inr (inl (omega arith))) (λ (q : max a b ≤ c). inr (inr (omega arith))) (cases_lt c (max a b)))
    (cases_lt c (min a b))

low_in : (a b c : ℕ) → OneOf (low3 a b c) a b c
low_in a b c = ⊎_elim
    (λ (p : a < b). ⊎_elim (λ (q : a < c). inl (omega arith)) (λ (q : c ≤ a). inr (inr (omega arith))) (cases_lt a c))
    (λ (p : b ≤ a). ⊎_elim (λ (q : b < c). inr (inl (omega arith))) (λ (q : c ≤ b). inr (inr (omega arith))) (cases_lt b c))
    (cases_lt a b)

high_in : (a b c : ℕ) → OneOf (high3 a b c) a b c
high_in a b c = ⊎_elim
    (λ (p : a < b). ⊎_elim (λ (q : b < c). inr (inr (omega arith))) (λ (q : c ≤ b). inr (inl (omega arith))) (cases_lt b c))
    (λ (p : b ≤ a). ⊎_elim (λ (q : a < c). inr (inr (omega arith))) (λ (q : c ≤ a). inl (omega arith)) (cases_lt a c))
    (cases_lt a b)

mid_in : (a b c : ℕ) → OneOf (mid3 a b c) a b c
mid_in a b c = ⊎_elim
    (λ (p : c < min a b). ⊎_elim (λ (q : a < b). inl (omega arith)) (λ (q : b ≤ a). inr (inl (omega arith))) (cases_lt a b))
    (λ (p : min a b ≤ c). ⊎_elim (λ (q : c < max a b). inr (inr (omega arith))) (λ (q : max a b ≤ c). ⊎_elim (λ (r : a < b). inr (inl (omega arith))) (λ (r : b ≤ a). inl (omega arith)) (cases_lt a b)) (cases_lt c (max a b)))
    (cases_lt c (min a b))

along : (v w a b c : ℕ) → v ≡ w → OneOf w a b c → OneOf v a b c
along v w a b c e h = ⊎_elim (λ p. inl (e ∙ p)) (λ h2. ⊎_elim (λ p. inr (inl (e ∙ p))) (λ p. inr (inr (e ∙ p))) h2) h

pub key_has : (v a b c : ℕ) → OneOf v a b c → OneOf v (low3 a b c) (mid3 a b c) (high3 a b c)
key_has v a b c h = ⊎_elim (λ p. along v a _ _ _ p (first_in a b c)) (λ h2. ⊎_elim (λ p. along v b _ _ _ p (second_in a b c)) (λ p. along v c _ _ _ p (third_in a b c)) h2) h

pub has_key : (v a b c : ℕ) → OneOf v (low3 a b c) (mid3 a b c) (high3 a b c) → OneOf v a b c
has_key v a b c h = ⊎_elim (λ p. along v _ a b c p (low_in a b c)) (λ h2. ⊎_elim (λ p. along v _ a b c p (mid_in a b c)) (λ p. along v _ a b c p (high_in a b c)) h2) h

pub in_order3 : (a b c : ℕ) → (a ≡ b → ⊥) → (b ≡ c → ⊥) → (a ≡ c → ⊥) → (low3 a b c < mid3 a b c) × (mid3 a b c < high3 a b c)
in_order3 a b c h k l = (omega arith, omega arith)

-- three numbers in order that are three others in order are those
pub same_three : (a b c x y z : ℕ) → a < b → b < c → x < y → y < z → OneOf a x y z → OneOf b x y z → OneOf c x y z → (a ≡ x) × (b ≡ y) × (c ≡ z)
same_three a b c x y z ab bc xy yz ha hb hc = (grind arith, grind arith, grind arith)
