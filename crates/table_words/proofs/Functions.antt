-- Functions that are changed at one place.
use Rattle.std.proofs.Common.{◌≡◌, ◌≢◌, ℕ, cond, refl, sym, ap, ◌∙◌, subst, eq-eqb, ne_eqb}
use mathlib.Core.Logic.{dite}
use mathlib.Core.Path.{fun_ext}
use native.Mathlib.Decide.{ℕ_discrete}
use Rattle.table_words.specs.Functions.{update}

module _ {A : Type 0} where
  pub update_same : (f : ℕ → A) (i : ℕ) (a : A) → update f i a i ≡ a
  update_same f i a = ap (λ b. cond b a (f i)) (eq-eqb i i refl)

  pub update_at : (f : ℕ → A) (i j : ℕ) (a : A) → j ≡ i → update f i a j ≡ a
  update_at f i j a e = ap (λ b. cond b a (f j)) (eq-eqb j i e)

  pub update_other : (f : ℕ → A) (i j : ℕ) (a : A) → j ≢ i → update f i a j ≡ f j
  update_other f i j a n = ap (λ b. cond b a (f j)) (ne_eqb j i n)

  -- a fact of each value of the new function, by cases
  pub update_cases : (P : ℕ → A → Type 0) (f : ℕ → A) (i : ℕ) (a : A) → P i a → ((j : ℕ) → j ≢ i → P j (f j)) → (j : ℕ) → P j (update f i a j)
  update_cases P f i a here else_ j = dite (ℕ_discrete j i)
      (λ e. subst (λ (x : ℕ × A). P x.0 x.1) (λ t. (sym e t, sym (update_at f i j a e) t)) here)
      (λ n. subst (P j) (sym (update_other f i j a n)) (else_ j n))

  -- two functions are one where the second is the first with a at i
  pub update_is : (f g : ℕ → A) (i : ℕ) (a : A) → g i ≡ a → ((j : ℕ) → j ≢ i → g j ≡ f j) → g ≡ update f i a
  update_is f g i a here else_ = fun_ext {f = g} {g = update f i a} (update_cases (λ j b. g j ≡ b) f i a here else_)

module _ {A : Type 0} where
  -- a function of a part of one changed value
  pub part_update : {B : Type 0} (part : A → B) (f : ℕ → A) (j : ℕ) (v : A) (i : ℕ) → part (update f j v i) ≡ update (λ k. part (f k)) j (part v) i
  part_update part f j v i = dite (ℕ_discrete i j)
      (λ e. ap part (update_at f j i v e) ∙ sym (update_at (λ k. part (f k)) j i (part v) e))
      (λ o. ap part (update_other f j i v o) ∙ sym (update_other (λ k. part (f k)) j i (part v) o))

  -- a part of each value, where a value changes
  pub part_set : {B : Type 0} (part : A → B) (f : ℕ → A) (j : ℕ) (v : A) → ◌≡◌ {A = ℕ → B} (λ i. part (update f j v i)) (update (λ i. part (f i)) j (part v))
  part_set part f j v = fun_ext (part_update part f j v)

  -- a part of each value, where a value changes and this part of it does not
  pub part_kept : {B : Type 0} (part : A → B) (f : ℕ → A) (j : ℕ) (v : A) → part v ≡ part (f j) → ◌≡◌ {A = ℕ → B} (λ i. part (update f j v i)) (λ i. part (f i))
  part_kept part f j v same = fun_ext (update_cases (λ i a. part a ≡ part (f i)) f j v same (λ i _. refl))
