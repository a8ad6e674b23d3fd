-- Lists of what a seat has noted.
use Rattle.std.proofs.Common.{◌≡◌, ℕ, List, [], ◌∷◌, ◌++◌, ◌⊎◌, sym, ◌∙◌, inl, inr, ⊎_elim}
use Rattle.table_words.specs.Functions.{update}
use Rattle.table_words.specs.Entries.{HasEntry, Noted}
use Rattle.table_words.proofs.Functions.{update_at, update_other}

module _ {A : Type 0} where
  pub entry_of_both : (xs ys : List A) (a : A) → HasEntry (xs ++ ys) a → HasEntry xs a ⊎ HasEntry ys a
  entry_of_both [] ys a h = inr h
  entry_of_both (x ∷ xs) ys a h = ⊎_elim (λ e. inl (inl e)) (λ t. ⊎_elim (λ u. inl (inr u)) (λ u. inr u) (entry_of_both xs ys a t)) h

  pub entry_left : (xs ys : List A) (a : A) → HasEntry xs a → HasEntry (xs ++ ys) a
  entry_left [] ys a h = absurd h
  entry_left (x ∷ xs) ys a h = ⊎_elim (λ e. inl e) (λ t. inr (entry_left xs ys a t)) h

  pub entry_right : (xs ys : List A) (a : A) → HasEntry ys a → HasEntry (xs ++ ys) a
  entry_right [] ys a h = h
  entry_right (x ∷ xs) ys a h = inr (entry_right xs ys a h)

  -- notes of a function's values, after the function has changed at i
  pub noted_after : (xs : List (ℕ × A)) (f : ℕ → A) (i : ℕ) (a : A) → ((k : ℕ) (c : A) → Noted xs k c → f k ≡ c) → (k : ℕ) (c : A) → Noted ((i, a) ∷ xs) k c → update f i a k ≡ c
  noted_after xs f i a ok k c h = ⊎_elim (λ t. update_at f i k a (sym t.0) ∙ t.1) (λ t. update_other f i k a (λ e. t.0 (sym e)) ∙ ok k c t.1) h
