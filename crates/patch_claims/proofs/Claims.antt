-- Claims with living blocks, as one claim goes on.
use Rattle.std.proofs.Common.{◌≡◌, ℕ, ◌+◌, ◌%◌, Bool, suc, arith, List, refl, sym, subst, ◌∷◌, ap, ◌∙◌, inl, inr, ⊎_elim}
use Rattle.table_words.specs.Claims.{Progress, Claim, claim, Half, Living, moved_on}
use Rattle.table_state.proofs.HeldClaims.{moved_on_has}
use Rattle.table_words.specs.Entries.{HasEntry}
use Rattle.table_words.specs.Setup.{Setup}
use Rattle.mesh_table.specs.Lost.{ClaimLost, IsAnothers}
use Rattle.patch_walk.specs.Works.{Works}
use Rattle.patch_claims.specs.Kept.{SameWork}
use Rattle.mesh_table.specs.Sights.{Sight}
use Rattle.mesh_table.specs.Told.{by_link, claimed, come}
use Rattle.mesh_table.specs.Lost.{AllLiving}
use Rattle.patch_claims.specs.Claims.{AllLivingBut}

module _ (cs : List Claim) (x : ℕ) where
  pub but_claimed : (m : ℕ) (p : Progress) → AllLiving cs → AllLivingBut x (claim x m p ∷ cs)
  but_claimed m p all c h = ⊎_elim (λ e. inl (ap (λ (a : Claim). a.place) e)) (λ e. inr (all c e)) h

  pub but_moves : (p : Progress) → AllLivingBut x cs → AllLivingBut x (moved_on cs x p)
  but_moves p but c h = ⊎_elim (λ t. inl t.0) (λ t. but c t.1) (moved_on_has cs x p c.place c.mate c.progress h)

  pub all_lives : (b : ℕ) → AllLivingBut x cs → AllLiving (moved_on cs x (Living b))
  all_lives b but c h = ⊎_elim (λ t. (b, t.1)) (λ t. ⊎_elim (λ e. absurd (t.0 e)) (λ l. l) (but c t.1)) (moved_on_has cs x (Living b) c.place c.mate c.progress h)

-- a word without the claim bit
pub even_of : (n : ℕ) → (n % 2 ≡ 1 → ⊥) → n % 2 ≡ 0
even_of n odd = omega arith

-- another's claim is so in a later view too
pub anothers_on : (u v : Sight) (x : ℕ) → v.claims ≡ u.claims → v.work.number ≡ u.work.number → IsAnothers u x → IsAnothers v x
anothers_on u v x same number a = ((λ m p own. a.0 m p (subst (λ (cs : List Claim). HasEntry cs (claim x m p)) same own)), λ z. a.1 (sym number ∙ z))

-- what a lost claim keeps
pub lost_works : (s : Setup) (u v : Sight) (x k n : ℕ) → ClaimLost s u v x k n → Works u v
lost_works s u v x k n l = record { kind = l.kind; half = l.half; round = l.round; number = l.number; plan = l.plan; found = l.found; known = l.known; absent = l.absent }

-- what a claim keeps, and a draw
pub claimed_works : (u v : Sight) (x m n : ℕ) → v ≡ claimed u x m n → Works u v
claimed_works u v x m n e = subst (Works u) (sym e) (record { kind = refl; half = refl; round = refl; number = refl; plan = refl; found = λ _ q. q; known = λ _ q. q; absent = λ _ q. q })

pub same_works : (u v : Sight) → SameWork u v → Works u v
same_works u v s = record {
  kind = s.kind;
  half = s.half;
  round = s.round;
  number = s.number;
  plan = s.plan;
  found = λ a q. subst (λ (l : List (ℕ × ℕ)). HasEntry l a) (sym s.found) q;
  known = λ a q. subst (λ (l : List ℕ). HasEntry l a) (sym s.known) q;
  absent = λ a q. subst (λ (l : List ℕ). HasEntry l a) (sym s.absent) q;
}

-- the first link of a patch of two
pub linked_half : (v u : Sight) (x y b : ℕ) → u ≡ come v x (by_link (y + 1) b) → u ≡ come v x (Half b)
linked_half v u x y b e = let more : y + 1 ≡ suc y = omega arith in e ∙ ap (λ (n : ℕ). come v x (by_link n b)) more
