-- Words that are sure stay so: no other seat changes them.
use Rattle.std.proofs.Common.{◌≡◌, ℕ, ◌+◌, ◌<◌, Bool, false, List, ◌⊎◌, sym, ap, ◌∙◌, subst, inl, inr, ⊎_elim, arith}
use mathlib.Core.Logic.{dite}
use native.Mathlib.Decide.{ℕ_discrete}
use Rattle.table_words.specs.Functions.{update}
use Rattle.table_words.specs.Words.{Node}
use Rattle.table_words.specs.Claims.{Progress, Drawn, Half}
use Rattle.table_words.specs.Places.{member_of, child_place}
use Rattle.table_words.proofs.Functions.{update_at, update_other}
use Rattle.table_words.proofs.PlaceNumbers.{child_one, child_outside}
use Rattle.table_state.specs.Ghosts.{Stage, Held, Life, Loose, stands}
use Rattle.table_state.specs.Chains.{IsPlace}
use Rattle.table_words.specs.Entries.{HasEntry}
use Rattle.table_words.specs.Views.{Work}
use Rattle.table_state.specs.Work.{RetiredKnown}
use Rattle.table_state.specs.Owned.{GuardsBlock, GuardsHead, OwnedRule}
use Rattle.table_state.proofs.HeldClaims.{held_one}

pub owned_on : (e workers workers' : ℕ) (head history head' history' : ℕ → Node) (born died name row born' died' name' row' : ℕ → ℕ) (stage stage' : ℕ → Stage) (j : ℕ) (v : _)
    → ((z : ℕ) → GuardsHead e workers' stage' j z → GuardsHead e workers stage j z × (head' z ≡ head z))
    → ((b : ℕ) → GuardsBlock workers' stage' j b → GuardsBlock workers stage j b × ((t : Bool) → history' (member_of b t) ≡ history (member_of b t)) × (died' b ≡ died b) × ((t : Bool) → name' (member_of b t) ≡ name (member_of b t)))
    → (j ≡ 0 → workers' ≡ 0 → (workers ≡ 0) × ((b : ℕ) → born' b ≡ born b) × ((i : ℕ) → row' i ≡ row i))
    → OwnedRule e workers head history born died name row stage j v → OwnedRule e workers' head' history' born' died' name' row' stage' j v
owned_on e workers workers' head history head' history' born died name row born' died' name' row' stage stage' j v hs bs own i = record {
  head_is = λ z l f g. let t = hs z g in t.1 ∙ i.head_is z l f t.0;
  history_is = λ b t l f g. let u = bs b g in u.1 t ∙ i.history_is b t l f u.0;
  died_is = λ b n f g. let u = bs b g in u.2 ∙ i.died_is b n f u.0;
  name_is = λ b t n f g. let u = bs b g in u.3 t ∙ i.name_is b t n f u.0;
  born_is = λ b n f z k. let u = own z k in u.1 b ∙ i.born_is b n f z u.0;
  row_is = λ a b f z k. let u = own z k in u.2 a ∙ i.row_is a b f z u.0;
}

-- a claim goes on: who guards after it did so before
module _ (e workers : ℕ) (stage : ℕ → Stage) (x j m : ℕ) (p q : Progress) (is : stage x ≡ Held j m p) (not : (c : ℕ) → q ≡ Drawn c → ⊥) (half : (c : ℕ) → q ≡ Half c → p ≡ Drawn c) where
  abbrev stage' : ℕ → Stage
  stage' = update stage x (Held j m q)

  step : (z i k : ℕ) (r : Progress) → stage' z ≡ Held i k r → ((z ≡ x) × (i ≡ j) × (k ≡ m) × (r ≡ q)) ⊎ (stage z ≡ Held i k r)
  step z i k r h = dite (ℕ_discrete z x) (λ f. let t = held_one j i m k q r (sym (update_at stage x z (Held j m q) f) ∙ h) in inl (f, sym t.0, sym t.1, sym t.2)) (λ n. inr (sym (update_other stage x z (Held j m q) n) ∙ h))

  was : (z i k c : ℕ) → z ≡ x → i ≡ j → k ≡ m → p ≡ Drawn c → stage z ≡ Held i k (Drawn c)
  was z i k c a b d f = ap stage a ∙ is ∙ (λ t. Held (sym b t) (sym d t) (f t))

  pub block_back : (i c : ℕ) → GuardsBlock workers stage' i c → GuardsBlock workers stage i c
  block_back i c (inl o) = inl o
  block_back i c (inr t) = ⊎_elim
      (λ h. ⊎_elim (λ k. absurd (not c (sym k.3))) (λ k. inr (t.0, t.1, inl k)) (step t.0 i t.1 (Drawn c) h))
      (λ h. ⊎_elim (λ k. inr (t.0, t.1, inl (was t.0 i t.1 c k.0 k.1 k.2 (half c (sym k.3))))) (λ k. inr (t.0, t.1, inr k)) (step t.0 i t.1 (Half c) h))
      t.2

  pub head_back : (i z : ℕ) → GuardsHead e workers stage' i z → GuardsHead e workers stage i z
  head_back i z (inl o) = inl o
  head_back i z (inr t) = ⊎_elim
      (λ h. ⊎_elim (λ k. absurd (not t.2 (sym k.3))) (λ k. inr (t.0, t.1, t.2, inl (k, h.1))) (step t.0 i t.1 (Drawn t.2) h.0))
      (λ h. ⊎_elim (λ k. inr (t.0, t.1, t.2, inl (was t.0 i t.1 t.2 k.0 k.1 k.2 (half t.2 (sym k.3)), inr (inl h.1)))) (λ k. inr (t.0, t.1, t.2, inr (k, h.1))) (step t.0 i t.1 (Half t.2) h.0))
      t.3

-- a live place is no child's place of a block in hand
pub not_kid : (e : ℕ) (life : ℕ → Life) (x c u : ℕ) (t d : Bool) → IsPlace e life x → life c ≡ Loose u → x ≡ child_place e c t d → ⊥
not_kid e life x c u t d (inl l) h s = child_outside e c t d (subst (λ (y : ℕ). y < e) s l)
not_kid e life x c u t d (inr k) h s = let q = child_one e k.0 c k.1 k.2 t d (sym k.4 ∙ s) in let z : 0 ≡ k.3 + 1 = sym (ap (λ (l : Life). stands l false) (ap life q.0 ∙ h)) ∙ k.5 in absurd (omega arith)

-- where the seats note the same blocks as retired
pub retired_on : (round : ℕ) (died : ℕ → ℕ) (life : ℕ → Life) (work work' : ℕ → Work) (retired : List ℕ) → ((j : ℕ) → (work' j).retired ≡ (work j).retired) → RetiredKnown round died life work retired → RetiredKnown round died life work' retired
retired_on round died life work work' retired same k b x m u e = ⊎_elim (λ t. inl (t.0, subst (λ (l : List ℕ). HasEntry l b) (sym (same t.0)) t.1)) inr (k b x m u e)
