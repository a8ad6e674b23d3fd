-- Free blocks, and blocks that are noted with their places, as claims and lives change.
use Rattle.std.proofs.Common.{◌≡◌, ◌==◌, ℕ, ◌+◌, ◌<◌, ◌≤◌, Bool, cond, ltb, List, eq-eqb, ne_eqb, lt-ltb, le-ltb, ◌⊎◌, refl, sym, ap, ◌∙◌, subst, inl, inr, ⊎_elim, arith}
use mathlib.Core.Logic.{dite}
use native.Mathlib.Decide.{ℕ_discrete}
use Rattle.table_words.specs.Functions.{update}
use Rattle.table_words.specs.Claims.{Progress, Drawn}
use Rattle.table_words.specs.Entries.{HasEntry}
use Rattle.table_words.proofs.Functions.{update_at, update_other, update_cases}
use Rattle.table_state.specs.Ghosts.{Stage, Open, Held, Life, Free, Loose, Placed, RolledBack}
use Rattle.table_state.specs.Claims.{block_of}
use Rattle.table_state.specs.Owner.{FreeRule, HasClaim, HasDraw, KnownRule, KeptRule, EarlyRule, is_early}
use Rattle.table_words.specs.Views.{Read, Work, Kind, Reader, is_reader, Phase, SecondHalf}
use Rattle.table_state.specs.Work.{RetiredRight, GrownRule}
use Rattle.table_words.specs.Setup.{Setup}
use Rattle.table_words.proofs.Sums.{sum_same}
use Rattle.table_state.proofs.HeldClaims.{not_open, held_one}
use Rattle.table_words.proofs.SeatKinds.{kind_discrete, reader_true, reader_false}

-- where the free blocks are the same, and those not born stay so
pub frees_on : (pool cursor free : ℕ) (row born born' : ℕ → ℕ) (life life' : ℕ → Life) (hand : List ℕ) (low high : ℕ) → ((b : ℕ) → life' b ≡ Free → life b ≡ Free) → ((b : ℕ) → life b ≡ Free → (life' b ≡ Free) × (born b ≡ 0 → born' b ≡ 0))
    → FreeRule pool cursor free row born life hand low high → FreeRule pool cursor free row born' life' hand low high
frees_on pool cursor free row born born' life life' hand low high back on r = record {
  all = λ b l e. r.all b l (back b e);
  hand_rows = r.hand_rows;
  hand_stock = r.hand_stock;
  stocked = λ i l m. let t = r.stocked i l m in let u = on (row i) t.0 in (u.0, u.1 t.1, t.2);
  once = r.once;
  shut = r.shut;
}

-- where the claim at x comes to another stage with the same block, the others' blocks have theirs as before
pub claim_stays : (stage : ℕ → Stage) (x j m i : ℕ) (p q : Progress) → stage x ≡ Held j m p → block_of q ≡ block_of p → (b y k : ℕ) → HasClaim stage b y k → HasClaim (update stage x (Held i m q)) b y k
claim_stays stage x j m i p q is same b y k h = dite (ℕ_discrete y x)
    (λ e. let t = held_one j h.0 m k p h.1 (sym is ∙ sym (ap stage e) ∙ h.2) in (i, q, update_at stage x y (Held i m q) e ∙ ap (λ (z : ℕ). Held i z q) t.1, same ∙ ap block_of t.2 ∙ h.3))
    (λ o. (h.0, h.1, update_other stage x y (Held i m q) o ∙ h.2, h.3))

-- where a stage at x changes that is of no block, or of this block no longer
pub claim_other : (stage : ℕ → Stage) (x : ℕ) (new : Stage) (b y k : ℕ) → ((j : ℕ) (p : Progress) → stage x ≡ Held j k p → block_of p ≡ b + 1 → ⊥) → HasClaim stage b y k → HasClaim (update stage x new) b y k
claim_other stage x new b y k not h = (h.0, h.1, update_other stage x y new (λ (e : y ≡ x). not h.0 h.1 (sym (ap stage e) ∙ h.2) h.3) ∙ h.2, h.3)

pub draw_other : (stage : ℕ → Stage) (x : ℕ) (new : Stage) (b u : ℕ) → ((j m : ℕ) → stage x ≡ Held j m (Drawn b) → ⊥) → HasDraw stage b u → HasDraw (update stage x new) b u
draw_other stage x new b u not h = (h.0, h.1, h.2, h.3, update_other stage x h.0 new (λ (e : h.0 ≡ x). not h.1 h.2 (sym (ap stage e) ∙ h.4)) ∙ h.4)

-- where a claim whose block is in a chain, or that has none, goes on at the same places with the same block
pub known_goes : (life : ℕ → Life) (stage : ℕ → Stage) (placed : List (ℕ × ℕ × ℕ)) (x j m i : ℕ) (p q : Progress) → stage x ≡ Held j m p → block_of q ≡ block_of p → ((b : ℕ) → p ≡ Drawn b → ⊥) → KnownRule life stage placed → KnownRule life (update stage x (Held i m q)) placed
known_goes life stage placed x j m i p q is same not r = record {
  noted = λ b y k u. ⊎_elim inl (λ h. inr (claim_stays stage x j m i p q is same b y k h)) (r.noted b y k u);
  rolled_back = r.rolled_back;
  loose = λ b u e. draw_other stage x (Held i m q) b u (λ a k h. not b (held_one j a m k p (Drawn b) (sym is ∙ h)).2) (r.loose b u e);
}

-- where a claim begins
pub known_opens : (life : ℕ → Life) (stage : ℕ → Stage) (placed : List (ℕ × ℕ × ℕ)) (x : ℕ) (new : Stage) → stage x ≡ Open → KnownRule life stage placed → KnownRule life (update stage x new) placed
known_opens life stage placed x new is r = record {
  noted = λ b y k u. ⊎_elim inl (λ h. inr (claim_other stage x new b y k (λ a p h' _. not_open a k p (sym h' ∙ is)) h)) (r.noted b y k u);
  rolled_back = r.rolled_back;
  loose = λ b u e. draw_other stage x new b u (λ a k h. not_open a k (Drawn b) (sym h ∙ is)) (r.loose b u e);
}

-- where lives change that are of no block with the claim, and the list grows by what is to be noted
pub known_ends : (life life' : ℕ → Life) (stage : ℕ → Stage) (placed placed' : List (ℕ × ℕ × ℕ)) (x j m : ℕ) (p : Progress) → stage x ≡ Held j m p → ((a : ℕ × ℕ × ℕ) → HasEntry placed a → HasEntry placed' a)
    → ((b y k : ℕ) → life' b ≡ Placed y k → (life b ≡ Placed y k) × (block_of p ≡ b + 1 → y ≡ x → k ≡ m → HasEntry placed' (b, y, k))) → ((b y k : ℕ) → life' b ≡ RolledBack y k → (life b ≡ RolledBack y k) ⊎ HasEntry placed' (b, y, k)) → ((b u : ℕ) → life' b ≡ Loose u → (life b ≡ Loose u) × (block_of p ≡ b + 1 → ⊥))
    → KnownRule life stage placed → KnownRule life' (update stage x Open) placed'
known_ends life life' stage placed placed' x j m p is more noted rolled_back loose r = record {
  noted = λ b y k u. let t = noted b y k u in ⊎_elim (λ h. inl (more (b, y, k) h))
      (λ h. dite (ℕ_discrete y x) (λ e. let a = held_one j h.0 m k p h.1 (sym is ∙ sym (ap stage e) ∙ h.2) in inl (t.1 (ap block_of a.2 ∙ h.3) e (sym a.1))) (λ o. inr (h.0, h.1, update_other stage x y Open o ∙ h.2, h.3))) (r.noted b y k t.0);
  rolled_back = λ b y k u. ⊎_elim (λ e. more (b, y, k) (r.rolled_back b y k e)) (λ h. h) (rolled_back b y k u);
  loose = λ b u e. let t = loose b u e in draw_other stage x Open b u (λ a k h. t.1 (ap block_of (held_one j a m k p (Drawn b) (sym is ∙ h)).2)) (r.loose b u t.0);
}

-- where the blocks that were retired in a finished round are the same
pub kept_on : (round : ℕ) (died died' : ℕ → ℕ) (life life' : ℕ → Life) (kept : List ℕ) → ((b x m : ℕ) → life' b ≡ Placed x m → 0 < died' b → died' b ≤ round → (life b ≡ Placed x m) × (died' b ≡ died b)) → ((b x m : ℕ) → life b ≡ Placed x m → 0 < died b → died b ≤ round → (life' b ≡ Placed x m) × (died' b ≡ died b))
    → KeptRule round died life kept → KeptRule round died' life' kept
kept_on round died died' life life' kept back on r = record {
  all = λ b x m u p l. let t = back b x m u p l in let e = t.1 in r.all b x m t.0 (omega arith) (omega arith);
  right = λ b h. let t = r.right b h in let u = on b t.0 t.1 t.2 t.3 t.4 in let e = u.1 in let p = t.3 in let l = t.4 in (t.0, t.1, u.0, omega arith, omega arith);
}

-- where no pass is made or ends, and each keeps when it was made
pub early_on : (round n : ℕ) (kind : ℕ → Kind) (read : ℕ → Read) (j : ℕ) (u : Read) (early : ℕ) → u.made ≡ (read j).made → EarlyRule round n kind read early → EarlyRule round n kind (update read j u) early
early_on round n kind read j u early same r = r ∙ sym (sum_same n (λ i. is_early round (kind i) (read i)) (λ i. is_early round (kind i) (update read j u i)) (λ i _. dite (ℕ_discrete i j)
    (λ e. ap (is_early round (kind i)) (update_at read j i u e) ∙ ap (λ (k : ℕ). cond (is_reader (kind i)) (cond {A = ℕ} (ltb k round) 1 0) 0) same ∙ ap (λ (k : ℕ). is_early round (kind i) (read k)) (sym e)) (λ o. ap (is_early round (kind i)) (update_other read j i u o))))

-- a seat that is no reader's pass is not counted, nor one that was made since
pub early_none : (round : ℕ) (kind : Kind) (u : Read) → (kind ≡ Reader → ⊥) → is_early round kind u ≡ 0
early_none round kind u o = ap (λ (b : Bool). cond b (cond {A = ℕ} (ltb u.made round) 1 0) 0) (reader_false kind o)

pub early_late : (round : ℕ) (kind : Kind) (u : Read) → round ≤ u.made → is_early round kind u ≡ 0
early_late round kind u l = dite (kind_discrete kind Reader) (λ e. ap (λ (b : Bool). cond b (cond {A = ℕ} (ltb u.made round) 1 0) 0) (reader_true kind e) ∙ ap (λ (b : Bool). cond {A = ℕ} b 1 0) (le-ltb u.made round l)) (early_none round kind u)

pub early_one : (round : ℕ) (kind : Kind) (u : Read) → kind ≡ Reader → u.made < round → is_early round kind u ≡ 1
early_one round kind u e l = ap (λ (b : Bool). cond b (cond {A = ℕ} (ltb u.made round) 1 0) 0) (reader_true kind e) ∙ ap (λ (b : Bool). cond {A = ℕ} b 1 0) (lt-ltb u.made round l)

pub early_other : (round n : ℕ) (kind : ℕ → Kind) (read : ℕ → Read) (j : ℕ) (u : Read) (early : ℕ) → (kind j ≡ Reader → ⊥) → EarlyRule round n kind read early → EarlyRule round n kind (update read j u) early
early_other round n kind read j u early not r = r ∙ sym (sum_same n (λ i. is_early round (kind i) (read i)) (λ i. is_early round (kind i) (update read j u i)) (λ i _. dite (ℕ_discrete i j)
    (λ e. let o : kind i ≡ Reader → ⊥ = λ f. not (ap kind (sym e) ∙ f) in early_none round (kind i) (update read j u i) o ∙ sym (early_none round (kind i) (read i) o)) (λ o. ap (is_early round (kind i)) (update_other read j i u o))))

-- where no block is known as retired that was not known so, and those that were are as before
pub retireds_on : (round : ℕ) (died died' : ℕ → ℕ) (life life' : ℕ → Life) (work work' : ℕ → Work) (retired retired' : List ℕ) → ((b : ℕ) → ((j : ℕ) × HasEntry (work' j).retired b) ⊎ HasEntry retired' b → ((j : ℕ) × HasEntry (work j).retired b) ⊎ HasEntry retired b)
    → ((b x m : ℕ) → life b ≡ Placed x m → died b ≡ round + 1 → (life' b ≡ Placed x m) × (died' b ≡ died b)) → RetiredRight round died life work retired → RetiredRight round died' life' work' retired'
retireds_on round died died' life life' work work' retired retired' was on r b h = let t = r b (was b h) in let u = on b t.0 t.1 t.2 t.3 in (t.0, t.1, u.0, u.1 ∙ t.3)

-- where one seat's knowledge changes, but not what it knows as retired
pub retireds_work : (round : ℕ) (died : ℕ → ℕ) (life : ℕ → Life) (work : ℕ → Work) (retired : List ℕ) (j : ℕ) (u : Work) → u.retired ≡ (work j).retired → RetiredRight round died life work retired → RetiredRight round died life (update work j u) retired
retireds_work round died life work retired j u same r = retireds_on round died died life life work (update work j u) retired retired
    (λ b h. ⊎_elim (λ t. inl (t.0, subst (λ (l : List ℕ). HasEntry l b) (update_cases (λ i x. x.retired ≡ (work i).retired) work j u same (λ _ _. refl) t.0) t.1)) inr h) (λ b x m e f. (e, refl)) r

-- but in the second half no child of a block that was born in the round is known
pub grows_off : (s : Setup) (round : ℕ) (phase : Phase) (name born name' born' : ℕ → ℕ) (who who' : ℕ → ℕ) (kind : Kind) (seat : ℕ) (v u : Work) → (phase ≡ SecondHalf → ⊥) → u.grown ≡ v.grown → GrownRule s round phase name born who kind seat v → GrownRule s round phase name' born' who' kind seat u
grows_off s round phase name born name' born' who who' kind seat v u not same r = record { only = λ o z. same ∙ r.only o z; grown = λ x n h. absurd (not (r.grown x n (subst (λ (l : List (ℕ × ℕ)). HasEntry l (x, n)) same h)).0) }

pub grows_same : (s : Setup) (round : ℕ) (phase : Phase) (name born : ℕ → ℕ) (who : ℕ → ℕ) (kind : Kind) (seat : ℕ) (v u : Work) → u.grown ≡ v.grown → GrownRule s round phase name born who kind seat v → GrownRule s round phase name born who kind seat u
grows_same s round phase name born who kind seat v u same r = record { only = λ o z. same ∙ r.only o z; grown = λ x n h. r.grown x n (subst (λ (l : List (ℕ × ℕ)). HasEntry l (x, n)) same h) }
