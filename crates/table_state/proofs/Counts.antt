-- Lists of numbers, each once, and how long they are.
use Rattle.std.proofs.Common.{◌≡◌, ℕ, zero, suc, ◌+◌, ◌-◌, ◌<◌, ◌≤◌, List, [], ◌∷◌, ◌++◌, length, ◌⊎◌, refl, sym, ap, ◌∙◌, subst, inl, inr, ⊎_elim, arith, true, false, Bool}
use mathlib.Core.Logic.{dite}
use native.Mathlib.Decide.{ℕ_discrete, dec_lt}
use Rattle.table_words.specs.Entries.{HasEntry}
use Rattle.table_words.specs.Sums.{sum_below}
use Rattle.table_words.proofs.Entries.{entry_of_both}
use Rattle.table_state.specs.OwnerLaws.{Once}
use Rattle.table_state.specs.DrawLaws.{Enumerates}

-- a list without one of its numbers
pub removed : (list : List ℕ) (b : ℕ) → Once list → HasEntry list b → (rest : List ℕ) × Once rest × (length list ≡ length rest + 1) × ((c : ℕ) → HasEntry rest c → HasEntry list c × (c ≡ b → ⊥)) × ((c : ℕ) → HasEntry list c → (c ≡ b → ⊥) → HasEntry rest c)
removed [] b o h = absurd h
removed (x ∷ xs) b o (inl e) = (xs, o.1, omega arith, (λ c k. (inr k, λ q. o.0 (subst (HasEntry xs) (q ∙ e) k))), λ c k q. ⊎_elim (λ i. absurd (q (i ∙ sym e))) (λ k. k) k)
removed (x ∷ xs) b o (inr h) = let t = removed xs b o.1 h in let l = t.2 in (x ∷ t.0, ((λ k. o.0 (t.3 x k).0), t.1), omega arith, (λ c k. ⊎_elim (λ e. (inl e, λ q. o.0 (subst (HasEntry xs) (sym q ∙ e) h))) (λ k. let u = t.3 c k in (inr u.0, u.1)) k), λ c k q. ⊎_elim (λ e. inl e) (λ k. inr (t.4 c k q)) k)

-- a list that has each number below p once has p of them
pub counted : (p : ℕ) (list : List ℕ) → Once list → ((b : ℕ) → HasEntry list b → b < p) → ((b : ℕ) → b < p → HasEntry list b) → length list ≡ p
counted zero [] o low all = refl
counted zero (x ∷ xs) o low all = let l = low x (inl refl) in absurd (omega arith)
counted (suc p) list o low all = let t = removed list p o (all p (omega arith)) in let l = t.2 in
    let c = counted p t.0 t.1 (λ b h. let u = t.3 b h in let k = low b u.0 in elim (dec_lt b p) [ yes m ↦ m | no m ↦ absurd (u.1 (omega arith)) ]) (λ b k. t.4 b (all b (omega arith)) (λ e. omega arith)) in omega arith

pub once_append : (xs ys : List ℕ) → Once xs → Once ys → ((b : ℕ) → HasEntry xs b → HasEntry ys b → ⊥) → Once (xs ++ ys)
once_append [] ys a b not = b
once_append (x ∷ xs) ys a b not = ((λ h. ⊎_elim a.0 (not x (inl refl)) (entry_of_both xs ys x h)), once_append xs ys a.1 b (λ c h. not c (inr h)))

-- the blocks of k rows from c on
abbrev pub rows_from : ℕ → (ℕ → ℕ) → ℕ → List ℕ
rows_from c row zero = []
rows_from c row (suc k) = row (c + k) ∷ rows_from c row k

pub rows_length : (c : ℕ) (row : ℕ → ℕ) (k : ℕ) → length (rows_from c row k) ≡ k
rows_length c row zero = refl
rows_length c row (suc k) = let e = rows_length c row k in omega arith

pub row_of : (c : ℕ) (row : ℕ → ℕ) (k b : ℕ) → HasEntry (rows_from c row k) b → (i : ℕ) × (c ≤ i) × (i < c + k) × (row i ≡ b)
row_of c row zero b h = absurd h
row_of c row (suc k) b (inl e) = (c + k, omega arith, omega arith, sym e)
row_of c row (suc k) b (inr h) = let t = row_of c row k b h in let l = t.2 in (t.0, t.1, omega arith, t.3)

pub has_row : (c : ℕ) (row : ℕ → ℕ) (k i : ℕ) → c ≤ i → i < c + k → HasEntry (rows_from c row k) (row i)
has_row c row zero i l m = absurd (omega arith)
has_row c row (suc k) i l m = dite (ℕ_discrete i (c + k)) (λ e. inl (ap row e)) (λ o. inr (has_row c row k i l (elim (dec_lt i (c + k)) [ yes q ↦ q | no q ↦ absurd (o (omega arith)) ])))

pub once_rows : (c : ℕ) (row : ℕ → ℕ) (k : ℕ) → ((i j : ℕ) → c ≤ i → i < c + k → c ≤ j → j < c + k → row i ≡ row j → i ≡ j) → Once (rows_from c row k)
once_rows c row zero one = tt
once_rows c row (suc k) one = ((λ h. let t = row_of c row k (row (c + k)) h in let l = t.2 in let e = one t.0 (c + k) t.1 (omega arith) (omega arith) (omega arith) t.3 in omega arith), once_rows c row k (λ i j a b d f. one i j a (omega arith) d (omega arith)))

-- the blocks that a function gives, less one, for the names of a list
abbrev pub blocks_of : (ℕ → ℕ) → List ℕ → List ℕ
blocks_of who [] = []
blocks_of who (k ∷ ks) = (who k - 1) ∷ blocks_of who ks

pub blocks_length : (who : ℕ → ℕ) (ks : List ℕ) → length (blocks_of who ks) ≡ length ks
blocks_length who [] = refl
blocks_length who (k ∷ ks) = let e = blocks_length who ks in omega arith

pub name_of : (who : ℕ → ℕ) (ks : List ℕ) (b : ℕ) → HasEntry (blocks_of who ks) b → (k : ℕ) × HasEntry ks k × (b ≡ who k - 1)
name_of who [] b h = absurd h
name_of who (k ∷ ks) b (inl e) = (k, inl refl, e)
name_of who (k ∷ ks) b (inr h) = let t = name_of who ks b h in (t.0, inr t.1, t.2)

pub has_block : (who : ℕ → ℕ) (ks : List ℕ) (k : ℕ) → HasEntry ks k → HasEntry (blocks_of who ks) (who k - 1)
has_block who [] k h = absurd h
has_block who (i ∷ ks) k (inl e) = inl (ap (λ (j : ℕ). who j - 1) e)
has_block who (i ∷ ks) k (inr h) = inr (has_block who ks k h)

pub once_blocks : (who : ℕ → ℕ) (ks : List ℕ) → Once ks → ((k i : ℕ) → HasEntry ks k → HasEntry ks i → who k - 1 ≡ who i - 1 → k ≡ i) → Once (blocks_of who ks)
once_blocks who [] o one = tt
once_blocks who (k ∷ ks) o one = ((λ h. let t = name_of who ks (who k - 1) h in o.0 (subst (HasEntry ks) (sym (one k t.0 (inl refl) (inr t.1) t.2)) t.1)), once_blocks who ks o.1 (λ a b h f. one a b (inr h) (inr f)))

-- a list without an entry at one of its places
taken : (list : List ℕ) (b : ℕ) → HasEntry list b → (rest : List ℕ) × (length list ≡ length rest + 1) × ((c : ℕ) → HasEntry list c → (c ≡ b → ⊥) → HasEntry rest c)
taken [] b h = absurd h
taken (x ∷ xs) b (inl e) = (xs, omega arith, λ c k q. ⊎_elim (λ i. absurd (q (i ∙ sym e))) (λ k. k) k)
taken (x ∷ xs) b (inr h) = let t = taken xs b h in let l = t.1 in (x ∷ t.0, omega arith, λ c k q. ⊎_elim (λ e. inl e) (λ k. inr (t.2 c k q)) k)

-- a list that has each number below p has p entries or more
pub covered : (p : ℕ) (list : List ℕ) → ((b : ℕ) → b < p → HasEntry list b) → p ≤ length list
covered zero list all = omega arith
covered (suc p) list all = let t = taken list p (all p (omega arith)) in let l = t.1 in let c = covered p t.0 (λ b k. t.2 b (all b (omega arith)) (λ e. omega arith)) in omega arith

-- a list of different numbers is no longer than one that has them all
pub once_within : (xs ys : List ℕ) → Once xs → ((b : ℕ) → HasEntry xs b → HasEntry ys b) → length xs ≤ length ys
once_within [] ys o all = omega arith
once_within (x ∷ xs) ys o all = let t = taken ys x (all x (inl refl)) in let l = t.1 in
    let c = once_within xs t.0 o.1 (λ b h. t.2 b (all b (inr h)) (λ e. o.0 (subst (HasEntry xs) e h))) in omega arith

pub has_dec : (list : List ℕ) (k : ℕ) → HasEntry list k ⊎ (HasEntry list k → ⊥)
has_dec [] k = inr (λ h. h)
has_dec (x ∷ xs) k = dite (ℕ_discrete k x) (λ e. inl (inl e)) (λ o. ⊎_elim (λ h. inl (inr h)) (λ n. inr (λ h. ⊎_elim o n h)) (has_dec xs k))

true_or_not : (b : Bool) → (b ≡ true) ⊎ (b ≡ true → ⊥)
true_or_not true = inl refl
true_or_not false = inr (λ e. cc)

-- the numbers of a list at which a function is true, each once
pub chosen : (f : ℕ → Bool) (list : List ℕ) → (some : List ℕ) × Enumerates (λ k. (f k ≡ true) × HasEntry list k) some
chosen f [] = ([], (tt, λ k. ((λ h. absurd h), λ h. h.1)))
chosen f (x ∷ xs) = let t = chosen f xs in
    ⊎_elim
    (λ e. ⊎_elim
    (λ h. (t.0, (t.1.0, λ k. ((λ l. let u = (t.1.1 k).0 l in (u.0, inr u.1)), λ l. ⊎_elim (λ q. (t.1.1 k).1 (l.0, subst (HasEntry xs) (sym q) h)) (λ a. (t.1.1 k).1 (l.0, a)) l.1))))
    (λ n. (x ∷ t.0, (((λ l. n ((t.1.1 x).0 l).1), t.1.0), λ k. ((λ l. ⊎_elim (λ q. (ap f q ∙ e, inl q)) (λ a. let u = (t.1.1 k).0 a in (u.0, inr u.1)) l), λ l. ⊎_elim (λ q. inl q) (λ a. inr ((t.1.1 k).1 (l.0, a))) l.1))))
    (has_dec xs x))
    (λ o. (t.0, (t.1.0, λ k. ((λ l. let u = (t.1.1 k).0 l in (u.0, inr u.1)), λ l. ⊎_elim (λ q. absurd (o (ap f (sym q) ∙ l.0))) (λ a. (t.1.1 k).1 (l.0, a)) l.1))))
    (true_or_not (f x))

-- a sum is less where one summand is, and none is more
pub sum_less : (n : ℕ) (f g : ℕ → ℕ) (k : ℕ) → ((i : ℕ) → f i ≤ g i) → k < n → f k < g k → sum_below n f < sum_below n g
sum_less zero f g k all l m = absurd (omega arith)
sum_less (suc n) f g k all l m = let a = all n in dite (ℕ_discrete k n)
    (λ e. let b = sum_all n f g all in let p = ap f e in let q = ap g e in omega arith)
    (λ o. let b = sum_less n f g k all (elim (dec_lt k n) [ yes q ↦ q | no q ↦ absurd (o (omega arith)) ]) m in omega arith)
  where
    sum_all : (n : ℕ) (f g : ℕ → ℕ) → ((i : ℕ) → f i ≤ g i) → sum_below n f ≤ sum_below n g
    sum_all zero f g all = omega arith
    sum_all (suc n) f g all = let a = all n in let b = sum_all n f g all in omega arith
