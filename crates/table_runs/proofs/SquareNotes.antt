-- What the seats of the square's run know, and numbers.
use Rattle.std.proofs.Common.{◌≡◌, ℕ, ◌+◌, ◌<◌, ◌≤◌, ◌==◌, Bool, true, false, List, [], ◌∷◌, ◌⊎◌, refl, sym, ap, subst, inl, inr, ⊎_elim, arith, eqb-true}
use native.Mathlib.Decide.{ℕ_discrete}
use mathlib.Core.Logic.{dite}
use Rattle.table_words.specs.Claims.{Progress, Living, Claim, claim}
use Rattle.table_words.specs.Entries.{HasEntry, Noted}
use Rattle.table_words.specs.Places.{member_of, child_place}
use Rattle.table_words.specs.Words.{Node, node}
use Rattle.table_state.specs.Ghosts.{Placed, stands}
use Rattle.table_state.specs.Lists.{IsMember}
use Rattle.table_runs.specs.PatchWords.{name0, name1}
use Rattle.table_runs.specs.SquareRun.{square_setup, pinned}
use Rattle.table_words.specs.Views.{Resting, FirstHalf, SecondHalf, Closing}

pub lt01 : 0 < 1
lt01 = omega arith

pub lt02 : 0 < 2
lt02 = omega arith

pub lt12 : 1 < 2
lt12 = omega arith

pub lt14 : 1 < 4
lt14 = omega arith

pub lt24 : 2 < 4
lt24 = omega arith

pub lt34 : 3 < 4
lt34 = omega arith

pub lt06 : 0 < 6
lt06 = omega arith

pub le00 : 0 ≤ 0
le00 = omega arith

pub le01 : 0 ≤ 1
le01 = omega arith

pub le11 : 1 ≤ 1
le11 = omega arith

pub le22 : 2 ≤ 2
le22 = omega arith

pub many : 0 < 1048576
many = omega arith

-- a round at rest is in no half
pub no_half : Resting ≡ FirstHalf → ⊥
no_half e = cc

pub ne : (a b : ℕ) → a < b → a ≡ b → ⊥
ne a b l e = omega arith

pub en : (a b : ℕ) → b < a → a ≡ b → ⊥
en a b l e = omega arith

pub not_less : (l : 3 < 3) → ⊥
not_less l = omega arith

pub zero_of : (y : ℕ) → 1 ≡ y + 1 → 0 ≡ y
zero_of y e = omega arith

pub one_of : (y : ℕ) → 2 ≡ y + 1 → 1 ≡ y
one_of y e = omega arith

pub below_one : (i : ℕ) → i < 1 → 0 ≡ i
below_one i l = omega arith

pub same_below_one : (i j : ℕ) → i < 1 → j < 1 → i ≡ j
same_below_one i j l m = omega arith

abbrev pub four : List (ℕ × Node) → List (ℕ × Node)
four xs = (5, node 0 0) ∷ (4, node 0 0) ∷ (3, node 0 0) ∷ (2, node 0 0) ∷ xs

pub kids_noted : (xs : List (ℕ × Node)) (t c : Bool) → Noted (four xs) (child_place 2 0 t c) (node 0 0)
kids_noted xs true true = inl (refl, refl)
kids_noted xs true false = inr (en 5 4 (omega arith), inl (refl, refl))
kids_noted xs false true = inr (en 5 3 (omega arith), inr (en 4 3 (omega arith), inl (refl, refl)))
kids_noted xs false false = inr (en 5 2 (omega arith), inr (en 4 2 (omega arith), inr (en 3 2 (omega arith), inl (refl, refl))))

pub past_four : (xs : List (ℕ × Node)) (i : ℕ) (l : Node) → i < 2 → Noted xs i l → Noted (four xs) i l
past_four xs i l low h = inr (en 5 i (omega arith), inr (en 4 i (omega arith), inr (en 3 i (omega arith), inr (en 2 i (omega arith), h))))

-- the old content of both members' links is their history
pub old_words : (t : Bool) (y : ℕ) → stands (Placed 0 2) t ≡ y + 1 → (l : Node) × Noted (four ((1, node 0 0) ∷ (0, node 0 0) ∷ [])) y l × Noted ((1, node 0 0) ∷ (0, node 0 0) ∷ []) (member_of 0 t) l
old_words true y e = (node 0 0, subst (λ (i : ℕ). Noted (four ((1, node 0 0) ∷ (0, node 0 0) ∷ [])) i (node 0 0)) (one_of y e) (past_four ((1, node 0 0) ∷ (0, node 0 0) ∷ []) 1 (node 0 0) (omega arith) (inl (refl, refl))), inl (refl, refl))
old_words false y e = (node 0 0, subst (λ (i : ℕ). Noted (four ((1, node 0 0) ∷ (0, node 0 0) ∷ [])) i (node 0 0)) (zero_of y e) (past_four ((1, node 0 0) ∷ (0, node 0 0) ∷ []) 0 (node 0 0) (omega arith) (inr (en 1 0 (omega arith), inl (refl, refl)))), inr (en 1 0 (omega arith), inl (refl, refl)))

pub living_claim : (x m : ℕ) (p : Progress) → HasEntry (claim 0 2 (Living 0) ∷ []) (claim x m p) → (b : ℕ) × (p ≡ Living b)
living_claim x m p (inl e) = (0, ap (λ (c : Claim). c.progress) e)
living_claim x m p (inr h) = absurd h

pub three : (Closing ≡ FirstHalf → ⊥) × (Closing ≡ SecondHalf → ⊥)
three = ((λ e. cc), λ e. cc)

pub only_zero : (b : ℕ) → 1 ≡ b + 1 → Living 0 ≡ Living b
only_zero b e = ap Living (zero_of b e)

pub no_claim : (x m : ℕ) (p : Progress) → HasEntry [] (claim x m p) → (b : ℕ) × (p ≡ Living b)
no_claim x m p h = absurd h

pub not_living : (b : ℕ) → Living 0 ≡ Living b → (Closing ≡ Closing → ⊥) → ⊥
not_living b e f = f refl

pub lt04 : 0 < 4
lt04 = omega arith

pub lt03 : 0 < 3
lt03 = omega arith

pub no_head : (t c : Bool) → (pinned.head (child_place 2 0 t c)).block ≡ 0
no_head true true = refl
no_head true false = refl
no_head false true = refl
no_head false false = refl

-- the four children's names
abbrev pub open4 : List ℕ
open4 = square_setup.child name0 false ∷ square_setup.child name0 true ∷ square_setup.child name1 false ∷ square_setup.child name1 true ∷ []

pub children0 : (c : Bool) → HasEntry open4 (square_setup.child name0 c)
children0 true = inr (inl refl)
children0 false = inl refl

pub children_of_1 : (c : Bool) → HasEntry open4 (square_setup.child name1 c)
children_of_1 true = inr (inr (inr (inl refl)))
children_of_1 false = inr (inr (inl refl))

pub children1 : (i : ℕ) → square_setup.mate name0 ≡ i + 1 → (c : Bool) → HasEntry open4 (square_setup.child (i + 1) c)
children1 i e c = subst (λ (k : ℕ). HasEntry open4 (square_setup.child k c)) e (children_of_1 c)

pub newly : (i : ℕ) → HasEntry (name0 ∷ name1 ∷ open4) i → HasEntry open4 i ⊎ IsMember square_setup name0 i
newly i (inl e) = inr (inl e)
newly i (inr (inl e)) = inr (inr (536870912, refl, e))
newly i (inr (inr h)) = inl h

-- the owner's notes of links, after both are stamped
abbrev pub stamped_heads : List (ℕ × Node)
stamped_heads = (1, node 1 2) ∷ (0, node 1 2) ∷ (1, node 1 0) ∷ (0, node 1 0) ∷ []

abbrev pub Stamped : ℕ → ℕ → Type 0
Stamped x b = (l : Node) × Noted stamped_heads x l × ((l.block ≡ b + 1 → ⊥) ⊎ (0 < l.died))

abbrev pub BothStamped : ℕ → Type 0
BothStamped b = (x : ℕ) × (m : ℕ) × HasEntry {A = ℕ × ℕ × ℕ} ((0, 0, 2) ∷ (0, 0, 2) ∷ []) (b, x, m) × Stamped x b × ((y : ℕ) → m ≡ y + 1 → Stamped y b)

pub both_stamped : (b : ℕ) → HasEntry (0 ∷ []) b → BothStamped b
both_stamped b (inr h) = absurd h
both_stamped b (inl e) = subst BothStamped (sym e) (0, 2, inl refl, (node 1 2, inr (en 1 0 lt01, inl (refl, refl)), inr lt02), λ y f. subst (λ (i : ℕ). Stamped i 0) (one_of y f) (node 1 2, inl (refl, refl), inr lt02))

pub zero_or_one : (q : ℕ) → q < 2 → (q ≡ 0) ⊎ (q ≡ 1)
zero_or_one q l = dite (ℕ_discrete q 0) inl (λ o. inr (omega arith))

cleared : (q : ℕ) → q < 2 → HasEntry (0 ∷ 1 ∷ []) q
cleared q l = ⊎_elim (λ e. inl e) (λ e. inr (inl e)) (zero_or_one q l)

-- a pass is out that was made before, and both rounds are drained
pub both_drained : {early : ℕ} → (early ≡ 0) ⊎ ((q : ℕ) → q < 2 → HasEntry (0 ∷ 1 ∷ []) q)
both_drained = inr cleared

abbrev pub swept_heads : List (ℕ × Node)
swept_heads = (1, node 0 0) ∷ (0, node 0 0) ∷ stamped_heads

-- and of three more, of children
abbrev pub swept_more : List (ℕ × Node)
swept_more = (4, node 0 0) ∷ (3, node 0 0) ∷ (2, node 0 0) ∷ swept_heads

abbrev pub Clean : ℕ → Type 0
Clean x = (l : Node) × Noted swept_more x l × ((c : ℕ) → l.block ≡ c + 1 → (c == 0) ≡ false)

pub no_block : (c : ℕ) → 0 ≡ c + 1 → (c == 0) ≡ false
no_block c e = absurd (omega arith)

past_three : (i : ℕ) (l : Node) → i < 2 → Noted swept_heads i l → Noted swept_more i l
past_three i l low h = inr (en 4 i (omega arith), inr (en 3 i (omega arith), inr (en 2 i (omega arith), h)))

clean_tops : (x : ℕ) → x < 2 → Clean x
clean_tops x l = ⊎_elim
    (λ e. subst Clean (sym e) (node 0 0, past_three 0 (node 0 0) lt02 (inr (en 1 0 lt01, inl (refl, refl))), no_block))
    (λ e. subst Clean (sym e) (node 0 0, past_three 1 (node 0 0) lt12 (inl (refl, refl)), no_block))
    (zero_or_one x l)

-- the block's places, of which no word names it; no other block stands there
abbrev pub both_placed : List (ℕ × ℕ × ℕ)
both_placed = (0, 0, 2) ∷ (0, 0, 2) ∷ []

pub is_zero : (c : ℕ) → c ≡ 0 → (c == 0) ≡ true
is_zero c e = ap (λ (z : ℕ). z == 0) e

pub placed_zero : (a : ℕ × ℕ × ℕ) → HasEntry both_placed a → (a.0 == 0) ≡ true
placed_zero a h = is_zero a.0 (⊎_elim (λ e. ap (λ (z : ℕ × ℕ × ℕ). z.0) e) (λ t. ⊎_elim (λ e. ap (λ (z : ℕ × ℕ × ℕ). z.0) e) (λ f. absurd f) t) h)

pub clean_places : (t : Bool) (x : ℕ) → stands (Placed 0 2) t ≡ x + 1 → Clean x × ((b y m : ℕ) (u : Bool) → HasEntry both_placed (b, y, m) → stands (Placed y m) u ≡ x + 1 → ((b == 0) ≡ true) ⊎ ((l : Node) × Noted ((1, node 0 0) ∷ (0, node 0 0) ∷ []) (member_of b u) l × ((c : ℕ) → l.block ≡ c + 1 → (c == 0) ≡ false)))
clean_places t x e = (clean_tops x (low t x e), λ b y m u h _. inl (placed_zero (b, y, m) h))
  where
    low : (t : Bool) (x : ℕ) → stands (Placed 0 2) t ≡ x + 1 → x < 2
    low true x e = let y : 2 ≡ x + 1 = e in omega arith
    low false x e = let y : 1 ≡ x + 1 = e in omega arith

pub hand_zero : (c : ℕ) → (HasEntry (0 ∷ []) c → HasEntry {A = ℕ} [] c ⊎ ((c == 0) ≡ true)) × (HasEntry {A = ℕ} [] c ⊎ ((c == 0) ≡ true) → HasEntry (0 ∷ []) c)
hand_zero c = ((λ h. ⊎_elim (λ e. inr (is_zero c e)) (λ f. absurd f) h), λ h. ⊎_elim (λ f. absurd f) (λ e. inl (eqb-true c 0 e)) h)

pub kept_zero : (c : ℕ) → (HasEntry {A = ℕ} [] c → HasEntry (0 ∷ []) c × ((c == 0) ≡ false)) × (HasEntry (0 ∷ []) c → HasEntry {A = ℕ} [] c ⊎ ((c == 0) ≡ true))
kept_zero c = ((λ h. absurd h), λ h. ⊎_elim (λ e. inr (is_zero c e)) (λ f. absurd f) h)

pub none_left : (a : ℕ × ℕ × ℕ) → (HasEntry {A = ℕ × ℕ × ℕ} [] a → HasEntry both_placed a × ((a.0 == 0) ≡ false)) × (HasEntry both_placed a → HasEntry {A = ℕ × ℕ × ℕ} [] a ⊎ ((a.0 == 0) ≡ true))
none_left a = ((λ h. absurd h), λ h. inr (placed_zero a h))

-- the one row below FREE, which is not of the stock
abbrev pub IsRow : ℕ → List (ℕ × ℕ) → ℕ → ℕ → Type 0
IsRow high rows i b = (i < 1) × ((i < 1) ⊎ (high ≤ i)) × Noted rows i b

pub one_row : (high b : ℕ) (rows : List (ℕ × ℕ)) (i : ℕ) → i < 1 → ((1 ≤ i) × (i < high)) ⊎ ((c : ℕ) × IsRow high ((0, b) ∷ rows) i c × HasEntry {A = ℕ} (b ∷ []) c × Noted {A = ℕ} ((b, 0) ∷ []) c 0)
one_row high b rows i l = inr (b, (l, inl l, inl (below_one i l, refl)), inl refl, inl (refl, refl))

pub one_laid : (high b : ℕ) (rows : List (ℕ × ℕ)) (c : ℕ) → (HasEntry {A = ℕ} [] c → HasEntry {A = ℕ} (b ∷ []) c × ((i : ℕ) → IsRow high ((0, b) ∷ rows) i c → ⊥)) × (HasEntry {A = ℕ} (b ∷ []) c → HasEntry {A = ℕ} [] c ⊎ ((i : ℕ) × IsRow high ((0, b) ∷ rows) i c))
one_laid high b rows c = ((λ h. absurd h), λ h. ⊎_elim (λ e. inr (0, (lt01, inl lt01, inl (refl, sym e)))) (λ f. absurd f) h)
