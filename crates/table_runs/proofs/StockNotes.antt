-- What the seats know in the run that uses a row of the stock, and the lists of its last round.
use Rattle.std.proofs.Common.{◌≡◌, ℕ, ◌+◌, ◌<◌, ◌≤◌, ◌==◌, Bool, true, false, List, [], ◌∷◌, ◌⊎◌, refl, sym, ap, ◌∙◌, subst, inl, inr, ⊎_elim, arith, eqb-true}
use Rattle.table_words.specs.Claims.{Progress, Living, Claim, claim}
use Rattle.table_words.specs.Entries.{HasEntry, Noted}
use Rattle.table_words.specs.Places.{member_of}
use Rattle.table_words.specs.Views.{Plan, Views}
use Rattle.table_words.specs.Words.{Node, node}
use Rattle.table_state.specs.Ghosts.{Placed, stands}
use Rattle.table_state.specs.Lists.{Holds, IsTarget}
use Rattle.table_runs.specs.PatchWords.{name0, name1}
use Rattle.table_runs.specs.SquareTwice.{pair_setup}
use Rattle.table_runs.specs.ChildWords.{child_name, at_child}
use Rattle.table_runs.proofs.SquareNotes.{en, lt01, lt02, le22, swept_heads, both_placed, placed_zero, no_block, zero_or_one}
use Rattle.table_runs.proofs.ChildNotes.{child_names, child_closed}

pub le33 : 3 ≤ 3
le33 = omega arith

-- the words of the block's places, in which no chain word names it
abbrev Clean : ℕ → Type 0
Clean x = (l : Node) × Noted swept_heads x l × ((c : ℕ) → l.block ≡ c + 1 → (c == 0) ≡ false)

clean_tops : (x : ℕ) → x < 2 → Clean x
clean_tops x l = ⊎_elim
    (λ e. subst Clean (sym e) (node 0 0, inr (en 1 0 lt01, inl (refl, refl)), no_block))
    (λ e. subst Clean (sym e) (node 0 0, inl (refl, refl), no_block))
    (zero_or_one x l)

abbrev CleanPlaces : ℕ → Type 0
CleanPlaces x = Clean x × ((b y m : ℕ) (u : Bool) → HasEntry both_placed (b, y, m) → stands (Placed y m) u ≡ x + 1 → ((b == 0) ≡ true) ⊎ ((l : Node) × Noted ((1, node 0 0) ∷ (0, node 0 0) ∷ []) (member_of b u) l × ((c : ℕ) → l.block ≡ c + 1 → (c == 0) ≡ false)))

clean_places : (t : Bool) (x : ℕ) → stands (Placed 0 2) t ≡ x + 1 → CleanPlaces x
clean_places t x e = (clean_tops x (low t x e), λ b y m u h _. inl (placed_zero (b, y, m) h))
  where
    low : (t : Bool) (x : ℕ) → stands (Placed 0 2) t ≡ x + 1 → x < 2
    low true x e = let y : 2 ≡ x + 1 = e in omega arith
    low false x e = let y : 1 ≡ x + 1 = e in omega arith

pub root_gone : (c : ℕ) → (c == 0) ≡ true → (HasEntry {A = ℕ} [] c × ((◌≡◌ {A = ℕ} 0 0) ⊎ ((q : ℕ) → q < 2 → HasEntry {A = ℕ} [] q)) × (false ≡ true))
    ⊎ ((e y m : ℕ) × Noted ((0, 2) ∷ []) c e × (0 < e) × (e ≤ 2) × ((◌≡◌ {A = ℕ} 0 0) ⊎ ((q : ℕ) → q < e → HasEntry {A = ℕ} [] q)) × HasEntry both_placed (c, y, m) × ((t : Bool) (x : ℕ) → stands (Placed y m) t ≡ x + 1 → CleanPlaces x))
root_gone c h = let e : c ≡ 0 = eqb-true c 0 h in inr (2, 0, 2, inl (sym e, refl), lt02, le22, inl refl, inl (ap (λ (i : ℕ). (i, 0, 2)) e), clean_places)

abbrev pub frees_root : Views → Views
frees_root v = record v { ruling = record v.ruling { hand = 0 ∷ []; rolled_back = []; kept = []; placed = [] } }

-- two rows below FREE: row 0 is laid with block 0, and row 1 is of the stock
abbrev IsRow : ℕ → ℕ → Type 0
IsRow i b = (i < 2) × ((i < 1) ⊎ (2 ≤ i)) × Noted ((0, 0) ∷ []) i b

pub two_rows : (i : ℕ) → i < 2 → ((1 ≤ i) × (i < 2)) ⊎ ((c : ℕ) × IsRow i c × HasEntry {A = ℕ} (0 ∷ []) c × Noted {A = ℕ} ((0, 0) ∷ []) c 0)
two_rows i l = ⊎_elim (λ e. inr (0, (l, inl (omega arith), inl (sym e, refl)), inl refl, inl (refl, refl))) (λ e. inl (omega arith, l)) (zero_or_one i l)

pub one_below : (i j b : ℕ) → IsRow i b → IsRow j b → i ≡ j
one_below i j b x y = sym (zero x.2) ∙ zero y.2
  where
    zero : {k : ℕ} → Noted ((0, 0) ∷ []) k b → 0 ≡ k
    zero (inl e) = e.0
    zero (inr f) = absurd f.1

pub two_laid : (c : ℕ) → (HasEntry {A = ℕ} [] c → HasEntry {A = ℕ} (0 ∷ []) c × ((i : ℕ) → IsRow i c → ⊥)) × (HasEntry {A = ℕ} (0 ∷ []) c → HasEntry {A = ℕ} [] c ⊎ ((i : ℕ) × IsRow i c))
two_laid c = ((λ h. absurd h), λ h. ⊎_elim (λ e. inr (0, (lt02, inl lt01, inl (refl, sym e)))) (λ f. absurd f) h)

-- round 3 needs the child bisected, from the empty forest
abbrev pub third_plan : Plan
third_plan = record { needs = child_name ∷ []; target = child_names; retire = [] }

pub third_aim : IsTarget pair_setup (HasEntry []) third_plan
third_aim = record {
  closed = child_closed;
  olds = λ n h. absurd h;
  needs = λ n h. ⊎_elim (λ e. inr (inr (inl e))) (λ f. absurd f) h;
  least = λ other c o k n h. let kid = k child_name (inl refl) in let top = c.parents name0 false kid in
      ⊎_elim (λ e. subst (Holds other) (sym e) top) (λ t. ⊎_elim (λ e. subst (Holds other) (sym e) (c.seconds name0 536870912 refl top)) (λ u. ⊎_elim (λ e. subst (Holds other) (sym e) kid) (λ f. absurd f) u) t) h;
}

pub third_needed : (n : ℕ) → HasEntry (child_name ∷ []) n → HasEntry (child_name ∷ name0 ∷ []) n
third_needed n (inl e) = inl e
third_needed n (inr f) = absurd f

pub both_living : (x m : ℕ) (p : Progress) → HasEntry (claim at_child 0 (Living 1) ∷ claim 0 2 (Living 0) ∷ []) (claim x m p) → (b : ℕ) × (p ≡ Living b)
both_living x m p (inl e) = (1, ap (λ (c : Claim). c.progress) e)
both_living x m p (inr (inl e)) = (0, ap (λ (c : Claim). c.progress) e)
both_living x m p (inr (inr h)) = absurd h

abbrev found : List (ℕ × ℕ)
found = (at_child, child_name) ∷ (at_child + 1, pair_setup.child name0 true) ∷ (1, name1) ∷ (0, name0) ∷ []

pub bisects_again : (k : ℕ) → HasEntry (child_name ∷ name0 ∷ []) k → HasEntry (name0 ∷ name0 ∷ []) k ⊎ ((y : ℕ) × ((y ≡ at_child) ⊎ (0 ≡ y + 1)) × HasEntry found (y, k))
bisects_again k (inl e) = inr (at_child, inl refl, inl (ap (λ (i : ℕ). (at_child, i)) e))
bisects_again k (inr h) = inl (inr h)
