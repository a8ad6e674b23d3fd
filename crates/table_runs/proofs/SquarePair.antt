-- What the seats of the square's run with two blocks know, and the lists of its rounds.
use Rattle.std.proofs.Common.{◌≡◌, ℕ, ◌+◌, ◌<◌, Bool, true, false, List, [], ◌∷◌, ◌⊎◌, refl, sym, ap, ◌∙◌, subst, inl, inr, ⊎_elim, arith}
use Rattle.table_words.specs.Claims.{Progress, Living, Claim, claim}
use Rattle.table_words.specs.Entries.{HasEntry, Noted}
use Rattle.table_words.specs.Places.{member_of, child_place}
use Rattle.table_words.specs.Words.{Node, node}
use Rattle.table_state.specs.Ghosts.{Placed, stands}
use Rattle.table_state.specs.Lists.{Holds, IsClosed, IsTarget, IsListed, IsMember}
use Rattle.table_runs.specs.PatchWords.{name0, name1}
use Rattle.table_runs.specs.SquareRun.{square_setup}
use Rattle.table_runs.specs.SquareTwice.{pair_setup}
use Rattle.table_runs.proofs.SquareLists.{both, both_closed, first_plan, second_plan, first_aim, second_aim}
use Rattle.table_runs.proofs.SquareNotes.{en, one_of, zero_of}
use Rattle.table_words.specs.Views.{Closing}

pub lt23 : 2 < 3
lt23 = omega arith

-- the names and the lists are those of the square, however many blocks there are
square_closed : (other : ℕ → ℕ) → IsClosed pair_setup (Holds other) → IsClosed square_setup (Holds other)
square_closed other c = record { parents = c.parents; seconds = c.seconds; firsts = c.firsts }

pair_closed : IsClosed pair_setup (HasEntry both)
pair_closed = record { parents = both_closed.parents; seconds = both_closed.seconds; firsts = both_closed.firsts }

pub pair_first : IsTarget pair_setup (HasEntry []) first_plan
pair_first = record { closed = pair_closed; olds = first_aim.olds; needs = first_aim.needs; least = λ other c o k n h. first_aim.least other (square_closed other c) o k n h }

pub pair_second : IsTarget pair_setup (HasEntry both) second_plan
pair_second = record { closed = pair_closed; olds = second_aim.olds; needs = second_aim.needs; least = λ other c o k n h. second_aim.least other (square_closed other c) o k n h }

pub bisects_first : (k : ℕ) → HasEntry (name0 ∷ []) k → HasEntry [] k ⊎ ((y : ℕ) × ((y ≡ 0) ⊎ (2 ≡ y + 1)) × HasEntry {A = ℕ × ℕ} ((1, name1) ∷ (0, name0) ∷ []) (y, k))
bisects_first k h = ⊎_elim (λ e. inr (0, inl refl, inr (inl (ap (λ (i : ℕ). (0, i)) e)))) (λ f. absurd f) h

-- a pass that finds the patch retired knows both members as not bisected
pub newly_known : (rest : List ℕ) (i : ℕ) → HasEntry (name0 ∷ name1 ∷ rest) i → HasEntry rest i ⊎ IsMember pair_setup name0 i
newly_known rest i (inl e) = inr (inl e)
newly_known rest i (inr (inl e)) = inr (inr (536870912, refl, e))
newly_known rest i (inr (inr h)) = inl h

pub both_known : (rest : List ℕ) (n : ℕ) → IsListed pair_setup (name0 ∷ []) n → HasEntry (name0 ∷ name1 ∷ rest) n
both_known rest n h = ⊎_elim (λ e. ⊎_elim (λ f. inl (f ∙ e)) (λ f. inr (inl (f.2 ∙ sym f.1 ∙ ap square_setup.mate e))) h.2) (λ f. absurd f) h.1

-- the words of block 1, and the old content of both members' links, which names block 0
abbrev pub four_more : List (ℕ × Node) → List (ℕ × Node)
four_more xs = (9, node 0 0) ∷ (8, node 0 0) ∷ (7, node 0 0) ∷ (6, node 0 0) ∷ xs

pub kids_again : (xs : List (ℕ × Node)) (t c : Bool) → Noted (four_more xs) (child_place 2 1 t c) (node 0 0)
kids_again xs true true = inl (refl, refl)
kids_again xs true false = inr (en 9 8 (omega arith), inl (refl, refl))
kids_again xs false true = inr (en 9 7 (omega arith), inr (en 8 7 (omega arith), inl (refl, refl)))
kids_again xs false false = inr (en 9 6 (omega arith), inr (en 8 6 (omega arith), inr (en 7 6 (omega arith), inl (refl, refl))))

pub past_again : (xs : List (ℕ × Node)) (i : ℕ) (l : Node) → i < 2 → Noted xs i l → Noted (four_more xs) i l
past_again xs i l low h = inr (en 9 i (omega arith), inr (en 8 i (omega arith), inr (en 7 i (omega arith), inr (en 6 i (omega arith), h))))

abbrev old_heads : List (ℕ × Node)
old_heads = (1, node 1 2) ∷ (0, node 1 2) ∷ []

pub old_again : (t : Bool) (y : ℕ) → stands (Placed 0 2) t ≡ y + 1 → (l : Node) × Noted (four_more old_heads) y l × Noted ((3, node 1 2) ∷ (2, node 1 2) ∷ []) (member_of 1 t) l
old_again true y e = (node 1 2, subst (λ (i : ℕ). Noted (four_more old_heads) i (node 1 2)) (one_of y e) (past_again old_heads 1 (node 1 2) (omega arith) (inl (refl, refl))), inl (refl, refl))
old_again false y e = (node 1 2, subst (λ (i : ℕ). Noted (four_more old_heads) i (node 1 2)) (zero_of y e) (past_again old_heads 0 (node 1 2) (omega arith) (inr (en 1 0 (omega arith), inl (refl, refl)))), inr (en 3 2 (omega arith), inl (refl, refl)))

-- when round 3 is planned and closed
pub first_known : (i : ℕ) → HasEntry (name0 ∷ []) i → HasEntry (name0 ∷ name0 ∷ []) i
first_known i (inl e) = inl e
first_known i (inr h) = absurd h

pub again_living : (x m : ℕ) (p : Progress) → HasEntry (claim 0 2 (Living 1) ∷ []) (claim x m p) → (b : ℕ) × (p ≡ Living b)
again_living x m p (inl e) = (1, ap (λ (c : Claim). c.progress) e)
again_living x m p (inr h) = absurd h

pub only_one : (b : ℕ) → 2 ≡ b + 1 → Living 1 ≡ Living b
only_one b e = ap Living (one_of b e)

pub again_not : (b : ℕ) → Living 1 ≡ Living b → (Closing ≡ Closing → ⊥) → ⊥
again_not b e f = f refl
