-- What the seats of the child's run know, and the lists of its second round.
use Rattle.std.proofs.Common.{◌≡◌, ℕ, ◌+◌, Bool, true, false, List, [], ◌∷◌, ◌⊎◌, refl, sym, ap, ◌∙◌, subst, inl, inr, ⊎_elim, arith}
use Rattle.mesh_names.specs.Squares.{square}
use Rattle.mesh_names.specs.Validity.{across_of}
use Rattle.mesh_names.proofs.Squares.{squares_fit}
use Rattle.table_words.specs.Claims.{Progress, Living, Claim, claim}
use Rattle.table_words.specs.Entries.{HasEntry, Noted}
use Rattle.table_words.specs.Places.{member_of}
use Rattle.table_words.specs.Setup.{NamesApart}
use Rattle.table_words.specs.Views.{Plan}
use Rattle.table_words.specs.Words.{Node, node}
use Rattle.table_words.proofs.CodedNames.{codes_apart}
use Rattle.table_state.specs.Ghosts.{Placed, stands}
use Rattle.table_state.specs.Lists.{Holds, IsClosed, IsTarget, IsListed}
use Rattle.table_runs.specs.PatchWords.{name0, name1}
use Rattle.table_runs.specs.SquareTwice.{pair_setup}
use Rattle.table_runs.specs.ChildWords.{child_name, at_child}
use Rattle.table_runs.proofs.SquareLists.{both, both_closed}
use Rattle.table_runs.proofs.SquareNotes.{en}
use Rattle.table_runs.proofs.SquarePair.{lt23, four_more}

-- round 2 needs the child bisected
abbrev pub child_names : List ℕ
child_names = name0 ∷ name1 ∷ child_name ∷ []

abbrev pub child_plan : Plan
child_plan = record { needs = child_name ∷ []; target = child_names; retire = [] }

apart : NamesApart pair_setup
apart = codes_apart square (across_of square) record { rounds = 4; elements = 2; pool = 2 } 1 (squares_fit.0).2

-- the names are the elements' or the child's
split : (n : ℕ) → HasEntry child_names n → HasEntry both n ⊎ (n ≡ child_name)
split n (inl e) = inl (inl e)
split n (inr (inl e)) = inl (inr (inl e))
split n (inr (inr (inl e))) = inr e
split n (inr (inr (inr f))) = absurd f

join : (n : ℕ) → HasEntry both n → HasEntry child_names n
join n (inl e) = inl e
join n (inr (inl e)) = inr (inl e)
join n (inr (inr f)) = absurd f

pub child_closed : IsClosed pair_setup (HasEntry child_names)
child_closed = record {
  parents = λ n c h. ⊎_elim (λ k. join n (both_closed.parents n c k)) (λ e. inl (apart.child_one n name0 c false e).0) (split (pair_setup.child n c) h);
  seconds = λ n k e h. ⊎_elim (λ b. join (k + 1) (both_closed.seconds n k e b)) (λ f. let z : 0 ≡ k + 1 = sym (ap pair_setup.mate f) ∙ e in absurd (omega arith)) (split n h);
  firsts = λ n k e h. ⊎_elim (λ b. join n (both_closed.firsts n k e b)) (λ f. absurd (apart.mate_leads n child_name k e refl (sym f))) (split (k + 1) h);
}

pub child_aim : IsTarget pair_setup (HasEntry both) child_plan
child_aim = record {
  closed = child_closed;
  olds = join;
  needs = λ n h. ⊎_elim (λ e. inr (inr (inl e))) (λ f. absurd f) h;
  least = λ other c o k n h. ⊎_elim (o n) (λ e. subst (Holds other) (sym e) (k child_name (inl refl))) (split n h);
}

pub child_stays : (n : ℕ) → HasEntry child_names n → HasEntry child_names n × (IsListed pair_setup [] n → ⊥)
child_stays n h = (h, λ l. l.1)

pub child_needed : (n : ℕ) → HasEntry (child_name ∷ []) n → HasEntry (child_name ∷ name0 ∷ []) n
child_needed n (inl e) = inl e
child_needed n (inr f) = absurd f

pub child_living : (x m : ℕ) (p : Progress) → HasEntry (claim at_child 0 (Living 1) ∷ []) (claim x m p) → (b : ℕ) × (p ≡ Living b)
child_living x m p (inl e) = (1, ap (λ (c : Claim). c.progress) e)
child_living x m p (inr h) = absurd h

abbrev found : List (ℕ × ℕ)
found = (at_child, child_name) ∷ (at_child + 1, pair_setup.child name0 true) ∷ []

pub bisects_child : (k : ℕ) → HasEntry (child_name ∷ name0 ∷ []) k → HasEntry (name0 ∷ []) k ⊎ ((y : ℕ) × ((y ≡ at_child) ⊎ (0 ≡ y + 1)) × HasEntry found (y, k))
bisects_child k (inl e) = inr (at_child, inl refl, inl (ap (λ (i : ℕ). (at_child, i)) e))
bisects_child k (inr h) = inl h

-- the old content of the child's link, which names nothing
abbrev heads : List (ℕ × Node)
heads = (at_child, node 0 0) ∷ []

pub old_child : (t : Bool) (y : ℕ) → stands (Placed at_child 0) t ≡ y + 1 → (l : Node) × Noted (four_more heads) y l × Noted ((3, node 0 0) ∷ (2, node 0 0) ∷ []) (member_of 1 t) l
old_child true y e = absurd (omega arith)
old_child false y e = let z : at_child ≡ y = omega arith in (node 0 0, subst (λ (i : ℕ). Noted (four_more heads) i (node 0 0)) z (inr (en 9 2 (omega arith), inr (en 8 2 (omega arith), inr (en 7 2 (omega arith), inr (en 6 2 (omega arith), inl (refl, refl)))))), inr (en 3 2 lt23, inl (refl, refl)))
