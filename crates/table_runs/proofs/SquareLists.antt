-- The lists of the square's rounds.
use Rattle.std.proofs.Common.{◌≡◌, ℕ, ◌+◌, List, [], ◌∷◌, ◌⊎◌, refl, sym, ap, ◌∙◌, subst, inl, inr, ⊎_elim}
use Rattle.table_words.specs.Entries.{HasEntry}
use Rattle.table_words.specs.Setup.{NamesApart}
use Rattle.table_words.specs.Views.{Plan}
use Rattle.table_words.proofs.CodedNames.{codes_apart}
use Rattle.mesh_names.specs.Squares.{square}
use Rattle.mesh_names.specs.Validity.{across_of}
use Rattle.mesh_names.proofs.Squares.{squares_fit}
use Rattle.table_state.specs.Lists.{Holds, IsClosed, IsTarget, IsListed}
use Rattle.table_runs.specs.PatchWords.{name0, name1}
use Rattle.table_runs.specs.SquareRun.{square_setup}
use Rattle.table_runs.proofs.SquareNotes.{open4}

abbrev pub both : List ℕ
both = name0 ∷ name1 ∷ []

-- round 1 and round 3 need element 0 bisected, and round 2 nothing
abbrev pub first_plan : Plan
first_plan = record { needs = name0 ∷ []; target = name0 ∷ name1 ∷ []; retire = [] }

abbrev pub second_plan : Plan
second_plan = record { needs = []; target = name0 ∷ name1 ∷ []; retire = [] }

apart : NamesApart square_setup
apart = codes_apart square (across_of square) record { rounds = 4; elements = 2; pool = 1 } 1 (squares_fit.0).2

mate_of : (n k : ℕ) → square_setup.mate n ≡ k + 1 → HasEntry both n ⊎ HasEntry both (k + 1) → (n ≡ name0) × (k + 1 ≡ name1)
mate_of n k e (inl (inl h)) = (h, sym e ∙ ap square_setup.mate h)
mate_of n k e (inl (inr (inl h))) = absurd (apart.mate_leads name0 name1 536870912 refl (apart.mates_lead name1 k (ap square_setup.mate (sym h) ∙ e)) refl)
mate_of n k e (inl (inr (inr h))) = absurd h
mate_of n k e (inr (inl h)) = absurd (apart.mate_leads n name0 k e refl (sym h))
mate_of n k e (inr (inr (inl h))) = (apart.mate_one n name0 k e (ap (λ (i : ℕ). i) (sym h)), h)
mate_of n k e (inr (inr (inr h))) = absurd h

pub both_closed : IsClosed square_setup (HasEntry both)
both_closed = record {
  parents = λ n c h. ⊎_elim (λ e. absurd (apart.top_child 0 n c (sym e))) (λ t. ⊎_elim (λ e. absurd (apart.top_child 1 n c (sym e))) (λ f. absurd f) t) h;
  seconds = λ n k e h. inr (inl (mate_of n k e (inl h)).1);
  firsts = λ n k e h. inl (mate_of n k e (inr h)).0;
}

-- the target of element 0 alone is the patch
pub first_aim : IsTarget square_setup (HasEntry []) first_plan
first_aim = record {
  closed = both_closed;
  olds = λ n h. absurd h;
  needs = λ n h. ⊎_elim inl (λ f. absurd f) h;
  least = λ other c o k n h. let a = k name0 (inl refl) in ⊎_elim (λ e. subst (Holds other) (sym e) a) (λ t. ⊎_elim (λ e. subst (Holds other) (sym e) (c.seconds name0 536870912 refl a)) (λ f. absurd f) t) h;
}

pub second_aim : IsTarget square_setup (HasEntry both) second_plan
second_aim = record { closed = both_closed; olds = λ n h. h; needs = λ n h. absurd h; least = λ other c o k n h. o n h }

pub needs_known : (n : ℕ) → HasEntry (name0 ∷ []) n → HasEntry (name0 ∷ []) n
needs_known n h = h

pub none_listed : (list : List ℕ) (n : ℕ) → IsListed square_setup [] n → HasEntry list n
none_listed list n h = absurd h.1

pub both_stay : (n : ℕ) → HasEntry both n → HasEntry both n × (IsListed square_setup [] n → ⊥)
both_stay n h = (h, λ l. l.1)

pub both_open : (n : ℕ) → IsListed square_setup (name0 ∷ []) n → HasEntry (name0 ∷ name1 ∷ open4) n
both_open n h = ⊎_elim (λ e. ⊎_elim (λ f. inl (f ∙ e)) (λ f. inr (inl (f.2 ∙ sym f.1 ∙ ap square_setup.mate e))) h.2) (λ f. absurd f) h.1

pub none_stays : (n : ℕ) → HasEntry both n → (IsListed square_setup (name0 ∷ []) n → ⊥) → HasEntry [] n
none_stays n (inl e) o = o (name0, inl refl, inl e)
none_stays n (inr (inl e)) o = o (name0, inl refl, inr (536870912, refl, e))
none_stays n (inr (inr f)) o = f
