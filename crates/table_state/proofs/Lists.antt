-- The lists of a round, the history and the draws, across steps.
use Rattle.std.proofs.Common.{◌≡◌, ℕ, zero, suc, ◌+◌, ◌<◌, ◌≤◌, Bool, true, false, List, [], ◌∷◌, ◌++◌, length, ◌⊎◌, refl, sym, ap, ◌∙◌, subst, inl, inr, ⊎_elim, arith}
use mathlib.Core.Logic.{dite}
use native.Mathlib.Decide.{ℕ_discrete}
use Rattle.table_words.specs.Entries.{HasEntry, EntryAt}
use Rattle.table_words.specs.Functions.{update}
use Rattle.table_words.specs.Setup.{Setup}
use Rattle.table_words.specs.Views.{Plan, Work, Read, Views, Kind, Worker, Phase, Resting, FirstHalf, Precedes}
use Rattle.table_words.specs.Words.{Words}
use Rattle.table_words.proofs.Functions.{update_at, update_cases, update_other}
use Rattle.table_words.specs.Claims.{Progress}
use Rattle.table_words.specs.Places.{member_of}
use Rattle.table_state.specs.Ghosts.{Stage, Held, Placed, chained, Ghost}
use Rattle.table_state.proofs.HeldClaims.{held_one}
use Rattle.table_state.specs.Bisections.{IsPatch, MayRead}
use Rattle.table_state.specs.Lists.{Holds, IsClosed, IsTarget, IsMember, PlanRule, HistoryRule, DrawnRule, DrawnFor, CrewRule}
use Rattle.table_state.specs.Claims.{block_of, draws}
use Rattle.table_state.specs.Rule.{Rule}
use Rattle.table_state.proofs.Lawful.{parents_bisected, members_together}

-- where the workers' passes keep the lists
pub plan_on : (s : Setup) (round : ℕ) (phase : Phase) (who : ℕ → ℕ → ℕ) (kind kind' : ℕ → Kind) (work work' : ℕ → Work) (p : Plan) → ((j : ℕ) → kind' j ≡ Worker → (work' j).plan ≡ p) → PlanRule s round phase who kind work p → PlanRule s round phase who kind' work' p
plan_on s round phase who kind kind' work work' p same k = record { same = same; aim = k.aim; within = k.within; whole = k.whole; done = k.done }

-- where one seat's knowledge changes, but not its lists
pub plan_update : (s : Setup) (round : ℕ) (phase : Phase) (who : ℕ → ℕ → ℕ) (kind : ℕ → Kind) (work : ℕ → Work) (p : Plan) (j : ℕ) (u : Work) → u.plan ≡ (work j).plan → PlanRule s round phase who kind work p → PlanRule s round phase who kind (update work j u) p
plan_update s round phase who kind work p j u e k = plan_on s round phase who kind kind work (update work j u) p (update_cases (λ i x. kind i ≡ Worker → x.plan ≡ p) work j u (λ z. e ∙ k.same j z) (λ i _. k.same i)) k

-- where one seat's knowledge changes, but not its draws
pub drawn_update : (phase : Phase) (cursor free : ℕ) (row : ℕ → ℕ) (kind : ℕ → Kind) (work : ℕ → Work) (j : ℕ) (u : Work) → u.drawn ≡ (work j).drawn → DrawnRule phase cursor free row kind work → DrawnRule phase cursor free row kind (update work j u)
drawn_update phase cursor free row kind work j u e k = record {
  only = λ i a b. same i ∙ k.only i a b;
  drawn = λ i a b h. k.drawn i a b (was i a b h);
  apart = λ i m a b c h l. k.apart i m a b c (was i a b h) (was m a c l);
}
  where
    same : (i : ℕ) → (update work j u i).drawn ≡ (work i).drawn
    same = update_cases (λ i x. x.drawn ≡ (work i).drawn) work j u e (λ _ _. refl)

    was : (i a b : ℕ) → HasEntry (update work j u i).drawn (a, b) → HasEntry (work i).drawn (a, b)
    was i a b h = subst (λ (l : List (ℕ × ℕ)). HasEntry l (a, b)) (same i) h

-- there is no draw
pub none_drawn : (phase : Phase) (cursor free : ℕ) (row : ℕ → ℕ) (kind : ℕ → Kind) (work : ℕ → Work) → ((j : ℕ) → (work j).drawn ≡ []) → DrawnRule phase cursor free row kind work
none_drawn phase cursor free row kind work none = record {
  only = λ j _ _. none j;
  drawn = λ j i b h. absurd (no j i b h);
  apart = λ j k i b c h l. absurd (no j i b h);
}
  where
    no : (j i b : ℕ) → HasEntry (work j).drawn (i, b) → ⊥
    no j i b h = subst (λ (l : List (ℕ × ℕ)). HasEntry l (i, b)) (none j) h

-- an entry's number is below the length
pub entry_low : {A : Type 0} → (xs : List A) (i : ℕ) (a : A) → EntryAt xs i a → i < length xs
entry_low [] i a e = absurd e
entry_low (x ∷ xs) zero a e = omega arith
entry_low (x ∷ xs) (suc i) a e = let l = entry_low xs i a e in omega arith

-- while the finished rounds are what they were
pub history_who : (round : ℕ) (who who' : ℕ → ℕ → ℕ) (read : ℕ → Read) (history : List (List ℕ)) → ((q : ℕ) → q ≤ round → who' q ≡ who q) → HistoryRule round who read history → HistoryRule round who' read history
history_who round who who' read history old h = record {
  rounds = h.rounds;
  forests = λ q names e n. subst (λ (f : ℕ → ℕ). (HasEntry names n → Holds f n) × (Holds f n → HasEntry names n)) (sym (old q (let l = entry_low history q names e in let k = h.rounds in omega arith))) (h.forests q names e n);
  told = h.told;
  seen = h.seen;
  made = h.made;
}

-- an entry of a list that has got one more
pub entry_more : {A : Type 0} → (xs : List A) (y : A) (i : ℕ) (a : A) → EntryAt (xs ++ y ∷ []) i a → EntryAt xs i a ⊎ ((i ≡ length xs) × (a ≡ y))
entry_more [] y zero a e = inr (refl, e)
entry_more [] y (suc i) a e = absurd e
entry_more (x ∷ xs) y zero a e = inl e
entry_more (x ∷ xs) y (suc i) a e = ⊎_elim inl (λ t. let z = t.0 in inr (omega arith, t.1)) (entry_more xs y i a e)

pub length_more : {A : Type 0} → (xs : List A) (y : A) → length (xs ++ y ∷ []) ≡ length xs + 1
length_more [] y = refl
length_more (x ∷ xs) y = let e = length_more xs y in omega arith

-- each entry below the length is there
pub entry_at : {A : Type 0} → (xs : List A) (i : ℕ) → i < length xs → (a : A) × EntryAt xs i a
entry_at [] i l = absurd (omega arith)
entry_at (x ∷ xs) zero l = (x, refl)
entry_at (x ∷ xs) (suc i) l = entry_at xs i (omega arith)

-- where one reader's view changes
pub history_read : (round : ℕ) (who : ℕ → ℕ → ℕ) (read : ℕ → Read) (history : List (List ℕ)) (j : ℕ) (u : Read) → ((rest : List (List ℕ)) × (history ≡ u.told ++ rest)) → ((u.seen ≤ round) × (length u.told ≤ u.seen + 1)) → ((u.made ≤ u.seen) × ((q : ℕ) → u.pin ≡ q + 1 → u.made ≤ q)) → HistoryRule round who read history → HistoryRule round who (update read j u) history
history_read round who read history j u told seen made h = record {
  rounds = h.rounds;
  forests = h.forests;
  told = update_cases (λ _ x. (rest : List (List ℕ)) × (history ≡ x.told ++ rest)) read j u told (λ i _. h.told i);
  seen = update_cases (λ _ x. (x.seen ≤ round) × (length x.told ≤ x.seen + 1)) read j u seen (λ i _. h.seen i);
  made = update_cases (λ _ x. (x.made ≤ x.seen) × ((q : ℕ) → x.pin ≡ q + 1 → x.made ≤ q)) read j u made (λ i _. h.made i);
}

-- the target stands over old names that are the same
pub target_on : (s : Setup) (Old Old' : ℕ → Type 0) (p : Plan) → ((n : ℕ) → (Old n → Old' n) × (Old' n → Old n)) → IsTarget s Old p → IsTarget s Old' p
target_on s Old Old' p same t = record {
  closed = t.closed;
  olds = λ n h. t.olds n ((same n).1 h);
  needs = t.needs;
  least = λ other c o k. t.least other c (λ n h. o n ((same n).0 h)) k;
}

-- at each round that may be read the bisected names are closed
pub bisected_closed : (s : Setup) (w : Words) (n : ℕ) (v : Views) (g : Ghost) → Rule s w n v g → (q : ℕ) → MayRead w.round v.ruling.phase v.read q → IsClosed s (Holds (g.who q))
bisected_closed s w n v g r q may = record {
  parents = λ i c h. ⊎_elim (λ t. absurd (r.names_apart.top_child t.0 i c (sym t.2))) (λ t. let e = r.names_apart.child_one i t.0 c t.2 t.3 in (t.1, ap (g.who q) e.0 ∙ t.4)) (parents_bisected s w n v (g, r) q may (s.child i c) h.0 h.1);
  seconds = λ i k e h. (h.0, (members_together s w n v (g, r) q may i k h.0 e).0 h.1);
  firsts = λ i k e h. (h.0, (members_together s w n v (g, r) q may i k h.0 e).1 h.1);
}

pub number_kept : (work : ℕ → Work) (j : ℕ) (u : Work) → u.number ≡ (work j).number → (i : ℕ) → (update work j u i).number ≡ (work i).number
number_kept work j u e = update_cases (λ i x. x.number ≡ (work i).number) work j u e (λ _ _. refl)

-- where a worker's claim goes on, and its number stays
pub crew_goes : (s : Setup) (round : ℕ) (phase : Phase) (kind : ℕ → Kind) (work work' : ℕ → Work) (stage : ℕ → Stage) (lone : Bool) (x j m : ℕ) (q : Progress) → kind j ≡ Worker → ((i : ℕ) → (work' i).number ≡ (work i).number) → CrewRule s round phase kind work stage lone → CrewRule s round phase kind work' (update stage x (Held j m q)) lone
crew_goes s round phase kind work work' stage lone x j m q k same c = record {
  rounds = c.rounds;
  alone = λ i one a z. let t = c.alone i one a (sym (same i) ∙ z) in (t.0, λ y l n p h. dite (ℕ_discrete y x) (λ e. inl (sym (held_one j l m n q p (sym (update_at stage x y (Held j m q) e) ∙ h)).0 ∙ t.0 j k)) (λ o. t.1 y l n p (sym (update_other stage x y (Held j m q) o) ∙ h)));
  none = λ i one l a z. c.none i one l a (sym (same i) ∙ z);
}

-- where one seat's knowledge changes, but not its number
pub crew_update : (s : Setup) (round : ℕ) (phase : Phase) (kind : ℕ → Kind) (work : ℕ → Work) (stage : ℕ → Stage) (lone : Bool) (j : ℕ) (u : Work) → u.number ≡ (work j).number → CrewRule s round phase kind work stage lone → CrewRule s round phase kind (update work j u) stage lone
crew_update s round phase kind work stage lone j u e c = record {
  rounds = c.rounds;
  alone = λ i one a z. c.alone i one a (sym (number_kept work j u e i) ∙ z);
  none = λ i one l a z. c.none i one l a (sym (number_kept work j u e i) ∙ z);
}

-- out of the first half
pub crew_free : (s : Setup) (round : ℕ) (phase : Phase) (kind : ℕ → Kind) (work : ℕ → Work) (stage : ℕ → Stage) (lone : Bool) → (round ≤ s.rounds) × (Precedes Resting phase → round < s.rounds) → (phase ≡ FirstHalf → (j : ℕ) → kind j ≡ Worker → ⊥) → CrewRule s round phase kind work stage lone
crew_free s round phase kind work stage lone low out = record { rounds = low; alone = λ j one k. absurd (out one j k); none = λ j one l k. absurd (out one j k) }

-- where the seats keep their draws
pub draws_on : (phase : Phase) (work work' : ℕ → Work) (stage : ℕ → Stage) → ((i : ℕ) → (work' i).drawn ≡ (work i).drawn) → DrawnFor phase work stage → DrawnFor phase work' stage
draws_on phase work work' stage same h x j m p one e f = let t = h x j m p one e f in (t.0, subst (λ (l : List (ℕ × ℕ)). HasEntry l (t.0, block_of p)) (sym (same j)) t.1)

-- where one seat's knowledge changes, but not its draws
pub draws_update : (phase : Phase) (work : ℕ → Work) (stage : ℕ → Stage) (j : ℕ) (u : Work) → u.drawn ≡ (work j).drawn → DrawnFor phase work stage → DrawnFor phase (update work j u) stage
draws_update phase work stage j u e = draws_on phase work (update work j u) stage (update_cases (λ i x. x.drawn ≡ (work i).drawn) work j u e (λ _ _. refl))

-- where a claim goes on with the same block
pub draws_goes : (phase : Phase) (work : ℕ → Work) (stage : ℕ → Stage) (x j m : ℕ) (p q : Progress) → stage x ≡ Held j m p → (draws q ≡ 1 → (draws p ≡ 1) × (block_of q ≡ block_of p)) → DrawnFor phase work stage → DrawnFor phase work (update stage x (Held j m q))
draws_goes phase work stage x j m p q is same h y i k z one e f = dite (ℕ_discrete y x)
    (λ a. let t = held_one j i m k q z (sym (update_at stage x y (Held j m q) a) ∙ e) in let u = same (ap draws t.2 ∙ f) in
    subst (λ (c : ℕ × ℕ). (n : ℕ) × HasEntry (work c.0).drawn (n, c.1)) (λ n. (t.0 n, (sym u.1 ∙ ap block_of t.2) n)) (h x j m p one is u.0))
    (λ o. h y i k z one (sym (update_other stage x y (Held j m q) o) ∙ e) f)

-- the member of the patch of a block that has the name
pub member_side : (s : Setup) (name : ℕ → ℕ) (k b x m i : ℕ) → name (member_of b false) ≡ k → IsPatch s name b m → IsMember s k i → (t : Bool) × (y : ℕ) × (chained (Placed x m) t ≡ y + 1) × (i ≡ name (member_of b t))
member_side s name k b x m i first patch (inl e) = (false, x, refl, e ∙ sym first)
member_side s name k b x m i first patch (inr t) = ⊎_elim
    (λ z. let q : 0 ≡ t.0 + 1 = sym z.1 ∙ ap s.mate first ∙ t.1 in absurd (omega arith))
    (λ z. (true, z.0, z.2, t.2 ∙ sym (patch.1 ∙ ap s.mate first ∙ t.1))) patch.2
