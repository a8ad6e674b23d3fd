-- A seat that was joined has no claim and knows nothing of the work.
use Rattle.std.proofs.Common.{◌≡◌, ◌≢◌, ℕ, ◌+◌, List, [], refl, sym, ap, ◌∙◌, subst, inl, inr, ⊎_elim, arith}
use mathlib.Core.Logic.{dite}
use native.Mathlib.Decide.{ℕ_discrete}
use Rattle.table_words.specs.Setup.{Setup}
use Rattle.table_words.specs.Claims.{Progress, Claim, claim}
use Rattle.table_words.specs.Entries.{HasEntry}
use Rattle.table_words.specs.Functions.{update}
use Rattle.table_words.specs.Words.{Words}
use Rattle.table_words.specs.Views.{Views, Work, Vacant, Worker}
use Rattle.table_words.proofs.Functions.{update_at, update_other, update_cases}
use Rattle.table_state.specs.Fresh.{idle}
use Rattle.table_state.specs.Ghosts.{Ghost, Held}
use Rattle.table_state.specs.Claims.{block_of}
use Rattle.table_state.specs.Inside.{ListedOnce}
use Rattle.table_state.specs.Rule.{Rule}
use Rattle.table_state.specs.Work.{WorkRule, WalkRule, GrownRule}
use Rattle.table_state.proofs.FoundAgain.{still_not}

module _ (s : Setup) (w : Words) (n : ℕ) (v : Views) (g : Ghost) (r : Rule s w n v g) (j : ℕ) (far : j ≢ 0) (none : v.kind j ≡ Vacant) where
  abbrev work' : ℕ → Work
  work' = update v.work j idle

  no_worker : v.kind j ≡ Worker → ⊥
  no_worker e = absurd (cc)

  -- a seat with a claim, or of a worker's kind, is another
  holder : (x i m : ℕ) (p : Progress) → g.stage x ≡ Held i m p → i ≢ j
  holder x i m p h e = ⊎_elim (λ z. far (sym e ∙ z)) (λ k. no_worker (ap v.kind (sym e) ∙ k)) (r.holders x i m p h)

  other : (i : ℕ) → v.kind i ≡ Worker → i ≢ j
  other i k e = no_worker (ap v.kind (sym e) ∙ k)

  kept : (i : ℕ) → i ≢ j → work' i ≡ v.work i
  kept i o = update_other v.work j i idle o

  -- where a number of draws is noted
  drew : (i a b : ℕ) → HasEntry (work' i).drawn (a, b) → HasEntry (v.work i).drawn (a, b)
  drew i a b = update_cases (λ i u. HasEntry u.drawn (a, b) → HasEntry (v.work i).drawn (a, b)) v.work j idle (λ e. absurd e) (λ i _ e. e) i

  pub empties : Rule s w n (record v { claims = update v.claims j []; work = update v.work j idle }) g
  empties = record {
    names_apart = r.names_apart;
    claims = record {
      held = update_cases (λ i c. (x m : ℕ) (p : Progress) → HasEntry c (claim x m p) → g.stage x ≡ Held i m p) v.claims j [] (λ x m p e. absurd e) (λ i _. r.claims.held i);
      holds = λ i x m p h. subst (λ (c : List Claim). HasEntry c (claim x m p)) (sym (update_other v.claims j i [] (holder x i m p h))) (r.claims.holds i x m p h);
      bits = r.claims.bits;
      inside = r.claims.inside;
      mates = r.claims.mates;
      shape = r.claims.shape;
      kept = r.claims.kept;
      half = r.claims.half;
      rows = r.claims.rows;
      apart = r.claims.apart;
      drawn = r.claims.drawn;
      living = r.claims.living;
      none = r.claims.none;
    };
    labels = r.labels;
    chains = r.chains;
    names = r.names;
    pins = r.pins;
    works = update_cases (λ i u. WorkRule s w.round v.ruling.phase w.name w.born w.died g.life (g.who (w.round + 1)) (v.kind i) i u) v.work j idle
        (record { only = λ _ _. (refl, refl, refl, refl); found = λ x a e. absurd e; known = λ a e. absurd e; open_ = λ a e. absurd e; given = λ b k e. absurd e }) (λ i _. r.works i);
    walks = update_cases (λ i u. WalkRule s w.round v.ruling.phase w.name w.history w.born w.died g.life g.who (v.kind i) i u) v.work j idle
        (record { still = λ _. (refl, refl); only = λ _ _. (refl, refl, refl, refl); half = λ k. absurd (no_worker k); at_work = λ k. absurd (no_worker k); retired_in = λ b e. absurd e; absent = λ a e. absurd e; stood = λ x a e. absurd e; had = λ b a e. absurd e; went = λ b e. absurd e; walk = tt; sided = λ x k b t h. absurd (still_not x k b t h) }) (λ i _. r.walks i);
    owned = r.owned;
    goes = r.goes;
    rules = r.rules;
    stock = r.stock;
    note = r.note;
    retired = λ b x m l d. ⊎_elim
        (λ (t : (i : ℕ) × HasEntry (v.work i).retired b). inl (
          t.0,
          dite (ℕ_discrete t.0 j)
              (λ e. absurd (subst (λ (u : List ℕ). HasEntry u b) (((r.walks j).only no_worker far).3) (subst (λ (i : ℕ). HasEntry (v.work i).retired b) e t.1)))
              (λ o. subst (λ (u : Work). HasEntry u.retired b) (sym (kept t.0 o)) t.1),
        ))
        (λ t. inr t) (r.retired b x m l d);
    retireds = λ b h. r.retireds b (⊎_elim (λ t. inl (t.0, update_cases (λ i u. HasEntry u.retired b → HasEntry (v.work i).retired b) v.work j idle (λ e. absurd e) (λ i _ e. e) t.0 t.1)) inr h);
    plan = record { same = λ i k. ap (λ (u : Work). u.plan) (kept i (other i k)) ∙ r.plan.same i k; aim = r.plan.aim; within = r.plan.within; whole = r.plan.whole; done = r.plan.done };
    history = r.history;
    drawn = record {
      only = λ i a b. dite (ℕ_discrete i j) (λ e. ap (λ (u : Work). u.drawn) (update_at v.work j i idle e)) (λ o. ap (λ (u : Work). u.drawn) (kept i o) ∙ r.drawn.only i a b);
      drawn = λ i a b e. r.drawn.drawn i a b (drew i a b e);
      apart = λ i k a b c e f. r.drawn.apart i k a b c (drew i a b e) (drew k a c f);
    };
    draws = λ x i m p one h u. let t = r.draws x i m p one h u in (t.0, subst (λ (u : Work). HasEntry u.drawn (t.0, block_of p)) (sym (kept i (holder x i m p h))) t.1);
    crew = record {
      rounds = r.crew.rounds;
      alone = λ i one k z. r.crew.alone i one k (sym (ap (λ (u : Work). u.number) (kept i (other i k))) ∙ z);
      none = λ i one z k e. r.crew.none i one z k (sym (ap (λ (u : Work). u.number) (kept i (other i k))) ∙ e);
    };
    inside = r.inside;
    named = r.named;
    once = update_cases (λ _ c. ListedOnce c) v.claims j [] tt (λ i _. r.once i);
    holders = r.holders;
    hand = r.hand;
    frees = r.frees;
    known = r.known;
    kept = r.kept;
    early = r.early;
    grows = update_cases (λ i u. GrownRule s w.round v.ruling.phase w.name w.born (g.who (w.round + 1)) (v.kind i) i u) v.work j idle record { only = λ _ _. refl; grown = λ x k e. absurd e } (λ i _. r.grows i);
  }
