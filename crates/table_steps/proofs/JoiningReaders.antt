-- A reader's pass ends, and the owner has its notes.
use Rattle.std.proofs.Common.{◌≡◌, ◌≢◌, ℕ, ◌+◌, ◌<◌, ◌≤◌, cond, Bool, ◌++◌, ◌⊎◌, refl, sym, ap, ◌∙◌, inl, inr, ⊎_elim, arith, eq-eqb, ne_eqb}
use mathlib.Core.Logic.{dite}
use native.Mathlib.Decide.{ℕ_discrete, dec_lt}
use Rattle.table_words.specs.Setup.{Setup}
use Rattle.table_words.specs.Functions.{update}
use Rattle.table_words.specs.Sums.{sum_below, one_where}
use Rattle.table_words.specs.Words.{Words}
use Rattle.table_words.specs.Entries.{HasEntry}
use Rattle.table_words.specs.Views.{Views, Read, unread, owns_nothing, Vacant, Worker, Reader, is_worker, is_reader, Kind, Owner}
use Rattle.table_words.proofs.Functions.{update_same, update_at, update_other, update_cases}
use Rattle.table_words.proofs.Sums.{sum_update, sum_same, sum_le}
use Rattle.table_words.proofs.Entries.{entry_of_both}
use Rattle.table_state.specs.Bisections.{MayRead}
use Rattle.table_state.specs.Readers.{ReaderRule}
use Rattle.table_state.specs.Ghosts.{Ghost}
use Rattle.table_state.specs.Owner.{NoneWent}
use Rattle.table_state.specs.Owned.{OwnedRule}
use Rattle.table_state.specs.Rule.{Rule}
use Rattle.table_state.proofs.FoundAgain.{still_not}
use Rattle.table_state.proofs.Lists.{plan_on, history_read}
use Rattle.table_state.specs.Owner.{is_early}
use Rattle.table_state.proofs.Known.{early_one, early_late, early_none}
use Rattle.mesh_names.specs.Names.{digit}
use Rattle.table_words.proofs.SeatKinds.{worker_not, reader_is, digit_zero}

module _ (s : Setup) (w : Words) (n : ℕ) (v : Views) (g : Ghost) (r : Rule s w n v g) (j : ℕ) (far : j ≢ 0) (kind : v.kind j ≡ Reader) (none : (v.read j).pin ≡ 0) where
  abbrev own : Read
  own = record (v.read 0) { notes = (v.read 0).notes ++ (v.read j).notes }

  abbrev read' : ℕ → Read
  read' = update (update v.read 0 (record (v.read 0) { notes = (v.read 0).notes ++ (v.read j).notes })) j unread

  -- each view has its pin, and none is ready that was not
  pin_is : (i : ℕ) → (read' i).pin ≡ (v.read i).pin
  pin_is = update_cases (λ i u. u.pin ≡ (v.read i).pin) (update v.read 0 own) j unread (sym none) (λ i _. update_cases (λ i u. u.pin ≡ (v.read i).pin) v.read 0 own refl (λ _ _. refl) i)

  ready_le : (i : ℕ) → digit (read' i).ready ≤ digit (v.read i).ready
  ready_le = update_cases (λ i u. digit u.ready ≤ digit (v.read i).ready) (update v.read 0 own) j unread (omega arith) (λ i _. update_cases (λ i u. digit u.ready ≤ digit (v.read i).ready) v.read 0 own (omega arith) (λ _ _. omega arith) i)

  inside : j < n
  inside = elim (dec_lt j n) [ yes l ↦ l | no o ↦ let z = r.pins.few j (omega arith) in absurd (cc) ]

  kind_sum : (k : Kind → Bool) → sum_below n (λ i. digit (k (update v.kind j Vacant i))) + digit (k (v.kind j)) ≡ sum_below n (λ i. digit (k (v.kind i))) + digit (k Vacant)
  kind_sum k = sum_update n (λ i. digit (k (v.kind i))) (λ i. digit (k (update v.kind j Vacant i))) j inside (λ i o. ap (λ (x : Kind). digit (k x)) (update_other v.kind j i Vacant o)) ∙ ap (λ (x : Kind). sum_below n (λ i. digit (k (v.kind i))) + digit (k x)) (update_same v.kind j Vacant)

  early_sum : sum_below n (λ i. is_early w.round (update v.kind j Vacant i) (read' i)) + is_early w.round (v.kind j) (v.read j) ≡ sum_below n (λ i. is_early w.round (v.kind i) (v.read i)) + 0
  early_sum = sum_update n (λ i. is_early w.round (v.kind i) (v.read i)) (λ i. is_early w.round (update v.kind j Vacant i) (read' i)) j inside (λ i o. ap (λ (k : Kind). is_early w.round k (read' i)) (update_other v.kind j i Vacant o) ∙ others i o) ∙ ap (λ (k : ℕ). sum_below n (λ i. is_early w.round (v.kind i) (v.read i)) + k) (early_none w.round (update v.kind j Vacant j) (read' j) (λ e. let z = update_same v.kind j Vacant in cc))
    where
      others : (i : ℕ) → i ≢ j → is_early w.round (v.kind i) (read' i) ≡ is_early w.round (v.kind i) (v.read i)
      others i o = ap (is_early w.round (v.kind i)) (update_other (update v.read 0 own) j i unread o) ∙ update_cases (λ i u. is_early w.round (v.kind i) u ≡ is_early w.round (v.kind i) (v.read i)) v.read 0 own refl (λ _ _. refl) i

  back : (q : ℕ) → MayRead w.round v.ruling.phase read' q → MayRead w.round v.ruling.phase v.read q
  back q (inr k) = inr k
  back q (inl (inl e)) = inl (inl e)
  back q (inl (inr t)) = inl (inr (t.0, sym (pin_is t.0) ∙ t.1))

  was : (i : ℕ) (k : Kind) → (k ≡ Vacant → ⊥) → update v.kind j Vacant i ≡ k → v.kind i ≡ k
  was i k z e = dite (ℕ_discrete i j) (λ f. absurd (z (sym e ∙ update_at v.kind j i Vacant f))) (λ f. sym (update_other v.kind j i Vacant f) ∙ e)

  -- a seat that is no worker's was none
  kept_work : (i : ℕ) → (update v.kind j Vacant i ≡ Worker → ⊥) → v.kind i ≡ Worker → ⊥
  kept_work i o k = o (dite (ℕ_discrete i j) (λ e. let y : v.kind i ≡ v.kind j = ap v.kind e in absurd (cc)) (λ f. update_other v.kind j i Vacant f ∙ k))

  none_went : NoneWent w.round v.read v.ruling.rolled_back → NoneWent w.round read' v.ruling.rolled_back
  none_went ok = update_cases (λ _ x. (b : ℕ) → x.pin ≡ w.round + 1 → HasEntry x.went b → HasEntry v.ruling.rolled_back b → ⊥) (update v.read 0 own) j unread (λ b p h m. absurd h)
      (λ i _. update_cases (λ _ x. (b : ℕ) → x.pin ≡ w.round + 1 → HasEntry x.went b → HasEntry v.ruling.rolled_back b → ⊥) v.read 0 own (λ b p h m. ok 0 b p h m) (λ i _. ok i) i)

  pub leaves : (readers early : ℕ) → v.ruling.readers ≡ readers + 1 → (((v.read j).made < v.ruling.finished) × (v.ruling.early ≡ early + 1)) ⊎ ((v.ruling.finished ≤ (v.read j).made) × (v.ruling.early ≡ early))
      → Rule s w n (record v { kind = update v.kind j Vacant; owned = update v.owned j owns_nothing; read = update (update v.read 0 (record (v.read 0) { notes = (v.read 0).notes ++ (v.read j).notes })) j unread; ruling = record v.ruling { readers = readers; early = early } }) g
  leaves readers early one which = record {
    names_apart = r.names_apart;
    claims = r.claims;
    labels = r.labels;
    chains = r.chains;
    names = record { fits = λ q k. r.names.fits q (back q k); sound = λ q k. r.names.sound q (back q k); patch = r.names.patch; one = r.names.one; calm = r.names.calm; grows = r.names.grows; either = r.names.either; fresh = r.names.fresh };
    pins = record {
      now = r.pins.now;
      later = r.pins.later;
      count = λ q. r.pins.count q ∙ ap (λ (x : ℕ). w.released q + x) (sym (sum_same n (λ i. one_where (v.read i).pin (q + 1)) (λ i. one_where (read' i).pin (q + 1)) (λ i _. ap (λ (x : ℕ). one_where x (q + 1)) (pin_is i))));
      past = λ i q e. r.pins.past i q (sym (pin_is i) ∙ e);
      few = update_cases (λ i x. n ≤ i → x ≡ Vacant) v.kind j Vacant (λ _. refl) (λ i _. r.pins.few i);
      readers = λ i o. dite (ℕ_discrete i j) (λ e. let u = update_at (update v.read 0 own) j i unread e in (ap (λ (x : Read). x.pin) u, ap (λ (x : Read). x.ready) u))
          (λ f. let t = r.pins.readers i (λ k. o (update_other v.kind j i Vacant f ∙ k)) in (pin_is i ∙ t.0, digit_zero (read' i).ready (let l = ready_le i in let z = ap digit t.1 in omega arith)));
      spent = update_cases (λ i u. update v.kind j Vacant i ≡ Vacant → u ≡ unread) (update v.read 0 own) j unread (λ _. refl)
          (λ i ne. update_cases (λ i u. i ≢ j → update v.kind j Vacant i ≡ Vacant → u ≡ unread) v.read 0 own (λ o e. let y = r.rules.owner.0 in let z = update_other v.kind j 0 Vacant o in absurd (cc)) (λ i _ o e. r.pins.spent i (sym (update_other v.kind j i Vacant o) ∙ e)) i ne);
      most = r.pins.most;
      bound = let a = sum_le n (λ i. digit (read' i).ready) (λ i. digit (v.read i).ready) ready_le in let b = r.pins.bound in omega arith;
    };
    works = λ i. let t = r.works i in record { only = λ o z. t.only (λ k. o (dite (ℕ_discrete i j) (λ e. let y : v.kind i ≡ v.kind j = ap v.kind e in absurd (cc)) (λ f. update_other v.kind j i Vacant f ∙ k))) z; found = t.found; known = t.known; open_ = t.open_; given = t.given };
    walks = λ i. let t = r.walks i in record { still = λ o. t.still (kept_work i o); only = λ o. t.only (kept_work i o); half = λ e. t.half (was i Worker (λ z. cc) e); at_work = λ e. t.at_work (was i Worker (λ z. cc) e); retired_in = t.retired_in; absent = t.absent; stood = t.stood; had = t.had; went = t.went; walk = t.walk; sided = t.sided };
    owned = update_cases (λ i u. OwnedRule s.elements v.ruling.workers w.head w.history w.born w.died w.name w.row g.stage i u) v.owned j owns_nothing
        record { head_is = λ z l f h. absurd f; history_is = λ b t l f h. absurd f; died_is = λ b k f h. absurd f; name_is = λ b t k f h. absurd f; born_is = λ b k f h i. absurd f; row_is = λ b k f h i. absurd f }
        (λ i _. r.owned i);
    goes = update_cases (λ _ u. ReaderRule s w.round w.name w.history w.born w.died g.life g.who u) (update v.read 0 own) j unread
        record { went = λ q b p f. absurd f; walk = λ q p. tt; sided = λ q x k b t p h. absurd (still_not x k b t h); dated = λ q x k b t p h. absurd (still_not x k b t h); places = λ q x k p h. absurd h; yes_notes = λ k q h. absurd h; no_notes = λ k q h. absurd h }
        (λ i _. update_cases (λ _ u. ReaderRule s w.round w.name w.history w.born w.died g.life g.who u) v.read 0 own
        (let a = r.goes 0 in let b = r.goes j in record { went = a.went; walk = a.walk; sided = a.sided; dated = a.dated; places = a.places; yes_notes = λ k q h. ⊎_elim (λ t. a.yes_notes k q t) (λ t. b.yes_notes k q t) (entry_of_both (v.read 0).notes (v.read j).notes _ h); no_notes = λ k q h. ⊎_elim (λ t. a.no_notes k q t) (λ t. b.no_notes k q t) (entry_of_both (v.read 0).notes (v.read j).notes _ h) })
        (λ i _. r.goes i) i);
    rules = record {
      owner = (update_other v.kind j 0 Vacant (λ e. far (sym e)) ∙ r.rules.owner.0, r.rules.owner.1);
      one = λ i e. r.rules.one i (was i Owner (λ z. cc) e);
      workers = let a = kind_sum is_worker in let b = r.rules.workers in let c : digit (is_worker (v.kind j)) ≡ 0 = worker_not (v.kind j) (λ e. cc) in omega arith;
      readers = let a = kind_sum is_reader in let b = r.rules.readers in let c : digit (is_reader (v.kind j)) ≡ 1 = reader_is (v.kind j) kind in omega arith;
      few_readers = let a = r.rules.few_readers in omega arith;
      halves = r.rules.halves;
      drained = r.rules.drained;
    };
    stock = record { finished = r.stock.finished; cursor_is = r.stock.cursor_is; free_is = r.stock.free_is; left = r.stock.left };
    note = record { rolled_back = r.note.rolled_back; all = r.note.all; placed = r.note.placed; seen = λ x e. let t = r.note.seen x e in (t.0, t.1, t.2, λ f. none_went (t.3 f)); quiet = λ e. none_went (r.note.quiet e) };
    retired = r.retired;
    plan = plan_on s w.round v.ruling.phase g.who v.kind (update v.kind j Vacant) v.work v.work v.ruling.plan (λ i k. r.plan.same i (was i Worker (λ z. cc) k)) r.plan;
    history = history_read w.round g.who (update v.read 0 own) v.ruling.history j unread (v.ruling.history, refl) (omega arith, omega arith) (omega arith, λ q e. absurd (omega arith))
        (history_read w.round g.who v.read v.ruling.history 0 own (r.history.told 0) (r.history.seen 0) (r.history.made 0) r.history);
    drawn = record { only = λ i o. r.drawn.only i (kept_work i o); drawn = r.drawn.drawn; apart = r.drawn.apart };
    draws = r.draws;
    crew = record { rounds = r.crew.rounds; alone = λ i one k z. let t = r.crew.alone i one (was i Worker (λ z. cc) k) z in ((λ a c. t.0 a (was a Worker (λ z. cc) c)), t.1); none = λ i one l k. r.crew.none i one l (was i Worker (λ z. cc) k) };
    inside = r.inside;
    named = r.named;
    once = r.once;
    holders = λ x i m p h. ⊎_elim inl (λ k. inr (dite (ℕ_discrete i j) (λ e. let y : v.kind i ≡ v.kind j = ap v.kind e in absurd (cc)) (λ f. update_other v.kind j i Vacant f ∙ k))) (r.holders x i m p h);
    hand = r.hand;
    grows = λ i. record { only = λ o z. (r.grows i).only (kept_work i o) z; grown = (r.grows i).grown };
    retireds = r.retireds;
    frees = r.frees;
    known = r.known;
    kept = r.kept;
    early = let a = early_sum in let b = r.early in let f = r.stock.finished in ⊎_elim
        (λ t. let c = early_one w.round (v.kind j) (v.read j) kind (let l = t.0 in omega arith) in let e = t.1 in omega arith)
        (λ t. let c = early_late w.round (v.kind j) (v.read j) (let l = t.0 in omega arith) in let e = t.1 in omega arith) which;
  }
