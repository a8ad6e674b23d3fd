-- Pins, the readers' bound, and a reader's walk.
use Rattle.std.proofs.Common.{◌++◌, ◌≡◌, ℕ, length, ◌+◌, ◌<◌, ◌≤◌, Bool, true, false, List, [], ◌∷◌, ◌⊎◌, refl, sym, ap, ◌∙◌, subst, inl, inr, ⊎_elim, arith}
use mathlib.Core.Logic.{dite}
use native.Mathlib.Decide.{ℕ_discrete, dec_lt}
use Rattle.table_words.specs.Setup.{Setup}
use Rattle.table_words.specs.Functions.{update}
use Rattle.table_words.specs.Sums.{sum_below, one_where}
use Rattle.table_words.specs.Words.{Words, Node}
use Rattle.table_words.specs.Views.{Views, Walk, Still, At, Past, Note, Read, unread, Vacant, Reader, is_reader}
use Rattle.table_words.specs.Places.{member_of, child_place}
use Rattle.table_words.specs.Entries.{HasEntry}
use Rattle.table_words.proofs.Functions.{update_same, update_at, update_other, update_cases}
use Rattle.table_words.proofs.Sums.{one_if, none_if, sum_update, sum_same, sum_le}
use Rattle.table_state.specs.Ghosts.{Life, RolledBack, chained, stands, Ghost}
use Rattle.table_state.specs.Chains.{Reaches, IsHead}
use Rattle.table_state.specs.Bisections.{IsPlaceOf, IsKept, MayRead}
use Rattle.table_state.specs.Pins.{PinsRule}
use Rattle.table_state.specs.Readers.{Walks, ReaderRule}
use Rattle.table_state.specs.Owner.{NoneWent}
use Rattle.table_state.specs.Lists.{HistoryRule}
use Rattle.table_state.proofs.Lists.{history_read}
use Rattle.table_state.specs.Rule.{Rule}
use Rattle.table_state.proofs.Inside.{label_of, label_one, label_place}
use Rattle.table_state.proofs.FoundAgain.{still_not, at_past, at_one, past_one, one_more, placed, chained_stands, placed_chained, standing, none_found, first_block, seen_live}
use Rattle.table_state.proofs.ChainSteps.{named, older_head, dead_end}
use Rattle.table_state.proofs.Across.{Went, no_pin, zero_or_more, place_one, name_one}
use Rattle.table_state.proofs.Known.{early_on, early_other}
use Rattle.table_state.specs.Owner.{EarlyRule}
use Rattle.table_words.proofs.SeatKinds.{kind_discrete, reader_is, digit_low}
use Rattle.mesh_names.specs.Names.{digit}

module _ (s : Setup) (w : Words) (n : ℕ) (v : Views) (g : Ghost) (r : Rule s w n v g) where
  -- what a step of a reader's view is to show
  pub rereads : (j taken : ℕ) (released pins : ℕ → ℕ) (u : Read) → PinsRule s w.round taken released n v.kind (update v.read j u) pins → ((q : ℕ) → HasEntry v.ruling.drained q → (q < w.round) × (released q ≡ pins q)) → ((q k : ℕ) → HasEntry v.ruling.left (q, k) → (q < w.round) × (pins q ≡ k)) → w.taken ≤ taken → ((b : ℕ) → u.pin ≡ w.round + 1 → HasEntry u.went b → ((x m : ℕ) → g.life b ≡ RolledBack x m → ⊥) ⊎ (((v.read j).pin ≡ w.round + 1) × HasEntry (v.read j).went b))
      → ((q : ℕ) → u.pin ≡ q + 1 → IsKept w.round v.read q) → ReaderRule s w.round w.name w.history w.born w.died g.life g.who u → HistoryRule w.round g.who (update v.read j u) v.ruling.history → EarlyRule w.round n v.kind (update v.read j u) v.ruling.early
      → Rule s (record w { taken = taken; released = released }) n (record v { read = update v.read j u }) (record g { pins = pins })
  rereads j taken released pins u p drained left more walks kept goes history made = record {
    names_apart = r.names_apart;
    claims = r.claims;
    labels = r.labels;
    chains = r.chains;
    names = record { fits = λ q k. r.names.fits q (back q k); sound = λ q k. r.names.sound q (back q k); patch = r.names.patch; one = r.names.one; calm = r.names.calm; grows = r.names.grows; either = r.names.either; fresh = r.names.fresh };
    pins = p;
    works = r.works;
    walks = r.walks;
    owned = r.owned;
    goes = update_cases (λ _ x. ReaderRule s w.round w.name w.history w.born w.died g.life g.who x) v.read j u goes (λ i _. r.goes i);
    rules = record { owner = r.rules.owner; one = r.rules.one; workers = r.rules.workers; readers = r.rules.readers; few_readers = r.rules.few_readers; halves = r.rules.halves; drained = drained };
    stock = record { finished = r.stock.finished; cursor_is = r.stock.cursor_is; free_is = r.stock.free_is; left = left };
    note = record { rolled_back = r.note.rolled_back; all = r.note.all; placed = r.note.placed; seen = λ x e. let t = r.note.seen x e in let t2 = t.2 in (t.0, t.1, omega arith, λ f. none (t.3 f)); quiet = λ e. none (r.note.quiet e) };
    retired = r.retired;
    plan = r.plan;
    history = history;
    drawn = r.drawn;
    draws = r.draws;
    crew = r.crew;
    inside = r.inside;
    named = r.named;
    once = r.once;
    holders = r.holders;
    hand = r.hand;
    grows = r.grows;
    retireds = r.retireds;
    frees = r.frees;
    known = r.known;
    kept = r.kept;
    early = made;
  }
    where
      none : NoneWent w.round v.read v.ruling.rolled_back → NoneWent w.round (update v.read j u) v.ruling.rolled_back
      none ok = update_cases (λ i x. (b : ℕ) → x.pin ≡ w.round + 1 → HasEntry x.went b → HasEntry v.ruling.rolled_back b → ⊥) v.read j u
          (λ b p h m. ⊎_elim (λ t. let y = r.note.rolled_back b m in t y.0 y.1 y.2) (λ t. ok j b t.0 t.1 m) (walks b p h)) (λ i _. ok i)

      back : (q : ℕ) → MayRead w.round v.ruling.phase (update v.read j u) q → MayRead w.round v.ruling.phase v.read q
      back q (inr k) = inr k
      back q (inl (inl e)) = inl (inl e)
      back q (inl (inr t)) = dite (ℕ_discrete t.0 j) (λ e. inl (kept q (sym (ap (λ (x : Read). x.pin) (update_at v.read j t.0 u e)) ∙ t.1))) (λ o. inl (inr (t.0, sym (ap (λ (x : Read). x.pin) (update_other v.read j t.0 u o)) ∙ t.1)))

  inside : (j : ℕ) → v.kind j ≡ Reader → j < n
  inside j k = elim (dec_lt j n) [ yes l ↦ l | no o ↦ let z = r.pins.few j (omega arith) in absurd (cc) ]

  -- sums over the seats, with one view changed
  pin_sum : (j q : ℕ) (u : Read) → j < n → sum_below n (λ i. one_where (update v.read j u i).pin (q + 1)) + one_where (v.read j).pin (q + 1) ≡ sum_below n (λ i. one_where (v.read i).pin (q + 1)) + one_where u.pin (q + 1)
  pin_sum j q u l = sum_update n (λ i. one_where (v.read i).pin (q + 1)) (λ i. one_where (update v.read j u i).pin (q + 1)) j l (λ i o. ap (λ (x : Read). one_where x.pin (q + 1)) (update_other v.read j i u o)) ∙ ap (λ (x : Read). sum_below n (λ i. one_where (v.read i).pin (q + 1)) + one_where x.pin (q + 1)) (update_same v.read j u)

  ready_sum : (j : ℕ) (u : Read) → j < n → sum_below n (λ i. digit (update v.read j u i).ready) + digit (v.read j).ready ≡ sum_below n (λ i. digit (v.read i).ready) + digit u.ready
  ready_sum j u l = sum_update n (λ i. digit (v.read i).ready) (λ i. digit (update v.read j u i).ready) j l (λ i o. ap (λ (x : Read). digit x.ready) (update_other v.read j i u o)) ∙ ap (λ (x : Read). sum_below n (λ i. digit (v.read i).ready) + digit x.ready) (update_same v.read j u)

  -- at most as many views are ready as readers are out
  few_ready : (f : ℕ → ℕ) → ((i : ℕ) → f i ≤ 1) → ((i : ℕ) → (v.kind i ≡ Reader → ⊥) → f i ≡ 0) → sum_below n f ≤ s.passes + 1
  few_ready f b z = let a = sum_le n f (λ i. digit (is_reader (v.kind i))) (λ i. dite (kind_discrete (v.kind i) Reader) (λ e. let x = b i in let y = reader_is (v.kind i) e in omega arith) (λ o. let x = z i o in omega arith)) in let c = r.rules.readers in let e = r.rules.few_readers in omega arith

  -- a reader's view in which the pin stays
  pub same_pin : (j : ℕ) (u : Read) → v.kind j ≡ Reader → u.pin ≡ (v.read j).pin → w.taken + sum_below n (λ i. digit (update v.read j u i).ready) ≤ s.limit + s.passes + 1 → PinsRule s w.round w.taken w.released n v.kind (update v.read j u) g.pins
  same_pin j u k e bound = record {
    now = r.pins.now;
    later = r.pins.later;
    count = λ q. let a = r.pins.count q in let z = pin_sum j q u (inside j k) in let y : one_where u.pin (q + 1) ≡ one_where (v.read j).pin (q + 1) = ap (λ (x : ℕ). one_where x (q + 1)) e in omega arith;
    past = update_cases (λ i x. (q : ℕ) → x.pin ≡ q + 1 → q ≤ w.round) v.read j u (λ q h. r.pins.past j q (sym e ∙ h)) (λ i _. r.pins.past i);
    few = r.pins.few;
    readers = update_cases (λ i x. (v.kind i ≡ Reader → ⊥) → (x.pin ≡ 0) × (x.ready ≡ false)) v.read j u (λ o. absurd (o k)) (λ i _. r.pins.readers i);
    spent = update_cases (λ i x. v.kind i ≡ Vacant → x ≡ unread) v.read j u (λ z. absurd (cc)) (λ i _. r.pins.spent i);
    most = r.pins.most;
    bound = bound;
  }

  -- what a pass was told stays, and it may have seen the last finished round
  told_on : (j : ℕ) (u : Read) → u.told ≡ (v.read j).told → u.made ≡ (v.read j).made → ((u.seen ≡ (v.read j).seen) ⊎ (u.seen ≡ w.round)) → ((q : ℕ) → u.pin ≡ q + 1 → ((v.read j).pin ≡ q + 1) ⊎ (q ≡ w.round)) → HistoryRule w.round g.who (update v.read j u) v.ruling.history
  told_on j u same made seen pin = let h = r.history in let a = h.seen j in let b = h.made j in let a0 = a.0 in let a1 = a.1 in let b0 = b.0 in let l : length u.told ≡ length (v.read j).told = ap (λ (x : List (List ℕ)). length x) same in
      history_read w.round g.who v.read v.ruling.history j u (subst (λ (x : List (List ℕ)). (rest : List (List ℕ)) × (v.ruling.history ≡ x ++ rest)) (sym same) (h.told j))
      (⊎_elim (λ e. omega arith) (λ e. omega arith) seen, ⊎_elim (λ e. omega arith) (λ e. omega arith) seen)
      (⊎_elim (λ e. omega arith) (λ e. omega arith) seen, λ q e. ⊎_elim (λ t. let c = b.1 q t in omega arith) (λ t. omega arith) (pin q e)) h

  -- a pass that is no reader's forgets what it was told and has noted
  pub forgets : (j : ℕ) → (v.kind j ≡ Reader → ⊥) → Rule s w n (record v { read = update v.read j unread }) g
  forgets j o = rereads j w.taken w.released g.pins unread
      record {
        now = r.pins.now;
        later = r.pins.later;
        count = λ q. r.pins.count q ∙ ap (λ (x : ℕ). w.released q + x) (sym (sum_same n (λ i. one_where (v.read i).pin (q + 1)) (λ i. one_where (update v.read j unread i).pin (q + 1)) (λ i _. ap (λ (x : ℕ). one_where x (q + 1)) (same i))));
        past = update_cases (λ i x. (q : ℕ) → x.pin ≡ q + 1 → q ≤ w.round) v.read j unread (λ q e. absurd (omega arith)) (λ i _. r.pins.past i);
        few = r.pins.few;
        readers = update_cases (λ i x. (v.kind i ≡ Reader → ⊥) → (x.pin ≡ 0) × (x.ready ≡ false)) v.read j unread (λ _. (refl, refl)) (λ i _. r.pins.readers i);
        spent = update_cases (λ i x. v.kind i ≡ Vacant → x ≡ unread) v.read j unread (λ _. refl) (λ i _. r.pins.spent i);
        most = r.pins.most;
        bound = let a = sum_le n (λ i. digit (update v.read j unread i).ready) (λ i. digit (v.read i).ready) (update_cases (λ i x. digit x.ready ≤ digit (v.read i).ready) v.read j unread (omega arith) (λ _ _. omega arith)) in let b = r.pins.bound in omega arith;
      }
      r.rules.drained r.stock.left (omega arith) (λ b p h. absurd h) (λ q e. absurd (omega arith))
      record { went = λ q b p h. absurd h; walk = λ q p. tt; sided = λ q x k b t p h. absurd (still_not x k b t h); dated = λ q x k b t p h. absurd (still_not x k b t h); places = λ q x k p h. absurd h; yes_notes = λ k q h. absurd h; no_notes = λ k q h. absurd h }
      (history_read w.round g.who v.read v.ruling.history j unread (v.ruling.history, refl) (omega arith, omega arith) (omega arith, λ q e. absurd (omega arith)) r.history) (early_other w.round n v.kind v.read j unread v.ruling.early o r.early)
    where
      same : (i : ℕ) → (update v.read j unread i).pin ≡ (v.read i).pin
      same = update_cases (λ i x. x.pin ≡ (v.read i).pin) v.read j unread (sym (r.pins.readers j o).0) (λ _ _. refl)

  -- ROUND is loaded: the view is ready where fewer pins than the limit were shown
  pub shows_round : (j : ℕ) → v.kind j ≡ Reader → (ready : Bool) → ((ready ≡ true) × (w.taken < s.limit)) ⊎ (ready ≡ false) → Rule s w n (record v { read = update v.read j (record (v.read j) { ready = ready; seen = w.round }) }) g
  shows_round j k ready how = let u : Read = record (v.read j) { ready = ready; seen = w.round } in let g0 = r.goes j in rereads j w.taken w.released g.pins u
      (same_pin j u k refl (⊎_elim
      (λ t. let l = t.1 in let e = t.0 in let f = few_ready (λ i. digit (update v.read j u i).ready) (λ i. digit_low (update v.read j u i).ready) (update_cases (λ i x. (v.kind i ≡ Reader → ⊥) → digit x.ready ≡ 0) v.read j u (λ o. absurd (o k)) (λ i _ o. ap digit (r.pins.readers i o).1)) in omega arith)
      (λ e. let z : digit ready ≡ 0 = ap digit e in let a = ready_sum j u (inside j k) in let b = r.pins.bound in omega arith) how))
      r.rules.drained r.stock.left (omega arith) (λ b p h. inr (p, h)) (λ q h. inr (j, h)) record { went = g0.went; walk = g0.walk; sided = g0.sided; dated = g0.dated; places = g0.places; yes_notes = g0.yes_notes; no_notes = g0.no_notes } (told_on j u refl refl (inr refl) (λ q e. inl e)) (early_on w.round n v.kind v.read j u v.ruling.early refl r.early)

  -- a pin is taken: the bound holds
  pub pins : (j : ℕ) → v.kind j ≡ Reader → (v.read j).pin ≡ 0 → (v.read j).ready ≡ true
      → Rule s (record w { taken = w.taken + 1; released = w.released }) n (record v { read = update v.read j (record (v.read j) { pin = w.round + 1; ready = false; went = []; walk = Still; places = []; seen = w.round }) }) (record g { pins = update g.pins w.round (g.pins w.round + 1) })
  pins j k none ready = let u : Read = record (v.read j) { pin = w.round + 1; ready = false; went = []; walk = Still; places = []; seen = w.round } in let p' : ℕ → ℕ = update g.pins w.round (g.pins w.round + 1) in
      rereads j (w.taken + 1) w.released p' u
      record {
        now = let a = r.pins.now in let b : p' w.round ≡ g.pins w.round + 1 = update_same g.pins w.round (g.pins w.round + 1) in omega arith;
        later = λ q l. let t = r.pins.later q l in (update_other g.pins w.round q (g.pins w.round + 1) (λ (e : q ≡ w.round). omega arith) ∙ t.0, t.1);
        count = λ q. let a = r.pins.count q in let z = pin_sum j q u (inside j k) in let y : one_where (v.read j).pin (q + 1) ≡ 0 = none_if (v.read j).pin (q + 1) (λ (e : (v.read j).pin ≡ q + 1). omega arith) in dite (ℕ_discrete q w.round)
            (λ e. let x : one_where (w.round + 1) (q + 1) ≡ 1 = one_if (w.round + 1) (q + 1) (omega arith) in let b : p' q ≡ g.pins w.round + 1 = update_at g.pins w.round q (g.pins w.round + 1) e in let c : g.pins q ≡ g.pins w.round = ap g.pins e in omega arith)
            (λ o. let x : one_where (w.round + 1) (q + 1) ≡ 0 = none_if (w.round + 1) (q + 1) (λ (e : w.round + 1 ≡ q + 1). o (omega arith)) in let b : p' q ≡ g.pins q = update_other g.pins w.round q (g.pins w.round + 1) o in omega arith);
        past = update_cases (λ i x. (q : ℕ) → x.pin ≡ q + 1 → q ≤ w.round) v.read j u (λ q h. omega arith) (λ i _. r.pins.past i);
        few = r.pins.few;
        readers = update_cases (λ i x. (v.kind i ≡ Reader → ⊥) → (x.pin ≡ 0) × (x.ready ≡ false)) v.read j u (λ o. absurd (o k)) (λ i _. r.pins.readers i);
        spent = update_cases (λ i x. v.kind i ≡ Vacant → x ≡ unread) v.read j u (λ z. absurd (cc)) (λ i _. r.pins.spent i);
        most = λ q. dite (ℕ_discrete q w.round)
            (λ e. let b : p' q ≡ g.pins w.round + 1 = update_at g.pins w.round q (g.pins w.round + 1) e in let c = r.pins.now in let a = ready_sum j u (inside j k) in let m = r.pins.bound in omega (arith, ap digit ready))
            (λ o. let b : p' q ≡ g.pins q = update_other g.pins w.round q (g.pins w.round + 1) o in let m = r.pins.most q in omega arith);
        bound = let a = ready_sum j u (inside j k) in let b = r.pins.bound in omega (arith, ap digit ready);
      }
      (λ q h. let t = r.rules.drained q h in let l = t.0 in (t.0, t.1 ∙ sym (update_other g.pins w.round q (g.pins w.round + 1) (λ (e : q ≡ w.round). omega arith))))
      (λ q i h. let t = r.stock.left q i h in let l = t.0 in (t.0, update_other g.pins w.round q (g.pins w.round + 1) (λ (e : q ≡ w.round). omega arith) ∙ t.1))
      (omega arith) (λ b p h. absurd h) (λ q h. inl (omega arith)) record { went = λ q b h m. absurd m; walk = λ q h. tt; sided = λ q x k b t p h. absurd (still_not x k b t h); dated = λ q x k b t p h. absurd (still_not x k b t h); places = λ q x k h m. absurd m; yes_notes = (r.goes j).yes_notes; no_notes = (r.goes j).no_notes } (told_on j u refl refl (inr refl) (λ q e. inr (omega arith))) (early_on w.round n v.kind v.read j u v.ruling.early refl r.early)

  -- a pin is given back
  pub unpins : (j q0 : ℕ) → v.kind j ≡ Reader → (v.read j).pin ≡ q0 + 1
      → Rule s (record w { taken = w.taken; released = update w.released q0 (w.released q0 + 1) }) n (record v { read = update v.read j (record (v.read j) { pin = 0; went = []; walk = Still; places = [] }) }) (record g { pins = g.pins })
  unpins j q0 k had = let u : Read = record (v.read j) { pin = 0; went = []; walk = Still; places = [] } in let low_ = r.pins.past j q0 had in
      rereads j w.taken (update w.released q0 (w.released q0 + 1)) g.pins u
      record {
        now = r.pins.now;
        later = λ q l. let t = r.pins.later q l in (t.0, update_other w.released q0 q (w.released q0 + 1) (λ (e : q ≡ q0). omega arith) ∙ t.1);
        count = λ q. let a = r.pins.count q in let z = pin_sum j q u (inside j k) in let y : one_where 0 (q + 1) ≡ 0 = none_if 0 (q + 1) (λ (e : 0 ≡ q + 1). omega arith) in dite (ℕ_discrete q q0)
            (λ e. let x : one_where (v.read j).pin (q + 1) ≡ 1 = one_if (v.read j).pin (q + 1) (omega arith) in let b : update w.released q0 (w.released q0 + 1) q ≡ w.released q0 + 1 = update_at w.released q0 q (w.released q0 + 1) e in let c : w.released q ≡ w.released q0 = ap w.released e in omega arith)
            (λ o. let x : one_where (v.read j).pin (q + 1) ≡ 0 = none_if (v.read j).pin (q + 1) (λ (e : (v.read j).pin ≡ q + 1). o (omega arith)) in let b : update w.released q0 (w.released q0 + 1) q ≡ w.released q = update_other w.released q0 q (w.released q0 + 1) o in omega arith);
        past = update_cases (λ i x. (q : ℕ) → x.pin ≡ q + 1 → q ≤ w.round) v.read j u (λ q h. absurd (omega arith)) (λ i _. r.pins.past i);
        few = r.pins.few;
        readers = update_cases (λ i x. (v.kind i ≡ Reader → ⊥) → (x.pin ≡ 0) × (x.ready ≡ false)) v.read j u (λ o. absurd (o k)) (λ i _. r.pins.readers i);
        spent = update_cases (λ i x. v.kind i ≡ Vacant → x ≡ unread) v.read j u (λ z. absurd (cc)) (λ i _. r.pins.spent i);
        most = r.pins.most;
        bound = let a = ready_sum j u (inside j k) in let b = r.pins.bound in omega arith;
      }
      (λ q h. let t = r.rules.drained q h in (t.0, update_other w.released q0 q (w.released q0 + 1) (λ (e : q ≡ q0). no_pin s w n v g r q h j (had ∙ ap (λ (x : ℕ). x + 1) (sym e))) ∙ t.1))
      r.stock.left (omega arith) (λ b p h. absurd h) (λ q h. absurd (omega arith)) record { went = λ q b h m. absurd m; walk = λ q h. absurd (omega arith); sided = λ q x k b t p h. absurd (still_not x k b t h); dated = λ q x k b t p h. absurd (still_not x k b t h); places = λ q x k h m. absurd m; yes_notes = (r.goes j).yes_notes; no_notes = (r.goes j).no_notes } (told_on j u refl refl (inl refl) (λ q e. absurd (omega arith))) (early_on w.round n v.kind v.read j u v.ruling.early refl r.early)

  -- a walk goes on: the reader's pin stays
  module _ (j q0 : ℕ) (kind : v.kind j ≡ Reader) (pinned : (v.read j).pin ≡ q0 + 1) where
    low_q : q0 ≤ w.round
    low_q = r.pins.past j q0 pinned

    can : MayRead w.round v.ruling.phase v.read q0
    can = inl (inr (j, pinned))

    same_q : (q : ℕ) → (v.read j).pin ≡ q + 1 → q0 ≡ q
    same_q q p = one_more q0 q (sym pinned ∙ p)

    abbrev walked : List ℕ → Walk → List Note → List (ℕ × ℕ) → ℕ → Read
    walked went walk notes places back = record (v.read j) { went = went; walk = walk; notes = notes; places = places; back = back }

    walks_on : (went : List ℕ) (walk : Walk) (notes : List Note) (places : List (ℕ × ℕ)) (back : ℕ) → ((x i b : ℕ) (t : Bool) → (walk ≡ At x i b t) ⊎ (walk ≡ Past x i b t) → 0 < back → (w.history (member_of b t)).died < back) → ((b : ℕ) → HasEntry went b → ((t : Bool) × (x : ℕ) × (stands (g.life b) t ≡ x + 1)) × ((w.died b ≡ 0) ⊎ (q0 < w.died b)))
        → Walks s w.name w.history w.born w.died g.life (g.who q0) q0 went walk → ((x i b : ℕ) (t : Bool) → (walk ≡ At x i b t) ⊎ (walk ≡ Past x i b t) → w.name (member_of b t) ≡ i)
        → ((i q : ℕ) → HasEntry notes record { round = q; name = i; bisected = true } → (q ≤ w.round) × ((b : ℕ) × (g.who q i ≡ b + 1))) → ((i q : ℕ) → HasEntry notes record { round = q; name = i; bisected = false } → (q ≤ w.round) × (g.who q i ≡ 0)) → ((x i : ℕ) → HasEntry places (x, i) → IsPlaceOf s w.name (g.who q0) x i) → ((b : ℕ) → (v.read j).pin ≡ w.round + 1 → HasEntry went b → ((x m : ℕ) → g.life b ≡ RolledBack x m → ⊥) ⊎ (((v.read j).pin ≡ w.round + 1) × HasEntry (v.read j).went b))
        → Rule s w n (record v { read = update v.read j (walked went walk notes places back) }) g
    walks_on went walk notes places back dd ok here sd yes_ no_ at fresh = rereads j w.taken w.released g.pins (walked went walk notes places back) (same_pin j (walked went walk notes places back) kind refl (let a = ready_sum j (walked went walk notes places back) (inside j kind) in let b = r.pins.bound in omega arith))
        r.rules.drained r.stock.left (omega arith) fresh (λ q h. inr (j, h))
        record { went = λ q b p h. subst (λ (x : ℕ). ((t : Bool) × (y : ℕ) × (stands (g.life b) t ≡ y + 1)) × ((w.died b ≡ 0) ⊎ (x < w.died b))) (same_q q p) (ok b h); walk = λ q p. subst (λ (x : ℕ). Walks s w.name w.history w.born w.died g.life (g.who x) x went walk) (same_q q p) here; sided = λ q x i b t p h. sd x i b t h; dated = λ q x i b t p h. dd x i b t h; places = λ q x i p h. subst (λ (y : ℕ). IsPlaceOf s w.name (g.who y) x i) (same_q q p) (at x i h); yes_notes = yes_; no_notes = no_ } (told_on j (walked went walk notes places back) refl refl (inl refl) (λ q e. inl e)) (early_on w.round n v.kind v.read j (walked went walk notes places back) v.ruling.early refl r.early)

    places_ok : (x i : ℕ) → HasEntry (v.read j).places (x, i) → IsPlaceOf s w.name (g.who q0) x i
    places_ok x i h = (r.goes j).places q0 x i pinned h

    -- the place of an element that the pass found, or a macro element's
    place_is : (x i : ℕ) → HasEntry (v.read j).places (x, i) ⊎ ((x < s.elements) × (i ≡ s.top x)) → IsPlaceOf s w.name (g.who q0) x i
    place_is x i h = ⊎_elim (λ t. places_ok x i t) inl h

    went_ok : (b : ℕ) → HasEntry (v.read j).went b → ((t : Bool) × (x : ℕ) × (stands (g.life b) t ≡ x + 1)) × ((w.died b ≡ 0) ⊎ (q0 < w.died b))
    went_ok b h = (r.goes j).went q0 b pinned h

    note_yes : (k b : ℕ) → g.who q0 k ≡ b + 1 → (i q : ℕ) → HasEntry (record { round = q0; name = k; bisected = true } ∷ (v.read j).notes) record { round = q; name = i; bisected = true } → (q ≤ w.round) × ((b : ℕ) × (g.who q i ≡ b + 1))
    note_yes k b e i q h = ⊎_elim (λ x. let a : q ≡ q0 = ap (λ (y : Note). y.round) x in let c : i ≡ k = ap (λ (y : Note). y.name) x in (subst (λ (y : ℕ). y ≤ w.round) (sym a) low_q, (b, ap (λ (y : ℕ × ℕ). g.who y.0 y.1) (λ t. (a t, c t)) ∙ e))) (λ u. (r.goes j).yes_notes i q u) h

    note_yes_no : (k : ℕ) → (i q : ℕ) → HasEntry (record { round = q0; name = k; bisected = true } ∷ (v.read j).notes) record { round = q; name = i; bisected = false } → (q ≤ w.round) × (g.who q i ≡ 0)
    note_yes_no k i q h = ⊎_elim (λ x. absurd (clash (ap (λ (y : Note). y.bisected) x))) (λ u. (r.goes j).no_notes i q u) h
      where
        clash : false ≡ true → ⊥
        clash e = cc

    note_no : (k : ℕ) → g.who q0 k ≡ 0 → (i q : ℕ) → HasEntry (record { round = q0; name = k; bisected = false } ∷ (v.read j).notes) record { round = q; name = i; bisected = false } → (q ≤ w.round) × (g.who q i ≡ 0)
    note_no k e i q h = ⊎_elim (λ x. let a : q ≡ q0 = ap (λ (y : Note). y.round) x in let c : i ≡ k = ap (λ (y : Note). y.name) x in (subst (λ (y : ℕ). y ≤ w.round) (sym a) low_q, ap (λ (y : ℕ × ℕ). g.who y.0 y.1) (λ t. (a t, c t)) ∙ e)) (λ u. (r.goes j).no_notes i q u) h

    note_no_yes : (k : ℕ) → (i q : ℕ) → HasEntry (record { round = q0; name = k; bisected = false } ∷ (v.read j).notes) record { round = q; name = i; bisected = true } → (q ≤ w.round) × ((b : ℕ) × (g.who q i ≡ b + 1))
    note_no_yes k i q h = ⊎_elim (λ x. absurd (clash (ap (λ (y : Note). y.bisected) x))) (λ u. (r.goes j).yes_notes i q u) h
      where
        clash : true ≡ false → ⊥
        clash e = cc

    -- the word l is the one that the walk loads next: the LINK of a place that was found, or of a macro element, or the HISTORY word of the block that was passed by
    abbrev pub IsNext : ℕ → ℕ → Node → Type 0
    IsNext x k l = ((HasEntry (v.read j).places (x, k) ⊎ ((x < s.elements) × (k ≡ s.top x))) × (l ≡ w.head x)) ⊎ ((b : ℕ) × (t : Bool) × ((v.read j).walk ≡ Past x k b t) × (l ≡ w.history (member_of b t)))

    -- from the place's head, and from the history word of a block that is passed by, the round's block is found
    abbrev pub Leads : ℕ → ℕ → Node → Type 0
    Leads x k l = IsHead w.round w.died g.life x l × IsPlaceOf s w.name (g.who q0) x k × ((c : ℕ) → g.who q0 k ≡ c + 1 → Reaches w.history w.born w.died g.life q0 x c l)

    first_word : (x k : ℕ) → IsPlaceOf s w.name (g.who q0) x k → Leads x k (w.head x)
    first_word x k h = let f = r.names.fits q0 can in (
      r.chains.heads x (seen_live s w.name w.name w.head w.history w.head w.history w.born w.died w.born w.died g.life g.life (λ _ _ _ _ _. refl) (g.who q0) q0 x k f h),
      h,
      λ c e. let t = f.found k c e in subst (λ (y : ℕ). Reaches w.history w.born w.died g.life q0 y c (w.head y)) (place_one s w n v g r q0 can t.1 x k t.4 h) t.5,
    )

    next_word : (x k b : ℕ) (t : Bool) → (v.read j).walk ≡ Past x k b t → Leads x k (w.history (member_of b t))
    next_word x k b t at = let h = subst (Walks s w.name w.history w.born w.died g.life (g.who q0) q0 (v.read j).went) at ((r.goes j).walk q0 pinned) in
        (older_head (λ _. Unit {0}) (Went w.round w.died v.kind v.work v.read) s.elements w.round w.head w.history w.born w.died g.life r.chains x (w.born b) (w.history (member_of b t)) (r.chains.histories b t x h.1), h.2, h.3)

    pub leads : (x k : ℕ) (l : Node) → IsNext x k l → Leads x k l
    leads x k l (inl t) = subst (Leads x k) (sym t.1) (first_word x k (place_is x k t.0))
    leads x k l (inr t) = subst (Leads x k) (sym t.3) (next_word x k t.0 t.1 t.2)

    -- a member of the block that the word names has the element's name
    pub next_named : (x k : ℕ) (l : Node) → IsNext x k l → (c : ℕ) (t : Bool) → l.block ≡ c + 1 → chained (g.life c) t ≡ x + 1 → w.name (member_of c t) ≡ k
    next_named x k l (inl a) c t e ch = let lab = label_of s w n v g r q0 can x k (place_is x k a.0) in
        label_one s w.name g.life x (w.name (member_of c t)) k (r.named.heads x c t (label_place s w.name g.life x k lab) (ap (λ (i : Node). i.block) (sym a.1) ∙ e) ch) lab
    next_named x k l (inr n) c t e ch = let h = subst (Walks s w.name w.history w.born w.died g.life (g.who q0) q0 (v.read j).went) n.2 ((r.goes j).walk q0 pinned) in
        r.named.histories n.0 c x n.1 t h.1 (ap (λ (i : Node). i.block) (sym n.3) ∙ e) ch ∙ (r.goes j).sided q0 x k n.0 n.1 pinned (inr n.2)

    -- the word stops the walk: the name is not bisected
    pub ends : (x k : ℕ) (l : Node) → IsNext x k l → (l.block ≡ 0) ⊎ ((0 < l.died) × (l.died ≤ q0)) → Rule s w n (record v { read = update v.read j (walked (v.read j).went Still (record { round = q0; name = k; bisected = false } ∷ (v.read j).notes) (v.read j).places (v.read j).back) }) g
    ends x k l next stop = let f = leads x k l next in let z : g.who q0 k ≡ 0 = ⊎_elim (λ e. e) (λ t. absurd (none t.0 (f.2 t.0 t.1) stop f.0)) (zero_or_more (g.who q0 k)) in
        walks_on (v.read j).went Still (record { round = q0; name = k; bisected = false } ∷ (v.read j).notes) (v.read j).places (v.read j).back (λ y i b t z. absurd (still_not y i b t z)) went_ok tt (λ y i b t z. absurd (still_not y i b t z)) (note_no_yes k) (note_no k z) places_ok (λ b p h. inr (p, h))
      where
        none : (c : ℕ) → Reaches w.history w.born w.died g.life q0 x c l → (l.block ≡ 0) ⊎ ((0 < l.died) × (l.died ≤ q0)) → IsHead w.round w.died g.life x l → ⊥
        none c h (inl e) o = none_found w.history w.born w.died g.life q0 x c l e h
        none c h (inr e) (inl o) = none_found w.history w.born w.died g.life q0 x c l (ap (λ (m : Node). m.block) o) h
        none c h (inr e) (inr o) = let dd = o.4 e.0 in let e0 = e.0 in let e1 = e.1 in dead_end (λ _. Unit {0}) (Went w.round w.died v.kind v.work v.read) s.elements w.round w.head w.history w.born w.died g.life r.chains q0 x c h.0 l o.0 o.1 o.2 o.3 (omega arith) (omega arith) h.1

    -- the word leads to a block, and the walk goes there
    pub goes_to : (x k b : ℕ) (l : Node) → IsNext x k l → l.block ≡ b + 1 → (l.died ≡ 0) ⊎ (q0 < l.died) → (t : Bool) × Rule s w n (record v { read = update v.read j (walked (b ∷ (v.read j).went) (At x k b t) (v.read j).notes (v.read j).places l.died) }) g
    goes_to x k b l next is may = let f = leads x k l next in let o = named (λ _. Unit {0}) (Went w.round w.died v.kind v.work v.read) s.elements w.round w.head w.history w.born w.died g.life r.chains x b l f.0 is in let st = chained_stands (g.life b) o.0 x o.1 in let al = alive may f.0 in (
      o.0,
      walks_on (b ∷ (v.read j).went) (At x k b o.0) (v.read j).notes (v.read j).places l.died
          (λ y i c t z d. ⊎_elim (λ e. let p = at_one x k b o.0 y i c t e in subst (λ (q : ℕ × Bool). (w.history (member_of q.0 q.1)).died < l.died) (λ q. (p.2 q, p.3 q)) (falls d f.0 o.0 st o.1)) (λ e. absurd (at_past x k b o.0 y i c t e)) z)
          (λ c h. ⊎_elim (λ e. subst (λ (y : ℕ). ((t : Bool) × (x : ℕ) × (stands (g.life y) t ≡ x + 1)) × ((w.died y ≡ 0) ⊎ (q0 < w.died y))) (sym e) ((o.0, x, st), al)) (went_ok c) h)
          (inl refl, st, f.1, λ c e. let h = first_block w.history w.born w.died g.life q0 x c b l is (f.2 c e) in ⊎_elim inl (λ y. inr (subst (λ (i : Bool). Reaches w.history w.born w.died g.life q0 x c (w.history (member_of b i))) (r.chains.sides b h.0 o.0 x h.1 st) y)) h.2)
          (λ y i c t z. ⊎_elim (λ e. let p = at_one x k b o.0 y i c t e in sym (ap (λ (q : ℕ × Bool). w.name (member_of q.0 q.1)) (λ q. (p.2 q, p.3 q))) ∙ next_named x k l next b o.0 is o.1 ∙ p.1) (λ e. absurd (at_past x k b o.0 y i c t e)) z)
          (λ i q h. (r.goes j).yes_notes i q h) (λ i q h. (r.goes j).no_notes i q h) places_ok
          (λ c p h. ⊎_elim (λ e. inl (λ y m f. let z : 0 ≡ x + 1 = sym (ap (λ (l : Life). chained l o.0) (ap g.life (sym e) ∙ f)) ∙ o.1 in omega arith)) (λ t. inr (p, t)) h),
    )
      where
        alive : (l.died ≡ 0) ⊎ (q0 < l.died) → IsHead w.round w.died g.life x l → (w.died b ≡ 0) ⊎ (q0 < w.died b)
        alive m (inl z) = let y : 0 ≡ b + 1 = sym (ap (λ (i : Node). i.block) z) ∙ is in absurd (omega arith)
        alive (inl z) (inr o) = let e : w.died o.0 ≡ w.died b = ap w.died (one_more o.0 b (sym o.2 ∙ is)) in let y = low_q in ⊎_elim (λ a. inl (sym e ∙ a)) (λ a. inr (omega arith)) (o.5 z)
        alive (inr m) (inr o) = let e : w.died o.0 ≡ w.died b = ap w.died (one_more o.0 b (sym o.2 ∙ is)) in let y : l.died ≡ w.died o.0 = o.4 (omega arith) in inr (omega arith)

        -- the block that the word names with a retired round was retired then, and its HISTORY word is of a round before it was born
        falls : 0 < l.died → IsHead w.round w.died g.life x l → (u : Bool) → stands (g.life b) u ≡ x + 1 → chained (g.life b) u ≡ x + 1 → (w.history (member_of b u)).died < l.died
        falls d (inl z) u st ch = let e : l.died ≡ 0 = ap (λ (i : Node). i.died) z in absurd (omega arith)
        falls d (inr o) u st ch =
            let e : w.died o.0 ≡ w.died b = ap w.died (one_more o.0 b (sym o.2 ∙ is)) in
            let y : l.died ≡ w.died o.0 = o.4 d in
            let p = placed (g.life b) u x ch in
            let r0 = r.chains.dieds b p.0 p.1 p.2 (omega arith) in
            let r1 = r0.0 in let r2 = r0.1 in
            ⊎_elim (λ z. let i : (w.history (member_of b u)).died ≡ 0 = ap (λ (i : Node). i.died) z in omega arith)
            (λ c. let i : (w.history (member_of b u)).died ≡ w.died c.0 = ap (λ (i : Node). i.died) c.2 in let k = c.5 r1 in omega arith)
            (r.chains.histories b u x st)

    -- BORN of the block: the name is bisected
    pub finds_it : (x k b : ℕ) (t : Bool) → (v.read j).walk ≡ At x k b t → 0 < w.born b → w.born b ≤ q0 → Rule s w n (record v { read = update v.read j (walked (v.read j).went Still (record { round = q0; name = k; bisected = true } ∷ (v.read j).notes) ((child_place s.elements b t false, s.child k false) ∷ (child_place s.elements b t true, s.child k true) ∷ (v.read j).places) (v.read j).back) }) g
    finds_it x k b t at p l = let h = subst (Walks s w.name w.history w.born w.died g.life (g.who q0) q0 (v.read j).went) at ((r.goes j).walk q0 pinned) in
        let c : chained (g.life b) t ≡ x + 1 = ⊎_elim (λ y. placed_chained (g.life b) t x y.0 y.1 y.2 h.1) (λ y. let z = r.chains.rolled_back b y.0 y.1 y.2 in absurd (omega arith)) (standing (g.life b) t x h.1) in
        let u = r.names.sound q0 can b t x c (p, l, (went_ok b h.0).1) in let e = name_one s w n v g r q0 x (w.name (member_of b t)) k u.1 h.2 in
        walks_on (v.read j).went Still (record { round = q0; name = k; bisected = true } ∷ (v.read j).notes) ((child_place s.elements b t false, s.child k false) ∷ (child_place s.elements b t true, s.child k true) ∷ (v.read j).places) (v.read j).back (λ y i b t z. absurd (still_not y i b t z)) went_ok tt (λ y i b t z. absurd (still_not y i b t z)) (note_yes k b (ap (g.who q0) (sym e) ∙ u.0)) (note_yes_no k)
        (λ y i m. ⊎_elim (λ f. kid_at u.0 e false y i f) (λ m2. ⊎_elim (λ f. kid_at u.0 e true y i f) (λ m3. places_ok y i m3) m2) m) (λ c p h. inr (p, h))
      where
        -- a child's place and name
        kid_at : g.who q0 (w.name (member_of b t)) ≡ b + 1 → w.name (member_of b t) ≡ k → (c : Bool) (y i : ℕ) → ◌≡◌ {A = ℕ × ℕ} (y, i) (child_place s.elements b t c, s.child k c) → IsPlaceOf s w.name (g.who q0) y i
        kid_at bis is c y i f = inr (b, t, c, ap (λ (z : ℕ × ℕ). z.0) f, bis, ap (λ (z : ℕ × ℕ). z.1) f ∙ ap (λ (z : ℕ). s.child z c) (sym is))

    -- or the block is passed by
    pub passes : (x k b : ℕ) (t : Bool) → (v.read j).walk ≡ At x k b t → (w.born b ≡ 0) ⊎ (q0 < w.born b) → Rule s w n (record v { read = update v.read j (walked (v.read j).went (Past x k b t) (v.read j).notes (v.read j).places (v.read j).back) }) g
    passes x k b t at not = let h = subst (Walks s w.name w.history w.born w.died g.life (g.who q0) q0 (v.read j).went) at ((r.goes j).walk q0 pinned) in
        walks_on (v.read j).went (Past x k b t) (v.read j).notes (v.read j).places (v.read j).back
        (λ y i c u z o. ⊎_elim (λ e. absurd (at_past y i c u x k b t (sym e))) (λ e. let p = past_one x k b t y i c u e in subst (λ (q : ℕ × Bool). (w.history (member_of q.0 q.1)).died < (v.read j).back) (λ q. (p.2 q, p.3 q)) ((r.goes j).dated q0 x k b t pinned (inl at) o)) z)
        went_ok (h.0, h.1, h.2, λ c e. ⊎_elim (λ y. let z : w.born b ≡ w.born c = ap w.born y.0 in let y0 = y.1.0 in let y1 = y.1.1 in absurd (omega arith)) (λ y. y) (h.3 c e))
        (λ y i c u z. ⊎_elim (λ e. absurd (at_past y i c u x k b t (sym e))) (λ e. let p = past_one x k b t y i c u e in sym (ap (λ (q : ℕ × Bool). w.name (member_of q.0 q.1)) (λ q. (p.2 q, p.3 q))) ∙ (r.goes j).sided q0 x k b t pinned (inl at) ∙ p.1) z)
        (λ i q u. (r.goes j).yes_notes i q u) (λ i q u. (r.goes j).no_notes i q u) places_ok (λ b p h. inr (p, h))
