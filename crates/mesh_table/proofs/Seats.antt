-- A round begins, and passes are made and joined.
use Rattle.std.proofs.Common.{◌≡◌, ◌≢◌, ℕ, zero, suc, ◌+◌, ◌-◌, ◌<◌, ◌≤◌, List, [], ◌∷◌, ◌++◌, length, get_or, set, refl, sym, ap, ◌∙◌, subst, arith, inl, inr, ◌⊎◌, Bool, cond, ltb, lt-ltb, le-ltb, length-set, length-append, false, true}
use mathlib.Core.Logic.{dite}
use mathlib.Core.Path.{fun_ext}
use native.Mathlib.Decide.{ℕ_discrete, dec_lt}
use lib.Seq.{set-get_or}
use Rattle.atomic_table.specs.Table.{Allows, Splits, Joins}
use Rattle.table_words.specs.Claims.{Claim, Progress, Living, claim}
use Rattle.table_words.specs.Entries.{HasEntry}
use Rattle.table_words.specs.Functions.{update}
use Rattle.table_words.specs.Views.{FirstHalf, SecondHalf, Owner, Worker, Reader, owns_nothing, unread, Plan, Views, Work, Owned, Read, Ruling, Vacant, is_reader, Kind}
use Rattle.table_words.specs.Words.{Words, words_at}
use Rattle.table_words.proofs.Functions.{update_same, update_at, update_other, part_set, part_kept}
use Rattle.table_state.specs.Fresh.{idle}
use Rattle.table_state.specs.Ghosts.{Ghost}
use Rattle.table_state.specs.Rule.{Rule, Lawful}
use Rattle.table_words.specs.Setup.{Setup}
use Rattle.table_words.specs.Sums.{one_where, sum_below}
use Rattle.table_words.proofs.Sums.{summand, one_if}
use Rattle.table_state.proofs.Across.{some_worker}
use Rattle.table_state.proofs.Known.{early_one}
use Rattle.table_state.specs.Owner.{is_early}
use Rattle.table_steps.specs.OwnerSteps.{NumbersPass}
use Rattle.table_steps.specs.States.{state}
use Rattle.table_steps.specs.Steps.{ByBeginStep, BySplitStep, ByJoinWorker, ByJoinReader}
use Rattle.table_steps.proofs.StepsKeep.{steps_keep}
use Rattle.mesh_table.specs.declared.rule.Site.{Site}
use Rattle.mesh_table.specs.Sights.{Sight, nobody, seat_at, views_of, setup_at}
use Rattle.mesh_table.specs.Holds.{Holds, Sat}
use Rattle.mesh_table.specs.Passes.{MayBegin, begun, made_worker, joined, left_by_reader, made_reader, joined_reader}
use Rattle.mesh_table.specs.Crews.{left_lone}
use Rattle.mesh_table.specs.Told.{moved}
use Rattle.mesh_table.proofs.Bridge.{St, after, stepped, allows, seat_of, set_seat}
use Rattle.table_words.proofs.SeatKinds.{reader_is}
use Rattle.mesh_names.specs.Names.{digit}

-- the views by parts, where the owner's changes
module _ (f : ℕ → Sight) (v : Sight) where
  pub in_owner : v.kind ≡ (f 0).kind → v.claims ≡ (f 0).claims → v.owned ≡ (f 0).owned → v.read ≡ (f 0).read → views_of (update f 0 v) ≡ record (views_of f) { work = update (views_of f).work 0 v.work; ruling = v.ruling }
  in_owner a b c d t = record {
    kind = part_kept (λ (x : Sight). x.kind) f 0 v a t;
    claims = part_kept (λ (x : Sight). x.claims) f 0 v b t;
    work = part_set (λ (x : Sight). x.work) f 0 v t;
    owned = part_kept (λ (x : Sight). x.owned) f 0 v c t;
    read = part_kept (λ (x : Sight). x.read) f 0 v d t;
    ruling = ap (λ (x : Sight). x.ruling) (update_same f 0 v) t;
  }

-- a seat is added
snoc_at : (vs : List Sight) (y : Sight) → seat_at (vs ++ y ∷ []) (length vs) ≡ y
snoc_at [] y = refl
snoc_at (x ∷ xs) y = snoc_at xs y

snoc_else : (vs : List Sight) (y : Sight) (i : ℕ) → i ≢ length vs → seat_at (vs ++ y ∷ []) i ≡ seat_at vs i
snoc_else [] y zero ne = absurd (ne refl)
snoc_else [] y (suc i) ne = refl
snoc_else (x ∷ xs) y zero ne = refl
snoc_else (x ∷ xs) y (suc i) ne = snoc_else xs y i (λ e. ne (ap suc e))

snoc_seat : (vs : List Sight) (y : Sight) (n : ℕ) → n ≡ length vs → seat_at (vs ++ y ∷ []) ≡ update (seat_at vs) n y
snoc_seat vs y n en = fun_ext {f = seat_at (vs ++ y ∷ [])} {g = update (seat_at vs) n y} (λ (i : ℕ). dite (ℕ_discrete i n)
    (λ e. ap (seat_at (vs ++ y ∷ [])) (e ∙ en) ∙ snoc_at vs y ∙ sym (update_at (seat_at vs) n i y e))
    (λ o. snoc_else vs y i (λ e. o (e ∙ sym en)) ∙ sym (update_other (seat_at vs) n i y o)))

-- a reader's pass is counted
some_reader : (s : Setup) (w : Words) (n : ℕ) (v : Views) (g : Ghost) → Rule s w n v g → (j : ℕ) → v.kind j ≡ Reader → 0 < v.ruling.readers
some_reader s w n v g r j k = elim (dec_lt j n) [
  | yes l ↦ let a = summand n (λ i. digit (is_reader (v.kind i))) j l in let b : digit (is_reader (v.kind j)) ≡ 1 = reader_is (v.kind j) k in let e = r.rules.readers in omega arith
  | no o ↦ let z = r.pins.few j (omega arith) in absurd (cc)
]

-- and among the early ones where it was made before the last finished round was
some_early : (s : Setup) (w : Words) (n : ℕ) (v : Views) (g : Ghost) → Rule s w n v g → (j : ℕ) → v.kind j ≡ Reader → (((v.read j).made < v.ruling.finished) × (v.ruling.early ≡ cond (ltb (v.read j).made v.ruling.finished) (v.ruling.early - 1) v.ruling.early + 1)) ⊎ ((v.ruling.finished ≤ (v.read j).made) × (v.ruling.early ≡ cond (ltb (v.read j).made v.ruling.finished) (v.ruling.early - 1) v.ruling.early))
some_early s w n v g r j k = elim (dec_lt (v.read j).made v.ruling.finished) [
  | yes l ↦
      let inside : j < n = elim (dec_lt j n) [ yes a ↦ a | no o ↦ let z = r.pins.few j (omega arith) in absurd (cc) ] in
      let fin = r.stock.finished in
      let one = early_one w.round (v.kind j) (v.read j) k (omega arith) in
      let some_ = summand n (λ i. is_early w.round (v.kind i) (v.read i)) j inside in
      let e : v.ruling.early ≡ sum_below n (λ i. is_early w.round (v.kind i) (v.read i)) = r.early in
      let is : cond {A = ℕ} (ltb (v.read j).made v.ruling.finished) (v.ruling.early - 1) v.ruling.early ≡ v.ruling.early - 1 = ap (λ (b : Bool). cond {A = ℕ} b (v.ruling.early - 1) v.ruling.early) (lt-ltb (v.read j).made v.ruling.finished l) in
      inl (l, omega arith)
  | no o ↦ let le : v.ruling.finished ≤ (v.read j).made = omega arith in inr (le, sym (ap (λ (b : Bool). cond {A = ℕ} b (v.ruling.early - 1) v.ruling.early) (le-ltb (v.read j).made v.ruling.finished le)))
]

-- a worker's pass of this number may be made, and whether a pass of worker 0 of the first half may be out then
pub data MayMake (u : Ruling) (claims : List Claim) (number : ℕ) (lone : Bool) : Type 0 where
  InSecond : u.phase ≡ SecondHalf → lone ≡ u.lone → MayMake u claims number lone
  AsLast : u.phase ≡ FirstHalf → number ≡ 0 → u.workers ≡ 0 → ((x m : ℕ) (p : Progress) → HasEntry claims (claim x m p) → (b : ℕ) × (p ≡ Living b)) → lone ≡ true → MayMake u claims number lone
  AsOther : u.phase ≡ FirstHalf → 0 < number → u.lone ≡ false → lone ≡ false → MayMake u claims number lone

in_half : (u : Ruling) (claims : List Claim) (number : ℕ) (lone : Bool) → MayMake u claims number lone → (u.phase ≡ FirstHalf) ⊎ (u.phase ≡ SecondHalf)
in_half u claims number lone (InSecond h e) = inr h
in_half u claims number lone (AsLast h z o l e) = inl h
in_half u claims number lone (AsOther h s o e) = inl h

numbered : (v : Views) (number : ℕ) (lone : Bool) → MayMake v.ruling (v.claims 0) number lone → NumbersPass v Worker number lone
numbered v number lone (InSecond h e) = inl (inr h, e)
numbered v number lone (AsLast h z o l e) = inr (inl (z, o, l, e))
numbered v number lone (AsOther h s o e) = inr (inr (s, o, e))

module _ (k : Site) (id : ℕ) where
  -- the owner's seat is the first
  pub first_seat : (s : St k) (h : Holds k s) (v : Sight) → seat_at s.views id ≡ v → v.kind ≡ Owner → id ≡ 0
  first_seat s h v same rules = h.lawful.1.rules.one id (ap (λ (x : Sight). x.kind) same ∙ rules)

  -- a round begins in one state
  pub begins_state : (i : ℕ) (me : Sat) (p : Plan) → MayBegin (setup_at k) me.0 p → (s : St k) → Holds k s → id < length s.views → seat_at s.views id ≡ me.0 → (u : Sight) × Holds k (after k s i (get_or s.words i 0) id u) × (u ≡ begun me.0 p)
  begins_state i me p may s h l same =
      let f = seat_at s.views in
      let zero_ = first_seat s h me.0 same may.rules in
      let same0 : f 0 ≡ me.0 = ap f (sym zero_) ∙ same in
      let can : MayBegin (setup_at k) (f 0) p = subst (λ (x : Sight). MayBegin (setup_at k) x p) (sym same0) may in
      let u = begun (f 0) p in (
        u,
        stepped k s h i (get_or s.words i 0) id u (words_at k.layout s.words) _ l (ap (words_at k.layout) (set-get_or s.words i 0))
            (ap (λ (j : ℕ). views_of (update f j u)) zero_ ∙ in_owner f u refl refl refl refl)
            (ByBeginStep (p, can.names, can.last, can.target, can.room, can.rests, can.cursor, refl)),
        ap (λ (x : Sight). begun x p) same0,
      )

  pub begins : (i : ℕ) (me : Sat) (p : Plan) → MayBegin (setup_at k) me.0 p → (slots : ℕ) → Allows (Holds k) slots id me i (λ n. n) (moved (λ n v. begun v p) me)
  begins i me p may slots = allows k slots id i (λ n. n) me (moved (λ n v. begun v p) me) (λ s h l same _.
      let b = begins_state i me p may s h l same in (b.0, b.1, (refl, b.2)))

  pub splits_as : (v : Sight) (number : ℕ) (lone : Bool) → v.kind ≡ Owner → MayMake v.ruling v.claims number lone → Splits (Holds k) id v (left_lone v lone) (made_worker v number)
  splits_as v number lone rules may s h at =
      let t = seat_of s.views id v at in
      let f = seat_at s.views in
      let n = length s.views in
      let w = words_at k.layout s.words in
      let zero_ = first_seat s h v t.0 rules in
      let same : f 0 ≡ v = ap f (sym zero_) ∙ t.0 in
      let many = t.1 in
      let can : MayMake (f 0).ruling (f 0).claims number lone = subst (λ (x : Sight). MayMake x.ruling x.claims number lone) (sym same) may in
      let left = left_lone (f 0) lone in
      let made = made_worker (f 0) number in
      let apart : 0 ≢ n = (λ (e : 0 ≡ n). omega arith) in
      let seats : seat_at (set s.views 0 left ++ made ∷ []) ≡ update (update f 0 left) n made =
      snoc_seat (set s.views 0 left) made n (sym (length-set s.views 0 left)) ∙ ap (λ (g : ℕ → Sight). update g n made) (set_seat s.views 0 left (omega arith)) in
      let views : views_of (update (update f 0 left) n made) ≡ record (views_of f) {
        kind = update (views_of f).kind n Worker;
        claims = update (views_of f).claims n [];
        work = update (views_of f).work n made.work;
        owned = update (update (views_of f).owned 0 owns_nothing) n owns_nothing;
        read = update (views_of f).read n made.read;
        ruling = left.ruling;
      } = (λ i. record {
        kind = (part_set (λ (x : Sight). x.kind) (update f 0 left) n made ∙ ap (λ (g : ℕ → Kind). update g n Worker) (part_kept (λ (x : Sight). x.kind) f 0 left refl)) i;
        claims = (part_set (λ (x : Sight). x.claims) (update f 0 left) n made ∙ ap (λ (g : ℕ → List Claim). update g n []) (part_kept (λ (x : Sight). x.claims) f 0 left refl)) i;
        work = (part_set (λ (x : Sight). x.work) (update f 0 left) n made ∙ ap (λ (g : ℕ → Work). update g n made.work) (part_kept (λ (x : Sight). x.work) f 0 left refl)) i;
        owned = (part_set (λ (x : Sight). x.owned) (update f 0 left) n made ∙ ap (λ (g : ℕ → Owned). update g n owns_nothing) (part_set (λ (x : Sight). x.owned) f 0 left)) i;
        read = (part_set (λ (x : Sight). x.read) (update f 0 left) n made ∙ ap (λ (g : ℕ → Read). update g n made.read) (part_kept (λ (x : Sight). x.read) f 0 left refl)) i;
        ruling = (ap (λ (x : Sight). x.ruling) (update_other (update f 0 left) n 0 made apart) ∙ ap (λ (x : Sight). x.ruling) (update_same f 0 left)) i;
      }) in
      let lawful = steps_keep (setup_at k) (state w n (views_of f)) (state w (n + 1) record (views_of f) {
        kind = update (views_of f).kind n Worker;
        claims = update (views_of f).claims n [];
        work = update (views_of f).work n made.work;
        owned = update (update (views_of f).owned 0 owns_nothing) n owns_nothing;
        read = update (views_of f).read n made.read;
        ruling = left.ruling;
      }) (BySplitStep (Worker, (f 0).ruling.workers + 1, (f 0).ruling.readers, inl (refl, in_half (f 0).ruling (f 0).claims number lone can, refl, refl), number, lone, numbered (views_of f) number lone can, [], (λ a e. absurd e), refl)) h.lawful in
      let long : n + 1 ≡ length (set s.views 0 left ++ made ∷ []) = let a = length-append (set s.views 0 left) (made ∷ []) in let b = length-set s.views 0 left in omega arith in
      let held : Holds k record { words = s.words; homes = s.homes; views = set s.views 0 left ++ made ∷ [] } = record {
        size_is = h.size_is;
        lawful = subst (λ (x : ℕ × Views). Lawful (setup_at k) w x.0 x.1) (λ i. (long i, (sym views ∙ sym (ap views_of seats)) i)) lawful;
      } in
      subst (λ (x : ℕ × Sight). Holds k record { words = s.words; homes = s.homes; views = set s.views x.0 (left_lone x.1 lone) ++ made_worker x.1 number ∷ [] }) (λ i. (sym zero_ i, same i)) held

  pub joins_worker : (v : Sight) (other : ℕ) (u : Sight) → v.kind ≡ Owner → u.kind ≡ Worker → Joins (Holds k) id v other u (joined v u) nobody
  joins_worker v other u rules works s h at differ there =
      let t = seat_of s.views id v at in
      let f = seat_at s.views in
      let n = length s.views in
      let w = words_at k.layout s.words in
      let zero_ = first_seat s h v t.0 rules in
      let same : f 0 ≡ v = ap f (sym zero_) ∙ t.0 in
      let many = t.1 in
      let o = seat_of (set s.views id (joined v u)) other u there in
      let far : other ≢ 0 = (λ (e : other ≡ 0). differ (e ∙ sym zero_)) in
      let mine : f other ≡ u = sym (update_other f id other (joined v u) differ) ∙ sym (ap (λ (g : ℕ → Sight). g other) (set_seat s.views id (joined v u) many)) ∙ o.0 in
      let kind : (f other).kind ≡ Worker = ap (λ (x : Sight). x.kind) mine ∙ works in
      let some_ = some_worker (setup_at k) w n (views_of f) h.lawful.0 h.lawful.1 other kind in
      let both = joined (f 0) (f other) in
      let inside : other < n = let a = o.1 in let b = length-set s.views id (joined v u) in omega arith in
      let seats : seat_at (set (set s.views 0 both) other nobody) ≡ update (update f 0 both) other nobody =
      set_seat (set s.views 0 both) other nobody (let b = length-set s.views 0 both in omega arith) ∙ ap (λ (g : ℕ → Sight). update g other nobody) (set_seat s.views 0 both (omega arith)) in
      let views : views_of (update (update f 0 both) other nobody) ≡ record (views_of f) {
        kind = update (views_of f).kind other Vacant;
        claims = update (update (views_of f).claims 0 both.claims) other [];
        work = update (update (views_of f).work 0 both.work) other idle;
        owned = update (update (views_of f).owned 0 owns_nothing) other owns_nothing;
        read = update (views_of f).read other unread;
        ruling = both.ruling;
      } = (λ i. record {
        kind = (part_set (λ (x : Sight). x.kind) (update f 0 both) other nobody ∙ ap (λ (g : ℕ → Kind). update g other Vacant) (part_kept (λ (x : Sight). x.kind) f 0 both refl)) i;
        claims = (part_set (λ (x : Sight). x.claims) (update f 0 both) other nobody ∙ ap (λ (g : ℕ → List Claim). update g other []) (part_set (λ (x : Sight). x.claims) f 0 both)) i;
        work = (part_set (λ (x : Sight). x.work) (update f 0 both) other nobody ∙ ap (λ (g : ℕ → Work). update g other idle) (part_set (λ (x : Sight). x.work) f 0 both)) i;
        owned = (part_set (λ (x : Sight). x.owned) (update f 0 both) other nobody ∙ ap (λ (g : ℕ → Owned). update g other owns_nothing) (part_set (λ (x : Sight). x.owned) f 0 both)) i;
        read = (part_set (λ (x : Sight). x.read) (update f 0 both) other nobody ∙ ap (λ (g : ℕ → Read). update g other unread) (part_kept (λ (x : Sight). x.read) f 0 both refl)) i;
        ruling = (ap (λ (x : Sight). x.ruling) (update_other (update f 0 both) other 0 nobody (λ e. far (sym e))) ∙ ap (λ (x : Sight). x.ruling) (update_same f 0 both)) i;
      }) in
      let lawful = steps_keep (setup_at k) (state w n (views_of f)) (state w n record (views_of f) {
        kind = update (views_of f).kind other Vacant;
        claims = update (update (views_of f).claims 0 both.claims) other [];
        work = update (update (views_of f).work 0 both.work) other idle;
        owned = update (update (views_of f).owned 0 owns_nothing) other owns_nothing;
        read = update (views_of f).read other unread;
        ruling = both.ruling;
      }) (ByJoinWorker (other, far, kind, (f 0).ruling.workers - 1, omega arith, refl)) h.lawful in
      let long : n ≡ length (set (set s.views 0 both) other nobody) = sym (length-set (set s.views 0 both) other nobody ∙ length-set s.views 0 both) in
      let held : Holds k record { words = s.words; homes = s.homes; views = set (set s.views 0 both) other nobody } = record {
        size_is = h.size_is;
        lawful = subst (λ (x : ℕ × Views). Lawful (setup_at k) w x.0 x.1) (λ i. (long i, (sym views ∙ sym (ap views_of seats)) i)) lawful;
      } in
      subst (λ (x : ℕ × Sight × Sight). Holds k record { words = s.words; homes = s.homes; views = set (set s.views x.0 (joined x.1 x.2)) other nobody }) (λ i. (sym zero_ i, same i, mine i)) held

  pub splits_reader : (v : Sight) → v.kind ≡ Owner → v.ruling.readers ≤ k.passes → Splits (Holds k) id v (left_by_reader v) (made_reader v)
  splits_reader v rules few s h at =
      let t = seat_of s.views id v at in
      let f = seat_at s.views in
      let n = length s.views in
      let w = words_at k.layout s.words in
      let zero_ = first_seat s h v t.0 rules in
      let same : f 0 ≡ v = ap f (sym zero_) ∙ t.0 in
      let many = t.1 in
      let left = left_by_reader (f 0) in
      let made = made_reader (f 0) in
      let apart : 0 ≢ n = (λ (e : 0 ≡ n). omega arith) in
      let seats : seat_at (set s.views 0 left ++ made ∷ []) ≡ update (update f 0 left) n made =
      snoc_seat (set s.views 0 left) made n (sym (length-set s.views 0 left)) ∙ ap (λ (g : ℕ → Sight). update g n made) (set_seat s.views 0 left (omega arith)) in
      let views : views_of (update (update f 0 left) n made) ≡ record (views_of f) {
        kind = update (views_of f).kind n Reader;
        claims = update (views_of f).claims n [];
        work = update (views_of f).work n made.work;
        owned = update (update (views_of f).owned 0 (f 0).owned) n owns_nothing;
        read = update (views_of f).read n made.read;
        ruling = left.ruling;
      } = (λ i. record {
        kind = (part_set (λ (x : Sight). x.kind) (update f 0 left) n made ∙ ap (λ (g : ℕ → Kind). update g n Reader) (part_kept (λ (x : Sight). x.kind) f 0 left refl)) i;
        claims = (part_set (λ (x : Sight). x.claims) (update f 0 left) n made ∙ ap (λ (g : ℕ → List Claim). update g n []) (part_kept (λ (x : Sight). x.claims) f 0 left refl)) i;
        work = (part_set (λ (x : Sight). x.work) (update f 0 left) n made ∙ ap (λ (g : ℕ → Work). update g n made.work) (part_kept (λ (x : Sight). x.work) f 0 left refl)) i;
        owned = (part_set (λ (x : Sight). x.owned) (update f 0 left) n made ∙ ap (λ (g : ℕ → Owned). update g n owns_nothing) (part_set (λ (x : Sight). x.owned) f 0 left)) i;
        read = (part_set (λ (x : Sight). x.read) (update f 0 left) n made ∙ ap (λ (g : ℕ → Read). update g n made.read) (part_kept (λ (x : Sight). x.read) f 0 left refl)) i;
        ruling = (ap (λ (x : Sight). x.ruling) (update_other (update f 0 left) n 0 made apart) ∙ ap (λ (x : Sight). x.ruling) (update_same f 0 left)) i;
      }) in
      let lawful = steps_keep (setup_at k) (state w n (views_of f)) (state w (n + 1) record (views_of f) {
        kind = update (views_of f).kind n Reader;
        claims = update (views_of f).claims n [];
        work = update (views_of f).work n made.work;
        owned = update (update (views_of f).owned 0 (f 0).owned) n owns_nothing;
        read = update (views_of f).read n made.read;
        ruling = left.ruling;
      }) (BySplitStep (Reader, (f 0).ruling.workers, (f 0).ruling.readers + 1, inr (refl, (let q : (f 0).ruling.readers ≡ v.ruling.readers = ap (λ (x : Sight). x.ruling.readers) same in omega arith), refl, refl), 0, (f 0).ruling.lone, inl (inl refl, refl), (f 0).read.notes, (λ a e. e), refl)) h.lawful in
      let long : n + 1 ≡ length (set s.views 0 left ++ made ∷ []) = let a = length-append (set s.views 0 left) (made ∷ []) in let b = length-set s.views 0 left in omega arith in
      let held : Holds k record { words = s.words; homes = s.homes; views = set s.views 0 left ++ made ∷ [] } = record {
        size_is = h.size_is;
        lawful = subst (λ (x : ℕ × Views). Lawful (setup_at k) w x.0 x.1) (λ i. (long i, (sym views ∙ sym (ap views_of seats)) i)) lawful;
      } in
      subst (λ (x : ℕ × Sight). Holds k record { words = s.words; homes = s.homes; views = set s.views x.0 (left_by_reader x.1) ++ made_reader x.1 ∷ [] }) (λ i. (sym zero_ i, same i)) held

  pub joins_reader : (v : Sight) (other : ℕ) (u : Sight) → v.kind ≡ Owner → u.kind ≡ Reader → u.read.pin ≡ 0 → Joins (Holds k) id v other u (joined_reader v u) nobody
  joins_reader v other u rules works unpinned s h at differ there =
      let t = seat_of s.views id v at in
      let f = seat_at s.views in
      let n = length s.views in
      let w = words_at k.layout s.words in
      let zero_ = first_seat s h v t.0 rules in
      let same : f 0 ≡ v = ap f (sym zero_) ∙ t.0 in
      let many = t.1 in
      let o = seat_of (set s.views id (joined_reader v u)) other u there in
      let far : other ≢ 0 = (λ (e : other ≡ 0). differ (e ∙ sym zero_)) in
      let mine : f other ≡ u = sym (update_other f id other (joined_reader v u) differ) ∙ sym (ap (λ (g : ℕ → Sight). g other) (set_seat s.views id (joined_reader v u) many)) ∙ o.0 in
      let kind : (f other).kind ≡ Reader = ap (λ (x : Sight). x.kind) mine ∙ works in
      let some_ = some_reader (setup_at k) w n (views_of f) h.lawful.0 h.lawful.1 other kind in
      let both = joined_reader (f 0) (f other) in
      let counts = some_early (setup_at k) w n (views_of f) h.lawful.0 h.lawful.1 other kind in
      let inside : other < n = let a = o.1 in let b = length-set s.views id (joined_reader v u) in omega arith in
      let seats : seat_at (set (set s.views 0 both) other nobody) ≡ update (update f 0 both) other nobody =
      set_seat (set s.views 0 both) other nobody (let b = length-set s.views 0 both in omega arith) ∙ ap (λ (g : ℕ → Sight). update g other nobody) (set_seat s.views 0 both (omega arith)) in
      let views : views_of (update (update f 0 both) other nobody) ≡ record (views_of f) {
        kind = update (views_of f).kind other Vacant;
        claims = update (views_of f).claims other [];
        work = update (views_of f).work other idle;
        owned = update (views_of f).owned other owns_nothing;
        read = update (update (views_of f).read 0 both.read) other unread;
        ruling = both.ruling;
      } = (λ i. record {
        kind = (part_set (λ (x : Sight). x.kind) (update f 0 both) other nobody ∙ ap (λ (g : ℕ → Kind). update g other Vacant) (part_kept (λ (x : Sight). x.kind) f 0 both refl)) i;
        claims = (part_set (λ (x : Sight). x.claims) (update f 0 both) other nobody ∙ ap (λ (g : ℕ → List Claim). update g other []) (part_kept (λ (x : Sight). x.claims) f 0 both refl)) i;
        work = (part_set (λ (x : Sight). x.work) (update f 0 both) other nobody ∙ ap (λ (g : ℕ → Work). update g other idle) (part_kept (λ (x : Sight). x.work) f 0 both refl)) i;
        owned = (part_set (λ (x : Sight). x.owned) (update f 0 both) other nobody ∙ ap (λ (g : ℕ → Owned). update g other owns_nothing) (part_kept (λ (x : Sight). x.owned) f 0 both refl)) i;
        read = (part_set (λ (x : Sight). x.read) (update f 0 both) other nobody ∙ ap (λ (g : ℕ → Read). update g other unread) (part_set (λ (x : Sight). x.read) f 0 both)) i;
        ruling = (ap (λ (x : Sight). x.ruling) (update_other (update f 0 both) other 0 nobody (λ e. far (sym e))) ∙ ap (λ (x : Sight). x.ruling) (update_same f 0 both)) i;
      }) in
      let lawful = steps_keep (setup_at k) (state w n (views_of f)) (state w n record (views_of f) {
        kind = update (views_of f).kind other Vacant;
        claims = update (views_of f).claims other [];
        work = update (views_of f).work other idle;
        owned = update (views_of f).owned other owns_nothing;
        read = update (update (views_of f).read 0 both.read) other unread;
        ruling = both.ruling;
      }) (ByJoinReader (other, far, kind, ap (λ (x : Sight). x.read.pin) mine ∙ unpinned, (f 0).ruling.readers - 1, both.ruling.early, omega arith, counts, refl)) h.lawful in
      let long : n ≡ length (set (set s.views 0 both) other nobody) = sym (length-set (set s.views 0 both) other nobody ∙ length-set s.views 0 both) in
      let held : Holds k record { words = s.words; homes = s.homes; views = set (set s.views 0 both) other nobody } = record {
        size_is = h.size_is;
        lawful = subst (λ (x : ℕ × Views). Lawful (setup_at k) w x.0 x.1) (λ i. (long i, (sym views ∙ sym (ap views_of seats)) i)) lawful;
      } in
      subst (λ (x : ℕ × Sight × Sight). Holds k record { words = s.words; homes = s.homes; views = set (set s.views x.0 (joined_reader x.1 x.2)) other nobody }) (λ i. (sym zero_ i, same i, mine i)) held
