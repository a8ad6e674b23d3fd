-- A draw.
use Rattle.std.proofs.Common.{◌≡◌, ◌≢◌, ℕ, ◌+◌, ◌<◌, ◌≤◌, Bool, false, List, [], ◌∷◌, ◌⊎◌, refl, sym, ap, ◌∙◌, subst, inl, inr, ⊎_elim, arith}
use mathlib.Core.Logic.{dite}
use native.Mathlib.Decide.{ℕ_discrete, dec_lt}
use Rattle.table_words.specs.Setup.{Setup, places}
use Rattle.table_words.specs.Functions.{update}
use Rattle.table_words.specs.Words.{Words, Node}
use Rattle.table_words.specs.Views.{Work, Views, owns_nothing, Worker, FirstHalf, order}
use Rattle.table_words.specs.Claims.{Progress, Claimed, Failed, Drawn, Half, Whole, Living, claim, moved_on}
use Rattle.table_words.specs.Places.{member_of}
use Rattle.table_words.specs.Entries.{HasEntry}
use Rattle.table_words.proofs.Functions.{update_same, update_at, update_other, update_cases}
use Rattle.table_words.proofs.Sums.{sum_update}
use Rattle.table_state.specs.Ghosts.{Stage, Open, Held, Life, Free, Loose, Placed, RolledBack, chained, stands, Ghost}
use Rattle.table_state.specs.Chains.{Reaches, IsPlace, IsUnborn}
use Rattle.table_state.specs.Claims.{block_of, Shape, linked, draws, draws_of, bit_of}
use Rattle.table_state.specs.Bisections.{MayRead}
use Rattle.table_state.specs.Owned.{GuardsBlock, GuardsHead, OwnedRule}
use Rattle.table_state.specs.Work.{WorkRule, WalkRule}
use Rattle.table_state.proofs.Lists.{plan_update, crew_goes, number_kept}
use Rattle.table_state.specs.Rule.{Rule}
use Rattle.table_state.specs.Inside.{ListedOnce}
use Rattle.table_state.proofs.Inside.{inside_goes, inside_life, inside_block, labels_on, once_moved}
use Rattle.table_state.proofs.FoundAgain.{placed, chained_stands, standing, reach_on, names_on, goes_on, workers_on, Moves}
use Rattle.table_state.proofs.HeldClaims.{not_open, held_one, free_not, free_loose, loose_not, uses, used_life, shape_on, moved_on_has, moved_on_here, moved_on_keeps, place_of}
use Rattle.table_state.proofs.Across.{Went, first_half}
use Rattle.table_steps.proofs.OwnedWords.{owned_on, retired_on}
use Rattle.table_steps.proofs.Publishing.{Label}
use Rattle.table_state.specs.Owner.{FreeRule}
use Rattle.table_state.proofs.Known.{claim_other, draw_other, kept_on, retireds_on, grows_same}
use Rattle.table_state.specs.Work.{GrownRule}

module _ (s : Setup) (w : Words) (n : ℕ) (v : Views) (g : Ghost) (r : Rule s w n v g) where
  abbrev d : ℕ
  d = w.round + 1

  abbrev A : ℕ → ℕ → Type 0
  A = Went w.round w.died v.kind v.work v.read

  abbrev Can : ℕ → Type 0
  Can q = MayRead w.round v.ruling.phase v.read q

  -- the row of the draw names a free block, which is the claim's from now on
  module _ (j x m : ℕ) (mine : HasEntry (v.claims j) (claim x m Claimed)) (kind : v.kind j ≡ Worker) where
    is : g.stage x ≡ Held j m Claimed
    is = r.claims.held j x m Claimed mine

    one : v.ruling.phase ≡ FirstHalf
    one = first_half s w n v g r j x m Claimed kind is (λ h. h)

    module _ (q : Progress) (life : ℕ → Life) (used : (b : ℕ) → uses q ≡ b + 1 → (b ≡ w.row w.cursor) × (w.cursor < w.free) × (q ≡ Drawn b))
        (shape : Shape w.round w.head w.born life x m q) (drawn : draws q ≡ 1) (unlinked : (b : ℕ) → linked q ≡ b + 1 → ⊥) (not_half : (b : ℕ) → q ≡ Half b → ⊥) (not_whole : (b : ℕ) → q ≡ Whole b → ⊥) (not_living : (b : ℕ) → q ≡ Living b → ⊥)
        (same_life : (c : ℕ) → (g.life c ≡ Free → ⊥) → life c ≡ g.life c) (back_life : (c y k : ℕ) → life c ≡ Placed y k → g.life c ≡ Placed y k) (rolled_back_life : (c y k : ℕ) → life c ≡ RolledBack y k → g.life c ≡ RolledBack y k) (free_life : (i : ℕ) → w.cursor < i → i < w.free → life (w.row i) ≡ Free) (left_life : (c : ℕ) → g.life c ≡ Free → (life c ≡ Free) ⊎ ((w.cursor < w.free) × (w.row w.cursor ≡ c))) (e : ℕ) (below : w.cursor < w.free → e ≡ w.row w.cursor + 1) (above : w.free ≤ w.cursor → e ≡ 0) (beyond : (c : ℕ) → s.pool ≤ c → life c ≡ Free) (idle : (c : ℕ) → IsUnborn w.round (w.born c) (w.died c) (life c)) (hand_life : (c : ℕ) → HasEntry v.ruling.hand c → life c ≡ Free) (frees : FreeRule s.pool (w.cursor + 1) w.free w.row w.born life v.ruling.hand v.ruling.low v.ruling.high) (loose_life : (c u : ℕ) → life c ≡ Loose u → (g.life c ≡ Loose u) ⊎ ((u ≡ x + 1) × (q ≡ Drawn c))) (of : block_of q ≡ e) where
      abbrev stage' : ℕ → Stage
      stage' = update g.stage x (Held j m q)

      abbrev noted : Work
      noted = record (v.work j) { drawn = (w.cursor, e) ∷ (v.work j).drawn }

      back : (z i k : ℕ) (p : Progress) → stage' z ≡ Held i k p → ((z ≡ x) × (i ≡ j) × (k ≡ m) × (p ≡ q)) ⊎ ((z ≢ x) × (g.stage z ≡ Held i k p))
      back z i k p h = dite (ℕ_discrete z x) (λ e. let t = held_one j i m k q p (sym (update_at g.stage x z (Held j m q) e) ∙ h) in inl (e, sym t.0, sym t.1, sym t.2)) (λ o. inr (o, sym (update_other g.stage x z (Held j m q) o) ∙ h))

      stood : (c : ℕ) (t : Bool) (y : ℕ) → stands (g.life c) t ≡ y + 1 → life c ≡ g.life c
      stood c t y h = same_life c (λ (e : g.life c ≡ Free). let z : 0 ≡ y + 1 = sym (ap (λ (l : Life). stands l t) e) ∙ h in omega arith)

      stand : (c : ℕ) (t : Bool) (y : ℕ) → stands (g.life c) t ≡ y + 1 → stands (life c) t ≡ y + 1
      stand c t y h = ap (λ (l : Life). stands l t) (stood c t y h) ∙ h

      chain : (c : ℕ) (t : Bool) (y : ℕ) → chained (g.life c) t ≡ y + 1 → chained (life c) t ≡ y + 1
      chain c t y h = ap (λ (l : Life). chained l t) (stood c t y (chained_stands (g.life c) t y h)) ∙ h

      back_chain : (c : ℕ) (t : Bool) (y : ℕ) → chained (life c) t ≡ y + 1 → chained (g.life c) t ≡ y + 1
      back_chain c t y h = let p = placed (life c) t y h in ap (λ (l : Life). chained l t) (back_life c p.0 p.1 p.2) ∙ sym (ap (λ (l : Life). chained l t) p.2) ∙ h

      back_stand : (c : ℕ) (t : Bool) (y : ℕ) → stands (life c) t ≡ y + 1 → stands (g.life c) t ≡ y + 1
      back_stand c t y h = ⊎_elim (λ p. ap (λ (l : Life). stands l t) (back_life c p.0 p.1 p.2) ∙ sym (ap (λ (l : Life). stands l t) p.2) ∙ h) (λ p. ap (λ (l : Life). stands l t) (rolled_back_life c p.0 p.1 p.2) ∙ sym (ap (λ (l : Life). stands l t) p.2) ∙ h) (standing (life c) t y h)

      live : (y : ℕ) → IsPlace s.elements life y → IsPlace s.elements g.life y
      live y l = ⊎_elim inl (λ k. inr (k.0, k.1, k.2, k.3, k.4, back_stand k.0 false k.3 k.5)) l

      again : (q z c : ℕ) (l : Node) → Reaches w.history w.born w.died g.life q z c l → Reaches w.history w.born w.died life q z c l
      again q z c l h = reach_on w.history w.history w.born w.died w.born w.died g.life life q z (λ a t u. (stand a t z u, refl)) c (λ t u k. k) l h

      moves : Moves Can A s.elements w.round w.head w.history w.head w.history w.born w.died w.born w.died g.life life
      moves = record {
        heads = λ q z c k _ h. again q z c (w.head z) h;
        histories = λ q a t z c k _ u h. again q z c (w.history (member_of a t)) h;
        on = λ q b t x k u c. c;
        back = λ q b t x k u c. c;
        stays = λ q c t y k _ u. chain c t y u;
        fresh = λ q c t y k _ u. back_chain c t y u;
        stand = λ q c t y k a u. stand c t y u;
        later = λ b t x u. omega arith;
        alive = λ q b t x l u a. a;
      }

      pub draws_any : Rule s (record w { cursor = w.cursor + 1 }) n (record v { claims = update v.claims j (moved_on (v.claims j) x q); work = update v.work j (record (v.work j) { drawn = (w.cursor, e) ∷ (v.work j).drawn }); owned = update v.owned j owns_nothing }) (record g { stage = stage'; life = life })
      draws_any = record {
        names_apart = r.names_apart;
        claims = record {
          held = update_cases (λ i cs. (z k : ℕ) (p : Progress) → HasEntry cs (claim z k p) → stage' z ≡ Held i k p) v.claims j (moved_on (v.claims j) x q)
              (λ z k p h. ⊎_elim (λ t. let u = held_one j j m k Claimed t.2.0 (sym is ∙ r.claims.held j x k t.2.0 t.2.1) in update_at g.stage x z (Held j m q) t.0 ∙ (λ i. Held j (u.1 i) (sym t.1 i))) (λ t. update_other g.stage x z (Held j m q) t.0 ∙ r.claims.held j z k p t.1) (moved_on_has (v.claims j) x q z k p h))
              (λ i ne z k p h. update_other g.stage x z (Held j m q) (λ (e : z ≡ x). ne (held_one i j k m p Claimed (sym (r.claims.held i z k p h) ∙ ap g.stage e ∙ is)).0) ∙ r.claims.held i z k p h);
          holds = update_cases (λ i cs. (z k : ℕ) (p : Progress) → stage' z ≡ Held i k p → HasEntry cs (claim z k p)) v.claims j (moved_on (v.claims j) x q)
              (λ z k p h. ⊎_elim (λ t. subst (λ (y : ℕ × ℕ × Progress). HasEntry (moved_on (v.claims j) x q) (claim y.0 y.1 y.2)) (λ i. (sym t.0 i, sym t.2 i, sym t.3 i)) (moved_on_here (v.claims j) x m q Claimed mine)) (λ t. moved_on_keeps (v.claims j) x q z k p t.0 (r.claims.holds j z k p t.1)) (back z j k p h))
              (λ i ne z k p h. ⊎_elim (λ t. absurd (ne t.1)) (λ t. r.claims.holds i z k p t.1) (back z i k p h));
          bits = λ z. dite (ℕ_discrete z x) (λ e. ap w.claimed e ∙ r.claims.bits x ∙ ap bit_of is ∙ sym (ap bit_of (update_at g.stage x z (Held j m q) e))) (λ o. r.claims.bits z ∙ sym (ap bit_of (update_other g.stage x z (Held j m q) o)));
          inside = λ z l. let k = room in update_other g.stage x z (Held j m q) (λ (e : z ≡ x). omega arith) ∙ r.claims.inside z l;
          mates = λ z i y p h. ⊎_elim (λ t. let a = r.claims.mates x j y Claimed (is ∙ ap (λ (u : ℕ). Held j u Claimed) (sym t.2)) in (opens y a.0, λ a1 b c u. ⊎_elim (λ f. f.0 ∙ sym t.0) (λ f. a.1 a1 b c f.1 ∙ sym t.0) (back a1 b (y + 1) c u)))
              (λ t. let a = r.claims.mates z i y p t.1 in (opens y a.0, λ a1 b c u. ⊎_elim (λ f. absurd (t.0 (sym (a.1 x j Claimed (is ∙ ap (λ (u : ℕ). Held j u Claimed) (sym f.2)))))) (λ f. a.1 a1 b c f.1) (back a1 b (y + 1) c u))) (back z i (y + 1) p h);
          shape = λ z i k p h. ⊎_elim (λ t. subst (λ (y : ℕ × ℕ × Progress). Shape w.round w.head w.born life y.0 y.1 y.2) (λ i. (sym t.0 i, sym t.2 i, sym t.3 i)) shape)
              (λ t. shape_on w.round w.head w.born g.life z k w.head w.born life p (λ c u. (same_life c (λ e. ⊎_elim (λ f. free_loose (z + 1) (sym e ∙ f)) (λ f. free_not z k (sym e ∙ f)) (used_life w.round w.head w.born g.life z k p c (r.claims.shape z i k p t.1) u)), refl)) refl (λ _ _. refl) (r.claims.shape z i k p t.1)) (back z i k p h);
          kept = λ b y k u e o. let t = r.claims.kept b y k (back_life b y k u) e o in (t.0, update_other g.stage x y (Held j m q) (λ (f : y ≡ x). claimed_not_living b (held_one j t.0 m k Claimed (Living b) (sym is ∙ ap g.stage (sym f) ∙ t.1)).2) ∙ t.1);
          half = λ b y k u e. let t = r.claims.half b y k (back_life b y k u) e in (t.0, ⊎_elim (λ f. inl (update_other g.stage x y (Held j m q) (λ (h : y ≡ x). claimed_not_half b (held_one j t.0 m k Claimed (Half b) (sym is ∙ ap g.stage (sym h) ∙ f)).2) ∙ f)) (λ f. inr (update_other g.stage x y (Held j m q) (λ (h : y ≡ x). claimed_not_whole b (held_one j t.0 m k Claimed (Whole b) (sym is ∙ ap g.stage (sym h) ∙ f)).2) ∙ f)) t.1);
          rows = λ i a l. (free_life i (omega arith) l, (r.claims.rows i (omega arith) l).1);
          apart = λ i k a l b. r.claims.apart i k (omega arith) l (omega arith);
          drawn = λ e. let t = sum_update (places s) (λ z. draws_of (g.stage z)) (λ z. draws_of (stage' z)) x room (λ z o. ap draws_of (update_other g.stage x z (Held j m q) o)) in let a : draws_of (g.stage x) ≡ 0 = ap draws_of is in let b : draws_of (stage' x) ≡ 1 = ap draws_of (update_same g.stage x (Held j m q)) ∙ drawn in let c = r.claims.drawn e in omega arith;
          living = λ z i k p h e. absurd (let f = one in cc);
          none = λ z e. absurd (let f = one in cc);
        };
        labels = λ z i k p h e. ⊎_elim (λ t. let l = r.labels x j m Claimed is e in subst (λ (y : ℕ × ℕ × Progress). Label s w n v g r y.0 y.1 y.2) (λ u. (sym t.0 u, sym t.2 u, sym t.3 u)) (l.0, l.1, l.2, l.3, (λ b f. absurd (unlinked b f)), l.5, l.6)) (λ t. r.labels z i k p t.1 e) (back z i k p h);
        chains = record {
          heads = λ y l. ⊎_elim inl (λ o. inr (o.0, o.1, o.2, chain o.0 o.1 y o.3, o.4, o.5)) (r.chains.heads y (live y l));
          histories = λ b t y u. ⊎_elim inl (λ o. inr (o.0, o.1, o.2, chain o.0 o.1 y o.3, o.4, o.5, o.6)) (r.chains.histories b t y (back_stand b t y u));
          borns = r.chains.borns;
          dieds = λ b y k u. r.chains.dieds b y k (back_life b y k u);
          rolled_back = λ b y k u. r.chains.rolled_back b y k (rolled_back_life b y k u);
          unborn = idle;
          sides = λ b t i y h k. r.chains.sides b t i y (back_stand b t y h) (back_stand b i y k);
        };
        names = names_on s w.name w.name w.head w.history w.head w.history w.born w.died w.born w.died g.life life (λ _ _ _ _ _. refl) w.round v.ruling.phase g.who v.read Can A moves (λ _ k. k) (λ b y k u. r.names.patch b y k (back_life b y k u)) (λ b p. (p.0, p.1, back_life b p.0 p.1 p.2, p.3, p.4)) (λ b y k l u. r.names.calm b y k l (back_life b y k u)) r.names;
        pins = r.pins;
        works = update_cases (λ i u. WorkRule s w.round v.ruling.phase w.name w.born w.died life (g.who d) (v.kind i) i u) v.work j noted
            (let k = r.works j in record { only = k.only; found = k.found; known = k.known; open_ = k.open_; given = λ c y h. let t = (k.given c y h).0 in let z = one in absurd (cc) })
            (λ i _. let k = r.works i in record { only = k.only; found = k.found; known = k.known; open_ = k.open_; given = λ c y h. let t = (k.given c y h).0 in let z = one in absurd (cc) });
        owned = update_cases (λ i u. OwnedRule s.elements v.ruling.workers w.head w.history w.born w.died w.name w.row stage' i u) v.owned j owns_nothing
            record { head_is = λ z l f h. absurd f; history_is = λ b t l f h. absurd f; died_is = λ b k f h. absurd f; name_is = λ b t k f h. absurd f; born_is = λ b k f h i. absurd f; row_is = λ b k f h i. absurd f }
            (λ i ne. owned_on s.elements v.ruling.workers v.ruling.workers w.head w.history w.head w.history w.born w.died w.name w.row w.born w.died w.name w.row g.stage stage' i (v.owned i)
            (λ z h. (head_was i ne z h, refl)) (λ c h. (block_was i ne c h, (λ _. refl), refl, λ _. refl)) (λ z e. (e, (λ _. refl), λ _. refl)) (r.owned i));
        walks = update_cases (λ i u. WalkRule s w.round v.ruling.phase w.name w.history w.born w.died life g.who (v.kind i) i u) v.work j noted (let u = walker j in record { still = u.still; only = u.only; half = u.half; at_work = u.at_work; retired_in = u.retired_in; absent = u.absent; stood = u.stood; had = u.had; went = u.went; walk = u.walk; sided = u.sided }) (λ i _. walker i);
        goes = λ i. goes_on s w.name w.name w.head w.history w.head w.history w.born w.died w.born w.died g.life life (λ _ _ _ _ _. refl) w.round v.ruling.phase g.who v.read Can A moves (λ a p e. (inl (inr (a, e)), r.pins.past a p e)) (λ a p c e h x. (inl (a, e, h), x)) (λ p t. r.names.fits p t) i (r.goes i);
        rules = r.rules;
        stock = let k = r.stock in record { finished = k.finished; cursor_is = λ i e. absurd ((k.cursor_is i e).0 one); free_is = k.free_is; left = k.left };
        note = record { rolled_back = λ c h. let t = r.note.rolled_back c h in (t.0, t.1, same_life c (λ e. free_rolled_back t.0 t.1 (sym e ∙ t.2)) ∙ t.2); all = λ c y k h. r.note.all c y k (rolled_back_life c y k h); placed = λ c y k h. ⊎_elim (λ e. inl (same_life c (λ f. free_not y k (sym f ∙ e)) ∙ e)) (λ e. inr (same_life c (λ f. free_rolled_back y k (sym f ∙ e)) ∙ e)) (r.note.placed c y k h); seen = r.note.seen; quiet = r.note.quiet };
        retired = retired_on w.round w.died life v.work (update v.work j noted) v.ruling.retired (update_cases (λ i u. u.retired ≡ (v.work i).retired) v.work j noted refl (λ _ _. refl)) (λ c y k h e. r.retired c y k (back_life c y k h) e);
        plan = plan_update s w.round v.ruling.phase g.who v.kind v.work v.ruling.plan j noted refl r.plan;
        history = r.history;
        drawn = record {
          only = update_cases (λ i u. (v.kind i ≡ Worker → ⊥) → (i ≡ 0 → ⊥) → u.drawn ≡ []) v.work j noted (λ a. absurd (a kind)) (λ i _. r.drawn.only i);
          drawn = update_cases (λ _ u. (i b : ℕ) → HasEntry u.drawn (i, b) → (v.ruling.phase ≡ FirstHalf) × (i < w.cursor + 1) × (i < w.free → b ≡ w.row i + 1) × (w.free ≤ i → b ≡ 0)) v.work j noted
              (λ i b h. ⊎_elim (λ z. new_draw i b (ap (λ (t : ℕ × ℕ). t.0) z) (ap (λ (t : ℕ × ℕ). t.1) z)) (old_draw j i b) h) (λ a _. old_draw a);
          apart = λ a c i b f h l. ⊎_elim (λ t. ⊎_elim (λ u. t.0 ∙ sym u.0) (λ u. let z = (r.drawn.drawn c i f u).1 in let y = t.1 in absurd (omega arith)) (whose c i f l))
              (λ t. ⊎_elim (λ u. let z = (r.drawn.drawn a i b t).1 in let y = u.1 in absurd (omega arith)) (λ u. r.drawn.apart a c i b f t u) (whose c i f l)) (whose a i b h);
        };
        draws = λ z i k p a h f. ⊎_elim
            (λ t. (w.cursor, drawn_at i t.1 w.cursor (block_of p) (inl (λ y. (w.cursor, (ap block_of t.3 ∙ of) y)))))
            (λ t. let u = r.draws z i k p a t.1 f in (u.0, drawn_on i u.0 (block_of p) u.1)) (back z i k p h);
        crew = crew_goes s w.round v.ruling.phase v.kind v.work (update v.work j noted) g.stage v.ruling.lone x j m q kind (number_kept v.work j noted refl) r.crew;
        inside = inside_goes s w.free w.row life g.stage v.ruling.hand v.ruling.retired x j m Claimed j q is (inside_life s w.free w.row g.life life g.stage v.ruling.hand v.ruling.retired beyond (λ c t y st. r.inside.stand_in c t y (back_stand c t y st)) r.inside);
        named = labels_on s w.name w.name w.head w.head w.history w.history g.life life (λ c t y st. (stand c t y st, refl)) back_stand back_chain (λ _ _. refl) (λ _ _ _ _. refl) (λ c y k u. r.named.patch c y k (rolled_back_life c y k u)) r.named;
        once = update_cases (λ _ cs. ListedOnce cs) v.claims j (moved_on (v.claims j) x q) (once_moved (v.claims j) x q (r.once j)) (λ i _. r.once i);
        holders = λ z i k p h. ⊎_elim (λ t. inr (ap v.kind t.1 ∙ kind)) (λ t. r.holders z i k p t.1) (back z i k p h);
        hand = hand_life;
        grows = update_cases (λ i u. GrownRule s w.round v.ruling.phase w.name w.born (g.who d) (v.kind i) i u) v.work j noted (grows_same s w.round v.ruling.phase w.name w.born (g.who d) (v.kind j) j (v.work j) noted refl (r.grows j)) (λ i _. r.grows i);
        retireds = retireds_on w.round w.died w.died g.life life v.work (update v.work j noted) v.ruling.retired v.ruling.retired (λ c h. ⊎_elim (λ t. inl (t.0, subst (λ (l : List ℕ). HasEntry l c) (update_cases (λ i u. u.retired ≡ (v.work i).retired) v.work j noted refl (λ _ _. refl) t.0) t.1)) inr h) (λ c y k u _. (same_life c (λ e. free_not y k (sym e ∙ u)) ∙ u, refl)) r.retireds;
        frees = frees;
        known = record {
          noted = λ c y k u. ⊎_elim inl (λ h. inr (claim_other g.stage x (Held j m q) c y k (λ a p f e. let z : Claimed ≡ p = (held_one j a m k Claimed p (sym is ∙ f)).2 in let y : 0 ≡ c + 1 = ap block_of z ∙ e in absurd (omega arith)) h)) (r.known.noted c y k (back_life c y k u));
          rolled_back = λ c y k u. r.known.rolled_back c y k (rolled_back_life c y k u);
          loose = λ c u e. ⊎_elim (λ f. draw_other g.stage x (Held j m q) c u (λ a k h. claimed_not_drawn c (held_one j a m k Claimed (Drawn c) (sym is ∙ h)).2) (r.known.loose c u f)) (λ t. (x, j, m, t.0, update_same g.stage x (Held j m q) ∙ ap (Held j m) t.1)) (loose_life c u e);
        };
        kept = kept_on w.round w.died w.died g.life life v.ruling.kept (λ c y k u _ _. (back_life c y k u, refl)) (λ c y k u _ _. (same_life c (λ e. free_not y k (sym e ∙ u)) ∙ u, refl)) r.kept;
        early = r.early;
      }
        where
          walker : (i : ℕ) → WalkRule s w.round v.ruling.phase w.name w.history w.born w.died life g.who (v.kind i) i (v.work i)
          walker i = workers_on s w.name w.name w.head w.history w.head w.history w.born w.died w.born w.died g.life life (λ _ _ _ _ _. refl) w.round v.ruling.phase g.who v.read Can A moves (inl (inl refl)) (r.names.fits w.round (inl (inl refl))) (λ e. r.names.fits d (inr (refl, omega (arith, ap order e)))) (v.kind i) i (v.work i) (λ b k h x. (inr (i, k, refl, h), x)) (λ c t y e. ap (λ (l : Life). chained l t) (same_life c (λ (f : g.life c ≡ Free). let z : 0 ≡ y + 1 = sym (ap (λ (l : Life). chained l t) f) ∙ e in omega arith)) ∙ e) (r.walks i)

          old_draw : (a i b : ℕ) → HasEntry (v.work a).drawn (i, b) → (v.ruling.phase ≡ FirstHalf) × (i < w.cursor + 1) × (i < w.free → b ≡ w.row i + 1) × (w.free ≤ i → b ≡ 0)
          old_draw a i b h = let t = r.drawn.drawn a i b h in let t1 = t.1 in (t.0, omega arith, t.2, t.3)

          new_draw : (i b : ℕ) → i ≡ w.cursor → b ≡ e → (v.ruling.phase ≡ FirstHalf) × (i < w.cursor + 1) × (i < w.free → b ≡ w.row i + 1) × (w.free ≤ i → b ≡ 0)
          new_draw i b z y = (one, omega arith, (λ l. y ∙ below (omega arith) ∙ ap (λ (t : ℕ). w.row t + 1) (sym z)), λ l. y ∙ above (omega arith))

          drawn_at : (i : ℕ) → i ≡ j → (a b : ℕ) → HasEntry noted.drawn (a, b) → HasEntry (update v.work j noted i).drawn (a, b)
          drawn_at i z a b h = subst (λ (u : Work). HasEntry u.drawn (a, b)) (sym (update_at v.work j i noted z)) h

          drawn_on : (i a b : ℕ) → HasEntry (v.work i).drawn (a, b) → HasEntry (update v.work j noted i).drawn (a, b)
          drawn_on i a b h = dite (ℕ_discrete i j) (λ z. drawn_at i z a b (inr (subst (λ (c : ℕ). HasEntry (v.work c).drawn (a, b)) z h))) (λ o. subst (λ (u : Work). HasEntry u.drawn (a, b)) (sym (update_other v.work j i noted o)) h)

          -- a draw is the new one, or was there
          whose : (a i b : ℕ) → HasEntry (update v.work j noted a).drawn (i, b) → ((a ≡ j) × (i ≡ w.cursor)) ⊎ HasEntry (v.work a).drawn (i, b)
          whose a i b h = update_cases (λ c u. c ≡ a → HasEntry u.drawn (i, b) → ((a ≡ j) × (i ≡ w.cursor)) ⊎ HasEntry (v.work a).drawn (i, b)) v.work j noted
              (λ z k. ⊎_elim (λ t. inl (sym z, ap (λ (y : ℕ × ℕ). y.0) t)) (λ t. inr (subst (λ (c : ℕ). HasEntry (v.work c).drawn (i, b)) z t)) k) (λ c _ z k. inr (subst (λ (c : ℕ). HasEntry (v.work c).drawn (i, b)) z k)) a refl h

          free_rolled_back : (y k : ℕ) → Free ≡ RolledBack y k → ⊥
          free_rolled_back y k e = cc

          room : x < places s
          room = place_of s w.round w.cursor w.free v.ruling.phase w.row w.claimed w.head w.born g.life g.stage v.claims r.claims x j m Claimed is

          opens : (y : ℕ) → g.stage y ≡ Open → stage' y ≡ Open
          opens y e = update_other g.stage x y (Held j m q) (λ (f : y ≡ x). not_open j m Claimed (sym is ∙ ap g.stage (sym f) ∙ e)) ∙ e

          claimed_not_living : (b : ℕ) → Claimed ≡ Living b → ⊥
          claimed_not_living b e = cc

          claimed_not_drawn : (b : ℕ) → Claimed ≡ Drawn b → ⊥
          claimed_not_drawn b e = cc

          claimed_not_half : (b : ℕ) → Claimed ≡ Half b → ⊥
          claimed_not_half b e = cc

          claimed_not_whole : (b : ℕ) → Claimed ≡ Whole b → ⊥
          claimed_not_whole b e = cc

          block_was : (i : ℕ) → i ≢ j → (c : ℕ) → GuardsBlock v.ruling.workers stage' i c → GuardsBlock v.ruling.workers g.stage i c
          block_was i ne c (inl t) = inl t
          block_was i ne c (inr t) = inr (t.0, t.1, ⊎_elim (λ h. ⊎_elim (λ f. absurd (ne f.1)) (λ f. inl f.1) (back t.0 i t.1 (Drawn c) h)) (λ h. ⊎_elim (λ f. absurd (ne f.1)) (λ f. inr f.1) (back t.0 i t.1 (Half c) h)) t.2)

          head_was : (i : ℕ) → i ≢ j → (z : ℕ) → GuardsHead s.elements v.ruling.workers stage' i z → GuardsHead s.elements v.ruling.workers g.stage i z
          head_was i ne z (inl t) = inl t
          head_was i ne z (inr t) = inr (t.0, t.1, t.2, ⊎_elim (λ h. ⊎_elim (λ f. absurd (ne f.1)) (λ f. inl (f.1, h.1)) (back t.0 i t.1 (Drawn t.2) h.0)) (λ h. ⊎_elim (λ f. absurd (ne f.1)) (λ f. inr (f.1, h.1)) (back t.0 i t.1 (Half t.2) h.0)) t.3)

    -- the number found is below FREE
    pub draws_one : w.cursor < w.free → Rule s (record w { cursor = w.cursor + 1 }) n (record v { claims = update v.claims j (moved_on (v.claims j) x (Drawn (w.row w.cursor))); work = update v.work j (record (v.work j) { drawn = (w.cursor, w.row w.cursor + 1) ∷ (v.work j).drawn }); owned = update v.owned j owns_nothing }) (record g { stage = update g.stage x (Held j m (Drawn (w.row w.cursor))); life = update g.life (w.row w.cursor) (Loose (x + 1)) })
    draws_one l = let b : ℕ = w.row w.cursor in let f = r.claims.rows w.cursor (omega arith) l in let life : ℕ → Life = update g.life b (Loose (x + 1)) in
        draws_any (Drawn b) life (λ c e. let z : c ≡ b = omega arith in (z, l, ap Drawn (sym z))) (update_same g.life b (Loose (x + 1)), f.1) refl (λ c e. absurd (omega arith)) (λ c e. clash1 b c e) (λ c e. clash2 b c e) (λ c e. clash3 b c e)
        (λ c o. update_other g.life b c (Loose (x + 1)) (λ (e : c ≡ b). o (ap g.life e ∙ f.0)))
        (λ c y k u. dite (ℕ_discrete c b) (λ e. absurd (loose_not (x + 1) y k (sym (update_at g.life b c (Loose (x + 1)) e) ∙ u))) (λ o. sym (update_other g.life b c (Loose (x + 1)) o) ∙ u))
        (λ c y k u. dite (ℕ_discrete c b) (λ e. absurd (clash4 (x + 1) y k (sym (update_at g.life b c (Loose (x + 1)) e) ∙ u))) (λ o. sym (update_other g.life b c (Loose (x + 1)) o) ∙ u))
        (λ i a m. let t = r.claims.rows i (omega arith) m in update_other g.life b (w.row i) (Loose (x + 1)) (λ (e : w.row i ≡ b). let q = r.claims.apart i w.cursor (omega arith) m (omega arith) l e in omega arith) ∙ t.0)
        (λ c e. dite (ℕ_discrete c b) (λ k. inr (l, sym k)) (λ o. inl (update_other g.life b c (Loose (x + 1)) o ∙ e)))
        (w.row w.cursor + 1) (λ _. refl) (λ a. absurd (omega arith)) (inside_block s g.life b (Loose (x + 1)) (r.inside.rows w.cursor l) r.inside.blocks)
        (λ c. dite (ℕ_discrete c b) (λ k. subst (IsUnborn w.round (w.born c) (w.died c)) (sym (update_at g.life b c (Loose (x + 1)) k)) (ap w.born k ∙ f.1)) (λ o. subst (IsUnborn w.round (w.born c) (w.died c)) (sym (update_other g.life b c (Loose (x + 1)) o)) (r.chains.unborn c)))
        (λ c h. update_other g.life b c (Loose (x + 1)) (λ (e : c ≡ b). r.frees.hand_rows c h (w.cursor, omega arith, l, sym e)) ∙ r.hand c h)
        record {
          all = λ c i e. let o : c ≢ b = λ (h : c ≡ b). free_loose (x + 1) (sym e ∙ update_at g.life b c (Loose (x + 1)) h) in ⊎_elim inl (λ t. ⊎_elim (λ t. let t1 = t.1 in let k : w.cursor ≢ t.0 = λ z. o (sym t.3 ∙ ap w.row (sym z)) in inr (inl (t.0, above w.cursor t.0 t.1 k, t.2, t.3))) (λ t. inr (inr t)) t) (r.frees.all c i (sym (update_other g.life b c (Loose (x + 1)) o) ∙ e));
          hand_rows = λ c h t. let t1 = t.1 in r.frees.hand_rows c h (t.0, omega arith, t.2, t.3);
          hand_stock = r.frees.hand_stock;
          stocked = λ i a m. let z = r.frees.shut (omega arith) in absurd (omega arith);
          once = r.frees.once;
          shut = r.frees.shut;
        }
        (λ c u e. dite (ℕ_discrete c b) (λ k. let z : Loose (x + 1) ≡ Loose u = sym (update_at g.life b c (Loose (x + 1)) k) ∙ e in inr (loose_one u (x + 1) (sym z), ap Drawn (sym k))) (λ o. inl (sym (update_other g.life b c (Loose (x + 1)) o) ∙ e))) refl
      where
        above : (a i : ℕ) → a ≤ i → a ≢ i → a + 1 ≤ i
        above a i l o = elim (dec_lt a i) [ yes k ↦ omega arith | no k ↦ absurd (o (omega arith)) ]

        loose_one : (a c : ℕ) → Loose a ≡ Loose c → a ≡ c
        loose_one a c e = cc

        clash1 : (b c : ℕ) → Drawn b ≡ Half c → ⊥
        clash1 b c e = cc

        clash2 : (b c : ℕ) → Drawn b ≡ Whole c → ⊥
        clash2 b c e = cc

        clash3 : (b c : ℕ) → Drawn b ≡ Living c → ⊥
        clash3 b c e = cc

        clash4 : (u y k : ℕ) → Loose u ≡ RolledBack y k → ⊥
        clash4 u y k e = cc

    -- it is not: the round is full
    pub draws_none : w.free ≤ w.cursor → Rule s (record w { cursor = w.cursor + 1 }) n (record v { claims = update v.claims j (moved_on (v.claims j) x Failed); work = update v.work j (record (v.work j) { drawn = (w.cursor, 0) ∷ (v.work j).drawn }); owned = update v.owned j owns_nothing }) (record g { stage = update g.stage x (Held j m Failed); life = g.life })
    draws_none l = draws_any Failed g.life (λ c e. absurd (omega arith)) tt refl (λ c e. absurd (omega arith)) (λ c e. clash1 c e) (λ c e. clash2 c e) (λ c e. clash3 c e) (λ _ _. refl) (λ _ _ _ u. u) (λ _ _ _ u. u) (λ i a m. absurd (omega arith)) (λ c e. inl e) 0 (λ a. absurd (omega arith)) (λ _. refl) r.inside.blocks r.chains.unborn r.hand
        record {
          all = λ c i e. ⊎_elim inl (λ t. ⊎_elim (λ t. let t1 = t.1 in let t2 = t.2 in absurd (omega arith)) (λ t. inr (inr t)) t) (r.frees.all c i e);
          hand_rows = λ c h t. let t1 = t.1 in let t2 = t.2 in absurd (omega arith);
          hand_stock = r.frees.hand_stock;
          stocked = r.frees.stocked;
          once = r.frees.once;
          shut = r.frees.shut;
        }
        (λ c u e. inl e) refl
      where
        clash1 : (c : ℕ) → Failed ≡ Half c → ⊥
        clash1 c e = cc

        clash2 : (c : ℕ) → Failed ≡ Whole c → ⊥
        clash2 c e = cc

        clash3 : (c : ℕ) → Failed ≡ Living c → ⊥
        clash3 c e = cc
