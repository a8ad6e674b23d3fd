-- A worker's walk.
use Rattle.std.proofs.Common.{◌≡◌, ℕ, zero, suc, ◌+◌, ◌*◌, ◌<◌, ◌≤◌, cond, Bool, true, false, ◌⊎◌, length, get_or, set, refl, sym, ap, ◌∙◌, subst, arith, inl, inr, ⊎_elim, eq-eqb, ne_eqb, get_or-set_same}
use mathlib.Core.Logic.{dite}
use native.Mathlib.Decide.{ℕ_discrete, dec_lt}
use lib.Seq.{set-get_or}
use Rattle.atomic_table.specs.Table.{Allows}
use Rattle.table_words.specs.Entries.{HasEntry}
use Rattle.table_words.specs.Layout.{OfBlock, Born, NameOf, HistoryOf, LinkOf, address}
use Rattle.table_words.specs.Places.{member_of, place_at, place_count}
use Rattle.table_words.specs.Views.{Worker, FirstHalf, At, Past, Views}
use Rattle.table_words.specs.Words.{Words, Node, node_of, words_at, member_name_word}
use Rattle.table_words.proofs.PlaceNumbers.{numbers_tell}
use Rattle.table_state.specs.Ghosts.{stands}
use Rattle.table_state.specs.Rule.{Lawful}
use Rattle.table_state.proofs.FoundAgain.{chained_stands}
use Rattle.table_state.proofs.KnownNames.{known_found}
use Rattle.table_state.proofs.TableLaws.{walk_sides, blocks_viewed}
use Rattle.table_steps.specs.Steps.{ByWorkTop, ByWorkEnds, ByWorkGoes, ByWorkFinds, ByWorkPasses}
use Rattle.table_steps.specs.WalkSteps.{WorkNext}
use Rattle.table_steps.proofs.StepsKeep.{next_named}
use Rattle.mesh_table.specs.declared.rule.Site.{Site}
use Rattle.mesh_table.specs.Sights.{Sight, nobody, seat_at, views_of, setup_at}
use Rattle.mesh_table.specs.Holds.{Holds, Sat}
use Rattle.mesh_table.specs.Told.{Ask, MayWalk, WalkTells, walk_told, walk_goes, born_told, name_told, moved, ended_walk, gone, passed, finding, arriving, topped}
use Rattle.mesh_table.proofs.Bridge.{St, after, stepped, unmoved, allows, in_work, contents_at}
use Rattle.mesh_table.proofs.Claiming.{link_head}

module _ (k : Site) (id i : ℕ) (me : Sat) where
  pub same_words : (s : St k) → words_at k.layout (set s.words i (get_or s.words i 0)) ≡ words_at k.layout s.words
  same_words s = ap (words_at k.layout) (set-get_or s.words i 0)

  -- a block to which the pass has gone is below the pool
  below : (s : St k) (n : ℕ) (u : Sight) → id < length s.views → Holds k (after k s i n id u) → (b : ℕ) → HasEntry u.work.went b → b < k.layout.pool
  below s n u l h b e = (blocks_viewed _ _ _ _ h.lawful id b).1 (subst (λ (x : Sight). HasEntry x.work.went b) (sym (get_or-set_same s.views id u nobody l)) e)

  pub notes_top : (x : ℕ) → x < k.layout.elements → me.0.kind ≡ Worker → me.0.work.half ≡ FirstHalf → (slots : ℕ) → Allows (Holds k) slots id me i (λ n. n) (moved (λ n v. topped (setup_at k) x v) me)
  notes_top x room works half slots = allows k slots id i (λ n. n) me (moved (λ n v. topped (setup_at k) x v) me) (λ s h l same _.
      let f = seat_at s.views in
      let w = words_at k.layout s.words in
      let u = topped (setup_at k) x (f id) in (
        u,
        stepped k s h i (get_or s.words i 0) id u w _ l (same_words s) (in_work f id u refl refl refl refl refl) (ByWorkTop (id, ap (λ (a : Sight). a.kind) same ∙ works, ap (λ (a : Sight). a.work.half) same ∙ half, x, room, refl)),
        (refl, ap (topped (setup_at k) x) same),
      ))

  module _ (q : Ask) (ei : i ≡ address k.layout (LinkOf (place_at k.layout q.place))) (room : q.place < place_count k.layout) (pool : q.value ≡ k.layout.pool) (may : MayWalk (setup_at k) me.0 q.place q.mate) where
    abbrev x : ℕ
    x = q.place

    abbrev c : ℕ
    c = q.mate

    go : (s : St k) (h : Holds k s) → id < length s.views → seat_at s.views id ≡ me.0 → (w : Words) → w ≡ words_at k.layout s.words → (l : Node) → l ≡ w.head x → node_of (get_or s.words i 0) ≡ l → (m : ℕ) → l.block ≡ m
        → (r : Sight) × Holds k (after k s i (get_or s.words i 0) id r) × walk_goes q me (get_or s.words i 0) (r, me.1)
    go s h l same w ew n en here zero none =
        let f = seat_at s.views in
        let can : MayWalk (setup_at k) (f id) x c = subst (λ (a : Sight). MayWalk (setup_at k) a x c) (sym same) may in
        let u = ended_walk (f id) c in
        let next : WorkNext (setup_at k) (words_at k.layout s.words) (f id).work x c n = inl (can.1, en ∙ ap (λ (a : Words). a.head x) ew) in (
          u,
          stepped k s h i (get_or s.words i 0) id u (words_at k.layout s.words) _ l (same_words s) (in_work f id u refl refl refl refl refl) (ByWorkEnds (id, can.0, x, c, n, next, inl none, refl)),
          (refl, subst (λ (a : Node). WalkTells me.0 x c q.value a u) (sym here) (inl (inl none, ap (λ (a : Sight). ended_walk a c) same))),
        )
    go s h l same w ew n en here (suc b) some =
        let f = seat_at s.views in
        let can : MayWalk (setup_at k) (f id) x c = subst (λ (a : Sight). MayWalk (setup_at k) a x c) (sym same) may in
        let next : WorkNext (setup_at k) (words_at k.layout s.words) (f id).work x c n = inl (can.1, en ∙ ap (λ (a : Words). a.head x) ew) in
        let is : n.block ≡ b + 1 = omega arith in
        let m = (next_named (setup_at k) (words_at k.layout s.words) (length s.views) (views_of f) h.lawful id x c b n is).0 can.0 next in
        let round : (f id).work.round ≡ me.0.work.round = ap (λ (a : Sight). a.work.round) same in
        let goes : (n.died ≡ 0) ⊎ ((f id).work.round ≤ n.died) → (r : Sight) × Holds k (after k s i (get_or s.words i 0) id r) × walk_goes q me (get_or s.words i 0) (r, me.1) = (λ how.
        let u = gone (f id) x c b m.0 in
        let held : Holds k (after k s i (get_or s.words i 0) id u) = stepped k s h i (get_or s.words i 0) id u (words_at k.layout s.words) _ l (same_words s) (in_work f id u refl refl refl refl refl) (ByWorkGoes (id, can.0, x, c, b, n, next, is, how, m.0, m.1, refl)) in
        let low = below s (get_or s.words i 0) u l held b (inl refl) in (
          u,
          held,
          (refl, subst (λ (a : Node). WalkTells me.0 x c q.value a u) (sym here) (inr (b, is, omega arith, ⊎_elim (λ z. inl z) (λ z. inr (omega arith)) how, (m.0, ap (λ (a : Sight). gone a x c b m.0) same)))),
        )) in
        dite (ℕ_discrete n.died 0)
        (λ z. goes (inl z))
        (λ o. elim (dec_lt n.died (f id).work.round) [
          | yes early ↦
              let u = ended_walk (f id) c in (
                u,
                stepped k s h i (get_or s.words i 0) id u (words_at k.layout s.words) _ l (same_words s) (in_work f id u refl refl refl refl refl) (ByWorkEnds (id, can.0, x, c, n, next, inr (omega arith, early), refl)),
                (refl, subst (λ (a : Node). WalkTells me.0 x c q.value a u) (sym here) (inl (inr (omega arith, omega arith), ap (λ (a : Sight). ended_walk a c) same))),
              )
          | no late ↦ goes (inr (omega arith))
        ])

    pub walks : (slots : ℕ) → Allows (Holds k) slots id me i (λ n. n) (walk_told q me)
    walks slots = allows k slots id i (λ n. n) me (walk_told q me) (λ s h l same _.
        let w = words_at k.layout s.words in
        let f = seat_at s.views in
        let here : w.head x ≡ node_of (get_or s.words i 0) = link_head k s h i x ei room in
        let can : MayWalk (setup_at k) (f id) x c = subst (λ (a : Sight). MayWalk (setup_at k) a x c) (sym same) may in
        let t = go s h l same w refl (w.head x) refl (sym here) (w.head x).block refl in (
          t.0,
          t.1,
          (
            refl,
            t.2.1,
            λ e.
                let p = (known_found (setup_at k) w (length s.views) (views_of f) h.lawful id x c can.0 (subst (λ (a : Sight). HasEntry a.work.known c) (sym same) e)).0 can.1 in
                ((let y : (node_of (get_or s.words i 0)).block ≡ p.0 + 1 = ap (λ (a : Node). a.block) (sym here ∙ p.1) in omega arith), ap (λ (a : Node). a.died) (sym here ∙ p.1)),
          ),
        ))

  module _ (b : ℕ) (room : b < k.layout.pool) where
    member_room : (t : Bool) → member_of b t < 2 * k.layout.pool
    member_room true = omega arith
    member_room false = omega arith

    pub looks_name : (q : Ask) → q.block ≡ b → i ≡ address k.layout (OfBlock b (NameOf q.second)) → (slots : ℕ) → Allows (Holds k) slots id me i (λ n. n) (name_told q me)
    looks_name q eb ei slots = allows k slots id i (λ n. n) me (name_told q me) (λ s h l same _.
        let n = get_or s.words i 0 in
        let w = words_at k.layout s.words in
        let here : w.name (member_of b q.second) ≡ n = contents_at k.layout s.words (2 * k.layout.pool) member_name_word (member_of b q.second) (member_room q.second) ∙ ap (λ (j : ℕ). get_or s.words j 0) (ap (address k.layout) (numbers_tell.names b q.second) ∙ sym ei) in (
          me.0,
          unmoved k s h i n id me.0 l refl (sym same),
          (
            refl,
            λ x c t e.
                let at : (seat_at s.views id).work.walk ≡ At x c b t = ap (λ (a : Sight). a.work.walk) same ∙ e ∙ ap (λ (d : ℕ). At x c d t) eb in
                let side = (walk_sides (setup_at k) w (length s.views) (views_of (seat_at s.views)) h.lawful id x c b t).0 at q.second in
                ((λ y. sym (side.0 (here ∙ y))), λ y. sym here ∙ side.1 (sym y)),
          ),
        ))

    module _ (x c : ℕ) (t : Bool) (works : me.0.kind ≡ Worker) where
      pub looks_born : me.0.work.half ≡ FirstHalf → me.0.work.walk ≡ At x c b t → i ≡ address k.layout (OfBlock b Born) → (slots : ℕ) → Allows (Holds k) slots id me i (λ n. n) (born_told (setup_at k) x c b t me)
      looks_born half at ei slots = allows k slots id i (λ n. n) me (born_told (setup_at k) x c b t me) (λ s h l same _.
          let f = seat_at s.views in
          let n = get_or s.words i 0 in
          let w = words_at k.layout s.words in
          let here : w.born b ≡ n = contents_at k.layout s.words k.layout.pool (λ a. OfBlock a Born) b room ∙ ap (λ (j : ℕ). get_or s.words j 0) (sym ei) in
          let kind : (f id).kind ≡ Worker = ap (λ (a : Sight). a.kind) same ∙ works in
          let walk : (f id).work.walk ≡ At x c b t = ap (λ (a : Sight). a.work.walk) same ∙ at in
          let born : HasEntry me.0.work.known c → 0 < n = (λ e. let p = ((known_found (setup_at k) w (length s.views) (views_of f) h.lawful id x c kind (subst (λ (a : Sight). HasEntry a.work.known c) (sym same) e)).1 b t walk).1 in omega arith) in
          dite (ℕ_discrete n 0)
          (λ z. (
            passed (f id) x c b t,
            stepped k s h i n id (passed (f id) x c b t) w _ l (same_words s) (in_work f id (passed (f id) x c b t) refl refl refl refl refl) (ByWorkPasses (id, kind, x, c, b, t, walk, inl (here ∙ z), (f id).work.grown, inl refl, refl)),
            (refl, ap (λ (a : Sight). passed a x c b t) same ∙ sym (ap (λ (y : Bool). cond y (passed me.0 x c b t) (finding (setup_at k) me.0 c b t)) (eq-eqb n 0 z)), born),
          ))
          (λ o. (
            finding (setup_at k) (f id) c b t,
            stepped k s h i n id (finding (setup_at k) (f id) c b t) w _ l (same_words s) (in_work f id (finding (setup_at k) (f id) c b t) refl refl refl refl refl)
                (ByWorkFinds (id, kind, ap (λ (a : Sight). a.work.half) same ∙ half, x, c, b, t, walk, omega arith, refl)),
            (refl, ap (λ (a : Sight). finding (setup_at k) a c b t) same ∙ sym (ap (λ (y : Bool). cond y (passed me.0 x c b t) (finding (setup_at k) me.0 c b t)) (ne_eqb n 0 o)), born),
          )))

      -- behind a block that a worker passes by there is none of its walk
      pub looks_past : me.0.work.walk ≡ Past x c b t → i ≡ address k.layout (OfBlock b (HistoryOf t)) → (slots : ℕ) → Allows (Holds k) slots id me i (λ n. n) (moved (λ n v. ended_walk v c) me)
      looks_past past ei slots = allows k slots id i (λ n. n) me (moved (λ n v. ended_walk v c) me) (λ s h l same _.
          let f = seat_at s.views in
          let n = get_or s.words i 0 in
          let w = words_at k.layout s.words in
          let r = h.lawful.1 in
          let kind : (f id).kind ≡ Worker = ap (λ (a : Sight). a.kind) same ∙ works in
          let walk : (f id).work.walk ≡ Past x c b t = ap (λ (a : Sight). a.work.walk) same ∙ past in
          let round = (r.walks id).at_work kind in
          let stood = stands_at (setup_at k) w (length s.views) (views_of f) h.lawful id walk in
          let older = r.chains.histories b t x stood in
          let stop : ((w.history (member_of b t)).block ≡ 0) ⊎ ((0 < (w.history (member_of b t)).died) × ((w.history (member_of b t)).died < (f id).work.round)) =
          ⊎_elim (λ e. inl (ap (λ (a : Node). a.block) e)) (λ d. let e : (w.history (member_of b t)).died ≡ w.died d.0 = ap (λ (a : Node). a.died) d.2 in let y = d.4 in let z = d.6 in inr (omega arith, omega arith)) older in
          let u = ended_walk (f id) c in (
            u,
            stepped k s h i n id u w _ l (same_words s) (in_work f id u refl refl refl refl refl) (ByWorkEnds (id, kind, x, c, w.history (member_of b t), inr (b, t, walk, refl), stop, refl)),
            (refl, ap (λ (a : Sight). ended_walk a c) same),
          ))
        where
          stands_at : (s : _) (w : Words) (n : ℕ) (v : Views) (h : Lawful s w n v) (j : ℕ) → (v.work j).walk ≡ Past x c b t → stands (h.0.life b) t ≡ x + 1
          stands_at s w n v h j e = chained_stands (h.0.life b) t x (subst (λ y. Rattle.table_state.specs.Work.WorkWalks s w.round v.ruling.phase w.name w.history w.born w.died h.0.life h.0.who (v.work j).went y) e (h.1.walks j).walk).1
