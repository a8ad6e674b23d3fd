-- A reader's walk at its pin.
use Rattle.std.proofs.Common.{◌≡◌, ℕ, zero, suc, ◌+◌, ◌*◌, ◌<◌, ltb, ◌&&◌, cond, Bool, true, false, ◌⊎◌, length, get_or, refl, sym, ap, ◌∙◌, subst, arith, inl, inr, ⊎_elim, ltb-true, lt-ltb, get_or-set_same}
use mathlib.Core.Logic.{dite}
use native.Mathlib.Decide.{ℕ_discrete, dec_lt}
use Rattle.atomic_table.specs.Table.{Allows}
use Rattle.table_words.specs.Entries.{HasEntry}
use Rattle.table_words.specs.Layout.{OfBlock, Born, NameOf, HistoryOf, LinkOf, address}
use Rattle.table_words.specs.Places.{member_of, place_at, place_count}
use Rattle.table_words.specs.Views.{Reader, At, Past}
use Rattle.table_words.specs.Words.{Node, node_of, words_at, history_word, member_name_word}
use Rattle.table_words.proofs.PlaceNumbers.{numbers_tell}
use Rattle.table_state.specs.Ghosts.{stands}
use Rattle.table_state.specs.Readers.{Walks}
use Rattle.table_state.proofs.TableLaws.{walk_sides, blocks_viewed}
use Rattle.table_steps.specs.Steps.{ByReadEnds, ByReadGoes, ByReadFinds, ByReadPasses}
use Rattle.table_steps.specs.WalkSteps.{ReadNext}
use Rattle.table_steps.proofs.StepsKeep.{next_named}
use Rattle.mesh_table.specs.declared.rule.Site.{Site}
use Rattle.mesh_table.specs.Sights.{Sight, nobody, seat_at, views_of, setup_at}
use Rattle.mesh_table.specs.Holds.{Holds, Sat}
use Rattle.mesh_table.specs.Told.{Ask, MayRead, ReadTells, read_told, on_told, read_name_told, moved, ended_read, gone_read, passed_read, finding_read, arriving_read}
use Rattle.mesh_table.proofs.Bridge.{St, after, stepped, unmoved, allows, in_read, contents_at}
use Rattle.mesh_table.proofs.Claiming.{link_head}
use Rattle.mesh_table.proofs.Walking.{same_words}

module _ (k : Site) (id i : ℕ) (me : Sat) where
  -- a block to which the pass has gone is below the pool
  low : (s : St k) (n : ℕ) (u : Sight) → id < length s.views → Holds k (after k s i n id u) → (q b : ℕ) → u.read.pin ≡ q + 1 → HasEntry u.read.went b → b < k.layout.pool
  low s n u l h q b p e = let at = get_or-set_same s.views id u nobody l in
      (blocks_viewed _ _ _ _ h.lawful id b).5 q (ap (λ (x : Sight). x.read.pin) at ∙ p) (subst (λ (x : Sight). HasEntry x.read.went b) (sym at) e)

  module _ (x c q : ℕ) (reads : me.0.kind ≡ Reader) (pinned : me.0.read.pin ≡ q + 1) where
    -- from the word that the walk loads next
    go : (s : St k) (h : Holds k s) → id < length s.views → seat_at s.views id ≡ me.0 → (l : Node) → ReadNext (setup_at k) (words_at k.layout s.words) (seat_at s.views id).read x c l → (m : ℕ) → l.block ≡ m
        → (r : Sight) × Holds k (after k s i (get_or s.words i 0) id r) × ReadTells me.0 x c q k.layout.pool l r
    go s h l same n next zero none =
        let f = seat_at s.views in
        let kind : (f id).kind ≡ Reader = ap (λ (a : Sight). a.kind) same ∙ reads in
        let pin : (f id).read.pin ≡ q + 1 = ap (λ (a : Sight). a.read.pin) same ∙ pinned in
        let u = ended_read (f id) c q in (
          u,
          stepped k s h i (get_or s.words i 0) id u (words_at k.layout s.words) _ l (same_words k id i me s) (in_read f id u refl refl refl refl refl) (ByReadEnds (id, q, kind, pin, x, c, n, next, inl none, refl)),
          inl (inl none, ap (λ (a : Sight). ended_read a c q) same),
        )
    go s h l same n next (suc b) some =
        let f = seat_at s.views in
        let kind : (f id).kind ≡ Reader = ap (λ (a : Sight). a.kind) same ∙ reads in
        let pin : (f id).read.pin ≡ q + 1 = ap (λ (a : Sight). a.read.pin) same ∙ pinned in
        let is : n.block ≡ b + 1 = omega arith in
        let m = (next_named (setup_at k) (words_at k.layout s.words) (length s.views) (views_of f) h.lawful id x c b n is).1 q kind pin next in
        let goes : (n.died ≡ 0) ⊎ (q < n.died) → (r : Sight) × Holds k (after k s i (get_or s.words i 0) id r) × ReadTells me.0 x c q k.layout.pool n r = (λ how.
        let u = gone_read (f id) x c b m.0 n.died in
        let held : Holds k (after k s i (get_or s.words i 0) id u) = stepped k s h i (get_or s.words i 0) id u (words_at k.layout s.words) _ l (same_words k id i me s) (in_read f id u refl refl refl refl refl) (ByReadGoes (id, q, kind, pin, x, c, b, n, next, is, how, m.0, m.1, refl)) in (
          u,
          held,
          inr (b, is, low s (get_or s.words i 0) u l held q b pin (inl refl), how, (m.0, ap (λ (a : Sight). gone_read a x c b m.0 n.died) same)),
        )) in
        dite (ℕ_discrete n.died 0)
        (λ z. goes (inl z))
        (λ o. elim (dec_lt q n.died) [
          | yes late ↦ goes (inr late)
          | no early ↦
              let u = ended_read (f id) c q in (
                u,
                stepped k s h i (get_or s.words i 0) id u (words_at k.layout s.words) _ l (same_words k id i me s) (in_read f id u refl refl refl refl refl) (ByReadEnds (id, q, kind, pin, x, c, n, next, inr (omega arith, omega arith), refl)),
                inl (inr (omega arith, omega arith), ap (λ (a : Sight). ended_read a c q) same),
              )
        ])

  module _ (q : Ask) (ei : i ≡ address k.layout (LinkOf (place_at k.layout q.place))) (room : q.place < place_count k.layout) (pool : q.value ≡ k.layout.pool) (may : MayRead (setup_at k) me.0 q.place q.mate q.block) where
    pub reads_link : (slots : ℕ) → Allows (Holds k) slots id me i (λ n. n) (read_told q me)
    reads_link slots = allows k slots id i (λ n. n) me (read_told q me) (λ s h l same _.
        let w = words_at k.layout s.words in
        let can : MayRead (setup_at k) (seat_at s.views id) q.place q.mate q.block = subst (λ (a : Sight). MayRead (setup_at k) a q.place q.mate q.block) (sym same) may in
        let t = go q.place q.mate q.block may.0 may.1 s h l same (w.head q.place) (inl (can.2, refl)) (w.head q.place).block refl in
        (t.0, t.1, (refl, subst (λ (a : ℕ × Node). ReadTells me.0 q.place q.mate q.block a.0 a.1 t.0) (λ z. (sym pool z, link_head k s h i q.place ei room z)) t.2)))

  module _ (b : ℕ) (room : b < k.layout.pool) where
    member_room : (t : Bool) → member_of b t < 2 * k.layout.pool
    member_room true = omega arith
    member_room false = omega arith

    pub reads_name : (q : Ask) → q.block ≡ b → i ≡ address k.layout (OfBlock b (NameOf q.second)) → (slots : ℕ) → Allows (Holds k) slots id me i (λ n. n) (read_name_told q me)
    reads_name q eb ei slots = allows k slots id i (λ n. n) me (read_name_told q me) (λ s h l same _.
        let n = get_or s.words i 0 in
        let w = words_at k.layout s.words in
        let here : w.name (member_of b q.second) ≡ n = contents_at k.layout s.words (2 * k.layout.pool) member_name_word (member_of b q.second) (member_room q.second) ∙ ap (λ (j : ℕ). get_or s.words j 0) (ap (address k.layout) (numbers_tell.names b q.second) ∙ sym ei) in (
          me.0,
          unmoved k s h i n id me.0 l refl (sym same),
          (
            refl,
            λ x c p t pin e.
                let at : (seat_at s.views id).read.walk ≡ At x c b t = ap (λ (a : Sight). a.read.walk) same ∙ e ∙ ap (λ (d : ℕ). At x c d t) eb in
                let side = (walk_sides (setup_at k) w (length s.views) (views_of (seat_at s.views)) h.lawful id x c b t).1 p (ap (λ (a : Sight). a.read.pin) same ∙ pin) at q.second in
                ((λ y. sym (side.0 (here ∙ y))), λ y. sym here ∙ side.1 (sym y)),
          ),
        ))

    module _ (x c q : ℕ) (t : Bool) (reads : me.0.kind ≡ Reader) (pinned : me.0.read.pin ≡ q + 1) where
      pub reads_born : me.0.read.walk ≡ At x c b t → i ≡ address k.layout (OfBlock b Born) → (slots : ℕ) → Allows (Holds k) slots id me i (λ n. n) (moved (λ n v. arriving_read (setup_at k) x c b t q n v) me)
      reads_born at ei slots = allows k slots id i (λ n. n) me (moved (λ n v. arriving_read (setup_at k) x c b t q n v) me) (λ s h l same _. by s h l same (ltb 0 (get_or s.words i 0)) refl (ltb (get_or s.words i 0) (q + 1)) refl)
        where
          passes : (s : St k) → Holds k s → id < length s.views → seat_at s.views id ≡ me.0 → (get_or s.words i 0 ≡ 0) ⊎ (q < get_or s.words i 0) → (ltb 0 (get_or s.words i 0) && ltb (get_or s.words i 0) (q + 1)) ≡ false
              → (r : Sight) × Holds k (after k s i (get_or s.words i 0) id r) × moved (λ n v. arriving_read (setup_at k) x c b t q n v) me (get_or s.words i 0) (r, me.1)
          passes s h l same how is =
              let f = seat_at s.views in
              let n = get_or s.words i 0 in
              let w = words_at k.layout s.words in
              let here : w.born b ≡ n = contents_at k.layout s.words k.layout.pool (λ a. OfBlock a Born) b room ∙ ap (λ (j : ℕ). get_or s.words j 0) (sym ei) in (
                passed_read (f id) x c b t,
                stepped k s h i n id (passed_read (f id) x c b t) w _ l (same_words k id i me s) (in_read f id (passed_read (f id) x c b t) refl refl refl refl refl)
                    (ByReadPasses (id, q, ap (λ (a : Sight). a.kind) same ∙ reads, ap (λ (a : Sight). a.read.pin) same ∙ pinned, x, c, b, t, ap (λ (a : Sight). a.read.walk) same ∙ at, ⊎_elim (λ z. inl (here ∙ z)) (λ z. inr (omega arith)) how, refl)),
                (refl, ap (λ (a : Sight). passed_read a x c b t) same ∙ sym (ap (λ (y : Bool). cond y (finding_read (setup_at k) me.0 c b t q) (passed_read me.0 x c b t)) is)),
              )

          by : (s : St k) → Holds k s → id < length s.views → seat_at s.views id ≡ me.0 → (y : Bool) → ltb 0 (get_or s.words i 0) ≡ y → (z : Bool) → ltb (get_or s.words i 0) (q + 1) ≡ z
              → (r : Sight) × Holds k (after k s i (get_or s.words i 0) id r) × moved (λ n v. arriving_read (setup_at k) x c b t q n v) me (get_or s.words i 0) (r, me.1)
          by s h l same false e z g = passes s h l same (dite (ℕ_discrete (get_or s.words i 0) 0) inl (λ o. let d : ltb 0 (get_or s.words i 0) ≡ true = lt-ltb 0 (get_or s.words i 0) (omega arith) in absurd (clash (sym e ∙ d)))) (ap (λ (y : Bool). y && ltb (get_or s.words i 0) (q + 1)) e)
            where
              clash : false ≡ true → ⊥
              clash e = cc
          by s h l same true e false g = passes s h l same (inr (elim (dec_lt (get_or s.words i 0) (q + 1)) [ yes m ↦ absurd (clash (sym g ∙ lt-ltb (get_or s.words i 0) (q + 1) m)) | no m ↦ omega arith ])) ((λ t. e t && g t))
            where
              clash : false ≡ true → ⊥
              clash e = cc
          by s h l same true e true g =
              let f = seat_at s.views in
              let n = get_or s.words i 0 in
              let w = words_at k.layout s.words in
              let here : w.born b ≡ n = contents_at k.layout s.words k.layout.pool (λ a. OfBlock a Born) b room ∙ ap (λ (j : ℕ). get_or s.words j 0) (sym ei) in
              let some = ltb-true 0 n e in let late = ltb-true n (q + 1) g in (
                finding_read (setup_at k) (f id) c b t q,
                stepped k s h i n id (finding_read (setup_at k) (f id) c b t q) w _ l (same_words k id i me s) (in_read f id (finding_read (setup_at k) (f id) c b t q) refl refl refl refl refl)
                    (ByReadFinds (id, q, ap (λ (a : Sight). a.kind) same ∙ reads, ap (λ (a : Sight). a.read.pin) same ∙ pinned, x, c, b, t, ap (λ (a : Sight). a.read.walk) same ∙ at, omega arith, omega arith, refl)),
                (refl, ap (λ (a : Sight). finding_read (setup_at k) a c b t q) same ∙ sym (ap (λ (y : Bool). cond y (finding_read (setup_at k) me.0 c b t q) (passed_read me.0 x c b t)) (λ t. e t && g t))),
              )

      pub reads_on : (a : Ask) → a.place ≡ x → a.mate ≡ c → a.block ≡ q → a.value ≡ k.layout.pool → me.0.read.walk ≡ Past x c b t → i ≡ address k.layout (OfBlock b (HistoryOf t)) → (slots : ℕ) → Allows (Holds k) slots id me i (λ n. n) (on_told a me)
      reads_on a ax ac aq av past ei slots = allows k slots id i (λ n. n) me (on_told a me) (λ s h l same _.
          let f = seat_at s.views in
          let n = get_or s.words i 0 in
          let w = words_at k.layout s.words in
          let r = h.lawful.1 in
          let pin : (f id).read.pin ≡ q + 1 = ap (λ (y : Sight). y.read.pin) same ∙ pinned in
          let walk : (f id).read.walk ≡ Past x c b t = ap (λ (y : Sight). y.read.walk) same ∙ past in
          let here : w.history (member_of b t) ≡ node_of n = ap node_of (contents_at k.layout s.words (2 * k.layout.pool) history_word (member_of b t) (member_room t) ∙ ap (λ (j : ℕ). get_or s.words j 0) (ap (address k.layout) (numbers_tell.histories b t) ∙ sym ei)) in
          let g = go x c q reads pinned s h l same (w.history (member_of b t)) (inr (b, t, walk, refl)) (w.history (member_of b t)).block refl in
          let stood : stands (h.lawful.0.life b) t ≡ x + 1 = (subst (λ y. Walks (setup_at k) w.name w.history w.born w.died h.lawful.0.life (h.lawful.0.who q) q (f id).read.went y) walk ((r.goes id).walk q pin)).1 in
          let back : (f id).read.back ≡ me.0.read.back = ap (λ (y : Sight). y.read.back) same in
          let falls : ((w.history (member_of b t)).block ≡ 0) ⊎ ((0 < (w.history (member_of b t)).died) × (0 < me.0.read.back → (w.history (member_of b t)).died < me.0.read.back)) =
          ⊎_elim (λ e. inl (ap (λ (y : Node). y.block) e)) (λ d. inr ((let e : (w.history (member_of b t)).died ≡ w.died d.0 = ap (λ (y : Node). y.died) d.2 in let y = d.4 in omega arith), λ o. let y = (r.goes id).dated q x c b t pin (inr walk) (omega arith) in omega arith)) (r.chains.histories b t x stood) in (
            g.0,
            g.1,
            (
              refl,
              subst (λ (y : ℕ × ℕ × ℕ × ℕ × Node). ReadTells me.0 y.0 y.1 y.2 y.3 y.4 g.0) (λ z. (sym ax z, sym ac z, sym aq z, sym av z, here z)) g.2,
              subst (λ (y : Node). (y.block ≡ 0) ⊎ ((0 < y.died) × (0 < me.0.read.back → y.died < me.0.read.back))) here falls,
            ),
          ))
