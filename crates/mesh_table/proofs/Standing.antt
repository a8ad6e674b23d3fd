-- A worker's walk in the second half, and what it finds of names that are not bisected.
use Rattle.std.proofs.Common.{◌≡◌, ℕ, zero, suc, ◌+◌, ◌-◌, ◌*◌, ◌<◌, ◌≤◌, ◌==◌, ltb, cond, Bool, true, false, ◌∷◌, ◌⊎◌, length, get_or, set, refl, sym, ap, ◌∙◌, subst, arith, inl, inr, ⊎_elim, eq-eqb, ne_eqb, lt-ltb, le-ltb}
use mathlib.Core.Logic.{dite}
use native.Mathlib.Decide.{ℕ_discrete, dec_lt}
use Rattle.atomic_table.specs.Table.{Allows}
use Rattle.table_words.specs.Entries.{HasEntry}
use Rattle.table_words.specs.Claims.{Half, Whole, Living}
use Rattle.table_words.specs.Layout.{OfBlock, Born, Died, NameOf, LinkOf, address}
use Rattle.table_words.specs.Places.{member_of, place_at, place_count}
use Rattle.table_words.specs.Setup.{Setup}
use Rattle.table_words.specs.Views.{Worker, SecondHalf, At, Views, Work, Plan, order}
use Rattle.table_words.specs.Functions.{update}
use Rattle.table_words.proofs.Functions.{update_same}
use Rattle.table_steps.specs.States.{state}
use Rattle.table_steps.proofs.SecondHalf.{gives}
use Rattle.table_words.specs.Words.{Words, Node, node, node_of, words_at, member_name_word}
use Rattle.table_words.proofs.PlaceNumbers.{numbers_tell}
use Rattle.table_state.specs.Bisections.{IsPlaceOf}
use Rattle.table_state.specs.Chains.{Covers, IsHead}
use Rattle.table_state.specs.Ghosts.{Ghost, Placed, chained}
use Rattle.table_state.specs.Rule.{Lawful, Rule}
use Rattle.table_state.proofs.FoundAgain.{placed, found_covers}
use Rattle.table_steps.proofs.WorkerWalks.{first_word, next_named}
use Rattle.table_steps.specs.Steps.{ByWorkHad, ByWorkPasses, ByWorkBoth, ByWorkDead, ByWorkOpen}
use Rattle.mesh_table.specs.declared.rule.Site.{Site}
use Rattle.mesh_table.specs.Sights.{Sight, seat_at, views_of, setup_at}
use Rattle.mesh_table.specs.Holds.{Holds, Sat}
use Rattle.mesh_table.specs.Told.{moved, passed}
use Rattle.mesh_table.specs.SecondHalf.{WorksLate, MayOpen, having, passed_grown, arriving_late, with_children, with_mate, mate_told, opened, saw_died, dying, dying_told}
use Rattle.mesh_table.proofs.Bridge.{St, after, stepped, seen, unmoved, allows, in_work, in_none, contents_at}
use Rattle.mesh_table.proofs.Claiming.{link_head}
use Rattle.mesh_table.proofs.Walking.{same_words}

-- at a place of a name that is not of the target
module _ (s : Setup) (w : Words) (n : ℕ) (v : Views) (g : Ghost) (r : Rule s w n v g) (j x k : ℕ) (kind : v.kind j ≡ Worker) (late : (v.work j).half ≡ SecondHalf) (stood : HasEntry (v.work j).stood (x, k)) (outside : HasEntry (v.work j).plan.target k → ⊥) where
  two : v.ruling.phase ≡ SecondHalf
  two = sym ((r.walks j).half kind) ∙ late

  -- no block bisects the name, at the last finished round or in the current round
  none_old : (b : ℕ) → g.who w.round k ≡ b + 1 → ⊥
  none_old b e = outside (subst (λ (p : Plan). HasEntry p.target k) (sym (r.plan.same j kind)) ((r.plan.aim (let z = two in omega (arith, ap order z)) (let z = two in omega (arith, ap order z))).olds k (b, e)))

  none_new : (b : ℕ) → g.who (w.round + 1) k ≡ b + 1 → ⊥
  none_new b e = outside (subst (λ (p : Plan). HasEntry p.target k) (sym (r.plan.same j kind)) (r.plan.within k (let z = two in omega (arith, ap order z)) (let z = two in omega (arith, ap order z)) (b, e)))

  -- there is no block that was not retired by the last finished round
  module _ (b : ℕ) (t : Bool) (ch : chained (g.life b) t ≡ x + 1) (named : w.name (member_of b t) ≡ k) (ends : (w.died b ≡ 0) ⊎ (w.died b ≡ w.round + 1)) where
    at : (y : ℕ) × (m : ℕ) × (g.life b ≡ Placed y m)
    at = placed (g.life b) t x ch

    not_half : (c : ℕ) → Half b ≡ Living c → ⊥
    not_half c e = cc

    not_whole : (c : ℕ) → Whole b ≡ Living c → ⊥
    not_whole c e = cc

    unborn : w.born b ≡ 0 → ⊥
    unborn z = let h = r.claims.half b at.0 at.1 at.2 z in ⊎_elim
        (λ e. let p = r.claims.living at.0 h.0 at.1 (Half b) e two in not_half p.0 p.1)
        (λ e. let p = r.claims.living at.0 h.0 at.1 (Whole b) e two in not_whole p.0 p.1) h.1

    born : 0 < w.born b
    born = elim (dec_lt 0 (w.born b)) [ yes l ↦ l | no o ↦ absurd (unborn (omega arith)) ]

    old : w.born b ≤ w.round → ⊥
    old low = none_old b (subst (λ (i : ℕ). g.who w.round i ≡ b + 1) named ((r.names.sound w.round (inl (inl refl)) b t x ch (born, low, ⊎_elim inl (λ e. inr (omega arith)) ends)).0))

    new : w.born b ≡ w.round + 1 → ⊥
    new e = none_new b (subst (λ (i : ℕ). g.who (w.round + 1) i ≡ b + 1) named ((r.names.sound (w.round + 1) (inr (refl, let z = two in omega (arith, ap order z))) b t x ch (born, omega arith, ⊎_elim inl (λ d. absurd (let l = (r.chains.dieds b at.0 at.1 at.2 (omega arith)).1 in omega arith)) ends)).0))

    neither : ⊥
    neither = elim (dec_lt w.round (w.born b)) [ yes l ↦ let m = r.chains.borns b in new (omega arith) | no o ↦ old (omega arith) ]

  -- so the LINK word names nothing, or has a retired round
  nothing_there : ((w.head x).block ≡ 0) ⊎ (0 < (w.head x).died)
  nothing_there = by ((first_word s w n v g r j kind x k (inr ((r.walks j).stood x k stood))).0)
    where
      by : IsHead w.round w.died g.life x (w.head x) → ((w.head x).block ≡ 0) ⊎ (0 < (w.head x).died)
      by (inl e) = inl (ap (λ (l : Node). l.block) e)
      by (inr o) = elim (dec_lt 0 (w.head x).died) [ yes l ↦ inr l | no z ↦ absurd (neither o.0 o.1 o.3 (next_named s w n v g r j kind x k (w.head x) (inl (inr (inl stood), refl)) o.0 o.1 o.2 o.3) (o.5 (omega arith))) ]

-- the second NAME word of a block of the last finished round for a first member
mate_named : (s : Setup) (w : Words) (n : ℕ) (v : Views) → Lawful s w n v → (j b k : ℕ) → v.kind j ≡ Worker → (v.work j).half ≡ SecondHalf → s.leads k ≡ true → HasEntry (v.work j).had (b, k) → w.name (member_of b true) ≡ s.mate k
mate_named s w n v (g, r) j b k kind late leads had =
    let u : Work = record (v.work j) { given = (b, k) ∷ (v.work j).given } in
    let t = ((gives s w n v g r j kind late b k leads had).works j).given b k (subst (λ (a : Work). HasEntry a.given (b, k)) (sym (update_same v.work j u)) (inl refl)) in
    let p = t.2 in (r.names.patch b p.0 p.1 p.2).1 ∙ ap s.mate t.1

module _ (s : Setup) (w : Words) (n : ℕ) (v : Views) (g : Ghost) (r : Rule s w n v g) (j b k : ℕ) (kind : v.kind j ≡ Worker) (late : (v.work j).half ≡ SecondHalf) (had : HasEntry (v.work j).had (b, k)) where
  half : v.ruling.phase ≡ SecondHalf
  half = sym ((r.walks j).half kind) ∙ late

  -- a name of the last finished round is of the target
  had_aimed : HasEntry (v.work j).plan.target k
  had_aimed = subst (λ (p : Plan). HasEntry p.target k) (sym (r.plan.same j kind)) ((r.plan.aim (let z = half in omega (arith, ap order z)) (let z = half in omega (arith, ap order z))).olds k (b, (r.walks j).had b k had))

  -- and where it is not bisected any more, its block is retired
  had_undead : w.died b ≡ 0 → HasEntry (v.work j).open_ k → ⊥
  had_undead z gone =
      let f = (r.names.fits w.round (inl (inl refl))).found k b ((r.walks j).had b k had) in
      let c = found_covers w.history w.born w.died g.life w.round f.1 b f.5.0 (w.head f.1) f.5.1 in
      let low = c.1 in
      let now = (r.names.sound (w.round + 1) (inr (refl, let e = half in omega (arith, ap order e))) b f.0 f.1 f.3 (c.0, omega arith, inl z)).0 in
      let here : g.who (w.round + 1) k ≡ b + 1 = subst (λ (i : ℕ). g.who (w.round + 1) i ≡ b + 1) f.2 now in
      let none = ((r.works j).open_ k gone).1 in
      omega arith

module _ (k : Site) (id i : ℕ) (me : Sat) (late : WorksLate me.0) where
  works : (s : St k) → seat_at s.views id ≡ me.0 → WorksLate (seat_at s.views id)
  works s same = subst WorksLate (sym same) late

  module _ (b : ℕ) (room : b < k.layout.pool) where
    -- BORN, in the second half
    pub looks_late : (x c : ℕ) (t : Bool) → me.0.work.walk ≡ At x c b t → i ≡ address k.layout (OfBlock b Born) → (slots : ℕ) → Allows (Holds k) slots id me i (λ n. n) (moved (λ n v. arriving_late (setup_at k) x c b t n v) me)
    looks_late x c t at ei slots = allows k slots id i (λ n. n) me (moved (λ n v. arriving_late (setup_at k) x c b t n v) me) (λ s h l same _.
        let f = seat_at s.views in
        let n = get_or s.words i 0 in
        let w = words_at k.layout s.words in
        let e = setup_at k in
        let here : w.born b ≡ n = contents_at k.layout s.words k.layout.pool (λ a. OfBlock a Born) b room ∙ ap (λ (j : ℕ). get_or s.words j 0) (sym ei) in
        let does = works s same in
        let walk : (f id).work.walk ≡ At x c b t = ap (λ (a : Sight). a.work.walk) same ∙ at in
        let round : (f id).work.round ≡ me.0.work.round = ap (λ (a : Sight). a.work.round) same in
        dite (ℕ_discrete n 0)
        (λ z. (
          passed (f id) x c b t,
          stepped k s h i n id (passed (f id) x c b t) w _ l (same_words k id i me s) (in_work f id (passed (f id) x c b t) refl refl refl refl refl) (ByWorkPasses (id, does.0, x, c, b, t, walk, inl (here ∙ z), (f id).work.grown, inl refl, refl)),
          (refl, ap (λ (a : Sight). passed a x c b t) same ∙ sym (ap (λ (y : Bool). cond y (passed me.0 x c b t) (cond (ltb n me.0.work.round) (having e me.0 c b t) (passed_grown e me.0 x c b t))) (eq-eqb n 0 z))),
        ))
        (λ o. elim (dec_lt n me.0.work.round) [
          | yes early ↦ (
            having e (f id) c b t,
            stepped k s h i n id (having e (f id) c b t) w _ l (same_words k id i me s) (in_work f id (having e (f id) c b t) refl refl refl refl refl) (ByWorkHad (id, does.0, x, c, b, t, walk, does.1, omega arith, omega arith, refl)),
            (refl, ap (λ (a : Sight). having e a c b t) same ∙ sym (ap (λ (y : Bool). cond y (passed me.0 x c b t) (cond (ltb n me.0.work.round) (having e me.0 c b t) (passed_grown e me.0 x c b t))) (ne_eqb n 0 o) ∙ ap (λ (y : Bool). cond y (having e me.0 c b t) (passed_grown e me.0 x c b t)) (lt-ltb n me.0.work.round early))),
          )
          | no so ↦ (
            passed_grown e (f id) x c b t,
            stepped k s h i n id (passed_grown e (f id) x c b t) w _ l (same_words k id i me s) (in_work f id (passed_grown e (f id) x c b t) refl refl refl refl refl)
                (ByWorkPasses (id, does.0, x, c, b, t, walk, inr (omega arith), with_children e b c t (f id).work.grown, inr (does.1, omega arith, refl), refl)),
            (refl, ap (λ (a : Sight). passed_grown e a x c b t) same ∙ sym (ap (λ (y : Bool). cond y (passed me.0 x c b t) (cond (ltb n me.0.work.round) (having e me.0 c b t) (passed_grown e me.0 x c b t))) (ne_eqb n 0 o) ∙ ap (λ (y : Bool). cond y (having e me.0 c b t) (passed_grown e me.0 x c b t)) (le-ltb n me.0.work.round (omega arith)))),
          )
        ]))

    member_room : (t : Bool) → member_of b t < 2 * k.layout.pool
    member_room true = omega arith
    member_room false = omega arith

    -- the second NAME word of a block that the last finished round has for a first member
    pub looks_mate : (c : ℕ) → (setup_at k).leads c ≡ true → HasEntry me.0.work.had (b, c) → i ≡ address k.layout (OfBlock b (NameOf true)) → (slots : ℕ) → Allows (Holds k) slots id me i (λ n. n) (mate_told (setup_at k) b c me)
    looks_mate c leads had ei slots = allows k slots id i (λ n. n) me (mate_told (setup_at k) b c me) (λ s h l same _.
        let f = seat_at s.views in
        let n = get_or s.words i 0 in
        let w = words_at k.layout s.words in
        let e = setup_at k in
        let does = works s same in
        let after_both : Sight → Sight = λ a. record a { work = record a.work { stood = with_children e b n true a.work.stood; had = (b, n) ∷ a.work.had } } in
        dite (ℕ_discrete n 0)
        (λ z. (me.0, unmoved k s h i n id me.0 l refl (sym same), (refl, sym (ap (λ (y : Bool). cond y me.0 (after_both me.0)) (eq-eqb n 0 z)), mate s h same)))
        (λ o.
        let u = after_both (f id) in
        let up : n ≡ (n - 1) + 1 = omega arith in (
          u,
          stepped k s h i n id u w _ l (same_words k id i me s) (in_work f id u refl refl refl refl refl)
              (ByWorkBoth (id, does.0, does.1, b, c, n - 1, true, subst (λ (a : Sight). HasEntry a.work.had (b, c)) (sym same) had, here s ∙ up, λ t. state w (length s.views) (record (views_of f) { work = update (views_of f).work id (record (f id).work { stood = with_children e b (up t) true (f id).work.stood; had = (b, up t) ∷ (f id).work.had }) }))),
          (refl, ap after_both same ∙ sym (ap (λ (y : Bool). cond y me.0 (after_both me.0)) (ne_eqb n 0 o)), mate s h same),
        )))
      where
        here : (s : St k) → (words_at k.layout s.words).name (member_of b true) ≡ get_or s.words i 0
        here s = contents_at k.layout s.words (2 * k.layout.pool) member_name_word (member_of b true) (member_room true) ∙ ap (λ (j : ℕ). get_or s.words j 0) (ap (address k.layout) (numbers_tell.names b true) ∙ sym ei)

        -- the law, of the view of the seat
        mate : (s : St k) → Holds k s → seat_at s.views id ≡ me.0 → get_or s.words i 0 ≡ (setup_at k).mate c
        mate s h same = let does = works s same in sym (here s) ∙ mate_named (setup_at k) (words_at k.layout s.words) (length s.views) (views_of (seat_at s.views)) h.lawful id b c does.0 does.1 leads (subst (λ (a : Sight). HasEntry a.work.had (b, c)) (sym same) had)

    -- DIED of such a block
    pub looks_dying : (c : ℕ) → HasEntry me.0.work.had (b, c) → i ≡ address k.layout (OfBlock b Died) → (slots : ℕ) → Allows (Holds k) slots id me i (λ n. n) (dying_told b c me)
    looks_dying c had ei slots = allows k slots id i (λ n. n) me (dying_told b c me) (λ s h l same _.
        let f = seat_at s.views in
        let n = get_or s.words i 0 in
        let w = words_at k.layout s.words in
        let here : w.died b ≡ n = contents_at k.layout s.words k.layout.pool (λ a. OfBlock a Died) b room ∙ ap (λ (j : ℕ). get_or s.words j 0) (sym ei) in
        let does = works s same in
        let law = h.lawful in
        let mine : HasEntry (f id).work.had (b, c) = subst (λ (a : Sight). HasEntry a.work.had (b, c)) (sym same) had in
        let aimed = subst (λ (a : Sight). HasEntry a.work.plan.target c) same (had_aimed (setup_at k) w (length s.views) (views_of f) law.0 law.1 id b c does.0 does.1 mine) in
        let undead = subst (λ (a : Sight). n ≡ 0 → HasEntry a.work.open_ c → ⊥) same (λ z. had_undead (setup_at k) w (length s.views) (views_of f) law.0 law.1 id b c does.0 does.1 mine (here ∙ z)) in
        dite (ℕ_discrete n 0)
        (λ z. let u = saw_died b n (f id) in (
          u,
          seen k s h i n id u l refl (in_none f id u refl refl refl refl refl refl),
          (refl, ap (saw_died b n) (same ∙ sym (ap (λ (y : Bool). cond y me.0 (opened c me.0)) (eq-eqb n 0 z))), aimed, undead),
        ))
        (λ o. let u = saw_died b n (opened c (f id)) in (
          u,
          stepped k s h i n id u w _ l (same_words k id i me s) (in_work f id u refl refl refl refl refl) (ByWorkDead (id, does.0, does.1, b, c, mine, omega arith, refl)),
          (refl, ap (λ (a : Sight). saw_died b n (opened c a)) same ∙ sym (ap (λ (y : Bool). saw_died b n (cond y me.0 (opened c me.0))) (ne_eqb n 0 o)), aimed, undead),
        )))

  -- the LINK word of a name that is not of the target
  pub opens_child : (x c : ℕ) → MayOpen me.0 x c → (slots : ℕ) → Allows (Holds k) slots id me i (λ n. n) (moved (λ n v. opened c v) me)
  opens_child x c may slots = allows k slots id i (λ n. n) me (moved (λ n v. opened c v) me) (λ s h l same _.
      let f = seat_at s.views in
      let n = get_or s.words i 0 in
      let w = words_at k.layout s.words in
      let can : MayOpen (f id) x c = subst (λ (a : Sight). MayOpen a x c) (sym same) may in
      let stop = nothing_there (setup_at k) w (length s.views) (views_of f) h.lawful.0 h.lawful.1 id x c can.works.0 can.works.1 can.stood can.outside in
      let u = opened c (f id) in (
        u,
        stepped k s h i n id u w _ l (same_words k id i me s) (in_work f id u refl refl refl refl refl)
            (ByWorkOpen (id, can.works.0, can.works.1, x, c, inl can.stood, c ∷ (f id).work.open_, (f id).work.grown, inl (stop, refl, refl), refl)),
        (refl, ap (opened c) same),
      ))
