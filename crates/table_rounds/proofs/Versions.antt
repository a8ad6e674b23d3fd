-- What the owner's loads before a round tell of the versions that stand at a place.
use Rattle.std.proofs.Common.{◌≡◌, ℕ, ◌+◌, ◌*◌, ◌<◌, ◌≤◌, Bool, true, false, ◌⊎◌, ◌∷◌, inl, inr, ⊎_elim, length, get_or, refl, sym, ap, ◌∙◌, subst, arith}
use mathlib.Core.Logic.{dite}
use native.Mathlib.Decide.{ℕ_discrete, dec_lt}
use Rattle.atomic_table.specs.Table.{Allows}
use Rattle.table_words.specs.Claims.{Progress}
use Rattle.table_words.specs.Entries.{HasEntry, Noted}
use Rattle.table_words.specs.Functions.{update}
use Rattle.table_words.specs.Layout.{OfBlock, Died, HistoryOf, LinkOf, address}
use Rattle.table_words.specs.Places.{member_of, place_at, place_count, child_place}
use Rattle.table_words.specs.Setup.{Setup}
use Rattle.table_words.specs.Views.{Owner, Resting, Views, Owned}
use Rattle.table_words.specs.Words.{Node, Words, node, node_of, words_at, history_word}
use Rattle.table_words.proofs.Functions.{update_is, update_same, update_other}
use Rattle.table_words.proofs.PlaceNumbers.{numbers_tell}
use Rattle.table_state.specs.Ghosts.{Held, Life, Placed, RolledBack, Ghost, chained, stands}
use Rattle.table_state.specs.Chains.{IsPlace}
use Rattle.table_state.specs.Rule.{Rule}
use Rattle.table_state.proofs.FoundAgain.{placed, chained_stands, placed_chained}
use Rattle.table_state.proofs.HeldClaims.{not_open}
use Rattle.table_state.proofs.Inside.{below_pool, not_free}
use Rattle.table_state.proofs.OwnerLaws.{noted_kinds, noted_stands}
use Rattle.table_state.proofs.SeatLaws.{link_words}
use Rattle.table_steps.specs.Steps.{ByLoadHead, ByLoadHistory, ByLoadDied}
use Rattle.table_steps.specs.States.{state}
use Rattle.table_steps.proofs.StepsKeep.{steps_keep}
use Rattle.mesh_table.specs.declared.rule.Site.{Site}
use Rattle.mesh_table.specs.Sights.{Sight, seat_at, views_of, setup_at}
use Rattle.mesh_table.specs.Holds.{Holds, Sat}
use Rattle.mesh_table.specs.Told.{noted_head, noted_history, noted_died}
use Rattle.mesh_table.proofs.Bridge.{in_owned, contents_at}
use Rattle.mesh_table.proofs.Claiming.{link_head}
use Rattle.mesh_table.proofs.Owning.{owner_acts, by_step, kept_words}
use Rattle.table_rounds.specs.Patches.{StandsAt}
use Rattle.table_rounds.specs.Versions.{IsRooted, NotesMore, LeadsTo, NamesLiving, TwoPlaces, Falls, version_told, older_told, last_told}

-- a second change at a place leaves nothing of the first
twice : {A : Type 0} (f : ℕ → A) (i : ℕ) (a b : A) → update (update f i a) i b ≡ update f i b
twice f i a b = update_is f (update (update f i a) i b) i b (update_same (update f i a) i b) (λ j o. update_other (update f i a) i j b o ∙ update_other f i j a o)

-- notes of words' contents
more_head : (v : Sight) (x : ℕ) (l : Node) → ((k : Node) → Noted v.owned.head x k → l ≡ k) → NotesMore v (noted_head v x l)
more_head v x l again = record {
  same = refl;
  heads = λ y k h. dite (ℕ_discrete x y) (λ e. inl (e, again k (subst (λ (z : ℕ). Noted v.owned.head z k) (sym e) h))) (λ o. inr (o, h));
  histories = λ h k e. e;
  dieds = λ b n e. e;
}

more_history : (v : Sight) (x : ℕ) (l : Node) → ((k : Node) → Noted v.owned.history x k → l ≡ k) → NotesMore v (noted_history v x l)
more_history v x l again = record {
  same = refl;
  heads = λ y k e. e;
  histories = λ y k h. dite (ℕ_discrete x y) (λ e. inl (e, again k (subst (λ (z : ℕ). Noted v.owned.history z k) (sym e) h))) (λ o. inr (o, h));
  dieds = λ b n e. e;
}

more_died : (v : Sight) (x n : ℕ) → ((k : ℕ) → Noted v.owned.died x k → n ≡ k) → NotesMore v (noted_died v x n)
more_died v x n again = record {
  same = refl;
  heads = λ y k e. e;
  histories = λ h k e. e;
  dieds = λ y k h. dite (ℕ_discrete x y) (λ e. inl (e, again k (subst (λ (z : ℕ). Noted v.owned.died z k) (sym e) h))) (λ o. inr (o, h));
}

pub more_on : (u v w : Sight) → NotesMore u v → NotesMore v w → NotesMore u w
more_on u v w a b = record {
  same = b.same ∙ (λ t. record (a.same t) { owned = w.owned });
  heads = λ x l h. b.heads x l (a.heads x l h);
  histories = λ x l h. b.histories x l (a.histories x l h);
  dieds = λ x l h. b.dieds x l (a.dieds x l h);
}

placed_or_back : (x m y k : ℕ) → Placed x m ≡ RolledBack y k → ⊥
placed_or_back x m y k e = cc

-- the state before a round
module _ (s : Setup) (w : Words) (n : ℕ) (v : Views) (g : Ghost) (r : Rule s w n v g) (z : v.ruling.phase ≡ Resting) where
  home : v.ruling.workers ≡ 0
  home = r.rules.halves (λ e. cc) (λ e. cc)

  open_ : (x j m : ℕ) (p : Progress) → g.stage x ≡ Held j m p → ⊥
  open_ x j m p h = not_open j m p (sym h ∙ r.claims.none x z)

  noted : (b y m : ℕ) → g.life b ≡ Placed y m → HasEntry v.ruling.placed (b, y, m)
  noted b y m u = ⊎_elim (λ h. h) (λ h. absurd (open_ y h.0 m h.1 h.2)) (r.known.noted b y m u)

  fair : (b y m : ℕ) → g.life b ≡ Placed y m → HasEntry v.ruling.rolled_back b → ⊥
  fair b y m u h = let t = r.note.rolled_back b h in placed_or_back y m t.0 t.1 (sym u ∙ t.2)

  rooted_place : (e : ℕ) → (x : ℕ) → (x < e) ⊎ ((p a i : ℕ) × (t c : Bool) × (x ≡ child_place e p t c) × HasEntry v.ruling.placed (p, a, i)) → IsPlace e g.life x
  rooted_place e x (inl l) = inl l
  rooted_place e x (inr t) = inr (t.0, t.3, t.4, t.1, t.5, noted_stands s w n v g r t.0 t.1 t.2 false t.1 t.6 refl)

  -- a block in the chain of a place
  in_chain : (b x : ℕ) (t : Bool) → chained (g.life b) t ≡ x + 1 → (b < s.pool) × ((y m : ℕ) × (u : Bool) × HasEntry v.ruling.placed (b, y, m) × (chained (Placed y m) u ≡ x + 1)) × (HasEntry v.ruling.rolled_back b → ⊥)
      × (0 < w.died b → HasEntry v.ruling.kept b × (w.died b ≤ v.ruling.finished)) × (w.died b ≡ 0 → HasEntry v.ruling.kept b → ⊥)
  in_chain b x t c = let p = placed (g.life b) t x c in let late = r.names.calm b p.0 p.1 ((λ e. cc), λ e. cc) p.2 in let fin = r.stock.finished in (
    below_pool s w.free w.row g.life g.stage v.ruling.hand v.ruling.retired r.inside b (not_free (g.life b) t x (chained_stands (g.life b) t x c)),
    (p.0, p.1, t, noted b p.0 p.1 p.2, sym (ap (λ (l : Life). chained l t) p.2) ∙ c),
    fair b p.0 p.1 p.2,
    (λ l. (r.kept.all b p.0 p.1 p.2 l late, omega arith)),
    λ e h. let k = (r.kept.right b h).3 in omega arith,
  )

  -- the retired round in a LINK word is that of the block
  head_died : (b x y m : ℕ) → g.life b ≡ Placed y m → (0 < (w.head x).died → (w.head x).died ≡ w.died b) → ((w.head x).died ≡ 0 → (w.died b ≡ 0) ⊎ (w.died b ≡ w.round + 1)) → w.died b ≡ (w.head x).died
  head_died b x y m u some_ none = let late = r.names.calm b y m ((λ e. cc), λ e. cc) u in
      elim (dec_lt 0 (w.head x).died) [ yes l ↦ sym (some_ l) | no o ↦ (let e : (w.head x).died ≡ 0 = omega arith in ⊎_elim (λ a. a ∙ sym e) (λ a. absurd (omega arith)) (none e)) ]

  living_named : (x : ℕ) → IsPlace s.elements g.life x → (b y m : ℕ) (t : Bool) → HasEntry v.ruling.placed (b, y, m) → stands (Placed y m) t ≡ x + 1 → HasEntry v.ruling.kept b ⊎ HasEntry v.ruling.rolled_back b ⊎ (((w.head x).block ≡ b + 1) × ((w.head x).died ≡ 0))
  living_named x place b y m t h st = ⊎_elim
      (λ a. let e = a.2 t x st in let l = (link_words s w n v (g, r) x b place e).1 in let zero_ = a.1 in
      inr (inr (e, elim (dec_lt 0 (w.head x).died) [ yes q ↦ (let f = (l q).0 in absurd (omega arith)) | no o ↦ omega arith ])))
      (λ a. ⊎_elim inl (λ k. inr (inl k)) a) (noted_kinds s w n v (g, r) b y m z h)

  two_places : (b y m x : ℕ) (t u : Bool) → HasEntry v.ruling.placed (b, y, m) → stands (Placed y m) t ≡ x + 1 → stands (Placed y m) u ≡ x + 1 → t ≡ u
  two_places b y m x t u h p q = r.chains.sides b t u x (noted_stands s w n v g r b y m t x h p) (noted_stands s w n v g r b y m u x h q)

module _ (k : Site) (id i : ℕ) (me : Sat) (rules : me.0.kind ≡ Owner) where
  pub looks_version : (x : ℕ) → i ≡ address k.layout (LinkOf (place_at k.layout x)) → x < place_count k.layout → me.0.ruling.phase ≡ Resting → IsRooted k.layout.elements me.0 x → (slots : ℕ) → Allows (Holds k) slots id me i (λ n. n) (version_told k.layout.pool x me)
  looks_version x ei room rests rooted slots = owner_acts k id i me rules slots (λ n. n) (version_told k.layout.pool x me) (λ s h same _.
      let f = seat_at s.views in
      let w = words_at k.layout s.words in
      let v = views_of f in
      let g = h.lawful.0 in
      let r = h.lawful.1 in
      let l = node_of (get_or s.words i 0) in
      let here : w.head x ≡ l = link_head k s h i x ei room in
      let rest : v.ruling.phase ≡ Resting = ap (λ (z : Sight). z.ruling.phase) same ∙ rests in
      let place : IsPlace k.layout.elements g.life x = rooted_place (setup_at k) w (length s.views) v g r rest k.layout.elements x (subst (λ (z : Sight). IsRooted k.layout.elements z x) (sym same) rooted) in
      let at_home = home (setup_at k) w (length s.views) v g r rest in
      let u : Sight = noted_head (f 0) x (w.head x) in
      let one : Views = record v { owned = update v.owned 0 u.owned } in
      let law = by_step k id i me rules s h w one (ByLoadHead (0, x, refl)) in
      let more : NotesMore me.0 u = subst (λ (z : Sight). NotesMore z u) same (more_head (f 0) x (w.head x) (λ o e. (r.owned 0).head_is x o e (inl (refl, at_home)))) in
      let named : NamesLiving (f 0) x l = subst (NamesLiving (f 0) x) here (living_named (setup_at k) w (length s.views) v g r rest x place) in
      let two : TwoPlaces (f 0) = two_places (setup_at k) w (length s.views) v g r rest in
      ⊎_elim
      (λ e. (u, w, one, kept_words k id i me rules s, in_owned f 0 u refl refl refl refl refl, law, (refl, more, inl (refl, here), inl (sym here ∙ e), named, two)))
      (λ t.
      let b = t.0 in
      let c = in_chain (setup_at k) w (length s.views) v g r rest b x t.1 t.3 in
      let p = placed (g.life b) t.1 x t.3 in
      let died : w.died b ≡ l.died = head_died (setup_at k) w (length s.views) v g r rest b x p.0 p.1 p.2 t.4 t.5 ∙ ap (λ (o : Node). o.died) here in
      let u2 : Sight = noted_died u b (w.died b) in
      let two_ : Views = record v { owned = update one.owned 0 u2.owned } in
      let more2 : NotesMore u u2 = more_died u b (w.died b) (λ o e. (r.owned 0).died_is b o e (inl (refl, at_home))) in (
        u2,
        w,
        two_,
        kept_words k id i me rules s,
        in_owned f 0 u2 refl refl refl refl refl ∙ (λ q. record v { owned = sym (twice v.owned 0 u.owned u2.owned) q }),
        steps_keep (setup_at k) (state w (length s.views) one) (state w (length s.views) two_) (ByLoadDied (0, b, refl)) law,
        (
          refl,
          more_on me.0 u u2 more more2,
          inl (refl, here),
          inr (b, sym (ap (λ (o : Node). o.block) here) ∙ t.2, c.0, c.1, c.2, inl (refl, died), (λ d. let y = c.3 (let a = died in omega arith) in (y.0, let a = died in let q = y.1 in omega arith)), λ d. c.4 (died ∙ d)),
          named,
          two,
        ),
      ))
      (r.chains.heads x place))

  pub looks_older : (b : ℕ) (t : Bool) (x : ℕ) → i ≡ address k.layout (OfBlock b (HistoryOf t)) → b < k.layout.pool → me.0.ruling.phase ≡ Resting → ((y m : ℕ) × HasEntry me.0.ruling.placed (b, y, m) × (stands (Placed y m) t ≡ x + 1)) → (slots : ℕ) → Allows (Holds k) slots id me i (λ n. n) (older_told k.layout.pool b t x me)
  looks_older b t x ei room rests stood slots = owner_acts k id i me rules slots (λ n. n) (older_told k.layout.pool b t x me) (λ s h same _.
      let f = seat_at s.views in
      let w = words_at k.layout s.words in
      let v = views_of f in
      let g = h.lawful.0 in
      let r = h.lawful.1 in
      let l = node_of (get_or s.words i 0) in
      let here : w.history (member_of b t) ≡ l = ap node_of (contents_at k.layout s.words (2 * k.layout.pool) history_word (member_of b t) (inside t) ∙ ap (λ z. get_or s.words (address k.layout z) 0) (numbers_tell.histories b t) ∙ ap (λ (j : ℕ). get_or s.words j 0) (sym ei)) in
      let rest : v.ruling.phase ≡ Resting = ap (λ (z : Sight). z.ruling.phase) same ∙ rests in
      let at_home = home (setup_at k) w (length s.views) v g r rest in
      let at : HasEntry (f 0).ruling.placed (b, stood.0, stood.1) = subst (λ (z : Sight). HasEntry z.ruling.placed (b, stood.0, stood.1)) (sym same) stood.2 in
      let st : stands (g.life b) t ≡ x + 1 = noted_stands (setup_at k) w (length s.views) v g r b stood.0 stood.1 t x at stood.3 in
      let u : Sight = noted_history (f 0) (member_of b t) (w.history (member_of b t)) in
      let one : Views = record v { owned = update v.owned 0 u.owned } in
      let law = by_step k id i me rules s h w one (ByLoadHistory (0, member_of b t, refl)) in
      let more : NotesMore me.0 u = subst (λ (z : Sight). NotesMore z u) same (more_history (f 0) (member_of b t) (w.history (member_of b t)) (λ o e. (r.owned 0).history_is b t o e (inl (refl, at_home)))) in
      let born : (HasEntry me.0.ruling.rolled_back b → ⊥) → (d : ℕ) → Noted me.0.owned.died b d → 0 < d → (w.died b ≡ d) × (0 < w.born b) × (w.born b < d) = λ not d e pos.
      let is : w.died b ≡ d = (r.owned 0).died_is b d (subst (λ (z : Sight). Noted z.owned.died b d) (sym same) e) (inl (refl, at_home)) in
      ⊎_elim
      (λ q. let a = r.chains.dieds b stood.0 stood.1 q (omega arith) in (is, a.0, (let c = a.1 in omega arith)))
      (λ q. absurd (not (subst (λ (z : Sight). HasEntry z.ruling.rolled_back b) same (r.note.all b stood.0 stood.1 q)))) (r.note.placed b stood.0 stood.1 at) in
      ⊎_elim
      (λ e.
      let none : l ≡ node 0 0 = sym here ∙ e in
      (u, w, one, kept_words k id i me rules s, in_owned f 0 u refl refl refl refl refl, law, (refl, more, inl (refl, here), inl none, inl none, (λ not d o pos. let a = ap (λ (q : Node). q.died) none in omega arith))))
      (λ o.
      let c = o.0 in
      let q = in_chain (setup_at k) w (length s.views) v g r rest c x o.1 o.3 in
      let is : l ≡ node (c + 1) (w.died c) = sym here ∙ o.2 in
      let died : w.died c ≡ l.died = sym (ap (λ (a : Node). a.died) is) in
      let u2 : Sight = noted_died u c (w.died c) in
      let two_ : Views = record v { owned = update one.owned 0 u2.owned } in
      let more2 : NotesMore u u2 = more_died u c (w.died c) (λ a e. (r.owned 0).died_is c a e (inl (refl, at_home))) in
      let pos : 0 < w.died c = o.4 in (
        u2,
        w,
        two_,
        kept_words k id i me rules s,
        in_owned f 0 u2 refl refl refl refl refl ∙ (λ a. record v { owned = sym (twice v.owned 0 u.owned u2.owned) a }),
        steps_keep (setup_at k) (state w (length s.views) one) (state w (length s.views) two_) (ByLoadDied (0, c, refl)) law,
        (
          refl,
          more_on me.0 u u2 more more2,
          inl (refl, here),
          inr (c, ap (λ (a : Node). a.block) is, q.0, q.1, q.2, inl (refl, died), (λ d. let y = q.3 pos in (y.0, let a = died in let e = y.1 in omega arith)), λ d. absurd (omega arith)),
          inr (omega arith),
          λ not d e some_. let a = born not d e some_ in let lower = o.5 a.1 in let a2 = a.2 in omega arith,
        ),
      ))
      (r.chains.histories b t x st))
    where
      inside : (t : Bool) → member_of b t < 2 * k.layout.pool
      inside true = omega arith
      inside false = omega arith

  pub looks_last : (b : ℕ) → i ≡ address k.layout (OfBlock b Died) → b < k.layout.pool → me.0.ruling.phase ≡ Resting → (slots : ℕ) → Allows (Holds k) slots id me i (λ n. n) (last_told b me)
  looks_last b ei room rests slots = owner_acts k id i me rules slots (λ n. n) (last_told b me) (λ s h same _.
      let f = seat_at s.views in
      let w = words_at k.layout s.words in
      let v = views_of f in
      let r = h.lawful.1 in
      let here : w.died b ≡ get_or s.words i 0 = contents_at k.layout s.words k.layout.pool (λ c. OfBlock c Died) b room ∙ ap (λ (j : ℕ). get_or s.words j 0) (sym ei) in
      let rest : v.ruling.phase ≡ Resting = ap (λ (z : Sight). z.ruling.phase) same ∙ rests in
      let at_home = home (setup_at k) w (length s.views) v h.lawful.0 r rest in
      let fin : me.0.ruling.finished ≡ w.round = sym (ap (λ (z : Sight). z.ruling.finished) same) ∙ r.stock.finished in
      let u : Sight = noted_died (f 0) b (w.died b) in (
        u,
        w,
        _,
        kept_words k id i me rules s,
        in_owned f 0 u refl refl refl refl refl,
        by_step k id i me rules s h _ _ (ByLoadDied (0, b, refl)),
        (
          refl,
          subst (λ (z : Sight). NotesMore z u) same (more_died (f 0) b (w.died b) (λ o e. (r.owned 0).died_is b o e (inl (refl, at_home)))),
          inl (refl, here),
          λ e. let t = r.kept.right b (subst (λ (z : Sight). HasEntry z.ruling.kept b) (sym same) e) in let a = t.3 in let c = t.4 in (omega arith, omega arith),
        ),
      ))
