-- Stores into the words of a block that was drawn, and the load of a LINK word that is noted.
use Rattle.std.proofs.Common.{◌≡◌, ℕ, zero, suc, ◌+◌, ◌*◌, ◌<◌, Bool, true, false, length, get_or, set, refl, sym, ap, ◌∙◌, subst, arith, inl, inr}
use lib.Seq.{set-get_or}
use Rattle.atomic_table.specs.Table.{Allows}
use Rattle.table_words.specs.declared.layout.ElemAt.TheVariants.{Child}
use Rattle.table_words.specs.declared.link.Link.{Link}
use Rattle.table_words.specs.Claims.{Drawn, claim}
use Rattle.table_words.specs.Entries.{HasEntry}
use Rattle.table_words.specs.Functions.{update}
use Rattle.table_words.specs.Layout.{OfBlock, Died, NameOf, HistoryOf, LinkOf, address}
use Rattle.table_words.specs.Links.{IsLink, after, link_word}
use Rattle.table_words.specs.Places.{member_of, child_place, place_at, place_count}
use Rattle.table_words.specs.Setup.{Setup}
use Rattle.table_words.specs.Views.{Worker, Views, FirstHalf, order}
use Rattle.table_words.specs.Words.{Words, node, node_of, words_at}
use Rattle.table_words.proofs.LinkWords.{nodes_read}
use Rattle.table_words.proofs.PlaceNumbers.{numbers_tell, places_numbered, child_one, child_outside}
use Rattle.table_words.proofs.Writes.{writes_update}
use Rattle.table_state.specs.Ghosts.{Stage, Open, Held, Ghost, Life, chained}
use Rattle.table_state.specs.Bisections.{IsPlaceOf}
use Rattle.table_state.specs.Claims.{bit_of}
use Rattle.table_state.specs.Rule.{Rule}
use Rattle.table_state.proofs.Across.{first_half}
use Rattle.table_steps.specs.Steps.{ByLoadHead, ByFillHistory, ByFillName, ByFillDied, ByFillChild}
use Rattle.mesh_table.specs.declared.rule.Site.{Site}
use Rattle.mesh_table.specs.Sights.{Sight, seat_at, views_of, setup_at}
use Rattle.mesh_table.specs.Holds.{Holds, Sat}
use Rattle.mesh_table.specs.Told.{Ask, MayFill, child_told, moved, noted_head, noted_history, noted_died, noted_name}
use Rattle.mesh_table.proofs.Bridge.{St, stepped, allows, in_owned}
use Rattle.mesh_table.proofs.Claiming.{link_head, set_link, update_again}

module _ (k : Site) (id i : ℕ) where
  -- a load that is noted
  pub looks_link : (x : ℕ) (me : Sat) → i ≡ address k.layout (LinkOf (place_at k.layout x)) → x < place_count k.layout → (slots : ℕ) → Allows (Holds k) slots id me i (λ n. n) (moved (λ n v. noted_head v x (node_of n)) me)
  looks_link x me ei room slots = allows k slots id i (λ n. n) me (moved (λ n v. noted_head v x (node_of n)) me) (λ s h l same _.
      let f = seat_at s.views in
      let w = words_at k.layout s.words in
      let n = get_or s.words i 0 in
      let here = link_head k s h i x ei room in (
        noted_head (f id) x (w.head x),
        stepped k s h i n id (noted_head (f id) x (w.head x)) w _ l (stays s) (in_owned f id (noted_head (f id) x (w.head x)) refl refl refl refl refl) (ByLoadHead (id, x, refl)),
        (refl, λ t. noted_head (same t) x (here t)),
      ))
    where
      stays : (s : St k) → words_at k.layout (set s.words i (get_or s.words i 0)) ≡ words_at k.layout s.words
      stays s = ap (words_at k.layout) (set-get_or s.words i 0)

  module _ (b : ℕ) (room : b < k.layout.pool) where
    member_room : (t : Bool) → member_of b t < 2 * k.layout.pool
    member_room true = omega arith
    member_room false = omega arith

    pub fills_history : (t : Bool) (me : Sat) (link : Link) (n : ℕ) → i ≡ address k.layout (OfBlock b (HistoryOf t)) → MayFill me.0 b → IsLink link → n ≡ link_word link → (slots : ℕ)
        → Allows (Holds k) slots id me i (λ _. n) (λ _. moved (λ _ v. noted_history v (member_of b t) (node (after link.block) link.died)) me n)
    fills_history t me link n ei may fit spelled slots = allows k slots id i (λ _. n) me (λ _. moved (λ _ v. noted_history v (member_of b t) (node (after link.block) link.died)) me n) (λ s h l same _.
        let f = seat_at s.views in
        let w = words_at k.layout s.words in
        let u = noted_history (f id) (member_of b t) (node (after link.block) link.died) in
        let can : MayFill (f id) b = subst (λ (y : Sight). MayFill y b) (sym same) may in (
          u,
          stepped k s h i n id u (record w { history = update w.history (member_of b t) (node (after link.block) link.died) }) _ l
              (ap (λ (j : ℕ). words_at k.layout (set s.words j n)) (ei ∙ ap (address k.layout) (sym (numbers_tell.histories b t))) ∙ (writes_update k.layout s.words n h.size_is).history (member_of b t) (member_room t)
              ∙ (λ z. record w { history = update w.history (member_of b t) ((ap node_of spelled ∙ nodes_read link fit) z) }))
              (in_owned f id u refl refl refl refl refl) (ByFillHistory (id, can.1.0, can.1.1, b, can.1.2, can.0, t, node (after link.block) link.died, refl)),
          (refl, ap (λ (y : Sight). noted_history y (member_of b t) (node (after link.block) link.died)) same),
        ))

    pub fills_name : (t : Bool) (me : Sat) (code n : ℕ) → i ≡ address k.layout (OfBlock b (NameOf t)) → MayFill me.0 b → n ≡ code → (slots : ℕ) → Allows (Holds k) slots id me i (λ _. n) (λ _. moved (λ _ v. noted_name v (member_of b t) code) me n)
    fills_name t me code n ei may spelled slots = allows k slots id i (λ _. n) me (λ _. moved (λ _ v. noted_name v (member_of b t) code) me n) (λ s h l same _.
        let f = seat_at s.views in
        let w = words_at k.layout s.words in
        let u = noted_name (f id) (member_of b t) code in
        let can : MayFill (f id) b = subst (λ (y : Sight). MayFill y b) (sym same) may in (
          u,
          stepped k s h i n id u (record w { name = update w.name (member_of b t) code }) _ l
              (ap (λ (j : ℕ). words_at k.layout (set s.words j n)) (ei ∙ ap (address k.layout) (sym (numbers_tell.names b t))) ∙ (writes_update k.layout s.words n h.size_is).name (member_of b t) (member_room t)
              ∙ (λ z. record w { name = update w.name (member_of b t) (spelled z) }))
              (in_owned f id u refl refl refl refl refl) (ByFillName (id, can.1.0, can.1.1, b, can.1.2, can.0, t, code, refl)),
          (refl, ap (λ (y : Sight). noted_name y (member_of b t) code) same),
        ))

    pub fills_died : (me : Sat) → i ≡ address k.layout (OfBlock b Died) → MayFill me.0 b → (slots : ℕ) → Allows (Holds k) slots id me i (λ _. 0) (λ _. moved (λ _ v. noted_died v b 0) me 0)
    fills_died me ei may slots = allows k slots id i (λ _. 0) me (λ _. moved (λ _ v. noted_died v b 0) me 0) (λ s h l same _.
        let f = seat_at s.views in
        let w = words_at k.layout s.words in
        let u = noted_died (f id) b 0 in
        let can : MayFill (f id) b = subst (λ (y : Sight). MayFill y b) (sym same) may in (
          u,
          stepped k s h i 0 id u (record w { died = update w.died b 0 }) _ l (ap (λ (j : ℕ). words_at k.layout (set s.words j 0)) ei ∙ (writes_update k.layout s.words 0 h.size_is).died b room)
              (in_owned f id u refl refl refl refl refl) (ByFillDied (id, can.1.0, can.1.1, b, can.1.2, can.0, 0, refl)),
          (refl, ap (λ (y : Sight). noted_died y b 0) same),
        ))

-- no element at work stands at a child's place of a block that was drawn and not linked
not_child : (s : Setup) (w : Words) (n : ℕ) (v : Views) (g : Ghost) → Rule s w n v g → (j x m b : ℕ) → v.kind j ≡ Worker → HasEntry (v.claims j) (claim x m (Drawn b)) → (z a : ℕ) → IsPlaceOf s w.name (g.who (w.round + 1)) z a → (t c : Bool) → z ≡ child_place s.elements b t c → ⊥
not_child s w n v g r j x m b kind has z a place t c e = elim place [
  | inl top ↦ child_outside s.elements b t c (let l = top.0 in omega arith)
  | inr (d, u, a2, at, who, name_is) ↦
      let held = r.claims.held j x m (Drawn b) has in
      let one = first_half s w n v g r j x m (Drawn b) kind held (λ y. y) in
      let same = child_one s.elements b d t c u a2 (sym e ∙ at) in
      let fits = r.names.fits (w.round + 1) (inr (refl, omega (arith, ap order one))) in
      let f = fits.found (w.name (member_of d u)) d who in
      let shape = r.claims.shape x j m (Drawn b) held in
      let in_chain : chained (g.life b) f.0 ≡ f.1 + 1 = ap (λ (e : ℕ). chained (g.life e) f.0) same.0 ∙ f.3 in
      let none : chained (g.life b) f.0 ≡ 0 = ap (λ (q : Life). chained q f.0) shape.0 in
      absurd (omega arith)
]

-- the children of a block that was drawn and not linked have no claim
child_open : (s : Setup) (w : Words) (n : ℕ) (v : Views) (g : Ghost) → Rule s w n v g → (j x m b : ℕ) → v.kind j ≡ Worker → HasEntry (v.claims j) (claim x m (Drawn b)) → (t c : Bool) → w.claimed (child_place s.elements b t c) ≡ 0
child_open s w n v g r j x m b kind has t c = r.claims.bits z ∙ by (g.stage z) refl
  where
    z : ℕ
    z = child_place s.elements b t c

    one : v.ruling.phase ≡ FirstHalf
    one = first_half s w n v g r j x m (Drawn b) kind (r.claims.held j x m (Drawn b) has) (λ y. y)

    by : (q : Stage) → g.stage z ≡ q → bit_of q ≡ 0
    by Open e = refl
    by (Held a y p) e = let label = r.labels z a y p e one in absurd (not_child s w n v g r j x m b kind has z label.0 label.2 t c refl)

module _ (k : Site) (id i b c : ℕ) (room : b < k.layout.pool) (low : c < 4) where
  -- the place of a child, by its number
  side : (c : ℕ) → c < 4 → (t u : Bool) × (child_place k.layout.elements b t u ≡ k.layout.elements + 4 * b + c)
  side zero h = (false, false, omega arith)
  side (suc zero) h = (false, true, omega arith)
  side (suc (suc zero)) h = (true, false, omega arith)
  side (suc (suc (suc zero))) h = (true, true, omega arith)
  side (suc (suc (suc (suc c)))) h = absurd (omega arith)

  pub fills_child : (me : Sat) (q : Ask) → q.place ≡ k.layout.elements + 4 * b + c → i ≡ address k.layout (LinkOf (Child b c)) → MayFill me.0 b → (slots : ℕ) → Allows (Holds k) slots id me i (λ _. 0) (λ _. child_told q me 0)
  fills_child me q eq ei may slots = allows k slots id i (λ _. 0) me (λ _. child_told q me 0) (λ s h l same _.
      let f = seat_at s.views in
      let w = words_at k.layout s.words in
      let can : MayFill (f id) b = subst (λ (y : Sight). MayFill y b) (sym same) may in
      let t = side c low in
      let x = child_place k.layout.elements b t.0 t.1 in
      let p = (places_numbered k.layout).0 (Child b c) (room, low) in
      let u = noted_head (f id) x (node 0 0) in
      let inside : x < place_count k.layout = let e = t.2 in omega arith in
      let at : place_at k.layout x ≡ Child b c = ap (place_at k.layout) t.2 ∙ p.1 in
      let zero_ = child_open (setup_at k) w (length s.views) (views_of f) h.lawful.0 h.lawful.1 id can.1.0 can.1.1 b can.0 can.1.2 t.0 t.1 in
      let same_place : x ≡ q.place = t.2 ∙ sym eq in (
        u,
        stepped k s h i 0 id u (record w { head = update w.head x (node 0 0) }) _ l
            (set_link k s h i x (ei ∙ ap (λ a. address k.layout (LinkOf a)) (sym at)) inside 0 ∙ (λ z. record w { claimed = update_again w.claimed x 0 (sym zero_) z; head = update w.head x (node 0 0) }))
            (in_owned f id u refl refl refl refl refl) (ByFillChild (id, can.1.0, can.1.1, b, can.1.2, can.0, t.0, t.1, node 0 0, refl)),
        (
          refl,
          (λ z. noted_head (same z) (same_place z) (node 0 0)),
          λ y a e d. not_child (setup_at k) w (length s.views) (views_of f) h.lawful.0 h.lawful.1 id can.1.0 can.1.1 b can.0 can.1.2 y a ((h.lawful.1.works id).found y a (subst (λ (r : Sight). HasEntry r.work.found (y, a)) (sym same) e)).1 t.0 t.1 (d ∙ sym same_place),
        ),
      ))
