-- A claim of a place's LINK word, of which the claim bit may be set already.
use Rattle.std.proofs.Common.{◌∷◌, ◌≡◌, ℕ, zero, suc, ◌+◌, ◌*◌, ◌/◌, ◌%◌, ◌<◌, ◌⊎◌, Bool, true, false, List, length, get_or, set, refl, sym, ap, ◌∙◌, subst, arith, bit_or, inl, inr, ⊎_elim, get_or-set_same, length-set}
use Rattle.std.proofs.lemmas.List.{set-set}
use lib.Seq.{set-get_or}
use Rattle.atomic_table.specs.Table.{Allows}
use Rattle.table_words.specs.Claims.{Claim, Progress, Claimed, Failed, Drawn, Half, Whole, Living, claim}
use Rattle.table_words.specs.Entries.{HasEntry}
use Rattle.table_words.specs.Functions.{update}
use Rattle.table_words.specs.Layout.{LinkOf, address}
use Rattle.table_words.specs.Places.{member_of, place_at, place_count}
use Rattle.table_words.specs.Setup.{Setup}
use Rattle.table_words.specs.Views.{Worker, FirstHalf, order}
use Rattle.table_words.specs.Words.{Words, Node, node, node_of, words_at}
use Rattle.table_state.specs.Bisections.{IsPlaceOf}
use Rattle.table_state.specs.Claims.{bit_of}
use Rattle.table_state.specs.Ghosts.{Stage, Open, Held}
use Rattle.table_state.specs.Rule.{Lawful}
use Rattle.table_state.proofs.Across.{name_one, place_one}
use Rattle.table_state.proofs.FoundAgain.{one_more}
use Rattle.table_state.proofs.HeldClaims.{held_one}
use Rattle.table_steps.specs.Steps.{ByClaimStep, ByWorkGoes, ByWorkFinds}
use Rattle.mesh_table.specs.declared.rule.Site.{Site}
use Rattle.mesh_table.specs.Lost.{AllLiving, KnowsPatch, IsAnothers, ClaimLost}
use Rattle.mesh_table.specs.Saw.{Saw, SawClaim}
use Rattle.mesh_table.specs.Sights.{Sight, nobody, seat_at, views_of, setup_at}
use Rattle.mesh_table.specs.Holds.{Holds, Sat}
use Rattle.mesh_table.specs.Told.{MayClaim, claimed, claim_told, finding, gone}
use Rattle.mesh_table.proofs.Bridge.{St, after, stepped, seen, allows, in_claims_owned, in_none, in_work}
use Rattle.mesh_table.proofs.Claiming.{or_one, link_bit, link_head, set_link, update_again}

-- the view of a pass that has learned that the member t of the block b, at z, bisects the name c, with this account
abbrev learned : Setup → ℕ → ℕ → ℕ → Bool → List Saw → Sight → Sight
learned e z c b t account v = record (finding e (gone v z c b t) c b t) { saw = account }

module _ (k : Site) (id i : ℕ) where
  -- a pass learns of a living block, with no change of a word
  learns : (s : St k) (h : Holds k s) → id < length s.views → (z c b : ℕ) (t : Bool) (account : List Saw) → (seat_at s.views id).kind ≡ Worker → (seat_at s.views id).work.half ≡ FirstHalf → HasEntry (seat_at s.views id).work.found (z, c)
      → (words_at k.layout s.words).head z ≡ node (b + 1) 0 → (words_at k.layout s.words).name (member_of b t) ≡ c → 0 < (words_at k.layout s.words).born b
      → Holds k (after k s i (get_or s.words i 0) id (learned (setup_at k) z c b t account (seat_at s.views id)))
  learns s h l z c b t account works half found head name born =
      let f = seat_at s.views in
      let n = get_or s.words i 0 in
      let w = words_at k.layout s.words in
      let e = setup_at k in
      let u = gone (f id) z c b t in
      let same_words : words_at k.layout (set s.words i n) ≡ w = ap (words_at k.layout) (set-get_or s.words i 0) in
      let one : Holds k (after k s i n id u) = stepped k s h i n id u w _ l same_words (in_work f id u refl refl refl refl refl)
      (ByWorkGoes (id, works, z, c, b, w.head z, inl (inl found, refl), ap (λ (a : Node). a.block) head, inl (ap (λ (a : Node). a.died) head), t, name, refl)) in
      let s1 : St k = after k s i n id u in
      let f1 = seat_at s1.views in
      let at : f1 id ≡ u = get_or-set_same s.views id u nobody l in
      let w1 = words_at k.layout s1.words in
      let u1 : Sight = learned e z c b t account (f1 id) in
      let same1 : words_at k.layout (set s1.words i n) ≡ w1 = ap (words_at k.layout) (set-set s.words i n n) in
      let v1 : Sight = record (finding e (f1 id) c b t) { saw = account } in
      let two : Holds k (after k s1 i n id v1) = stepped k s1 one i n id v1 w1 _ (let p = length-set s.views id u in omega arith) same1 (in_work f1 id v1 refl refl refl refl refl)
      (ByWorkFinds (id, ap (λ (a : Sight). a.kind) at ∙ works, ap (λ (a : Sight). a.work.half) at ∙ half, z, c, b, t, ap (λ (a : Sight). a.work.walk) at, (let p : w1.born b ≡ w.born b = ap (λ (a : Words). a.born b) same_words in omega arith), refl)) in
      let end : v1 ≡ learned e z c b t account (f id) = ap (λ (a : Sight). record (finding e a c b t) { saw = account }) at in
      subst (λ (y : List ℕ × List Sight). Holds k record { words = y.0; homes = s.homes; views = y.1 }) (λ j. (set-set s.words i n n j, (set-set s.views id u v1 ∙ ap (set s.views id) end) j)) two

module _ (k : Site) (id i code x m : ℕ) (me : Sat) (ei : i ≡ address k.layout (LinkOf (place_at k.layout x))) (room : x < place_count k.layout) (may : MayClaim (setup_at k) me.0 x m code) where
  abbrev pub e : Setup
  e = setup_at k

  won : (s : St k) → Holds k s → id < length s.views → seat_at s.views id ≡ me.0 → get_or s.words i 0 % 2 ≡ 0 → (r : Sight) × Holds k (after k s i (bit_or (get_or s.words i 0) 1) id r) × claim_told e x m code me (get_or s.words i 0) (r, me.1)
  won s h l same even =
      let f = seat_at s.views in
      let n = get_or s.words i 0 in
      let w = words_at k.layout s.words in
      let can : MayClaim e (f id) x m code = subst (λ (u : Sight). MayClaim e u x m code) (sym same) may in
      let is = or_one n in
      let bit : bit_or n 1 % 2 ≡ 1 = omega arith in
      let block_is : bit_or n 1 / 2 % 2097152 ≡ n / 2 % 2097152 = omega arith in
      let died_is : bit_or n 1 / 4194304 % 65536 ≡ n / 4194304 % 65536 = omega arith in
      let node_is : node_of (bit_or n 1) ≡ w.head x = (λ t. node (block_is t) (died_is t)) ∙ sym (link_head k s h i x ei room) in (
        claimed (f id) x m n,
        stepped k s h i (bit_or n 1) id (claimed (f id) x m n) (record w { claimed = update w.claimed x 1 }) _ l
            (set_link k s h i x ei room (bit_or n 1) ∙ (λ t. record w { claimed = update w.claimed x (bit t); head = update_again w.head x (node_of (bit_or n 1)) node_is t }))
            (in_claims_owned f id (claimed (f id) x m n) refl refl refl refl)
            (ByClaimStep (id, x, m, code, can.works, link_bit k s h i x ei room ∙ even, can.leads, can.absent, can.aimed, can.found, can.mates, refl)),
        (refl, (λ z. ap (λ (u : Sight). claimed u x m n) same), λ o. absurd (omega arith)),
      )

  module _ (s : St k) (h : Holds k s) (l : id < length s.views) (same : seat_at s.views id ≡ me.0) (odd : get_or s.words i 0 % 2 ≡ 1) where
    abbrev Told : Type 0
    Told = (r : Sight) × Holds k (after k s i (bit_or (get_or s.words i 0) 1) id r) × claim_told e x m code me (get_or s.words i 0) (r, me.1)

    abbrev f : ℕ → Sight
    f = seat_at s.views

    abbrev n : ℕ
    n = get_or s.words i 0

    abbrev w : Words
    w = words_at k.layout s.words

    word : bit_or n 1 ≡ n
    word = let is = or_one n in omega arith

    can : MayClaim e (f id) x m code
    can = subst (λ (u : Sight). MayClaim e u x m code) (sym same) may

    here : IsPlaceOf e w.name (h.lawful.0.who (w.round + 1)) x code
    here = ((h.lawful.1.works id).found x code can.found).1

    one : (views_of f).ruling.phase ≡ FirstHalf
    one = ((h.lawful.1.works id).found x code can.found).0

    half : (f id).work.half ≡ FirstHalf
    half = (h.lawful.1.walks id).half can.works ∙ one

    -- nothing is learned, where the claim has no living block
    plain : (j m' : ℕ) (p : Progress) → h.lawful.0.stage x ≡ Held j m' p → ((b : ℕ) → p ≡ Living b → ⊥) → Told
    plain j m' p held dead =
        let u : Sight = record (f id) { saw = SawClaim x n ∷ (f id).saw } in
        let r = h.lawful.1 in (
          u,
          seen k s h i (bit_or n 1) id u l word (in_none f id u refl refl refl refl refl refl),
          (
            refl,
            (λ z. absurd (omega arith)),
            λ _. subst (λ (a : Sight). ClaimLost e a u x code n) same (record {
              kind = refl;
              claims = refl;
              read = refl;
              half = refl;
              round = refl;
              number = refl;
              plan = refl;
              found = λ _ q. q;
              known = λ _ q. q;
              absent = λ _ q. q;
              saw = refl;
              cause = λ all. inr (
                (λ m'' p'' own. let t = held_one j id m' m'' p p'' (sym held ∙ r.claims.held id x m'' p'' own) in let a = all (claim x m'' p'') own in dead a.0 (t.2 ∙ a.1)),
                λ z. ⊎_elim
                    (λ mine. let own = r.claims.holds id x m' p (subst (λ (y : ℕ). h.lawful.0.stage x ≡ Held y m' p) mine held) in let a = all (claim x m' p) own in dead a.0 a.1)
                    (λ lives. dead lives.0 lives.1) ((r.crew.alone id one can.works z).1 x j m' p held),
              );
            }),
          ),
        )

    -- the patch is bisected by the claim's block, and the pass learns it
    abbrev account : List Saw
    account = SawClaim x n ∷ (f id).saw

    lives : (j m' b : ℕ) → h.lawful.0.stage x ≡ Held j m' (Living b) → Told
    lives j m' b held =
        let g = h.lawful.0 in
        let r = h.lawful.1 in
        let shape = r.claims.shape x j m' (Living b) held in
        let lab = r.labels x j m' (Living b) held one in
        let code_is : code ≡ lab.0 = name_one e w (length s.views) (views_of f) g r (w.round + 1) x code lab.0 here lab.2 in
        let first : w.name (member_of b false) ≡ code = lab.4 b refl ∙ sym code_is in
        let born : 0 < w.born b = (let q = shape.1 in omega arith) in
        ⊎_elim
        (λ (alone : (m ≡ 0) × (e.mate code ≡ 0)).
        let u : Sight = learned e x code b false account (f id) in (
          u,
          subst (λ (y : ℕ). Holds k (after k s i y id u)) (sym word) (learns k id i s h l x code b false account can.works half can.found shape.2 first born),
          (
            refl,
            (λ z. absurd (omega arith)),
            λ _. subst (λ (a : Sight). ClaimLost e a u x code n) same (record {
              kind = refl;
              claims = refl;
              read = refl;
              half = refl;
              round = refl;
              number = refl;
              plan = refl;
              found = λ _ q. inr (inr q);
              known = λ _ q. inr q;
              absent = λ _ q. q;
              saw = refl;
              cause = λ all. inl (inl refl, λ a q. let z = alone.1 in absurd (omega arith));
            }),
          ),
        ))
        (λ (both : (y : ℕ) × (a : ℕ) × (m ≡ y + 1) × (e.mate code ≡ a + 1) × HasEntry (f id).work.found (y, a + 1)).
        let y = both.0 in
        let a = both.1 in
        let there : IsPlaceOf e w.name (g.who (w.round + 1)) y (a + 1) = ((r.works id).found y (a + 1) both.4).1 in
        let second : (m' ≡ y + 1) = ⊎_elim
        (λ z. let q : e.mate code ≡ 0 = ap e.mate code_is ∙ z.1 in let p = both.3 in absurd (omega arith))
        (λ d.
        let same_code : d.1 + 1 ≡ a + 1 = sym d.3 ∙ ap e.mate (sym code_is) ∙ both.3 in
        let at : IsPlaceOf e w.name (g.who (w.round + 1)) d.0 (a + 1) = subst (λ (q : ℕ). IsPlaceOf e w.name (g.who (w.round + 1)) d.0 q) same_code d.4 in
        let y_is : d.0 ≡ y = place_one e w (length s.views) (views_of f) g r (w.round + 1) (inr (refl, omega (arith, ap order one))) d.0 y (a + 1) at there in
        d.2 ∙ ap (λ (q : ℕ). q + 1) y_is) lab.5 in
        let named : w.name (member_of b true) ≡ a + 1 = (r.names.patch b x m' shape.0).1 ∙ ap e.mate first ∙ both.3 in
        let u1 : Sight = learned e x code b false account (f id) in
        let held1 : Holds k (after k s i n id u1) = learns k id i s h l x code b false account can.works half can.found shape.2 first born in
        let s1 : St k = after k s i n id u1 in
        let f1 = seat_at s1.views in
        let at1 : f1 id ≡ u1 = get_or-set_same s.views id u1 nobody l in
        let words1 : s1.words ≡ s.words = set-get_or s.words i 0 in
        let w1 : words_at k.layout s1.words ≡ w = ap (words_at k.layout) words1 in
        let n1 : get_or s1.words i 0 ≡ n = ap (λ (q : List ℕ). get_or q i 0) words1 in
        let u2 : Sight = learned e y (a + 1) b true account u1 in
        let held2 : Holds k (after k s1 i (get_or s1.words i 0) id (learned e y (a + 1) b true account (f1 id))) = learns k id i s1 held1 (let p = length-set s.views id u1 in omega arith) y (a + 1) b true account
        (ap (λ (q : Sight). q.kind) at1 ∙ can.works) (ap (λ (q : Sight). q.work.half) at1 ∙ half) (subst (λ (q : Sight). HasEntry q.work.found (y, a + 1)) (sym at1) (inr (inr both.4)))
        (ap (λ (q : Words). q.head y) w1 ∙ shape.3 y second) (ap (λ (q : Words). q.name (member_of b true)) w1 ∙ named) (subst (λ (q : Words). 0 < q.born b) (sym w1) born) in
        let end : learned e y (a + 1) b true account (f1 id) ≡ u2 = ap (learned e y (a + 1) b true account) at1 in (
          u2,
          subst (λ (q : List ℕ × List Sight). Holds k record { words = q.0; homes = s.homes; views = q.1 })
              (λ t. ((set-set s.words i n (get_or s1.words i 0) ∙ ap (set s.words i) (n1 ∙ sym word)) t, (set-set s.views id u1 (learned e y (a + 1) b true account (f1 id)) ∙ ap (set s.views id) end) t)) held2,
          (
            refl,
            (λ z. absurd (omega arith)),
            λ _. subst (λ (q : Sight). ClaimLost e q u2 x code n) same (record {
              kind = refl;
              claims = refl;
              read = refl;
              half = refl;
              round = refl;
              number = refl;
              plan = refl;
              found = λ _ q. inr (inr (inr (inr q)));
              known = λ _ q. inr (inr q);
              absent = λ _ q. q;
              saw = refl;
              cause = λ all. inl (inr (inl refl), λ c q. inl (sym q ∙ both.3));
            }),
          ),
        ))
        can.mates

    lost : (st : Stage) → h.lawful.0.stage x ≡ st → Told
    lost Open held = let z : w.claimed x ≡ 0 = h.lawful.1.claims.bits x ∙ ap bit_of held in let b = link_bit k s h i x ei room in absurd (omega arith)
    lost (Held j m' Claimed) held = plain j m' Claimed held (λ b q. cc)
    lost (Held j m' Failed) held = plain j m' Failed held (λ b q. cc)
    lost (Held j m' (Drawn c)) held = plain j m' (Drawn c) held (λ b q. cc)
    lost (Held j m' (Half c)) held = plain j m' (Half c) held (λ b q. cc)
    lost (Held j m' (Whole c)) held = plain j m' (Whole c) held (λ b q. cc)
    lost (Held j m' (Living b)) held = lives j m' b held

  pub claims : (slots : ℕ) → Allows (Holds k) slots id me i (λ n. bit_or n 1) (claim_told e x m code me)
  claims slots = allows k slots id i (λ n. bit_or n 1) me (claim_told e x m code me) (λ s h l same _. by s h l same (get_or s.words i 0 % 2) refl)
    where
      by : (s : St k) → Holds k s → id < length s.views → seat_at s.views id ≡ me.0 → (b : ℕ) → get_or s.words i 0 % 2 ≡ b → (r : Sight) × Holds k (after k s i (bit_or (get_or s.words i 0) 1) id r) × claim_told e x m code me (get_or s.words i 0) (r, me.1)
      by s h l same zero even = won s h l same even
      by s h l same (suc b) odd = lost s h l same (omega arith) (h.lawful.0.stage x) refl
