-- A pass comes to a block that it published.
use Rattle.std.proofs.Common.{◌≡◌, ℕ, ◌+◌, ◌<◌, Bool, true, false, List, length, get_or, set, refl, sym, ap, ◌∙◌, subst, arith, inl, inr, ⊎_elim, get_or-set_same, length-set}
use Rattle.std.proofs.lemmas.List.{set-set}
use lib.Seq.{set-get_or}
use Rattle.atomic_table.specs.Table.{Allows}
use Rattle.table_words.specs.Claims.{Living}
use Rattle.table_words.specs.Places.{member_of}
use Rattle.table_words.specs.Views.{Views}
use Rattle.table_words.specs.Words.{Words, Node, node, words_at}
use Rattle.table_state.specs.Bisections.{IsPlaceOf}
use Rattle.table_state.specs.Rule.{Lawful}
use Rattle.table_state.proofs.Across.{name_one}
use Rattle.table_state.proofs.FoundAgain.{one_more}
use Rattle.table_steps.specs.Steps.{ByWorkGoes, ByWorkFinds}
use Rattle.mesh_table.specs.declared.rule.Site.{Site}
use Rattle.mesh_table.specs.Sights.{Sight, nobody, seat_at, views_of, setup_at}
use Rattle.mesh_table.specs.Holds.{Holds, Sat}
use Rattle.mesh_table.specs.Told.{MayArrive, moved, gone, finding, arrived}
use Rattle.mesh_table.proofs.Bridge.{St, after, stepped, allows, in_work, set_seat}

module _ (k : Site) (x m z c b : ℕ) (t : Bool) where
  -- the words of the block, which is published, and of the place
  words_say : (w : Words) (n : ℕ) (f : ℕ → Sight) (id : ℕ) → Lawful (setup_at k) w n (views_of f) → MayArrive (f id) x m z c b t → (w.head z ≡ node (b + 1) 0) × (w.name (member_of b t) ≡ c) × (0 < w.born b)
  words_say w n f id h can =
      let r = h.1 in
      let g = h.0 in
      let stage = r.claims.held id x m (Living b) can.lives in
      let shape = r.claims.shape x id m (Living b) stage in
      let here = (r.works id).found z c can.found in
      let lab = r.labels x id m (Living b) stage here.0 in
      let first = lab.4 b refl in
      let patch = r.names.patch b x m shape.0 in
      let born : 0 < w.born b = (let e = shape.1 in omega arith) in
      ⊎_elim
      (λ e.
      let same : c ≡ lab.0 = name_one (setup_at k) w n (views_of f) g r (w.round + 1) x c lab.0 (subst (λ (a : ℕ). IsPlaceOf (setup_at k) w.name (g.who (w.round + 1)) a c) e.1 here.1) lab.2 in
      (ap w.head e.1 ∙ shape.2, ap (λ (a : Bool). w.name (member_of b a)) e.0 ∙ first ∙ sym same, born))
      (λ e. ⊎_elim
      (λ d. let p = d.0 in let q = e.1 in absurd (omega arith))
      (λ d.
      let zy : d.0 ≡ z = one_more d.0 z (sym d.2 ∙ e.1) in
      let same : d.1 + 1 ≡ c = name_one (setup_at k) w n (views_of f) g r (w.round + 1) z (d.1 + 1) c (subst (λ (a : ℕ). IsPlaceOf (setup_at k) w.name (g.who (w.round + 1)) a (d.1 + 1)) zy d.4) here.1 in
      (shape.3 z e.1, ap (λ (a : Bool). w.name (member_of b a)) e.0 ∙ patch.1 ∙ ap (setup_at k).mate first ∙ d.3 ∙ same, born))
      lab.5)
      can.side

  module _ (id i : ℕ) (me : Sat) (may : MayArrive me.0 x m z c b t) where
    pub arrives : (slots : ℕ) → Allows (Holds k) slots id me i (λ n. n) (moved (λ n v. arrived (setup_at k) z c b t v) me)
    arrives slots = allows k slots id i (λ n. n) me (moved (λ n v. arrived (setup_at k) z c b t v) me) (λ s h l same _.
        let f = seat_at s.views in
        let n = get_or s.words i 0 in
        let w = words_at k.layout s.words in
        let can : MayArrive (f id) x m z c b t = subst (λ (a : Sight). MayArrive a x m z c b t) (sym same) may in
        let say = words_say w (length s.views) f id h.lawful can in
        let u = gone (f id) z c b t in
        let same_words : words_at k.layout (set s.words i n) ≡ w = ap (words_at k.layout) (set-get_or s.words i 0) in
        let one : Holds k (after k s i n id u) = stepped k s h i n id u w _ l same_words (in_work f id u refl refl refl refl refl)
        (ByWorkGoes (id, can.works, z, c, b, w.head z, inl (inl can.found, refl), ap (λ (a : Node). a.block) say.0, inl (ap (λ (a : Node). a.died) say.0), t, say.1, refl)) in
        let s1 : St k = after k s i n id u in
        let f1 = seat_at s1.views in
        let at : f1 id ≡ u = get_or-set_same s.views id u nobody l in
        let w1 = words_at k.layout s1.words in
        let n1 = get_or s1.words i 0 in
        let words1 : s1.words ≡ s.words = set-get_or s.words i 0 in
        let u1 = finding (setup_at k) (f1 id) c b t in
        let same1 : words_at k.layout (set s1.words i n) ≡ w1 = ap (words_at k.layout) (set-set s.words i n n) in
        let two : Holds k (after k s1 i n id u1) = stepped k s1 one i n id u1 w1 _ (let e = length-set s.views id u in omega arith) same1 (in_work f1 id u1 refl refl refl refl refl)
        (ByWorkFinds (id, ap (λ (a : Sight). a.kind) at ∙ can.works, ap (λ (a : Sight). a.work.half) at ∙ can.half, z, c, b, t, ap (λ (a : Sight). a.work.walk) at, (let e : w1.born b ≡ w.born b = ap (λ (a : Words). a.born b) same_words in let p = say.2 in omega arith), refl)) in
        let end : u1 ≡ arrived (setup_at k) z c b t (f id) = ap (λ (a : Sight). finding (setup_at k) a c b t) at in (
          u1,
          subst (λ (y : List ℕ × List Sight). Holds k record { words = y.0; homes = s.homes; views = y.1 }) (λ j. (set-set s.words i n n j, set-set s.views id u u1 j)) two,
          (refl, end ∙ ap (arrived (setup_at k) z c b t) same),
        ))
