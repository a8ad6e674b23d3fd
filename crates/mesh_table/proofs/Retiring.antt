-- A patch is retired.
use Rattle.std.proofs.Common.{◌≡◌, ℕ, zero, suc, ◌+◌, ◌<◌, ◌≤◌, ◌==◌, cond, Bool, List, ◌∷◌, ◌⊎◌, length, get_or, set, refl, sym, ap, ◌∙◌, subst, arith, inl, inr, ⊎_elim, eqb, eq-eqb, ne_eqb, bit_or, get_or-set_same, length-set}
use Rattle.std.proofs.lemmas.List.{set-set}
use mathlib.Core.Logic.{dite}
use native.Mathlib.Decide.{ℕ_discrete}
use lib.Bits.{or_zero_l, or_self}
use lib.Seq.{set-get_or}
use Rattle.atomic_table.specs.Table.{Allows}
use Rattle.table_words.specs.Entries.{HasEntry}
use Rattle.table_words.specs.Functions.{update}
use Rattle.table_words.specs.Layout.{OfBlock, Died, address}
use Rattle.table_words.specs.Setup.{Setup}
use Rattle.table_words.specs.Views.{Views, Worker, SecondHalf}
use Rattle.table_words.specs.Words.{Words, words_at}
use Rattle.table_words.proofs.Writes.{writes_update}
use Rattle.table_state.specs.Lists.{IsMember}
use Rattle.table_state.specs.Rule.{Lawful}
use Rattle.table_steps.specs.Steps.{ByWorkGives, ByRetireStep, ByRetiredStep}
use Rattle.mesh_table.specs.declared.rule.Site.{Site}
use Rattle.mesh_table.specs.Sights.{Sight, nobody, seat_at, views_of, setup_at}
use Rattle.mesh_table.specs.Holds.{Holds, Sat}
use Rattle.mesh_table.specs.Told.{moved}
use Rattle.mesh_table.specs.Saw.{SawRetire}
use Rattle.mesh_table.specs.SecondHalf.{MayRetire, retiring, members_before}
use Rattle.mesh_table.proofs.Bridge.{St, after, stepped, allows, in_work, contents_at}

-- the members of a patch, before other names
members_first : (s : Setup) (k : ℕ) (names : List ℕ) (i : ℕ) → HasEntry (members_before k (s.mate k) names) i → HasEntry names i ⊎ IsMember s k i
members_first s k names i h = by (s.mate k) refl h
  where
    by : (m : ℕ) → s.mate k ≡ m → HasEntry (members_before k m names) i → HasEntry names i ⊎ IsMember s k i
    by zero e (inl a) = inr (inl a)
    by zero e (inr a) = inl a
    by (suc m) e (inl a) = inr (inl a)
    by (suc m) e (inr (inl a)) = let p : suc m ≡ m + 1 = omega arith in inr (inr (m, e ∙ p, a ∙ p))
    by (suc m) e (inr (inr a)) = inl a

-- what DIED is of a block that was given
given_died : (s : Setup) (w : Words) (n : ℕ) (v : Views) → Lawful s w n v → (j b k : ℕ) → v.kind j ≡ Worker → HasEntry (v.work j).given (b, k) → (w.died b ≡ 0) ⊎ (w.died b ≡ (v.work j).round)
given_died s w n v (g, r) j b k kind e = let t = ((r.works j).given b k e).2 in let at = (r.walks j).at_work kind in ⊎_elim inl (λ d. inr (d ∙ sym at)) t.5

module _ (k : Site) (id i b : ℕ) (me : Sat) (c : ℕ) (room : b < k.layout.pool) (ei : i ≡ address k.layout (OfBlock b Died)) (round : ℕ) (now : me.0.work.round ≡ round) (positive : 0 < round) (may : MayRetire (setup_at k) me.0 b c) where
  abbrev pub e : Setup
  e = setup_at k

  -- the block is given, which changes no word
  abbrev gave : Sight → Sight
  gave v = record v { work = record v.work { given = (b, c) ∷ v.work.given } }

  abbrev retired_by : Sight → List ℕ → ℕ → Sight
  retired_by v retired n = record v { work = record v.work { open_ = members_before c (e.mate c) v.work.open_; retired = retired }; saw = SawRetire b n ∷ v.saw }

  pub retires : (slots : ℕ) → Allows (Holds k) slots id me i (λ n. bit_or n round) (moved (λ n v. retiring e b c n v) me)
  retires slots = allows k slots id i (λ n. bit_or n round) me (moved (λ n v. retiring e b c n v) me) (λ s h l same _. by s h l same (get_or s.words i 0) refl)
    where
      by : (s : St k) → Holds k s → id < length s.views → seat_at s.views id ≡ me.0 → (n : ℕ) → get_or s.words i 0 ≡ n → (u : Sight) × Holds k (after k s i (bit_or (get_or s.words i 0) round) id u) × moved (λ n v. retiring e b c n v) me (get_or s.words i 0) (u, me.1)
      by s h l same n en =
          let f = seat_at s.views in
          let w = words_at k.layout s.words in
          let can : MayRetire e (f id) b c = subst (λ (a : Sight). MayRetire e a b c) (sym same) may in
          let u = gave (f id) in
          let same_words : words_at k.layout (set s.words i (get_or s.words i 0)) ≡ w = ap (words_at k.layout) (set-get_or s.words i 0) in
          let one : Holds k (after k s i (get_or s.words i 0) id u) = stepped k s h i (get_or s.words i 0) id u w _ l same_words (in_work f id u refl refl refl refl refl) (ByWorkGives (id, can.works.0, can.works.1, b, c, can.leads, can.had, refl)) in
          let s1 : St k = after k s i (get_or s.words i 0) id u in
          let f1 = seat_at s1.views in
          let at : f1 id ≡ u = get_or-set_same s.views id u nobody l in
          let w1 = words_at k.layout s1.words in
          let l1 : id < length s1.views = let p = length-set s.views id u in omega arith in
          let back : s1.words ≡ s.words = set-get_or s.words i 0 in
          let n1 : get_or s1.words i 0 ≡ n = ap (λ (x : List ℕ). get_or x i 0) back ∙ en in
          let here : w1.died b ≡ n = contents_at k.layout s1.words k.layout.pool (λ a. OfBlock a Died) b room ∙ ap (λ (j : ℕ). get_or s1.words j 0) (sym ei) ∙ n1 in
          let given : HasEntry (f1 id).work.given (b, c) = subst (λ (a : Sight). HasEntry a.work.given (b, c)) (sym at) (inl refl) in
          let works : (f1 id).kind ≡ Worker = ap (λ (a : Sight). a.kind) at ∙ can.works.0 in
          let late : (f1 id).work.half ≡ SecondHalf = ap (λ (a : Sight). a.work.half) at ∙ can.works.1 in
          let at_work : (f1 id).work.round ≡ round = ap (λ (a : Sight). a.work.round) at ∙ ap (λ (a : Sight). a.work.round) same ∙ now in
          let rest : List ℕ = members_before c (e.mate c) (f1 id).work.open_ in
          -- the view after, told of the view before
          let told : (u1 : Sight) → u1 ≡ retiring e b c n (f id) → (get_or s.words i 0 ≡ n) → moved (λ m v. retiring e b c m v) me (get_or s.words i 0) (u1, me.1) = (λ u1 is at0. (refl, is ∙ ap (λ (m : ℕ). retiring e b c m (f id)) (sym at0) ∙ ap (retiring e b c (get_or s.words i 0)) same)) in
          -- the table after both steps
          let both : (m : ℕ) (u1 : Sight) → bit_or (get_or s.words i 0) round ≡ m → Holds k (after k s1 i m id u1) → Holds k (after k s i (bit_or (get_or s.words i 0) round) id u1) = (λ m u1 word two.
          subst (λ (x : List ℕ × List Sight). Holds k record { words = x.0; homes = s.homes; views = x.1 }) (λ j. ((set-set s.words i (get_or s.words i 0) m ∙ ap (set s.words i) (sym word)) j, set-set s.views id u u1 j)) two) in
          let list : (q : ℕ) → HasEntry rest q → HasEntry (f1 id).work.open_ q ⊎ IsMember e c q = members_first e c (f1 id).work.open_ in
          dite (ℕ_discrete n 0)
          (λ z.
          let u1 : Sight = retired_by (f1 id) (b ∷ (f1 id).work.retired) n in
          let word : bit_or (get_or s.words i 0) round ≡ round = ap (λ (x : ℕ). bit_or x round) (en ∙ z) ∙ or_zero_l round in
          let two : Holds k (after k s1 i round id u1) = stepped k s1 one i round id u1 (record w1 { died = update w1.died b (f1 id).work.round }) _ l1
          (ap (λ (j : ℕ). words_at k.layout (set s1.words j round)) ei ∙ (writes_update k.layout s1.words round one.size_is).died b room ∙ (λ t. record w1 { died = update w1.died b (sym at_work t) }))
          (in_work f1 id u1 refl refl refl refl refl)
          (ByRetireStep (id, b, c, given, works, subst (λ (a : Sight). HasEntry a.work.plan.retire c) (sym at) can.listed, here ∙ z, (λ y. subst (λ (a : Sight). HasEntry a.work.open_ (e.child c y)) (sym at) (can.first y)), (λ m q y. subst (λ (a : Sight). HasEntry a.work.open_ (e.child (m + 1) y)) (sym at) (can.second m q y)), rest, list, refl)) in
          let is : u1 ≡ retiring e b c n (f id) = ap (λ (a : Sight). retired_by a (b ∷ a.work.retired) n) at ∙ ap (λ (x : List ℕ). retired_by u x n) (sym (ap (λ (y : Bool). cond {A = List ℕ} y (b ∷ u.work.retired) u.work.retired) (eq-eqb n 0 z))) in (
            u1,
            both round u1 word two,
            told u1 is en,
          ))
          (λ o.
          let u1 : Sight = retired_by (f1 id) (f1 id).work.retired n in
          let was : w1.died b ≡ round = ⊎_elim (λ y. absurd (o (sym here ∙ y))) (λ y. y ∙ at_work) (given_died e w1 (length s1.views) (views_of f1) one.lawful id b c works given) in
          let full : get_or s.words i 0 ≡ round = en ∙ sym here ∙ was in
          let word : bit_or (get_or s.words i 0) round ≡ get_or s1.words i 0 = ap (λ (x : ℕ). bit_or x round) full ∙ or_self round ∙ sym full ∙ en ∙ sym n1 in
          let two : Holds k (after k s1 i (get_or s1.words i 0) id u1) = stepped k s1 one i (get_or s1.words i 0) id u1 w1 _ l1 (ap (words_at k.layout) (set-get_or s1.words i 0)) (in_work f1 id u1 refl refl refl refl refl)
          (ByRetiredStep (id, works, late, b, c, given, (let y = was in omega arith), rest, list, refl)) in
          let is : u1 ≡ retiring e b c n (f id) = ap (λ (a : Sight). retired_by a a.work.retired n) at ∙ ap (λ (x : List ℕ). retired_by u x n) (sym (ap (λ (y : Bool). cond {A = List ℕ} y (b ∷ u.work.retired) u.work.retired) (ne_eqb n 0 o))) in (
            u1,
            both (get_or s1.words i 0) u1 word two,
            told u1 is en,
          ))
