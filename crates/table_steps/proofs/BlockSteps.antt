-- The steps on BORN and DIED, the freeing of a list of blocks, and the rolling back.
use Rattle.std.proofs.Common.{◌≡◌, ◌≢◌, ℕ, ◌+◌, ◌<◌, ◌≤◌, cond, Bool, true, false, ◌⊎◌, refl, sym, ap, ◌∙◌, subst, inl, inr, ⊎_elim, arith}
use mathlib.Core.Logic.{dite}
use native.Mathlib.Decide.{ℕ_discrete, dec_lt}
use Rattle.table_words.specs.Functions.{update}
use Rattle.table_words.specs.Words.{Node, node}
use Rattle.table_words.specs.Places.{member_of}
use Rattle.table_words.proofs.Functions.{update_same, update_at, update_other, update_cases}
use Rattle.table_state.specs.Ghosts.{Life, Free, Loose, Placed, RolledBack, chained, stands}
use Rattle.table_state.specs.Chains.{Covers, Reaches, IsPlace, IsHead, IsOlder, IsUnborn, ChainsRule}
use Rattle.table_state.proofs.FoundAgain.{chained_stands, placed_chained, standing, finds_on, reach_on, first_block, Moves}
use Rattle.table_state.proofs.ChainSteps.{moves_same}

module _ (K : ℕ → Type 0) (A : ℕ → ℕ → Type 0) (e round : ℕ) (head history : ℕ → Node) (born died : ℕ → ℕ) (life : ℕ → Life) (ch : ChainsRule e round head history born died life) where
  -- a block of the chains that is not born is not retired
  pub undead : (b x m : ℕ) → life b ≡ Placed x m → born b ≡ 0 → died b ≡ 0
  undead b x m u z = elim (dec_lt 0 (died b)) [ yes d ↦ absurd (let t = (ch.dieds b x m u d).0 in omega arith) | no d ↦ omega arith ]

  -- BORN of a block of the chains becomes d, at finished rounds nothing changes
  pub bears : (b x m : ℕ) → life b ≡ Placed x m → born b ≡ 0 → ((q : ℕ) → K q → q ≤ round) → ChainsRule e round head history (update born b (round + 1)) died life × Moves K A e round head history head history born died (update born b (round + 1)) died life life
  bears b x m u z le = let born' : ℕ → ℕ = update born b (round + 1) in let live = undead b x m u z in let other : (c : ℕ) → c ≢ b → born' c ≡ born c = λ c o. update_other born b c (round + 1) o in let here : (c : ℕ) → c ≡ b → born' c ≡ round + 1 = λ c s. update_at born b c (round + 1) s in (
    record {
      heads = ch.heads;
      histories = λ c t y v. ⊎_elim inl (λ o. let l = o.6 in inr (o.0, o.1, o.2, o.3, o.4, dite (ℕ_discrete c b) (λ s _. let h = here c s in omega arith) (λ n. subst (λ (k : ℕ). 0 < k → died o.0 < k) (sym (other c n)) o.5), o.6)) (ch.histories c t y v);
      borns = update_cases (λ c k. k ≤ round + 1) born b (round + 1) (omega arith) (λ c _. ch.borns c);
      dieds = λ c y k v d. dite (ℕ_discrete c b) (λ s. let w : died c ≡ died b = ap died s in absurd (omega arith)) (λ n. subst (λ (i : ℕ). (0 < i) × (i < died c) × (died c ≤ round + 1)) (sym (other c n)) (ch.dieds c y k v d));
      rolled_back = λ c y k v. dite (ℕ_discrete c b) (λ s. absurd (placed_not x m y k (sym u ∙ ap life (sym s) ∙ v))) (λ n. other c n ∙ ch.rolled_back c y k v);
      unborn = λ c. dite (ℕ_discrete c b) (λ s. subst (IsUnborn round (born' c) (died c)) (sym (ap life s ∙ u)) tt) (λ n. subst (λ (i : ℕ). IsUnborn round i (died c) (life c)) (sym (other c n)) (ch.unborn c));
      sides = ch.sides;
    },
    moves_same K A e round head history born died life head history born' died (λ x _. refl) (λ c t y _. refl)
        (λ q c _ _ k _ v. dite (ℕ_discrete c b) (λ s. let w : born c ≡ born b = ap born s in let p = v.0 in absurd (omega arith)) (λ n. subst (λ (i : ℕ). (0 < i) × (i ≤ q) × ((died c ≡ 0) ⊎ (q < died c))) (sym (other c n)) v))
        (λ q c t y k _ v. dite (ℕ_discrete c b) (λ s. let w = here c s in let l = le q k in let p = v.1 in absurd (omega arith)) (λ n. subst (λ (i : ℕ). (0 < i) × (i ≤ q) × ((died c ≡ 0) ⊎ (q < died c))) (other c n) v))
        (λ q c t y _ _ a. a),
  )
    where
      placed_not : (x m y k : ℕ) → Placed x m ≡ RolledBack y k → ⊥
      placed_not x m y k h = cc

  -- BORN of a block of the current round becomes 0 again
  pub unbears : (b x m : ℕ) → life b ≡ Placed x m → born b ≡ round + 1 → ((q : ℕ) → K q → q ≤ round) → ChainsRule e round head history (update born b 0) died life × Moves K A e round head history head history born died (update born b 0) died life life
  unbears b x m u z le = let born' : ℕ → ℕ = update born b 0 in let other : (c : ℕ) → c ≢ b → born' c ≡ born c = λ c o. update_other born b c 0 o in let here : (c : ℕ) → c ≡ b → born' c ≡ 0 = λ c s. update_at born b c 0 s in
      let live : died b ≡ 0 = elim (dec_lt 0 (died b)) [ yes d ↦ absurd (let t = ch.dieds b x m u d in let t1 = t.1 in let t2 = t.2 in omega arith) | no d ↦ omega arith ] in (
        record {
          heads = ch.heads;
          histories = λ c t y v. ⊎_elim inl (λ o. inr (o.0, o.1, o.2, o.3, o.4, dite (ℕ_discrete c b) (λ s p. let h = here c s in absurd (omega arith)) (λ n. subst (λ (k : ℕ). 0 < k → died o.0 < k) (sym (other c n)) o.5), o.6)) (ch.histories c t y v);
          borns = update_cases (λ c k. k ≤ round + 1) born b 0 (omega arith) (λ c _. ch.borns c);
          dieds = λ c y k v d. dite (ℕ_discrete c b) (λ s. let w : died c ≡ died b = ap died s in absurd (omega arith)) (λ n. subst (λ (i : ℕ). (0 < i) × (i < died c) × (died c ≤ round + 1)) (sym (other c n)) (ch.dieds c y k v d));
          rolled_back = λ c y k v. dite (ℕ_discrete c b) (λ s. here c s) (λ n. other c n ∙ ch.rolled_back c y k v);
          unborn = λ c. dite (ℕ_discrete c b) (λ s. subst (IsUnborn round (born' c) (died c)) (sym (ap life s ∙ u)) tt) (λ n. subst (λ (i : ℕ). IsUnborn round i (died c) (life c)) (sym (other c n)) (ch.unborn c));
          sides = ch.sides;
        },
        moves_same K A e round head history born died life head history born' died (λ x _. refl) (λ c t y _. refl)
            (λ q c _ _ k _ v. dite (ℕ_discrete c b) (λ s. let w : born c ≡ born b = ap born s in let p = v.1 in let l = le q k in absurd (omega arith)) (λ n. subst (λ (i : ℕ). (0 < i) × (i ≤ q) × ((died c ≡ 0) ⊎ (q < died c))) (sym (other c n)) v))
            (λ q c t y k _ v. dite (ℕ_discrete c b) (λ s. let w = here c s in let p = v.0 in absurd (omega arith)) (λ n. subst (λ (i : ℕ). (0 < i) × (i ≤ q) × ((died c ≡ 0) ⊎ (q < died c))) (other c n) v))
            (λ q c t y _ _ a. a),
      )

  -- DIED of a living block of an earlier round becomes the current round
  pub kills : (b x m : ℕ) → life b ≡ Placed x m → 0 < born b → born b ≤ round → died b ≡ 0 → ((q : ℕ) → K q → q ≤ round) → ChainsRule e round head history born (update died b (round + 1)) life × Moves K A e round head history head history born died born (update died b (round + 1)) life life
  kills b x m u p l z le = let died' : ℕ → ℕ = update died b (round + 1) in let other : (c : ℕ) → c ≢ b → died' c ≡ died c = λ c o. update_other died b c (round + 1) o in let here : (c : ℕ) → c ≡ b → died' c ≡ round + 1 = λ c s. update_at died b c (round + 1) s in
      let gone : (q c : ℕ) → q ≤ round → (died c ≡ 0) ⊎ (q < died c) → (died' c ≡ 0) ⊎ (q < died' c) = λ q c lq a. dite (ℕ_discrete c b) (λ s. let h = here c s in inr (omega arith)) (λ n. subst (λ (i : ℕ). (i ≡ 0) ⊎ (q < i)) (sym (other c n)) a) in
      let back : (q c : ℕ) → (died' c ≡ 0) ⊎ (q < died' c) → (died c ≡ 0) ⊎ (q < died c) = λ q c a. dite (ℕ_discrete c b) (λ s. inl (ap died s ∙ z)) (λ n. subst (λ (i : ℕ). (i ≡ 0) ⊎ (q < i)) (other c n) a) in (
        record {
          heads = λ y live. ⊎_elim inl (λ o. inr (
            o.0,
            o.1,
            o.2,
            o.3,
            dite (ℕ_discrete o.0 b)
                (λ s. let h = here o.0 s in let w : died o.0 ≡ died b = ap died s in let f = o.4 in (λ d. let g = f d in absurd (omega arith)))
                (λ n d. o.4 d ∙ sym (other o.0 n)),
            dite (ℕ_discrete o.0 b) (λ s _. inr (here o.0 s)) (λ n d. subst (λ (i : ℕ). (i ≡ 0) ⊎ (i ≡ round + 1)) (sym (other o.0 n)) (o.5 d)),
          )) (ch.heads y live);
          histories = λ c t y v. ⊎_elim inl (λ o. let d = o.4 in let n : o.0 ≢ b = λ (s : o.0 ≡ b). let w : died o.0 ≡ died b = ap died s in absurd (omega arith) in
              inr (o.0, o.1, o.2 ∙ ap (λ (i : ℕ). node (o.0 + 1) i) (sym (other o.0 n)), o.3, subst (λ (i : ℕ). 0 < i) (sym (other o.0 n)) o.4, subst (λ (i : ℕ). 0 < born c → i < born c) (sym (other o.0 n)) o.5, subst (λ (i : ℕ). i ≤ round) (sym (other o.0 n)) o.6)) (ch.histories c t y v);
          borns = ch.borns;
          dieds = λ c y k v d. dite (ℕ_discrete c b) (λ s. let h = here c s in let w : born c ≡ born b = ap born s in (omega arith, omega arith, omega arith))
              (λ n. subst (λ (i : ℕ). (0 < born c) × (born c < i) × (i ≤ round + 1)) (sym (other c n)) (ch.dieds c y k v (subst (λ (i : ℕ). 0 < i) (other c n) d)));
          rolled_back = ch.rolled_back;
          unborn = λ c. dite (ℕ_discrete c b) (λ s. subst (IsUnborn round (born c) (died' c)) (sym (ap life s ∙ u)) tt) (λ n. subst (λ (i : ℕ). IsUnborn round (born c) i (life c)) (sym (other c n)) (ch.unborn c));
          sides = ch.sides;
        },
        moves_same K A e round head history born died life head history born died' (λ x _. refl) (λ c t y _. refl)
            (λ q c _ _ k _ v. (v.0, v.1, gone q c (le q k) v.2))
            (λ q c t y k _ v. (v.0, v.1, back q c v.2))
            (λ q c t y lq _ a. gone q c lq a),
      )

  -- The words of a block change that is in no chain: its history words, BORN and DIED; of one that was rolled back DIED alone
  pub resets : (b : ℕ) → ((t : Bool) → chained (life b) t ≡ 0) → (history' : ℕ → Node) (born' died' : ℕ → ℕ) → ((c : ℕ) → c ≢ b → ((t : Bool) → history' (member_of c t) ≡ history (member_of c t)) × (born' c ≡ born c) × (died' c ≡ died c))
      → born' b ≤ round + 1 → ((x m : ℕ) → life b ≡ RolledBack x m → (born' b ≡ 0) × ((t : Bool) → history' (member_of b t) ≡ history (member_of b t)) × ((died' b ≡ 0) ⊎ (died' b ≡ round + 1))) → IsUnborn round (born' b) (died' b) (life b)
      → ChainsRule e round head history' born' died' life × Moves K A e round head history head history' born died born' died' life life
  resets b off history' born' died' same le un idle = let apart : (c : ℕ) (t : Bool) (x : ℕ) → chained (life c) t ≡ x + 1 → c ≢ b = λ c t x u (s : c ≡ b). let y : 0 ≡ x + 1 = sym (off t) ∙ ap (λ (i : ℕ). chained (life i) t) (sym s) ∙ u in absurd (omega arith) in
      let histories : (c : ℕ) (t : Bool) (x : ℕ) → stands (life c) t ≡ x + 1 → history' (member_of c t) ≡ history (member_of c t) = λ c t x u. dite (ℕ_discrete c b)
      (λ s. let y : stands (life b) t ≡ x + 1 = ap (λ (i : ℕ). stands (life i) t) (sym s) ∙ u in subst (λ (i : ℕ). history' (member_of i t) ≡ history (member_of i t)) (sym s) (⊎_elim (λ p. absurd (placed_off p.0 p.1 t (off false) p.2)) (λ p. (un p.0 p.1 p.2).1 t) (standing (life b) t x y)))
      (λ n. (same c n).0 t) in
      let on : (q c : ℕ) (t : Bool) (x : ℕ) → stands (life c) t ≡ x + 1 → Covers born died q c → Covers born' died' q c = λ q c t x u v. ⊎_elim
      (λ p. let n = same c (apart c t x (placed_chained (life c) t x p.0 p.1 p.2 u)) in subst (λ (i : ℕ × ℕ). (0 < i.0) × (i.0 ≤ q) × ((i.1 ≡ 0) ⊎ (q < i.1))) (λ i. (sym n.1 i, sym n.2 i)) v)
      (λ p. let z = ch.rolled_back c p.0 p.1 p.2 in let v0 = v.0 in absurd (omega arith)) (standing (life c) t x u) in
      let back : (q c : ℕ) (t : Bool) (x : ℕ) → chained (life c) t ≡ x + 1 → Covers born' died' q c → Covers born died q c = λ q c t x u v. let n = same c (apart c t x u) in subst (λ (i : ℕ × ℕ). (0 < i.0) × (i.0 ≤ q) × ((i.1 ≡ 0) ⊎ (q < i.1))) (λ i. (n.1 i, n.2 i)) v in
      let sooner : (c : ℕ) (t : Bool) (x : ℕ) → stands (life c) t ≡ x + 1 → (a : ℕ) → (0 < born c → died a < born c) → 0 < born' c → died a < born' c = λ c t x u a f p. dite (ℕ_discrete c b)
      (λ s. ⊎_elim (λ k. absurd (placed_off k.0 k.1 t (ap (λ (i : ℕ). chained (life i) false) s ∙ off false) k.2)) (λ k. let z = (un k.0 k.1 (ap life (sym s) ∙ k.2)).0 in let w : born' c ≡ born' b = ap born' s in absurd (omega arith)) (standing (life c) t x u))
      (λ n. subst (λ (i : ℕ). died a < i) (sym (same c n).1) (f (subst (λ (i : ℕ). 0 < i) (same c n).1 p))) in
      let again : (q z c : ℕ) (l : Node) → Reaches history born died life q z c l → Reaches history' born' died' life q z c l = λ q z c l h. reach_on history history' born died born' died' life life q z (λ a t u. (u, histories a t z u)) c (λ t u. on q c t z u) l h in (
        record {
          heads = λ y live. ⊎_elim inl (λ o. let n = (same o.0 (apart o.0 o.1 y o.3)).2 in inr (o.0, o.1, o.2, o.3, (λ d. o.4 d ∙ sym n), λ d. subst (λ (i : ℕ). (i ≡ 0) ⊎ (i ≡ round + 1)) (sym n) (o.5 d))) (ch.heads y live);
          histories = λ c t x u. subst (IsOlder round died' life x (born' c)) (sym (histories c t x u)) (⊎_elim inl (λ o. let n = (same o.0 (apart o.0 o.1 x o.3)).2 in inr (o.0, o.1, o.2 ∙ ap (λ (i : ℕ). node (o.0 + 1) i) (sym n), o.3, subst (λ (i : ℕ). 0 < i) (sym n) o.4, subst (λ (i : ℕ). 0 < born' c → i < born' c) (sym n) (sooner c t x u o.0 o.5), subst (λ (i : ℕ). i ≤ round) (sym n) o.6)) (ch.histories c t x u));
          borns = λ c. dite (ℕ_discrete c b) (λ s. subst (λ (i : ℕ). born' i ≤ round + 1) (sym s) le) (λ n. subst (λ (i : ℕ). i ≤ round + 1) (sym (same c n).1) (ch.borns c));
          dieds = λ c x m u d. let n = same c (apart c false x (ap (λ (k : Life). chained k false) u)) in subst (λ (i : ℕ × ℕ). (0 < i.0) × (i.0 < i.1) × (i.1 ≤ round + 1)) (λ i. (sym n.1 i, sym n.2 i)) (ch.dieds c x m u (subst (λ (i : ℕ). 0 < i) n.2 d));
          rolled_back = λ c x m u. dite (ℕ_discrete c b) (λ s. ap born' s ∙ (un x m (ap life (sym s) ∙ u)).0) (λ n. (same c n).1 ∙ ch.rolled_back c x m u);
          unborn = λ c. dite (ℕ_discrete c b) (λ s. subst (λ (i : ℕ). IsUnborn round (born' i) (died' i) (life i)) (sym s) idle) (λ n. subst (λ (i : ℕ × ℕ). IsUnborn round i.0 i.1 (life c)) (λ i. (sym (same c n).1 i, sym (same c n).2 i)) (ch.unborn c));
          sides = ch.sides;
        },
        record {
          heads = λ q x c k live h. again q x c (head x) h;
          histories = λ q c t x a k _ u h. subst (λ (n : Node). Reaches history' born' died' life q x a n) (sym (histories c t x u)) (again q x a (history (member_of c t)) h);
          on = λ q c t x k u v. on q c t x u v;
          back = λ q c t x k u v. back q c t x u v;
          stays = λ q b t x k c u. u;
          fresh = λ q b t x k c u. u;
          stand = λ q b t x k a u. u;
          later = λ c t x u. let e : (history' (member_of c t)).died ≡ (history (member_of c t)).died = ap (λ (n : Node). n.died) (histories c t x u) in omega arith;
          alive = λ q c t x l u a. dite (ℕ_discrete c b)
              (λ s. ⊎_elim (λ p. absurd (placed_off p.0 p.1 t (ap (λ (i : ℕ). chained (life i) false) s ∙ off false) p.2)) (λ p. subst (λ (i : ℕ). (died' i ≡ 0) ⊎ (q < died' i)) (sym s) (⊎_elim inl (λ (z : died' b ≡ round + 1). inr (omega arith)) (un p.0 p.1 (ap life (sym s) ∙ p.2)).2)) (standing (life c) t x u))
              (λ n. subst (λ (i : ℕ). (i ≡ 0) ⊎ (q < i)) (sym (same c n).2) a);
        },
      )
    where
      placed_off : {l : Life} (x m : ℕ) (t : Bool) → chained l false ≡ 0 → l ≡ Placed x m → ⊥
      placed_off x m t z p = let y : x + 1 ≡ 0 = sym (ap (λ (k : Life). chained k false) p) ∙ z in absurd (omega arith)

  -- a list of blocks that no other word names, and that no such round has, leaves the chains at once
  pub frees : (gone : ℕ → Bool) → ((c : ℕ) → gone c ≡ true → (q : ℕ) → K q → ((t : Bool) (x : ℕ) → chained (life c) t ≡ x + 1 → (died c ≡ 0) ⊎ (q < died c) → ⊥) × (A q c → ⊥)) → ((x c : ℕ) → IsPlace e life x → (head x).block ≡ c + 1 → gone c ≡ true → ⊥)
      → ((b : ℕ) (t : Bool) (x c : ℕ) → stands (life b) t ≡ x + 1 → gone b ≡ false → (history (member_of b t)).block ≡ c + 1 → gone c ≡ true → ⊥) → ((c : ℕ) → gone c ≡ true → IsUnborn round (born c) (died c) Free)
      → ChainsRule e round head history born died (λ c. cond (gone c) Free (life c)) × Moves K A e round head history head history born died born died life (λ c. cond (gone c) Free (life c))
  frees gone drained heads histories idle = let life' : ℕ → Life = λ c. cond (gone c) Free (life c) in
      let still : (c : ℕ) → gone c ≡ false → life' c ≡ life c = λ c g. ap (λ i. cond i Free (life c)) g in
      let left : (c : ℕ) (t : Bool) (x : ℕ) → stands (life' c) t ≡ x + 1 → gone c ≡ false = λ c t x u. by_bool (gone c) (λ g. let z : 0 ≡ x + 1 = sym (ap (λ i. stands (cond i Free (life c)) t) g) ∙ u in absurd (omega arith)) in
      let stand : (c : ℕ) (t : Bool) (x : ℕ) → gone c ≡ false → stands (life c) t ≡ x + 1 → stands (life' c) t ≡ x + 1 = λ c t x g u. ap (λ (k : Life). stands k t) (still c g) ∙ u in
      let chain : (c : ℕ) (t : Bool) (x : ℕ) → gone c ≡ false → chained (life c) t ≡ x + 1 → chained (life' c) t ≡ x + 1 = λ c t x g u. ap (λ (k : Life). chained k t) (still c g) ∙ u in
      let live : (x : ℕ) → IsPlace e life' x → IsPlace e life x = λ x l. ⊎_elim inl (λ k. let g = left k.0 false k.3 k.5 in inr (k.0, k.1, k.2, k.3, k.4, sym (ap (λ (l : Life). stands l false) (still k.0 g)) ∙ k.5)) l in
      let again : (q x c : ℕ) (l : Node) → ((b : ℕ) → l.block ≡ b + 1 → gone b ≡ false) → Reaches history born died life q x c l → Reaches history born died life' q x c l = λ q x c l off h. (
        h.0,
        finds_on history history born died born died life life' q x (λ b t. gone b ≡ false)
            (λ b t g u. (stand b t x g u, refl)) (λ b t c u g h n k. by_bool (gone c) (histories b t x c h g n)) c (λ t u v. v) h.0 l (λ b t n u. off b n) h.1,
      ) in (
        record {
          heads = λ x l. ⊎_elim inl (λ o. inr (o.0, o.1, o.2, chain o.0 o.1 x (by_bool (gone o.0) (heads x o.0 (live x l) o.2)) o.3, o.4, o.5)) (ch.heads x (live x l));
          histories = λ b t x u. let g = left b t x u in let u' = sym (ap (λ (k : Life). stands k t) (still b g)) ∙ u in
              ⊎_elim inl (λ o. inr (o.0, o.1, o.2, chain o.0 o.1 x (by_bool (gone o.0) (histories b t x o.0 u' g (ap (λ (n : Node). n.block) o.2))) o.3, o.4, o.5, o.6)) (ch.histories b t x u');
          borns = ch.borns;
          dieds = λ b x m u d. let g = left b false x (ap (λ (k : Life). stands k false) u) in ch.dieds b x m (sym (still b g) ∙ u) d;
          rolled_back = λ b x m u. let g = left b false x (ap (λ (k : Life). stands k false) u) in ch.rolled_back b x m (sym (still b g) ∙ u);
          unborn = λ c. now_free c (gone c) refl;
          sides = λ b t u x h k. let g = left b t x h in ch.sides b t u x (sym (ap (λ (l : Life). stands l t) (still b g)) ∙ h) (sym (ap (λ (l : Life). stands l u) (still b g)) ∙ k);
        },
        record {
          heads = λ q x c k l h. again q x c (head x) (λ b n. by_bool (gone b) (heads x b l n)) h;
          histories = λ q b t x c k a u h. again q x c (history (member_of b t)) (λ d n. by_bool (gone d) (histories b t x d u (by_bool (gone b) (λ g. (drained b g q k).1 a)) n)) h;
          on = λ q b t x k u c. c;
          back = λ q b t x k u c. c;
          stays = λ q b t x k v u. chain b t x (by_bool (gone b) (λ g. (drained b g q k).0 t x u v.2)) u;
          fresh = λ q b t x k v u. let g = left b t x (chained_stands (life' b) t x u) in sym (ap (λ (l : Life). chained l t) (still b g)) ∙ u;
          stand = λ q b t x k a u. stand b t x (by_bool (gone b) (λ g. (drained b g q k).1 a)) u;
          later = λ b t x u. omega arith;
          alive = λ q b t x l u a. a;
        },
      )
    where
      now_free : (c : ℕ) (t : Bool) → gone c ≡ t → IsUnborn round (born c) (died c) (cond t Free (life c))
      now_free c true e = idle c e
      now_free c false e = ch.unborn c

      by_bool : (g : Bool) → (g ≡ true → ⊥) → g ≡ false
      by_bool true h = absurd (h refl)
      by_bool false h = refl

  -- a block that is not born leaves the chain of its first place, and is in none
  pub undoes : (b x m : ℕ) → life b ≡ Placed x m → born b ≡ 0 → (head x).block ≡ b + 1 → ((z : ℕ) → z ≢ x → IsPlace e life z → (head z).block ≡ b + 1 → ⊥)
      → ChainsRule e round (update head x (history (member_of b false))) history born died (update life b (RolledBack x m)) × Moves K A e round head history (update head x (history (member_of b false))) history born died born died life (update life b (RolledBack x m))
  undoes b x m u z is off = let life' : ℕ → Life = update life b (RolledBack x m) in let l' : Node = history (member_of b false) in let dead = undead b x m u z in
      let now : life' b ≡ RolledBack x m = update_same life b (RolledBack x m) in let still : (c : ℕ) → c ≢ b → life' c ≡ life c = λ c o. update_other life b c (RolledBack x m) o in
      let same : (c : ℕ) (t : Bool) → stands (life' c) t ≡ stands (life c) t = λ c t. dite (ℕ_discrete c b) (λ s. ap (λ (k : Life). stands k t) (ap life' s ∙ now) ∙ sym (ap (λ (k : Life). stands k t) (ap life s ∙ u))) (λ o. ap (λ (k : Life). stands k t) (still c o)) in
      let chain : (c : ℕ) (t : Bool) (y : ℕ) → c ≢ b → chained (life c) t ≡ y + 1 → chained (life' c) t ≡ y + 1 = λ c t y o h. ap (λ (k : Life). chained k t) (still c o) ∙ h in
      let here : stands (life b) false ≡ x + 1 = ap (λ (k : Life). stands k false) u in
      let live : (y : ℕ) → IsPlace e life' y → IsPlace e life y = λ y l. ⊎_elim inl (λ k. inr (k.0, k.1, k.2, k.3, k.4, sym (same k.0 false) ∙ k.5)) l in
      let older : (y n : ℕ) (l : Node) → IsOlder round died life y n l → IsOlder round died life' y n l = λ y n l o. ⊎_elim inl (λ k. let d = k.4 in inr (k.0, k.1, k.2, chain k.0 k.1 y (λ (s : k.0 ≡ b). let w : died k.0 ≡ died b = ap died s in absurd (omega arith)) k.3, k.4, k.5, k.6)) o in
      let again : (q y c : ℕ) (l : Node) → Reaches history born died life q y c l → Reaches history born died life' q y c l = λ q y c l h. reach_on history history born died born died life life' q y (λ a t v. (same a t ∙ v, refl)) c (λ t v k. k) l h in (
        record {
          heads = λ y l. dite (ℕ_discrete y x)
              (λ s. subst (IsHead round died life' y) (sym (update_at head x y l' s)) (subst (λ (i : ℕ). IsHead round died life' i l') (sym s) (head_of life' x (born b) l' (older x (born b) l' (ch.histories b false x here)))))
              (λ o. subst (IsHead round died life' y) (sym (update_other head x y l' o)) (⊎_elim inl (λ k. inr (k.0, k.1, k.2, chain k.0 k.1 y (λ (s : k.0 ≡ b). off y o (live y l) (k.2 ∙ ap (λ (i : ℕ). i + 1) s)) k.3, k.4, k.5)) (ch.heads y (live y l))));
          histories = λ c t y v. older y (born c) (history (member_of c t)) (ch.histories c t y (sym (same c t) ∙ v));
          borns = ch.borns;
          dieds = λ c y k v d. dite (ℕ_discrete c b) (λ s. let w : died c ≡ died b = ap died s in absurd (omega arith)) (λ o. ch.dieds c y k (sym (still c o) ∙ v) d);
          rolled_back = λ c y k v. dite (ℕ_discrete c b) (λ s. ap born s ∙ z) (λ o. ch.rolled_back c y k (sym (still c o) ∙ v));
          unborn = λ c. dite (ℕ_discrete c b) (λ s. subst (IsUnborn round (born c) (died c)) (sym (ap life' s ∙ now)) tt) (λ o. subst (IsUnborn round (born c) (died c)) (sym (still c o)) (ch.unborn c));
          sides = λ c t i y h k. ch.sides c t i y (sym (same c t) ∙ h) (sym (same c i) ∙ k);
        },
        record {
          heads = λ q y c k _ h. dite (ℕ_discrete y x)
              (λ s. subst (λ (n : Node). Reaches history born died life' q y c n) (sym (update_at head x y l' s)) (again q y c l' (past q y c s (first_block history born died life q y c b (head y) (ap (λ (i : ℕ). (head i).block) s ∙ is) h))))
              (λ o. subst (λ (n : Node). Reaches history born died life' q y c n) (sym (update_other head x y l' o)) (again q y c (head y) h));
          histories = λ q c t y a k _ v h. again q y a (history (member_of c t)) h;
          on = λ q b t x k u c. c;
          back = λ q b t x k u c. c;
          stays = λ q c t y k v h. chain c t y (λ (s : c ≡ b). let w : born c ≡ born b = ap born s in let p = v.0 in absurd (omega arith)) h;
          fresh = λ q c t y k v h. sym (ap (λ (i : Life). chained i t) (still c (λ (s : c ≡ b). let w : born c ≡ born b = ap born s in let p = v.0 in absurd (omega arith)))) ∙ h;
          stand = λ q c t y k a h. same c t ∙ h;
          later = λ b t x u. omega arith;
          alive = λ q b t x l u a. a;
        },
      )
    where
      head_of : (f : ℕ → Life) (y n : ℕ) (l : Node) → IsOlder round died f y n l → IsHead round died f y l
      head_of f y n l (inl z) = inl z
      head_of f y n l (inr o) = inr (o.0, o.1, ap (λ (m : Node). m.block) o.2, o.3, (λ _. ap (λ (m : Node). m.died) o.2), λ z. let d = o.4 in let y : died o.0 ≡ 0 = sym (ap (λ (m : Node). m.died) o.2) ∙ z in absurd (omega arith))

      past : (q y c : ℕ) → y ≡ x → (t : Bool) × (stands (life b) t ≡ y + 1) × (((b ≡ c) × Covers born died q c) ⊎ Reaches history born died life q y c (history (member_of b t))) → Reaches history born died life q y c (history (member_of b false))
      past q y c s h = ⊎_elim (λ k. let w : born b ≡ born c = ap born k.0 in let p = k.1.0 in absurd (omega arith)) (λ r. subst (λ (i : Bool). Reaches history born died life q y c (history (member_of b i))) (ch.sides b h.0 false x (h.1 ∙ ap (λ (i : ℕ). i + 1) s) (ap (λ (k : Life). stands k false) u)) r) h.2

  -- the current round is finished: every retired block's head has its round
  pub ends_round : ((x b : ℕ) → IsPlace e life x → (head x).block ≡ b + 1 → (head x).died ≡ 0 → died b ≡ 0) → ChainsRule e (round + 1) head history born died life
  ends_round stamped = record {
    heads = λ x l. ⊎_elim inl (λ o. inr (o.0, o.1, o.2, o.3, o.4, λ z. inl (stamped x o.0 l o.2 z))) (ch.heads x l);
    histories = λ b t x u. ⊎_elim inl (λ o. let l = o.6 in inr (o.0, o.1, o.2, o.3, o.4, o.5, omega arith)) (ch.histories b t x u);
    borns = λ b. let l = ch.borns b in omega arith;
    dieds = λ b x m u d. let t = ch.dieds b x m u d in let l = t.2 in (t.0, t.1, omega arith);
    rolled_back = ch.rolled_back;
    unborn = λ b. later (born b) (died b) (life b) (ch.unborn b);
    sides = ch.sides;
  }
    where
      later : (n d : ℕ) (l : Life) → IsUnborn round n d l → IsUnborn (round + 1) n d l
      later n d Free h = ⊎_elim inl (λ k. let l = k.1 in inr (k.0, omega arith)) h
      later n d (Loose u) h = h
      later n d (Placed x m) h = h
      later n d (RolledBack x m) h = h

  -- what a block that has its last round is once it is free
  pub gives_up : (b : ℕ) → 0 < died b → died b ≤ round → IsUnborn round (born b) (died b) Free
  gives_up b p l = by (life b) refl
    where
      by : (k : Life) → life b ≡ k → IsUnborn round (born b) (died b) Free
      by Free e = subst (IsUnborn round (born b) (died b)) e (ch.unborn b)
      by (Loose u) e = inl (subst (IsUnborn round (born b) (died b)) e (ch.unborn b))
      by (Placed x m) e = inr ((ch.dieds b x m e p).1, l)
      by (RolledBack x m) e = inl (ch.rolled_back b x m e)
