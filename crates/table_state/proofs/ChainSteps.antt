-- The steps on chains: what each keeps, and that the chains are in order after it.
use Rattle.std.proofs.Common.{◌≡◌, ◌≢◌, ℕ, ◌+◌, ◌<◌, ◌≤◌, Bool, true, false, List, [], ◌∷◌, ◌⊎◌, refl, sym, ap, ◌∙◌, subst, inl, inr, ⊎_elim, arith}
use mathlib.Core.Logic.{dite}
use native.Mathlib.Decide.{ℕ_discrete}
use Rattle.table_words.specs.Functions.{update}
use Rattle.table_words.specs.Words.{Node, node}
use Rattle.table_words.specs.Places.{member_of, child_place}
use Rattle.table_words.proofs.Functions.{update_same, update_at, update_other, update_cases}
use Rattle.table_words.proofs.PlaceNumbers.{member_one}
use Rattle.table_state.specs.Ghosts.{Life, Loose, Placed, chained, stands}
use Rattle.table_state.specs.Chains.{Covers, Finds, Reaches, IsPlace, IsHead, IsOlder, IsUnborn, ChainsRule}
use Rattle.table_state.proofs.FoundAgain.{one_more, placed, chained_stands, reach_on, none_found, first_block, Moves}

module _ (K : ℕ → Type 0) (A : ℕ → ℕ → Type 0) (e round : ℕ) (head history : ℕ → Node) (born died : ℕ → ℕ) (life : ℕ → Life) where
  -- where all that stands keeps its words
  pub moves_same : (head' history' : ℕ → Node) (born' died' : ℕ → ℕ) → ((x : ℕ) → IsPlace e life x → head' x ≡ head x) → ((b : ℕ) (t : Bool) (x : ℕ) → stands (life b) t ≡ x + 1 → history' (member_of b t) ≡ history (member_of b t))
      → ((q b : ℕ) (t : Bool) (x : ℕ) → K q → stands (life b) t ≡ x + 1 → Covers born died q b → Covers born' died' q b) → ((q b : ℕ) (t : Bool) (x : ℕ) → K q → chained (life b) t ≡ x + 1 → Covers born' died' q b → Covers born died q b)
      → ((q b : ℕ) (t : Bool) (x : ℕ) → q ≤ round → stands (life b) t ≡ x + 1 → (died b ≡ 0) ⊎ (q < died b) → (died' b ≡ 0) ⊎ (q < died' b)) → Moves K A e round head history head' history' born died born' died' life life
  moves_same head' history' born' died' hs ts on back alive = record {
    heads = λ q x c k l h. subst (λ (n : Node). Reaches history' born' died' life q x c n) (sym (hs x l)) (again q x c (head x) k h);
    histories = λ q b t x c k _ u h. subst (λ (n : Node). Reaches history' born' died' life q x c n) (sym (ts b t x u)) (again q x c (history (member_of b t)) k h);
    on = on;
    back = back;
    stays = λ q b t x k c u. u;
    fresh = λ q b t x k c u. u;
    stand = λ q b t x k a u. u;
    later = λ b t x u. let e : (history' (member_of b t)).died ≡ (history (member_of b t)).died = ap (λ (n : Node). n.died) (ts b t x u) in omega arith;
    alive = alive;
  }
    where
      again : (q x c : ℕ) (l : Node) → K q → Reaches history born died life q x c l → Reaches history' born' died' life q x c l
      again q x c l k h = reach_on history history' born died born' died' life life q x (λ b t u. (u, ts b t x u)) c (λ t u. on q c t x k u) l h

  -- where one head changes
  pub moves_head : (x0 : ℕ) (l : Node) → ((q c : ℕ) → K q → Reaches history born died life q x0 c (head x0) → Reaches history born died life q x0 c l) → Moves K A e round head history (update head x0 l) history born died born died life life
  moves_head x0 l find = record {
    heads = λ q x c k _ h. dite (ℕ_discrete x x0)
        (λ s. subst (λ (n : Node). Reaches history born died life q x c n) (sym (update_at head x0 x l s)) (subst (λ (y : ℕ). Reaches history born died life q y c l) (sym s) (find q c k (subst (λ (y : ℕ). Reaches history born died life q y c (head y)) s h))))
        (λ o. subst (λ (n : Node). Reaches history born died life q x c n) (sym (update_other head x0 x l o)) h);
    histories = λ q b t x c k _ u h. h;
    on = λ q b t x k u c. c;
    back = λ q b t x k u c. c;
    stays = λ q b t x k c u. u;
    fresh = λ q b t x k c u. u;
    stand = λ q b t x k a u. u;
    later = λ b t x u. omega arith;
    alive = λ q b t x l u a. a;
  }

  module _ (ch : ChainsRule e round head history born died life) where
    pub chains_head : (x0 : ℕ) (l : Node) → IsHead round died life x0 l → ChainsRule e round (update head x0 l) history born died life
    chains_head x0 l ok = record {
      heads = update_cases (λ x n. IsPlace e life x → IsHead round died life x n) head x0 l (λ _. ok) (λ x _. ch.heads x);
      histories = ch.histories;
      borns = ch.borns;
      dieds = ch.dieds;
      rolled_back = ch.rolled_back;
      unborn = ch.unborn;
      sides = ch.sides;
    }

    -- an older word may be a head
    pub older_head : (x n : ℕ) (l : Node) → IsOlder round died life x n l → IsHead round died life x l
    older_head x n l (inl z) = inl z
    older_head x n l (inr o) = inr (o.0, o.1, ap (λ (m : Node). m.block) o.2, o.3, (λ _. ap (λ (m : Node). m.died) o.2), λ z. let d = o.4 in let y : died o.0 ≡ 0 = sym (ap (λ (m : Node). m.died) o.2) ∙ z in absurd (omega arith))

    -- a head names a block of its place
    pub named : (x b : ℕ) (l : Node) → IsHead round died life x l → l.block ≡ b + 1 → (t : Bool) × (chained (life b) t ≡ x + 1)
    named x b l (inl z) n = let y : 0 ≡ b + 1 = sym (ap (λ (m : Node). m.block) z) ∙ n in absurd (omega arith)
    named x b l (inr o) n = (o.1, subst (λ (y : ℕ). chained (life y) o.1 ≡ x + 1) (one_more o.0 b (sym o.2 ∙ n)) o.3)

    pub older_named : (x b n : ℕ) (l : Node) → IsOlder round died life x n l → l.block ≡ b + 1 → (t : Bool) × (chained (life b) t ≡ x + 1)
    older_named x b n l o h = named x b l (older_head x n l o) h

    -- below a block that was retired by the round nothing bisects at it
    pub dead_end : (q x c : ℕ) (ts : List (ℕ × Bool)) (l : Node) (b : ℕ) (t : Bool) → l.block ≡ b + 1 → chained (life b) t ≡ x + 1 → 0 < died b → died b ≤ q → Finds history born died life q x c l ts → ⊥
    dead_end q x c [] l b t n u d le h = h
    dead_end q x c (r ∷ ts) l b t n u d le h = let same : r.0 ≡ b = one_more r.0 b (sym h.0 ∙ n) in ⊎_elim
        (λ k. let z : c ≡ b = sym k.0 ∙ same in let y : died c ≡ died b = ap died z in ⊎_elim (λ (v : died c ≡ 0). absurd (omega arith)) (λ (v : q < died c). absurd (omega arith)) k.1.2)
        (λ f. let p = placed (life b) t x u in let y = ch.dieds b p.0 p.1 p.2 d in let y0 = y.0 in let y1 = y.1 in let b' : born r.0 ≡ born b = ap born same in ⊎_elim
        (λ z. none_found history born died life q x c (history (member_of r.0 r.1)) (ap (λ (m : Node). m.block) z) (ts, f))
        (λ o. let g = o.5 in let g' = g (omega arith) in dead_end q x c ts (history (member_of r.0 r.1)) o.0 o.1 (ap (λ (m : Node). m.block) o.2) o.3 o.4 (omega arith) f)
        (ch.histories r.0 r.1 x h.1)) h.2

    -- the owner writes the round into the head of a retired block
    pub stamps : (x b : ℕ) (t : Bool) → head x ≡ node (b + 1) 0 → chained (life b) t ≡ x + 1 → 0 < died b → ChainsRule e round (update head x (node (b + 1) (died b))) history born died life × Moves K A e round head history (update head x (node (b + 1) (died b))) history born died born died life life
    stamps x b t is u d = (
      chains_head x (node (b + 1) (died b)) (inr (b, t, refl, u, (λ _. refl), λ z. absurd (omega arith))),
      moves_head x (node (b + 1) (died b)) (λ q c k h. again q c (head x) (ap (λ (m : Node). m.block) is) h.0 h.1),
    )
      where
        again : (q c : ℕ) (l : Node) → l.block ≡ b + 1 → (ts : List (ℕ × Bool)) → Finds history born died life q x c l ts → Reaches history born died life q x c (node (b + 1) (died b))
        again q c l z [] f = absurd f
        again q c l z (r ∷ ts) f = (r ∷ ts, (sym z ∙ f.0, f.1, f.2))

    -- a head is led past a block that bisects at no such round: a cut, and the rolling back of a second member's link
    pub skips : (x b : ℕ) (t : Bool) → (head x).block ≡ b + 1 → stands (life b) t ≡ x + 1 → ((q : ℕ) → K q → Covers born died q b → ⊥)
        → ChainsRule e round (update head x (history (member_of b t))) history born died life × Moves K A e round head history (update head x (history (member_of b t))) history born died born died life life
    skips x b t is u not = (
      chains_head x (history (member_of b t)) (older_head x (born b) (history (member_of b t)) (ch.histories b t x u)),
      moves_head x (history (member_of b t)) (λ q c k h. past q c k (first_block history born died life q x c b (head x) is h)),
    )
      where
        past : (q c : ℕ) → K q → (t : Bool) × (stands (life b) t ≡ x + 1) × (((b ≡ c) × Covers born died q c) ⊎ Reaches history born died life q x c (history (member_of b t))) → Reaches history born died life q x c (history (member_of b t))
        past q c k h = ⊎_elim (λ z. absurd (not q k (subst (Covers born died q) (sym z.0) z.1))) (λ r. subst (λ (y : Bool). Reaches history born died life q x c (history (member_of b y))) (ch.sides b h.0 t x h.1 u) r) h.2

    -- a history word is led past a block that bisects at no such round
    pub cuts_older : (a b x : ℕ) (u t : Bool) → stands (life a) u ≡ x + 1 → history (member_of a u) ≡ node (b + 1) (died b) → chained (life b) t ≡ x + 1 → 0 < died b → ((q : ℕ) → K q → Covers born died q b → ⊥)
        → ChainsRule e round head (update history (member_of a u) (history (member_of b t))) born died life × Moves K A e round head history head (update history (member_of a u) (history (member_of b t))) born died born died life life
    cuts_older a b x u t ua is tb d not = let history' : ℕ → Node = update history (member_of a u) (history (member_of b t)) in let find : (q c z : ℕ) (l : Node) → K q → Reaches history born died life q z c l → Reaches history' born died life q z c l = λ q c z l k h. past q c z k h.0 l h.1 in (
      record {
        heads = ch.heads;
        histories = λ c v z w. dite (ℕ_discrete (member_of c v) (member_of a u))
            (λ s. let p = member_one c a v u s in let zx : z ≡ x = one_more z x (sym w ∙ ap (λ (y : ℕ × Bool). stands (life y.0) y.1) (λ i. (p.0 i, p.1 i)) ∙ ua) in
            subst (λ (y : ℕ × ℕ × Node). IsOlder round died life y.0 (born y.1) y.2) (λ i. (sym zx i, sym p.0 i, sym (update_at history (member_of a u) (member_of c v) (history (member_of b t)) s) i)) (shorter (ch.histories a u x ua) (ch.histories b t x (chained_stands (life b) t x tb))))
            (λ o. subst (IsOlder round died life z (born c)) (sym (update_other history (member_of a u) (member_of c v) (history (member_of b t)) o)) (ch.histories c v z w));
        borns = ch.borns;
        dieds = ch.dieds;
        rolled_back = ch.rolled_back;
        unborn = ch.unborn;
        sides = ch.sides;
      },
      record {
        heads = λ q z c k l h. find q c z (head z) k h;
        histories = λ q y v z c k _ w h. dite (ℕ_discrete (member_of y v) (member_of a u))
            (λ s. subst (λ (m : Node). Reaches history' born died life q z c m) (sym (update_at history (member_of a u) (member_of y v) (history (member_of b t)) s))
            (find q c z (history (member_of b t)) k (step q c z k (member_one y a v u s) w (subst (λ (i : ℕ). Reaches history born died life q z c (history i)) s h))))
            (λ o. subst (λ (m : Node). Reaches history' born died life q z c m) (sym (update_other history (member_of a u) (member_of y v) (history (member_of b t)) o)) (find q c z (history (member_of y v)) k h));
        on = λ q b t x k u c. c;
        back = λ q b t x k u c. c;
        stays = λ q b t x k c u. u;
        fresh = λ q b t x k c u. u;
        stand = λ q b t x k a u. u;
        later = λ c v z w. dite (ℕ_discrete (member_of c v) (member_of a u))
            (λ s. let e : (update history (member_of a u) (history (member_of b t)) (member_of c v)).died ≡ (history (member_of b t)).died = ap (λ (n : Node). n.died) (update_at history (member_of a u) (member_of c v) (history (member_of b t)) s) in
            let f : (history (member_of c v)).died ≡ (history (member_of a u)).died = ap (λ (i : ℕ). (history i).died) s in
            let i : (history (member_of a u)).died ≡ died b = ap (λ (n : Node). n.died) is in
            let p = placed (life b) t x tb in
            let r = ch.dieds b p.0 p.1 p.2 d in let r0 = r.0 in let r1 = r.1 in
            ⊎_elim (λ n. let k : (history (member_of b t)).died ≡ 0 = ap (λ (n : Node). n.died) n in omega arith)
            (λ o. let k : (history (member_of b t)).died ≡ died o.0 = ap (λ (n : Node). n.died) o.2 in let m = o.5 r0 in omega arith)
            (ch.histories b t x (chained_stands (life b) t x tb)))
            (λ o. let e : (update history (member_of a u) (history (member_of b t)) (member_of c v)).died ≡ (history (member_of c v)).died = ap (λ (n : Node). n.died) (update_other history (member_of a u) (member_of c v) (history (member_of b t)) o) in omega arith);
        alive = λ q b t x l u a. a;
      },
    )
      where
        shorter : IsOlder round died life x (born a) (history (member_of a u)) → IsOlder round died life x (born b) (history (member_of b t)) → IsOlder round died life x (born a) (history (member_of b t))
        shorter (inl z) o = let y : 0 ≡ b + 1 = sym (ap (λ (m : Node). m.block) z) ∙ ap (λ (m : Node). m.block) is in absurd (omega arith)
        shorter (inr v) (inl z) = inl z
        shorter (inr v) (inr o) = let c : v.0 ≡ b = one_more v.0 b (sym (ap (λ (m : Node). m.block) v.2) ∙ ap (λ (m : Node). m.block) is) in let g : died v.0 ≡ died b = ap died c in
            let p = placed (life b) t x tb in let y = ch.dieds b p.0 p.1 p.2 d in let y0 = y.0 in let y1 = y.1 in
            inr (o.0, o.1, o.2, o.3, o.4, (λ n. let m = v.5 n in let k = o.5 y0 in omega arith), o.6)

        at_x : (y z : ℕ) (v : Bool) → (y ≡ a) × (v ≡ u) → stands (life y) v ≡ z + 1 → z ≡ x
        at_x y z v p w = one_more z x (sym w ∙ ap (λ (i : ℕ × Bool). stands (life i.0) i.1) (λ i. (p.0 i, p.1 i)) ∙ ua)

        step : (q c z : ℕ) → K q → {y : ℕ} {v : Bool} → (y ≡ a) × (v ≡ u) → stands (life y) v ≡ z + 1 → Reaches history born died life q z c (history (member_of a u)) → Reaches history born died life q z c (history (member_of b t))
        step q c z k {y = y} {v = v} p w h = let r = first_block history born died life q z c b (history (member_of a u)) (ap (λ (m : Node). m.block) is) h in let zx = at_x y z v p w in
            ⊎_elim (λ g. absurd (not q k (subst (Covers born died q) (sym g.0) g.1))) (λ g. subst (λ (i : Bool). Reaches history born died life q z c (history (member_of b i))) (ch.sides b r.0 t z r.1 (chained_stands (life b) t x tb ∙ ap (λ (i : ℕ). i + 1) (sym zx))) g) r.2

        past : (q c z : ℕ) → K q → (ts : List (ℕ × Bool)) (l : Node) → Finds history born died life q z c l ts → Reaches (update history (member_of a u) (history (member_of b t))) born died life q z c l
        past q c z k [] l h = absurd h
        past q c z k (r ∷ []) l h = ⊎_elim (λ g. (r ∷ [], (h.0, h.1, inl g))) (λ f. absurd f) h.2
        past q c z k (r ∷ v ∷ vs) l h = ⊎_elim (λ g. (r ∷ [], (h.0, h.1, inl g)))
            (λ f. dite (ℕ_discrete (member_of r.0 r.1) (member_of a u))
            (λ s. let p = member_one r.0 a r.1 u s in let zx = at_x r.0 z r.1 p h.1 in
            let same : v.0 ≡ b = one_more v.0 b (sym f.0 ∙ ap (λ (i : ℕ). (history i).block) s ∙ ap (λ (m : Node). m.block) is) in
            let side : v.1 ≡ t = ch.sides b v.1 t z (subst (λ (i : ℕ). stands (life i) v.1 ≡ z + 1) same f.1) (chained_stands (life b) t x tb ∙ ap (λ (i : ℕ). i + 1) (sym zx)) in
            let g : Finds history born died life q z c (history (member_of v.0 v.1)) vs = ⊎_elim (λ y. absurd (not q k (subst (Covers born died q) (sym y.0 ∙ same) y.1))) (λ y. y) f.2 in
            let w = past q c z k vs (history (member_of v.0 v.1)) g in
            (r ∷ w.0, (h.0, h.1, inr (subst (λ (m : Node). Finds (update history (member_of a u) (history (member_of b t))) born died life q z c m w.0) (ap (λ (i : ℕ × Bool). history (member_of i.0 i.1)) (λ i. (same i, side i)) ∙ sym (update_at history (member_of a u) (member_of r.0 r.1) (history (member_of b t)) s)) w.1))))
            (λ o. let w = past q c z k (v ∷ vs) (history (member_of r.0 r.1)) f in (r ∷ w.0, (h.0, h.1, inr (subst (λ (m : Node). Finds (update history (member_of a u) (history (member_of b t))) born died life q z c m w.0) (sym (update_other history (member_of a u) (member_of r.0 r.1) (history (member_of b t)) o)) w.1)))))
            h.2

    -- a block is put before the chains of its places: its history words have the heads' content
    pub links_first : (b x m : ℕ) → life b ≡ Loose (x + 1) → born b ≡ 0 → died b ≡ 0 → (m ≡ x + 1 → ⊥) → ((t c : Bool) → head (child_place e b t c) ≡ node 0 0)
        → ((t : Bool) (z : ℕ) → stands (Placed x m) t ≡ z + 1 → (history (member_of b t) ≡ head z) × IsPlace e life z × ((head z ≡ node 0 0) ⊎ (0 < (head z).died) × ((head z).died ≤ round)))
        → ChainsRule e round (update head x (node (b + 1) 0)) history born died (update life b (Placed x m)) × Moves K A e round head history (update head x (node (b + 1) 0)) history born died born died life (update life b (Placed x m))
    links_first b x m loose unborn undead apart kids old = let life' : ℕ → Life = update life b (Placed x m) in let l' : Node = node (b + 1) 0 in
        let now : life' b ≡ Placed x m = update_same life b (Placed x m) in
        let still : (c : ℕ) → c ≢ b → life' c ≡ life c = λ c o. update_other life b c (Placed x m) o in
        let off : (c : ℕ) (t : Bool) (z : ℕ) → stands (life c) t ≡ z + 1 → c ≢ b = λ c t z u s. let y : 0 ≡ z + 1 = sym (ap (λ (k : Life). stands k t) (ap life s ∙ loose)) ∙ u in absurd (omega arith) in
        let stand : (c : ℕ) (t : Bool) (z : ℕ) → stands (life c) t ≡ z + 1 → stands (life' c) t ≡ z + 1 = λ c t z u. ap (λ (k : Life). stands k t) (still c (off c t z u)) ∙ u in
        let chain : (c : ℕ) (t : Bool) (z : ℕ) → chained (life c) t ≡ z + 1 → chained (life' c) t ≡ z + 1 = λ c t z u. ap (λ (k : Life). chained k t) (still c (off c t z (chained_stands (life c) t z u))) ∙ u in
        let again : (q z c : ℕ) (l : Node) → Reaches history born died life q z c l → Reaches history born died life' q z c l = λ q z c l h. reach_on history history born died born died life life' q z (λ a t u. (stand a t z u, refl)) c (λ t u k. k) l h in
        let ok : (z : ℕ) (l : Node) → IsHead round died life z l → IsHead round died life' z l = λ z l h. ⊎_elim inl (λ o. inr (o.0, o.1, o.2, chain o.0 o.1 z o.3, o.4, o.5)) h in
        let older : (z n : ℕ) (l : Node) → IsOlder round died life z n l → IsOlder round died life' z n l = λ z n l h. ⊎_elim inl (λ o. inr (o.0, o.1, o.2, chain o.0 o.1 z o.3, o.4, o.5, o.6)) h in (
          record {
            heads = λ z live. dite (ℕ_discrete z x)
                (λ s. subst (IsHead round died life' z) (sym (update_at head x z l' s)) (inr (b, false, refl, ap (λ (k : Life). chained k false) now ∙ ap (λ (y : ℕ). y + 1) (sym s), (λ d. absurd (omega arith)), λ _. inl undead)))
                (λ o. subst (IsHead round died life' z) (sym (update_other head x z l' o)) (other z live));
            histories = λ c t z u. dite (ℕ_discrete c b)
                (λ s. let u' : stands (Placed x m) t ≡ z + 1 = sym (ap (λ (k : Life). stands k t) (ap life' s ∙ now)) ∙ u in let h = old t z u' in
                subst (λ (y : ℕ). IsOlder round died life' z (born y) (history (member_of y t))) (sym s) (subst (IsOlder round died life' z (born b)) (sym h.0) (older z (born b) (head z) (settled z h.2 (ch.heads z h.1)))))
                (λ o. older z (born c) (history (member_of c t)) (ch.histories c t z (sym (ap (λ (k : Life). stands k t) (still c o)) ∙ u)));
            borns = ch.borns;
            dieds = λ c y k u d. dite (ℕ_discrete c b) (λ s. let z : died c ≡ died b = ap died s in absurd (omega arith)) (λ o. ch.dieds c y k (sym (still c o) ∙ u) d);
            rolled_back = λ c y k u. dite (ℕ_discrete c b) (λ s. ap born s ∙ unborn) (λ o. ch.rolled_back c y k (sym (still c o) ∙ u));
            unborn = λ c. dite (ℕ_discrete c b) (λ s. subst (IsUnborn round (born c) (died c)) (sym (ap life' s ∙ now)) tt) (λ o. subst (IsUnborn round (born c) (died c)) (sym (still c o)) (ch.unborn c));
            sides = λ c t u z h k. dite (ℕ_discrete c b)
                (λ s. two t u z (sym (ap (λ (l : Life). stands l t) (ap life' s ∙ now)) ∙ h) (sym (ap (λ (l : Life). stands l u) (ap life' s ∙ now)) ∙ k))
                (λ o. ch.sides c t u z (sym (ap (λ (l : Life). stands l t) (still c o)) ∙ h) (sym (ap (λ (l : Life). stands l u) (still c o)) ∙ k));
          },
          record {
            heads = λ q z c k live h. dite (ℕ_discrete z x)
                (λ s. let g = again q z c (head z) h in subst (λ (n : Node). Reaches history born died life' q z c n) (sym (update_at head x z l' s))
                ((b, false) ∷ g.0, (refl, ap (λ (k : Life). stands k false) now ∙ ap (λ (y : ℕ). y + 1) (sym s), inr (subst (λ (n : Node). Finds history born died life' q z c n g.0) (ap head s ∙ sym (old false x refl).0) g.1))))
                (λ o. subst (λ (n : Node). Reaches history born died life' q z c n) (sym (update_other head x z l' o)) (again q z c (head z) h));
            histories = λ q a t z c k _ u h. again q z c (history (member_of a t)) h;
            on = λ q b t x k u c. c;
            back = λ q b t x k u c. c;
            stays = λ q c t z k v u. chain c t z u;
            fresh = λ q c t z k v u. dite (ℕ_discrete c b) (λ s. let y : born c ≡ born b = ap born s in let p = v.0 in absurd (omega arith)) (λ o. sym (ap (λ (k : Life). chained k t) (still c o)) ∙ u);
            stand = λ q c t z k a u. stand c t z u;
            later = λ b t x u. omega arith;
            alive = λ q b t x l u a. a;
          },
        )
      where
        settled : (z : ℕ) → (head z ≡ node 0 0) ⊎ (0 < (head z).died) × ((head z).died ≤ round) → IsHead round died life z (head z) → IsOlder round died life z (born b) (head z)
        settled z (inl n) h = inl n
        settled z (inr d) (inl n) = inl n
        settled z (inr d) (inr o) = let d0 = d.0 in let d1 = d.1 in let y = o.4 d0 in inr (o.0, o.1, (λ i. node (o.2 i) (y i)), o.3, omega arith, (λ p. absurd (omega arith)), omega arith)

        two : (t u : Bool) (z : ℕ) → stands (Placed x m) t ≡ z + 1 → stands (Placed x m) u ≡ z + 1 → t ≡ u
        two true true z h k = refl
        two false false z h k = refl
        two true false z h k = absurd (apart (h ∙ sym k))
        two false true z h k = absurd (apart (k ∙ sym h))

        other : (z : ℕ) → IsPlace e (update life b (Placed x m)) z → IsHead round died (update life b (Placed x m)) z (head z)
        other z (inl l) = trans z (ch.heads z (inl l))
          where
            trans : (z : ℕ) → IsHead round died life z (head z) → IsHead round died (update life b (Placed x m)) z (head z)
            trans z (inl n) = inl n
            trans z (inr o) = inr (o.0, o.1, o.2, upd_chain o.0 o.1 z o.3, o.4, o.5)
              where
                upd_chain : (c : ℕ) (t : Bool) (z : ℕ) → chained (life c) t ≡ z + 1 → chained (update life b (Placed x m) c) t ≡ z + 1
                upd_chain c t z u = ap (λ (k : Life). chained k t) (update_other life b c (Placed x m) (λ (s : c ≡ b). let y : 0 ≡ z + 1 = sym (ap (λ (k : Life). chained k t) (ap life s ∙ loose)) ∙ u in absurd (omega arith))) ∙ u
        other z (inr k) = dite (ℕ_discrete k.0 b)
            (λ s. inl (ap head (k.4 ∙ ap (λ (y : ℕ). child_place e y k.1 k.2) s) ∙ kids k.1 k.2))
            (λ o. trans z (ch.heads z (inr (k.0, k.1, k.2, k.3, k.4, sym (ap (λ (l : Life). stands l false) (update_other life b k.0 (Placed x m) o)) ∙ k.5))))
          where
            trans : (z : ℕ) → IsHead round died life z (head z) → IsHead round died (update life b (Placed x m)) z (head z)
            trans z (inl n) = inl n
            trans z (inr o) = inr (o.0, o.1, o.2, upd_chain o.0 o.1 z o.3, o.4, o.5)
              where
                upd_chain : (c : ℕ) (t : Bool) (z : ℕ) → chained (life c) t ≡ z + 1 → chained (update life b (Placed x m) c) t ≡ z + 1
                upd_chain c t z u = ap (λ (k : Life). chained k t) (update_other life b c (Placed x m) (λ (s : c ≡ b). let y : 0 ≡ z + 1 = sym (ap (λ (k : Life). chained k t) (ap life s ∙ loose)) ∙ u in absurd (omega arith))) ∙ u

-- where heads change at places where nothing stands
pub chains_apart : (e round : ℕ) (head history : ℕ → Node) (born died : ℕ → ℕ) (life : ℕ → Life) → ChainsRule e round head history born died life → (head' : ℕ → Node) → ((x : ℕ) → IsPlace e life x → head' x ≡ head x) → ChainsRule e round head' history born died life
chains_apart e round head history born died life ch head' same = record {
  heads = λ x l. subst (IsHead round died life x) (sym (same x l)) (ch.heads x l);
  histories = ch.histories;
  borns = ch.borns;
  dieds = ch.dieds;
  rolled_back = ch.rolled_back;
  unborn = ch.unborn;
  sides = ch.sides;
}
