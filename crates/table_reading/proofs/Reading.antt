-- What is read from the words is what the rule says.
use Rattle.std.proofs.Common.{◌≡◌, ℕ, ◌+◌, ◌-◌, ◌<◌, ◌≤◌, Bool, List, [], ◌∷◌, ◌⊎◌, sym, ap, ◌∙◌, subst, inl, inr, ⊎_elim, arith}
use native.Mathlib.Decide.{dec_lt}
use Rattle.mesh_names.specs.Names.{Name, depth}
use Rattle.mesh_names.specs.Triangles.{Shape, size, level}
use Rattle.mesh_names.specs.Partners.{Across, Tells}
use Rattle.table_words.specs.declared.layout.Layout.{Layout}
use Rattle.table_words.specs.NameWords.{name_code, name_in}
use Rattle.table_words.specs.Places.{member_of, child_place}
use Rattle.table_words.specs.Setup.{Setup, child_code, setup_of}
use Rattle.table_words.specs.Views.{Views}
use Rattle.table_words.specs.Words.{Node, Words}
use Rattle.table_words.proofs.CodedNames.{code_one, of_code}
use Rattle.table_words.proofs.NameCodes.{code_back}
use Rattle.table_state.specs.Ghosts.{chained, stands, Ghost}
use Rattle.table_state.specs.Chains.{Covers, Finds, IsHead}
use Rattle.table_state.specs.Bisections.{IsPlaceOf, MayRead}
use Rattle.table_reading.specs.Reading.{GoesTo, WalksTo, Bisects, StandsAt, WordsRead}
use Rattle.table_state.specs.Rule.{Rule}
use Rattle.table_state.proofs.FoundAgain.{one_more, placed, chained_stands}
use Rattle.table_state.proofs.ChainSteps.{named, older_head}
use Rattle.table_state.proofs.Across.{Went, name_one}
use Rattle.table_state.proofs.Inside.{label_of, label_one}
use Rattle.table_state.proofs.Lawful.{walks_agree}
use Rattle.table_reading.proofs.RoundForests.{child_of, bisected_code}
use Rattle.table_state.proofs.RoundLaws.{walks_begin}
use Rattle.table_state.proofs.TableLaws.{side_is}

module _ (s : Setup) (w : Words) (n : ℕ) (v : Views) (g : Ghost) (r : Rule s w n v g) where
  -- a word of the chain of x, which leads to members named k
  abbrev pub IsChain : ℕ → ℕ → Node → Type 0
  IsChain x k l = IsHead w.round w.died g.life x l × ((b : ℕ) (t : Bool) → l.block ≡ b + 1 → chained (g.life b) t ≡ x + 1 → w.name (member_of b t) ≡ k)

  on : (x k b : ℕ) (t : Bool) → stands (g.life b) t ≡ x + 1 → w.name (member_of b t) ≡ k → IsChain x k (w.history (member_of b t))
  on x k b t st named_ = (older_head (λ _. Unit {0}) (Went w.round w.died v.kind v.work v.read) s.elements w.round w.head w.history w.born w.died g.life r.chains x (w.born b) (w.history (member_of b t)) (r.chains.histories b t x st), λ c u e ch. r.named.histories b c x t u st e ch ∙ named_)

  in_chain : (x b : ℕ) (l : Node) → IsHead w.round w.died g.life x l → l.block ≡ b + 1 → (t : Bool) × (chained (g.life b) t ≡ x + 1)
  in_chain = named (λ _. Unit {0}) (Went w.round w.died v.kind v.work v.read) s.elements w.round w.head w.history w.born w.died g.life r.chains

  -- a walk by the names of members stays in the chain of the name's place
  pub walk_chain : (q x k b : ℕ) → (passed : List ℕ) (l : Node) → IsChain x k l → WalksTo w.history w.born w.name q k b passed l → (t : Bool) × (chained (g.life b) t ≡ x + 1) × (m : Node) × IsHead w.round w.died g.life x m × GoesTo q m b
  walk_chain q x k b [] l ch h = let t = in_chain x b l ch.0 h.0 in (t.0, t.1, l, ch.0, h)
  walk_chain q x k b (c ∷ cs) l ch h = let t = in_chain x c l ch.0 h.0.0 in let st = chained_stands (g.life c) t.0 x t.1 in let nm = ch.1 c t.0 h.0.0 t.1 in
      let same : h.2.0 ≡ t.0 = (side_is s w n v g r c x k t.0 st nm h.2.0).0 h.2.1 in
      walk_chain q x k b cs (w.history (member_of c h.2.0)) (on x k c h.2.0 (subst (λ (u : Bool). stands (g.life c) u ≡ x + 1) (sym same) st) h.2.1) h.2.2

  -- behind a block to which a word leads none is found but of an earlier round
  earlier : (q x b c : ℕ) (t : Bool) → stands (g.life c) t ≡ x + 1 → (ts : List (ℕ × Bool)) → Finds w.history w.born w.died g.life q x b (w.history (member_of c t)) ts → (w.born c ≡ 0) ⊎ (q < w.born c)
  earlier q x b c t st [] h = absurd h
  earlier q x b c t st (a ∷ ts) h = ⊎_elim
      (λ o. let z : 0 ≡ a.0 + 1 = sym (ap (λ (l : Node). l.block) o) ∙ h.0 in absurd (omega arith))
      (λ o. let same : o.0 ≡ a.0 = one_more o.0 a.0 (sym (ap (λ (l : Node). l.block) o.2) ∙ h.0) in let dd : w.died o.0 ≡ w.died a.0 = ap w.died same in let bb : w.born o.0 ≡ w.born a.0 = ap w.born same in
      let p = placed (g.life o.0) o.1 x o.3 in let o4 = o.4 in let k = r.chains.dieds o.0 p.0 p.1 p.2 o.4 in let k0 = k.0 in let k1 = k.1 in
      let late : q < w.died o.0 = ⊎_elim
      (λ e. let db : w.died a.0 ≡ w.died b = ap w.died e.0 in ⊎_elim (λ z. absurd (omega arith)) (λ z. omega arith) e.1.2)
      (λ f. ⊎_elim (λ z. absurd (omega arith)) (λ z. omega arith) (earlier q x b a.0 a.1 h.1 ts f)) h.2 in
      elim (dec_lt 0 (w.born c)) [ yes p ↦ let l = o.5 p in inr (omega arith) | no p ↦ inl (omega arith) ])
      (r.chains.histories c t x st)

  -- the walk by names goes where the rule's walk goes
  pub finds_walk : (q x k b : ℕ) → (ts : List (ℕ × Bool)) (l : Node) → IsChain x k l → Finds w.history w.born w.died g.life q x b l ts → (passed : List ℕ) × WalksTo w.history w.born w.name q k b passed l
  finds_walk q x k b [] l ch h = absurd h
  finds_walk q x k b (a ∷ ts) l ch h = ⊎_elim
      (λ e. ([], (h.0 ∙ ap (λ (i : ℕ). i + 1) e.0, word (λ z. let db : w.died a.0 ≡ w.died b = ap w.died e.0 in ⊎_elim (λ y. absurd (omega arith)) (λ y. omega arith) e.1.2))))
      (λ f. let t = in_chain x a.0 l ch.0 h.0 in let side = r.chains.sides a.0 t.0 a.1 x (chained_stands (g.life a.0) t.0 x t.1) h.1 in
      let nm : w.name (member_of a.0 a.1) ≡ k = ap (λ (i : Bool). w.name (member_of a.0 i)) (sym side) ∙ ch.1 a.0 t.0 h.0 t.1 in
      let rest = finds_walk q x k b ts (w.history (member_of a.0 a.1)) (on x k a.0 a.1 h.1 nm) f in let past = earlier q x b a.0 a.1 h.1 ts f in
      (a.0 ∷ rest.0, ((h.0, word (λ z. let p = placed (g.life a.0) t.0 x t.1 in let k = r.chains.dieds a.0 p.0 p.1 p.2 z in let k0 = k.0 in let k1 = k.1 in ⊎_elim (λ y. absurd (omega arith)) (λ y. omega arith) past)), past, (a.1, nm, rest.1))))
      h.2
    where
      -- the word's retired round is none or the block's, which is above q
      word : (0 < w.died a.0 → q < w.died a.0) → (l.died ≡ 0) ⊎ (q < l.died)
      word late = elim (dec_lt 0 l.died) [
        | yes p ↦ inr (at p ch.0)
        | no p ↦ inl (omega arith)
      ]
        where
          at : 0 < l.died → IsHead w.round w.died g.life x l → q < l.died
          at p (inl o) = let z : l.died ≡ 0 = ap (λ (m : Node). m.died) o in absurd (omega arith)
          at p (inr o) = let same : w.died o.0 ≡ w.died a.0 = ap w.died (one_more o.0 a.0 (sym o.2 ∙ h.0)) in let e = o.4 p in let z = late (omega arith) in omega arith

  module _ (q : ℕ) (may : MayRead w.round v.ruling.phase v.read q) where
    pub chain_of_place : (x k : ℕ) → IsPlaceOf s w.name (g.who q) x k → IsChain x k (w.head x)
    chain_of_place x k at = let live = walks_begin s w n v (g, r) q may x k at in (r.chains.heads x live, λ b t e ch. label_one s w.name g.life x (w.name (member_of b t)) k (r.named.heads x b t live e ch) (label_of s w n v g r q may x k at))

    -- from a name's place
    pub bisects_who : (x k b : ℕ) → IsPlaceOf s w.name (g.who q) x k → Bisects w q x k b → g.who q k ≡ b + 1
    bisects_who x k b at h = let c = walk_chain q x k b h.0.0 (w.head x) (chain_of_place x k at) h.0.1 in
        let u = r.names.sound q may b c.0 x c.1 (h.1, h.2, h.3) in ap (g.who q) (sym (name_one s w n v g r q x (w.name (member_of b c.0)) k u.1 at)) ∙ u.0

    pub who_bisects : (x k b : ℕ) → IsPlaceOf s w.name (g.who q) x k → g.who q k ≡ b + 1 → Bisects w q x k b
    who_bisects x k b at e = let f = (walks_agree s w n v (g, r) q may x k b at).0 e in let c = covers f.0 (w.head x) f.1 in
        (finds_walk q x k b f.0 (w.head x) (chain_of_place x k at) f.1, c.0, c.1, c.2)
      where
        covers : (ts : List (ℕ × Bool)) (l : Node) → Finds w.history w.born w.died g.life q x b l ts → Covers w.born w.died q b
        covers [] l h = absurd h
        covers (a ∷ ts) l h = ⊎_elim (λ k. k.1) (λ f. covers ts (w.history (member_of a.0 a.1)) f) h.2

module _ (mesh : Shape) (across : Across) (l : Layout) (passes : ℕ) (tells : Tells mesh across) (w : Words) (n : ℕ) (v : Views) (g : Ghost) (r : Rule (setup_of mesh across l passes) w n v g) (q : ℕ) (may : MayRead w.round v.ruling.phase v.read q) where
  abbrev s : Setup
  s = setup_of mesh across l passes

  -- a bisected name, by its code
  valid : (m : Name) (b : ℕ) → depth m ≤ 24 → g.who q (name_code m) ≡ b + 1 → (m.0 < size mesh) × (level mesh m < 24)
  valid m b low h = let o = of_code mesh (name_code m) (bisected_code mesh across l passes tells w n v g r q may (name_code m) (b, h)) in subst (λ (i : Name). (i.0 < size mesh) × (level mesh i < 24)) (code_back m low) (o.2, o.1)

  -- an element by the words is one by the rule
  pub stands_place : (root : ℕ) (u : List Bool) (x : ℕ) → StandsAt w l.elements q root u x → IsPlaceOf s w.name (g.who q) x (name_code (root, u)) × (depth (root, u) ≤ 24)
  stands_place root [] x h = (inl (subst (λ (i : ℕ). i < l.elements) (sym h.1) h.0, ap (λ (i : ℕ). name_code (i, [])) (sym h.1)), omega arith)
  stands_place root (c ∷ u) x h = let p = stands_place root u h.0 h.3 in let e = bisects_who s w n v g r q may h.0 (name_code (root, u)) h.1 p.0 h.4 in let a = valid (root, u) h.1 p.1 e in let low = a.1 in
      (inr (h.1, h.2, c, h.6, ap (g.who q) h.5 ∙ e, sym (ap (λ (i : ℕ). child_code mesh i c) h.5 ∙ child_of mesh across l passes tells (root, u) c a.0 a.1)), omega arith)

  -- and a bisected name is read
  pub who_read : (root : ℕ) (u : List Bool) → depth (root, u) ≤ 24 → (b : ℕ) → g.who q (name_code (root, u)) ≡ b + 1 → (x : ℕ) × StandsAt w l.elements q root u x × Bisects w q x (name_code (root, u)) b
  who_read root [] low b e = let f = (r.names.fits q may).found (name_code (root, [])) b e in (f.1, top_at f.1 f.4, who_bisects s w n v g r q may f.1 (name_code (root, [])) b f.4 e)
    where
      no_child : (i : ℕ) (c : Bool) (t : List Bool) → ◌≡◌ {A = Name} (root, []) (i, c ∷ t) → ⊥
      no_child i c t h = clash (ap (λ (m : Name). m.1) h)
        where
          clash : ◌≡◌ {A = List Bool} [] (c ∷ t) → ⊥
          clash h = cc

      top_at : (x : ℕ) → IsPlaceOf s w.name (g.who q) x (name_code (root, [])) → StandsAt w l.elements q root [] x
      top_at x (inl a) = let same : ◌≡◌ {A = Name} (root, []) (x, []) = code_one (root, []) (x, []) low (omega arith) a.1 in let z : root ≡ x = ap (λ (m : Name). m.0) same in (subst (λ (i : ℕ). i < l.elements) (sym z) a.0, sym z)
      top_at x (inr a) = let k = w.name (member_of a.0 a.1) in let o = of_code mesh k (bisected_code mesh across l passes tells w n v g r q may k (a.0, a.4)) in let d = o.1 in
          let i : Name = name_in (k - 1) in absurd (no_child i.0 a.2 i.1 (code_one (root, []) (i.0, a.2 ∷ i.1) low (omega arith) (a.5 ∙ ap (λ (j : ℕ). child_code mesh j a.2) (sym o.0) ∙ child_of mesh across l passes tells i a.2 o.2 o.1)))
  who_read root (c ∷ u) low b e = let f = (r.names.fits q may).found (name_code (root, c ∷ u)) b e in (f.1, child_at (λ p h. who_read root u (omega arith) p h) f.1 f.4, who_bisects s w n v g r q may f.1 (name_code (root, c ∷ u)) b f.4 e)
    where
      child_at : ((p : ℕ) → g.who q (name_code (root, u)) ≡ p + 1 → (x : ℕ) × StandsAt w l.elements q root u x × Bisects w q x (name_code (root, u)) p) → (x : ℕ) → IsPlaceOf s w.name (g.who q) x (name_code (root, c ∷ u)) → StandsAt w l.elements q root (c ∷ u) x
      child_at above x (inl a) = absurd (clash (ap (λ (m : Name). m.1) (code_one (root, c ∷ u) (x, []) low (omega arith) a.1)))
        where
          clash : ◌≡◌ {A = List Bool} (c ∷ u) [] → ⊥
          clash h = cc
      child_at above x (inr a) = let k : ℕ = w.name (member_of a.0 a.1) in let o = of_code mesh k (bisected_code mesh across l passes tells w n v g r q may k (a.0, a.4)) in let d = o.1 in
          let i : Name = name_in (k - 1) in let same : ◌≡◌ {A = Name} (root, c ∷ u) (i.0, a.2 ∷ i.1) = code_one (root, c ∷ u) (i.0, a.2 ∷ i.1) low (omega arith) (a.5 ∙ ap (λ (j : ℕ). child_code mesh j a.2) (sym o.0) ∙ child_of mesh across l passes tells i a.2 o.2 o.1) in
          let first = heads c u a.2 i.1 (ap (λ (m : Name). m.1) same) in let ru : ◌≡◌ {A = Name} (root, u) i = (λ t. (ap (λ (m : Name). m.0) same t, first.1 t)) in
          let is : k ≡ name_code (root, u) = sym o.0 ∙ ap name_code (sym ru) in
          let up = above a.0 (ap (g.who q) (sym is) ∙ a.4) in
          (up.0, a.0, a.1, up.1, up.2, is, a.3 ∙ ap (child_place l.elements a.0 a.1) (sym first.0))
        where
          heads : (c : Bool) (u : List Bool) (d : Bool) (t : List Bool) → ◌≡◌ {A = List Bool} (c ∷ u) (d ∷ t) → (c ≡ d) × (u ≡ t)
          heads c u d t h = (cc, cc)

pub words_read : WordsRead
words_read mesh across l passes tells w n v (g, r) q may m b = (
  (λ h. who_read mesh across l passes tells w n v g r q may m.0 m.1 h.0 b h.1),
  λ h. let p = stands_place mesh across l passes tells w n v g r q may m.0 m.1 h.0 h.1 in (p.1, bisects_who (setup_of mesh across l passes) w n v g r q may h.0 (name_code m) b p.0 h.2),
)
