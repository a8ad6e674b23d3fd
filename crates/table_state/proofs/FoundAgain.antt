-- What is found before a step is found after it.
use Rattle.std.proofs.Common.{◌≡◌, ℕ, ◌+◌, ◌<◌, ◌≤◌, Bool, true, false, List, [], ◌∷◌, ◌⊎◌, refl, sym, ap, ◌∙◌, subst, inl, inr, ⊎_elim, arith}
use Rattle.table_words.specs.Setup.{Setup}
use mathlib.Core.Logic.{dite}
use native.Mathlib.Decide.{ℕ_discrete}
use Rattle.table_words.specs.Words.{Node}
use Rattle.table_words.specs.Places.{member_of, child_place}
use Rattle.table_words.specs.Views.{Plan, Work, Walk, Still, At, Past, Read, Kind, Worker, Phase, FirstHalf, SecondHalf, Closing}
use Rattle.table_words.specs.Entries.{HasEntry}
use Rattle.table_state.specs.Ghosts.{Life, Free, Loose, Placed, RolledBack, chained, stands}
use Rattle.table_state.specs.Chains.{Covers, Finds, Reaches, IsPlace}
use Rattle.table_state.specs.Bisections.{IsPlaceOf, Fits, IsSound, MayRead, IsPatch, IsLiving, NamesRule}
use Rattle.table_state.specs.Work.{IsWorkPlace, WorkWalks, WalkRule}
use Rattle.table_state.specs.Readers.{Walks, ReaderRule}
use Rattle.table_state.specs.Fresh.{idle}
use Rattle.table_words.proofs.SeatKinds.{kind_discrete}

pub still_not : (x n b : ℕ) (t : Bool) → (Still ≡ At x n b t) ⊎ (Still ≡ Past x n b t) → ⊥
still_not x n b t (inl e) = clash e
  where
    clash : Still ≡ At x n b t → ⊥
    clash e = cc
still_not x n b t (inr e) = clash e
  where
    clash : Still ≡ Past x n b t → ⊥
    clash e = cc

pub at_past : (x n b : ℕ) (t : Bool) (y m c : ℕ) (u : Bool) → At x n b t ≡ Past y m c u → ⊥
at_past x n b t y m c u e = cc

pub at_one : (x n b : ℕ) (t : Bool) (y m c : ℕ) (u : Bool) → At x n b t ≡ At y m c u → (x ≡ y) × (n ≡ m) × (b ≡ c) × (t ≡ u)
at_one x n b t y m c u e = (cc, cc, cc, cc)

pub past_one : (x n b : ℕ) (t : Bool) (y m c : ℕ) (u : Bool) → Past x n b t ≡ Past y m c u → (x ≡ y) × (n ≡ m) × (b ≡ c) × (t ≡ u)
past_one x n b t y m c u e = (cc, cc, cc, cc)

pub one_more : (a b : ℕ) → a + 1 ≡ b + 1 → a ≡ b
one_more a b e = omega arith

pub member_one : (b c : ℕ) (s t : Bool) → member_of b s ≡ member_of c t → (b ≡ c) × (s ≡ t)
member_one b c true true e = (omega arith, refl)
member_one b c true false e = absurd (omega arith)
member_one b c false true e = absurd (omega arith)
member_one b c false false e = (omega arith, refl)

pub child_one : (e b c : ℕ) (s t u v : Bool) → child_place e b s t ≡ child_place e c u v → (b ≡ c) × (s ≡ u) × (t ≡ v)
child_one e b c true true true true h = (omega arith, refl, refl)
child_one e b c true true true false h = absurd (omega arith)
child_one e b c true true false true h = absurd (omega arith)
child_one e b c true true false false h = absurd (omega arith)
child_one e b c true false true true h = absurd (omega arith)
child_one e b c true false true false h = (omega arith, refl, refl)
child_one e b c true false false true h = absurd (omega arith)
child_one e b c true false false false h = absurd (omega arith)
child_one e b c false true true true h = absurd (omega arith)
child_one e b c false true true false h = absurd (omega arith)
child_one e b c false true false true h = (omega arith, refl, refl)
child_one e b c false true false false h = absurd (omega arith)
child_one e b c false false true true h = absurd (omega arith)
child_one e b c false false true false h = absurd (omega arith)
child_one e b c false false false true h = absurd (omega arith)
child_one e b c false false false false h = (omega arith, refl, refl)

pub child_outside : (e b : ℕ) (s c : Bool) → child_place e b s c < e → ⊥
child_outside e b s c l = omega arith

-- a half in a chain stands there, and its block is placed
pub placed : (l : Life) (t : Bool) (x : ℕ) → chained l t ≡ x + 1 → (y : ℕ) × (m : ℕ) × (l ≡ Placed y m)
placed Free t x e = absurd (omega arith)
placed (Loose u) t x e = absurd (omega arith)
placed (Placed y m) t x e = (y, m, refl)
placed (RolledBack y m) t x e = absurd (omega arith)

pub chained_stands : (l : Life) (t : Bool) (x : ℕ) → chained l t ≡ x + 1 → stands l t ≡ x + 1
chained_stands Free t x e = e
chained_stands (Loose u) t x e = e
chained_stands (Placed y m) t x e = e
chained_stands (RolledBack y m) t x e = absurd (omega arith)

pub stood : (l : Life) (t : Bool) (x : ℕ) → chained l t ≡ x + 1 → (y : ℕ) × (stands l false ≡ y + 1)
stood l t x e = let p = placed l t x e in (p.0, ap (λ (k : Life). stands k false) p.2)

pub placed_chained : (l : Life) (t : Bool) (x y m : ℕ) → l ≡ Placed y m → stands l t ≡ x + 1 → chained l t ≡ x + 1
placed_chained l t x y m p u = ap (λ (k : Life). chained k t) p ∙ sym (ap (λ (k : Life). stands k t) p) ∙ u

-- a half that stands somewhere is of a placed block or of one that was rolled back
pub standing : (l : Life) (t : Bool) (x : ℕ) → stands l t ≡ x + 1 → ((y : ℕ) × (m : ℕ) × (l ≡ Placed y m)) ⊎ ((y : ℕ) × (m : ℕ) × (l ≡ RolledBack y m))
standing Free t x e = absurd (omega arith)
standing (Loose u) t x e = absurd (omega arith)
standing (Placed y m) t x e = inl (y, m, refl)
standing (RolledBack y m) t x e = inr (y, m, refl)

module _ (history history' : ℕ → Node) (born died born' died' : ℕ → ℕ) (life life' : ℕ → Life) (q x : ℕ) where
  pub finds_on : (P : ℕ → Bool → Type 0)
      → ((b : ℕ) (t : Bool) → P b t → stands (life b) t ≡ x + 1 → (stands (life' b) t ≡ x + 1) × (history' (member_of b t) ≡ history (member_of b t)))
      → ((b : ℕ) (t : Bool) (c : ℕ) (u : Bool) → P b t → stands (life b) t ≡ x + 1 → (history (member_of b t)).block ≡ c + 1 → stands (life c) u ≡ x + 1 → P c u)
      → (c : ℕ) → ((t : Bool) → stands (life c) t ≡ x + 1 → Covers born died q c → Covers born' died' q c)
      → (ts : List (ℕ × Bool)) (l : Node) → ((b : ℕ) (t : Bool) → l.block ≡ b + 1 → stands (life b) t ≡ x + 1 → P b t) → Finds history born died life q x c l ts → Finds history' born' died' life' q x c l ts
  finds_on P on step c end [] l first h = absurd h
  finds_on P on step c end (t ∷ ts) l first h = let p = first t.0 t.1 h.0 h.1 in let o = on t.0 t.1 p h.1 in (
    h.0,
    o.0,
    ⊎_elim (λ k. inl (k.0, end t.1 (subst (λ (y : ℕ). stands (life y) t.1 ≡ x + 1) k.0 h.1) k.1))
        (λ r. inr (subst (λ (m : Node). Finds history' born' died' life' q x c m ts) (sym o.1) (finds_on P on step c end ts (history (member_of t.0 t.1)) (λ b u e s. step t.0 t.1 b u p h.1 e s) r)))
        h.2,
  )

  -- where every half that stands at the place keeps its history word
  pub reach_on : ((b : ℕ) (t : Bool) → stands (life b) t ≡ x + 1 → (stands (life' b) t ≡ x + 1) × (history' (member_of b t) ≡ history (member_of b t)))
      → (c : ℕ) → ((t : Bool) → stands (life c) t ≡ x + 1 → Covers born died q c → Covers born' died' q c) → (l : Node) → Reaches history born died life q x c l → Reaches history' born' died' life' q x c l
  reach_on on c end l h = (h.0, finds_on (λ b t. stands (life b) t ≡ x + 1) (λ b t p s. on b t s) (λ b t c u p s e v. v) c end h.0 l (λ b t e s. s) h.1)

-- the block that is found bisects
pub found_covers : (history : ℕ → Node) (born died : ℕ → ℕ) (life : ℕ → Life) (q x c : ℕ) (ts : List (ℕ × Bool)) (l : Node) → Finds history born died life q x c l ts → Covers born died q c
found_covers history born died life q x c [] l h = absurd h
found_covers history born died life q x c (t ∷ ts) l h = ⊎_elim (λ k. k.1) (λ r. found_covers history born died life q x c ts (history (member_of t.0 t.1)) r) h.2

-- from a word that names no block nothing is found
pub none_found : (history : ℕ → Node) (born died : ℕ → ℕ) (life : ℕ → Life) (q x c : ℕ) (l : Node) → l.block ≡ 0 → Reaches history born died life q x c l → ⊥
none_found history born died life q x c l z h = empty h.0 h.1
  where
    empty : (ts : List (ℕ × Bool)) → Finds history born died life q x c l ts → ⊥
    empty [] f = f
    empty (t ∷ ts) f = let e : 0 ≡ t.0 + 1 = sym z ∙ f.0 in absurd (omega arith)

-- a word that names a block leads to it, or on along its history word
pub first_block : (history : ℕ → Node) (born died : ℕ → ℕ) (life : ℕ → Life) (q x c b : ℕ) (l : Node) → l.block ≡ b + 1 → Reaches history born died life q x c l
    → (t : Bool) × (stands (life b) t ≡ x + 1) × (((b ≡ c) × Covers born died q c) ⊎ Reaches history born died life q x c (history (member_of b t)))
first_block history born died life q x c b l n h = go h.0 h.1
  where
    go : (ts : List (ℕ × Bool)) → Finds history born died life q x c l ts → (t : Bool) × (stands (life b) t ≡ x + 1) × (((b ≡ c) × Covers born died q c) ⊎ Reaches history born died life q x c (history (member_of b t)))
    go [] f = absurd f
    go (t ∷ ts) f = let same : t.0 ≡ b = one_more t.0 b (sym f.0 ∙ n) in (
      t.1,
      subst (λ (y : ℕ). stands (life y) t.1 ≡ x + 1) same f.1,
      ⊎_elim (λ k. inl (sym same ∙ k.0, k.1)) (λ r. inr (ts, subst (λ (y : ℕ). Finds history born died life q x c (history (member_of y t.1)) ts) same r)) f.2,
    )

-- What a step on the chains keeps of the rounds K, and of the blocks A to which a reader of the round has gone
pub record Moves (K : ℕ → Type 0) (A : ℕ → ℕ → Type 0) (e round : ℕ) (head history head' history' : ℕ → Node) (born died born' died' : ℕ → ℕ) (life life' : ℕ → Life) : Type 0 where
  pub heads : (q x c : ℕ) → K q → IsPlace e life x → Reaches history born died life q x c (head x) → Reaches history' born' died' life' q x c (head' x)
  pub histories : (q b : ℕ) (t : Bool) (x c : ℕ) → K q → A q b → stands (life b) t ≡ x + 1 → Reaches history born died life q x c (history (member_of b t)) → Reaches history' born' died' life' q x c (history' (member_of b t))
  pub on : (q b : ℕ) (t : Bool) (x : ℕ) → K q → stands (life b) t ≡ x + 1 → Covers born died q b → Covers born' died' q b
  pub back : (q b : ℕ) (t : Bool) (x : ℕ) → K q → chained (life b) t ≡ x + 1 → Covers born' died' q b → Covers born died q b
  pub stays : (q b : ℕ) (t : Bool) (x : ℕ) → K q → Covers born died q b → chained (life b) t ≡ x + 1 → chained (life' b) t ≡ x + 1
  pub fresh : (q b : ℕ) (t : Bool) (x : ℕ) → K q → Covers born' died' q b → chained (life' b) t ≡ x + 1 → chained (life b) t ≡ x + 1
  pub stand : (q b : ℕ) (t : Bool) (x : ℕ) → K q → A q b → stands (life b) t ≡ x + 1 → stands (life' b) t ≡ x + 1
  -- a HISTORY word gets no later retired round
  pub later : (b : ℕ) (t : Bool) (x : ℕ) → stands (life b) t ≡ x + 1 → (history' (member_of b t)).died ≤ (history (member_of b t)).died
  pub alive : (q b : ℕ) (t : Bool) (x : ℕ) → q ≤ round → stands (life b) t ≡ x + 1 → (died b ≡ 0) ⊎ (q < died b) → (died' b ≡ 0) ⊎ (q < died' b)

-- the names of blocks that stand stay
abbrev pub SameNames : (ℕ → Life) → (ℕ → ℕ) → (ℕ → ℕ) → Type 0
SameNames life name name' = (b : ℕ) (t u : Bool) (x : ℕ) → stands (life b) u ≡ x + 1 → name' (member_of b t) ≡ name (member_of b t)

module _ (s : Setup) (name name' : ℕ → ℕ) (head history head' history' : ℕ → Node) (born died born' died' : ℕ → ℕ) (life life' : ℕ → Life) (same : SameNames life name name') where
  pub seen_on : (who : ℕ → ℕ) (q x n : ℕ) → Fits s name head history born died life who q → IsPlaceOf s name who x n → IsPlaceOf s name' who x n
  seen_on who q x n f (inl a) = inl a
  seen_on who q x n f (inr k) = let b = k.0 in let t = k.1 in let h = f.found (name (member_of b t)) b k.4 in let e : name' (member_of b t) ≡ name (member_of b t) = same b t h.0 h.1 (chained_stands (life b) h.0 h.1 h.3) in
      inr (b, t, k.2, k.3, ap who e ∙ k.4, k.5 ∙ ap (λ (y : ℕ). s.child y k.2) (sym e))

  pub seen_live : (who : ℕ → ℕ) (q x n : ℕ) → Fits s name head history born died life who q → IsPlaceOf s name who x n → IsPlace s.elements life x
  seen_live who q x n f (inl a) = inl a.0
  seen_live who q x n f (inr k) = let h = f.found (name (member_of k.0 k.1)) k.0 k.4 in let t = stood (life k.0) h.0 h.1 h.3 in inr (k.0, k.1, k.2, t.0, k.3, t.1)

  module _ (round : ℕ) (phase : Phase) (who : ℕ → ℕ → ℕ) (read : ℕ → Read) (K : ℕ → Type 0) (A : ℕ → ℕ → Type 0) (m : Moves K A s.elements round head history head' history' born died born' died' life life') where
    pub fits_on : (q : ℕ) → K q → Fits s name head history born died life (who q) q → Fits s name' head' history' born' died' life' (who q) q
    fits_on q k f = record {
      found = λ n b w. let h = f.found n b w in let c = found_covers history born died life q h.1 b h.5.0 (head h.1) h.5.1 in
          (h.0, h.1, same b h.0 h.0 h.1 (chained_stands (life b) h.0 h.1 h.3) ∙ h.2, m.stays q b h.0 h.1 k c h.3, seen_on (who q) q h.1 n f h.4, m.heads q h.1 b k (seen_live (who q) q h.1 n f h.4) h.5);
      both = λ b y t u w e. both_on b y t u w e;
    }
      where
        both_on : (b y : ℕ) (t u : Bool) → who q (name' (member_of b t)) ≡ b + 1 → chained (life' b) u ≡ y + 1 → who q (name' (member_of b u)) ≡ b + 1
        both_on b y t u w e = let h = f.found (name' (member_of b t)) b w in let c = found_covers history born died life q h.1 b h.5.0 (head h.1) h.5.1 in
            let e' : chained (life b) u ≡ y + 1 = m.fresh q b u y k (m.on q b h.0 h.1 k (chained_stands (life b) h.0 h.1 h.3) c) e in
            let st = chained_stands (life b) u y e' in ap (who q) (same b u u y st) ∙ f.both b y t u (ap (who q) (sym (same b t u y st)) ∙ w) e'

    pub sound_on : (q : ℕ) → K q → Fits s name head history born died life (who q) q → IsSound s name born died life (who q) q → IsSound s name' born' died' life' (who q) q
    sound_on q k f h b t x e c = let e' = m.fresh q b t x k c e in let u = h b t x e' (m.back q b t x k e' c) in let n : name' (member_of b t) ≡ name (member_of b t) = same b t t x (chained_stands (life b) t x e') in
        (ap (who q) n ∙ u.0, subst (λ (y : ℕ). IsPlaceOf s name' (who q) x y) (sym n) (seen_on (who q) q x _ f u.1))

    -- where no round's bisection changes
    pub names_on : ((q : ℕ) → MayRead round phase read q → K q) → ((b x m : ℕ) → life' b ≡ Placed x m → IsPatch s name' b m) → ((b : ℕ) → IsLiving born' died' life' b → IsLiving born died life b)
        → ((b x m : ℕ) → (phase ≡ SecondHalf → ⊥) × (phase ≡ Closing → ⊥) → life' b ≡ Placed x m → died' b ≤ round) → NamesRule s round phase name head history born died life who read → NamesRule s round phase name' head' history' born' died' life' who read
    names_on all patch lives calm n = record {
      fits = λ q r. fits_on q (all q r) (n.fits q r);
      sound = λ q r. sound_on q (all q r) (n.fits q r) (n.sound q r);
      patch = patch;
      one = λ b c p q e. let kept : (a : ℕ) → IsLiving born died life a → name' (member_of a false) ≡ name (member_of a false) = λ a k. same a false false k.0 (ap (λ (l : Life). stands l false) k.2) in
          n.one b c (lives b p) (lives c q) (sym (kept b (lives b p)) ∙ e ∙ kept c (lives c q));
      calm = calm;
      grows = n.grows;
      either = n.either;
      fresh = n.fresh;
    }

    pub goes_on : ((j q : ℕ) → (read j).pin ≡ q + 1 → K q × (q ≤ round)) → ((j q b : ℕ) → (read j).pin ≡ q + 1 → HasEntry (read j).went b → (died b ≡ 0) ⊎ (q < died b) → A q b) → ((q : ℕ) → K q → Fits s name head history born died life (who q) q) → (j : ℕ) → ReaderRule s round name history born died life who (read j) → ReaderRule s round name' history' born' died' life' who (read j)
    goes_on pinned gone fits j g = record {
      went = λ q b p h. let t = g.went q b p h in let k = pinned j q p in ((t.0.0, t.0.1, m.stand q b t.0.0 t.0.1 k.0 (gone j q b p h t.1) t.0.2), m.alive q b t.0.0 t.0.1 k.1 t.0.2 t.1);
      walk = λ q p. walk_on q p (read j).walk (g.walk q p);
      sided = λ q x n b t p h. same b t t x (⊎_elim (λ e. let k : Walks s name history born died life (who q) q (read j).went (At x n b t) = subst (Walks s name history born died life (who q) q (read j).went) e (g.walk q p) in k.1) (λ e. let k : Walks s name history born died life (who q) q (read j).went (Past x n b t) = subst (Walks s name history born died life (who q) q (read j).went) e (g.walk q p) in k.1) h) ∙ g.sided q x n b t p h;
      dated = λ q x n b t p h o. let k = g.dated q x n b t p h o in let l = m.later b t x (⊎_elim (λ e. let k : Walks s name history born died life (who q) q (read j).went (At x n b t) = subst (Walks s name history born died life (who q) q (read j).went) e (g.walk q p) in k.1) (λ e. let k : Walks s name history born died life (who q) q (read j).went (Past x n b t) = subst (Walks s name history born died life (who q) q (read j).went) e (g.walk q p) in k.1) h) in omega arith;
      places = λ q x n p h. seen_on (who q) q x n (fits q (pinned j q p).0) (g.places q x n p h);
      yes_notes = g.yes_notes;
      no_notes = g.no_notes;
    }
      where
        walk_on : (q : ℕ) → (read j).pin ≡ q + 1 → (v : Walk) → Walks s name history born died life (who q) q (read j).went v → Walks s name' history' born' died' life' (who q) q (read j).went v
        walk_on q p Still h = tt
        walk_on q p (At x n b t) h = let k = pinned j q p in let a = g.went q b p h.0 in
            (h.0, m.stand q b t x k.0 (gone j q b p h.0 a.1) h.1, seen_on (who q) q x n (fits q k.0) h.2, λ c w. ⊎_elim (λ z. inl (z.0, subst (Covers born' died' q) z.0 (m.on q b t x k.0 h.1 (subst (Covers born died q) (sym z.0) z.1)))) (λ z. inr (m.histories q b t x c k.0 (gone j q b p h.0 a.1) h.1 z)) (h.3 c w))
        walk_on q p (Past x n b t) h = let k = pinned j q p in let a = g.went q b p h.0 in
            (h.0, m.stand q b t x k.0 (gone j q b p h.0 a.1) h.1, seen_on (who q) q x n (fits q k.0) h.2, λ c w. m.histories q b t x c k.0 (gone j q b p h.0 a.1) h.1 (h.3 c w))

    -- what a worker knows of the last finished round, and where it walks
    pub workers_on : K round → Fits s name head history born died life (who round) round → (phase ≡ FirstHalf → Fits s name head history born died life (who (round + 1)) (round + 1)) → (kind : Kind) (seat : ℕ) (v : Work)
        → ((b : ℕ) → kind ≡ Worker → HasEntry v.went b → (died b ≡ 0) ⊎ (round < died b) → A round b) → ((b : ℕ) (t : Bool) (x : ℕ) → chained (life b) t ≡ x + 1 → chained (life' b) t ≡ x + 1)
        → WalkRule s round phase name history born died life who kind seat v → WalkRule s round phase name' history' born' died' life' who kind seat v
    workers_on now last next kind seat v gone chain g = record {
      still = g.still;
      only = g.only;
      half = g.half;
      at_work = g.at_work;
      retired_in = g.retired_in;
      absent = g.absent;
      stood = λ x n h. seen_on (who round) round x n last (g.stood x n h);
      had = g.had;
      went = λ b h. let t = g.went b h in ((t.0.0, t.0.1, m.stand round b t.0.0 t.0.1 now (gone b (worker b h) h t.1) t.0.2), m.alive round b t.0.0 t.0.1 (omega arith) t.0.2 t.1);
      walk = walk_on v.walk g.walk;
      sided = λ x n b t h. same b t t x (chained_stands (life b) t x (⊎_elim (λ e. let k : WorkWalks s round phase name history born died life who v.went (At x n b t) = subst (WorkWalks s round phase name history born died life who v.went) e g.walk in k.1) (λ e. let k : WorkWalks s round phase name history born died life who v.went (Past x n b t) = subst (WorkWalks s round phase name history born died life who v.went) e g.walk in k.1) h)) ∙ g.sided x n b t h;
    }
      where
        worker : (b : ℕ) → HasEntry v.went b → kind ≡ Worker
        worker b h = dite (kind_discrete kind Worker) (λ e. e) (λ o. absurd (subst (λ (l : List ℕ). HasEntry l b) (g.still o).0 h))

        place_on : (x n : ℕ) → IsWorkPlace s round phase name who x n → IsWorkPlace s round phase name' who x n
        place_on x n h = ⊎_elim (λ t. inl (t.0, seen_on (who (round + 1)) (round + 1) x n (next t.0) t.1)) (λ t. inr (seen_on (who round) round x n last t)) h

        walk_on : (u : Walk) → WorkWalks s round phase name history born died life who v.went u → WorkWalks s round phase name' history' born' died' life' who v.went u
        walk_on Still h = tt
        walk_on (At x n b t) h = let a = g.went b h.0 in let f = gone b (worker b h.0) h.0 a.1 in let st = chained_stands (life b) t x h.1 in
            (h.0, chain b t x h.1, place_on x n h.2, λ c w. ⊎_elim (λ z. inl (z.0, subst (Covers born' died' round) z.0 (m.on round b t x now st (subst (Covers born died round) (sym z.0) z.1)))) (λ z. inr (m.histories round b t x c now f st z)) (h.3 c w))
        walk_on (Past x n b t) h = let a = g.went b h.0 in let f = gone b (worker b h.0) h.0 a.1 in
            (h.0, chain b t x h.1, place_on x n h.2, λ c w. m.histories round b t x c now f (chained_stands (life b) t x h.1) (h.3 c w))

-- workers see what the first half adds
pub workers_who : (s : Setup) (round : ℕ) (phase : Phase) (name : ℕ → ℕ) (history : ℕ → Node) (born died : ℕ → ℕ) (life : ℕ → Life) (who who' : ℕ → ℕ → ℕ) → who' round ≡ who round → (phase ≡ FirstHalf → (x n : ℕ) → IsPlaceOf s name (who (round + 1)) x n → IsPlaceOf s name (who' (round + 1)) x n)
    → (kind : Kind) (seat : ℕ) (v : Work) → WalkRule s round phase name history born died life who kind seat v → WalkRule s round phase name history born died life who' kind seat v
workers_who s round phase name history born died life who who' same more kind seat v g = record {
  still = g.still;
  only = g.only;
  half = g.half;
  at_work = g.at_work;
  retired_in = g.retired_in;
  absent = λ n h. ap (λ (f : ℕ → ℕ). f n) same ∙ g.absent n h;
  stood = λ x n h. subst (λ (f : ℕ → ℕ). IsPlaceOf s name f x n) (sym same) (g.stood x n h);
  had = λ b n h. ap (λ (f : ℕ → ℕ). f n) same ∙ g.had b n h;
  went = g.went;
  walk = walk_on v.walk g.walk;
  sided = g.sided;
}
  where
    place_on : (x n : ℕ) → IsWorkPlace s round phase name who x n → IsWorkPlace s round phase name who' x n
    place_on x n h = ⊎_elim (λ t. inl (t.0, more t.0 x n t.1)) (λ t. inr (subst (λ (f : ℕ → ℕ). IsPlaceOf s name f x n) (sym same) t)) h

    walk_on : (u : Walk) → WorkWalks s round phase name history born died life who v.went u → WorkWalks s round phase name history born died life who' v.went u
    walk_on Still h = tt
    walk_on (At x n b t) h = (h.0, h.1, place_on x n h.2, λ c w. h.3 c (sym (ap (λ (f : ℕ → ℕ). f n) same) ∙ w))
    walk_on (Past x n b t) h = (h.0, h.1, place_on x n h.2, λ c w. h.3 c (sym (ap (λ (f : ℕ → ℕ). f n) same) ∙ w))

-- a seat that does not walk
pub walks_idle : (s : Setup) (round : ℕ) (phase : Phase) (name : ℕ → ℕ) (history : ℕ → Node) (born died : ℕ → ℕ) (life : ℕ → Life) (who : ℕ → ℕ → ℕ) (kind : Kind) (seat : ℕ) (half : Phase) (work number : ℕ) (plan : Plan) → (kind ≡ Worker → half ≡ phase) → (kind ≡ Worker → work ≡ round + 1) → WalkRule s round phase name history born died life who kind seat (record idle { half = half; round = work; number = number; plan = plan })
walks_idle s round phase name history born died life who kind seat half work number plan said at_work = record { half = said; at_work = at_work; retired_in = λ b h. absurd h; still = λ _. (refl, refl); only = λ _ _. (refl, refl, refl, refl); absent = λ n h. absurd h; stood = λ x n h. absurd h; had = λ b n h. absurd h; went = λ b h. absurd h; walk = tt; sided = λ x n b t h. absurd (still_not x n b t h) }

-- a seat that is no worker's keeps what it knows of the last finished round
pub walks_home : (s : Setup) (round : ℕ) (phase phase' : Phase) (name : ℕ → ℕ) (history history' : ℕ → Node) (born died born' died' : ℕ → ℕ) (life life' : ℕ → Life) (who : ℕ → ℕ → ℕ) (kind : Kind) (seat : ℕ) (v : Work) → (kind ≡ Worker → ⊥) → WalkRule s round phase name history born died life who kind seat v → WalkRule s round phase' name history' born' died' life' who kind seat v
walks_home s round phase phase' name history history' born died born' died' life life' who kind seat v other g = let e = g.still other in record {
  still = g.still;
  only = g.only;
  half = λ e. absurd (other e);
  at_work = λ e. absurd (other e);
  retired_in = g.retired_in;
  absent = g.absent;
  stood = g.stood;
  had = g.had;
  went = λ b h. absurd (subst (λ (l : List ℕ). HasEntry l b) e.0 h);
  walk = subst (λ (u : Walk). WorkWalks s round phase' name history' born' died' life' who v.went u) (sym e.1) tt;
  sided = g.sided;
}

-- readers see the finished rounds only
pub goes_who : (s : Setup) (round : ℕ) (name : ℕ → ℕ) (history : ℕ → Node) (born died : ℕ → ℕ) (life : ℕ → Life) (who who' : ℕ → ℕ → ℕ) → ((q : ℕ) → q ≤ round → who' q ≡ who q) → (v : Read) → ((q : ℕ) → v.pin ≡ q + 1 → q ≤ round)
    → ReaderRule s round name history born died life who v → ReaderRule s round name history born died life who' v
goes_who s round name history born died life who who' same v low g = record {
  went = g.went;
  walk = λ q p. subst (λ (f : ℕ → ℕ). Walks s name history born died life f q v.went v.walk) (sym (same q (low q p))) (g.walk q p);
  sided = g.sided;
  dated = g.dated;
  places = λ q x n p h. subst (λ (f : ℕ → ℕ). IsPlaceOf s name f x n) (sym (same q (low q p))) (g.places q x n p h);
  yes_notes = λ n q h. let t = g.yes_notes n q h in (t.0, (t.1.0, ap (λ (f : ℕ → ℕ). f n) (same q t.0) ∙ t.1.1));
  no_notes = λ n q h. let t = g.no_notes n q h in (t.0, ap (λ (f : ℕ → ℕ). f n) (same q t.0) ∙ t.1);
}
