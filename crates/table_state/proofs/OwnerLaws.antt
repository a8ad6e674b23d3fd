-- The laws of what the owner knows of all blocks.
use Rattle.std.proofs.Common.{◌≡◌, ℕ, ◌+◌, ◌-◌, ◌<◌, ◌≤◌, Bool, true, false, List, ◌++◌, length, ◌⊎◌, refl, sym, ap, ◌∙◌, subst, inl, inr, ⊎_elim, arith}
use Rattle.std.proofs.lemmas.List.{length-append}
use native.Mathlib.Decide.{dec_lt}
use Rattle.table_words.specs.Setup.{Setup}
use Rattle.table_words.specs.Words.{Words}
use Rattle.table_words.specs.Views.{Views, Resting}
use Rattle.table_words.specs.Claims.{Progress, Claimed, Failed, Drawn, Half, Whole, Living}
use Rattle.table_state.specs.Claims.{block_of}
use Rattle.table_words.specs.Entries.{HasEntry}
use Rattle.table_words.specs.Places.{member_of, child_place}
use Rattle.table_words.proofs.Entries.{entry_of_both, entry_left, entry_right}
use Rattle.table_state.specs.Ghosts.{Held, Life, Free, Loose, Placed, RolledBack, chained, stands, Ghost}
use Rattle.table_state.specs.Chains.{Covers}
use Rattle.table_state.specs.Rule.{Rule}
use Rattle.table_state.specs.OwnerLaws.{DeadNoted, FreeFound, StockRows, BlocksNoted, KeptExact, NotedKinds, IsFound, WalkedNoted, EarlyPins, BlocksCounted, PatchesCounted}
use Rattle.table_state.proofs.FoundAgain.{one_more, placed, found_covers}
use Rattle.table_state.proofs.HeldClaims.{not_open, loose_not}
use Rattle.table_state.proofs.Inside.{below_pool}
use Rattle.table_state.proofs.Across.{no_early}
use Rattle.table_state.proofs.SeatLaws.{living_blocks, link_words, history_words}
use Rattle.table_state.proofs.Counts.{counted, once_append, rows_from, rows_length, row_of, has_row, once_rows, blocks_of, blocks_length, name_of, has_block, once_blocks}

pub free_found : FreeFound
free_found s w n v (g, r) b = (r.frees.all b, λ h. (r.frees.hand_rows b h, r.frees.hand_stock b h))

pub stock_rows : StockRows
stock_rows s w n v (g, r) i k l m = let t = r.frees.stocked i l m in (t.0, t.1, t.2, r.frees.shut (omega arith), λ a c. r.frees.once i k l m a c)

pub blocks_noted : BlocksNoted
blocks_noted s w n v (g, r) b x m = (
  (λ u. ⊎_elim inl (λ h. inr (h.0, h.1, r.claims.holds h.0 x m h.1 h.2, h.3)) (r.known.noted b x m u)),
  r.known.rolled_back b x m,
  λ u. let h = r.known.loose b m u in (h.0, h.1, h.2, h.3, r.claims.holds h.1 h.0 h.2 (Drawn b) h.4),
)

pub kept_exact : KeptExact
kept_exact s w n v (g, r) b = (r.kept.right b, λ t. r.kept.all b t.0 t.1 t.2 t.3 t.4)

pub early_pins : EarlyPins
early_pins s w n v (g, r) = (r.early, no_early s w n v g r)

module _ (s : Setup) (w : Words) (n : ℕ) (v : Views) (g : Ghost) (r : Rule s w n v g) where
  -- before the round each block of the chains was published
  pub is_born : v.ruling.phase ≡ Resting → (b x m : ℕ) → g.life b ≡ Placed x m → (0 < w.born b) × (w.born b ≤ w.round) × (w.died b ≤ w.round)
  is_born z b x m u = (
    elim (dec_lt 0 (w.born b)) [ yes l ↦ l | no o ↦ absurd (let t = r.claims.half b x m u (omega arith) in ⊎_elim (λ h. open_ x t.0 m _ h) (λ h. open_ x t.0 m _ h) t.1) ],
    elim (dec_lt w.round (w.born b)) [ yes l ↦ absurd (let c = r.chains.borns b in let t = r.claims.kept b x m u (omega arith) (λ e. cc) in open_ x t.0 m _ t.1) | no o ↦ omega arith ],
    r.names.calm b x m ((λ e. cc), λ e. cc) u,
  )
    where
      open_ : (x j m : ℕ) (p : Progress) → g.stage x ≡ Held j m p → ⊥
      open_ x j m p h = not_open j m p (sym h ∙ r.claims.none x z)

  -- and each block that is not free is noted
  pub all_noted : v.ruling.phase ≡ Resting → (b : ℕ) → (g.life b ≡ Free) ⊎ ((x : ℕ) × (m : ℕ) × HasEntry v.ruling.placed (b, x, m))
  all_noted z b = by (g.life b) refl
    where
      open_ : (x j m : ℕ) (p : Progress) → g.stage x ≡ Held j m p → ⊥
      open_ x j m p h = not_open j m p (sym h ∙ r.claims.none x z)

      by : (l : Life) → g.life b ≡ l → (g.life b ≡ Free) ⊎ ((x : ℕ) × (m : ℕ) × HasEntry v.ruling.placed (b, x, m))
      by Free e = inl e
      by (Loose u) e = let h = r.known.loose b u e in absurd (open_ h.0 h.1 h.2 (Drawn b) h.4)
      by (Placed x m) e = inr (x, m, ⊎_elim (λ h. h) (λ h. absurd (open_ x h.0 m h.1 h.2)) (r.known.noted b x m e))
      by (RolledBack x m) e = inr (x, m, r.known.rolled_back b x m e)

  not_free : (b x m : ℕ) → HasEntry v.ruling.placed (b, x, m) → g.life b ≡ Free → ⊥
  not_free b x m h e = ⊎_elim (λ u. clash1 x m (sym e ∙ u)) (λ u. clash2 x m (sym e ∙ u)) (r.note.placed b x m h)
    where
      clash1 : (x m : ℕ) → Free ≡ Placed x m → ⊥
      clash1 x m e = cc

      clash2 : (x m : ℕ) → Free ≡ RolledBack x m → ⊥
      clash2 x m e = cc

  -- a block in chains that has a retired round is of no claim
  pub unclaimed : (b y m j : ℕ) (p : Progress) → g.stage y ≡ Held j m p → block_of p ≡ b + 1 → g.life b ≡ Placed y m → 0 < w.died b → ⊥
  unclaimed b y m j Claimed h e u d = omega arith
  unclaimed b y m j Failed h e u d = omega arith
  unclaimed b y m j (Drawn a) h e u d = loose_not (y + 1) y m (sym (r.claims.shape y j m (Drawn a) h).0 ∙ ap g.life (one_more a b e) ∙ u)
  unclaimed b y m j (Half a) h e u d = let k = (r.claims.shape y j m (Half a) h).1 in let z : w.born a ≡ w.born b = ap w.born (one_more a b e) in let o = (r.chains.dieds b y m u d).0 in omega arith
  unclaimed b y m j (Whole a) h e u d = let k = (r.claims.shape y j m (Whole a) h).1 in let z : w.born a ≡ w.born b = ap w.born (one_more a b e) in let o = (r.chains.dieds b y m u d).0 in omega arith
  unclaimed b y m j (Living a) h e u d = let k = (r.claims.shape y j m (Living a) h).1 in let z : w.born a ≡ w.born b = ap w.born (one_more a b e) in let t = r.chains.dieds b y m u d in let t1 = t.1 in let t2 = t.2 in omega arith

  -- a block in chains is found, where it is named
  pub found_at : (x b : ℕ) → ((t : Bool) × (chained (g.life b) t ≡ x + 1)) → IsFound v x b
  found_at x b (t, c) = let p = placed (g.life b) t x c in (
    t,
    p.0,
    p.1,
    sym (ap (λ (l : Life). chained l t) p.2) ∙ c,
    (λ h. let u = r.note.rolled_back b h in clash p.0 p.1 u.0 u.1 (sym p.2 ∙ u.2)),
    ⊎_elim inl (λ h. inr (h.0, h.1, r.claims.holds h.0 p.0 p.1 h.1 h.2, h.3)) (r.known.noted b p.0 p.1 p.2),
  )
    where
      clash : (x m y k : ℕ) → Placed x m ≡ RolledBack y k → ⊥
      clash x m y k e = cc

  pub noted_stands : (a z i : ℕ) (t : Bool) (x : ℕ) → HasEntry v.ruling.placed (a, z, i) → stands (Placed z i) t ≡ x + 1 → stands (g.life a) t ≡ x + 1
  noted_stands a z i t x h st = ⊎_elim (λ e. ap (λ (l : Life). stands l t) e ∙ st) (λ e. ap (λ (l : Life). stands l t) e ∙ same t st) (r.note.placed a z i h)
    where
      same : (t : Bool) → stands (Placed z i) t ≡ x + 1 → stands (RolledBack z i) t ≡ x + 1
      same true e = e
      same false e = e

pub dead_noted : DeadNoted
dead_noted s w n v (g, r) b x m u d = (⊎_elim (λ h. h) (λ h. absurd (unclaimed s w n v g r b x m h.0 h.1 h.2 h.3 u d)) (r.known.noted b x m u), λ h. let t = r.note.rolled_back b h in clash x m t.0 t.1 (sym u ∙ t.2))
  where
    clash : (x m y k : ℕ) → Placed x m ≡ RolledBack y k → ⊥
    clash x m y k e = cc

pub noted_kinds : NotedKinds
noted_kinds s w n v (g, r) b x m z h = ⊎_elim
    (λ u. let t = is_born s w n v g r z b x m u in elim (dec_lt 0 (w.died b)) [
      | yes l ↦ inr (inl (r.kept.all b x m u l t.2))
      | no o ↦ (let dead : w.died b ≡ 0 = omega arith in inl (t.0, dead, λ i y st. ((living_blocks s w n v (g, r) b x m u t.0 dead).1 i y (ap (λ (l : Life). chained l i) u ∙ st)).0))
    ])
    (λ u. inr (inr (r.note.all b x m u)))
    (r.note.placed b x m h)

pub walked_noted : WalkedNoted
walked_noted s w n v (g, r) = (
  (λ x b l e. found_at s w n v g r x b (link_words s w n v (g, r) x b (inl l) e).0),
  λ a z i b t h. (
    (λ c e. found_at s w n v g r (child_place s.elements a t c) b (link_words s w n v (g, r) (child_place s.elements a t c) b (inr (a, t, c, z, refl, noted_stands s w n v g r a z i false z h refl)) e).0),
    λ x st e. found_at s w n v g r x b (history_words s w n v (g, r) a b x t (noted_stands s w n v g r a z i t x h st) e).0,
  ),
)

pub blocks_counted : BlocksCounted
blocks_counted s w n v (g, r) z none stopped low blocks once same = by (w.free - w.cursor) (omega arith)
  where
    by : (k : ℕ) → w.free ≡ w.cursor + k → length blocks + w.free ≡ w.cursor + s.pool
    by k e = let rows : List ℕ = rows_from w.cursor w.row k in let l = rows_length w.cursor w.row k in let a = length-append blocks rows in
        let c = counted s.pool (blocks ++ rows)
        (once_append blocks rows once (once_rows w.cursor w.row k (λ i j a b c d. r.claims.apart i j a (omega arith) c (omega arith)))
        (λ b h f. let t = (same b).0 h in let u = row_of w.cursor w.row k b f in let m = u.2 in not_free s w n v g r b t.0 t.1 t.2 (ap g.life (sym u.3) ∙ (r.claims.rows u.0 u.1 (omega arith)).0)))
        (λ b h. ⊎_elim (λ h. let t = (same b).0 h in below_pool s w.free w.row g.life g.stage v.ruling.hand v.ruling.retired r.inside b (not_free s w n v g r b t.0 t.1 t.2)) (λ f. let u = row_of w.cursor w.row k b f in let m = u.2 in let i = r.inside.rows u.0 (omega arith) in let q = u.3 in omega arith) (entry_of_both blocks rows b h))
        (λ b p. ⊎_elim (λ f. ⊎_elim (λ h. absurd (subst (λ (x : List ℕ). HasEntry x b) none h)) (λ t. ⊎_elim (λ t. let m = t.2 in entry_right blocks rows b (subst (HasEntry rows) t.3 (has_row w.cursor w.row k t.0 t.1 (omega arith)))) (λ t. let t1 = t.1 in let t2 = t.2 in absurd (omega arith)) t) (r.frees.all b p f))
        (λ t. entry_left blocks rows b ((same b).1 t)) (all_noted s w n v g r z b)) in omega arith

pub patches_counted : PatchesCounted
patches_counted s w n v (g, r) z none stopped low names firsts stay at once_f same_f once_s same_s =
    let a = length-append (blocks_of (g.who w.round) firsts) stay in let l = blocks_length (g.who w.round) firsts in
    let c = blocks_counted s w n v (g, r) z none stopped low (blocks_of (g.who w.round) firsts ++ stay)
    (once_append (blocks_of (g.who w.round) firsts) stay (once_blocks (g.who w.round) firsts once_f (λ k i h f e. let x = holder k h in let y = holder i f in let x1 = x.1 in let y1 = y.1 in sym x.6 ∙ ap (λ (b : ℕ). w.name (member_of b false)) (let q : x.0 ≡ y.0 = omega arith in q) ∙ y.6)) once_s apart)
    (λ b. (
      (λ h. ⊎_elim
          (λ h. let t = name_of (g.who w.round) firsts b h in let x = holder t.0 t.1 in let x1 = x.1 in let t2 = t.2 in let q : x.0 ≡ b = omega arith in (x.2, x.3, subst (λ (i : ℕ). HasEntry v.ruling.placed (i, x.2, x.3)) q x.4))
          (λ h. ⊎_elim (λ k. let t = r.kept.right b k in (t.0, t.1, noted b t.0 t.1 (inl t.2))) (λ k. let t = r.note.rolled_back b k in (t.0, t.1, noted b t.0 t.1 (inr t.2))) ((same_s b).0 h))
          (entry_of_both (blocks_of (g.who w.round) firsts) stay b h)),
      λ t. ⊎_elim
          (λ y. let h = living b t.0 t.1 t.2 y.0 y.1 in entry_left (blocks_of (g.who w.round) firsts) stay b (subst (HasEntry (blocks_of (g.who w.round) firsts)) (let e = h.1 in let q : g.who w.round h.0 - 1 ≡ b = omega arith in q) (has_block (g.who w.round) firsts h.0 h.2)))
          (λ k. entry_right (blocks_of (g.who w.round) firsts) stay b ((same_s b).1 k)) (noted_kinds s w n v (g, r) b t.0 t.1 z t.2),
    )) in omega arith
  where
    noted : (b x m : ℕ) → (g.life b ≡ Placed x m) ⊎ (g.life b ≡ RolledBack x m) → HasEntry v.ruling.placed (b, x, m)
    noted b x m (inl u) = ⊎_elim (λ h. h) (λ h. absurd (not_open h.0 m h.1 (sym h.2 ∙ r.claims.none x z))) (r.known.noted b x m u)
    noted b x m (inr u) = r.known.rolled_back b x m u

    -- a first name of the forest has its living block, whose first name it is
    holder : (k : ℕ) → HasEntry firsts k → (b : ℕ) × (g.who w.round k ≡ b + 1) × (x : ℕ) × (m : ℕ) × HasEntry v.ruling.placed (b, x, m) × (g.life b ≡ Placed x m) × (w.name (member_of b false) ≡ k) × Covers w.born w.died w.round b
    holder k h = let t = (same_f k).0 h in let b = (r.history.forests w.round names at k).0 t.0 in let f = (r.names.fits w.round (inl (inl refl))).found k b.0 b.1 in let p = placed (g.life b.0) f.0 f.1 f.3 in
        (b.0, b.1, p.0, p.1, noted b.0 p.0 p.1 (inl p.2), p.2, first b.0 k f.0 f.1 p.0 p.1 p.2 f.2 f.3 t.1, found_covers w.history w.born w.died g.life w.round f.1 b.0 f.5.0 (w.head f.1) f.5.1)
      where
        first : (b k : ℕ) (t : Bool) (y x m : ℕ) → g.life b ≡ Placed x m → w.name (member_of b t) ≡ k → chained (g.life b) t ≡ y + 1 → s.leads k ≡ true → w.name (member_of b false) ≡ k
        first b k false y x m u e c lead = e
        first b k true y x m u e c lead = let q = r.names.patch b x m u in ⊎_elim
            (λ a. let i : 0 ≡ y + 1 = sym a.0 ∙ sym (ap (λ (l : Life). chained l true) u) ∙ c in absurd (omega arith))
            (λ a. absurd (r.names_apart.mate_leads (w.name (member_of b false)) k a.1 a.3 lead (sym e ∙ q.1 ∙ a.3))) q.2

    apart : (b : ℕ) → HasEntry (blocks_of (g.who w.round) firsts) b → HasEntry stay b → ⊥
    apart b h f = let t = name_of (g.who w.round) firsts b h in let x = holder t.0 t.1 in let x1 = x.1 in let t2 = t.2 in let q : x.0 ≡ b = omega arith in let c = subst (Covers w.born w.died w.round) q x.7 in let c0 = c.0 in
        ⊎_elim (λ k. let y = r.kept.right b k in let y3 = y.3 in let y4 = y.4 in ⊎_elim (λ e. omega arith) (λ e. omega arith) c.2) (λ k. let y = r.note.rolled_back b k in let e = r.chains.rolled_back b y.0 y.1 y.2 in omega arith) ((same_s b).0 f)

    -- a living block is that of its first name
    living : (b x m : ℕ) → HasEntry v.ruling.placed (b, x, m) → 0 < w.born b → w.died b ≡ 0 → (k : ℕ) × (g.who w.round k ≡ b + 1) × HasEntry firsts k
    living b x m h p d = ⊎_elim
        (λ u. let t = is_born s w n v g r z b x m u in let c = r.names.sound w.round (inl (inl refl)) b false x (ap (λ (l : Life). chained l false) u) (p, t.1, inl d) in
        (w.name (member_of b false), c.0, (same_f (w.name (member_of b false))).1 ((r.history.forests w.round names at (w.name (member_of b false))).1 (b, c.0), (r.names.patch b x m u).0)))
        (λ u. let e = r.chains.rolled_back b x m u in absurd (omega arith)) (r.note.placed b x m h)
