-- The laws of how many draws a round makes.
use Rattle.std.proofs.Common.{◌≡◌, ℕ, zero, suc, ◌+◌, ◌-◌, ◌<◌, ◌≤◌, false, List, [], ◌∷◌, ◌++◌, length, ◌⊎◌, refl, sym, ap, subst, inl, inr, ⊎_elim, arith, true}
use Rattle.std.proofs.lemmas.List.{length-append}
use mathlib.Core.Logic.{dite}
use native.Mathlib.Decide.{ℕ_discrete, dec_lt}
use Rattle.table_words.specs.Setup.{Setup, places}
use Rattle.table_words.specs.Words.{Words}
use Rattle.table_words.specs.Views.{Views, FirstHalf, order}
use Rattle.table_words.specs.Claims.{Progress, Claimed, Failed, Drawn, Half, Whole, Living, claim}
use Rattle.table_words.specs.Entries.{HasEntry, EntryAt}
use Rattle.table_words.specs.Places.{member_of}
use Rattle.table_words.specs.Sums.{sum_below}
use Rattle.table_words.proofs.Sums.{sum_le}
use Rattle.table_words.proofs.Entries.{entry_of_both, entry_left, entry_right}
use Rattle.table_state.specs.Ghosts.{Stage, Open, Held, Life, Free, Loose, Placed, RolledBack, chained, Ghost}
use Rattle.table_state.specs.Claims.{bit_of, draws, draws_of, block_of}
use Rattle.table_state.specs.Bisections.{IsPlaceOf}
use Rattle.table_state.specs.Rule.{Rule}
use Rattle.table_state.specs.OwnerLaws.{Once}
use Rattle.table_state.specs.DrawLaws.{Enumerates, IsFirst, IsHeldBack, DrawsOfTarget, PoolCovered, RoundFits}
use Rattle.table_state.proofs.Across.{place_one}
use Rattle.table_state.proofs.Lists.{entry_at}
use Rattle.table_state.proofs.Counts.{once_append, rows_from, rows_length, has_row, blocks_of, blocks_length, has_block, covered, once_within, chosen, sum_less}

few_draws : (p : Progress) → draws p ≤ 1
few_draws Claimed = omega arith
few_draws Failed = omega arith
few_draws (Drawn b) = omega arith
few_draws (Half b) = omega arith
few_draws (Whole b) = omega arith
few_draws (Living b) = omega arith

draws_held : (t : Stage) → draws_of t ≤ bit_of t
draws_held Open = omega arith
draws_held (Held j m p) = few_draws p

block_drawn : (p : Progress) (b : ℕ) → block_of p ≡ b + 1 → draws p ≡ 1
block_drawn Claimed b e = absurd (omega arith)
block_drawn Failed b e = absurd (omega arith)
block_drawn (Drawn c) b e = refl
block_drawn (Half c) b e = refl
block_drawn (Whole c) b e = refl
block_drawn (Living c) b e = refl

module _ (s : Setup) (w : Words) (n : ℕ) (v : Views) (g : Ghost) (r : Rule s w n v g) (one : v.ruling.phase ≡ FirstHalf) where
  -- the first member of the patch of a claim at the place x
  abbrev IsAim : ℕ → ℕ → Type 0
  IsAim x k = (s.leads k ≡ true) × IsPlaceOf s w.name (g.who (w.round + 1)) x k × (g.who w.round k ≡ 0) × HasEntry v.ruling.plan.target k

  -- as many names as there are claims at places below i
  abbrev Aims : ℕ → Type 0
  Aims i = (list : List ℕ) × (length list ≡ sum_below i (λ x. bit_of (g.stage x))) × Once list × ((k : ℕ) → HasEntry list k → (x : ℕ) × (x < i) × IsAim x k)

  next_aim : (i : ℕ) (a : Stage) → g.stage i ≡ a → Aims i → Aims (suc i)
  next_aim i Open e t = let l = t.1 in let z = ap bit_of e in (t.0, omega arith, t.2, λ k h. let u = t.3 k h in let m = u.1 in (u.0, omega arith, u.2))
  next_aim i (Held j m p) e t = let l = t.1 in let z = ap bit_of e in let a = r.labels i j m p e one in (
    a.0 ∷ t.0,
    omega arith,
    ((λ h. let u = t.3 a.0 h in let same : u.0 ≡ i = place_one s w n v g r (w.round + 1) (inr (refl, omega (arith, ap order one))) u.0 i a.0 u.2.1 a.2 in let m = u.1 in omega arith), t.2),
    λ k h. ⊎_elim (λ q. (i, omega arith, subst (IsAim i) (sym q) (a.1, a.2, a.3, a.6))) (λ h. let u = t.3 k h in let m = u.1 in (u.0, omega arith, u.2)) h,
  )

  aims : (i : ℕ) → Aims i
  aims zero = ([], refl, tt, λ k h. absurd h)
  aims (suc i) = next_aim i (g.stage i) refl (aims i)

  abbrev claims_aim : List ℕ
  claims_aim = (aims (places s)).0

  -- CURSOR is at most their number, and below it while a claim has not drawn
  few : (w.cursor ≤ length claims_aim) × ((j x m : ℕ) → HasEntry (v.claims j) (claim x m Claimed) → w.cursor < length claims_aim)
  few = let c = r.claims.drawn one in let l = (aims (places s)).1 in (
    (let a = sum_le (places s) (λ x. draws_of (g.stage x)) (λ x. bit_of (g.stage x)) (λ x. draws_held (g.stage x)) in omega arith),
    λ j x m h. let e = r.claims.held j x m Claimed h in let d = ap draws_of e in let b = ap bit_of e in
        let a = sum_less (places s) (λ x. draws_of (g.stage x)) (λ x. bit_of (g.stage x)) x (λ x. draws_held (g.stage x)) (low x j m e) (omega arith) in omega arith,
  )
    where
      low : (x j m : ℕ) → g.stage x ≡ Held j m Claimed → x < places s
      low x j m e = elim (dec_lt x (places s)) [ yes l ↦ l | no o ↦ (let b = ap bit_of (r.claims.inside x (omega arith)) in let z = ap bit_of e in absurd (omega arith)) ]

  absent : (names : List ℕ) → EntryAt v.ruling.history w.round names → (k : ℕ) → HasEntry claims_aim k → HasEntry names k → ⊥
  absent names at k h f = let u = (aims (places s)).3 k h in let a = u.2.2 in let b = (r.history.forests w.round names at k).0 f in let e = b.1 in omega arith

  -- the block of a claim is of a row below FREE
  claim_row : (x j m b : ℕ) (p : Progress) → g.stage x ≡ Held j m p → block_of p ≡ b + 1 → HasEntry (rows_from 0 w.row w.free) b
  claim_row x j m b p h e = let t = r.draws x j m p one h (block_drawn p b e) in let d = r.drawn.drawn j t.0 (b + 1) (subst (λ (i : ℕ). HasEntry (v.work j).drawn (t.0, i)) e t.1) in
      elim (dec_lt t.0 w.free) [
        | yes l ↦ (let q = d.2 l in subst (HasEntry (rows_from 0 w.row w.free)) (let z : w.row t.0 ≡ b = omega arith in z) (has_row 0 w.row w.free t.0 (omega arith) (omega arith)))
        | no o ↦ (let q = d.3 (omega arith) in absurd (omega arith))
      ]

  -- a list of blocks of the last finished forest, of blocks that are held back, and of rows has all of the pool
  all_blocks : (names firsts held : List ℕ) → v.ruling.high ≤ v.ruling.low → EntryAt v.ruling.history w.round names → Enumerates (IsFirst s names) firsts → Enumerates (IsHeldBack v.ruling) held
      → (b : ℕ) → b < s.pool → HasEntry (blocks_of (g.who w.round) firsts) b ⊎ HasEntry held b ⊎ HasEntry (rows_from 0 w.row w.free) b
  all_blocks names firsts held shut at fs hs b low = by (g.life b) refl
    where
      back : IsHeldBack v.ruling b → HasEntry (blocks_of (g.who w.round) firsts) b ⊎ HasEntry held b ⊎ HasEntry (rows_from 0 w.row w.free) b
      back h = inr (inl ((hs.1 b).1 h))

      -- a living block of the last finished forest
      old : (x m : ℕ) → g.life b ≡ Placed x m → 0 < w.born b → w.born b ≤ w.round → w.died b ≡ 0 → HasEntry (blocks_of (g.who w.round) firsts) b
      old x m u p l d = let c = r.names.sound w.round (inl (inl refl)) b false x (ap (λ (l : Life). chained l false) u) (p, l, inl d) in let k : ℕ = w.name (member_of b false) in let e = c.0 in
          subst (HasEntry (blocks_of (g.who w.round) firsts)) (let z : g.who w.round k - 1 ≡ b = omega arith in z)
          (has_block (g.who w.round) firsts k ((fs.1 k).1 ((r.names.patch b x m u).0, (r.history.forests w.round names at k).1 (b, c.0))))

      by : (l : Life) → g.life b ≡ l → HasEntry (blocks_of (g.who w.round) firsts) b ⊎ HasEntry held b ⊎ HasEntry (rows_from 0 w.row w.free) b
      by Free e = ⊎_elim
          (λ h. back (inr (inr h)))
          (λ t. ⊎_elim
          (λ t. inr (inr (subst (HasEntry (rows_from 0 w.row w.free)) t.3 (has_row 0 w.row w.free t.0 (omega arith) (let l = t.2 in omega arith)))))
          (λ t. let a = t.1 in let c = t.2 in absurd (omega arith)) t) (r.frees.all b low e)
      by (Loose u) e = let h = r.known.loose b u e in inr (inr (claim_row h.0 h.1 h.2 b (Drawn b) h.4 refl))
      by (RolledBack x m) e = back (inr (inl (r.note.all b x m e)))
      by (Placed x m) e = dite (ℕ_discrete (w.born b) 0)
          (λ z. let h = r.claims.half b x m e z in inr (inr (⊎_elim (λ f. claim_row x h.0 m b (Half b) f refl) (λ f. claim_row x h.0 m b (Whole b) f refl) h.1)))
          (λ z. dite (ℕ_discrete (w.born b) (w.round + 1))
          (λ y. let h = r.claims.kept b x m e y (λ q. cc) in inr (inr (claim_row x h.0 m b (Living b) h.1 refl)))
          (λ y. let c = r.chains.borns b in dite (ℕ_discrete (w.died b) 0)
          (λ d. inl (old x m e (positive (w.born b) z) (elim (dec_lt w.round (w.born b)) [ yes l ↦ absurd (y (omega arith)) | no o ↦ omega arith ]) d))
          (λ d. back (inl (r.kept.all b x m e (positive (w.died b) d) (r.names.calm b x m ((λ q. cc), λ q. cc) e))))))
        where
          positive : (i : ℕ) → (i ≡ 0 → ⊥) → 0 < i
          positive zero o = absurd (o refl)
          positive (suc i) o = omega arith

pub draws_of_target : DrawsOfTarget
draws_of_target s w n v (g, r) names added one at all = let a = aims s w n v g r one (places s) in let f = few s w n v g r one in
    let c = once_within a.0 added a.2 (λ k h. let u = a.3 k h in (all.1 k).1 ((u.2.0, u.2.3), λ l. absent s w n v g r one names at k h l)) in
    ((let l = f.0 in omega arith), λ j x m h. let l = f.1 j x m h in omega arith)

pub pool_covered : PoolCovered
pool_covered s w n v (g, r) names firsts held one shut at fs hs = let bs : List ℕ = blocks_of (g.who w.round) firsts in let rows : List ℕ = rows_from 0 w.row w.free in
    let a = length-append bs (held ++ rows) in let b = length-append held rows in let c = blocks_length (g.who w.round) firsts in let d = rows_length 0 w.row w.free in
    let e = covered s.pool (bs ++ (held ++ rows)) (λ i l. ⊎_elim (λ h. entry_left bs (held ++ rows) i h) (λ t. entry_right bs (held ++ rows) i (⊎_elim (λ h. entry_left held rows i h) (λ h. entry_right held rows i h) t)) (all_blocks s w n v g r one names firsts held shut at fs hs i l)) in omega arith

pub round_fits : RoundFits
round_fits s w n v (g, r) goal held one shut all hs room = let y = within in let z = room_all in let low = f.0 in (
  omega arith,
  (λ j x m h. let l = f.1 j x m h in omega arith),
  λ j x m h. let t = r.draws x j m Failed one (r.claims.held j x m Failed h) refl in let d = r.drawn.drawn j t.0 0 t.1 in let k = d.1 in let q = d.2 (omega arith) in omega arith,
)
  where
    forest : (names : List ℕ) × EntryAt v.ruling.history w.round names
    forest = entry_at v.ruling.history w.round (let l = r.history.rounds in omega arith)

    firsts : (list : List ℕ) × Enumerates (IsFirst s forest.0) list
    firsts = chosen s.leads forest.0

    f : (w.cursor ≤ length (aims s w n v g r one (places s)).0) × ((j x m : ℕ) → HasEntry (v.claims j) (claim x m Claimed) → w.cursor < length (aims s w n v g r one (places s)).0)
    f = few s w n v g r one

    -- the claims' patches and those of the last finished forest are patches of the target
    within : length (aims s w n v g r one (places s)).0 + length firsts.0 ≤ length goal
    within = let a = aims s w n v g r one (places s) in let l = length-append a.0 firsts.0 in
        let c = once_within (a.0 ++ firsts.0) goal
        (once_append a.0 firsts.0 a.2 firsts.1.0 (λ k h i. absent s w n v g r one forest.0 forest.1 k h ((firsts.1.1 k).0 i).1))
        (λ k h. (all.1 k).1 (⊎_elim (λ h. let u = a.3 k h in (u.2.0, u.2.3)) (λ h. let u = (firsts.1.1 k).0 h in (u.0, (r.plan.aim (omega (arith, ap order one)) (omega (arith, ap order one))).olds k ((r.history.forests w.round forest.0 forest.1 k).0 u.1))) (entry_of_both a.0 firsts.0 k h))) in omega arith

    room_all : s.pool ≤ length firsts.0 + length held + w.free
    room_all = pool_covered s w n v (g, r) forest.0 firsts.0 held one shut forest.1 firsts.1 hs
