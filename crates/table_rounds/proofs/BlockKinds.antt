-- The kinds of blocks that the owner has noted.
use Rattle.std.proofs.Common.{◌≡◌, ℕ, ◌+◌, ◌*◌, ◌<◌, ◌≤◌, Bool, true, false, ◌⊎◌, inl, inr, ⊎_elim, length, refl, sym, ap, ◌∙◌, subst, arith}
use Rattle.atomic_table.specs.Table.{Allows}
use Rattle.table_words.specs.Claims.{Progress, Claimed, Failed, Drawn, Half, Whole, Living}
use Rattle.mesh_names.specs.Names.{digit}
use Rattle.table_words.specs.Entries.{HasEntry}
use Rattle.table_words.specs.Places.{member_of}
use Rattle.table_words.specs.Setup.{Setup}
use Rattle.table_words.specs.Views.{Owner, Views}
use Rattle.table_words.specs.Words.{Words, words_at}
use Rattle.table_words.proofs.Entries.{entry_of_both}
use Rattle.table_state.specs.Ghosts.{Held, Life, Free, Placed, RolledBack, Ghost, chained, stands}
use Rattle.table_state.specs.Claims.{block_of}
use Rattle.table_state.specs.Rule.{Rule}
use Rattle.table_state.proofs.FoundAgain.{placed, placed_chained, found_covers, one_more}
use Rattle.table_state.proofs.HeldClaims.{loose_not}
use Rattle.table_state.proofs.OwnerLaws.{noted_stands, unclaimed}
use Rattle.mesh_table.specs.declared.rule.Site.{Site}
use Rattle.mesh_table.specs.Sights.{seat_at, views_of, setup_at}
use Rattle.mesh_table.specs.Holds.{Holds, Sat}
use Rattle.mesh_table.proofs.Owning.{owner_acts, kept_words, in_ruling}
use Rattle.table_rounds.specs.Kinds.{IsRetired, BlocksTold, blocks_told}

-- lives are apart
free_not_placed : (x m : ℕ) → Free ≡ Placed x m → ⊥
free_not_placed x m e = cc

free_not_back : (x m : ℕ) → Free ≡ RolledBack x m → ⊥
free_not_back x m e = cc

placed_not_back : (x m y k : ℕ) → Placed x m ≡ RolledBack y k → ⊥
placed_not_back x m y k e = cc

-- the places of a life that stands
where_placed : (y m z i : ℕ) → Placed y m ≡ Placed z i → (y ≡ z) × (m ≡ i)
where_placed y m z i e =
    let one : y + 1 ≡ z + 1 = ap (λ (l : Life). stands l false) e in
    (one_more y z one, ap (λ (l : Life). stands l true) e)

where_back : (y m z i : ℕ) → RolledBack y m ≡ RolledBack z i → (y ≡ z) × (m ≡ i)
where_back y m z i e =
    let one : y + 1 ≡ z + 1 = ap (λ (l : Life). stands l false) e in
    (one_more y z one, ap (λ (l : Life). stands l true) e)

module _ (s : Setup) (w : Words) (n : ℕ) (v : Views) (g : Ghost) (r : Rule s w n v g) where
  at_one : (b y m z i : ℕ) → HasEntry v.ruling.placed (b, y, m) → HasEntry v.ruling.placed (b, z, i) → (y ≡ z) × (m ≡ i)
  at_one b y m z i h k = ⊎_elim
      (λ p. ⊎_elim (λ q. where_placed y m z i (sym p ∙ q)) (λ q. absurd (placed_not_back y m z i (sym p ∙ q))) (r.note.placed b z i k))
      (λ p. ⊎_elim (λ q. absurd (placed_not_back z i y m (sym q ∙ p))) (λ q. where_back y m z i (sym p ∙ q)) (r.note.placed b z i k))
      (r.note.placed b y m h)

  -- a block of a finished round has no claim
  no_claim : (b y m j : ℕ) (p : Progress) → g.stage y ≡ Held j m p → block_of p ≡ b + 1 → g.life b ≡ Placed y m → 0 < w.born b → w.born b ≤ w.round → ⊥
  no_claim b y m j Claimed h e u d l = omega arith
  no_claim b y m j Failed h e u d l = omega arith
  no_claim b y m j (Drawn a) h e u d l = loose_not (y + 1) y m (sym (r.claims.shape y j m (Drawn a) h).0 ∙ ap g.life (one_more a b e) ∙ u)
  no_claim b y m j (Half a) h e u d l = let k = (r.claims.shape y j m (Half a) h).1 in let z : w.born a ≡ w.born b = ap w.born (one_more a b e) in omega arith
  no_claim b y m j (Whole a) h e u d l = let k = (r.claims.shape y j m (Whole a) h).1 in let z : w.born a ≡ w.born b = ap w.born (one_more a b e) in omega arith
  no_claim b y m j (Living a) h e u d l = let k = (r.claims.shape y j m (Living a) h).1 in let z : w.born a ≡ w.born b = ap w.born (one_more a b e) in omega arith

  -- a block that covers the last finished round stands at a place of a macro element, or of a child of a noted block
  covering_rooted : (b x : ℕ) (t : Bool) → chained (g.life b) t ≡ x + 1 → 0 < w.born b → w.born b ≤ w.round → (w.died b ≡ 0) ⊎ (w.round < w.died b) → (x < s.elements) ⊎ ((p z i : ℕ) × (k c : Bool) × (x ≡ s.elements + 4 * p + 2 * digit k + digit c) × HasEntry v.ruling.placed (p, z, i))
  covering_rooted b x t c d l live = ⊎_elim (λ a. inl a.0)
      (λ a.
      let p = a.0 in
      let f = (r.names.fits w.round (inl (inl refl))).found (w.name (member_of p a.1)) p a.4 in
      let q = placed (g.life p) f.0 f.1 f.3 in
      let u = found_covers w.history w.born w.died g.life w.round f.1 p f.5.0 (w.head f.1) f.5.1 in
      inr (p, q.0, q.1, a.1, a.2, a.3, ⊎_elim (λ h. h) (λ h. absurd (no_claim p q.0 q.1 h.0 h.1 h.2 h.3 q.2 u.0 u.1)) (r.known.noted p q.0 q.1 q.2)))
      (r.names.sound w.round (inl (inl refl)) b t x c (d, l, live)).1

module _ (k : Site) (id i : ℕ) (me : Sat) (rules : me.0.kind ≡ Owner) where
  pub looks_blocks : (slots : ℕ) → Allows (Holds k) slots id me i (λ n. n) (blocks_told k.layout.elements me)
  looks_blocks slots = owner_acts k id i me rules slots (λ n. n) (blocks_told k.layout.elements me) (λ s h same _.
      let f = seat_at s.views in
      let w = words_at k.layout s.words in
      let v = views_of f in
      let g = h.lawful.0 in
      let r = h.lawful.1 in
      let retired : (b : ℕ) → IsRetired (f 0) b → (x : ℕ) × (m : ℕ) × (g.life b ≡ Placed x m) × (w.died b ≡ w.round + 1) = λ b e. r.retireds b (⊎_elim (λ a. inl (0, a)) inr (entry_of_both (f 0).work.retired (f 0).ruling.retired b e)) in
      let told : BlocksTold k.layout.elements (f 0) = record {
        hand_kept = λ b a c. let t = r.kept.right b c in free_not_placed t.0 t.1 (sym (r.hand b a) ∙ t.2);
        hand_back = λ b a c. let t = r.note.rolled_back b c in free_not_back t.0 t.1 (sym (r.hand b a) ∙ t.2);
        kept_back = λ b a c. let t = r.kept.right b a in let u = r.note.rolled_back b c in placed_not_back t.0 t.1 u.0 u.1 (sym t.2 ∙ u.2);
        retired_kept = λ b a c. let t = retired b a in let u = r.kept.right b c in let x = t.3 in let y = u.4 in omega arith;
        retired_back = λ b a c. let t = retired b a in let u = r.note.rolled_back b c in placed_not_back t.0 t.1 u.0 u.1 (sym t.2 ∙ u.2);
        retired_placed = λ b a. let t = retired b a in (t.0, t.1, ⊎_elim (λ h. h) (λ h. absurd (unclaimed (setup_at k) w (length s.views) v g r b t.0 t.1 h.0 h.1 h.2 h.3 t.2 (let q = t.3 in omega arith))) (r.known.noted b t.0 t.1 t.2));
        once = at_one (setup_at k) w (length s.views) v g r;
        claimed = λ b y m z a c e.
            let shape = r.claims.shape y 0 m (Living b) (r.claims.held 0 y m (Living b) c) in
            ⊎_elim (λ q. where_placed y m z a (sym shape.0 ∙ q)) (λ q. absurd (placed_not_back y m z a (sym shape.0 ∙ q))) (r.note.placed b z a e);
        claimed_back = λ b y m c e.
            let shape = r.claims.shape y 0 m (Living b) (r.claims.held 0 y m (Living b) c) in
            let t = r.note.rolled_back b e in placed_not_back y m t.0 t.1 (sym shape.0 ∙ t.2);
        rooted = λ b y m x t a c st.
            let u = retired b a in
            let d = r.chains.dieds b u.0 u.1 u.2 (let q = u.3 in omega arith) in
            let is = noted_stands (setup_at k) w (length s.views) v g r b y m t x c st in
            let q = u.3 in let d1 = d.1 in
            covering_rooted (setup_at k) w (length s.views) v g r b x t (placed_chained (g.life b) t x u.0 u.1 u.2 is) d.0 (omega arith) (inr (omega arith));
      } in (
        f 0,
        w,
        v,
        kept_words k id i me rules s,
        in_ruling f (f 0) refl refl refl refl refl,
        h.lawful,
        ((λ z. (same z, me.1)), subst (BlocksTold k.layout.elements) same told),
      ))
