-- The owner's sweeps have steps.
use Rattle.std.proofs.Common.{◌≡◌, ℕ, ◌+◌, ◌<◌, Bool, false, refl, sym, ap, ◌∙◌, subst, inl, inr, ⊎_elim, arith}
use Rattle.table_words.specs.Setup.{Setup}
use Rattle.table_words.specs.Words.{Words, Node, node}
use Rattle.table_words.specs.Views.{Views}
use Rattle.table_words.specs.Entries.{HasEntry, Noted}
use Rattle.table_words.specs.Places.{member_of}
use Rattle.table_words.proofs.Functions.{update_same}
use Rattle.table_state.specs.Ghosts.{Life, Placed, RolledBack, chained, Ghost}
use Rattle.table_state.specs.Chains.{IsPlace}
use Rattle.table_state.specs.Rule.{Rule}
use Rattle.table_state.proofs.FoundAgain.{placed}
use Rattle.table_state.proofs.OwnerLaws.{noted_stands, unclaimed}
use Rattle.table_state.proofs.SeatLaws.{owner_words, link_words, history_words}
use Rattle.table_steps.specs.Steps.{ByStampStep, ByCutLink, ByCutHistory}
use Rattle.table_steps.specs.OnwardSweeps.{IsKnownPlace, SweepsGoOn}

module _ (s : Setup) (w : Words) (n : ℕ) (v : Views) (g : Ghost) (r : Rule s w n v g) where
  -- a block in chains that has a retired round is noted with its places
  found : (x b : ℕ) → ((t : Bool) × (chained (g.life b) t ≡ x + 1)) → 0 < w.died b → (t : Bool) × (y : ℕ) × (m : ℕ) × HasEntry v.ruling.placed (b, y, m) × (HasEntry v.ruling.rolled_back b → ⊥) × (chained (Placed y m) t ≡ x + 1)
  found x b (t, c) d = let p = placed (g.life b) t x c in (
    t,
    p.0,
    p.1,
    ⊎_elim (λ h. h) (λ h. absurd (unclaimed s w n v g r b p.0 p.1 h.0 h.1 h.2 h.3 p.2 d)) (r.known.noted b p.0 p.1 p.2),
    (λ h. let u = r.note.rolled_back b h in clash p.0 p.1 u.0 u.1 (sym p.2 ∙ u.2)),
    sym (ap (λ (l : Life). chained l t) p.2) ∙ c,
  )
    where
      clash : (x m y k : ℕ) → Placed x m ≡ RolledBack y k → ⊥
      clash x m y k e = cc

  is_place : (x : ℕ) → IsKnownPlace s v x → IsPlace s.elements g.life x
  is_place x (inl l) = inl l
  is_place x (inr k) = inr (k.0, k.3, k.4, k.1, k.6, noted_stands s w n v g r k.0 k.1 k.2 false k.1 k.5 refl)

pub sweeps_go_on : SweepsGoOn
sweeps_go_on s w n v (g, r) x b e f = (
  (λ three place at last. let home = r.rules.halves (λ z. cc) (λ z. cc) in let own = owner_words s w n v (g, r) home in let d = (own.3 b e).1 f in
      let head = own.0 x (node (b + 1) 0) at in let t = found s w n v g r x b (link_words s w n v (g, r) x b (is_place s w n v g r x place) (ap (λ (l : Node). l.block) head)).0 (omega arith) in
      let now : e ≡ v.ruling.finished + 1 = let k = r.stock.finished in omega arith in
      (_, ByStampStep (three, x, b, t.1, t.2, t.0, t.3, t.4, t.5, at, subst (Noted (v.owned 0).died b) now f, refl), update_same w.head x (node (b + 1) (v.ruling.finished + 1)) ∙ ap (λ (i : ℕ). node (b + 1) i) (sym now))),
  λ rest p drained. let home = r.rules.halves (λ z. cc) (λ z. cc) in let own = owner_words s w n v (g, r) home in let d = (own.3 b e).1 f in (
    (λ place at. let head = own.0 x (node (b + 1) e) at in let t = found s w n v g r x b (link_words s w n v (g, r) x b (is_place s w n v g r x place) (ap (λ (l : Node). l.block) head)).0 (omega arith) in
        (t.0, λ l h. (_, ByCutLink (rest, x, b, e, t.1, t.2, t.0, l, at, f, h, p, drained, t.3, t.4, t.5, refl), update_same w.head x l))),
    λ a z i u from st at. let word = own.1 a u (node (b + 1) e) at in let t = found s w n v g r x b (history_words s w n v (g, r) a b x u (noted_stands s w n v g r a z i u x from st) (ap (λ (l : Node). l.block) word)).0 (omega arith) in
        (t.0, λ l h. (_, ByCutHistory (rest, a, z, i, x, b, e, t.1, t.2, u, t.0, l, at, f, h, p, drained, from, st, t.3, t.4, t.5, refl), update_same w.history (member_of a u) l)),
  ),
)
