-- The least forest by chains.
use Rattle.std.proofs.Common.{◌≡◌, ◌⊎◌, ℕ, zero, suc, Bool, refl, sym, ◌∙◌, subst, List, ◌∷◌, inl, inr, ⊎_elim}
use Rattle.std.specs.Prelude.{Some}
use Rattle.std.specs.FinSet.{union}
use Rattle.mesh_names.specs.Names.{Name}
use Rattle.mesh_names.specs.Triangles.{Shape}
use Rattle.mesh_names.specs.Forests.{Names, Has, IsForest, Conforms}
use Rattle.mesh_names.specs.Partners.{Across, Tells, partner}
use Rattle.mesh_names.specs.LeastForest.{CanHold, grown_by, partner_at, parent_at, closed_below, least_forest}
use Rattle.mesh_names.specs.Chains.{chain_of, ChainStands}
use Rattle.mesh_names.specs.Reaching.{IsBroughtBy, LeastByChains}
use Rattle.mesh_names.proofs.Neighbours.{some_inj}
use Rattle.mesh_names.proofs.Pairs.{partners_pair}
use Rattle.mesh_names.proofs.Conforming.{conforms_by_partners}
use Rattle.mesh_names.proofs.Sets.{union-either, grown-from}
use Rattle.mesh_names.proofs.Closing.{partner-from, parent-from, least_by_levels}
use Rattle.mesh_names.proofs.Chains.{chains_stand, chain_within}

-- what holds of a set, and passes on to parents and to partners, holds of the closure
module _ (mesh : Shape) (x : Across) (P : Name → Type 0) (parents : (r : ℕ) (b : Bool) (w : List Bool) → P (r, b ∷ w) → P (r, w)) (partners : (n m : Name) (t : Bool) → P n → partner x n.0 n.1 ≡ Some (m, t) → P m) where
  closed_in : (l : ℕ) (s : Names) → ((n : Name) → Has s n → P n) → (n : Name) → Has (closed_below mesh x l s) n → P n
  unfolding closed_below
  closed_in zero s h n k = h n k
  closed_in (suc l) s h n k = closed_in l (grown_by (parent_at mesh l) (grown_by (partner_at mesh x l) s)) second n k
    where
      first : (n : Name) → Has (grown_by (partner_at mesh x l) s) n → P n
      first n k = ⊎_elim
          (λ a. h n a)
          (λ (p : (q : Name) × Has s q × (partner_at mesh x l q ≡ Some n)). let from = partner-from mesh x l p.0 n p.2 in partners p.0 n from.1.0 (h p.0 p.1) from.1.1)
          (grown-from (partner_at mesh x l) s n k)

      second : (n : Name) → Has (grown_by (parent_at mesh l) (grown_by (partner_at mesh x l) s)) n → P n
      second n k = ⊎_elim
          (λ a. first n a)
          (λ (p : (q : Name) × Has (grown_by (partner_at mesh x l) s) q × (parent_at mesh l q ≡ Some n)).
          let from = parent-from mesh x l p.0 n p.2 in
          parents n.0 from.2.0 n.1 (subst P (λ i. (sym from.1 i, from.2.1 i)) (first p.0 p.1)))
          (grown-from (parent_at mesh l) (grown_by (partner_at mesh x l) s) n k)

module _ (mesh : Shape) (x : Across) (tells : Tells mesh x) (old needs : Names) (forest : IsForest mesh old) (conforms : Conforms mesh old) (can : CanHold mesh needs) where
  abbrev Brought : Name → Type 0
  Brought n = Has old n ⊎ ((q : Name) × Has needs q × IsBroughtBy mesh x q n)

  stands : (q : Name) → Has needs q → ChainStands mesh x q
  stands q h = chains_stand mesh x tells q (can.rooted q h)

  -- a name of a chain is of its own patch
  itself : (q c : Name) → Has needs q → Has (chain_of mesh x q) c → Brought c
  itself q c h k = inr (q, h, (c, k, inl refl))

  brought_parents : (r : ℕ) (b : Bool) (w : List Bool) → Brought (r, b ∷ w) → Brought (r, w)
  brought_parents r b w h = ⊎_elim
      (λ a. inl (forest.closed r b w a))
      (λ (p : (q : Name) × Has needs q × IsBroughtBy mesh x q (r, b ∷ w)).
      let closed = (stands p.0 p.1).chain.closed in
      let c = p.2.0 in
      itself p.0 (r, w) p.1 (⊎_elim
      (λ (e : (r, b ∷ w) ≡ c). closed.parents r b w (subst (λ (y : Name). Has (chain_of mesh x p.0) y) (sym e) p.2.1))
      (λ (m : (t : Bool) × (partner x c.0 c.1 ≡ Some ((r, b ∷ w), t))). closed.partner_parents c r b w m.0 p.2.1 m.1)
      p.2.2))
      h

  brought_partners : (n m : Name) (t : Bool) → Brought n → partner x n.0 n.1 ≡ Some (m, t) → Brought m
  brought_partners n m t h e = ⊎_elim
      (λ a. inl ((conforms_by_partners mesh x tells old forest).0 conforms n.0 n.1 m t a e))
      (λ (p : (q : Name) × Has needs q × IsBroughtBy mesh x q n).
      let c = p.2.0 in
      inr (
        p.0,
        p.1,
        (
          c,
          p.2.1,
          ⊎_elim
              (λ (k : n ≡ c). inr (t, (λ i. partner x (sym k i).0 (sym k i).1) ∙ e))
              (λ (k : (u : Bool) × (partner x c.0 c.1 ≡ Some (n, u))).
              let back = (partners_pair mesh x tells c n k.0 ((stands p.0 p.1).rooted c p.2.1) k.1).back in
              inl (λ i. (some_inj (m, t) (c, back.0) (sym e ∙ back.1) i).0))
              p.2.2,
        ),
      ))
      h

  to : (n : Name) → Has (least_forest mesh x old needs) n → Brought n
  to = closed_in mesh x Brought brought_parents brought_partners 24 (union old needs) (λ n h. ⊎_elim (λ a. inl a) (λ a. itself n n a (stands n a).chain.closed.holds) (union-either old needs n h))

  from : (n : Name) → Brought n → Has (least_forest mesh x old needs) n
  from n h =
      let is = least_by_levels mesh x tells old needs (record { rooted = forest.rooted; shallow = forest.shallow }) can in
      let holds = (conforms_by_partners mesh x tells (least_forest mesh x old needs) is.forest).0 is.conforms in
      ⊎_elim
      (λ a. is.holds_old n a)
      (λ (p : (q : Name) × Has needs q × IsBroughtBy mesh x q n).
      let c = p.2.0 in
      let hc = chain_within mesh x tells (least_forest mesh x old needs) is.forest is.conforms p.0 (is.holds_needs p.0 p.1) c p.2.1 in
      ⊎_elim
      (λ (k : n ≡ c). subst (λ (y : Name). Has (least_forest mesh x old needs) y) (sym k) hc)
      (λ (k : (u : Bool) × (partner x c.0 c.1 ≡ Some (n, u))). holds c.0 c.1 n k.0 hc k.1)
      p.2.2)
      h

pub least_by_chains : LeastByChains
least_by_chains mesh x tells old needs forest conforms can n = (to mesh x tells old needs forest conforms can n, from mesh x tells old needs forest conforms can n)
