-- Chains.
use Rattle.std.proofs.Common.{◌≡◌, ◌⊎◌, ℕ, zero, suc, ◌<◌, ◌≤◌, Bool, refl, sym, ap, ◌∙◌, subst, List, [], ◌∷◌, ◌++◌, length, arith, inl, inr, ⊎_elim}
use Rattle.std.specs.Prelude.{Option, Some, None}
use Rattle.mesh_names.specs.Names.{Name}
use Rattle.mesh_names.specs.Triangles.{Shape, size, level}
use Rattle.mesh_names.specs.Forests.{Names, Has}
use Rattle.mesh_names.specs.Partners.{Across, Tells, partner}
use Rattle.mesh_names.specs.Chains.{IsClosedAbove, at_parent, at_partner_parent, chain_list, ChainStands, ChainsStand, ChainWithin}
use Rattle.mesh_names.proofs.Pairs.{partners_pair}
use Rattle.mesh_names.proofs.Conforming.{conforms_by_partners}
use Rattle.mesh_names.proofs.Sets.{In, has-in, in-has, in-append, in-first, in-second}

abbrev HasParent : (Name → List Name) → Name → Name → Type 0
HasParent g n m = (b : Bool) × (w : List Bool) × (n.1 ≡ b ∷ w) × In m (g (n.0, w))

parent-in : (g : Name → List Name) (n m : Name) → In m (at_parent g n.0 n.1) → HasParent g n m
parent-in g n m h = by n.1 refl h
  where
    by : (w : List Bool) → n.1 ≡ w → In m (at_parent g n.0 w) → HasParent g n m
    by [] e i = absurd i
    by (b ∷ w) e i = (b, w, e, i)

in-parent : (g : Name → List Name) (r : ℕ) (b : Bool) (w v : List Bool) (m : Name) → v ≡ b ∷ w → In m (g (r, w)) → In m (at_parent g r v)
in-parent g r b w v m e i = subst (λ (y : List Bool). In m (at_parent g r y)) (sym e) i

partner-in : (g : Name → List Name) (o : Option (Name × Bool)) (m : Name) → In m (at_partner_parent g o) → (a : Name × Bool) × (o ≡ Some a) × HasParent g a.0 m
partner-in g None m h = absurd h
partner-in g (Some a) m h = (a, refl, parent-in g a.0 m h)

module _ (mesh : Shape) (x : Across) where
  head-in : (k : ℕ) (n : Name) → In n (chain_list x k n)
  unfolding chain_list
  head-in zero n = inl refl
  head-in (suc k) n = inl refl

  -- ---- least
  module _ (n : Name) (other : Names) (closed : IsClosedAbove x n other) where
    all_in : (k : ℕ) (q m : Name) → Has other q → In m (chain_list x k q) → Has other m
    unfolding chain_list
    all_in zero q m h i = ⊎_elim (λ (e : m ≡ q). subst (λ (y : Name). Has other y) (sym e) h) (λ (f : ⊥). absurd f) i
    all_in (suc k) q m h i = ⊎_elim
        (λ (e : m ≡ q). subst (λ (y : Name). Has other y) (sym e) h)
        (λ (j : In m (at_parent (chain_list x k) q.0 q.1 ++ at_partner_parent (chain_list x k) (partner x q.0 q.1))). ⊎_elim
        (λ a. let p = parent-in (chain_list x k) q m a in all_in k (q.0, p.1) m (closed.parents q.0 p.0 p.1 (subst (λ (y : List Bool). Has other (q.0, y)) p.2 h)) p.3)
        (λ a. let o = partner-in (chain_list x k) (partner x q.0 q.1) m a in let p = o.2 in
        all_in k (o.0.0.0, p.1) m (closed.partner_parents q o.0.0.0 p.0 p.1 o.0.1 h (o.1 ∙ (λ i. Some ((o.0.0.0, p.2 i), o.0.1)))) p.3)
        (in-append m (at_parent (chain_list x k) q.0 q.1) (at_partner_parent (chain_list x k) (partner x q.0 q.1)) j))
        i

  module _ (tells : Tells mesh x) where
    record Good (k : ℕ) (n : Name) : Type 0 where
      parents : (r : ℕ) (b : Bool) (w : List Bool) → In (r, b ∷ w) (chain_list x k n) → In (r, w) (chain_list x k n)
      partners : (m : Name) (s : ℕ) (b : Bool) (w : List Bool) (t : Bool) → In m (chain_list x k n) → partner x m.0 m.1 ≡ Some ((s, b ∷ w), t) → In (s, w) (chain_list x k n)
      rooted : (m : Name) → In m (chain_list x k n) → m.0 < size mesh
      lower : (m : Name) → In m (chain_list x k n) → (m ≡ n) ⊎ (level mesh m < level mesh n)

    good_0 : (n : Name) → n.0 < size mesh → level mesh n ≤ 0 → Good 0 n
    unfolding chain_list
    good_0 n hn low = record {
      parents = λ r b w i. ⊎_elim (λ (e : (r, b ∷ w) ≡ n). absurd (omega (arith, low, ap (λ (y : Name). level mesh y) e))) (λ (f : ⊥). absurd f) i;
      partners = λ m s b w t i h. ⊎_elim
          (λ (e : m ≡ n).
          let is : partner x n.0 n.1 ≡ Some ((s, b ∷ w), t) = (λ i. partner x (sym e i).0 (sym e i).1) ∙ h in
          let p = partners_pair mesh x tells n (s, b ∷ w) t hn is in
          absurd (omega (arith, low, p.level)))
          (λ (f : ⊥). absurd f)
          i;
      rooted = λ m i. ⊎_elim (λ (e : m ≡ n). subst (λ (y : Name). y.0 < size mesh) (sym e) hn) (λ (f : ⊥). absurd f) i;
      lower = λ m i. ⊎_elim (λ (e : m ≡ n). inl e) (λ (f : ⊥). absurd f) i;
    }

    module _ (k : ℕ) (n : Name) (hn : n.0 < size mesh) (low : level mesh n ≤ suc k) (ih : (q : Name) → q.0 < size mesh → level mesh q ≤ k → Good k q) where
      -- a name of a chain one below: the chain of the parent, or of the partner's parent
      abbrev Part : Name → Type 0
      Part q = (q.0 < size mesh) × (level mesh q < level mesh n) × Good k q × ((m : Name) → In m (chain_list x k q) → In m (chain_list x (suc k) n))

      part_parent : (b : Bool) (w : List Bool) → n.1 ≡ b ∷ w → Part (n.0, w)
      unfolding chain_list
      part_parent b w e =
          let less : level mesh (n.0, w) < level mesh n = omega (arith, ap (λ (y : List Bool). length y) e) in
          (hn, less, ih (n.0, w) hn (omega (arith, low, less)), λ m i. inr (in-first m (at_parent (chain_list x k) n.0 n.1) (at_partner_parent (chain_list x k) (partner x n.0 n.1)) (in-parent (chain_list x k) n.0 b w n.1 m e i)))

      part_partner : (a : Name × Bool) (b : Bool) (w : List Bool) → partner x n.0 n.1 ≡ Some a → a.0.1 ≡ b ∷ w → Part (a.0.0, w)
      unfolding chain_list
      part_partner a b w h e =
          let p = partners_pair mesh x tells n a.0 a.1 hn h in
          let less : level mesh (a.0.0, w) < level mesh n = omega (arith, p.level, ap (λ (y : List Bool). length y) e) in (
            p.rooted,
            less,
            ih (a.0.0, w) p.rooted (omega (arith, low, less)),
            λ m i. inr (in-second m (at_parent (chain_list x k) n.0 n.1) (at_partner_parent (chain_list x k) (partner x n.0 n.1))
                (subst (λ (y : Option (Name × Bool)). In m (at_partner_parent (chain_list x k) y)) (sym h) (in-parent (chain_list x k) a.0.0 b w a.0.1 m e i))),
          )

      cases : (m : Name) → In m (chain_list x (suc k) n) → (m ≡ n) ⊎ ((q : Name) × Part q × In m (chain_list x k q))
      unfolding chain_list
      cases m i = ⊎_elim
          (λ (e : m ≡ n). inl e)
          (λ (j : In m (at_parent (chain_list x k) n.0 n.1 ++ at_partner_parent (chain_list x k) (partner x n.0 n.1))). ⊎_elim
          (λ a. let p = parent-in (chain_list x k) n m a in inr ((n.0, p.1), part_parent p.0 p.1 p.2, p.3))
          (λ a. let o = partner-in (chain_list x k) (partner x n.0 n.1) m a in let p = o.2 in inr ((o.0.0.0, p.1), part_partner o.0 p.0 p.1 o.1 p.2, p.3))
          (in-append m (at_parent (chain_list x k) n.0 n.1) (at_partner_parent (chain_list x k) (partner x n.0 n.1)) j))
          i

      good_suc : Good (suc k) n
      good_suc = record {
        parents = λ r b w i. ⊎_elim
            (λ (e : (r, b ∷ w) ≡ n).
            let p = part_parent b w (λ i. (sym e i).1) in
            subst (λ (y : ℕ). In (y, w) (chain_list x (suc k) n)) (λ i. (sym e i).0) (p.3 (n.0, w) (head-in k (n.0, w))))
            (λ (c : (q : Name) × Part q × In (r, b ∷ w) (chain_list x k q)). let p = c.1 in p.3 (r, w) (p.2.parents r b w c.2))
            (cases (r, b ∷ w) i);
        partners = λ m s b w t i h. ⊎_elim
            (λ (e : m ≡ n).
            let p = part_partner ((s, b ∷ w), t) b w ((λ i. partner x (sym e i).0 (sym e i).1) ∙ h) refl in
            p.3 (s, w) (head-in k (s, w)))
            (λ (c : (q : Name) × Part q × In m (chain_list x k q)). let p = c.1 in p.3 (s, w) (p.2.partners m s b w t c.2 h))
            (cases m i);
        rooted = λ m i. ⊎_elim
            (λ (e : m ≡ n). subst (λ (y : Name). y.0 < size mesh) (sym e) hn)
            (λ (c : (q : Name) × Part q × In m (chain_list x k q)). let p = c.1 in p.2.rooted m c.2)
            (cases m i);
        lower = λ m i. ⊎_elim
            (λ (e : m ≡ n). inl e)
            (λ (c : (q : Name) × Part q × In m (chain_list x k q)). let p = c.1 in inr (⊎_elim
            (λ (e : m ≡ c.0). omega (arith, p.1, ap (λ (y : Name). level mesh y) e))
            (λ (l : level mesh m < level mesh c.0). omega (arith, p.1, l))
            (p.2.lower m c.2)))
            (cases m i);
      }

    good : (k : ℕ) (n : Name) → n.0 < size mesh → level mesh n ≤ k → Good k n
    good zero n hn low = good_0 n hn low
    good (suc k) n hn low = good_suc k n hn low (λ q hq l. good k q hq l)

    stands : (n : Name) → n.0 < size mesh → ChainStands mesh x n
    stands n hn =
        let l = chain_list x (level mesh n) n in
        let g = good (level mesh n) n hn (omega arith) in
        record {
          chain = record {
            closed = record {
              holds = in-has n l (head-in (level mesh n) n);
              parents = λ r b w h. in-has (r, w) l (g.parents r b w (has-in (r, b ∷ w) l h));
              partner_parents = λ m s b w t h e. in-has (s, w) l (g.partners m s b w t (has-in m l h) e);
            };
            least = λ other closed m h. all_in n other closed (level mesh n) n m closed.holds (has-in m l h);
          };
          rooted = λ m h. g.rooted m (has-in m l h);
          lower = λ m h. g.lower m (has-in m l h);
        }

pub chains_stand : ChainsStand
chains_stand mesh x tells n hn = stands mesh x tells n hn

pub chain_within : ChainWithin
chain_within mesh x tells members forest conforms n h =
    let holds = (conforms_by_partners mesh x tells members forest).0 conforms in
    let closed : IsClosedAbove x n members = record {
      holds = h;
      parents = forest.closed;
      partner_parents = λ m s b w t k e. forest.closed s b w (holds m.0 m.1 (s, b ∷ w) t k e);
    } in
    (stands mesh x tells n (forest.rooted n h)).chain.least members closed
