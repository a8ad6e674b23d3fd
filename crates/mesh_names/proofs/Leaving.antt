-- The set of leaves has the leaves.
use Rattle.std.proofs.Common.{◌≡◌, ◌⊎◌, ℕ, zero, suc, ◌<◌, Bool, true, false, not, refl, sym, ap, ◌∙◌, subst, List, [], ◌∷◌, ◌++◌, inl, inr, ⊎_elim, arith}
use native.Mathlib.Decide.{dec_lt}
use Rattle.std.specs.FinSet.{contains, from_list, items}
use Rattle.mesh_names.specs.Names.{Name}
use Rattle.mesh_names.specs.Triangles.{size}
use Rattle.mesh_names.specs.Forests.{Has, IsLeaf}
use Rattle.mesh_names.specs.Leaves.{tops, children, leaves, LeavesAre}
use Rattle.mesh_names.proofs.Booleans.{and_both, and-both, not-true, true-not, left}
use Rattle.mesh_names.proofs.Sets.{In, has-in, in-has, has-item, item-has, in-append, in-first, in-second}

-- a macro element's name is a top, and each top is one
pub in-tops : (k r : ℕ) → r < k → In (r, []) (tops k)
in-tops zero r h = absurd (omega (arith, h))
in-tops (suc k) r h = by (dec_lt r k) (λ p. in-tops k r p)
  where
    by : Dec (r < k) → (r < k → In (r, []) (tops k)) → In (r, []) (tops k ++ (k, []) ∷ [])
    by (yes p) lower = in-first (r, []) (tops k) ((k, []) ∷ []) (lower p)
    by (no p) lower = in-second (r, []) (tops k) ((k, []) ∷ []) (inl (λ i. (same i, [])))
      where
        same : r ≡ k
        same = omega (arith, h, p)

pub tops-in : (k : ℕ) (n : Name) → In n (tops k) → (n.0 < k) × (n.1 ≡ [])
tops-in zero n h = absurd h
tops-in (suc k) n h = ⊎_elim
    (λ (a : In n (tops k)). let r = tops-in k n a in (omega (arith, r.0), r.1))
    (λ (b : (n ≡ (k, [])) ⊎ ⊥). ⊎_elim (λ (e : n ≡ (k, [])). let same = ap (λ (y : Name). y.0) e in (omega (arith, same), ap (λ (y : Name). y.1) e)) (λ (f : ⊥). absurd f) b)
    (in-append n (tops k) ((k, []) ∷ []) h)

-- a child of a name of the list, and where a child comes from
pub in-children : (r : ℕ) (b : Bool) (w : List Bool) (ns : List Name) → In (r, w) ns → In (r, b ∷ w) (children ns)
in-children r b w [] h = absurd h
in-children r b w (n ∷ ns) h = ⊎_elim
    (λ (e : (r, w) ≡ n). first b e)
    (λ (i : In (r, w) ns). inr (inr (in-children r b w ns i)))
    h
  where
    first : (b : Bool) → (r, w) ≡ n → In (r, b ∷ w) (children (n ∷ ns))
    first false e = inl (λ i. ((e i).0, false ∷ (e i).1))
    first true e = inr (inl (λ i. ((e i).0, true ∷ (e i).1)))

pub record IsChildIn (ns : List Name) (n : Name) : Type 0 where
  pub side : Bool
  pub word : List Bool
  pub is : n ≡ (n.0, side ∷ word)
  pub parent : In (n.0, word) ns

pub children-in : (ns : List Name) (n : Name) → In n (children ns) → IsChildIn ns n
children-in [] n h = absurd h
children-in (p ∷ ns) n h = ⊎_elim
    (λ (e : n ≡ (p.0, false ∷ p.1)). of false e)
    (λ (r : (n ≡ (p.0, true ∷ p.1)) ⊎ In n (children ns)). ⊎_elim
    (λ (e : n ≡ (p.0, true ∷ p.1)). of true e)
    (λ (i : In n (children ns)). let c = children-in ns n i in record { side = c.side; word = c.word; is = c.is; parent = inr c.parent })
    r)
    h
  where
    of : (b : Bool) → n ≡ (p.0, b ∷ p.1) → IsChildIn (p ∷ ns) n
    of b e = record {
      side = b;
      word = p.1;
      is = e ∙ (λ i. ((sym e i).0, b ∷ p.1));
      parent = inl (λ i. ((e i).0, p.1));
    }

pub leaves_are : LeavesAre
leaves_are mesh members forest n = (to, from)
  where
    all : List Name
    all = tops (size mesh) ++ children (items members)

    to : Has (leaves mesh members) n → IsLeaf mesh members n
    to h =
        let b = and_both (contains (from_list all) n) (not (contains members n)) (sym (left (from_list all) members n) ∙ h) in
        let out : contains members n ≡ false = true-not (contains members n) b.1 in
        ⊎_elim
        (λ (i : In n (tops (size mesh))). let t = tops-in (size mesh) n i in record { rooted = t.0; unsplit = out; born = λ a w e. absurd (no_letter (sym t.1 ∙ e)) })
        (λ (i : In n (children (items members))). let c = children-in (items members) n i in
        let held : Has members (n.0, c.word) = item-has members (n.0, c.word) c.parent in
        record {
          rooted = forest.rooted (n.0, c.word) held;
          unsplit = out;
          born = λ a w e. subst (λ (v : List Bool). Has members (n.0, v)) (tails (sym (ap (λ (y : Name). y.1) c.is) ∙ e)) held;
        })
        (in-append n (tops (size mesh)) (children (items members)) (has-in n all b.0))
      where
        no_letter : {b : Bool} {w : List Bool} → [] ≡ b ∷ w → ⊥
        no_letter e = cc

        tails : {a b : Bool} {v w : List Bool} → a ∷ v ≡ b ∷ w → v ≡ w
        tails e = cc

    from : IsLeaf mesh members n → Has (leaves mesh members) n
    from l = left (from_list all) members n ∙ and-both (contains (from_list all) n) (not (contains members n)) (in-has n all (place n.1 refl)) (not-true (contains members n) l.unsplit)
      where
        place : (w : List Bool) → n.1 ≡ w → In n all
        place [] e = in-first n (tops (size mesh)) (children (items members)) (subst (λ (v : List Bool). In (n.0, v) (tops (size mesh))) (sym e) (in-tops (size mesh) n.0 l.rooted))
        place (b ∷ w) e = in-second n (tops (size mesh)) (children (items members)) (subst (λ (v : List Bool). In (n.0, v) (children (items members))) (sym e) (in-children n.0 b w (items members) (has-item members (n.0, w) (l.born b w e))))
