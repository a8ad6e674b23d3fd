-- The corners of a name are three vertices.
use Rattle.std.proofs.Common.{◌≡◌, ℕ, suc, ◌<◌, ◌≤◌, max, Bool, true, false, cond, List, [], ◌∷◌, refl, sym, ap, ⊎_elim, arith}
use Rattle.mesh_names.specs.Names.{Name}
use Rattle.mesh_names.specs.Triangles.{Shape, Triangle, Vertex, Corner, Mid, size, before, middle, child_triangle, below, top_of, triangle}
use Rattle.mesh_names.specs.Validity.{IsValid}
use Rattle.mesh_names.proofs.Levels.{middle-same}
use Rattle.mesh_names.proofs.Neighbours.{corner-inj}

-- how many middles stand in one another
abbrev age : Vertex → ℕ
age (Corner i) = 0
age (Mid a b) = suc (max (age a) (age b))

middle_age : (a b : Vertex) → age (middle a b) ≡ suc (max (age a) (age b))
middle_age a b = by_order (before b a)
  where
    by_order : (o : Bool) → age (cond o (Mid b a) (Mid a b)) ≡ suc (max (age a) (age b))
    by_order true = omega arith
    by_order false = refl

-- three vertices, of which the last is the newest and not the middle of the others
pub record AreApart (t : Triangle) : Type 0 where
  pub first_second : t.0 ≡ t.1 → ⊥
  pub second_third : t.1 ≡ t.2 → ⊥
  pub first_third : t.0 ≡ t.2 → ⊥
  pub newest : (age t.0 ≤ age t.2) × (age t.1 ≤ age t.2)
  pub next : age t.2 ≤ suc (max (age t.0) (age t.1))
  pub unmade : t.2 ≡ middle t.0 t.1 → ⊥

younger : (a b c : Vertex) → age a < age b → a ≡ b → ⊥
younger a b c h e = let same : age a ≡ age b = ap age e in omega (arith, h, same)

child_apart : (t : Triangle) (b : Bool) → AreApart t → AreApart (child_triangle t b)
child_apart t false h = let m = middle_age t.0 t.1 in record {
  first_second = λ e. h.first_third (sym e);
  second_third = younger t.0 (middle t.0 t.1) t.0 (omega (arith, m));
  first_third = h.unmade;
  newest = (omega (arith, m, h.next), omega (arith, m));
  next = omega (arith, m, h.newest.0, h.newest.1);
  unmade = λ e. ⊎_elim (λ p. h.first_third p.0) (λ p. h.second_third p.1) (middle-same t.0 t.1 t.2 t.0 e);
}
child_apart t true h = let m = middle_age t.0 t.1 in record {
  first_second = h.second_third;
  second_third = h.unmade;
  first_third = younger t.1 (middle t.0 t.1) t.0 (omega (arith, m));
  newest = (omega (arith, m), omega (arith, m, h.next));
  next = omega (arith, m, h.newest.0, h.newest.1);
  unmade = λ e. ⊎_elim (λ p. h.first_second p.0) (λ p. h.first_third p.0) (middle-same t.0 t.1 t.1 t.2 e);
}

below_apart : (top : Triangle) (w : List Bool) → AreApart top → AreApart (below top w)
below_apart top [] h = h
below_apart top (b ∷ w) h = child_apart (below top w) b (below_apart top w h)

pub name_apart : (mesh : Shape) → IsValid mesh → (n : Name) → n.0 < size mesh → AreApart (triangle mesh n)
name_apart mesh valid n rooted =
    let t = top_of mesh n.0 in
    let d = valid.distinct n.0 rooted in
    let m = middle_age t.0 t.1 in
    below_apart t n.1 (record {
      first_second = λ e. d.0 (corner-inj _ _ e);
      second_third = λ e. d.1 (corner-inj _ _ e);
      first_third = λ e. d.2 (corner-inj _ _ e);
      newest = (omega arith, omega arith);
      next = omega arith;
      unmade = younger t.2 (middle t.0 t.1) t.0 (omega (arith, m));
    })
