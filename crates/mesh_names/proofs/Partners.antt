-- A partner has the same refinement edge.
use Rattle.std.proofs.Common.{◌≡◌, ℕ, Bool, true, false, cond, not, refl, sym, ap, ◌∙◌, subst, List, [], ◌∷◌}
use Rattle.std.specs.Prelude.{Option, Some, None}
use Rattle.mesh_names.specs.Names.{Name}
use Rattle.mesh_names.specs.Triangles.{Vertex, Triangle, Shape, triangle, child_triangle, middle, top_of}
use Rattle.mesh_names.specs.Partners.{Edge, Edge0, Edge1, Edge2, Across, Tells, PartnersShare, partner, half_partner, top_partner, edge_at, edge_word, turned_by}
use Rattle.mesh_names.proofs.Middles.{middle-swap}

-- the two ends, the other way where t says so, have one middle
turned-middle : (t : Bool) (p q : Vertex × Vertex) → p ≡ turned_by t q → middle p.0 p.1 ≡ middle q.0 q.1
turned-middle true p q e = (λ i. middle (e i).0 (e i).1) ∙ middle-swap q.1 q.0
turned-middle false p q e = λ i. middle (e i).0 (e i).1

-- the refinement edge of a partner is that of the name, or that turned
abbrev pub Same : Shape → ℕ → List Bool → Option (Name × Bool) → Type 0
Same mesh r w None = Unit {0}
Same mesh r w (Some m) = edge_at Edge2 (triangle mesh m.0) ≡ turned_by m.1 (edge_at Edge2 (triangle mesh (r, w)))

module _ (mesh : Shape) (x : Across) (tells : Tells mesh x) where
  -- an edge of a macro element is the refinement edge of its name
  edge_there : (e : Edge) (r : ℕ) → edge_at Edge2 (triangle mesh (r, edge_word e)) ≡ edge_at e (top_of mesh r)
  edge_there Edge0 r = refl
  edge_there Edge1 r = refl
  edge_there Edge2 r = refl

  lows : (r : ℕ) (e : Edge) (o : Option (ℕ × Edge × Bool)) → x r e ≡ o → Same mesh r (edge_word e) (top_partner o)
  lows r e None h = tt
  lows r e (Some a) h = edge_there a.1 a.0 ∙ tells.same r a.0 e a.1 a.2 h ∙ ap (turned_by a.2) (sym (edge_there e r))

  halves : (r : ℕ) (c : Bool) (w : List Bool) (o : Option (Name × Bool)) → Same mesh r w o → Same mesh r (c ∷ not c ∷ w) (half_partner c o)
  halves r c w None h = tt
  halves r c w (Some m) h = ends c m.1 (triangle mesh m.0) (triangle mesh (r, w)) h
    where
      ends : (c t : Bool) (u v : Triangle) → edge_at Edge2 u ≡ turned_by t (edge_at Edge2 v) →
          edge_at Edge2 (child_triangle (child_triangle u (cond t c (not c))) (cond t (not c) c)) ≡ turned_by t (edge_at Edge2 (child_triangle (child_triangle v (not c)) c))
      ends true true u v e = λ i. (turned-middle true (edge_at Edge2 u) (edge_at Edge2 v) e i, (e i).1)
      ends true false u v e = λ i. ((e i).0, turned-middle false (edge_at Edge2 u) (edge_at Edge2 v) e i)
      ends false true u v e = λ i. ((e i).0, turned-middle true (edge_at Edge2 u) (edge_at Edge2 v) e i)
      ends false false u v e = λ i. (turned-middle false (edge_at Edge2 u) (edge_at Edge2 v) e i, (e i).1)

  pub partners : (r : ℕ) (w : List Bool) → Same mesh r w (partner x r w)
  partners r [] = lows r Edge2 (x r Edge2) refl
  partners r (true ∷ []) = lows r Edge0 (x r Edge0) refl
  partners r (false ∷ []) = lows r Edge1 (x r Edge1) refl
  partners r (false ∷ false ∷ w) = refl
  partners r (true ∷ true ∷ w) = refl
  partners r (true ∷ false ∷ w) = halves r true w (partner x r w) (partners r w)
  partners r (false ∷ true ∷ w) = halves r false w (partner x r w) (partners r w)

pub partners_share : PartnersShare
partners_share mesh x tells r w n t e =
    let s : Same mesh r w (Some (n, t)) = subst (Same mesh r w) e (partners mesh x tells r w) in
    turned-middle t (edge_at Edge2 (triangle mesh n)) (edge_at Edge2 (triangle mesh (r, w))) s
