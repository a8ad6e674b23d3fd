-- A written mesh's names stand for the names at and below the leaves that were written.
use Rattle.std.proofs.Common.{◌≡◌, ℕ, ◌+◌, ◌<◌, Bool, refl, sym, ap, ◌∙◌, List, [], ◌∷◌, length, arith, inl, inr, ⊎_elim}
use Rattle.std.specs.Prelude.{Some}
use Rattle.std.proofs.lemmas.List.{length-append}
use Rattle.mesh_names.specs.Names.{Name}
use Rattle.mesh_names.specs.Triangles.{Shape, size, level, grade_of, triangle, midpoint}
use Rattle.mesh_names.specs.Forests.{Names, Has}
use Rattle.mesh_names.specs.Partners.{Across, Edge, Tells, partner, edge_word}
use Rattle.mesh_names.specs.Validity.{IsWalk, Shares, across_of}
use Rattle.mesh_names.proofs.Neighbours.{valid_tells}
use Rattle.mesh_names.proofs.Levels.{levels_apart}
use Rattle.mesh_names.proofs.Partners.{partners_share}
use Rattle.mesh_names.proofs.Only.{partner_is_only}
use Rattle.mesh_names.proofs.Pairs.{partners_pair}
use Rattle.written_meshes.specs.Renaming.{AreWritten, IsWrittenFrom, GradesAreLow, GradesDiffer, leaf_at, renamed}
use Rattle.written_meshes.specs.ForestRenaming.{IsRenaming, WrittenIsRenaming}
use Rattle.written_meshes.proofs.LeafNames.{all, one}
use Rattle.written_meshes.proofs.LeafOrder.{order}
use Rattle.written_meshes.proofs.Moved.{inside, outside, leaf_of, not_member, moved, midpoint-moved, one_middle}
use Rattle.written_meshes.proofs.SharedEdges.{shared_middle}
use Rattle.written_meshes.proofs.WrittenFits.{written_fits}

module _ (mesh other : Shape) (x : Across) (count : ℕ) (members : Names) (list : List Name) (from : IsWrittenFrom mesh x count members list other) where
  abbrev is : AreWritten mesh x count members list other
  is = from.written

  abbrev name : Name → Name
  name = renamed list

  abbrev y : Across
  y = across_of other

  pub tells : Tells other y
  tells = valid_tells other (written_fits mesh x count members list other is).0 from.compatible.graded

  rooted : (n : Name) → n.0 < size other → (name n).0 < size mesh
  rooted n h = (leaf_of mesh other x count members list is n.0 h).rooted

  single : (m n : Name) → m.0 < size other → n.0 < size other → name m ≡ name n → m ≡ n
  single m n hm hn e = one mesh members is.forest list is.is_list m n (inside mesh other x count members list is m.0 hm) (inside mesh other x count members list is n.0 hn) e

  same_middle : (m n : Name) → m.0 < size other → n.0 < size other → midpoint (triangle other m) ≡ midpoint (triangle other n) → midpoint (triangle mesh (name m)) ≡ midpoint (triangle mesh (name n))
  same_middle m n hm hn e = sym (midpoint-moved mesh other x count members list is m hm) ∙ ap (moved mesh other x count members list is) e ∙ midpoint-moved mesh other x count members list is n hn

  partners : (n m : Name) (t : Bool) → n.0 < size other → partner y n.0 n.1 ≡ Some (m, t) → (s : Bool) × (partner x (name n).0 (name n).1 ≡ Some (name m, s))
  partners n m t h e =
      let pair = partners_pair other y tells n m t h e in
      let share = partners_share other y tells n.0 n.1 m t e in
      ⊎_elim
      (λ (p : ((name n).0 ≡ (name m).0) × ((name n).1 ≡ (name m).1)). absurd (pair.other (single m n pair.rooted h (λ i. (sym p.0 i, sym p.1 i)))))
      (λ (p : (s : Bool) × (partner x (name n).0 (name n).1 ≡ Some (name m, s))). p)
      (partner_is_only mesh x is.tells (name n).0 (name m).0 (name n).1 (name m).1 (rooted n h) (rooted m pair.rooted) (same_middle n m h pair.rooted (sym share)))

  back : (n m : Name) (t : Bool) → n.0 < size other → partner x (name n).0 (name n).1 ≡ Some (m, t) → (k : Name) × ((s : Bool) × (partner y n.0 n.1 ≡ Some (k, s)) × (name k ≡ m))
  back n m t h e =
      let pair = partners_pair mesh x is.tells (name n) m t (rooted n h) e in
      let share = partners_share mesh x is.tells (name n).0 (name n).1 m t e in
      ⊎_elim
      (λ (has : Has members m). absurd (not_member mesh other x count members list is n h (is.partners m.0 m.1 (name n) pair.back.0 has pair.back.1)))
      (λ (k : (k : Name) × (k.0 < length list) × (name k ≡ m)).
      let hk : k.0.0 < size other = outside mesh other x count members list is k.0.0 k.1 in
      let same = one_middle mesh other x count members list is n k.0 h hk (sym share ∙ ap (λ (q : Name). midpoint (triangle mesh q)) (sym k.2)) in
      ⊎_elim
      (λ (p : (n.0 ≡ k.0.0) × (n.1 ≡ k.0.1)). absurd (pair.other (sym k.2 ∙ ap name (λ i. (sym p.0 i, sym p.1 i)))))
      (λ (p : (s : Bool) × (partner y n.0 n.1 ≡ Some (k.0, s))). (k.0, (p.0, p.1, k.2)))
      (partner_is_only other y tells n.0 k.0.0 n.1 k.0.1 h hk same))
      (all mesh members is.forest list is.is_list m.0 m.1 pair.rooted)

  -- ---- levels
  abbrev top : ℕ → ℕ
  top r = level mesh (leaf_at list r)

  level_of : (r : ℕ) (w : List Bool) → level mesh (name (r, w)) ≡ top r + length w
  level_of r w = ap (λ (k : ℕ). grade_of mesh (leaf_at list r).0 + k) (length-append w (leaf_at list r).1) ∙ omega arith

  pub across : (r q : ℕ) (e f : Edge) → r < size other → q < size other → Shares other r e q f → top r + grade_of other q ≡ top q + grade_of other r
  across r q e f hr hq h =
      let mid = shared_middle other r q e f h in
      let here : level other (r, edge_word e) ≡ level other (q, edge_word f) = tells.graded r q e f hr hq mid in
      let there : level mesh (name (r, edge_word e)) ≡ level mesh (name (q, edge_word f)) = levels_apart mesh x is.tells (name (r, edge_word e)) (name (q, edge_word f)) (rooted (r, edge_word e) hr) (rooted (q, edge_word f) hq) (same_middle (r, edge_word e) (q, edge_word f) hr hq mid) in
      let a = level_of r (edge_word e) in
      let b = level_of q (edge_word f) in
      omega (arith, here, there, a, b)

  walked : (r : ℕ) (qs : List ℕ) (s : ℕ) → r < size other → IsWalk other r qs s → top r + grade_of other s ≡ top s + grade_of other r
  walked r [] s h w = λ i. top (w i) + grade_of other (sym w i)
  walked r (q ∷ qs) s h w =
      let one_step = across r q w.1.0 w.1.1 h w.0 w.1.2 in
      let rest = walked q qs s w.0 w.2 in
      omega (arith, one_step, rest)

  pub levels : (r : ℕ) → r < size other → (c : ℕ) × ((w : List Bool) → level mesh (name (r, w)) ≡ level other (r, w) + c)
  levels r h =
      let l = from.compatible.least r h in
      let far = walked r l.0 l.1 h l.3 in
      (top l.1, λ w. let a = level_of r w in omega (arith, far, l.4, a))

  renaming : IsRenaming mesh other x y members name
  renaming = record {
    tells = is.tells;
    tells_other = tells;
    forest = is.forest;
    holds = is.partners;
    tops = λ r h. leaf_of mesh other x count members list is r h;
    children = λ r b w. refl;
    below = λ n h. not_member mesh other x count members list is n h;
    one = single;
    all = λ n h. ⊎_elim (λ a. inl a) (λ (m : (m : Name) × (m.0 < length list) × (name m ≡ n)). inr (m.0, outside mesh other x count members list is m.0.0 m.1, m.2)) (all mesh members is.forest list is.is_list n.0 n.1 h);
    partners = partners;
    back = back;
    order = λ m n hm hn. order mesh members is.forest list is.is_list m n (inside mesh other x count members list is m.0 hm) (inside mesh other x count members list is n.0 hn);
    levels = levels;
  }

pub written_is_renaming : WrittenIsRenaming
written_is_renaming mesh x count members list other is = renaming mesh other x count members list is

pub grades_differ : GradesDiffer
grades_differ mesh x count members list other is r s e f hr hs h = across mesh other x count members list is r s e f hr hs h

pub grades_are_low : GradesAreLow
grades_are_low mesh x count members list other is r h = let l = levels mesh other x count members list is r h in let e = l.1 [] in omega (arith, e)
