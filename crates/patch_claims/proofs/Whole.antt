-- A patch of the mesh: its first member leads it, and its second, if there is one, is the partner.
use Rattle.std.proofs.Common.{◌≡◌, ℕ, ◌<◌, Bool, true, false, cond, Option, Some, None, IfSome, option_map, refl, sym, ap, ◌∙◌, subst, arith}
use Rattle.std.specs.Ordering.{is_lt}
use Rattle.mesh_names.specs.Names.{Name, name_cmp}
use Rattle.mesh_names.specs.Triangles.{Shape, size, level}
use Rattle.mesh_names.specs.Partners.{Across, Tells, partner}
use Rattle.mesh_names.specs.Patches.{is_first, owns, patch_of, patch_by}
use Rattle.mesh_names.specs.declared.patch.PatchName.{PatchName}
use Rattle.mesh_names.proofs.Pairs.{partners_pair}
use Rattle.table_words.specs.NameWords.{name_code, name_word}
use Rattle.mesh_table.specs.Sights.{setup_at}
use Rattle.mesh_table.specs.declared.rule.Site.{Site}
use Rattle.compat_check.specs.Meshes.{shape_of, across_in}
use Rattle.patch_walk.proofs.Patches.{owns_code, mate_code}
use Rattle.patch_claims.specs.Retired.{IsInner}

module _ (mesh : Shape) (across : Across) (tells : Tells mesh across) (p : PatchName) (inner : IsInner mesh p.first) (is : patch_of across p.first ≡ p) where
  abbrev n : Name
  n = p.first

  abbrev seconds : Option (Name × Bool) → Option Name
  seconds o = option_map (λ (a : Name × Bool). a.0) o

  parts : (o : Option (Name × Bool)) → partner across n.0 n.1 ≡ o → patch_by n o ≡ p → (is_first n o ≡ true) × (p.second ≡ seconds o) × IfSome (seconds o) (IsInner mesh)
  parts None e q = (refl, sym (ap (λ (a : PatchName). a.second) q), tt)
  parts (Some m) e q = by (is_lt (name_cmp n m.0)) refl
    where
      pair : Bool → PatchName
      pair t = cond t (record { first = n; second = Some m.0 }) (record { first = m.0; second = Some n })

      by : (t : Bool) → is_lt (name_cmp n m.0) ≡ t → (is_first n (Some m) ≡ true) × (p.second ≡ Some m.0) × IfSome (Some m.0) (IsInner mesh)
      by true l = let o = partners_pair mesh across tells n m.0 m.1 inner.0 e in let same : level mesh m.0 ≡ level mesh n = o.level in
          (l, sym (ap (λ (a : PatchName). a.second) q) ∙ ap (λ (t : Bool). (cond {A = PatchName} t (record { first = n; second = Some m.0 }) (record { first = m.0; second = Some n })).second) l, (o.rooted, let low = inner.1 in omega arith))
      by false l = absurd ((partners_pair mesh across tells n m.0 m.1 inner.0 e).other (sym (ap (λ (t : Bool). (cond {A = PatchName} t (record { first = n; second = Some m.0 }) (record { first = m.0; second = Some n })).first) l) ∙ ap (λ (a : PatchName). a.first) q))

  whole : (owns across n ≡ true) × (p.second ≡ seconds (partner across n.0 n.1)) × IfSome (seconds (partner across n.0 n.1)) (IsInner mesh)
  whole = parts (partner across n.0 n.1) refl is

  pub second_inner : IfSome p.second (IsInner mesh)
  second_inner = subst (λ (o : Option Name). IfSome o (IsInner mesh)) (sym whole.1) whole.2

module _ (k : Site) (tells : Tells (shape_of k.mesh.now) (across_in k.mesh.now)) (p : PatchName) (inner : IsInner (shape_of k.mesh.now) p.first) (is : patch_of (across_in k.mesh.now) p.first ≡ p) where
  pub first_leads : (setup_at k).leads (name_code p.first) ≡ true
  first_leads = owns_code (shape_of k.mesh.now) (across_in k.mesh.now) tells p.first inner.0 inner.1 (whole (shape_of k.mesh.now) (across_in k.mesh.now) tells p inner is).0

  pub first_mate : (setup_at k).mate (name_code p.first) ≡ name_word p.second
  first_mate = let w = whole (shape_of k.mesh.now) (across_in k.mesh.now) tells p inner is in mate_code (shape_of k.mesh.now) (across_in k.mesh.now) tells p.first inner.0 inner.1 w.0 ∙ ap name_word (sym w.1)
