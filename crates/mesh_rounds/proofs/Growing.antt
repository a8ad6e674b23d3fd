-- The patches that a greater forest has more than a smaller one, by level and then by owner, lead from the smaller one to it.
use Rattle.std.proofs.Common.{◌≡◌, ◌<◌, ◌≤◌, arith, false, sym, ◌∙◌, subst, List, map, inl, inr, ⊎_elim}
use Rattle.std.specs.List.{All}
use Rattle.std.specs.FinSet.{contains}
use Rattle.mesh_names.specs.Names.{Name}
use Rattle.mesh_names.specs.Triangles.{Shape, size, level}
use Rattle.mesh_names.specs.Forests.{Names, Has}
use Rattle.mesh_names.specs.Partners.{Across}
use Rattle.mesh_names.specs.Patches.{patch_of}
use Rattle.mesh_names.specs.declared.patch.PatchName.{PatchName}
use Rattle.mesh_names.proofs.Sets.{In, is_or_not}
use Rattle.compat_check.specs.Meshes.{IsChecked, Mesh, across_in, shape_of}
use Rattle.dof_transfer.specs.Exchanges.{IsPair}
use Rattle.dof_transfer.specs.Changes.{AreBisections}
use Rattle.dof_transfer.specs.VertexNames.{AreMakings}
use Rattle.forest_plain.specs.Deltas.{AreBorn}
use Rattle.mesh_rounds.proofs.NameLists.{all-in}
use Rattle.mesh_rounds.proofs.NewOwners.{Encloses, IsNew, below-rising, in-rising, new-name, new-owner, owners, owners-apart, rising, rising-in, rising-turns}
use Rattle.mesh_rounds.proofs.PatchOwners.{of-owned}
use Rattle.mesh_rounds.proofs.BornPatches.{owned-pair}
use Rattle.mesh_rounds.proofs.Bisecting.{IsBetween, all-bisections, all-makings}

module _ (mesh : Mesh) (checked : IsChecked mesh) (more less : Names) (two : Encloses (shape_of mesh) (across_in mesh) more less) (ps : List PatchName) (born : AreBorn (shape_of mesh) (across_in mesh) less more ps) where
  abbrev shape : Shape
  shape = shape_of mesh

  abbrev across : Across
  across = across_in mesh

  -- the owners of the patches, in their order
  abbrev born_owners : List Name
  born_owners = rising shape 24 (owners shape across more less two born.list born.is_list)

  born-are : ps ≡ map (patch_of across) born_owners
  born-are = born.are ∙ below-rising shape across 24 _

  born-new : (n : Name) → In n born_owners → IsNew across more less n
  born-new n i = new-owner shape across more less two born.list born.is_list n (in-rising shape 24 _ n i).0

  of-born : (P : PatchName → Type 0) → ((n : Name) → IsNew across more less n → P (patch_of across n)) → All P ps
  of-born P h = subst (All P) (sym born-are) (all-in P (patch_of across) born_owners (λ n i. h n (born-new n i)))

  -- they are of one or two elements of the mesh that can be bisected
  pub grown-pairs : All IsPair ps
  grown-pairs = of-born IsPair (owned-pair shape across more less two)

  pub grown-rooted : All (λ (p : PatchName). p.first.0 < size (shape_of mesh)) ps
  grown-rooted = of-born (λ p. p.first.0 < size shape) (λ n is. of-owned (λ p. p.first.0 < size shape) across n is.owns (two.forest.rooted n is.inside))

  pub grown-low : All (λ (p : PatchName). level (shape_of mesh) p.first ≤ 24) ps
  grown-low = of-born (λ p. level shape p.first ≤ 24) (λ n is. of-owned (λ p. level shape p.first ≤ 24) across n is.owns (shallow n is))
    where
      shallow : (n : Name) → IsNew across more less n → level shape n ≤ 24
      shallow n is = let h = two.forest.shallow n is.inside in omega (arith, h)

  -- the smaller forest lacks them
  between : IsBetween mesh checked more less two less born_owners
  between = record {
    closed = two.less_forest.closed;
    holds = two.less_holds;
    within = two.within;
    out = λ n i. (born-new n i).outside;
    rest = λ q h. ⊎_elim
        (λ (e : Has less q). inl e)
        (λ (e : contains less q ≡ false).
        let r = new-name shape across more less two born.list born.is_list q h e in
        inr (r.0, rising-in shape 24 _ r.0 r.1 (low r.0 (new-owner shape across more less two born.list born.is_list r.0 r.1).inside), r.2))
        (is_or_not (contains less q));
    new = born-new;
    turns = rising-turns shape 24 _ (owners-apart shape across more less two born.list born.is_list);
  }
    where
      low : (n : Name) → Has more n → level shape n < 24
      low n h = let l = two.forest.shallow n h in omega (arith, l)

  pub grown-bisections : AreBisections (shape_of mesh) less ps more
  grown-bisections = subst (λ (qs : List PatchName). AreBisections shape less qs more) (sym born-are) (all-bisections mesh checked more less two born_owners less between)

  pub grown-makings : AreMakings mesh less ps more
  grown-makings = subst (λ (qs : List PatchName). AreMakings mesh less qs more) (sym born-are) (all-makings mesh checked more less two born_owners less between)
