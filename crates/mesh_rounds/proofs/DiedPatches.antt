-- Died patches, and all their members.
use Rattle.std.proofs.Common.{◌≡◌, ◌≢◌, ◌<◌, ◌≤◌, arith, Bool, refl, sym, ◌∙◌, subst, List, [], ◌∷◌, map, inl, inr, ⊎_elim}
use Rattle.std.specs.Prelude.{Option, Some, None}
use Rattle.mesh_names.specs.Names.{Name, depth}
use Rattle.mesh_names.specs.Triangles.{Shape, size, level}
use Rattle.mesh_names.specs.Forests.{Names, Has}
use Rattle.mesh_names.specs.Partners.{Across, InPatch, partner}
use Rattle.mesh_names.specs.Patches.{patch_of}
use Rattle.mesh_names.specs.declared.patch.PatchName.{PatchName}
use Rattle.mesh_names.specs.declared.patch.RoundDelta.{RoundDelta}
use Rattle.mesh_names.specs.declared.rows.MarkRow.{MarkRow}
use Rattle.mesh_names.proofs.Pairs.{partners_pair}
use Rattle.mesh_names.proofs.Sets.{In, in-append, in-first, in-second}
use Rattle.compat_check.specs.Meshes.{Mesh, across_in, shape_of}
use Rattle.dof_transfer.specs.Exchanges.{all_members, listed, members_of}
use Rattle.dof_transfer.specs.Changes.{AreParents}
use Rattle.mesh_rounds.specs.RoundChanges.{DiedAreParents, IsRoundOn}
use Rattle.mesh_rounds.proofs.NameLists.{Turns, all-names, turns-append, turns-more, turns-pairs}
use Rattle.mesh_rounds.proofs.NewOwners.{Encloses, Falls, IsNew, down-falling, falling, falling-turns, has-patch, in-falling, new-owner, owners, owners-apart}
use Rattle.mesh_rounds.proofs.PatchOwners.{member-of, of-member, of-owned, other_of, patch-level, shared-owner}
use Rattle.mesh_rounds.proofs.RoundForests.{refined, shrank}
use Rattle.forest_plain.specs.Rounds.{Room}

-- the patches of these names
abbrev pub patches : Across → List Name → List PatchName
patches x ns = map (patch_of x) ns

module _ (mesh : Shape) (x : Across) (more less : Names) (two : Encloses mesh x more less) where
  -- all of these are new
  abbrev pub AreNew : List Name → Type 0
  AreNew ns = (n : Name) → In n ns → IsNew x more less n

  low : (n : Name) → IsNew x more less n → n.0 < size mesh
  low n is = two.forest.rooted n is.inside

  -- a member of all these patches is one of a patch
  pub members-from : (ns : List Name) (q : Name) → AreNew ns → In q (all_members (patches x ns)) → (n : Name) × In n ns × InPatch x n q
  members-from [] q new i = absurd i
  members-from (n ∷ ns) q new i = ⊎_elim
      (λ (a : In q (members_of (patch_of x n))). (n, inl refl, member-of x n q (new n (inl refl)).owns a))
      (λ (b : In q (all_members (patches x ns))). let r = members-from ns q (λ m j. new m (inr j)) b in (r.0, inr r.1, r.2))
      (in-append q (members_of (patch_of x n)) (all_members (patches x ns)) i)

  pub from-members : (ns : List Name) (n q : Name) → AreNew ns → In n ns → InPatch x n q → In q (all_members (patches x ns))
  from-members [] n q new i k = absurd i
  from-members (m ∷ ns) n q new i k = ⊎_elim
      (λ (e : n ≡ m). in-first q (members_of (patch_of x m)) (all_members (patches x ns)) (of-member x m q (new m (inl refl)).owns (subst (λ (y : Name). InPatch x y q) e k)))
      (λ (j : In n ns). in-second q (members_of (patch_of x m)) (all_members (patches x ns)) (from-members ns n q (λ a l. new a (inr l)) j k))
      i

  -- the members of one patch
  pub pair-turns : (n : Name) → IsNew x more less n → Turns (Falls mesh) (members_of (patch_of x n))
  pair-turns n is = of-owned (λ p. Turns (Falls mesh) (members_of p)) x n is.owns (by (partner x n.0 n.1) refl)
    where
      by : (o : Option (Name × Bool)) → partner x n.0 n.1 ≡ o → Turns (Falls mesh) (n ∷ listed (other_of o))
      by None e = (λ m i. absurd i, tt)
      by (Some a) e =
          let p = partners_pair mesh x two.tells n a.0 a.1 (low n is) e in
          let l = p.level in (
            λ m i. ⊎_elim (λ (s : m ≡ a.0). subst (Falls mesh n) (sym s) (record { level = omega (arith, l); other = p.other })) (λ (f : ⊥). absurd f) i,
            (λ m i. absurd i, tt),
          )

  -- the members of patches by falling levels fall too, and none stands twice
  pub members-turns : (ns : List Name) → AreNew ns → Turns (Falls mesh) ns → Turns (Falls mesh) (all_members (patches x ns))
  members-turns [] new turns = tt
  members-turns (n ∷ ns) new turns = turns-append (Falls mesh) (members_of (patch_of x n)) (all_members (patches x ns)) (pair-turns n first) (members-turns ns (λ m j. new m (inr j)) turns.1)
      (λ a b i j. across a b (member-of x n a first.owns i) (members-from ns b (λ m k. new m (inr k)) j))
    where
      first : IsNew x more less n
      first = new n (inl refl)

      across : (a b : Name) → InPatch x n a → ((m : Name) × In m ns × InPatch x m b) → Falls mesh a b
      across a b k r =
          let m = r.0 in
          let is = new m (inr r.1) in
          let turn = turns.0 m r.1 in
          let la = patch-level mesh x two.tells n a (low n first) k in
          let lb = patch-level mesh x two.tells m b (low m is) r.2 in
          let lt = turn.level in
          record {
            level = omega (arith, la, lb, lt);
            other = λ e. turn.other (shared-owner mesh x two.tells n m a (low n first) (low m is) first.owns is.owns k (subst (InPatch x m) e r.2));
          }

  pub member-inside : (ns : List Name) (q : Name) → AreNew ns → In q (all_members (patches x ns)) → Has more q
  member-inside ns q new i = let r = members-from ns q new i in has-patch mesh x more less two r.0 q (new r.0 r.1).inside r.2

  -- they are of the mesh and can have children
  pub members-parents : (ns : List Name) → AreNew ns → Turns (Falls mesh) ns → AreParents mesh (all_members (patches x ns))
  members-parents ns new turns = record {
    rooted = all-names (λ n. n.0 < size mesh) (all_members (patches x ns)) (λ q i. two.forest.rooted q (member-inside ns q new i));
    deep = all-names (λ n. depth n < 24) (all_members (patches x ns)) (λ q i. short q (two.forest.shallow q (member-inside ns q new i)));
    apart = turns-pairs (λ m n. m ≢ n) (all_members (patches x ns)) (turns-more (Falls mesh) (λ m n. m ≢ n) (all_members (patches x ns)) (λ m n i j f e. f.other (sym e)) (members-turns ns new turns));
  }
    where
      short : (q : Name) → level mesh q ≤ 23 → depth q < 24
      short q h = omega (arith, h)

module _ (mesh : Mesh) (room : Room) (old : Names) (rows : List MarkRow) (new : Names) (delta : RoundDelta) (round : IsRoundOn mesh room old rows new delta) where
  -- the owners of died patches, in the order of the patches
  abbrev pub died_owners : List Name
  died_owners = falling (shape_of mesh) 24 (owners (shape_of mesh) (across_in mesh) (refined mesh room old rows new delta round) new (shrank mesh room old rows new delta round) round.round.died.list round.round.died.is_list)

  pub died-are : delta.died.items ≡ patches (across_in mesh) died_owners
  died-are = round.round.died.are ∙ down-falling (shape_of mesh) (across_in mesh) 24 _

  pub died-new : AreNew (shape_of mesh) (across_in mesh) (refined mesh room old rows new delta round) new (shrank mesh room old rows new delta round) died_owners
  died-new n i = new-owner (shape_of mesh) (across_in mesh) (refined mesh room old rows new delta round) new (shrank mesh room old rows new delta round) round.round.died.list round.round.died.is_list n (in-falling (shape_of mesh) 24 _ n i).0

  pub died-turns : Turns (Falls (shape_of mesh)) died_owners
  died-turns = falling-turns (shape_of mesh) 24 _ (owners-apart (shape_of mesh) (across_in mesh) (refined mesh room old rows new delta round) new (shrank mesh room old rows new delta round) round.round.died.list round.round.died.is_list)

pub died_are_parents : DiedAreParents
died_are_parents mesh room old rows new delta round = subst (λ (ps : List PatchName). AreParents (shape_of mesh) (all_members ps)) (sym (died-are mesh room old rows new delta round))
    (members-parents (shape_of mesh) (across_in mesh) (refined mesh room old rows new delta round) new (shrank mesh room old rows new delta round) (died_owners mesh room old rows new delta round) (died-new mesh room old rows new delta round) (died-turns mesh room old rows new delta round))
