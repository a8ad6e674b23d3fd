-- A round's patches lead from the old forest to the new one.
use Rattle.std.proofs.Common.{◌≡◌, ◌⊎◌, ◌<◌, arith, false, sym, subst, List, inl, inr, ⊎_elim}
use Rattle.std.specs.List.{All}
use Rattle.std.specs.FinSet.{contains, difference, from_list}
use Rattle.mesh_names.specs.Names.{Name}
use Rattle.mesh_names.specs.Triangles.{Shape, level}
use Rattle.mesh_names.specs.Forests.{Names, Has}
use Rattle.mesh_names.specs.Partners.{Across}
use Rattle.mesh_names.specs.Patches.{patch_of}
use Rattle.mesh_names.specs.declared.patch.PatchName.{PatchName}
use Rattle.mesh_names.specs.declared.patch.RoundDelta.{RoundDelta}
use Rattle.mesh_names.specs.declared.rows.MarkRow.{MarkRow}
use Rattle.mesh_names.proofs.Sets.{In, both_sides, is_or_not, within-both}
use Rattle.compat_check.specs.Meshes.{Mesh, across_in, shape_of}
use Rattle.dof_transfer.specs.Exchanges.{all_members, by_level}
use Rattle.dof_transfer.specs.Changes.{AreBisections, AreCoarsenings, IsChange}
use Rattle.dof_transfer.specs.VertexNames.{AreMakings, IsOwned, IsTransition}
use Rattle.dof_transfer.proofs.Exchanging.{Misses}
use Rattle.dof_transfer.proofs.NamedElements.{in-or-misses, less-has, less-member, not-in}
use Rattle.mesh_rounds.specs.RoundChanges.{BornAreLow, BornArePairs, BornAreRooted, IsRoundOn, RoundsAreChanges, RoundsAreTransitions, RoundsCanBeFollowed}
use Rattle.mesh_rounds.proofs.NameLists.{Turns, all-in}
use Rattle.mesh_rounds.proofs.NewOwners.{Encloses, Falls, falling-in, new-name, new-owner, patch-gone}
use Rattle.mesh_rounds.proofs.RoundForests.{grew, new_holds_partners, new_is_forest, refined, shrank}
use Rattle.mesh_rounds.proofs.Growing.{grown-bisections, grown-low, grown-makings, grown-pairs, grown-rooted}
use Rattle.mesh_rounds.proofs.DiedPatches.{died-are, died-new, died-turns, died_are_parents, died_owners, from-members, member-inside, members-from, members-turns, patches}
use Rattle.mesh_rounds.proofs.Bisecting.{owned-owned}
use Rattle.mesh_rounds.proofs.LevelRuns.{IsLeft, all-coarsenings, fall-by_level, flat-by_level}
use Rattle.forest_plain.specs.Rounds.{Room}

module _ (mesh : Mesh) (room : Room) (old : Names) (rows : List MarkRow) (new : Names) (delta : RoundDelta) (round : IsRoundOn mesh room old rows new delta) where
  abbrev shape : Shape
  shape = shape_of mesh

  abbrev across : Across
  across = across_in mesh

  abbrev grown : Names
  grown = refined mesh room old rows new delta round

  more : Encloses shape across grown old
  more = grew mesh room old rows new delta round

  fewer : Encloses shape across grown new
  fewer = shrank mesh room old rows new delta round

  low : (n : Name) → Has grown n → level shape n < 24
  low n h = let l = more.forest.shallow n h in omega (arith, l)

  bisections : AreBisections shape old delta.born.items grown
  bisections = grown-bisections mesh round.checked grown old more delta.born.items round.round.born

  makings : AreMakings mesh old delta.born.items grown
  makings = grown-makings mesh round.checked grown old more delta.born.items round.round.born

  abbrev died : List Name
  died = died_owners mesh room old rows new delta round

  abbrev members : List Name
  members = all_members (patches across died)

  is-died : delta.died.items ≡ patches across died
  is-died = died-are mesh room old rows new delta round

  member-gone : (q : Name) → In q members → contains new q ≡ false
  member-gone q i =
      let r = members-from shape across grown new fewer died q (died-new mesh room old rows new delta round) i in
      let is = died-new mesh room old rows new delta round r.0 r.1 in
      patch-gone shape across grown new fewer r.0 q is r.2

  -- what is not left is a member of a died patch
  left-or-member : (q : Name) → Has grown q → Has new q ⊎ In q members
  left-or-member q h = ⊎_elim
      (λ (e : Has new q). inl e)
      (λ (e : contains new q ≡ false).
      let r = new-name shape across grown new fewer round.round.died.list round.round.died.is_list q h e in
      let there = falling-in shape 24 _ r.0 r.1 (low r.0 (new-owner shape across grown new fewer round.round.died.list round.round.died.is_list r.0 r.1).inside) in
      inr (from-members shape across grown new fewer died r.0 q (died-new mesh room old rows new delta round) there r.2))
      (is_or_not (contains new q))

  left : IsLeft shape new fewer.less_forest.closed grown members
  left = record {
    kept = fewer.within;
    rest = left-or-member;
    here = λ q i. member-inside shape across grown new fewer died q (died-new mesh room old rows new delta round) i;
    gone = member-gone;
  }

  coarsenings : AreCoarsenings grown (by_level shape (all_members delta.died.items)) new
  coarsenings = subst (λ (ps : List PatchName). AreCoarsenings grown (by_level shape (all_members ps)) new) (sym is-died)
      (all-coarsenings shape new fewer.less_forest.closed (by_level shape members) grown
      (subst (IsLeft shape new fewer.less_forest.closed grown) (sym (flat-by_level shape members)) left)
      (subst (Turns (Falls shape)) (sym (flat-by_level shape members)) turns)
      (fall-by_level shape members turns))
    where
      turns : Turns (Falls shape) members
      turns = members-turns shape across grown new fewer died (died-new mesh room old rows new delta round) (died-turns mesh room old rows new delta round)

  change : IsChange shape old delta.born.items delta.died.items new
  change = record { refined = grown; bisections = bisections; coarsenings = coarsenings }

  all-owned : All (IsOwned mesh) delta.died.items
  all-owned = subst (All (IsOwned mesh)) (sym is-died) (all-in (IsOwned mesh) (patch_of across) died (λ n i. owned-owned mesh grown new fewer n (died-new mesh room old rows new delta round n i)))

  without : new ≡ difference grown (from_list members)
  without = within-both new (difference grown (from_list members))
      (λ q h. less-has grown members q (fewer.within q h) (⊎_elim (λ (i : In q members). absurd (both_sides (contains new q) h (member-gone q i))) (λ (m : Misses q members). m) (in-or-misses q members)))
      (λ q h. let b = less-member grown members q h in ⊎_elim (λ (e : Has new q). e) (λ (i : In q members). absurd (not-in q members b.1 i)) (left-or-member q b.0))

  transition : IsTransition mesh old delta.born.items delta.died.items new
  transition = record {
    refined = grown;
    makings = makings;
    owned = all-owned;
    is = subst (λ (ps : List PatchName). new ≡ difference grown (from_list (all_members ps))) (sym is-died) without;
  }

pub born_are_pairs : BornArePairs
born_are_pairs mesh room old rows new delta round = grown-pairs mesh round.checked (refined mesh room old rows new delta round) old (grew mesh room old rows new delta round) delta.born.items round.round.born

pub born_are_rooted : BornAreRooted
born_are_rooted mesh room old rows new delta round = grown-rooted mesh round.checked (refined mesh room old rows new delta round) old (grew mesh room old rows new delta round) delta.born.items round.round.born

pub born_are_low : BornAreLow
born_are_low mesh room old rows new delta round = grown-low mesh round.checked (refined mesh room old rows new delta round) old (grew mesh room old rows new delta round) delta.born.items round.round.born

pub rounds_are_changes : RoundsAreChanges
rounds_are_changes mesh room old rows new delta round = change mesh room old rows new delta round

pub rounds_are_transitions : RoundsAreTransitions
rounds_are_transitions mesh room old rows new delta round = transition mesh room old rows new delta round

pub rounds_can_be_followed : RoundsCanBeFollowed
rounds_can_be_followed mesh room old rows new delta round = record {
  pairs = born_are_pairs mesh room old rows new delta round;
  rooted = born_are_rooted mesh room old rows new delta round;
  low = born_are_low mesh room old rows new delta round;
  parents = died_are_parents mesh room old rows new delta round;
  change = change mesh room old rows new delta round;
  transition = transition mesh room old rows new delta round;
  forest = new_is_forest mesh room old rows new delta round;
  partners = new_holds_partners mesh room old rows new delta round;
}
