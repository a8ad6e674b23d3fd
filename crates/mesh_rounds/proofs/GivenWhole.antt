-- The values of a forest that is given whole.
use Rattle.std.proofs.Common.{◌≡◌, refl, sym, subst, List, [], inl}
use Rattle.std.proofs.lemmas.List.Elements.{All-nil}
use Rattle.std.specs.FinSet.{difference, empty, from_list}
use Rattle.mesh_names.specs.Forests.{Names}
use Rattle.mesh_names.specs.declared.patch.PatchName.{PatchName}
use Rattle.mesh_names.specs.declared.patch.RoundDelta.{RoundDelta}
use Rattle.mesh_names.proofs.Sets.{within-both}
use Rattle.compat_check.specs.Meshes.{IsChecked, Mesh, across_in, shape_of}
use Rattle.dof_transfer.specs.Changes.{AreCoarsenings, AreParents, IsChange}
use Rattle.dof_transfer.specs.Exchanges.{all_members, by_level}
use Rattle.dof_transfer.specs.VertexNames.{IsOwned, IsTransition}
use Rattle.std.specs.List.{All}
use Rattle.mesh_rounds.specs.declared.values.Values.{Values}
use Rattle.mesh_rounds.specs.Resumed.{IsResumed, IsWhole}
use Rattle.mesh_rounds.specs.RoundChanges.{CanFollow}
use Rattle.mesh_rounds.specs.Setting.{AreSet, Holding}
use Rattle.mesh_rounds.specs.State.{ElementsFollow, IsElementRound, IsFirst, IsState, IsVertexRound, VerticesFollow, with_values}
use Rattle.mesh_names.specs.declared.rows.MarkRow.{MarkRow}
use Rattle.dof_transfer.proofs.NamedElements.{less-has, less-member}
use Rattle.mesh_rounds.proofs.DiedPatches.{members-parents}
use Rattle.mesh_rounds.proofs.Growing.{grown-bisections, grown-low, grown-makings, grown-pairs, grown-rooted}
use Rattle.mesh_rounds.proofs.NewOwners.{Encloses}
use Rattle.mesh_rounds.proofs.ValuesStay.{elements_stay, empty_forest, first_elements, first_vertices, no_member, vertices_stay}

-- no rows set nothing
none-set : {A H : Type 0} (holding : Holding A H) (there : A → Type 0) (sets : A → MarkRow → Type 0) (held : H) → AreSet holding there sets [] held held
none-set holding there sets held = record {
  values = λ a inside. inl (All-nil (λ r. sets a r → ⊥), refl);
  none = λ a e. e;
  indices = λ a. refl;
  flags = refl;
}

module _ (mesh : Mesh) (checked : IsChecked mesh) (members : Names) (delta : RoundDelta) (whole : IsWhole mesh members delta) where
  from_nothing : Encloses (shape_of mesh) (across_in mesh) members empty
  from_nothing = record {
    tells = checked.tells;
    forest = whole.forest;
    holds = whole.partners;
    less_forest = empty_forest (shape_of mesh);
    less_holds = λ r w m t h e. absurd (no_member (r, w) h);
    within = λ n h. absurd (no_member n h);
  }

  -- nothing is taken away
  no_parents : AreParents (shape_of mesh) (all_members delta.died.items)
  no_parents = subst (λ (ps : List PatchName). AreParents (shape_of mesh) (all_members ps)) (sym whole.died)
      (members-parents (shape_of mesh) (across_in mesh) members empty from_nothing [] (λ n i. absurd i) tt)

  change : IsChange (shape_of mesh) empty delta.born.items delta.died.items members
  change = record {
    refined = members;
    bisections = grown-bisections mesh checked members empty from_nothing delta.born.items whole.born;
    coarsenings = subst (λ (ps : List PatchName). AreCoarsenings members (by_level (shape_of mesh) (all_members ps)) members) (sym whole.died) refl;
  }

  kept : members ≡ difference members (from_list [])
  kept = within-both members (difference members (from_list [])) (λ n h. less-has members [] n h tt) (λ n h. (less-member members [] n h).0)

  transition : IsTransition mesh empty delta.born.items delta.died.items members
  transition = record {
    refined = members;
    makings = grown-makings mesh checked members empty from_nothing delta.born.items whole.born;
    owned = subst (All (IsOwned mesh)) (sym whole.died) (All-nil (IsOwned mesh));
    is = subst (λ (ps : List PatchName). members ≡ difference members (from_list (all_members ps))) (sym whole.died) kept;
  }

  -- values can follow its patches
  pub whole-follows : CanFollow mesh empty members delta
  whole-follows = record {
    pairs = grown-pairs mesh checked members empty from_nothing delta.born.items whole.born;
    rooted = grown-rooted mesh checked members empty from_nothing delta.born.items whole.born;
    low = grown-low mesh checked members empty from_nothing delta.born.items whole.born;
    parents = no_parents;
    change = change;
    transition = transition;
    forest = whole.forest;
    partners = whole.partners;
  }

  module _ (first after : Values) (is_first : IsFirst mesh (with_values empty first)) (vertices-follow : VerticesFollow mesh empty delta members first.vertices after.vertices) (elements-follow : ElementsFollow mesh empty delta members first.elements after.elements) where
    vertices : IsVertexRound mesh empty [] delta members first.vertices after.vertices
    vertices = record {
      set = first.vertices;
      rows_set = none-set _ _ _ first.vertices;
      values = vertices-follow.values (empty_forest (shape_of mesh)) (first_vertices mesh first.vertices is_first.vertices) transition;
      changed = vertices-follow.changed;
      change = vertices-follow.change;
      tidied = vertices-follow.tidied;
    }

    elements : IsElementRound mesh empty [] delta members first.elements after.elements
    elements = record {
      set = first.elements;
      rows_set = none-set _ _ _ first.elements;
      values = elements-follow.values (first_elements mesh first.elements is_first.elements) change;
      tidied = elements-follow.tidied;
    }

    pub is_resumed : IsResumed mesh (with_values members after)
    is_resumed = record { first = with_values empty first; is_first = is_first; delta = delta; whole = whole; vertices = vertices; elements = elements }

    pub resumed-state : IsState mesh (with_values members after)
    resumed-state = record {
      forest = whole.forest;
      partners = whole.partners;
      vertices = vertices_stay mesh members vertices.set after.vertices vertices.values;
      elements = elements_stay (shape_of mesh) members elements.set after.elements whole.forest elements.values;
    }
