use Rattle.std.proofs.Common.{List, ◌++◌, subst}
use Rattle.std.proofs.lemmas.List.Filters.{dedup_is}
use Rattle.mesh_names.specs.Names.{Name, name_eq}
use Rattle.mesh_names.specs.Forests.{Names, IsListOf}
use Rattle.mesh_names.specs.Triangles.{size}
use Rattle.mesh_names.specs.Leaves.{children, tops}
use Rattle.compat_check.specs.Meshes.{shape_of}
use Rattle.forest_plain.specs.Rounds.{IsUnsplit, set_of}
use Rattle.forest_plain.proofs.LeafSets.{all_leaves, listed, members_short}
use Rattle.forest_plain.proofs.leaves.leaves_beside.Goals as goal

pub add_children-requires : goal.add_children-requires
add_children-requires g c = members_short (shape_of c.args.mesh.now) (g.S.Asked.names c.args.members.now) c.args.names.now c.requires.forest c.requires.names

pub returns : goal.returns
returns g c =
    let members = g.S.Asked.names c.args.members.now in
    let all = tops (size (shape_of c.args.mesh.now)) in
    let more = subst (λ (s : Names). (all : List Name) → IsUnsplit all s (set_of c.add_tops.new.found.items) → IsUnsplit (all ++ children c.args.names.now) s (set_of c.add_children.new.found.items)) c.in_ok-add_tops.ensures.same c.in_ok-add_children.ensures.unsplit in
    let found = all_leaves (shape_of c.args.mesh.now) members (set_of c.add_children.new.found.items) c.args.names.now c.requires.names (more all c.in_ok-add_tops.ensures.unsplit) in
    subst (λ (s : Names). IsListOf s c.dedup.new.self.items) found
    (listed c.add_children.new.found.items _ c.dedup.new.self.items c.sort_unstable.ensures.permutation c.sort_unstable.ensures.sorted (dedup_is name_eq _ _ c.dedup.ensures.filtered))
