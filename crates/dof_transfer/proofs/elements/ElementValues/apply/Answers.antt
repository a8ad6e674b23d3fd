use Rattle.std.proofs.Common.{◌≡◌, ◌<◌, List, ap, ◌∙◌, sym, subst}
use Rattle.std.specs.List.{All}
use Rattle.mesh_names.specs.Names.{depth}
use Rattle.mesh_names.specs.declared.patch.PatchName.{PatchName}
use Rattle.compat_check.specs.Meshes.{shape_of}
use Rattle.dof_transfer.specs.Held.{AreSized}
use Rattle.dof_transfer.specs.ByName.{AreElementValues}
use Rattle.dof_transfer.specs.Exchanges.{IsPair, all_bisected, all_coarsened, all_members, by_level, element_change}
use Rattle.dof_transfer.specs.Ledgers.{HasRoomBelow, held_of}
use Rattle.dof_transfer.proofs.MemberLists.{all-by-patch, pairs-deep, sized-all-bisected}
use Rattle.dof_transfer.proofs.NamedElements.{element-values}
use Rattle.dof_transfer.proofs.elements.ElementValues.apply.Goals as goal

pub prepare-requires : goal.prepare-requires
prepare-requires c =
    let pairs : All IsPair c.args.delta.now.born.items = c.requires.born in
    let listed : c.deref-3.result.now ≡ all_members c.args.delta.now.born.items = c.deref-3.ensures.value ∙ c.in_ok-born.ensures ∙ ap all_members c.deref.ensures.value in
    subst (All (λ n. depth n < 24)) (sym listed) (pairs-deep c.args.delta.now.born.items pairs)

pub bisect_all-requires-clause-pairs : goal.bisect_all-requires-clause-pairs
bisect_all-requires-clause-pairs c = subst (All IsPair) (sym c.deref-5.ensures.value) (c.requires.born)

pub bisect_all-requires-clause-room : goal.bisect_all-requires-clause-room
bisect_all-requires-clause-room c =
    let listed : c.deref-3.result.now ≡ all_members c.deref-5.result.now = c.deref-3.ensures.value ∙ c.in_ok-born.ensures ∙ ap all_members (c.deref.ensures.value ∙ sym c.deref-5.ensures.value) in
    all-by-patch (HasRoomBelow c.prepare.new.self) c.deref-5.result.now (subst (All (HasRoomBelow c.prepare.new.self)) listed c.in_ok-prepare.ensures.below)

pub coarsen_all-requires-clause-sized : goal.coarsen_all-requires-clause-sized
coarsen_all-requires-clause-sized c =
    let start : AreSized (held_of c.prepare.new.self) = subst AreSized (sym c.in_ok-prepare.ensures.held) c.self.invariant.1 in
    let pairs : All IsPair c.deref-5.result.now = subst (All IsPair) (sym c.deref-5.ensures.value) (c.requires.born) in
    subst AreSized (sym c.bisect_all.ensures.held) (sized-all-bisected (held_of c.prepare.new.self) c.deref-5.result.now pairs start)

pub returns-clause-values : goal.returns-clause-values
returns-clause-values c = λ before after of change.
    let born : List PatchName = c.args.delta.now.born.items in
    let died : List PatchName = c.args.delta.now.died.items in
    let start : held_of c.prepare.new.self ≡ c.args.self.now = c.in_ok-prepare.ensures.held ∙ c.self.view_is in
    let refined : held_of c.bisect_all.new.self ≡ all_bisected c.args.self.now born = c.bisect_all.ensures.held ∙ (λ i. all_bisected (start i) (c.deref-5.ensures.value i)) in
    let listed : c.deref-6.result.now ≡ all_members died = c.deref-6.ensures.value ∙ c.in_ok-died.ensures ∙ ap all_members c.deref-2.ensures.value in
    let whole : held_of c.forget_below.new.self ≡ element_change (shape_of c.args.mesh.now) c.args.self.now born died = c.forget_below.ensures.held ∙ c.coarsen_all.ensures.held ∙ (λ i. all_coarsened (refined i) (by_level (shape_of c.args.mesh.now) (listed i))) in
    subst (AreElementValues (shape_of c.args.mesh.now) after c.args.self.now) (sym whole) (element-values (shape_of c.args.mesh.now) c.args.self.now born died before after c.requires.died of change)
