use mir.Syntax.{w64}
use Rattle.std.proofs.lemmas.Int.{ints}
use Rattle.std.proofs.Common.{◌≡◌, ap, Some, to_z, of_z, arith, sym, ◌∙◌, refl, inl, inr, cond, ◌&&◌, ◌++◌}
use Rattle.std.specs.Int.{is_negative}
use Rattle.std.specs.FinSet.{contains, remove}
use Rattle.compat_check.specs.Meshes.{across_in, shape_of}
use Rattle.mesh_names.specs.Names.{name_eq}
use Rattle.mesh_names.proofs.Pairs.{partners_pair}
use Rattle.mesh_names.proofs.Sets.{both_sides}
use Rattle.forest_plain.specs.LeafMarks.{marked_so}
use Rattle.forest_plain.proofs.Turns.{skipped, joined-none, mapped_none, mapped_some, parents_of, tried_one, tried_two}
use Rattle.forest_plain.proofs.coarsening.try_patch.Goals as goal

pub returns-then-not-is_left-clause-tried : goal.returns-then-not-is_left-clause-tried
returns-then-not-is_left-clause-tried g c =
    skipped (shape_of c.args.mesh.now) (across_in c.args.mesh.now) c.element_count-count.ensures.tells (marked_so (g.S.Shrinking.left c.args.members.now) c.args.marks.now) c.args.marks.now.parents.items c.args.name c.requires
    (λ can. both_sides (contains (g.S.Shrinking.left c.args.members.now) c.args.name) (can c.args.name (inl refl)).member (sym c.is_left.ensures ∙ c.if-not-is_left.true))

pub returns-in_default-clause-tried : goal.returns-in_default-clause-tried
returns-in_default-clause-tried g c =
    let old = marked_so (g.S.Shrinking.left c.args.members.now) c.args.marks.now in
    skipped (shape_of c.args.mesh.now) (across_in c.args.mesh.now) c.element_count-count.ensures.tells old c.args.marks.now.parents.items c.args.name c.requires
    (λ can. joined-none old c.args.name (sym c.joined.ensures ∙ c.in_default.is) (can c.args.name (inl refl)))

pub returns-in_default-partner-clause-tried : goal.returns-in_default-partner-clause-tried
returns-in_default-partner-clause-tried g c =
    let same : to_z w64 (of_z w64 c.in-Some.mark) ≡ c.in-Some.mark = omega (arith, ints) in
    tried_one (shape_of c.args.mesh.now) (across_in c.args.mesh.now) c.element_count-count.ensures.tells (marked_so (g.S.Shrinking.left c.args.members.now) c.args.marks.now) (marked_so (g.S.Shrinking.left c.take_away.new.self) c.add.new.self) c.args.marks.now.parents.items c.add.new.self.parents.items c.args.name c.requires
    (sym c.is_left.ensures ∙ c.if-not-is_left.false) (to_z w64 (of_z w64 c.in-Some.mark)) (sym c.joined.ensures ∙ c.in-Some.is ∙ ap Some (sym same)) (mapped_none _ (sym c.partner.ensures.partner ∙ c.in_default-partner.is)) c.in_ok-take_away.ensures.left c.in_ok-add.ensures.marks c.in_ok-add.ensures.parents

pub joined-requires-2 : goal.joined-requires-2
joined-requires-2 g c =
    let two = mapped_some _ c.in-Some-partner.partner (sym c.partner.ensures.partner ∙ c.in-Some-partner.is) in
    let held = c.requires.partners c.args.name.0 c.args.name.1 c.in-Some-partner.partner two.0 (sym c.is_left.ensures ∙ c.if-not-is_left.false) two.1 in
    let low = c.requires.forest.shallow c.in-Some-partner.partner held in
    omega (arith, low)

pub returns-in_default-joined-clause-tried : goal.returns-in_default-joined-clause-tried
returns-in_default-joined-clause-tried g c =
    let old = marked_so (g.S.Shrinking.left c.args.members.now) c.args.marks.now in
    let two = mapped_some _ c.in-Some-partner.partner (sym c.partner.ensures.partner ∙ c.in-Some-partner.is) in
    skipped (shape_of c.args.mesh.now) (across_in c.args.mesh.now) c.element_count-count.ensures.tells old c.args.marks.now.parents.items c.args.name c.requires
    (λ can. joined-none old c.in-Some-partner.partner (sym c.joined-2.ensures ∙ c.in_default-joined.is) (can c.in-Some-partner.partner (inr two)))

pub returns-clause-tried : goal.returns-clause-tried
returns-clause-tried g c =
    let same : to_z w64 (of_z w64 c.in-Some.mark) ≡ c.in-Some.mark = omega (arith, ints) in
    let other_same : to_z w64 (of_z w64 c.in-Some-joined.other) ≡ c.in-Some-joined.other = omega (arith, ints) in
    let other = to_z w64 (of_z w64 c.in-Some-joined.other) in
    let member = sym c.is_left.ensures ∙ c.if-not-is_left.false in
    let two = mapped_some _ c.in-Some-partner.partner (sym c.partner.ensures.partner ∙ c.in-Some-partner.is) in
    let pair = partners_pair (shape_of c.args.mesh.now) (across_in c.args.mesh.now) c.element_count-count.ensures.tells c.args.name c.in-Some-partner.partner two.0 (c.requires.forest.rooted c.args.name member) two.1 in
    tried_two (shape_of c.args.mesh.now) (across_in c.args.mesh.now) c.element_count-count.ensures.tells (marked_so (g.S.Shrinking.left c.args.members.now) c.args.marks.now) (marked_so (g.S.Shrinking.left c.take_away-3.new.self) c.add-3.new.self) c.args.marks.now.parents.items c.add-3.new.self.parents.items c.args.name c.requires
    member (to_z w64 (of_z w64 c.in-Some.mark)) (sym c.joined.ensures ∙ c.in-Some.is ∙ ap Some (sym same)) c.in-Some-partner.partner two.0 other two.1 (sym c.joined-2.ensures ∙ c.in-Some-joined.is ∙ ap Some (sym other_same)) pair.other
    (c.in_ok-take_away-3.ensures.left ∙ (λ i. remove (c.in_ok-take_away-2.ensures.left i) c.in-Some-partner.partner))
    (λ n. c.in_ok-add-3.ensures.marks n ∙ (λ i. cond (name_eq c.in-Some-partner.partner n && is_negative other) other (c.in_ok-add-2.ensures.marks n i)))
    (c.in_ok-add-3.ensures.parents ∙ (λ i. c.in_ok-add-2.ensures.parents i ++ parents_of c.in-Some-partner.partner other))
