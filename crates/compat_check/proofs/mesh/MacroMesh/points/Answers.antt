use Rattle.std.proofs.Common.{◌∙◌, ◌-◌, ◌+◌, ◌∷◌, [], drop}
use Rattle.mesh_names.specs.Names.{Name, depth}
use Rattle.compat_check.proofs.Placing.{first_within, second_within, points_of_child, three_corners}
use Rattle.compat_check.proofs.mesh.MacroMesh.points.Goals as goal

pub child_points-requires-clause-first : goal.child_points-requires-clause-first
child_points-requires-clause-first c = first_within c.args.self.now (c.args.name.0, drop (depth c.args.name - c.loop-letters.letters) c.args.name.1) (c.loop-letters.first ∷ c.loop-letters.second ∷ c.loop-letters.apex ∷ []) c.loop-letters.invariant

pub child_points-requires-clause-second : goal.child_points-requires-clause-second
child_points-requires-clause-second c = second_within c.args.self.now (c.args.name.0, drop (depth c.args.name - c.loop-letters.letters) c.args.name.1) (c.loop-letters.first ∷ c.loop-letters.second ∷ c.loop-letters.apex ∷ []) c.loop-letters.invariant

pub loop-letters-preserved : goal.loop-letters-preserved
loop-letters-preserved c =
    let ps = c.loop-letters.first ∷ c.loop-letters.second ∷ c.loop-letters.apex ∷ [] in
    let parent : Name = (c.args.name.0, drop (depth c.args.name - c.loop-letters.letters) c.args.name.1) in
    let child : Name = (c.args.name.0, drop (depth c.args.name - (c.loop-letters.letters + 1)) c.args.name.1) in
    three_corners c.child_points.result ps c.letter_after.result c.child_points.ensures
    ∙ points_of_child c.args.self.now child parent c.letter_after.result ps c.loop-letters.invariant (λ i. (c.args.name.0, c.letter_after.ensures i))
