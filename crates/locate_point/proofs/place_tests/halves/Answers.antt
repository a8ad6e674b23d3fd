use Rattle.std.proofs.Common.{◌≡◌, ◌∙◌, ◌<◌, ℕ, ap, arith, subst, sym, true, false, ◌∷◌}
use Rattle.mesh_names.specs.Names.{Name}
use Rattle.mesh_names.specs.Leaves.{children, tops}
use Rattle.mesh_names.specs.Triangles.{size}
use Rattle.compat_check.specs.Meshes.{shape_of}
use Rattle.locate_point.specs.Locating.{AreLeaves}
use Rattle.locate_point.proofs.TopLeaves.{halves_are_leaves, halves_more, low_more}
use Rattle.locate_point.proofs.place_tests.halves.Goals as goal

pub loop-root-preserved : goal.loop-root-preserved
loop-root-preserved c =
    let same = c.grade.ensures.grade in
    let few = c.if-grade-gt23.false in (
      halves_more c.loop-root.root c.loop-root.names.items c.push.new.self.items c.push-in-loop-root.new.self.items c.child_at.result c.child_at-in-loop-root.result c.loop-root.invariant.0
          (c.child_at.ensures ∙ ap (λ (n : Name). (n.0, false ∷ n.1)) c.top.ensures)
          (c.child_at-in-loop-root.ensures ∙ ap (λ (n : Name). (n.0, true ∷ n.1)) c.top-in-loop-root.ensures)
          c.in_ok-push.ensures.items c.in_ok-push-2.ensures.items,
      low_more (shape_of c.args.mesh.now) c.loop-root.root c.loop-root.invariant.1 (omega (arith, same, few)),
    )

pub returns : goal.returns
returns c =
    let all : c.loop-root.root ≡ size (shape_of c.args.mesh.now) = omega (arith, c.element_count-root-end.ensures.count, c.loop-root-test.false, c.loop-root.auto.root-end) in
    subst (λ list. AreLeaves c.args.mesh.now list) (sym (c.loop-root.invariant.0 ∙ ap (λ (k : ℕ). children (tops k)) all))
    (halves_are_leaves c.args.mesh.now (λ r h. c.loop-root.invariant.1 r (subst (λ (k : ℕ). r < k) (sym all) h)))
