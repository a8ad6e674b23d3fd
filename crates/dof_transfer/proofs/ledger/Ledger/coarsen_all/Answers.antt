use Rattle.std.proofs.Common.{◌<◌, ◌-◌, ℕ, List, take, drop, ap, ◌∙◌, sym, subst, arith, length-take, length-drop}
use Rattle.mesh_names.specs.Names.{Name, depth}
use Rattle.mesh_names.specs.Triangles.{Shape}
use Rattle.compat_check.specs.Meshes.{shape_of}
use Rattle.dof_transfer.specs.Held.{Held, AreSized}
use Rattle.dof_transfer.specs.Exchanges.{all_coarsened, by_level}
use Rattle.dof_transfer.specs.Ledgers.{held_of}
use Rattle.dof_transfer.proofs.Runs.{next-run, part-all}
use Rattle.dof_transfer.proofs.Sizes.{all-deep, sized-coarsened}
use Rattle.dof_transfer.proofs.ledger.Ledger.coarsen_all.Goals as goal

pub loop-at-preserved : goal.loop-at-preserved
loop-at-preserved c =
    let mesh : Shape = shape_of c.args.mesh.now in
    let died : List Name = c.args.died.now in
    let i : ℕ = c.loop-at.at in
    let end : ℕ = c.run_end-end.result in
    let run : List Name = take (end - i) (drop i died) in
    record {
      held =
          ap (λ (h : Held). all_coarsened h (by_level mesh (drop end died))) c.coarsen.ensures.held
          ∙ ap (all_coarsened (held_of c.loop-at.self)) (sym (next-run mesh died i end c.run_end-end.ensures))
          ∙ c.loop-at.invariant.held;
      within = c.run_end-end.ensures.within;
      sound = c.coarsen.ensures.sound;
      sized = subst AreSized (sym c.coarsen.ensures.held) (sized-coarsened (held_of c.loop-at.self) run (all-deep run (part-all (λ n. depth n < 24) died i (end - i) c.requires.deep)) c.loop-at.invariant.sized);
      kept = λ q there. c.coarsen.ensures.kept q (c.loop-at.invariant.kept q there);
      spare = omega (arith, c.coarsen.ensures.spare, c.run_end-end.ensures.some, length-take (end - i) (drop i died), length-drop i died);
      capacity = c.coarsen.ensures.capacity ∙ c.loop-at.invariant.capacity;
    }
