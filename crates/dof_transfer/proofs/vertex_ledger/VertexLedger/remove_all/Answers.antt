use Rattle.std.proofs.Common.{◌≡◌, ◌<◌, length, ap, ◌∙◌, sym, subst, arith}
use Rattle.mesh_names.specs.Names.{Name}
use Rattle.dof_transfer.specs.Held.{Held, given_back}
use Rattle.dof_transfer.specs.Ledgers.{held_of}
use Rattle.dof_transfer.specs.VertexLedgers.{vertices_of}
use Rattle.dof_transfer.specs.VertexValues.{AreSmall, IsVertexSound, VertexHeld}
use Rattle.dof_transfer.proofs.VertexKept.{given-next, small-given_back, sound-vertex-given_back}
use Rattle.dof_transfer.proofs.vertex_ledger.VertexLedger.remove_all.Goals as goal

pub loop-patch-preserved : goal.loop-patch-preserved
loop-patch-preserved c =
    let old : VertexHeld = vertices_of c.loop-patch.self in
    let n : Name = c.patch-item.result.first in
    let within : c.loop-patch.patch-index < length c.args.died.now = omega arith in
    let step : held_of c.forget.new.self ≡ given_back old.patches n = c.forget.ensures.held ∙ c.give_back.ensures.held in
    record {
      macros = c.loop-patch.invariant.macros;
      removed = step ∙ ap (λ (h : Held). given_back h n) c.loop-patch.invariant.removed ∙ sym (given-next (held_of c.args.self.now.ledger) c.args.died.now c.loop-patch.patch-index c.patch-item.result within c.patch-item.is);
      sound = subst (λ (p : Held). IsVertexSound (record { macros = old.macros; patches = p })) (sym step) (sound-vertex-given_back old n c.loop-patch.invariant.sound);
      small = subst (λ (p : Held). AreSmall (record { macros = old.macros; patches = p })) (sym step) (small-given_back old n c.loop-patch.invariant.small);
    }
