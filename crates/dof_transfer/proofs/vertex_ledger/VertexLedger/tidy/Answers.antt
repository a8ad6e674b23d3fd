use Rattle.std.proofs.Common.{◌≡◌, sym, subst, Result, Ok, Err, OnOk, OnErr}
use Rattle.dof_transfer.specs.Held.{Held, IsTidied}
use Rattle.dof_transfer.specs.Ledgers.{held_of}
use Rattle.dof_transfer.specs.VertexLedgers.{vertices_of}
use Rattle.dof_transfer.specs.VertexValues.{IsVertexSound, VertexHeld}
use Rattle.dof_transfer.proofs.VertexKept.{small-same, sound-vertex-tidied}
use Rattle.dof_transfer.proofs.vertex_ledger.VertexLedger.tidy.Goals as goal

pub returns-clause-sound : goal.returns-clause-sound
returns-clause-sound c =
    let old : VertexHeld = vertices_of c.args.self.now in
    elim c.tidy.result as (λ (r : Result _ _). OnOk r (IsTidied old.patches (held_of c.tidy.new.self)) → OnErr r (held_of c.tidy.new.self ≡ old.patches) → IsVertexSound (record { macros = old.macros; patches = held_of c.tidy.new.self })) [
      | Ok x ↦ λ h _. sound-vertex-tidied old (held_of c.tidy.new.self) c.requires.sound h c.tidy.ensures.sound
      | Err e ↦ λ _ h. subst (λ (p : Held). IsVertexSound (record { macros = old.macros; patches = p })) (sym h) c.requires.sound
    ] c.tidy.ensures.ok c.tidy.ensures.err

pub returns-clause-small : goal.returns-clause-small
returns-clause-small c = small-same (vertices_of c.args.self.now) (held_of c.tidy.new.self) c.tidy.ensures.values c.requires.small
