use Rattle.std.proofs.Common.{true, replicate, ap, sym, ◌∙◌, List, ℤ, length}
use Rattle.std.proofs.lemmas.List.{length-map}
use Rattle.macro_file.specs.declared.text.MacroVertex.{MacroVertex}
use Rattle.dof_transfer.specs.Ledgers.{held_of}
use Rattle.dof_transfer.proofs.VertexKept.{small-first, sound-first}
use Rattle.dof_transfer.proofs.vertex_ledger.VertexLedger.new.Goals as goal

pub returns-clause-small : goal.returns-clause-small
returns-clause-small c = small-first c.in_ok-macros.macros.items (held_of c.use_first.new.self) (replicate c.vertex_count.result true) c.in_ok-use_first.ensures c.in_ok-macros.ensures.small

pub returns-clause-sound : goal.returns-clause-sound
returns-clause-sound c = sound-first c.in_ok-macros.macros.items (held_of c.use_first.new.self) c.vertex_count.result c.in_ok-use_first.ensures (ap (λ (l : List ℤ). length l) c.in_ok-macros.ensures.all ∙ length-map c.args.mesh.now.vertices (λ (x : MacroVertex). x.value) ∙ sym c.vertex_count.ensures)
