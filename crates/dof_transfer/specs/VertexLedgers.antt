-- A ledger of vertices, as contracts see it.
use Rattle.dof_transfer.specs.Ledgers.{held_of}
use Rattle.dof_transfer.specs.VertexValues.{VertexHeld}
use Rattle.dof_transfer.specs.declared.vertex_ledger.VertexLedger.{VertexLedger}

-- the values of the macro vertices, and what stands in the slots
abbrev pub vertices_of : VertexLedger → VertexHeld
vertices_of l = record { macros = l.macros.items; patches = held_of l.ledger }
