use Rattle.std.proofs.Common.{◌≡◌, ◌++◌, take}
use Rattle.std.specs.List.{flat_map}
use Rattle.mesh_writer.proofs.pieces.join.Given as goal

abbrev pub invariant-loop-piece : goal.invariant-loop-piece
invariant-loop-piece l = l.to.items ≡ l.fn.to.items ++ flat_map (λ piece. piece.items) (take l.piece-index l.pieces)
