use Rattle.std.proofs.Common.{◌≡◌, ◌≤◌, ◌^◌, take, map}
use Rattle.std.specs.Prelude.{nat_abs}
use Rattle.std.specs.List.{All}
use Rattle.macro_file.specs.declared.text.MacroVertex.{MacroVertex}
use Rattle.dof_transfer.proofs.vertex_ledger.macro_values.Given as goal

abbrev pub invariant-loop-vertex : goal.invariant-loop-vertex
invariant-loop-vertex l = record {
  all : l.values.items ≡ map (λ (x : MacroVertex). x.value) (take l.vertex l.mesh.vertices);
  small : All (λ z. nat_abs z ≤ 2 ^ 31) l.values.items;
}
