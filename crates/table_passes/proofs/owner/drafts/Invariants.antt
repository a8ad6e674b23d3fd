use Rattle.std.proofs.Common.{◌≡◌, map, All}
use Rattle.table_passes.specs.Tasks.{HasRoom}
use Rattle.table_passes.proofs.owner.drafts.Given as goal

abbrev pub invariant-loop-names : goal.invariant-loop-names
invariant-loop-names l = record {
  names : map (λ d. d.names.items) l.drafts.items ≡ map (λ w. w.items) l.yielded;
  room : All (λ d. HasRoom l.pool d.names.items d.lists) l.drafts.items;
}
