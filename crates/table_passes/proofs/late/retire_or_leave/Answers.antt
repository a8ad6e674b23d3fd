use Rattle.std.proofs.Common.{inl, inr, List}
use Rattle.mesh_names.specs.declared.patch.PatchName.{PatchName}
use Rattle.table_passes.proofs.late.retire_or_leave.Goals as goal

pub returns-in-Ok-clause-gone : goal.returns-in-Ok-clause-gone
returns-in-Ok-clause-gone g c = let h = c.in-Ok.ensures.retired in inl ((λ i. c.args.left.now.items), (h.6, h.7))

pub returns-clause-gone : goal.returns-clause-gone
returns-clause-gone g c = inr c.push_reserved.ensures.items
