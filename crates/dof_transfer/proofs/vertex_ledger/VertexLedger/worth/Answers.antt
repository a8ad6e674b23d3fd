use Rattle.std.proofs.Common.{◌^◌, ◌≤◌, ℤ, pos, Option, ap, ◌∙◌, sym, subst, rules, w64, unwrap_or}
use Rattle.std.specs.Prelude.{nat_abs}
use Rattle.std.proofs.lemmas.Int.{to_z-of_z}
use Rattle.dof_transfer.specs.VertexLedgers.{vertices_of}
use Rattle.dof_transfer.proofs.VertexKept.{worth-small}
use Rattle.dof_transfer.proofs.vertex_ledger.VertexLedger.worth.Goals as goal

pub returns-clause-small : goal.returns-clause-small
returns-clause-small c =
    let told = to_z-of_z w64 c.unwrap_or.result (search rules) ∙ c.unwrap_or.ensures ∙ ap (λ (o : Option ℤ). unwrap_or o (pos 0)) c.value.ensures in
    subst (λ (z : ℤ). nat_abs z ≤ 2 ^ 31) (sym told) (worth-small (vertices_of c.args.self.now) c.args.key c.requires)
