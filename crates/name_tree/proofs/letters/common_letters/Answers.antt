use Rattle.std.proofs.Common.{sym, ◌∙◌}
use Rattle.mesh_names.proofs.Sets.{tied-same}
use Rattle.name_tree.proofs.letters.common_letters.Goals as goal

pub returns-then-eq-clause-same : goal.returns-then-eq-clause-same
returns-then-eq-clause-same c = sym c.first_letters-3.ensures ∙ tied-same _ _ (sym c.eq.ensures ∙ c.if-eq.true) ∙ c.first_letters-4.ensures
