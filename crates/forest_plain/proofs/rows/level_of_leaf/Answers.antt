use Rattle.forest_plain.proofs.rows.level_of_leaf.Goals as goal

pub returns-then-is_leaf-clause-same : goal.returns-then-is_leaf-clause-same
returns-then-is_leaf-clause-same g c = c.is_leaf.ensures.same

pub returns-else-is_leaf-clause-same : goal.returns-else-is_leaf-clause-same
returns-else-is_leaf-clause-same g c = c.is_leaf.ensures.same
