use Rattle.forest_tree.proofs.rows.deepest.Goals as goal

pub returns-clause-deepest : goal.returns-clause-deepest
returns-clause-deepest c = λ i d l asks. c.in_ok-found.ensures.deepest
