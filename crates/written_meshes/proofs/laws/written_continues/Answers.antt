use Rattle.written_meshes.proofs.Continuing.{written_continues}
use Rattle.written_meshes.proofs.laws.written_continues.Goals as goal

pub returns : goal.returns
returns c = written_continues c.new_is_forest.ensures c.new_holds_partners.ensures c.values_stay.ensures.elements c.first_values.ensures.vertices
