use Rattle.mesh_table.specs.Told.{child_told}
use Rattle.std.proofs.Common.{◌+◌, ◌*◌}
use Rattle.mesh_table.specs.Told.{no_ask}
use Rattle.mesh_table.proofs.table.MeshTable.fill_child.Given as goal

abbrev pub ghosts-put : goal.ghosts-put
ghosts-put a = record { tells = child_told (record no_ask { place = a.self.now.site.layout.elements + 4 * a.asked.0 + a.asked.1 }) }
