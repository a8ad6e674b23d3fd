use Rattle.compat_check.specs.Meshes.{across_in, shape_of}
use Rattle.mesh_table.specs.Sights.{setup_at}
use Rattle.mesh_table.specs.Crews.{begins_told}
use Rattle.mesh_table.proofs.table.MeshTable.begin_for.Given as goal

abbrev pub ghosts-get : goal.ghosts-get
ghosts-get a = record { tells = begins_told (setup_at a.self.now.site) (shape_of a.self.now.site.mesh.now) (across_in a.self.now.site.mesh.now) a.asked.now }
