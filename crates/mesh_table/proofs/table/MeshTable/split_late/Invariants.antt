use Rattle.mesh_table.proofs.table.MeshTable.split_late.Given as goal

abbrev pub ghosts-split_late_as : goal.ghosts-split_late_as
ghosts-split_late_as a = record { number = a.number }
