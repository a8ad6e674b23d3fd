use Rattle.mesh_table.specs.Told.{moved}
use Rattle.mesh_table.specs.Rounds.{rewound}
use Rattle.mesh_table.proofs.table.MeshTable.rewind.Given as goal

abbrev pub ghosts-put : goal.ghosts-put
ghosts-put a = record { tells = moved (λ n v. rewound v) }
