use Rattle.std.proofs.Common.{arith}
use Rattle.mesh_table.proofs.table.MeshTable.set_bits.Goals as goal

pub fetch_or-requires : goal.fetch_or-requires
fetch_or-requires g c =
    let wide = c.args.self.now.wide in
    let within = c.requires.within in
    (c.requires.fit.0, omega arith, rw (c.args.self.now.key) (c.requires.allowed _))
