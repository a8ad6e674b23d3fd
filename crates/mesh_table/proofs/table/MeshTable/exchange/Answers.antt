use Rattle.std.proofs.Common.{arith}
use Rattle.mesh_table.proofs.table.MeshTable.exchange.Goals as goal

pub swap-requires : goal.swap-requires
swap-requires g c =
    let wide = c.args.self.now.wide in
    let within = c.requires.within in
    (c.requires.fit.0, omega arith, rw (c.args.self.now.key) (c.requires.allowed _))
