use Rattle.std.proofs.Common.{◌≡◌, ◌≢◌, ℕ, ◌%◌, arith}
use Rattle.mesh_table.specs.Told.{sight}
use Rattle.table_rounds.proofs.Quieting.{may_go, gone, kept}
use Rattle.table_rounds.proofs.freeing.free_rolled_back.Goals as goal

pub free-requires-clause-may : goal.free-requires-clause-may
free-requires-clause-may c = may_go (sight c.args.owner.now) (sight c.look_released-released.new.owner) (sight c.look_quiet-round.new.owner) c.look_released-released.result c.look_quiet-round.result c.look_released-released.ensures.view c.look_quiet-round.ensures.view c.args.blocks.now c.requires.may c.if-released-round.true
