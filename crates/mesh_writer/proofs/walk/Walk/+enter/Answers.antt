use Rattle.std.proofs.lemmas.Result.{IfOk-weaker}
use Rattle.mesh_writer.proofs.Walking.{entered_after}
use Rattle.mesh_writer.proofs.walk.Walk.+enter.Goals as goal

pub returns : goal.returns
returns t c = IfOk-weaker c.enter_child.result _ _ (λ place h. entered_after c.args.mesh.now c.args.name _ c.args.self.now c.enter.new.self c.enter_child.new.self c.in_ok-above.above place c.in_ok-above.ensures h) c.enter_child.ensures
