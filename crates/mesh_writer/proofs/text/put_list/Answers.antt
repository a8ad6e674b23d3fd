use Rattle.std.proofs.lemmas.Result.{on_ok_weaker}
use Rattle.mesh_writer.proofs.Lines.{and_empty_line}
use Rattle.mesh_writer.proofs.text.put_list.Goals as goal

pub returns : goal.returns
returns g c = on_ok_weaker c.put_text.result (and_empty_line g.L.Line.line c.args.items.now c.args.key.now c.args.text.now.items _ _ c.in_ok-put_last_list.ensures) c.put_text.ensures
