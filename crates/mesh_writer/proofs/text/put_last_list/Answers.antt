use Rattle.std.proofs.lemmas.Result.{on_ok_weaker}
use Rattle.mesh_writer.proofs.Lines.{key_and_lines}
use Rattle.mesh_writer.proofs.text.put_last_list.Goals as goal

pub returns : goal.returns
returns g c = on_ok_weaker c.put_lines.result (key_and_lines g.L.Line.line c.args.items.now c.args.key.now c.args.text.now.items _ _ _ c.in_ok-put_text.ensures c.in_ok-put_text-2.ensures) c.put_lines.ensures
