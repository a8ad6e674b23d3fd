use Rattle.std.proofs.lemmas.Result.{on_ok_weaker}
use Rattle.macro_file.proofs.WriterLemmas.{put_head}
use Rattle.mesh_writer.proofs.text.put_head.Goals as goal

pub returns : goal.returns
returns c = on_ok_weaker c.put_text-3.result
    (put_head c.args.text.now.items _ _ _ _ _ c.args.vertex_count c.args.leaf_count c.in_ok-put_text.ensures c.in_ok-put_count.ensures c.in_ok-put_text-2.ensures c.in_ok-put_count-2.ensures)
    c.put_text-3.ensures
