use Rattle.restart_file.proofs.Accepting.{text_refused}
use Rattle.restart_file.proofs.reading.read_mesh.Goals as goal

pub returns-in-Err : goal.returns-in-Err
returns-in-Err c = record { ok = tt; refused = text_refused c.args.part.now c.in_ok-text.text c.in-Err.refusal c.check_refusal.result c.in_ok-text.ensures.ok c.in-Err.ensures.refused c.check_refusal.ensures }
