use Rattle.orient.proofs.EndParts.{read_text}
use Rattle.orient.proofs.files.oriented_bytes.Goals as goal

pub returns-in-Ok : goal.returns-in-Ok
returns-in-Ok c = read_text c.args.bytes.now c.in-Ok.text (record { short = c.requires; read = c.in-Ok.ensures.ok }) c.oriented_text.result c.oriented_text.ensures
