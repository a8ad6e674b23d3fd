use Rattle.macro_file.proofs.ReadingBack.{written_back}
use Rattle.macro_file.proofs.laws.written_is_read.Goals as goal

pub returns : goal.returns
returns c = written_back
