use Rattle.csv.specs.Reading.{strip_bom}
use Rattle.mark_file.specs.Unread.{bytes_left}
use Rattle.mark_file.proofs.UnreadLemmas.{records-fresh}
use Rattle.mark_file.proofs.source.open.Goals as goal

pub returns-clause-records : goal.returns-clause-records
returns-clause-records c =
    records-fresh c.from_reader.result.state (bytes_left c.from_reader.result) (strip_bom c.args.bytes.now) c.from_reader.ensures.state c.from_reader.ensures.source
