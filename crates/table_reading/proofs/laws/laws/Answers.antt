use Rattle.table_reading.proofs.RoundForests.{least_is_target, bisected_coded, reads_forests, kept_forests, least_when_needed}
use Rattle.table_reading.proofs.ReadingLaws.{reads_closing, readable_forests, reads_history, reads_forest, least_read, reached_stays}
use Rattle.table_reading.proofs.Reading.{words_read}
use Rattle.table_reading.proofs.RoundCoarsens.{history_coarsens}
use Rattle.table_reading.proofs.laws.laws.Goals as goal

pub returns-clause-target : goal.returns-clause-target
returns-clause-target c = least_is_target

pub returns-clause-coded : goal.returns-clause-coded
returns-clause-coded c = bisected_coded

pub returns-clause-forests : goal.returns-clause-forests
returns-clause-forests c = reads_forests

pub returns-clause-kept : goal.returns-clause-kept
returns-clause-kept c = kept_forests

pub returns-clause-readable : goal.returns-clause-readable
returns-clause-readable c = readable_forests

pub returns-clause-words : goal.returns-clause-words
returns-clause-words c = words_read

pub returns-clause-read : goal.returns-clause-read
returns-clause-read c = reads_history

pub returns-clause-forest : goal.returns-clause-forest
returns-clause-forest c = reads_forest

pub returns-clause-least_read : goal.returns-clause-least_read
returns-clause-least_read c = least_read

pub returns-clause-reached : goal.returns-clause-reached
returns-clause-reached c = reached_stays

pub returns-clause-coarsened : goal.returns-clause-coarsened
returns-clause-coarsened c = history_coarsens

pub returns-clause-least : goal.returns-clause-least
returns-clause-least c = least_when_needed

pub returns-clause-closing : goal.returns-clause-closing
returns-clause-closing c = reads_closing
