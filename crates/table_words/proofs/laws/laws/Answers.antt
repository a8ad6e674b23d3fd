use Rattle.table_words.proofs.LinkWords.{links_read, links_spell, claim_sets, nodes_read}
use Rattle.table_words.proofs.RoundWords.{rounds_read, rounds_spell}
use Rattle.table_words.proofs.NameCodes.{names_read, names_spell}
use Rattle.table_words.proofs.CodedNames.{codes_apart}
use Rattle.table_words.proofs.WordPlaces.{words_within, words_apart, words_fill, writes_one}
use Rattle.table_words.proofs.PlaceNumbers.{places_numbered, numbers_tell}
use Rattle.table_words.proofs.FreshWords.{fresh_words_listed}
use Rattle.table_words.proofs.Writes.{writes_update}
use Rattle.table_words.proofs.laws.laws.Goals as goal

pub returns-clause-links_read : goal.returns-clause-links_read
returns-clause-links_read c = links_read

pub returns-clause-links_spell : goal.returns-clause-links_spell
returns-clause-links_spell c = links_spell

pub returns-clause-claim_sets : goal.returns-clause-claim_sets
returns-clause-claim_sets c = claim_sets

pub returns-clause-rounds_read : goal.returns-clause-rounds_read
returns-clause-rounds_read c = rounds_read

pub returns-clause-rounds_spell : goal.returns-clause-rounds_spell
returns-clause-rounds_spell c = rounds_spell

pub returns-clause-names_read : goal.returns-clause-names_read
returns-clause-names_read c = names_read

pub returns-clause-names_spell : goal.returns-clause-names_spell
returns-clause-names_spell c = names_spell

pub returns-clause-words_within : goal.returns-clause-words_within
returns-clause-words_within c = words_within

pub returns-clause-words_apart : goal.returns-clause-words_apart
returns-clause-words_apart c = words_apart

pub returns-clause-words_fill : goal.returns-clause-words_fill
returns-clause-words_fill c = words_fill

pub returns-clause-writes_one : goal.returns-clause-writes_one
returns-clause-writes_one c = writes_one

pub returns-clause-places_numbered : goal.returns-clause-places_numbered
returns-clause-places_numbered c = places_numbered

pub returns-clause-numbers_tell : goal.returns-clause-numbers_tell
returns-clause-numbers_tell c = numbers_tell

pub returns-clause-nodes_read : goal.returns-clause-nodes_read
returns-clause-nodes_read c = nodes_read

pub returns-clause-writes_update : goal.returns-clause-writes_update
returns-clause-writes_update c = writes_update

pub returns-clause-codes_apart : goal.returns-clause-codes_apart
returns-clause-codes_apart c = codes_apart

pub returns-clause-fresh_listed : goal.returns-clause-fresh_listed
returns-clause-fresh_listed c = fresh_words_listed
