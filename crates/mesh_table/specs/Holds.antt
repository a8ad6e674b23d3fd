-- The rule of the real table: its words and views are lawful.
use Rattle.std.specs.Prelude.{◌≡◌, length}
use Rattle.atomic_table.specs.Table.{State, Me}
use Rattle.table_words.specs.Layout.{word_count}
use Rattle.table_words.specs.Words.{words_at}
use Rattle.table_state.specs.Rule.{Lawful}
use Rattle.mesh_table.specs.declared.rule.Site.{Site}
use Rattle.mesh_table.specs.Sights.{Sight, seat_at, views_of, setup_at}

pub record Holds (k : Site) (s : State (Unit {0}) Sight) : Type 0 where
  pub size_is : length s.words ≡ word_count k.layout
  pub lawful : Lawful (setup_at k) (words_at k.layout s.words) (length s.views) (views_of (seat_at s.views))

abbrev pub Sat : Type 0
Sat = Me (Unit {0}) Sight
