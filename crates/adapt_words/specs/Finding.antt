-- What the words say that ask for the leaves of points.
use Rattle.std.specs.Prelude.{ℕ, List, codes, Option, Some, None, option_and_then}
use Rattle.clap.specs.Words.{Row}
use Rattle.adapt_words.specs.Commands.{find_app, found_in, word_of}
use Rattle.adapt_words.specs.Numbers.{Word}
use Rattle.adapt_words.specs.Options.{AreLimits, pool_in, workers_in}
use Rattle.adapt_words.specs.declared.finding.Find.{Find}

-- what the words say that ask for the leaves of points after a run
pub record FindWords : Type 0 where
  pub macro_file : Word
  pub marks_file : Word
  pub points_file : Word
  pub workers : ℕ
  pub pool : ℕ

-- a call, where all its parts are there
abbrev pub find_from : Option Word → Option Word → Option Word → Option ℕ → Option ℕ → Option FindWords
find_from (Some macro_file) (Some marks_file) (Some points_file) (Some workers) (Some pool) = Some (record {
  macro_file = macro_file;
  marks_file = marks_file;
  points_file = points_file;
  workers = workers;
  pool = pool;
})
find_from _ _ _ _ _ = None

-- the call that was found
abbrev pub find_in : List Row → Option FindWords
find_in rows = find_from (word_of (codes "macro") rows) (word_of (codes "marks") rows) (word_of (codes "points") rows) (workers_in rows) (pool_in rows)

-- what the words say, where the first of them is `find`
unfoldable pub find_of : List Word → Option FindWords
find_of words = option_and_then find_in (found_in find_app words)

-- what the answer of the code stands for
abbrev pub find_said : Find → FindWords
find_said f = record {
  macro_file = f.macro_file.now;
  marks_file = f.marks_file.now;
  points_file = f.points_file.now;
  workers = f.workers;
  pool = f.pool;
}

-- its numbers lie in their ranges
abbrev pub IsFindInRange : Find → Type 0
IsFindInRange f = AreLimits f.workers f.pool
