-- What the words of the commands that make rounds say: a run, a soak and a call for marks.
use Rattle.std.specs.Prelude.{◌≤◌, ℕ, Bool, List, codes, Option, Some, None, option_and_then}
use Rattle.clap.specs.Words.{Row}
use Rattle.adapt_words.specs.Commands.{found_in, is_given, mark_app, run_app, soak_app, word_of}
use Rattle.adapt_words.specs.Numbers.{Word}
use Rattle.adapt_words.specs.Options.{AreLimits, number_of, pool_in, workers_in}
use Rattle.adapt_words.specs.Rules.{rule_in}
use Rattle.adapt_words.specs.declared.rules.Rule.{Rule}
use Rattle.adapt_words.specs.declared.rounds.Mark.{Mark}
use Rattle.adapt_words.specs.declared.rounds.Run.{Run}
use Rattle.adapt_words.specs.declared.rounds.Soak.{Soak}

-- what the words of a run say
pub record RunWords : Type 0 where
  pub macro_file : Word
  pub marks_file : Word
  pub workers : ℕ
  pub pool : ℕ
  pub report : Bool

-- what the words of a soak say
pub record SoakWords : Type 0 where
  pub start : ℕ
  pub grid : ℕ
  pub rounds : ℕ
  pub workers : ℕ
  pub pool : ℕ

-- what the words of a call for marks say
pub record MarkWords : Type 0 where
  pub macro_file : Word
  pub marks_file : Word
  pub rule : Rule
  pub workers : ℕ
  pub pool : ℕ

-- a run, where all its parts are there
abbrev pub run_from : Option Word → Option Word → Option ℕ → Option ℕ → Bool → Option RunWords
run_from (Some macro_file) (Some marks_file) (Some workers) (Some pool) report = Some (record {
  macro_file = macro_file;
  marks_file = marks_file;
  workers = workers;
  pool = pool;
  report = report;
})
run_from _ _ _ _ report = None

-- the run that was found
abbrev pub run_in : List Row → Option RunWords
run_in rows = run_from (word_of (codes "macro") rows) (word_of (codes "marks") rows) (workers_in rows) (pool_in rows) (is_given (codes "report") rows)

-- a soak, where all its parts are there
abbrev pub soak_from : Option ℕ → Option ℕ → Option ℕ → Option ℕ → Option ℕ → Option SoakWords
soak_from (Some start) (Some grid) (Some rounds) (Some workers) (Some pool) = Some (record {
  start = start;
  grid = grid;
  rounds = rounds;
  workers = workers;
  pool = pool;
})
soak_from _ _ _ _ _ = None

-- the soak that was found: START 0 to 65535, GRID 1 to 128, ROUNDS 1 to 64
abbrev pub soak_in : List Row → Option SoakWords
soak_in rows = soak_from (number_of (codes "start") 0 65535 rows) (number_of (codes "grid") 1 128 rows) (number_of (codes "rounds") 1 64 rows) (workers_in rows) (pool_in rows)

-- a call for marks, where all its parts are there
abbrev pub mark_from : Option Word → Option Word → Option Rule → Option ℕ → Option ℕ → Option MarkWords
mark_from (Some macro_file) (Some marks_file) (Some rule) (Some workers) (Some pool) = Some (record {
  macro_file = macro_file;
  marks_file = marks_file;
  rule = rule;
  workers = workers;
  pool = pool;
})
mark_from _ _ _ _ _ = None

-- the rule of a word that has to stand
abbrev pub rule_of : List Row → Option Rule
rule_of rows = option_and_then rule_in (word_of (codes "rule") rows)

-- the call for marks that was found
abbrev pub mark_in : List Row → Option MarkWords
mark_in rows = mark_from (word_of (codes "macro") rows) (word_of (codes "marks") rows) (rule_of rows) (workers_in rows) (pool_in rows)

-- what the words say, where the first of them is `run`
unfoldable pub run_of : List Word → Option RunWords
run_of words = option_and_then run_in (found_in run_app words)

-- what the words say, where the first of them is `soak`
unfoldable pub soak_of : List Word → Option SoakWords
soak_of words = option_and_then soak_in (found_in soak_app words)

-- what the words say, where the first of them is `mark`
unfoldable pub mark_of : List Word → Option MarkWords
mark_of words = option_and_then mark_in (found_in mark_app words)

-- what the answers of the code stand for
abbrev pub run_said : Run → RunWords
run_said r = record {
  macro_file = r.macro_file.now;
  marks_file = r.marks_file.now;
  workers = r.workers;
  pool = r.pool;
  report = r.report;
}

abbrev pub soak_said : Soak → SoakWords
soak_said s = record {
  start = s.start;
  grid = s.grid;
  rounds = s.rounds;
  workers = s.workers;
  pool = s.pool;
}

abbrev pub mark_said : Mark → MarkWords
mark_said m = record {
  macro_file = m.macro_file.now;
  marks_file = m.marks_file.now;
  rule = m.rule;
  workers = m.workers;
  pool = m.pool;
}

-- the numbers of a run, a soak or a call for marks lie in their ranges
abbrev pub IsRunInRange : Run → Type 0
IsRunInRange r = AreLimits r.workers r.pool

abbrev pub IsSoakInRange : Soak → Type 0
IsSoakInRange s = (s.start ≤ 65535) × (1 ≤ s.grid) × (s.grid ≤ 128) × (1 ≤ s.rounds) × (s.rounds ≤ 64) × AreLimits s.workers s.pool

abbrev pub IsMarkInRange : Mark → Type 0
IsMarkInRange m = AreLimits m.workers m.pool
