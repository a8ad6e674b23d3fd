-- What the words of the commands of restart files say.
use Rattle.std.specs.Prelude.{ℕ, List, codes, Option, Some, None, option_and_then}
use Rattle.clap.specs.Words.{Row}
use Rattle.adapt_words.specs.Commands.{found_in, join_app, resume_app, save_app, word_of}
use Rattle.adapt_words.specs.Numbers.{Word}
use Rattle.adapt_words.specs.Options.{AreLimits, pool_in, workers_in}
use Rattle.adapt_words.specs.declared.restarts.Join.{Join}
use Rattle.adapt_words.specs.declared.restarts.Resume.{Resume}
use Rattle.adapt_words.specs.declared.restarts.Save.{Save}

-- what the words of a run say whose last forest is kept
pub record SaveWords : Type 0 where
  pub macro_file : Word
  pub marks_file : Word
  pub workers : ℕ
  pub pool : ℕ

-- what the words say that join two restart files
pub record JoinWords : Type 0 where
  pub first_file : Word
  pub second_file : Word

-- what the words of a run say that goes on from a restart file
pub record ResumeWords : Type 0 where
  pub restart_file : Word
  pub marks_file : Word
  pub workers : ℕ
  pub pool : ℕ

-- a run to be kept, where all its parts are there
abbrev pub save_from : Option Word → Option Word → Option ℕ → Option ℕ → Option SaveWords
save_from (Some macro_file) (Some marks_file) (Some workers) (Some pool) = Some (record {
  macro_file = macro_file;
  marks_file = marks_file;
  workers = workers;
  pool = pool;
})
save_from _ _ _ _ = None

-- the run to be kept that was found
abbrev pub save_in : List Row → Option SaveWords
save_in rows = save_from (word_of (codes "macro") rows) (word_of (codes "marks") rows) (workers_in rows) (pool_in rows)

-- two files to be joined, where both are there
abbrev pub join_from : Option Word → Option Word → Option JoinWords
join_from (Some first_file) (Some second_file) = Some (record { first_file = first_file; second_file = second_file })
join_from _ _ = None

-- the two files that were found
abbrev pub join_in : List Row → Option JoinWords
join_in rows = join_from (word_of (codes "first") rows) (word_of (codes "second") rows)

-- a run that goes on, where all its parts are there
abbrev pub resume_from : Option Word → Option Word → Option ℕ → Option ℕ → Option ResumeWords
resume_from (Some restart_file) (Some marks_file) (Some workers) (Some pool) = Some (record {
  restart_file = restart_file;
  marks_file = marks_file;
  workers = workers;
  pool = pool;
})
resume_from _ _ _ _ = None

-- the run that goes on, as it was found
abbrev pub resume_in : List Row → Option ResumeWords
resume_in rows = resume_from (word_of (codes "restart") rows) (word_of (codes "marks") rows) (workers_in rows) (pool_in rows)

-- what the words say, where the first of them is `save`
unfoldable pub save_of : List Word → Option SaveWords
save_of words = option_and_then save_in (found_in save_app words)

-- what the words say, where the first of them is `join`
unfoldable pub join_of : List Word → Option JoinWords
join_of words = option_and_then join_in (found_in join_app words)

-- what the words say, where the first of them is `resume`
unfoldable pub resume_of : List Word → Option ResumeWords
resume_of words = option_and_then resume_in (found_in resume_app words)

-- what the answers of the code stand for
abbrev pub save_said : Save → SaveWords
save_said s = record {
  macro_file = s.macro_file.now;
  marks_file = s.marks_file.now;
  workers = s.workers;
  pool = s.pool;
}

abbrev pub join_said : Join → JoinWords
join_said j = record { first_file = j.first_file.now; second_file = j.second_file.now }

abbrev pub resume_said : Resume → ResumeWords
resume_said r = record {
  restart_file = r.restart_file.now;
  marks_file = r.marks_file.now;
  workers = r.workers;
  pool = r.pool;
}

-- the numbers of a run to be kept, or of one that goes on, lie in their ranges
abbrev pub IsSaveInRange : Save → Type 0
IsSaveInRange s = AreLimits s.workers s.pool

abbrev pub IsResumeInRange : Resume → Type 0
IsResumeInRange r = AreLimits r.workers r.pool
