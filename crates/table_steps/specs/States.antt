-- A state of the table: its words, how many seats were ever made, and what the seats know.
use Rattle.std.specs.Prelude.{ℕ}
use Rattle.table_words.specs.Setup.{Setup}
use Rattle.table_words.specs.Views.{Views}
use Rattle.table_words.specs.Words.{Words}
use Rattle.table_state.specs.Rule.{Lawful}

pub record State : Type 0 where
  pub words : Words
  pub seats : ℕ
  pub views : Views

abbrev pub state : Words → ℕ → Views → State
state w n v = record { words = w; seats = n; views = v }

abbrev pub IsLawful : Setup → State → Type 0
IsLawful s a = Lawful s a.words a.seats a.views

-- A kind of step: from words, seats and views to the state after it. Its condition speaks of the view of the
-- seat that steps, of the numbers that it is given, and of the numbers that it finds in the words
abbrev pub StepKind : Type 1
StepKind = Setup → Words → ℕ → Views → State → Type 0
