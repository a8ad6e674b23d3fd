-- There is one outcome of a command.
use Rattle.std.specs.Prelude.{◌≡◌}
use Rattle.mesh_io.specs.Shelves.{Files}
use Rattle.adapt_words.specs.Finding.{FindWords}
use Rattle.adapt_words.specs.Rounds.{RunWords, SoakWords}
use Rattle.adapt_cli.specs.FaultTexts.{End}
use Rattle.adapt_cli.specs.Finding.{FindLeads}
use Rattle.adapt_cli.specs.Outcome.{RunLeads}
use Rattle.adapt_cli.specs.Soaks.{IsSoakOutcome}

-- the law that a run, with a report or without, and its files have one outcome
abbrev pub OneRun : Type 0
OneRun = (run : RunWords) (files : Files) (a b : End) → RunLeads run files a → RunLeads run files b → a ≡ b

-- the law that a soak has one outcome
abbrev pub OneSoak : Type 0
OneSoak = (soak : SoakWords) (a b : End) → IsSoakOutcome soak a → IsSoakOutcome soak b → a ≡ b

-- the law that finding and its files have one outcome
abbrev pub OneFinding : Type 0
OneFinding = (find : FindWords) (files : Files) (a b : End) → FindLeads find files a → FindLeads find files b → a ≡ b
