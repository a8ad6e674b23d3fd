-- Which words are in the form, and what they say.
use Rattle.std.specs.Prelude.{◌≡◌, ⊤, List, [], ◌∷◌, codes, bytes_eq, Option, Some, None, Result, Ok, Err, if◌then◌else◌, option_map}
use Rattle.adapt_words.specs.Finding.{FindWords, IsFindInRange, find_of, find_said}
use Rattle.adapt_words.specs.Mending.{MendWords, mend_of, mend_said}
use Rattle.adapt_words.specs.Numbers.{Word}
use Rattle.adapt_words.specs.Restarts.{IsResumeInRange, IsSaveInRange, JoinWords, ResumeWords, SaveWords, join_of, join_said, resume_of, resume_said, save_of, save_said}
use Rattle.adapt_words.specs.Rounds.{IsMarkInRange, IsRunInRange, IsSoakInRange, MarkWords, RunWords, SoakWords, mark_of, mark_said, run_of, run_said, soak_of, soak_said}
use Rattle.adapt_words.specs.declared.words.Command.{Command}
use Rattle.adapt_words.specs.declared.words.Command.TheVariants as command
use Rattle.adapt_words.specs.declared.words.WordsRefusal.{WordsRefusal}
use Rattle.adapt_words.specs.declared.words.WordsRefusal.TheVariants.{Outside, Memory}

-- what words say
pub data CommandWords : Type 0 where
  run : RunWords → CommandWords
  soak : SoakWords → CommandWords
  mark : MarkWords → CommandWords
  save : SaveWords → CommandWords
  join : JoinWords → CommandWords
  resume : ResumeWords → CommandWords
  find : FindWords → CommandWords
  mend : MendWords → CommandWords

-- what the words say; None where they are outside the form
abbrev pub command_of : List Word → Option CommandWords
command_of [] = None
command_of (first ∷ others) =
    if bytes_eq first (codes "run") then option_map run (run_of (first ∷ others)) else
    if bytes_eq first (codes "soak") then option_map soak (soak_of (first ∷ others)) else
    if bytes_eq first (codes "mark") then option_map mark (mark_of (first ∷ others)) else
    if bytes_eq first (codes "save") then option_map save (save_of (first ∷ others)) else
    if bytes_eq first (codes "join") then option_map join (join_of (first ∷ others)) else
    if bytes_eq first (codes "resume") then option_map resume (resume_of (first ∷ others)) else
    if bytes_eq first (codes "find") then option_map find (find_of (first ∷ others)) else
    if bytes_eq first (codes "mend") then option_map mend (mend_of (first ∷ others)) else None

-- what an answer of the code stands for
abbrev pub said : Command → CommandWords
said (command.Run c) = run (run_said c)
said (command.Soak c) = soak (soak_said c)
said (command.Mark c) = mark (mark_said c)
said (command.Save c) = save (save_said c)
said (command.Join c) = join (join_said c)
said (command.Resume c) = resume (resume_said c)
said (command.Find c) = find (find_said c)
said (command.Mend c) = mend (mend_said c)

-- the numbers of a command lie in their ranges
abbrev pub IsInRange : Command → Type 0
IsInRange (command.Run c) = IsRunInRange c
IsInRange (command.Soak c) = IsSoakInRange c
IsInRange (command.Mark c) = IsMarkInRange c
IsInRange (command.Save c) = IsSaveInRange c
IsInRange (command.Join c) = ⊤
IsInRange (command.Resume c) = IsResumeInRange c
IsInRange (command.Find c) = IsFindInRange c
IsInRange (command.Mend c) = ⊤

-- an answer to the words that say `told`: what it stands for; Outside exactly where they say nothing; or Memory
abbrev pub Answers : {A B : Type 0} → (A → B) → Option B → Result A WordsRefusal → Type 0
Answers shown told (Ok answer) = told ≡ Some (shown answer)
Answers shown told (Err Outside) = told ≡ None
Answers shown told (Err Memory) = ⊤
