-- How a call of the program ends: with what status, and with what on out and err.
use Rattle.std.specs.Prelude.{◌≡◌, ℕ, ◌≤◌, ◌⊎◌, Bool, true, List, ◌++◌, take, Option, Some, None, IfSome, Result, Ok, Err, Vec, string_bytes}
use Rattle.std.specs.declared.alloc.Global.{Global}
use Rattle.std.specs.FinMap.{get}
use Rattle.mesh_io.specs.Faults.{Rose}
use Rattle.mesh_io.specs.Shelves.{Files}
use Rattle.adapt_words.specs.Numbers.{Word}
use Rattle.adapt_words.specs.Words.{CommandWords, find, join, mark, mend, resume, run, save, soak}
use Rattle.adapt_cli.specs.FaultTexts.{End, memory_line, read_fault_line, usage, write_fault_line}
use Rattle.adapt_cli.specs.Finding.{FindAsks, FindLeads}
use Rattle.adapt_cli.specs.Marks.{MarkAsks, MarkLeads}
use Rattle.adapt_cli.specs.Mending.{MendAsks, MendLeads}
use Rattle.adapt_cli.specs.Outcome.{RunAsks, RunLeads}
use Rattle.adapt_cli.specs.Resuming.{ResumeAsks, ResumeLeads}
use Rattle.adapt_cli.specs.Restarts.{JoinAsks, JoinLeads, SaveAsks, SaveLeads}
use Rattle.adapt_cli.specs.Soaks.{IsSoakOutcome}
use Rattle.adapt_cli.specs.declared.fault.FileStop.{FileStop}
use Rattle.adapt_cli.specs.declared.fault.FileStop.TheVariants.{Stopped, Unread}
use Rattle.adapt_cli.specs.declared.fault.Stop.{Stop}
use Rattle.adapt_cli.specs.declared.fault.Stop.TheVariants.{Refused, Memory}

-- a sink before and after the call: what it tells, and its count of faults
pub record Written : Type 0 where
  pub old : Option (List ℕ)
  pub new : Option (List ℕ)
  pub before : ℕ
  pub now : ℕ

-- nothing was written, and nothing failed
pub record IsUntouched (sink : Written) : Type 0 where
  pub same : sink.new ≡ sink.old
  pub calm : sink.now ≡ sink.before

-- what the sink tells has grown by this text, and nothing failed
pub record Took (sink : Written) (text : List ℕ) : Type 0 where
  pub grown : IfSome sink.old (λ held. sink.new ≡ Some (held ++ text))
  pub calm : sink.now ≡ sink.before

-- a write failed, and what the sink tells has grown by a prefix of this text
pub record Failed (sink : Written) (text : List ℕ) : Type 0 where
  pub grown : IfSome sink.old (λ held. (n : ℕ) × (sink.new ≡ Some (held ++ take n text)))
  pub rose : Rose sink.before sink.now

-- what a call goes by: the command of its words, where they are in the form; and what the shelf tells at the start and whether it is steady, with its count before and after
pub record Source : Type 0 where
  pub command : Option CommandWords
  pub files : Option Files
  pub steady : Bool
  pub before : ℕ
  pub now : ℕ

-- a call: what it goes by, both sinks, and the status
pub record Call : Type 0 where
  pub source : Source
  pub out : Written
  pub err : Written
  pub status : ℕ

-- what a command leads to; the files tell it where the shelf tells its files, and a soak needs none
abbrev pub IsOutcomeOf : Option Files → CommandWords → End → Type 0
IsOutcomeOf files (run r) end = IfSome files (λ told. RunLeads r told end)
IsOutcomeOf files (soak s) end = IsSoakOutcome s end
IsOutcomeOf files (mark m) end = IfSome files (λ told. MarkLeads m told end)
IsOutcomeOf files (save s) end = IfSome files (λ told. SaveLeads s told end)
IsOutcomeOf files (join j) end = IfSome files (λ told. JoinLeads j told end)
IsOutcomeOf files (resume r) end = IfSome files (λ told. ResumeLeads r told end)
IsOutcomeOf files (find f) end = IfSome files (λ told. FindLeads f told end)
IsOutcomeOf files (mend m) end = IfSome files (λ told. MendLeads m told end)

-- the command asks for a file of this name; a soak asks for none
abbrev pub AsksFor : CommandWords → Option Files → Word → Type 0
AsksFor (run r) files name = RunAsks r files name
AsksFor (soak s) files name = ⊥
AsksFor (mark m) files name = MarkAsks m files name
AsksFor (save s) files name = SaveAsks s files name
AsksFor (join j) files name = JoinAsks j files name
AsksFor (resume r) files name = ResumeAsks r files name
AsksFor (find f) files name = FindAsks f files name
AsksFor (mend m) files name = MendAsks m files name

-- the outcome of the command
pub record IsOutcome (source : Source) (end : End) : Type 0 where
  pub command : CommandWords
  pub is_command : source.command ≡ Some command
  pub outcome : IsOutcomeOf source.files command end

-- the command asks for a file of this name
abbrev pub IsNext : Source → Word → Type 0
IsNext source name = (command : CommandWords) × (source.command ≡ Some command) × AsksFor command source.files name

-- there was no memory
pub record WantsMemory (source : Source) (status : ℕ) (line : List ℕ) : Type 0 where
  pub status_is : status ≡ 1
  pub line_is : line ≡ memory_line
  pub calm : source.now ≡ source.before

-- the words are outside the form
pub record IsOutside (source : Source) (status : ℕ) (line : List ℕ) : Type 0 where
  pub status_is : status ≡ 2
  pub line_is : line ≡ usage
  pub outside : source.command ≡ None
  pub calm : source.now ≡ source.before

-- a file or a round is refused, as the outcome says
pub record IsRefused (source : Source) (status : ℕ) (line : List ℕ) : Type 0 where
  pub low : 3 ≤ status
  pub high : status ≤ 5
  pub calm : source.now ≡ source.before
  pub outcome : IsOutcome source (Err (status, line))

-- the load of a file failed, which a steady shelf has not
pub record IsUnread (source : Source) (status : ℕ) (line : List ℕ) : Type 0 where
  pub status_is : status ≡ 6
  pub name : Word
  pub is_next : IsNext source name
  pub line_is : line ≡ read_fault_line name
  pub rose : Rose source.before source.now
  pub missing : source.steady ≡ true → IfSome source.files (λ files. get files name ≡ None)

-- the status and the line of a call that has no text
abbrev pub Tells : Source → ℕ → List ℕ → Type 0
Tells source status line = WantsMemory source status line ⊎ IsOutside source status line ⊎ IsRefused source status line ⊎ IsUnread source status line

-- a text, which is the outcome
pub record IsText (source : Source) (text : List ℕ) : Type 0 where
  pub calm : source.now ≡ source.before
  pub outcome : IsOutcome source (Ok text)

-- out took the whole text
pub record WritesText (call : Call) : Type 0 where
  pub status_is : call.status ≡ 0
  pub text : List ℕ
  pub is_text : IsText call.source text
  pub out_took : Took call.out text
  pub err_kept : IsUntouched call.err

-- err took the whole line
pub record WritesLine (call : Call) : Type 0 where
  pub line : List ℕ
  pub tells : Tells call.source call.status line
  pub out_kept : IsUntouched call.out
  pub err_took : Took call.err line

-- a write of the text to out failed; then err took the line that says so, or failed too
pub record LosesText (call : Call) : Type 0 where
  pub status_is : call.status ≡ 7
  pub text : List ℕ
  pub is_text : IsText call.source text
  pub out_failed : Failed call.out text
  pub err_told : Took call.err write_fault_line ⊎ Failed call.err write_fault_line

-- a write of the line to err failed
pub record LosesLine (call : Call) : Type 0 where
  pub status_is : call.status ≡ 7
  pub status : ℕ
  pub line : List ℕ
  pub tells : Tells call.source status line
  pub out_kept : IsUntouched call.out
  pub err_failed : Failed call.err line

-- the four ways in which a call ends
abbrev pub Ends : Call → Type 0
Ends call = WritesText call ⊎ WritesLine call ⊎ LosesText call ⊎ LosesLine call

-- a line was to be written to err, and to end the call with this status
abbrev pub LineEnds : Written → List ℕ → ℕ → ℕ → Type 0
LineEnds err line status result = ((result ≡ status) × Took err line) ⊎ ((result ≡ 7) × Failed err line)

-- a text was to be written to out; err takes a line where that failed
abbrev pub TextEnds : Written → Written → List ℕ → ℕ → Type 0
TextEnds out err text result =
    ((result ≡ 0) × Took out text × IsUntouched err)
    ⊎ ((result ≡ 7) × Failed out text × (Took err write_fault_line ⊎ Failed err write_fault_line))

-- how a command ends at a stop
abbrev pub StopEnds : Stop → Written → ℕ → Type 0
StopEnds (Refused fault) err result = LineEnds err (string_bytes fault.line) fault.status result
StopEnds Memory err result = LineEnds err memory_line 1 result

-- how a command with files ends, by the text that it led to or by what stopped it
abbrev pub Finishes : Result (Vec ℕ Global) FileStop → Written → Written → ℕ → Type 0
Finishes (Ok text) out err result = TextEnds out err text.items result
Finishes (Err (Stopped stop)) out err result = IsUntouched out × StopEnds stop err result
Finishes (Err (Unread name)) out err result = IsUntouched out × LineEnds err (read_fault_line name.now) 6 result
