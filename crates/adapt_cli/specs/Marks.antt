-- What a call for marks leads to: the rows of the next round, which mark the leaves that a strategy chooses by their values.
use Rattle.std.specs.Prelude.{◌≡◌, ℕ, ◌+◌, ◌<◌, ◌≤◌, ◌⊎◌, pos, List, ◌++◌, codes, length, map, Option, Ok, Err}
use Rattle.std.specs.List.{concat}
use Rattle.mesh_io.specs.Shelves.{Files}
use Rattle.mesh_names.specs.Names.{Name}
use Rattle.mesh_names.specs.declared.rows.MarkRow.{MarkRow}
use Rattle.mesh_names.specs.declared.rows.What.TheVariants.{Mark}
use Rattle.mesh_names.specs.declared.rows.Place.TheVariants.{Elem}
use Rattle.compat_check.specs.Meshes.{Mesh}
use Rattle.mark_file.specs.Meaning.{Round}
use Rattle.mark_file.specs.Written.{row_line}
use Rattle.mark_strategy.specs.Leaves.{Leaf}
use Rattle.mark_strategy.specs.Strategies.{IsBulk, equal_names, max_names}
use Rattle.dof_transfer.specs.Held.{worth_of}
use Rattle.mesh_rounds.specs.State.{IsFirst, State}
use Rattle.adapt_words.specs.Numbers.{Word}
use Rattle.adapt_words.specs.Rounds.{MarkWords}
use Rattle.adapt_words.specs.declared.rules.Rule.{Rule}
use Rattle.adapt_words.specs.declared.rules.Rule.TheVariants.{Max, Bulk, Equal}
use Rattle.adapt_cli.specs.FaultTexts.{End, no_round_left}
use Rattle.adapt_cli.specs.Outcome.{AsksBoth, LoadsBoth}
use Rattle.mesh_rounds.specs.Texts.{AreLeaves}
use Rattle.adapt_cli.specs.Rounds.{LeadTo, last_state}

-- the leaves with the values that they have in this state
abbrev pub valued : State → List Name → List Leaf
valued state list = map (λ n. (n, worth_of state.elements n)) list

-- the rule chooses these names
abbrev pub Chooses : Rule → List Leaf → List Name → Type 0
Chooses (Max share) leaves names = names ≡ max_names share leaves
Chooses (Bulk share) leaves names = IsBulk share leaves names
Chooses (Equal goal) leaves names = names ≡ equal_names goal leaves

-- the row that marks a leaf for one bisection
abbrev pub marking : Name → MarkRow
marking n = record { row = 0; what = Mark; place = Elem n; number = pos 1 }

-- a marks file whose one round, of this number, marks these leaves
abbrev pub marks_text : ℕ → List Name → List ℕ
marks_text round names = codes "round,what,where,number\n" ++ concat (map (λ n. row_line round (marking n)) names)

-- the text marks, in this round, the leaves that the rule chooses of the mesh in this state
abbrev pub IsMarksText : Mesh → Rule → ℕ → State → List ℕ → Type 0
IsMarksText mesh rule round state text = (list : List Name) × AreLeaves mesh state list × (names : List Name) × Chooses rule (valued state list) names × (text ≡ marks_text round names)

-- from the mesh before any round the rounds lead to marks for one more, to the first fault, or to no round that is left
abbrev pub MarksTo : Mesh → MarkWords → List Round → End → Type 0
MarksTo mesh mark rounds (Ok text) =
    (length rounds < 65535) × (first : State) × IsFirst mesh first × (states : List State) × LeadTo mesh mark.pool rounds first (Ok states)
    × IsMarksText mesh mark.rule (length rounds + 1) (last_state first states) text
MarksTo mesh mark rounds (Err fault) =
    ((65535 ≤ length rounds) × (fault ≡ no_round_left))
    ⊎ ((length rounds < 65535) × (first : State) × IsFirst mesh first × LeadTo mesh mark.pool rounds first (Err fault))

-- all rounds are there already
abbrev pub IsNoRoundLeft : End → Type 0
IsNoRoundLeft end = end ≡ Err no_round_left

-- what a call for marks and its files lead to
abbrev pub MarkLeads : MarkWords → Files → End → Type 0
MarkLeads mark = LoadsBoth mark.macro_file mark.marks_file (λ mesh rounds files. MarksTo mesh mark rounds)

-- the files that it asks for
abbrev pub MarkAsks : MarkWords → Option Files → Word → Type 0
MarkAsks mark = AsksBoth mark.macro_file mark.marks_file
