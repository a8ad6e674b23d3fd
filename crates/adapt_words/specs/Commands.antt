-- Which words each command takes, as data of `clap`, and what `clap` finds in them.
use Rattle.std.specs.Prelude.{true, Bool, false, fold, map, List, [], ◌∷◌, codes, bytes_eq, Option, Some, None, if◌then◌else◌}
use Rattle.std.specs.Option.{option_map_or}
use Rattle.clap.specs.Walk.{is_empty}
use Rattle.clap.specs.Words.{App, Row, Rule, fault_of, first_of, matches_of, new_app, new_rule, with_rule}
use Rattle.clap.specs.declared.builder.ArgAction.TheVariants.{Set, SetTrue}
use Rattle.adapt_words.specs.Numbers.{Word}

-- a word that has to stand at its place
abbrev pub required : Word → Rule
required id = record (new_rule id) { required = true; action = Some Set }

-- `--id VALUE`, at most once
abbrev pub option : Word → Rule
option id = record (new_rule id) { long = Some id; action = Some Set }

-- `--id`, at most once and with no value
abbrev pub flag : Word → Rule
flag id = record (new_rule id) { long = Some id; action = Some SetTrue }

-- a command of this name with words that have to stand
abbrev pub taking : Word → List Word → App
taking name ids = fold with_rule (new_app name) (map required ids)

-- the same, with `--workers N` and `--pool P`
abbrev pub with_limits : App → App
with_limits app = with_rule (with_rule app (option (codes "workers"))) (option (codes "pool"))

-- `run MACRO MARKS [--workers N] [--pool P] [--report]`
abbrev pub run_app : App
run_app = with_rule (with_limits (taking (codes "run") (codes "macro" ∷ codes "marks" ∷ []))) (flag (codes "report"))

-- `soak START GRID ROUNDS [--workers N] [--pool P]`
abbrev pub soak_app : App
soak_app = with_limits (taking (codes "soak") (codes "start" ∷ codes "grid" ∷ codes "rounds" ∷ []))

-- `mark MACRO MARKS RULE [--workers N] [--pool P]`
abbrev pub mark_app : App
mark_app = with_limits (taking (codes "mark") (codes "macro" ∷ codes "marks" ∷ codes "rule" ∷ []))

-- `save MACRO MARKS [--workers N] [--pool P]`
abbrev pub save_app : App
save_app = with_limits (taking (codes "save") (codes "macro" ∷ codes "marks" ∷ []))

-- `join FIRST SECOND`
abbrev pub join_app : App
join_app = taking (codes "join") (codes "first" ∷ codes "second" ∷ [])

-- `resume RESTART MARKS [--workers N] [--pool P]`
abbrev pub resume_app : App
resume_app = with_limits (taking (codes "resume") (codes "restart" ∷ codes "marks" ∷ []))

-- `find MACRO MARKS POINTS [--workers N] [--pool P]`
abbrev pub find_app : App
find_app = with_limits (taking (codes "find") (codes "macro" ∷ codes "marks" ∷ codes "points" ∷ []))

-- `mend MACRO`
abbrev pub mend_app : App
mend_app = taking (codes "mend") (codes "macro" ∷ [])

-- what `clap` finds for each argument, where it takes the words; the first of them is the command's own
unfoldable pub found_in : App → List Word → Option (List Row)
found_in app words = if is_empty (fault_of app words) then Some (matches_of app words) else None

-- the word that was found for an argument
abbrev pub word_of : Word → List Row → Option Word
word_of id rows = first_of id rows

-- whether a flag stands among the words
abbrev pub is_given : Word → List Row → Bool
is_given id rows = option_map_or (λ value. bytes_eq value (codes "true")) (first_of id rows) false
