-- From what clap answers to what the words say.
use Rattle.std.proofs.Common.{◌≡◌, ℕ, ◌+◌, ◌<◌, ◌≤◌, false, cond, fold, get_or, length, map, take, List, [], ◌∷◌, Option, Some, None, Err, refl, sym, ap, ◌∙◌}
use Rattle.std.specs.Prelude.{◌≢◌, bytes_eq, codes, option_and_then, option_map, ok_or, slice_get, unwrap_or}
use Rattle.std.proofs.Math.Dec.{eqb-suc-zero}
use Rattle.std.proofs.lemmas.List.{map-append, take_all, take_more}
use Rattle.std.proofs.lemmas.List.Sums.{fold-append}
use Rattle.std.proofs.lemmas.Bool.{false_from_ne_true}
use Rattle.std.proofs.lemmas.Slice.Eq.{bytes_eq-Decides}
use Rattle.clap.specs.Kinds.{IsAmong, Kinds}
use Rattle.clap.specs.Walk.{is_empty}
use Rattle.clap.specs.Words.{App, Row, Rule, fault_of, matches_of, with_rule}
use Rattle.clap.specs.declared.error.kind.ErrorKind.{ErrorKind}
use Rattle.adapt_words.specs.Commands.{found_in}
use Rattle.adapt_words.specs.Numbers.{Word}
use Rattle.adapt_words.specs.Words.{Answers, CommandWords, command_of}
use Rattle.adapt_words.specs.declared.words.WordsRefusal.{WordsRefusal}
use Rattle.adapt_words.specs.declared.words.WordsRefusal.TheVariants.{Outside, Memory}

-- words without a fault have the matches
pub found-some : (app : App) (words : List Word) (rows : List Row) → fault_of app words ≡ [] → rows ≡ matches_of app words → found_in app words ≡ Some rows
unfolding found_in
found-some app words rows none same = ap (λ (ks : Kinds). cond (is_empty ks) (Some (matches_of app words)) None) none ∙ ap Some (sym same)

some_kind : (ks : Kinds) (k : ErrorKind) → IsAmong k ks → is_empty ks ≡ false
some_kind [] k h = absurd h
some_kind (x ∷ xs) k h = eqb-suc-zero _

-- words with a fault have none
pub found-none : (app : App) (words : List Word) (k : ErrorKind) → IsAmong k (fault_of app words) → found_in app words ≡ None
unfolding found_in
found-none app words k h = ap (λ b. cond b (Some (matches_of app words)) None) (some_kind (fault_of app words) k h)

-- any refusal answers words that say nothing
pub refused : {A B : Type 0} (shown : A → B) (told : Option B) (refusal : WordsRefusal) → told ≡ None → Answers shown told (Err refusal)
refused shown told Outside h = h
refused shown told Memory h = tt

-- a refusal stays one where more is asked of the words
pub still_refused : {A B C D : Type 0} (shown : A → B) (shown_next : C → D) (told : Option B) (next : B → Option D) (refusal : WordsRefusal) →
    Answers shown told (Err refusal) → Answers shown_next (option_and_then next told) (Err refusal)
still_refused shown shown_next told next Outside h = ap (option_and_then next) h
still_refused shown shown_next told next Memory h = tt

-- what is found next is the answer, and where nothing is the words are outside
pub answered : {B C D : Type 0} (shown : C → D) (told : Option B) (next : B → Option D) (rows : B) (answer : Option C) → told ≡ Some rows → option_map shown answer ≡ next rows →
    Answers shown (option_and_then next told) (ok_or answer Outside)
answered shown told next rows None found same = ap (option_and_then next) found ∙ sym same
answered shown told next rows (Some x) found same = ap (option_and_then next) found ∙ sym same

other_word : (word name : Word) → word ≢ name → bytes_eq word name ≡ false
other_word word name differs = false_from_ne_true (bytes_eq word name) (λ e. differs ((bytes_eq-Decides word name).0 e))

-- a word that is not this command's name leaves it to the others
passed : (word name : Word) (this others : Option CommandWords) → word ≢ name → others ≡ None → cond (bytes_eq word name) this others ≡ None
passed word name this others differs rest = ap (λ b. cond b this others) (other_word word name differs) ∙ rest

-- words that begin with the name of no command are outside
pub command_of-other : (words : List Word) (first : Word) → slice_get words 0 ≡ Some first → first ≢ codes "run" → first ≢ codes "soak" → first ≢ codes "mark" → first ≢ codes "save" → first ≢ codes "join" → first ≢ codes "resume" → first ≢ codes "find" → first ≢ codes "mend" → command_of words ≡ None
command_of-other [] first e no_run no_soak no_mark no_save no_join no_resume no_find no_mend = refl
command_of-other (word ∷ words) first e no_run no_soak no_mark no_save no_join no_resume no_find no_mend =
    let same : word ≡ first = ap (λ o. unwrap_or o first) e in
    let all = word ∷ words in
    passed word (codes "run") _ _ (λ h. no_run (sym same ∙ h)) (passed word (codes "soak") _ _ (λ h. no_soak (sym same ∙ h)) (passed word (codes "mark") _ _ (λ h. no_mark (sym same ∙ h)) (passed word (codes "save") _ _ (λ h. no_save (sym same ∙ h)) (passed word (codes "join") _ _ (λ h. no_join (sym same ∙ h)) (passed word (codes "resume") _ _ (λ h. no_resume (sym same ∙ h)) (passed word (codes "find") _ _ (λ h. no_find (sym same ∙ h)) (passed word (codes "mend") _ _ (λ h. no_mend (sym same ∙ h)) refl)))))))

-- one more word that has to stand
pub rules-more : {X : Type 0} (f : X → Rule) (app : App) (xs : List X) (i : ℕ) (d : X) → i < length xs →
    with_rule (fold with_rule app (map f (take i xs))) (f (get_or xs i d)) ≡ fold with_rule app (map f (take (i + 1) xs))
rules-more f app xs i d l =
    sym (fold-append with_rule app (map f (take i xs)) (f (get_or xs i d) ∷ []))
    ∙ ap (fold with_rule app) (sym (map-append f (take i xs) (get_or xs i d ∷ [])) ∙ ap (map f) (sym (take_more xs i d l)))

pub rules-all : {X : Type 0} (f : X → Rule) (app : App) (xs : List X) (i : ℕ) → length xs ≤ i → fold with_rule app (map f (take i xs)) ≡ fold with_rule app (map f xs)
rules-all f app xs i l = ap (λ ys. fold with_rule app (map f ys)) (take_all i xs l)
