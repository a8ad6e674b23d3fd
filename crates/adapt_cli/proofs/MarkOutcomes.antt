-- From the rounds to the marks for one more.
use Rattle.std.proofs.Common.{◌≡◌, ℕ, ◌+◌, ◌<◌, ◌≤◌, refl, sym, ap, ◌∙◌, subst, List, [], ◌∷◌, ◌++◌, length, map, take, inl, inr, ⊎_elim, arith, append_assoc, get_or}
use Rattle.std.specs.Prelude.{Result, Ok, Err}
use Rattle.std.specs.List.{concat}
use Rattle.std.proofs.lemmas.List.{append-nil, map-append, take_more}
use Rattle.mesh_names.specs.Names.{Name}
use Rattle.compat_check.specs.Meshes.{Mesh}
use Rattle.mark_file.specs.Meaning.{Round}
use Rattle.mark_strategy.specs.Leaves.{names_of}
use Rattle.dof_transfer.specs.Held.{Held, worth_of}
use Rattle.mesh_rounds.specs.State.{IsFirst, State}
use Rattle.adapt_words.specs.Rounds.{MarkWords}
use Rattle.adapt_cli.specs.FaultTexts.{Fault}
use Rattle.adapt_cli.specs.Marks.{IsMarksText, IsNoRoundLeft, MarksTo}
use Rattle.adapt_cli.specs.Rounds.{LeadTo}
use Rattle.adapt_cli.specs.Stops.{IsRun, StopsBy}
use Rattle.adapt_cli.specs.declared.fault.Stop.{Stop}
use Rattle.adapt_cli.specs.declared.fault.Stop.TheVariants.{Refused, Memory}
use Rattle.adapt_cli.proofs.Outcomes.{lead_status}

-- a call for marks that is refused has status 4 or 5
pub mark_status : (mesh : Mesh) (mark : MarkWords) (rounds : List Round) (fault : Fault) → MarksTo mesh mark rounds (Err fault) → (3 ≤ fault.0) × (fault.0 ≤ 5)
mark_status mesh mark rounds fault h = ⊎_elim
    (λ a. let s = ap (λ (f : Fault). f.0) a.1 in (omega (arith, s), omega (arith, s)))
    (λ b. lead_status mesh mark.pool rounds b.1 fault b.3)
    h

-- no round is left
pub none_left : (mesh : Mesh) (mark : MarkWords) (rounds : List Round) (stop : Stop) → 65535 ≤ length rounds → StopsBy IsNoRoundLeft stop → StopsBy (MarksTo mesh mark rounds) stop
none_left mesh mark rounds (Refused fault) full h = inl (full, inner h)
  where
    inner : {A B : Type 0} {a b : B} → ◌≡◌ {A = Result A B} (Err a) (Err b) → a ≡ b
    inner q = cc
none_left mesh mark rounds Memory full h = tt

-- the rounds on a new forest are refused
pub marks_refused : (mesh : Mesh) (mark : MarkWords) (rounds : List Round) (first : State) (stop : Stop) → length rounds < 65535 → IsFirst mesh first → StopsBy (LeadTo mesh mark.pool rounds first) stop → StopsBy (MarksTo mesh mark rounds) stop
marks_refused mesh mark rounds first (Refused fault) left is_first stops = inr (left, first, is_first, stops)
marks_refused mesh mark rounds first Memory left is_first stops = tt

-- they end in marks of the last state
pub marks_made : (mesh : Mesh) (mark : MarkWords) (rounds : List Round) (first last : State) (text : List ℕ) → length rounds < 65535 → IsFirst mesh first → IsRun mesh mark.pool rounds first last → IsMarksText mesh mark.rule (length rounds + 1) last text → MarksTo mesh mark rounds (Ok text)
marks_made mesh mark rounds first last text left is_first ran written = (left, first, is_first, ran.0, ran.1, subst (λ (s : State). IsMarksText mesh mark.rule (length rounds + 1) s text) ran.2 written)

-- the names of leaves with values are theirs
pub names-valued : (held : Held) (list : List Name) → names_of (map (λ n. (n, worth_of held n)) list) ≡ list
names-valued held [] = refl
names-valued held (n ∷ ns) = ap (λ ms. n ∷ ms) (names-valued held ns)

-- one more element of a mapped list
pub map_more : {X Y : Type 0} (f : X → Y) (xs : List X) (i : ℕ) (d : X) (ys : List Y) (y : Y) → i < length xs → ys ≡ map f (take i xs) → y ≡ f (get_or xs i d) → ys ++ y ∷ [] ≡ map f (take (i + 1) xs)
map_more f xs i d ys y l e h = (λ j. e j ++ h j ∷ []) ∙ sym (map-append f (take i xs) (get_or xs i d ∷ [])) ∙ ap (map f) (sym (take_more xs i d l))

concat-push : (ts : List (List ℕ)) (t : List ℕ) → concat (ts ++ t ∷ []) ≡ concat ts ++ t
concat-push [] t = append-nil t
concat-push (u ∷ ts) t = ap (λ v. u ++ v) (concat-push ts t) ∙ sym (append_assoc u (concat ts) t)

-- one more line
pub lines_more : {X : Type 0} (f : X → List ℕ) (head : List ℕ) (xs : List X) (i : ℕ) (d : X) (text : List ℕ) → i < length xs → text ≡ head ++ concat (map f (take i xs)) → text ++ f (get_or xs i d) ≡ head ++ concat (map f (take (i + 1) xs))
lines_more f head xs i d text l e =
    let more = map_more f xs i d (map f (take i xs)) (f (get_or xs i d)) l refl refl in
    ap (λ t. t ++ f (get_or xs i d)) e
    ∙ append_assoc head (concat (map f (take i xs))) (f (get_or xs i d))
    ∙ ap (λ t. head ++ t) (sym (concat-push (map f (take i xs)) (f (get_or xs i d))) ∙ ap concat more)
