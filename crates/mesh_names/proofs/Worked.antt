-- The worked rounds on two squares.
use Rattle.std.proofs.Common.{◌≡◌, true, refl, sym, subst, List, [], ◌∷◌, ◌++◌, ⊎_elim}
use Rattle.std.specs.FinSet.{from_list}
use Rattle.std.specs.List.{list_all}
use Rattle.mesh_names.specs.Names.{Name}
use Rattle.mesh_names.specs.Triangles.{Shape}
use Rattle.mesh_names.specs.Partners.{Across, Tells}
use Rattle.mesh_names.specs.Validity.{across_of}
use Rattle.mesh_names.specs.Forests.{Names, Has}
use Rattle.mesh_names.specs.LeastForest.{Work, names_below, needs_of}
use Rattle.mesh_names.specs.Marks.{AreNeeds, work_of}
use Rattle.mesh_names.specs.Squares.{square, turned_square}
use Rattle.mesh_names.specs.Examples.{element, Refines, both, twice, second, over_child, SquareRefined, SquareMarkedTwice, SquareSecondRound, TurnedSquareRefined}
use Rattle.mesh_names.specs.declared.rows.MarkRow.{MarkRow}
use Rattle.mesh_names.proofs.Sets.{In, has-in, in-has, in-append, in-first, in-second, union-either, union-left, union-right, within-both}
use Rattle.mesh_names.proofs.Marking.{marks_give_needs}
use Rattle.mesh_names.proofs.Squares.{squares_fit}
use Rattle.mesh_names.proofs.Deciding.{has, is_closed, is_forced, is_leaf_list, forest_of, gives_least, gives_leaves}

-- the needed names of the work, leaf by leaf
abbrev listed_needs : Work → List Name
listed_needs [] = []
listed_needs (a ∷ work) = names_below a.1 a.0.0 a.0.1 ++ listed_needs work

needs-listed : (work : Work) → needs_of work ≡ from_list (listed_needs work)
needs-listed [] = refl
needs-listed (a ∷ work) =
    let first = names_below a.1 a.0.0 a.0.1 in
    within-both (needs_of (a ∷ work)) (from_list (first ++ listed_needs work))
    (λ n h. ⊎_elim (λ (i : Has (from_list first) n). in-has n (first ++ listed_needs work) (in-first n first (listed_needs work) (has-in n first i)))
    (λ (j : Has (needs_of work) n). in-has n (first ++ listed_needs work) (in-second n first (listed_needs work) (has-in n (listed_needs work) (subst (λ (s : Names). Has s n) (needs-listed work) j))))
    (union-either (from_list first) (needs_of work) n h))
    (λ n h. ⊎_elim (λ (i : In n first). union-left (from_list first) (needs_of work) n (in-has n first i))
    (λ (j : In n (listed_needs work)). union-right (from_list first) (needs_of work) n (subst (λ (s : Names). Has s n) (sym (needs-listed work)) (in-has n (listed_needs work) j)))
    (in-append n first (listed_needs work) (has-in n (first ++ listed_needs work) h)))

-- a round by computing: the leaves of the old forest, and what the rows need of them
refines : (mesh : Shape) (x : Across) → Tells mesh x → (old : List Name) (rows : List MarkRow) (list needed new : List Name) →
    is_closed mesh x old ≡ true → is_leaf_list mesh old list ≡ true → listed_needs (work_of rows list) ≡ needed →
    is_closed mesh x new ≡ true → is_forced x (old ++ needed) [] new ≡ true → list_all (has new) (old ++ needed) ≡ true → Refines mesh old rows needed new
refines mesh x tells old rows list needed new old_closed are needs closed forced held =
    let forest = forest_of mesh x old old_closed in
    record {
      are_needs = subst (λ (l : List Name). AreNeeds mesh (from_list old) rows (from_list l)) needs (subst (λ (s : Names). AreNeeds mesh (from_list old) rows s) (needs-listed (work_of rows list)) (marks_give_needs mesh (from_list old) rows list forest (gives_leaves mesh old list forest are)));
      least = gives_least mesh x tells old needed new closed forced held;
    }

abbrev tops_of_two : List Name
tops_of_two = element 0 [] ∷ element 1 [] ∷ []

square_tells : Tells square (across_of square)
square_tells = squares_fit.0.2

turned_tells : Tells turned_square (across_of turned_square)
turned_tells = squares_fit.1.2

pub square_refined : SquareRefined
unfolding names_below
square_refined = (
  refines square (across_of square) square_tells [] _ tops_of_two _ both refl refl refl refl refl refl,
  record { are_leaves = gives_leaves square both _ (forest_of square (across_of square) both refl) refl; shown = refl },
)

pub square_marked_twice : SquareMarkedTwice
unfolding names_below
square_marked_twice = (
  refines square (across_of square) square_tells [] _ tops_of_two _ twice refl refl refl refl refl refl,
  record { are_leaves = gives_leaves square twice _ (forest_of square (across_of square) twice refl) refl; shown = refl },
)

abbrev leaves_of_both : List Name
leaves_of_both = element 0 (0 ∷ []) ∷ element 0 (1 ∷ []) ∷ element 1 (0 ∷ []) ∷ element 1 (1 ∷ []) ∷ []

pub square_second_round : SquareSecondRound
unfolding names_below
square_second_round = (
  refines square (across_of square) square_tells both _ leaves_of_both _ second refl refl refl refl refl refl,
  gives_leaves square second _ (forest_of square (across_of square) second refl) refl,
)

pub turned_square_refined : TurnedSquareRefined
unfolding names_below
turned_square_refined = (
  refines turned_square (across_of turned_square) turned_tells [] _ tops_of_two _ over_child refl refl refl refl refl refl,
  record { are_leaves = gives_leaves turned_square over_child _ (forest_of turned_square (across_of turned_square) over_child refl) refl; shown = refl },
)
