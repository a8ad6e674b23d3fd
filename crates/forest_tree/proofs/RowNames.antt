-- The elements that mark rows name, and the mark of all others, row by row.
use Rattle.std.proofs.Common.{◌≡◌, ℕ, suc, ◌+◌, ◌<◌, ℤ, pos, Bool, true, false, cond, ◌&&◌, refl, sym, ap, ◌∙◌, subst, List, [], ◌∷◌, ◌++◌, take, length, slice_index_or, inl, ⊎_elim, append_assoc, append-nil, arith}
use Rattle.std.specs.Prelude.{All, IfSome, Option, Some, None, option_to_list}
use Rattle.std.specs.FinSet.{contains, from_list}
use Rattle.mesh_names.specs.Names.{Name, name_cmp, name_eq}
use Rattle.mesh_names.specs.Triangles.{Shape}
use Rattle.mesh_names.specs.Forests.{Names, Has, IsLeaf}
use Rattle.mesh_names.specs.Marks.{is_mark, names_leaf, marks_leaf, effective_mark}
use Rattle.mesh_names.specs.declared.rows.MarkRow.{MarkRow}
use Rattle.mesh_names.specs.declared.rows.What.{What}
use Rattle.mesh_names.specs.declared.rows.Place.{Place}
use Rattle.mesh_names.specs.declared.rows.Place.TheVariants.{EveryLeaf, Elem, Corner}
use Rattle.mesh_names.proofs.Booleans.{not_true}
use Rattle.mesh_names.proofs.Sets.{In, both_sides, has-in, in-has, in-append, in-first, in-second, tied-same}
use Rattle.forest_plain.specs.Needed.{AreMarked}
use Rattle.forest_plain.specs.Rounds.{IsFine, NamesLeaf, named}
use Rattle.forest_plain.proofs.MarkRows.{next_mark}
use Rattle.forest_plain.proofs.RowOrder.{next-take}
use Rattle.forest_tree.specs.Marked.{element_at, is_every, marked_name, marked_names, marks_every}

names-push : (rows : List MarkRow) (row : MarkRow) → marked_names (rows ++ row ∷ []) ≡ marked_names rows ++ option_to_list (marked_name row)
names-push [] row = append-nil (option_to_list (marked_name row))
names-push (r ∷ rows) row = ap (λ (l : List Name). option_to_list (marked_name r) ++ l) (names-push rows row) ∙ sym (append_assoc (option_to_list (marked_name r)) (marked_names rows) (option_to_list (marked_name row)))

module _ (rows : List MarkRow) (i : ℕ) (row d : MarkRow) (low : i < length rows) (at : row ≡ slice_index_or rows i d) where
  one-more : marked_names (take (i + 1) rows) ≡ marked_names (take i rows) ++ option_to_list (marked_name row)
  one-more = ap marked_names (next-take rows i row d low at) ∙ names-push (take i rows) row

  pub named-next : (old new : List Name) → old ≡ marked_names (take i rows) → new ≡ old ++ option_to_list (marked_name row) → new ≡ marked_names (take (i + 1) rows)
  named-next old new was step = step ∙ ap (λ (l : List Name). l ++ option_to_list (marked_name row)) was ∙ sym one-more

  abbrev Unnamed : ℕ → Name → Type 0
  Unnamed k n = contains {R = name_cmp} (from_list (marked_names (take k rows))) n ≡ false

  pub others-next : (old new : ℤ) → ((n : Name) → Unnamed i n → effective_mark (take i rows) n ≡ old) → new ≡ cond (marks_every row) row.number old → (n : Name) → Unnamed (i + 1) n → effective_mark (take (i + 1) rows) n ≡ new
  others-next old new was step n out = sym (next_mark rows i row d n (effective_mark (take i rows) n) new low at refl (step ∙ by row.what row.place refl refl))
    where
      absent : In n (marked_names (take i rows) ++ option_to_list (marked_name row)) → ⊥
      absent h = both_sides (contains {R = name_cmp} (from_list (marked_names (take (i + 1) rows))) n) (in-has n (marked_names (take (i + 1) rows)) (subst (λ (l : List Name). In n l) (sym one-more) h)) out

      before : Unnamed i n
      before = not_true (contains {R = name_cmp} (from_list (marked_names (take i rows))) n) (λ e. absent (in-first n (marked_names (take i rows)) (option_to_list (marked_name row)) (has-in n (marked_names (take i rows)) e)))

      other : (m : Name) → marked_name row ≡ Some m → name_eq m n ≡ false
      other m e = not_true (name_eq m n) (λ t. absent (in-second n (marked_names (take i rows)) (option_to_list (marked_name row)) (subst (λ (o : Option Name). In n (option_to_list o)) (sym e) (inl (sym (tied-same m n t))))))

      by : (b : What) (p : Place) → row.what ≡ b → row.place ≡ p → cond (marks_every row) row.number old ≡ cond (marks_leaf row n) row.number (effective_mark (take i rows) n)
      by b p e f = (λ j. cond (is_mark (e j) && is_every (f j)) row.number old) ∙ at_place (is_mark b) refl p f ∙ (λ j. cond (is_mark (sym e j) && names_leaf (sym f j) n) row.number (effective_mark (take i rows) n))
        where
          at_place : (k : Bool) → is_mark b ≡ k → (p : Place) → row.place ≡ p → cond (is_mark b && is_every p) row.number old ≡ cond (is_mark b && names_leaf p n) row.number (effective_mark (take i rows) n)
          at_place false g p f = (λ j. cond (g j && is_every p) row.number old) ∙ sym (was n before) ∙ (λ j. cond (sym g j && names_leaf p n) row.number (effective_mark (take i rows) n))
          at_place true g EveryLeaf f = (λ j. cond (g j && true) row.number old) ∙ (λ j. cond (sym g j && true) row.number (effective_mark (take i rows) n))
          at_place true g (Corner m c) f = (λ j. cond (g j && false) row.number old) ∙ sym (was n before) ∙ (λ j. cond (sym g j && false) row.number (effective_mark (take i rows) n))
          at_place true g (Elem m) f =
              let told : marked_name row ≡ Some m = (λ k. cond (is_mark (e k)) (element_at (f k)) None) ∙ (λ k. cond (g k) (Some m) None) in
              (λ j. cond (g j && false) row.number old)
              ∙ sym (was n before)
              ∙ (λ j. cond (sym g j && sym (other m told) j) row.number (effective_mark (take i rows) n))

-- ---- the named elements are leaves
named_leaf : (mesh : Shape) (old : Names) (row : MarkRow) (n : Name) → NamesLeaf mesh old row → In n (option_to_list (marked_name row)) → IsLeaf mesh old n
named_leaf mesh old row n leaf h = by (is_mark row.what) row.place refl h
  where
    by : (b : Bool) (p : Place) → row.place ≡ p → In n (option_to_list (cond b (element_at row.place) None)) → IsLeaf mesh old n
    by false p e i = absurd i
    by true p e i = at_place p e (subst (λ (q : Place). In n (option_to_list (element_at q))) e i)
      where
        at_place : (p : Place) → row.place ≡ p → In n (option_to_list (element_at p)) → IsLeaf mesh old n
        at_place EveryLeaf e i = absurd i
        at_place (Corner m c) e i = absurd i
        at_place (Elem m) e i = ⊎_elim
            (λ (s : n ≡ m). subst (λ (y : Name). IsLeaf mesh old y) (sym s) (told e))
            (λ (f : ⊥). absurd f)
            i
          where
            told : row.place ≡ Elem m → IsLeaf mesh old m
            told e = subst (λ (q : Place). IfSome (named q) (λ y. IsLeaf mesh old y)) e leaf

all_named : (mesh : Shape) (old : Names) (rows : List MarkRow) → All (IsFine mesh old) rows → (n : Name) → In n (marked_names rows) → IsLeaf mesh old n
all_named mesh old [] fine n h = absurd h
all_named mesh old (row ∷ rows) fine n h = ⊎_elim
    (λ i. named_leaf mesh old row n (fine 0 row (omega arith)).leaf_named i)
    (λ i. all_named mesh old rows (λ k d l. fine (suc k) d (omega (arith, l))) n i)
    (in-append n (option_to_list (marked_name row)) (marked_names rows) h)

pub marked_few : (mesh : Shape) (old : Names) (rows : List MarkRow) (list : List Name) → All (IsFine mesh old) rows → from_list {R = name_cmp} list ≡ from_list (marked_names rows) →
    ((n : Name) → contains {R = name_cmp} (from_list (marked_names rows)) n ≡ false → effective_mark rows n ≡ pos 0) → AreMarked mesh old rows list
marked_few mesh old rows list fine same told = record {
  leaves = λ n h. all_named mesh old rows fine n (has-in n (marked_names rows) (subst (λ (s : Names). Has s n) same h));
  others = λ n l out. told n (ap (λ (s : Names). contains s n) (sym same) ∙ out);
}

-- the mark of all others, where it is 0 unless they are marked
pub record OthersMarked (rows : List MarkRow) (marked : Bool) : Type 0 where
  pub mark : ℤ
  pub others : (n : Name) → contains {R = name_cmp} (from_list (marked_names rows)) n ≡ false → effective_mark rows n ≡ mark
  pub zero_mark : marked ≡ false → mark ≡ pos 0

pub none-marked : OthersMarked [] false
none-marked = record { mark = pos 0; others = λ n out. refl; zero_mark = λ e. refl }

pub marked-next : (rows : List MarkRow) (i : ℕ) (row d : MarkRow) (old new : Bool) → i < length rows → row ≡ slice_index_or rows i d → OthersMarked (take i rows) old → (marks_every row ≡ true → new ≡ false → row.number ≡ pos 0) → (marks_every row ≡ false → new ≡ old) → OthersMarked (take (i + 1) rows) new
marked-next rows i row d old new low at was every other = record {
  mark = cond (marks_every row) row.number was.mark;
  others = others-next rows i row d low at was.mark (cond (marks_every row) row.number was.mark) was.others refl;
  zero_mark = λ e. by (marks_every row) refl e;
}
  where
    by : (b : Bool) → marks_every row ≡ b → new ≡ false → cond b row.number was.mark ≡ pos 0
    by true f e = every f e
    by false f e = was.zero_mark (sym (other f) ∙ e)
