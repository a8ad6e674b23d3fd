-- Effective marks, row by row.
use Rattle.std.proofs.Common.{◌≡◌, ℕ, suc, ◌+◌, ◌<◌, ℤ, pos, cond, Bool, true, false, refl, sym, ap, ◌∙◌, List, [], ◌∷◌, ◌++◌, take, length, arith, slice_index_or, take-suc}
use Rattle.std.specs.Prelude.{Option, Some, None, unwrap_or}
use Rattle.mesh_names.specs.Names.{Name}
use Rattle.mesh_names.specs.Marks.{marks_leaf, later, last_mark, effective_mark}
use Rattle.mesh_names.specs.declared.rows.MarkRow.{MarkRow}

later-later : (a b c : Option ℤ) → later (later a b) c ≡ later a (later b c)
later-later a b None = refl
later-later a b (Some z) = refl

last_mark-push : (rows : List MarkRow) (row : MarkRow) (n : Name) → last_mark (rows ++ row ∷ []) n ≡ later (last_mark rows n) (cond (marks_leaf row n) (Some row.number) None)
last_mark-push [] row n = by (cond (marks_leaf row n) (Some row.number) None)
  where
    by : (o : Option ℤ) → later o None ≡ later None o
    by None = refl
    by (Some z) = refl
last_mark-push (r ∷ rows) row n =
    let c = cond (marks_leaf r n) (Some r.number) None in
    ap (later c) (last_mark-push rows row n) ∙ sym (later-later c (last_mark rows n) (cond (marks_leaf row n) (Some row.number) None))

overruled : (o : Option ℤ) (b : Bool) (z : ℤ) → unwrap_or (later o (cond b (Some z) None)) (pos 0) ≡ cond b z (unwrap_or o (pos 0))
overruled o true z = refl
overruled o false z = refl

effective_mark-push : (rows : List MarkRow) (row : MarkRow) (n : Name) → effective_mark (rows ++ row ∷ []) n ≡ cond (marks_leaf row n) row.number (effective_mark rows n)
effective_mark-push rows row n = ap (λ (o : Option ℤ). unwrap_or o (pos 0)) (last_mark-push rows row n) ∙ overruled (last_mark rows n) (marks_leaf row n) row.number

pub next_mark : (rows : List MarkRow) (i : ℕ) (row d : MarkRow) (n : Name) (old new : ℤ) → i < length rows → row ≡ slice_index_or rows i d → old ≡ effective_mark (take i rows) n → new ≡ cond (marks_leaf row n) row.number old → new ≡ effective_mark (take (i + 1) rows) n
next_mark rows i row d n old new low at was step =
    step
    ∙ ap (λ (z : ℤ). cond (marks_leaf row n) row.number z) was
    ∙ sym (effective_mark-push (take i rows) row n)
    ∙ ap (λ (l : List MarkRow). effective_mark l n) (sym next)
  where
    same : i + 1 ≡ suc i
    same = omega arith

    next : take (i + 1) rows ≡ take i rows ++ row ∷ []
    next = (λ j. take (same j) rows) ∙ take-suc rows i d low ∙ (λ j. take i rows ++ sym at j ∷ [])
