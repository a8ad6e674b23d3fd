-- What is true of each row that is drawn.
use Rattle.std.proofs.Common.{◌≡◌, ℕ, ◌+◌, ◌<◌, ◌≤◌, ℤ, pos, neg_ℤ, nat_abs, false, cond, ◌&&◌, List, [], ◌∷◌, All, Option, Some, None, refl, sym, ◌∙◌, ⊎_elim, arith}
use Rattle.std.specs.Prelude.{ltb, IfSome}
use Rattle.std.specs.List.{Contains}
use Rattle.std.proofs.lemmas.Bool.{cond_both, lt-ltb, cases_lt, true≢false}
use Rattle.std.proofs.lemmas.List.Elements.{All-nil, All-cons, All-append, All-head, All-tail, All-contains_itself}
use Rattle.mesh_names.specs.Names.{Name}
use Rattle.mesh_names.specs.Marks.{IsWellFormed, bisections}
use Rattle.mesh_names.specs.declared.rows.MarkRow.{MarkRow}
use Rattle.soak.specs.Draws.{next_state, drawn, mark_for, too_deep, unless_too_deep, mark_at}
use Rattle.soak.specs.Rows.{Drawing, Marked, marked, marks_for, next_row, row_of, rows_of, rows_for, IsDrawn}

-- a mark of a leaf of this level is small, and leads to no level above 24
abbrev IsGood : ℕ → ℤ → Type 0
IsGood level mark = (nat_abs mark ≤ 24) × (0 < bisections mark → level + bisections mark ≤ 24)

small : (u : ℕ) → IfSome (mark_for u) (λ mark. nat_abs mark ≤ 24)
small u =
    cond_both (ltb u 2) (Some (pos 1)) (cond (ltb u 3) (Some (pos 2)) (cond (ltb u 6) (Some (neg_ℤ (pos 1))) None)) (λ o. IfSome o (λ mark. nat_abs mark ≤ 24)) (λ _. omega arith)
    (λ _. cond_both (ltb u 3) (Some (pos 2)) (cond (ltb u 6) (Some (neg_ℤ (pos 1))) None) (λ o. IfSome o (λ mark. nat_abs mark ≤ 24)) (λ _. omega arith)
    (λ _. cond_both (ltb u 6) (Some (neg_ℤ (pos 1))) None (λ o. IfSome o (λ mark. nat_abs mark ≤ 24)) (λ _. omega arith) (λ _. tt)))

within : (level : ℕ) (mark : ℤ) → too_deep level mark ≡ false → 0 < bisections mark → level + bisections mark ≤ 24
within level mark fine above =
    ⊎_elim (λ (deep : 24 < level + bisections mark). absurd (true≢false (sym (λ i. lt-ltb 0 (bisections mark) above i && lt-ltb 24 (level + bisections mark) deep i) ∙ fine))) (λ (h : level + bisections mark ≤ 24). h) (cases_lt 24 (level + bisections mark))

good : (level : ℕ) (o : Option ℤ) → IfSome o (λ mark. nat_abs mark ≤ 24) → IfSome (unless_too_deep level o) (IsGood level)
good level None h = tt
good level (Some mark) h = cond_both (too_deep level mark) None (Some mark) (λ o. IfSome o (IsGood level)) (λ _. tt) (λ fine. (h, within level mark fine))

-- the leaf is one of these, and its mark is good
abbrev IsMarked : (Name → ℕ) → List Name → Marked → Type 0
IsMarked level all m = Contains all m.0 × IsGood (level m.0) m.1

one_marked : (level : Name → ℕ) (all : List Name) (n : Name) (o : Option ℤ) → Contains all n → IfSome o (IsGood (level n)) → All (IsMarked level all) (marked n o)
one_marked level all n None listed h = All-nil (IsMarked level all)
one_marked level all n (Some mark) listed h = All-cons (IsMarked level all) (n, mark) [] (listed, h) (All-nil (IsMarked level all))

all_marked : (level : Name → ℕ) (all : List Name) (x : ℕ) (ns : List Name) → All (Contains all) ns → All (IsMarked level all) (marks_for level x ns)
all_marked level all x [] listed = All-nil (IsMarked level all)
all_marked level all x (n ∷ ns) listed =
    let u = drawn (next_state x) in
    All-append (IsMarked level all) (marked n (mark_at (level n) u)) (marks_for level (next_state x) ns)
    (one_marked level all n (mark_at (level n) u) (All-head (Contains all) n ns listed) (good (level n) (mark_for u) (small u)))
    (all_marked level all (next_state x) ns (All-tail (Contains all) n ns listed))

rows_from : (P : MarkRow → Type 0) (Q : Marked → Type 0) → ((row : ℕ) (m : Marked) → Q m → P (row_of row m)) → (row : ℕ) (ms : List Marked) → All Q ms → All P (rows_of row ms)
rows_from P Q f row [] h = All-nil P
rows_from P Q f row (m ∷ ms) h = All-cons P (row_of (next_row row) m) (rows_of (next_row row) ms) (f (next_row row) m (All-head Q m ms h)) (rows_from P Q f (next_row row) ms (All-tail Q m ms h))

pub all_formed : (level : Name → ℕ) (start : Drawing) (leaves : List Name) → All IsWellFormed (rows_for level start leaves)
all_formed level start leaves =
    rows_from IsWellFormed (IsMarked level leaves) (λ row m h. record { place = tt; small = h.1.0 }) start.row (marks_for level start.state leaves)
    (all_marked level leaves start.state leaves (All-contains_itself leaves))

pub all_drawn : (level : Name → ℕ) (start : Drawing) (leaves : List Name) → All (IsDrawn level leaves) (rows_for level start leaves)
all_drawn level start leaves =
    rows_from (IsDrawn level leaves) (IsMarked level leaves) (λ row m h. record { leaf = m.0; listed = h.0; what = refl; place = refl; within = h.1.1 }) start.row (marks_for level start.state leaves)
    (all_marked level leaves start.state leaves (All-contains_itself leaves))
