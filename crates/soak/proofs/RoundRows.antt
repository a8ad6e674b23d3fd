-- The rows of a round, leaf by leaf.
use Rattle.std.proofs.Common.{◌≡◌, ℕ, ◌+◌, ◌<◌, List, [], ◌∷◌, ◌++◌, take, length, slice_index_or, append_assoc, append-nil, refl, sym, ap, subst, ◌∙◌}
use Rattle.std.proofs.lemmas.List.{take_more}
use Rattle.mesh_names.specs.Names.{Name}
use Rattle.mesh_names.specs.declared.rows.MarkRow.{MarkRow}
use Rattle.soak.specs.Draws.{next_state, drawn, mark_at}
use Rattle.soak.specs.Rows.{Drawing, Marked, marked, marks_for, state_after, next_row, row_of, rows_of, row_after, rows_for, after}

-- what the next leaf is marked, where the run is at d
abbrev pub next_marked : (Name → ℕ) → Drawing → Name → List Marked
next_marked level d n = marked n (mark_at (level n) (drawn (next_state d.state)))

-- the leaves so far have these rows, and lead here
abbrev pub SoFar : (Name → ℕ) → Drawing → List Name → List MarkRow → Drawing → Type 0
SoFar level start leaves rows d = (rows ≡ rows_for level start leaves) × (d ≡ after level start leaves)

marks_more : (level : Name → ℕ) (x : ℕ) (ns : List Name) (n : Name) → marks_for level x (ns ++ n ∷ []) ≡ marks_for level x ns ++ marked n (mark_at (level n) (drawn (next_state (state_after x ns))))
marks_more level x [] n = append-nil (marked n (mark_at (level n) (drawn (next_state x))))
marks_more level x (m ∷ ns) n =
    let first = marked m (mark_at (level m) (drawn (next_state x))) in
    ap (λ (l : List Marked). first ++ l) (marks_more level (next_state x) ns n)
    ∙ sym (append_assoc first (marks_for level (next_state x) ns) (marked n (mark_at (level n) (drawn (next_state (state_after (next_state x) ns))))))

state_more : (x : ℕ) (ns : List Name) (n : Name) → state_after x (ns ++ n ∷ []) ≡ next_state (state_after x ns)
state_more x [] n = refl
state_more x (m ∷ ns) n = state_more (next_state x) ns n

rows_more : (row : ℕ) (ms ks : List Marked) → rows_of row (ms ++ ks) ≡ rows_of row ms ++ rows_of (row_after row ms) ks
rows_more row [] ks = refl
rows_more row (m ∷ ms) ks = ap (λ (l : List MarkRow). row_of (next_row row) m ∷ l) (rows_more (next_row row) ms ks)

row_more : (row : ℕ) (ms ks : List Marked) → row_after row (ms ++ ks) ≡ row_after (row_after row ms) ks
row_more row [] ks = refl
row_more row (m ∷ ms) ks = row_more (next_row row) ms ks

pub none_so_far : (level : Name → ℕ) (start : Drawing) → SoFar level start [] [] start
none_so_far level start = (refl, refl)

one_more : (level : Name → ℕ) (start : Drawing) (ns : List Name) (n : Name) (old new : List MarkRow) (d e : Drawing) → SoFar level start ns old d → new ≡ old ++ rows_of d.row (next_marked level d n) → e ≡ record { state = next_state d.state; row = row_after d.row (next_marked level d n) } → SoFar level start (ns ++ n ∷ []) new e
one_more level start ns n old new d e was rows goes =
    let marks = marks_for level start.state ns in
    let there = after level start ns in
    let marks_are = marks_more level start.state ns n in (
      rows ∙ (λ i. was.0 i ++ rows_of (was.1 i).row (next_marked level (was.1 i) n)) ∙ sym (rows_more start.row marks (next_marked level there n)) ∙ ap (rows_of start.row) (sym marks_are),
      goes
          ∙ ap (λ (f : Drawing). record { state = next_state f.state; row = row_after f.row (next_marked level f n) }) was.1
          ∙ sym (λ i. record { state = state_more start.state ns n i; row = (ap (row_after start.row) marks_are ∙ row_more start.row marks (next_marked level there n)) i }),
    )

pub next_leaf : (level : Name → ℕ) (start : Drawing) (leaves : List Name) (i : ℕ) (n x : Name) (old new : List MarkRow) (d e : Drawing) → i < length leaves → n ≡ slice_index_or leaves i x → SoFar level start (take i leaves) old d → new ≡ old ++ rows_of d.row (next_marked level d n) → e ≡ record { state = next_state d.state; row = row_after d.row (next_marked level d n) } → SoFar level start (take (i + 1) leaves) new e
next_leaf level start leaves i n x old new d e low at was rows goes =
    let next : take (i + 1) leaves ≡ take i leaves ++ n ∷ [] = take_more leaves i x low ∙ (λ j. take i leaves ++ sym at j ∷ []) in
    subst (λ ns. SoFar level start ns new e) (sym next) (one_more level start (take i leaves) n old new d e was rows goes)
