-- How a row joins the rounds.
use Rattle.std.proofs.Common.{◌≡◌, ◌≢◌, ℕ, zero, suc, ◌+◌, ◌-◌, ◌<◌, ◌≤◌, max, cond, eqb, List, [], ◌∷◌, ◌++◌, length, map, get_or, set, sym, refl, ap, ◌∙◌, arith, append_assoc}
use Rattle.std.specs.List.{filter, fold, range_with_len}
use Rattle.std.proofs.lemmas.Bool.{eq-eqb, ne_eqb}
use Rattle.std.proofs.lemmas.List.{append-nil, length-append, map-append, map-set, length-map}
use Rattle.std.proofs.lemmas.List.Elements.{filter-append}
use Rattle.std.proofs.lemmas.List.FromFn.{get_or-map-range_with_len, length-map-range_with_len}
use Rattle.std.proofs.lemmas.List.Sums.{fold-append}
use Rattle.std.proofs.Math.ListN.{get_or-map}
use Rattle.std.proofs.Math.Seq.{set-append_seam}
use Rattle.mesh_names.specs.declared.rows.RoundMarks.{RoundMarks}
use Rattle.mark_file.specs.Meaning.{Round, mark_row, greatest_round, empty_round, round_at, round_read, rounds_of, rounds_read}
use Rattle.mark_file.specs.declared.row.RoundRow.{RoundRow}

-- one more number at the end of a range
pub range-push : (a n : ℕ) → range_with_len a (suc n) ≡ range_with_len a n ++ ((a + n) ∷ [])
range-push a zero = ap (λ k. k ∷ []) (omega arith)
range-push a (suc n) = ap (λ ks. a ∷ ks) (range-push (a + 1) n ∙ ap (λ k. range_with_len (a + 1) n ++ (k ∷ [])) (omega arith))

range-add : (a n k : ℕ) → range_with_len a (n + k) ≡ range_with_len a n ++ range_with_len (a + n) k
range-add a zero k = (λ i. range_with_len (here i) (same i)) where
  here : a ≡ a + 0
  here = omega arith

  same : 0 + k ≡ k
  same = omega arith
range-add a (suc n) k =
    let step : suc n + k ≡ suc (n + k) = omega arith in
    let next : (a + 1) + n ≡ a + suc n = omega arith in
    ap (range_with_len a) step
    ∙ ap (λ ks. a ∷ ks) (range-add (a + 1) n k)
    ∙ ap (λ b. a ∷ (range_with_len (a + 1) n ++ range_with_len b k)) next

-- equal functions on a range
map-range : {X : Type 0} (f g : ℕ → X) (a n : ℕ) → ((k : ℕ) → a ≤ k → k < a + n → f k ≡ g k) → map f (range_with_len a n) ≡ map g (range_with_len a n)
map-range f g a zero h = refl
map-range f g a (suc n) h = λ i. h a (omega arith) (omega arith) i ∷ map-range f g (a + 1) n (λ k low high. h k (omega arith) (omega arith)) i

-- no row is above the greatest
fold-max-le : (a : ℕ) (xs : List ℕ) → a ≤ fold max a xs
fold-max-le a [] = omega arith
fold-max-le a (x ∷ xs) = let rest : max a x ≤ fold max (max a x) xs = fold-max-le (max a x) xs in omega (arith, rest)

none_past : (rows : List RoundRow) (a k : ℕ) → fold max a (map (λ (r : RoundRow). r.round) rows) < k → filter (λ (r : RoundRow). eqb r.round k) rows ≡ []
none_past [] a k h = refl
none_past (r ∷ rows) a k h =
    let high : max a r.round ≤ fold max (max a r.round) (map (λ (r : RoundRow). r.round) rows) = fold-max-le (max a r.round) (map (λ (r : RoundRow). r.round) rows) in
    let apart : r.round ≢ k = λ e. omega (arith, high, h, e) in
    ap (λ b. cond b (r ∷ filter (λ (r : RoundRow). eqb r.round k) rows) (filter (λ (r : RoundRow). eqb r.round k) rows)) (ne_eqb r.round k apart) ∙ none_past rows (max a r.round) k h

round_at-past : (rows : List RoundRow) (k : ℕ) → greatest_round rows < k → round_at rows k ≡ empty_round k
round_at-past rows k h = ap (λ found. record { number = k; rows = map mark_row found }) (none_past rows 0 k h)

pub greatest_round-push : (rows : List RoundRow) (row : RoundRow) → greatest_round rows ≤ row.round → greatest_round (rows ++ (row ∷ [])) ≡ row.round
greatest_round-push rows row h =
    let step : greatest_round (rows ++ (row ∷ [])) ≡ max (greatest_round rows) row.round =
    ap (fold max 0) (map-append (λ (r : RoundRow). r.round) rows (row ∷ [])) ∙ fold-append max 0 (map (λ (r : RoundRow). r.round) rows) (row.round ∷ []) in
    omega (arith, step, h)

-- the rows of a round after one more row
round_at-other : (rows : List RoundRow) (row : RoundRow) (k : ℕ) → row.round ≢ k → round_at (rows ++ (row ∷ [])) k ≡ round_at rows k
round_at-other rows row k apart =
    ap (λ found. record { number = k; rows = map mark_row found })
    (filter-append (λ (r : RoundRow). eqb r.round k) rows (row ∷ [])
    ∙ ap (λ b. filter (λ (r : RoundRow). eqb r.round k) rows ++ cond b (row ∷ []) []) (ne_eqb row.round k apart)
    ∙ append-nil (filter (λ (r : RoundRow). eqb r.round k) rows))

round_at-own : (rows : List RoundRow) (row : RoundRow) (k : ℕ) → row.round ≡ k → round_at (rows ++ (row ∷ [])) k ≡ record { number = k; rows = (round_at rows k).rows ++ (mark_row row ∷ []) }
round_at-own rows row k same =
    ap (λ marked. record { number = k; rows = marked })
    (ap (map mark_row)
    (filter-append (λ (r : RoundRow). eqb r.round k) rows (row ∷ [])
    ∙ ap (λ b. filter (λ (r : RoundRow). eqb r.round k) rows ++ cond b (row ∷ []) []) (eq-eqb row.round k same))
    ∙ map-append mark_row (filter (λ (r : RoundRow). eqb r.round k) rows) (row ∷ []))

pub length-rounds_of : (rows : List RoundRow) → length (rounds_of rows) ≡ greatest_round rows
length-rounds_of rows = length-map-range_with_len (round_at rows) 1 (greatest_round rows)

pub length-rounds_read : (rounds : List RoundMarks) → length (rounds_read rounds) ≡ length rounds
length-rounds_read rounds = length-map rounds round_read

-- the rounds, and those without rows that were put after them
filled : (rows : List RoundRow) (old : ℕ) (count : ℕ) → old ≡ greatest_round rows → old ≤ count
    → rounds_of rows ++ map empty_round (range_with_len (old + 1) (count - old)) ≡ map (round_at rows) (range_with_len 1 count)
filled rows old count e h =
    let whole : old + (count - old) ≡ count = omega arith in
    let past : map (round_at rows) (range_with_len (1 + old) (count - old)) ≡ map empty_round (range_with_len (1 + old) (count - old)) =
    map-range (round_at rows) empty_round (1 + old) (count - old) (λ k low high. round_at-past rows k (omega (arith, e, low))) in
    let next : old + 1 ≡ 1 + old = omega arith in
    (λ i. map (round_at rows) (range_with_len 1 (sym e i)) ++ map empty_round (range_with_len (next i) (count - old)))
    ∙ ap (λ later. map (round_at rows) (range_with_len 1 old) ++ later) (sym past)
    ∙ sym (map-append (round_at rows) (range_with_len 1 old) (range_with_len (1 + old) (count - old)))
    ∙ ap (map (round_at rows)) (sym (range-add 1 old (count - old)))
    ∙ ap (λ n. map (round_at rows) (range_with_len 1 n)) whole

-- the last of the rounds, and the rounds with another last one
last_round : {X : Type 0} (f : ℕ → X) (n : ℕ) → map f (range_with_len 1 (suc n)) ≡ map f (range_with_len 1 n) ++ (f (1 + n) ∷ [])
last_round f n = ap (map f) (range-push 1 n) ∙ map-append f (range_with_len 1 n) ((1 + n) ∷ [])

last-set : {X : Type 0} (f g : ℕ → X) (n : ℕ) (y : X) → ((k : ℕ) → k < suc n → f k ≡ g k) → y ≡ g (1 + n) → set (map f (range_with_len 1 (suc n))) n y ≡ map g (range_with_len 1 (suc n))
last-set f g n y same own =
    let size : length (map f (range_with_len 1 n)) ≡ n = length-map-range_with_len f 1 n in
    ap (λ xs. set xs n y) (last_round f n)
    ∙ ap (λ m. set (map f (range_with_len 1 n) ++ (f (1 + n) ∷ [])) m y) (sym size)
    ∙ set-append_seam (map f (range_with_len 1 n)) (f (1 + n)) [] y
    ∙ (λ i. map-range f g 1 n (λ k low high. same k (omega (arith, high))) i ++ (own i ∷ []))
    ∙ sym (last_round g n)

-- one more round without rows
pub fill_step : (old cur : List RoundMarks) (marks : RoundMarks) → length old ≤ length cur → round_read marks ≡ empty_round (length cur + 1)
    → rounds_read cur ≡ rounds_read old ++ map empty_round (range_with_len (length old + 1) (length cur - length old))
    → rounds_read (cur ++ (marks ∷ [])) ≡ rounds_read old ++ map empty_round (range_with_len (length old + 1) (length (cur ++ (marks ∷ [])) - length old))
fill_step old cur marks h own inv =
    let gap = length cur - length old in
    let size : length (cur ++ (marks ∷ [])) ≡ length cur + 1 = length-append cur (marks ∷ []) in
    let more : length (cur ++ (marks ∷ [])) - length old ≡ suc (length cur - length old) = omega (arith, size, h) in
    let next : length cur + 1 ≡ (length old + 1) + (length cur - length old) = omega (arith, h) in
    map-append round_read cur (marks ∷ [])
    ∙ (λ i. inv i ++ (own i ∷ []))
    ∙ append_assoc (rounds_read old) (map empty_round (range_with_len (length old + 1) gap)) (empty_round (length cur + 1) ∷ [])
    ∙ ap (λ later. rounds_read old ++ later)
    ((λ i. map empty_round (range_with_len (length old + 1) gap) ++ (empty_round (next i) ∷ []))
    ∙ sym (map-append empty_round (range_with_len (length old + 1) gap) (((length old + 1) + gap) ∷ []))
    ∙ ap (map empty_round) (sym (range-push (length old + 1) gap) ∙ ap (range_with_len (length old + 1)) (sym more)))

-- what a round was when a row was put into it
round_was : (mid : List RoundMarks) (at : RoundMarks) (f : ℕ → Round) (c : ℕ) → rounds_read mid ≡ map f (range_with_len 1 (suc c)) → at ≡ get_or mid c at → round_read at ≡ f (1 + c)
round_was mid at f c e h =
    ap round_read h
    ∙ sym (get_or-map round_read mid c at)
    ∙ ap (λ rounds. get_or rounds c (round_read at)) e
    ∙ get_or-map-range_with_len f 1 (suc c) c (1 + c) (round_read at) (omega arith) refl

-- the rounds that a row finds, of which its own is the last
found_rounds : (old mid : List RoundMarks) (rows : List RoundRow) (count : ℕ) → length old ≤ count → 1 ≤ count → rounds_read old ≡ rounds_of rows
    → rounds_read mid ≡ rounds_read old ++ map empty_round (range_with_len (length old + 1) (count - length old)) → rounds_read mid ≡ map (round_at rows) (range_with_len 1 (suc (count - 1)))
found_rounds old mid rows count low some e fill =
    let size : length old ≡ greatest_round rows = sym (length-rounds_read old) ∙ ap length e ∙ length-rounds_of rows in
    let whole : count ≡ suc (count - 1) = omega (arith, some) in
    fill
    ∙ ap (λ rounds. rounds ++ map empty_round (range_with_len (length old + 1) (count - length old))) e
    ∙ filled rows (length old) count size low
    ∙ ap (λ n. map (round_at rows) (range_with_len 1 n)) whole

-- its own round with the row
own_round : (at put : RoundMarks) (rows : List RoundRow) (row : RoundRow) (k : ℕ) → row.round ≡ k → round_read at ≡ round_at rows k → put.number ≡ at.number → put.rows.items ≡ at.rows.items ++ (mark_row row ∷ [])
    → round_read put ≡ round_at (rows ++ (row ∷ [])) k
own_round at put rows row k last was same_number more =
    (λ i. record { number = same_number i; rows = more i })
    ∙ ap (λ (round : Round). record { number = round.number; rows = round.rows ++ (mark_row row ∷ []) }) was
    ∙ sym (round_at-own rows row k last)

all_rounds : (rows : List RoundRow) (row : RoundRow) (c : ℕ) → greatest_round rows ≤ row.round → suc c ≡ row.round → map (round_at (rows ++ (row ∷ []))) (range_with_len 1 (suc c)) ≡ rounds_of (rows ++ (row ∷ []))
all_rounds rows row c low e = ap (λ n. map (round_at (rows ++ (row ∷ []))) (range_with_len 1 n)) (e ∙ sym (greatest_round-push rows row low))

-- a row that was put into the last round joins the rounds of all rows
pub row_joins : (old mid : List RoundMarks) (at put : RoundMarks) (rows : List RoundRow) (row : RoundRow)
    → rounds_read mid ≡ rounds_read old ++ map empty_round (range_with_len (length old + 1) (row.round - length old)) → length old ≤ row.round → 1 ≤ row.round
    → at ≡ get_or mid (row.round - 1) at → put.number ≡ at.number → put.rows.items ≡ at.rows.items ++ (mark_row row ∷ [])
    → rounds_read old ≡ rounds_of rows → rounds_read (set mid (row.round - 1) put) ≡ rounds_of (rows ++ (row ∷ []))
row_joins old mid at put rows row fill low some was same_number more e =
    let found = found_rounds old mid rows row.round low some e fill in
    let size : length old ≡ greatest_round rows = sym (length-rounds_read old) ∙ ap length e ∙ length-rounds_of rows in
    let own = own_round at put rows row (1 + (row.round - 1)) (omega (arith, some)) (round_was mid at (round_at rows) (row.round - 1) found was) same_number more in
    let others : (k : ℕ) → k < suc (row.round - 1) → round_at rows k ≡ round_at (rows ++ (row ∷ [])) k = λ k h. sym (round_at-other rows row k (λ same. omega (arith, same, h, some))) in
    map-set round_read mid (row.round - 1) put
    ∙ ap (λ rounds. set rounds (row.round - 1) (round_read put)) found
    ∙ last-set (round_at rows) (round_at (rows ++ (row ∷ []))) (row.round - 1) (round_read put) others own
    ∙ all_rounds rows row (row.round - 1) (omega (arith, size, low)) (omega (arith, some))

-- how many rounds there are then
pub length-filled : (old mid : List RoundMarks) (count : ℕ) → length old ≤ count → rounds_read mid ≡ rounds_read old ++ map empty_round (range_with_len (length old + 1) (count - length old)) → length mid ≡ count
length-filled old mid count low fill =
    let size : length (rounds_read mid) ≡ length (rounds_read old) + length (map empty_round (range_with_len (length old + 1) (count - length old))) =
    ap length fill ∙ length-append (rounds_read old) (map empty_round (range_with_len (length old + 1) (count - length old))) in
    let added : length (map empty_round (range_with_len (length old + 1) (count - length old))) ≡ count - length old = length-map-range_with_len empty_round (length old + 1) (count - length old) in
    omega (arith, size, added, low, length-rounds_read old, length-rounds_read mid)
