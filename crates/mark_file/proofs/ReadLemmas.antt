-- What the rows so far mean for the whole file.
use Rattle.std.proofs.Common.{◌≡◌, ◌≢◌, ℕ, zero, suc, ◌+◌, ◌≤◌, true, false, cond, eqb, List, [], ◌∷◌, ◌++◌, length, map, get_or, Some, Result, Ok, Err, sym, refl, ap, ◌∙◌, subst, arith, append_assoc}
use Rattle.std.specs.List.{All, filter, range_with_len}
use Rattle.std.specs.Prelude.{slice_get, codes, unwrap_or}
use Rattle.std.specs.Result.{result_map_both}
use Rattle.std.proofs.lemmas.List.{append-nil}
use Rattle.std.proofs.lemmas.List.Elements.{All-append, All-filter, All-map}
use Rattle.mesh_names.specs.Marks.{IsWellFormed}
use Rattle.std.proofs.lemmas.Slice.Eq.{bytes_eq-Decides}
use Rattle.csv.specs.Reading.{default_config, records, strip_bom}
use Rattle.mark_file.specs.Fields.{round_in}
use Rattle.mark_file.proofs.FieldLemmas.{both}
use Rattle.mark_file.specs.Rows.{Record, field_of, is_header, round_of, row_meaning}
use Rattle.mark_file.specs.Meaning.{AreMarks, GivesRounds, IsRefused, Round, TakesRow, marks_meaning, rows_meaning, accepted, all_or_first, each_row, greatest_round, mark_row, round_at, rounds_of}
use Rattle.mark_file.specs.declared.row.RoundRow.{RoundRow}
use Rattle.mark_file.specs.declared.refusal.MarkRefusal.{MarkRefusal}
use Rattle.mark_file.specs.declared.refusal.MarkRefusal.TheVariants.{BadHeader, Memory}
use Rattle.mark_file.proofs.AcceptedLemmas.{row_meaning-accepts}
use Rattle.mark_file.proofs.RoundLemmas.{greatest_round-push, length-rounds_of}

-- rows before others
pub joined : List RoundRow → Result (List RoundRow) MarkRefusal → Result (List RoundRow) MarkRefusal
joined rows rest = result_map_both (λ others. rows ++ others) (λ e. e) rest

-- the rows up to this number are accepted, and the last of them is `last`
pub record SoFar (first : Record) (all : List Record) (number : ℕ) (last : Record) (left : List Record) (rounds : List Round) : Type 0 where
  pub rows : List RoundRow
  pub meaning : accepted first all ≡ joined rows (all_or_first (each_row (number + 1) last left))
  pub rounds_are : rounds ≡ rounds_of rows
  pub before : round_of last ≡ greatest_round rows
  pub few : greatest_round rows ≤ 65535
  pub formed : All (λ (row : RoundRow). IsWellFormed (mark_row row)) rows

joined-nil : (r : Result (List RoundRow) MarkRefusal) → r ≡ joined [] r
unfolding joined
joined-nil (Ok rows) = refl
joined-nil (Err e) = refl

joined-cons : (rows : List RoundRow) (row : RoundRow) (r : Result (List RoundRow) MarkRefusal) → joined rows (result_map_both (λ others. row ∷ others) (λ e. e) r) ≡ joined (rows ++ (row ∷ [])) r
unfolding joined
joined-cons rows row (Ok others) = ap Ok (sym (append_assoc rows (row ∷ []) others))
joined-cons rows row (Err e) = refl

-- before the first row
pub none_yet : (first : Record) (all : List Record) → round_of first ≡ 0 → SoFar first all 1 first all []
none_yet first all e = record {
  rows = [];
  meaning = joined-nil (accepted first all);
  rounds_are = refl;
  before = e;
  few = omega arith;
  formed = λ k d h. absurd (omega arith);
}

after : (number : ℕ) (last r : Record) (left rest : List Record) (row : RoundRow) → left ≡ r ∷ rest → row_meaning (number + 1) (round_of last) r ≡ Ok row
    → all_or_first (each_row (number + 1) last left) ≡ result_map_both (λ others. row ∷ others) (λ e. e) (all_or_first (each_row ((number + 1) + 1) r rest))
after number last r left rest row split e =
    ap (λ rs. all_or_first (each_row (number + 1) last rs)) split
    ∙ ap (λ m. all_or_first (m ∷ each_row ((number + 1) + 1) r rest)) e

-- one more row
pub one_more : (first : Record) (all : List Record) (number : ℕ) (last r : Record) (left rest : List Record) (old new : List Round)
    → SoFar first all number last left old → left ≡ r ∷ rest → TakesRow (number + 1) r old new → SoFar first all (number + 1) r rest new
one_more first all number last r left rest old new far split takes =
    let row = takes.0 in
    let count : length old ≡ round_of last = ap length far.rounds_are ∙ length-rounds_of far.rows ∙ sym far.before in
    let means : row_meaning (number + 1) (round_of last) r ≡ Ok row = subst (λ n. row_meaning (number + 1) n r ≡ Ok row) count takes.1 in
    let a = row_meaning-accepts (number + 1) (round_of last) r row means in
    let greatest : greatest_round (far.rows ++ (row ∷ [])) ≡ row.round = greatest_round-push far.rows row (omega (arith, a.rises, far.before)) in
    record {
      rows = far.rows ++ (row ∷ []);
      meaning = far.meaning ∙ ap (joined far.rows) (after number last r left rest row split means) ∙ joined-cons far.rows row (all_or_first (each_row ((number + 1) + 1) r rest));
      rounds_are = takes.2 far.rows far.rounds_are;
      before = a.round ∙ sym greatest;
      few = omega (arith, greatest, a.high);
      formed = All-append (λ (row : RoundRow). IsWellFormed (mark_row row)) far.rows (row ∷ []) far.formed (one_formed row a.formed);
    } where
      one_formed : (row : RoundRow) → IsWellFormed (mark_row row) → All (λ (row : RoundRow). IsWellFormed (mark_row row)) (row ∷ [])
      one_formed row h zero d inside = h
      one_formed row h (suc k) d inside = absurd (omega arith)

-- the rounds of accepted rows
by_range : (rows : List RoundRow) (a n k : ℕ) (round : Round) → slice_get (map (round_at rows) (range_with_len a n)) k ≡ Some round → round.number ≡ a + k
by_range rows a zero k round e = absurd (cc)
by_range rows a (suc n) zero round e = let same : round_at rows a ≡ round = cc in ap (λ (r : Round). r.number) (sym same) ∙ omega arith
by_range rows a (suc n) (suc k) round e = by_range rows (a + 1) n k round e ∙ omega arith

numbered : (rows : List RoundRow) (k : ℕ) (round : Round) → slice_get (rounds_of rows) k ≡ Some round → round.number ≡ k + 1
numbered rows k round e = by_range rows 1 (greatest_round rows) k round e ∙ omega arith

rows_formed : (rows : List RoundRow) (k : ℕ) → All (λ (row : RoundRow). IsWellFormed (mark_row row)) rows → All IsWellFormed (round_at rows k).rows
rows_formed rows k h = All-map IsWellFormed mark_row (filter (λ (r : RoundRow). eqb r.round k) rows) (All-filter (λ (r : RoundRow). eqb r.round k) (λ (row : RoundRow). IsWellFormed (mark_row row)) rows h)

are_marks : (rows : List RoundRow) → greatest_round rows ≤ 65535 → All (λ (row : RoundRow). IsWellFormed (mark_row row)) rows → AreMarks (rounds_of rows)
are_marks rows few formed = record {
  few = omega (arith, few, length-rounds_of rows);
  numbered = numbered rows;
  rows = All-map (λ (round : Round). All IsWellFormed round.rows) (round_at rows) (range_with_len 1 (greatest_round rows)) (λ i d inside. rows_formed rows (get_or (range_with_len 1 (greatest_round rows)) i d) formed);
}

-- after the last row
pub all_read : (first : Record) (all : List Record) (number : ℕ) (last : Record) (left : List Record) (rounds : List Round) → SoFar first all number last left rounds → left ≡ [] → GivesRounds first all rounds
unfolding joined
all_read first all number last left rounds far none =
    let whole : accepted first all ≡ Ok (far.rows ++ []) = far.meaning ∙ ap (λ rs. joined far.rows (all_or_first (each_row (number + 1) last rs))) none in (
      ap (result_map_both rounds_of (λ e. e)) whole ∙ ap (λ rows. Ok (rounds_of rows)) (append-nil far.rows) ∙ ap Ok (sym far.rounds_are),
      subst AreMarks (sym far.rounds_are) (are_marks far.rows far.few far.formed),
    )

-- a refused row
pub one_refused : (first : Record) (all : List Record) (number : ℕ) (last r : Record) (left rest : List Record) (rounds : List Round) (e : MarkRefusal)
    → SoFar first all number last left rounds → left ≡ r ∷ rest → (e ≢ Memory → row_meaning (number + 1) (length rounds) r ≡ Err e) → IsRefused first all e
unfolding joined
one_refused first all number last r left rest rounds e far split refused some =
    let count : length rounds ≡ round_of last = ap length far.rounds_are ∙ length-rounds_of far.rows ∙ sym far.before in
    let means : row_meaning (number + 1) (round_of last) r ≡ Err e = subst (λ n. row_meaning (number + 1) n r ≡ Err e) count (refused some) in
    far.meaning
    ∙ ap (λ rs. joined far.rows (all_or_first (each_row (number + 1) last rs))) split
    ∙ ap (λ m. joined far.rows (all_or_first (m ∷ each_row ((number + 1) + 1) r rest))) means

-- how many rounds there are so far
pub length-far : (first : Record) (all : List Record) (number : ℕ) (last : Record) (left : List Record) (rounds : List Round) → SoFar first all number last left rounds → length rounds ≤ 65535
length-far first all number last left rounds far = let count : length rounds ≡ greatest_round far.rows = ap length far.rounds_are ∙ length-rounds_of far.rows in omega (arith, count, far.few)

-- the meaning of a file without records, without a header and with one
pub no_header : (bytes : List ℕ) (rows : List Record) → rows ≡ records default_config (strip_bom bytes) → rows ≡ [] → marks_meaning bytes ≡ Err (BadHeader 1)
unfolding marks_meaning
no_header bytes rows e none = ap rows_meaning (sym e ∙ none)

pub bad_header : (bytes : List ℕ) (rows : List Record) (first : Record) (rest : List Record) → rows ≡ records default_config (strip_bom bytes) → rows ≡ first ∷ rest → is_header first ≡ false → marks_meaning bytes ≡ Err (BadHeader 1)
unfolding marks_meaning
bad_header bytes rows first rest e split no_words =
    ap rows_meaning (sym e ∙ split) ∙ ap (λ b. cond b (result_map_both rounds_of (λ e. e) (accepted first rest)) (Err (BadHeader 1))) no_words

pub after_header : (bytes : List ℕ) (rows : List Record) (first : Record) (rest : List Record) → rows ≡ records default_config (strip_bom bytes) → rows ≡ first ∷ rest → is_header first ≡ true → marks_meaning bytes ≡ result_map_both rounds_of (λ e. e) (accepted first rest)
unfolding marks_meaning
after_header bytes rows first rest e split words =
    ap rows_meaning (sym e ∙ split) ∙ ap (λ b. cond b (result_map_both rounds_of (λ e. e) (accepted first rest)) (Err (BadHeader 1))) words

-- a header gives no round
pub header_round : (r : Record) → is_header r ≡ true → round_of r ≡ 0
unfolding round_in
header_round r h =
    let first = (both _ _ (both _ _ (both _ _ (both _ _ h).0).0).0).1 in
    ap (λ field. unwrap_or (round_in field) 0) ((bytes_eq-Decides (field_of r 0) (codes "round")).0 first)
