-- How a read of a record leaves the records that are still to come.
use Rattle.std.proofs.Common.{◌≡◌, ℕ, zero, suc, ◌+◌, ◌<◌, ◌≤◌, Bool, true, false, cond, eqb, ◌||◌, List, [], ◌∷◌, ◌++◌, length, Option, Some, None, sym, refl, ap, ◌∙◌, subst, arith}
use Rattle.std.specs.Prelude.{IsSome}
use Rattle.csv.specs.Machine.{Read, ends_at_end, fields_after, field_after, is_end, next_record, step, in_field}
use Rattle.csv.specs.Reading.{Reached, ReadRecord, default_config, records, records_from, records_next}
use Rattle.csv.specs.declared.parser.Action.{Action}
use Rattle.csv.specs.declared.parser.Action.TheVariants as act
use Rattle.csv.specs.declared.parser.State.{State}
use Rattle.csv.specs.declared.parser.State.TheVariants as st
use Rattle.csv.proofs.ReadFacts.{rows-more, rows-end}
use Rattle.mark_file.specs.Rows.{Record}
use Rattle.mark_file.specs.Unread.{BytesReader, IsSteady, bytes_left, records_in, unread}

-- a step that ends a record leaves a state in which the end of the text ends none
EndsClean : State × Action → Type 0
EndsClean x = is_end x.1 ≡ true → ends_at_end x.0 ≡ false

by_test : (b : Bool) (x y : State × Action) → EndsClean x → EndsClean y → EndsClean (cond b x y)
unfolding EndsClean
by_test true x y hx hy = hx
by_test false x y hx hy = hy

goes_on : (s : State) (a : Action) → is_end a ≡ false → EndsClean (s, a)
unfolding EndsClean
goes_on s a e h = absurd (cc)

end_of_line : (b : Bool) → EndsClean (cond b st.AfterCr st.StartRecord, act.EndRecord)
unfolding EndsClean
end_of_line true h = refl
end_of_line false h = refl

field_ends : (c : ℕ) → EndsClean (in_field default_config c)
field_ends c =
    by_test (eqb c 44) (st.StartField, act.EndField) _ (goes_on st.StartField act.EndField refl)
    (by_test (eqb c 13 || eqb c 10) _ (st.InField, act.Copy) (end_of_line (eqb c 13)) (goes_on st.InField act.Copy refl))

start_ends : (c : ℕ) → EndsClean (step default_config st.StartField c)
start_ends c = by_test (eqb c 34) (st.InQuoted, act.Skip) _ (goes_on st.InQuoted act.Skip refl) (field_ends c)

record_ends : (c : ℕ) → EndsClean (step default_config st.StartRecord c)
record_ends c = by_test (eqb c 13 || eqb c 10) (st.StartRecord, act.Skip) _ (goes_on st.StartRecord act.Skip refl) (start_ends c)

step_ends : (s : State) (c : ℕ) → EndsClean (step default_config s c)
step_ends st.StartRecord c = record_ends c
step_ends st.StartField c = start_ends c
step_ends st.InField c = field_ends c
step_ends st.InQuoted c = by_test (eqb c 34) (st.AfterQuote, act.Skip) _ (goes_on st.AfterQuote act.Skip refl) (goes_on st.InQuoted act.Copy refl)
step_ends st.AfterQuote c = by_test (eqb c 34) (st.InQuoted, act.Copy) _ (goes_on st.InQuoted act.Copy refl) (field_ends c)
step_ends st.InEscape c = goes_on st.InQuoted act.Copy refl
step_ends st.InComment c = by_test (eqb c 10) (st.StartRecord, act.Skip) _ (goes_on st.StartRecord act.Skip refl) (goes_on st.InComment act.Skip refl)
step_ends st.AfterCr c = by_test (eqb c 10) (st.StartRecord, act.Skip) _ (goes_on st.StartRecord act.Skip refl) (record_ends c)

-- one byte at the end of a text, where the state is one in which its end ends a record
extra : State → ℕ
extra s = cond (ends_at_end s) 1 0

-- what a read of a record leaves of a text of n bytes
record Leaves (n : ℕ) (p : Read) : Type 0 where
  shorter : length p.2 ≤ n
  clean : ends_at_end p.1 ≡ false

by_answer : (b : Bool) (x y : Option Read) (p : Read) (n : ℕ) → (b ≡ true → x ≡ Some p → Leaves n p) → (y ≡ Some p → Leaves n p) → cond b x y ≡ Some p → Leaves n p
by_answer true x y p n hx hy e = hx refl e
by_answer false x y p n hx hy e = hy e

some-same : (q p : Read) (n : ℕ) → Leaves n q → ◌≡◌ {A = Option Read} (Some q) (Some p) → Leaves n p
some-same q p n h e = let same : q ≡ p = cc in subst (Leaves n) same h

never : (p : Read) (n : ℕ) → ◌≡◌ {A = Option Read} None (Some p) → Leaves n p
never p n e = absurd (cc)

at_end : (s : State) (f : List (List ℕ)) (g : List ℕ) (p : Read) (n : ℕ) → next_record default_config s f g [] ≡ Some p → Leaves n p
unfolding next_record
at_end s f g p n = by_answer (ends_at_end s) (Some (f ++ (g ∷ []), st.StartRecord, [])) None p n (λ _. some-same (f ++ (g ∷ []), st.StartRecord, []) p n (record { shorter = omega arith; clean = refl })) (never p n)

more_left : (p : Read) (n m : ℕ) → n ≤ m → Leaves n p → Leaves m p
more_left p n m le h = record { shorter = omega (arith, h.shorter); clean = h.clean }

after_byte : (s : State) (f : List (List ℕ)) (g : List ℕ) (c : ℕ) (rest : List ℕ) (p : Read) → next_record default_config s f g (c ∷ rest) ≡ Some p → Leaves (length rest) p
unfolding next_record EndsClean
after_byte s f g c [] p =
    let t = step default_config s c in
    by_answer (is_end t.1) (Some (fields_after t.1 f g, t.0, [])) _ p 0
    (λ ends. some-same (fields_after t.1 f g, t.0, []) p 0 (record { shorter = omega arith; clean = step_ends s c ends }))
    (at_end t.0 (fields_after t.1 f g) (field_after t.1 c g) p 0)
after_byte s f g c (d ∷ rest) p =
    let t = step default_config s c in
    by_answer (is_end t.1) (Some (fields_after t.1 f g, t.0, d ∷ rest)) _ p (length (d ∷ rest))
    (λ ends. some-same (fields_after t.1 f g, t.0, d ∷ rest) p (length (d ∷ rest)) (record { shorter = omega arith; clean = step_ends s c ends }))
    (λ e. more_left p (length rest) (length (d ∷ rest)) (omega arith) (after_byte t.0 (fields_after t.1 f g) (field_after t.1 c g) d rest p e))

extra-clean : (s : State) → ends_at_end s ≡ false → extra s ≡ 0
unfolding extra
extra-clean s e = ap (λ b. cond b 1 0) e

extra-ends : (s : State) → ends_at_end s ≡ true → extra s ≡ 1
unfolding extra
extra-ends s e = ap (λ b. cond b 1 0) e

extra-small : (s : State) → extra s ≤ 1
unfolding extra
extra-small s = by (ends_at_end s) where
  by : (b : Bool) → cond b 1 0 ≤ 1
  by true = omega arith
  by false = omega arith

ends_there : (b : Bool) (x : Option Read) (p : Read) → cond b x None ≡ Some p → b ≡ true
ends_there true x p e = refl
ends_there false x p e = absurd (cc)

must_end : (s : State) (p : Read) → next_record default_config s [] [] [] ≡ Some p → ends_at_end s ≡ true
unfolding next_record
must_end s p e = ends_there (ends_at_end s) (Some ([] ++ ([] ∷ []), st.StartRecord, [])) p e

-- each record takes a byte, or ends the text
fewer_left : (s : State) (xs : List ℕ) (p : Read) → next_record default_config s [] [] xs ≡ Some p → length p.2 + extra p.1 < length xs + extra s
fewer_left s [] p e =
    let l = at_end s [] [] p 0 e in
    omega (arith, l.shorter, extra-clean p.1 l.clean, extra-ends s (must_end s p e))
fewer_left s (c ∷ rest) p e =
    let l = after_byte s [] [] c rest p e in
    omega (arith, l.shorter, extra-clean p.1 l.clean)

same_next : (o : Option Read) (g h : State → List ℕ → List Record) → ((p : Read) → o ≡ Some p → g p.1 p.2 ≡ h p.1 p.2) → records_next g o ≡ records_next h o
same_next None g h f = refl
same_next (Some p) g h f = ap (λ rest. p.0 ∷ rest) (f p refl)

-- as many turns as there can be records give all of them
same_records : (n m : ℕ) (s : State) (xs : List ℕ) → length xs + extra s < n → length xs + extra s < m → records_from default_config n s xs ≡ records_from default_config m s xs
unfolding records_from
same_records zero m s xs h k = absurd (omega arith)
same_records (suc n) zero s xs h k = absurd (omega arith)
same_records (suc n) (suc m) s xs h k =
    same_next (next_record default_config s [] [] xs) (records_from default_config n) (records_from default_config m)
    (λ p e. let f = fewer_left s xs p e in same_records n m p.1 p.2 (omega (arith, f)) (omega (arith, f)))

step_records : (n : ℕ) (s : State) (xs : List ℕ) (o : Option Read) → next_record default_config s [] [] xs ≡ o → records_from default_config (suc n) s xs ≡ records_next (records_from default_config n) o
unfolding records_from
step_records n s xs o e = ap (records_next (records_from default_config n)) e

all_turns : (s : State) (xs : List ℕ) → length xs + 2 ≡ suc (length xs + 1)
all_turns s xs = omega arith

-- the records of a text from a state, where the next one is there
records-more : (s : State) (xs : List ℕ) (p : Read) → next_record default_config s [] [] xs ≡ Some p → records_in s (Some xs) ≡ p.0 ∷ records_in p.1 (Some p.2)
records-more s xs p e =
    let f = fewer_left s xs p e in
    let a = extra-small s in
    let b = extra-small p.1 in
    ap (λ n. records_from default_config n s xs) (all_turns s xs)
    ∙ step_records (length xs + 1) s xs (Some p) e
    ∙ ap (λ rest. p.0 ∷ rest) (same_records (length xs + 1) (length p.2 + 2) p.1 p.2 (omega (arith, f, a)) (omega (arith, b)))

-- and where there is none
records-end : (s : State) (xs : List ℕ) → next_record default_config s [] [] xs ≡ None → records_in s (Some xs) ≡ []
records-end s xs e = ap (λ n. records_from default_config n s xs) (all_turns s xs) ∙ step_records (length xs + 1) s xs None e

-- a fresh reader has all records of its text
pub records-fresh : (s : State) (o : Option (List ℕ)) (xs : List ℕ) → s ≡ st.StartRecord → o ≡ Some xs → records_in s o ≡ records default_config xs
records-fresh s o xs es eo =
    (λ i. records_in (es i) (eo i))
    ∙ same_records (length xs + 2) (length xs + 1) st.StartRecord xs (omega (arith, extra-clean st.StartRecord refl)) (omega (arith, extra-clean st.StartRecord refl))

some_bytes : (o : Option (List ℕ)) → IsSome o → (xs : List ℕ) × (o ≡ Some xs)
some_bytes None h = absurd (cc)
some_bytes (Some xs) h = (xs, refl)

-- a read that found a record took the first of those that were to come
pub unread-found : (old new : BytesReader) (fields : Record) → IsSteady old → ReadRecord (λ s. Some s.now) old new true fields → unread old ≡ fields ∷ unread new
unfolding Reached
unread-found old new fields steady read =
    let b = some_bytes (bytes_left old) steady.known in
    let m = rows-more (λ s. Some s.now) old new fields default_config old.state b.0 b.0 [] steady.plain b.1 (refl, refl) read in
    let r = m.2 in
    ap (records_in old.state) b.1
    ∙ records-more old.state b.0 r.0 r.1
    ∙ (λ i. sym r.2 i ∷ records_in (r.3.0 i) (Some (r.3.1 i)))
    ∙ ap (λ o. fields ∷ records_in new.state o) (sym m.1)

-- a read that found none says that none was to come
pub unread-none : (old new : BytesReader) (fields : Record) → IsSteady old → ReadRecord (λ s. Some s.now) old new false fields → unread old ≡ []
unread-none old new fields steady read =
    let b = some_bytes (bytes_left old) steady.known in
    ap (records_in old.state) b.1 ∙ records-end old.state b.0 (rows-end (λ s. Some s.now) old new fields default_config b.0 steady.plain b.1 read)

-- a read, by its answer
pub unread-read : (old new : BytesReader) (fields : Record) (found : Bool) → IsSteady old → ReadRecord (λ s. Some s.now) old new found fields → unread old ≡ cond found (fields ∷ unread new) []
unread-read old new fields true steady read = unread-found old new fields steady read
unread-read old new fields false steady read = unread-none old new fields steady read
