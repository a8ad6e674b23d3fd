-- The lines of a file, one by one from the front, and the key lines among them.
use Rattle.std.proofs.Common.{◌≡◌, ℕ, suc, List, [], ◌∷◌, ◌++◌, Bool, true, false, ◌==◌, ◌&&◌, ◌||◌, cond, length, take, drop, ◌+◌, ◌<◌, ◌≤◌, Some, None, ◌∙◌, ⊎_elim, refl, sym, ap, subst, arith, append_assoc}
use Rattle.std.specs.List.{position_or_len, onto_first}
use Rattle.std.proofs.lemmas.Bool.{cases_Bool, eqb-true, or_parts, or_cases, and_right, false≢true, true≢false}
use Rattle.std.proofs.lemmas.List.{append-nil, take-append-drop, drop-drop}
use Rattle.macro_file.specs.Lines.{lines, at_newline, before, after}
use Rattle.macro_file.specs.Sections.{Token, Block, tokens, add_line, blocks}
use Rattle.macro_file.specs.Walks.{tokens_of_lines, tokens_from, ends_key, at_colon, blocks_after}
use Rattle.macro_file.proofs.Cuts.{position-yes, position-no, take-add}
use Rattle.macro_file.proofs.TokenLemmas.{some_line, lines-plain}

abbrev pub newline_at : List ℕ → ℕ
newline_at = position_or_len (λ b. b == 10)

abbrev pub key_end : List ℕ → ℕ
key_end = position_or_len ends_key

-- these bytes are whole lines, from line n up to line m
abbrev pub IsWhole : ℕ → List ℕ → ℕ → Type 0
IsWhole n front m = (ys : List ℕ) → tokens_from n (front ++ ys) ≡ tokens_from n front ++ tokens_from m ys

pub whole-none : (n : ℕ) → IsWhole n [] n
whole-none n ys = refl

pub whole-join : (n m k : ℕ) (xs ys : List ℕ) → IsWhole n xs m → IsWhole m ys k → IsWhole n (xs ++ ys) k
whole-join n m k xs ys f g zs =
    ap (tokens_from n) (append_assoc xs ys zs) ∙ f (ys ++ zs) ∙ ap (λ ts. tokens_from n xs ++ ts) (g zs) ∙ sym (append_assoc (tokens_from n xs) (tokens_from m ys) (tokens_from k zs)) ∙ ap (λ ts. ts ++ tokens_from k zs) (sym (f ys))

-- a newline comes first
newline_first : (bs : List ℕ) → at_newline bs ≡ true → newline_at bs ≡ 0
newline_first [] e = absurd (false≢true e)
newline_first (b ∷ bs) e = position-yes (λ b. b == 10) b bs e

-- the last line
pub last_line : (bs : List ℕ) → newline_at bs ≡ length bs → lines bs ≡ bs ∷ []
last_line [] e = refl
last_line (b ∷ bs) e = ⊎_elim
    (λ yes. absurd (omega (arith, sym (position-yes (λ b. b == 10) b bs yes) ∙ e)))
    (λ no. let rest : newline_at bs ≡ length bs = omega (arith, sym (position-no (λ b. b == 10) b bs no) ∙ e) in
    lines-plain b bs no (and_right (b == 13) (at_newline bs) (none bs rest)) ∙ ap (onto_first b) (last_line bs rest))
    (cases_Bool (b == 10))
  where
    none : (cs : List ℕ) → newline_at cs ≡ length cs → at_newline cs ≡ false
    none [] h = refl
    none (c ∷ cs) h = ⊎_elim (λ yes. absurd (omega (arith, sym (position-yes (λ b. b == 10) c cs yes) ∙ h))) (λ no. no) (cases_Bool (c == 10))

-- A line that a newline ends: what it is does not depend on what follows.
record FirstLine (bs : List ℕ) : Type 0 where
  line : List ℕ
  lines-front : (ys : List ℕ) → lines (take (suc (newline_at bs)) bs ++ ys) ≡ line ∷ lines ys

newline_after : (bs ys : List ℕ) → newline_at bs < length bs → at_newline (take (suc (newline_at bs)) bs ++ ys) ≡ at_newline bs
newline_after [] ys h = absurd (omega arith)
newline_after (b ∷ bs) ys h = refl

line_step : (b : ℕ) (bs l : List ℕ) (front : List ℕ → List ℕ) → (b == 10) ≡ false → ((ys : List ℕ) → at_newline (front ys) ≡ at_newline bs) → ((ys : List ℕ) → lines (front ys) ≡ l ∷ lines ys) →
    (t : Bool) → (b == 13 && at_newline bs) ≡ t → (ys : List ℕ) → lines (b ∷ front ys) ≡ cond t l (b ∷ l) ∷ lines ys
line_step b bs l front plain same f true e ys = (λ i. cond (plain i) ([] ∷ lines (front ys)) (cond ((ap (λ u. b == 13 && u) (same ys) ∙ e) i) (lines (front ys)) (onto_first b (lines (front ys))))) ∙ f ys
line_step b bs l front plain same f false e ys = lines-plain b (front ys) plain (ap (λ u. b == 13 && u) (same ys) ∙ e) ∙ ap (onto_first b) (f ys)

first_line : (bs : List ℕ) → newline_at bs < length bs → FirstLine bs
first_line [] h = absurd (omega arith)
first_line (b ∷ bs) h = ⊎_elim
    (λ yes. record {
      line = [];
      lines-front = λ ys. ap (λ n. lines (take (suc n) (b ∷ bs) ++ ys)) (position-yes (λ b. b == 10) b bs yes) ∙ (let P : ℕ → Type 0 = λ k. lines (k ∷ ys) ≡ [] ∷ lines ys in subst P (sym (eqb-true b 10 yes)) refl);
    })
    (λ no. let within : newline_at bs < length bs = omega (arith, position-no (λ b. b == 10) b bs no, h) in
    let f = first_line bs within in
    record {
      line = cond (b == 13 && at_newline bs) f.line (b ∷ f.line);
      lines-front = λ ys. ap (λ n. lines (take (suc n) (b ∷ bs) ++ ys)) (position-no (λ b. b == 10) b bs no) ∙ line_step b bs f.line (λ zs. take (suc (newline_at bs)) bs ++ zs) no (λ zs. newline_after bs zs within) f.lines-front _ refl ys;
    })
    (cases_Bool (b == 10))

-- a line and its newline are whole
pub whole-line : (n at : ℕ) (bs : List ℕ) → at ≡ newline_at bs → at < length bs → IsWhole n (take (at + 1) bs) (n + 1)
whole-line n at bs e h =
    let one : at + 1 ≡ suc (newline_at bs) = omega arith in
    let f = first_line bs (omega arith) in
    λ ys. ap (λ k. tokens_from n (take k bs ++ ys)) one ∙ ap (tokens_of_lines n) (f.lines-front ys)
    ∙ ap (λ ts. ts ++ tokens_from (n + 1) ys) (sym (ap (λ k. tokens_from n (take k bs)) one ∙ ap (tokens_from n) (sym (append-nil (take (suc (newline_at bs)) bs))) ∙ ap (tokens_of_lines n) (f.lines-front []) ∙ append-nil (tokens n (before 35 f.line))))

-- what follows a colon: a line, and the blocks of the lines after it
pub after-line : (n at : ℕ) (bs : List ℕ) → at ≡ newline_at bs → at < length bs →
    let p = blocks (n + 1) (lines (drop (at + 1) bs)) in blocks_after n (lines bs) ≡ (tokens_from n (take (at + 1) bs) ++ p.0, p.1)
after-line n at bs e h =
    let one : at + 1 ≡ suc (newline_at bs) = omega arith in
    let f = first_line bs (omega arith) in
    let all : lines bs ≡ f.line ∷ lines (drop (at + 1) bs) = ap lines (sym (take-append-drop (at + 1) bs)) ∙ ap (λ k. lines (take k bs ++ drop (at + 1) bs)) one ∙ f.lines-front (drop (at + 1) bs) in
    let here : tokens_from n (take (at + 1) bs) ≡ tokens n (before 35 f.line) = ap (λ k. tokens_from n (take k bs)) one ∙ ap (tokens_from n) (sym (append-nil (take (suc (newline_at bs)) bs))) ∙ ap (tokens_of_lines n) (f.lines-front []) ∙ append-nil (tokens n (before 35 f.line)) in
    let p = blocks (n + 1) (lines (drop (at + 1) bs)) in
    ap (blocks_after n) all ∙ (λ i. (sym here i ++ p.0, p.1))

pub after-last : (n at : ℕ) (bs : List ℕ) → at ≡ newline_at bs → at ≡ length bs → blocks_after n (lines bs) ≡ (tokens_from n bs, [])
after-last n at bs e h = let l = last_line bs (sym e ∙ h) in ap (blocks_after n) l ∙ (λ i. (tokens_of_lines n (sym l i), []))

-- no colon stands before the line's end or its comment
record NoKey (bs : List ℕ) : Type 0 where
  line : List ℕ
  more : List (List ℕ)
  is : lines bs ≡ line ∷ more
  none : after 58 (before 35 line) ≡ None

key_bytes : (b : ℕ) → ends_key b ≡ false → ((b == 10) ≡ false) × ((b == 35) ≡ false) × ((b == 58) ≡ false)
key_bytes b e = let f = or_parts (b == 10) _ e in let g = or_parts (b == 35) _ f.1 in (f.0, g.0, g.1)

no_key_at : (b : ℕ) (bs : List ℕ) → ends_key b ≡ true → (b == 58) ≡ false → NoKey (b ∷ bs)
no_key_at b bs e colon = ⊎_elim
    (λ newline. let P : ℕ → Type 0 = λ k. NoKey (k ∷ bs) in subst P (sym (eqb-true b 10 newline)) (record { line = []; more = lines bs; is = refl; none = refl }))
    (λ f. ⊎_elim
    (λ comment. let r = some_line bs in let P : ℕ → Type 0 = λ k. NoKey (k ∷ bs) in subst P (sym (eqb-true b 35 comment)) (record { line = 35 ∷ r.0; more = r.1; is = ap (onto_first 35) r.2; none = refl }))
    (λ yes. absurd (false≢true (sym colon ∙ yes)))
    (or_cases (b == 35) _ f))
    (or_cases (b == 10) _ e)

no_key : (bs : List ℕ) → at_colon (drop (key_end bs) bs) ≡ false → NoKey bs
no_key [] h = record { line = []; more = []; is = refl; none = refl }
no_key (b ∷ bs) h = ⊎_elim
    (λ yes. no_key_at b bs yes (sym (ap (λ n. at_colon (drop n (b ∷ bs))) (position-yes ends_key b bs yes)) ∙ h))
    (λ no. let k = key_bytes b no in let f = no_key bs (sym (ap (λ n. at_colon (drop n (b ∷ bs))) (position-no ends_key b bs no)) ∙ h) in
    ⊎_elim
    (λ return. record { line = f.line; more = f.more; is = (λ i. cond (k.0 i) ([] ∷ lines bs) (cond (return i) (lines bs) (onto_first b (lines bs)))) ∙ f.is; none = f.none })
    (λ plain. record {
      line = b ∷ f.line;
      more = f.more;
      is = lines-plain b bs k.0 plain ∙ ap (onto_first b) f.is;
      none = (λ i. after 58 (cond (k.1 i) [] (b ∷ before 35 f.line))) ∙ (λ i. cond (k.2 i) (Some (before 35 f.line)) (after 58 (before 35 f.line))) ∙ f.none;
    })
    (cases_Bool (b == 13 && at_newline bs)))
    (cases_Bool (ends_key b))

-- a line without a key reads as one after a colon
pub blocks-no_key : (n end : ℕ) (bs : List ℕ) → end ≡ key_end bs → at_colon (drop end bs) ≡ false → blocks n (lines bs) ≡ blocks_after n (lines bs)
blocks-no_key n end bs e h = let f = no_key bs (ap (λ k. at_colon (drop k bs)) (sym e) ∙ h) in
    ap (blocks n) f.is ∙ ap (λ o. add_line n (before 35 f.line) o (blocks (n + 1) f.more)) f.none ∙ sym (ap (blocks_after n) f.is)

-- A key line, cut at its colon.
record HasKey (bs q : List ℕ) : Type 0 where
  line : List ℕ
  more : List (List ℕ)
  is : lines bs ≡ (take (key_end bs) bs ++ 58 ∷ line) ∷ more
  rest : lines q ≡ line ∷ more
  bare : before 35 (take (key_end bs) bs ++ 58 ∷ line) ≡ take (key_end bs) bs ++ 58 ∷ before 35 line
  key : before 58 (take (key_end bs) bs ++ 58 ∷ before 35 line) ≡ take (key_end bs) bs
  after_key : after 58 (take (key_end bs) bs ++ 58 ∷ before 35 line) ≡ Some (before 35 line)

has_key : (bs q : List ℕ) → drop (key_end bs) bs ≡ 58 ∷ q → HasKey bs q
has_key [] q h = cc
has_key (b ∷ bs) q h = ⊎_elim
    (λ yes. let z = position-yes ends_key b bs yes in let both : b ∷ bs ≡ 58 ∷ q = sym (ap (λ n. drop n (b ∷ bs)) z) ∙ h in
    let byte : b ≡ 58 = cc in let rest : bs ≡ q = cc in let f = some_line q in
    let P : ℕ → Type 0 = λ k. (lines (b ∷ bs) ≡ (take k (b ∷ bs) ++ 58 ∷ f.0) ∷ f.1) × (before 35 (take k (b ∷ bs) ++ 58 ∷ f.0) ≡ take k (b ∷ bs) ++ 58 ∷ before 35 f.0) × (before 58 (take k (b ∷ bs) ++ 58 ∷ before 35 f.0) ≡ take k (b ∷ bs)) × (after 58 (take k (b ∷ bs) ++ 58 ∷ before 35 f.0) ≡ Some (before 35 f.0)) in
    let r = subst P (sym z) (ap lines both ∙ ap (onto_first 58) f.2, refl, refl, refl) in
    record { line = f.0; more = f.1; is = r.0; rest = f.2; bare = r.1; key = r.2; after_key = r.3 })
    (λ no. let s = position-no ends_key b bs no in let k = key_bytes b no in
    let f = has_key bs q (sym (ap (λ n. drop n (b ∷ bs)) s) ∙ h) in
    let front = take (key_end bs) bs in
    let plain : (b == 13 && at_newline bs) ≡ false = and_right (b == 13) (at_newline bs) (no_newline bs (sym (ap (λ n. drop n (b ∷ bs)) s) ∙ h)) in
    let P : ℕ → Type 0 = λ j. (lines (b ∷ bs) ≡ (take j (b ∷ bs) ++ 58 ∷ f.line) ∷ f.more) × (before 35 (take j (b ∷ bs) ++ 58 ∷ f.line) ≡ take j (b ∷ bs) ++ 58 ∷ before 35 f.line) × (before 58 (take j (b ∷ bs) ++ 58 ∷ before 35 f.line) ≡ take j (b ∷ bs)) × (after 58 (take j (b ∷ bs) ++ 58 ∷ before 35 f.line) ≡ Some (before 35 f.line)) in
    let r = subst P (sym s) (
      lines-plain b bs k.0 plain ∙ ap (onto_first b) f.is,
      (λ i. cond (k.1 i) [] (b ∷ before 35 (front ++ 58 ∷ f.line))) ∙ ap (λ xs. b ∷ xs) f.bare,
      (λ i. cond (k.2 i) [] (b ∷ before 58 (front ++ 58 ∷ before 35 f.line))) ∙ ap (λ xs. b ∷ xs) f.key,
      (λ i. cond (k.2 i) (Some (front ++ 58 ∷ before 35 f.line)) (after 58 (front ++ 58 ∷ before 35 f.line))) ∙ f.after_key,
    ) in
    record { line = f.line; more = f.more; is = r.0; rest = f.rest; bare = r.1; key = r.2; after_key = r.3 })
    (cases_Bool (ends_key b))
  where
    no_newline : (cs : List ℕ) → drop (key_end cs) cs ≡ 58 ∷ q → at_newline cs ≡ false
    no_newline [] g = refl
    no_newline (c ∷ cs) g = ⊎_elim
        (λ t. let both : c ∷ cs ≡ 58 ∷ q = sym (ap (λ n. drop n (c ∷ cs)) (position-yes ends_key c cs (ap (λ u. u || (c == 35 || c == 58)) t))) ∙ g in let byte : c ≡ 58 = cc in absurd (true≢false (sym t ∙ ap (λ (m : ℕ). m == 10) byte)))
        (λ t. t)
        (cases_Bool (c == 10))

-- the block of a key line
pub blocks-key : (n end : ℕ) (bs q : List ℕ) → end ≡ key_end bs → drop end bs ≡ 58 ∷ q → let p = blocks_after n (lines q) in blocks n (lines bs) ≡ ([], record { line = n; key = take end bs; tokens = p.0 } ∷ p.1)
blocks-key n end bs q e h = let f = has_key bs q (ap (λ k. drop k bs) (sym e) ∙ h) in
    let front = take (key_end bs) bs in
    let next = blocks (n + 1) f.more in
    ap (blocks n) f.is
    ∙ ap (λ text. add_line n text (after 58 text) next) f.bare
    ∙ ap (λ o. add_line n (front ++ 58 ∷ before 35 f.line) o next) f.after_key
    ∙ (λ i. ([], record { line = n; key = (f.key ∙ ap (λ k. take k bs) (sym e)) i; tokens = tokens n (before 35 f.line) ++ next.0 } ∷ next.1))
    ∙ sym (ap (λ ls. let p = blocks_after n ls in ([], record { line = n; key = take end bs; tokens = p.0 } ∷ p.1)) f.rest)

-- a newline is not before the end of the key
pub newline_from : (bs : List ℕ) → newline_at bs ≡ key_end bs + newline_at (drop (key_end bs) bs)
newline_from [] = refl
newline_from (b ∷ bs) = ⊎_elim
    (λ yes. sym (ap (λ k. k + newline_at (drop k (b ∷ bs))) (position-yes ends_key b bs yes) ∙ (let z : 0 + newline_at (b ∷ bs) ≡ newline_at (b ∷ bs) = omega arith in z)))
    (λ no. position-no (λ b. b == 10) b bs (key_bytes b no).0 ∙ ap suc (newline_from bs) ∙ sym (ap (λ k. k + newline_at (drop k (b ∷ bs))) (position-no ends_key b bs no) ∙ (let z : suc (key_end bs) + newline_at (drop (key_end bs) bs) ≡ suc (key_end bs + newline_at (drop (key_end bs) bs)) = omega arith in z)))
    (cases_Bool (ends_key b))

-- What `next_key` has read: whole lines without a key, up to `at`.
pub record Read (line here at : ℕ) (bytes : List ℕ) : Type 0 where
  pub whole : IsWhole line (take at bytes) here
  pub joined : let p = blocks here (lines (drop at bytes)) in blocks line (lines bytes) ≡ (tokens_from line (take at bytes) ++ p.0, p.1)

colon_next : (bs : List ℕ) → at_colon bs ≡ true → bs ≡ 58 ∷ drop 1 bs
colon_next [] e = absurd (false≢true e)
colon_next (b ∷ bs) e = ap (λ k. k ∷ bs) (eqb-true b 58 e)

pub found : (line here at end : ℕ) (bytes rest next : List ℕ) → Read line here at bytes → rest ≡ drop at bytes → end ≡ key_end rest → at_colon (drop end rest) ≡ true → next ≡ drop (end + 1) rest →
    let p = blocks_after here (lines next) in blocks line (lines bytes) ≡ (tokens_from line (take at bytes), record { line = here; key = take end rest; tokens = p.0 } ∷ p.1)
found line here at end bytes rest next r is stop colon after =
    let q : drop end rest ≡ 58 ∷ next = colon_next (drop end rest) colon ∙ ap (λ xs. 58 ∷ xs) (drop-drop 1 end rest ∙ sym after) in
    let k = blocks-key here end rest next stop q in
    r.joined ∙ ap (λ xs. let p = blocks here (lines xs) in (tokens_from line (take at bytes) ++ p.0, p.1)) (sym is)
    ∙ ap (λ (p : List Token × List Block). (tokens_from line (take at bytes) ++ p.0, p.1)) k
    ∙ (λ i. (append-nil (tokens_from line (take at bytes)) i, let p = blocks_after here (lines next) in record { line = here; key = take end rest; tokens = p.0 } ∷ p.1))

newline_is : (end more : ℕ) (rest : List ℕ) → end ≡ key_end rest → more ≡ newline_at (drop end rest) → end + more ≡ newline_at rest
newline_is end more rest e h = sym (newline_from rest ∙ ap (λ k. k + newline_at (drop k rest)) (sym e) ∙ ap (λ k. end + k) (sym h))

pub none_found : (line here at end more : ℕ) (bytes rest : List ℕ) → Read line here at bytes → rest ≡ drop at bytes → end ≡ key_end rest → at_colon (drop end rest) ≡ false → more ≡ newline_at (drop end rest) → end + more ≡ length rest → blocks line (lines bytes) ≡ (tokens_from line bytes, [])
none_found line here at end more bytes rest r is stop colon newline all =
    r.joined ∙ ap (λ xs. let p = blocks here (lines xs) in (tokens_from line (take at bytes) ++ p.0, p.1)) (sym is)
    ∙ ap (λ (p : List Token × List Block). (tokens_from line (take at bytes) ++ p.0, p.1)) (blocks-no_key here end rest stop colon ∙ after-last here (end + more) rest (newline_is end more rest stop newline) all)
    ∙ (λ i. (sym (r.whole rest) i, []))
    ∙ (λ i. (tokens_from line ((ap (λ xs. take at bytes ++ xs) is ∙ take-append-drop at bytes) i), []))

pub read_line : (line here at end more : ℕ) (bytes rest : List ℕ) → Read line here at bytes → at ≤ length bytes → rest ≡ drop at bytes → end ≡ key_end rest → at_colon (drop end rest) ≡ false → more ≡ newline_at (drop end rest) → end + more < length rest → Read line (here + 1) (at + (end + more + 1)) bytes
read_line line here at end more bytes rest r within is stop colon newline less =
    let size = end + more in
    let n = newline_is end more rest stop newline in
    let front : take (at + (size + 1)) bytes ≡ take at bytes ++ take (size + 1) rest = take-add at (size + 1) bytes ∙ ap (λ xs. take at bytes ++ take (size + 1) xs) (sym is) in
    let back : drop (at + (size + 1)) bytes ≡ drop (size + 1) rest = sym (drop-drop (size + 1) at bytes) ∙ ap (drop (size + 1)) (sym is) in
    let one = whole-line here size rest n less in
    let p = blocks (here + 1) (lines (drop (size + 1) rest)) in
    record {
      whole = subst (λ xs. IsWhole line xs (here + 1)) (sym front) (whole-join line here (here + 1) (take at bytes) (take (size + 1) rest) r.whole one);
      joined = r.joined ∙ ap (λ xs. let p = blocks here (lines xs) in (tokens_from line (take at bytes) ++ p.0, p.1)) (sym is)
          ∙ ap (λ (p : List Token × List Block). (tokens_from line (take at bytes) ++ p.0, p.1)) (blocks-no_key here end rest stop colon ∙ after-line here size rest n less)
          ∙ (λ i. (sym (append_assoc (tokens_from line (take at bytes)) (tokens_from here (take (size + 1) rest)) p.0) i, p.1))
          ∙ (λ i. ((ap (λ ts. ts ++ p.0) (sym (ap (tokens_from line) front ∙ r.whole (take (size + 1) rest)))) i, p.1))
          ∙ ap (λ xs. let q = blocks (here + 1) (lines xs) in (tokens_from line (take (at + (size + 1)) bytes) ++ q.0, q.1)) (sym back);
    }

-- the rest of a key line, and what `next_key` finds after it
pub section_found : (line newline : ℕ) (bytes rest more : List ℕ) (bs : List Block) → newline ≡ newline_at bytes → newline < length bytes → rest ≡ drop (newline + 1) bytes → blocks (line + 1) (lines rest) ≡ (tokens_from (line + 1) more, bs) → more ≡ take (length more) rest →
    blocks_after line (lines bytes) ≡ (tokens_from line (take (newline + 1 + length more) bytes), bs)
section_found line newline bytes rest more bs n less is found front =
    let one = whole-line line newline bytes n less in
    let all : take (newline + 1 + length more) bytes ≡ take (newline + 1) bytes ++ more = take-add (newline + 1) (length more) bytes ∙ ap (λ xs. take (newline + 1) bytes ++ xs) (ap (take (length more)) (sym is) ∙ sym front) in
    after-line line newline bytes n less
    ∙ ap (λ xs. let p = blocks (line + 1) (lines xs) in (tokens_from line (take (newline + 1) bytes) ++ p.0, p.1)) (sym is)
    ∙ ap (λ (p : List Token × List Block). (tokens_from line (take (newline + 1) bytes) ++ p.0, p.1)) found
    ∙ (λ i. (sym (ap (tokens_from line) all ∙ one more) i, bs))
