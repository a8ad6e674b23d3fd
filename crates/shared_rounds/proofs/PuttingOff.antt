-- Names that were put off.
use Rattle.std.proofs.Common.{◌≡◌, ℕ, ◌+◌, ◌<◌, ◌≤◌, List, [], ◌∷◌, ◌++◌, length, take, drop, get_or, refl, sym, ap, ◌∙◌, arith}
use Rattle.std.specs.Prelude.{Ok, Err}
use Rattle.std.proofs.lemmas.List.{append_assoc, length-append, length-take-le, take-append-drop, take_more}
use Rattle.mesh_names.specs.Names.{Name}
use Rattle.table_passes.specs.Answers.{Answer}
use Rattle.table_passes.specs.declared.work.Joined.{Joined}
use Rattle.shared_rounds.specs.Reached.{all_put_off, put_off}

-- of two parts that go along
pub off_apart : (ns ms : List Name) (bs cs : List Answer) → length ns ≡ length bs → put_off (ns ++ ms) (bs ++ cs) ≡ put_off ns bs ++ put_off ms cs
off_apart [] ms [] cs e = refl
off_apart [] ms (b ∷ bs) cs e = absurd (omega arith)
off_apart (n ∷ ns) ms [] cs e = absurd (omega arith)
off_apart (n ∷ ns) ms (Ok d ∷ bs) cs e = off_apart ns ms bs cs (omega arith)
off_apart (n ∷ ns) ms (Err r ∷ bs) cs e = ap (λ (xs : List Name). n ∷ xs) (off_apart ns ms bs cs (omega arith))

module _ (ns : List Name) (bs : List Answer) (i : ℕ) (d : Name) (a : Answer) (l : i < length bs) (few : length bs ≤ length ns) where
  both : length (take i ns) ≡ length (take i bs)
  both = length-take-le i ns (omega arith) ∙ sym (length-take-le i bs (omega arith))

  -- the first i of both lists, and one more
  pub off_more : put_off (take (i + 1) ns) (take (i + 1) bs) ≡ put_off (take i ns) (take i bs) ++ put_off (get_or ns i d ∷ []) (get_or bs i a ∷ [])
  off_more = (λ j. put_off (take_more ns i d (omega arith) j) (take_more bs i a l j)) ∙ off_apart (take i ns) (get_or ns i d ∷ []) (take i bs) (get_or bs i a ∷ []) both

  pub off_within : length (put_off (take i ns) (take i bs)) + length (put_off (get_or ns i d ∷ []) (get_or bs i a ∷ [])) ≤ length (put_off ns bs)
  off_within =
      let more : length (take (i + 1) ns) ≡ length (take (i + 1) bs) = length-take-le (i + 1) ns (omega arith) ∙ sym (length-take-le (i + 1) bs (omega arith)) in
      let whole = (λ j. put_off (sym (take-append-drop (i + 1) ns) j) (sym (take-append-drop (i + 1) bs) j)) ∙ off_apart (take (i + 1) ns) (drop (i + 1) ns) (take (i + 1) bs) (drop (i + 1) bs) more in
      let e = ap length whole in
      let b = length-append (put_off (take (i + 1) ns) (take (i + 1) bs)) (put_off (drop (i + 1) ns) (drop (i + 1) bs)) in
      let c = ap length off_more in
      let f = length-append (put_off (take i ns) (take i bs)) (put_off (get_or ns i d ∷ []) (get_or bs i a ∷ [])) in
      omega arith

-- names without an answer are not put off
pub off_rest : (ns : List Name) (bs : List Answer) → put_off (take (length bs) ns) bs ≡ put_off ns bs
off_rest [] [] = refl
off_rest [] (b ∷ bs) = refl
off_rest (n ∷ ns) [] = refl
off_rest (n ∷ ns) (Ok d ∷ bs) = off_rest ns bs
off_rest (n ∷ ns) (Err r ∷ bs) = ap (λ (xs : List Name). n ∷ xs) (off_rest ns bs)

-- of passes one after the other
pub all_off_apart : (ds es : List Joined) → all_put_off (ds ++ es) ≡ all_put_off ds ++ all_put_off es
all_off_apart [] es = refl
all_off_apart (d ∷ ds) es = ap (λ (xs : List Name). put_off d.names.items d.answers.items ++ xs) (all_off_apart ds es) ∙ sym (append_assoc (put_off d.names.items d.answers.items) (all_put_off ds) (all_put_off es))

append_nil : (xs : List Name) → xs ++ [] ≡ xs
append_nil [] = refl
append_nil (x ∷ xs) = ap (λ (ys : List Name). x ∷ ys) (append_nil xs)

module _ (ds : List Joined) (i : ℕ) (d : Joined) (l : i < length ds) where
  -- the first i passes, and one more
  pub all_off_more : all_put_off (take (i + 1) ds) ≡ all_put_off (take i ds) ++ put_off (get_or ds i d).names.items (get_or ds i d).answers.items
  all_off_more = ap all_put_off (take_more ds i d l) ∙ all_off_apart (take i ds) (get_or ds i d ∷ []) ∙ ap (λ (xs : List Name). all_put_off (take i ds) ++ xs) (append_nil (put_off (get_or ds i d).names.items (get_or ds i d).answers.items))

  pub all_off_within : length (all_put_off (take i ds)) + length (put_off (get_or ds i d).names.items (get_or ds i d).answers.items) ≤ length (all_put_off ds)
  all_off_within =
      let e = ap length (ap all_put_off (sym (take-append-drop (i + 1) ds)) ∙ all_off_apart (take (i + 1) ds) (drop (i + 1) ds)) in
      let b = length-append (all_put_off (take (i + 1) ds)) (all_put_off (drop (i + 1) ds)) in
      let c = ap length all_off_more in
      let f = length-append (all_put_off (take i ds)) (put_off (get_or ds i d).names.items (get_or ds i d).answers.items) in
      omega arith
