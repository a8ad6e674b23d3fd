-- Names that are known as bisected, once passes and worker 0 are joined.
use Rattle.std.proofs.Common.{◌≡◌, ◌+◌, ◌≤◌, List, [], ◌∷◌, ◌++◌, All, None, length, map, reverse, refl, sym, ap, subst, arith}
use Rattle.std.specs.Prelude.{Ok, Err}
use Rattle.std.proofs.lemmas.List.{length-append}
use Rattle.std.proofs.lemmas.List.Elements.{All-nil, All-cons, All-head, All-tail}
use Rattle.mesh_names.specs.Names.{Name}
use Rattle.table_words.specs.Entries.{HasEntry}
use Rattle.table_words.specs.NameWords.{name_code}
use Rattle.mesh_table.specs.Sights.{Sight}
use Rattle.table_passes.specs.Answers.{Answer}
use Rattle.table_passes.specs.declared.work.Joined.{Joined}
use Rattle.shared_rounds.specs.FirstHalf.{AllKnown}
use Rattle.shared_rounds.specs.Reached.{IsReached, Reaches, all_put_off, put_off}
use Rattle.shared_rounds.specs.Room.{count_all}
use Rattle.shared_rounds.proofs.Joining.{KnowsMore, reversed}

-- a property of a name, of all
abbrev KnownIn : Sight → Name → Type 0
KnownIn v n = HasEntry v.work.known (name_code n)

known_left : (v : Sight) (ns ms : List Name) → AllKnown v (ns ++ ms) → AllKnown v ns
known_left v [] ms h = All-nil (KnownIn v)
known_left v (n ∷ ns) ms h = All-cons (KnownIn v) n ns (All-head (KnownIn v) n (ns ++ ms) h) (known_left v ns ms (All-tail (KnownIn v) n (ns ++ ms) h))

known_right : (v : Sight) (ns ms : List Name) → AllKnown v (ns ++ ms) → AllKnown v ms
known_right v [] ms h = h
known_right v (n ∷ ns) ms h = known_right v ns ms (All-tail (KnownIn v) n (ns ++ ms) h)

module _ (w v : Sight) (more : KnowsMore w v) where
  -- the names that were not put off are known, and so are the others
  reached_known : (ns : List Name) (bs : List Answer) → length bs ≡ length ns → Reaches w ns bs → AllKnown v (put_off ns bs) → AllKnown v ns
  reached_known [] bs e r h = All-nil (KnownIn v)
  reached_known (n ∷ ns) [] e r h = absurd r
  reached_known (n ∷ ns) (Ok done ∷ bs) e r h = All-cons (KnownIn v) n ns (more (name_code n) r.0) (reached_known ns bs (omega arith) r.1 h)
  reached_known (n ∷ ns) (Err refusal ∷ bs) e r h = All-cons (KnownIn v) n ns (All-head (KnownIn v) n (put_off ns bs) h) (reached_known ns bs (omega arith) r (All-tail (KnownIn v) n (put_off ns bs) h))

  pub all_known : (ds : List Joined) → All (λ d. d.lists.failed ≡ None → IsReached w d) ds → All (λ d. d.lists.failed ≡ None) ds → AllKnown v (all_put_off ds) → All (AllKnown v) (map (λ (d : Joined). d.names.items) ds)
  all_known [] r none h = All-nil (AllKnown v)
  all_known (d ∷ ds) r none h =
      let here = All-head (λ (d : Joined). d.lists.failed ≡ None → IsReached w d) d ds r (All-head (λ (d : Joined). d.lists.failed ≡ None) d ds none) in
      All-cons (AllKnown v) d.names.items (map (λ (d : Joined). d.names.items) ds)
      (reached_known d.names.items d.answers.items here.all here.known (known_left v (put_off d.names.items d.answers.items) (all_put_off ds) h))
      (all_known ds (All-tail (λ (d : Joined). d.lists.failed ≡ None → IsReached w d) d ds r) (All-tail (λ (d : Joined). d.lists.failed ≡ None) d ds none) (known_right v (put_off d.names.items d.answers.items) (all_put_off ds) h))

-- where nothing was put off, all names are known
pub whole_known : (v : Sight) (ds : List Joined) → All (λ d. d.lists.failed ≡ None → IsReached v d) ds → All (λ d. d.lists.failed ≡ None) ds
    → All (λ d. d.lists.failed ≡ None → put_off d.names.items d.answers.items ≡ []) ds → All (AllKnown v) (map (λ (d : Joined). d.names.items) ds)
whole_known v ds r none whole = all_known v v (λ i h. h) ds r none (subst (AllKnown v) (sym (off_none ds none whole)) (All-nil (KnownIn v)))
  where
    off_none : (ds : List Joined) → All (λ d. d.lists.failed ≡ None) ds → All (λ d. d.lists.failed ≡ None → put_off d.names.items d.answers.items ≡ []) ds → all_put_off ds ≡ []
    off_none [] none whole = refl
    off_none (d ∷ ds) none whole = (λ i. All-head (λ (d : Joined). d.lists.failed ≡ None → put_off d.names.items d.answers.items ≡ []) d ds whole (All-head (λ (d : Joined). d.lists.failed ≡ None) d ds none) i
        ++ off_none ds (All-tail (λ (d : Joined). d.lists.failed ≡ None) d ds none) (All-tail (λ (d : Joined). d.lists.failed ≡ None → put_off d.names.items d.answers.items ≡ []) d ds whole) i)

-- no more names are put off than there are
off_few : (ns : List Name) (bs : List Answer) → length (put_off ns bs) ≤ length ns
off_few [] bs = omega arith
off_few (n ∷ ns) [] = omega arith
off_few (n ∷ ns) (Ok done ∷ bs) = let e = off_few ns bs in omega arith
off_few (n ∷ ns) (Err refusal ∷ bs) = let e = off_few ns bs in omega arith

pub all_off_few : (ds : List Joined) → length (all_put_off ds) ≤ count_all (map (λ (d : Joined). d.names.items) ds)
all_off_few [] = omega arith
all_off_few (d ∷ ds) =
    let a = off_few d.names.items d.answers.items in
    let b = all_off_few ds in
    let c = length-append (put_off d.names.items d.answers.items) (all_put_off ds) in
    omega arith

pub count_both : (xs ys : List (List Name)) → count_all (xs ++ ys) ≡ count_all xs + count_all ys
count_both [] ys = omega arith
count_both (x ∷ xs) ys = let e = count_both xs ys in omega arith

pub count_reversed : (xs : List (List Name)) → count_all (reverse xs) ≡ count_all xs
count_reversed [] = refl
count_reversed (x ∷ xs) = let a = ap count_all (reversed x xs) in let b = count_both (reverse xs) (x ∷ []) in let c = count_reversed xs in omega arith

-- what holds of all names holds of those that were put off
off_hold : (P : Name → Type 0) (ns : List Name) (bs : List Answer) → All P ns → All P (put_off ns bs)
off_hold P [] bs h = All-nil P
off_hold P (n ∷ ns) [] h = All-nil P
off_hold P (n ∷ ns) (Ok done ∷ bs) h = off_hold P ns bs (All-tail P n ns h)
off_hold P (n ∷ ns) (Err refusal ∷ bs) h = All-cons P n (put_off ns bs) (All-head P n ns h) (off_hold P ns bs (All-tail P n ns h))

both_hold : (P : Name → Type 0) (ns ms : List Name) → All P ns → All P ms → All P (ns ++ ms)
both_hold P [] ms a b = b
both_hold P (n ∷ ns) ms a b = All-cons P n (ns ++ ms) (All-head P n ns a) (both_hold P ns ms (All-tail P n ns a) b)

pub all_off_hold : (P : Name → Type 0) (ds : List Joined) → All (All P) (map (λ (d : Joined). d.names.items) ds) → All P (all_put_off ds)
all_off_hold P [] h = All-nil P
all_off_hold P (d ∷ ds) h = both_hold P (put_off d.names.items d.answers.items) (all_put_off ds)
    (off_hold P d.names.items d.answers.items (All-head (All P) d.names.items (map (λ (d : Joined). d.names.items) ds) h))
    (all_off_hold P ds (All-tail (All P) d.names.items (map (λ (d : Joined). d.names.items) ds) h))
