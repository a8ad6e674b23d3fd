-- The claims of passes in lists.
use Rattle.std.proofs.Common.{◌≡◌, ◌+◌, ◌<◌, ◌≤◌, List, [], ◌∷◌, ◌++◌, Option, None, Some, length, map, take, drop, get_or, refl, sym, ap, ◌∙◌, arith}
use Rattle.std.proofs.lemmas.List.{append_assoc, length-append, map-append, map-id, take-append-drop, take_more}
use Rattle.patch_claims.specs.declared.patch.Patch.{Patch as Published}
use Rattle.patch_claims.specs.declared.patch.Spot.{Spot}
use Rattle.table_passes.specs.declared.lists.Lists.{Lists}
use Rattle.table_passes.specs.declared.work.Joined.{Joined}
use Rattle.table_rounds.specs.declared.patch.Held.{Held}
use Rattle.table_rounds.specs.declared.patch.Patch.{Patch}
use Rattle.shared_rounds.specs.Gathered.{all_blocks, all_held, block_of, blocks_before, held_before, held_in, held_of, held_with}

-- the last of a list comes first
pub blocks_last : (ps : List Published) (p : Published) (rest : List Patch) → blocks_before (ps ++ p ∷ []) rest ≡ block_of p ∷ blocks_before ps rest
blocks_last [] p rest = refl
blocks_last (q ∷ ps) p rest = blocks_last ps p (block_of q ∷ rest)

pub blocks_length : (ps : List Published) (rest : List Patch) → length (blocks_before ps rest) ≡ length ps + length rest
blocks_length [] rest = omega arith
blocks_length (p ∷ ps) rest = let e = blocks_length ps (block_of p ∷ rest) in omega arith

-- one of the list more was put to the end
pub blocks_moved : (old now then : List Patch) (all rest fewer : List Published) (p : Published) → rest ≡ fewer ++ p ∷ [] → then ≡ now ++ block_of p ∷ [] → now ++ blocks_before rest [] ≡ old ++ blocks_before all []
    → then ++ blocks_before fewer [] ≡ old ++ blocks_before all []
blocks_moved old now then all rest fewer p er et e =
    ap (λ (xs : List Patch). xs ++ blocks_before fewer []) et
    ∙ append_assoc now (block_of p ∷ []) (blocks_before fewer [])
    ∙ ap (λ (xs : List Patch). now ++ xs) (sym (ap (λ (qs : List Published). blocks_before qs []) er ∙ blocks_last fewer p []))
    ∙ e

-- the blocks of one pass more
pub blocks_next : (done : List Lists) (a : Lists) → all_blocks (done ++ a ∷ []) ≡ all_blocks done ++ blocks_before a.published.items []
blocks_next [] a = append_nil (blocks_before a.published.items [])
  where
    append_nil : (ps : List Patch) → ps ++ [] ≡ ps
    append_nil [] = refl
    append_nil (p ∷ ps) = ap (λ (qs : List Patch). p ∷ qs) (append_nil ps)
blocks_next (b ∷ done) a = ap (λ (ps : List Patch). blocks_before b.published.items [] ++ ps) (blocks_next done a) ∙ sym (append_assoc (blocks_before b.published.items []) (all_blocks done) (blocks_before a.published.items []))

pub blocks_apart : (done more : List Lists) → all_blocks (done ++ more) ≡ all_blocks done ++ all_blocks more
blocks_apart [] more = refl
blocks_apart (a ∷ done) more = ap (λ (ps : List Patch). blocks_before a.published.items [] ++ ps) (blocks_apart done more) ∙ sym (append_assoc (blocks_before a.published.items []) (all_blocks done) (all_blocks more))

-- one pass more is within the list
pub blocks_within : (all done : List Joined) (d : Joined) → map (λ (x : Joined). x) done ≡ take (length done) all → length done < length all → d ≡ get_or all (length done) d
    → length (all_blocks (map (λ (x : Joined). x.lists) done)) + length d.lists.published.items ≤ length (all_blocks (map (λ (x : Joined). x.lists) all))
blocks_within all done d so_far l e =
    let n = length done in
    let lists : List Joined → List Lists = map (λ (x : Joined). x.lists) in
    let front : take (n + 1) all ≡ done ++ d ∷ [] = take_more all n d l ∙ ap (λ (x : Joined). take n all ++ x ∷ []) (sym e) ∙ ap (λ (xs : List Joined). xs ++ d ∷ []) (sym so_far ∙ map-id done) in
    let whole : all ≡ (done ++ d ∷ []) ++ drop (n + 1) all = sym (take-append-drop (n + 1) all) ∙ ap (λ (xs : List Joined). xs ++ drop (n + 1) all) front in
    let parts : all_blocks (lists all) ≡ (all_blocks (lists done) ++ blocks_before d.lists.published.items []) ++ all_blocks (lists (drop (n + 1) all)) = ap (λ (xs : List Joined). all_blocks (lists xs)) whole
    ∙ ap all_blocks (map-append (λ (x : Joined). x.lists) (done ++ d ∷ []) (drop (n + 1) all))
    ∙ blocks_apart (lists (done ++ d ∷ [])) (lists (drop (n + 1) all))
    ∙ ap (λ (ps : List Patch). ps ++ all_blocks (lists (drop (n + 1) all))) (ap all_blocks (map-append (λ (x : Joined). x.lists) done (d ∷ [])) ∙ blocks_next (lists done) d.lists) in
    let a = ap length parts in
    let b = length-append (all_blocks (lists done) ++ blocks_before d.lists.published.items []) (all_blocks (lists (drop (n + 1) all))) in
    let c = length-append (all_blocks (lists done)) (blocks_before d.lists.published.items []) in
    let f : length (blocks_before d.lists.published.items []) ≡ length d.lists.published.items + 0 = blocks_length d.lists.published.items [] in
    omega arith

-- The same of what is held: one of the list more was put to the end
held_last : (ps : List Published) (p : Published) (rest : List Held) → held_before (ps ++ p ∷ []) rest ≡ held_of p ∷ held_before ps rest
held_last [] p rest = refl
held_last (q ∷ ps) p rest = held_last ps p (held_of q ∷ rest)

pub held_length : (ps : List Published) (rest : List Held) → length (held_before ps rest) ≡ length ps + length rest
held_length [] rest = omega arith
held_length (p ∷ ps) rest = let e = held_length ps (held_of p ∷ rest) in omega arith

pub held_moved : (old now then : List Held) (all rest fewer : List Published) (p : Published) → rest ≡ fewer ++ p ∷ [] → then ≡ now ++ held_of p ∷ [] → now ++ held_before rest [] ≡ old ++ held_before all []
    → then ++ held_before fewer [] ≡ old ++ held_before all []
held_moved old now then all rest fewer p er et e =
    ap (λ (xs : List Held). xs ++ held_before fewer []) et
    ∙ append_assoc now (held_of p ∷ []) (held_before fewer [])
    ∙ ap (λ (xs : List Held). now ++ xs) (sym (ap (λ (qs : List Published). held_before qs []) er ∙ held_last fewer p []))
    ∙ e

-- the claim without a block comes first
pub with_first : (f : Option Spot) (hs : List Held) → held_with f hs ≡ held_with f [] ++ hs
with_first None hs = refl
with_first (Some spot) hs = refl

pub held_next : (done : List Lists) (a : Lists) → all_held (done ++ a ∷ []) ≡ all_held done ++ held_in a
held_next [] a = append_none (held_in a)
  where
    append_none : (ps : List Held) → ps ++ [] ≡ ps
    append_none [] = refl
    append_none (p ∷ ps) = ap (λ (qs : List Held). p ∷ qs) (append_none ps)
held_next (b ∷ done) a = ap (λ (ps : List Held). held_in b ++ ps) (held_next done a) ∙ sym (append_assoc (held_in b) (all_held done) (held_in a))

pub held_apart : (done more : List Lists) → all_held (done ++ more) ≡ all_held done ++ all_held more
held_apart [] more = refl
held_apart (a ∷ done) more = ap (λ (ps : List Held). held_in a ++ ps) (held_apart done more) ∙ sym (append_assoc (held_in a) (all_held done) (all_held more))

pub held_within : (all done : List Joined) (d : Joined) → map (λ (x : Joined). x) done ≡ take (length done) all → length done < length all → d ≡ get_or all (length done) d
    → length (all_held (map (λ (x : Joined). x.lists) done)) + length (held_in d.lists) ≤ length (all_held (map (λ (x : Joined). x.lists) all))
held_within all done d so_far l e =
    let n = length done in
    let lists : List Joined → List Lists = map (λ (x : Joined). x.lists) in
    let front : take (n + 1) all ≡ done ++ d ∷ [] = take_more all n d l ∙ ap (λ (x : Joined). take n all ++ x ∷ []) (sym e) ∙ ap (λ (xs : List Joined). xs ++ d ∷ []) (sym so_far ∙ map-id done) in
    let whole : all ≡ (done ++ d ∷ []) ++ drop (n + 1) all = sym (take-append-drop (n + 1) all) ∙ ap (λ (xs : List Joined). xs ++ drop (n + 1) all) front in
    let parts : all_held (lists all) ≡ (all_held (lists done) ++ held_in d.lists) ++ all_held (lists (drop (n + 1) all)) = ap (λ (xs : List Joined). all_held (lists xs)) whole
    ∙ ap all_held (map-append (λ (x : Joined). x.lists) (done ++ d ∷ []) (drop (n + 1) all))
    ∙ held_apart (lists (done ++ d ∷ [])) (lists (drop (n + 1) all))
    ∙ ap (λ (ps : List Held). ps ++ all_held (lists (drop (n + 1) all))) (ap all_held (map-append (λ (x : Joined). x.lists) done (d ∷ [])) ∙ held_next (lists done) d.lists) in
    let a = ap length parts in
    let b = length-append (all_held (lists done) ++ held_in d.lists) (all_held (lists (drop (n + 1) all))) in
    let c = length-append (all_held (lists done)) (held_in d.lists) in
    omega arith
