-- The first half of a round, whole.
use Rattle.std.proofs.Common.{◌≡◌, ℕ, ◌+◌, ◌-◌, ◌≤◌, List, [], ◌∷◌, ◌++◌, All, None, false, true, length, map, reverse, sym, ap, ◌∙◌, subst, arith}
use Rattle.std.proofs.lemmas.List.{length-append, length-map, length-reverse, reverse-reverse}
use Rattle.std.proofs.lemmas.List.Elements.{All-nil, All-cons, All-head, All-tail}
use Rattle.mesh_names.specs.Names.{Name}
use Rattle.table_words.specs.Claims.{Claim, Failed, claim}
use Rattle.table_words.specs.Entries.{HasEntry}
use Rattle.table_words.specs.Views.{Ruling}
use Rattle.table_words.proofs.Entries.{entry_right}
use Rattle.mesh_table.specs.Crews.{ClaimsLive, left_lone}
use Rattle.mesh_table.specs.Sights.{Sight, setup_at}
use Rattle.mesh_table.specs.declared.rule.Site.{Site}
use Rattle.table_passes.specs.Kept.{all_claims}
use Rattle.table_passes.specs.declared.lists.Lists.{Lists}
use Rattle.table_passes.specs.declared.work.Joined.{Joined}
use Rattle.shared_rounds.specs.Claims.{ClaimsTold}
use Rattle.shared_rounds.specs.FirstHalf.{AllKnown, IsOverfull, IsRefined}
use Rattle.shared_rounds.specs.Gathered.{all_blocks, all_held, living_claim}
use Rattle.shared_rounds.specs.Reached.{AreInside, HasJoined, all_put_off, put_off}
use Rattle.shared_rounds.specs.Room.{count_all}
use Rattle.shared_rounds.proofs.Joining.{all_reversed}
use Rattle.shared_rounds.proofs.Knowing.{all_known, all_off_few, count_reversed, whole_known}
use Rattle.shared_rounds.proofs.Listing.{all_fit, are_held, blocks_live, claims_apart, claims_blocks, claims_held, held_all_fit, sweepable}
use Rattle.shared_rounds.proofs.Piles.{blocks_apart, held_apart}
use Rattle.shared_rounds.proofs.Rooms.{room_blocks, room_held}

abbrev lists : List Joined → List Lists
lists ds = map (λ (d : Joined). d.lists) ds

abbrev names_of : List Joined → List (List Name)
names_of ds = map (λ (d : Joined). d.names.items) ds

abbrev HasNone : Joined → Type 0
HasNone d = d.lists.failed ≡ None

none_lists : (ds : List Joined) → All HasNone ds → All (λ (a : Lists). a.failed ≡ None) (lists ds)
none_lists [] h = All-nil (λ (a : Lists). a.failed ≡ None)
none_lists (d ∷ ds) h = All-cons (λ (a : Lists). a.failed ≡ None) d.lists (lists ds) (All-head HasNone d ds h) (none_lists ds (All-tail HasNone d ds h))

inside_lists : (k : Site) (ds : List Joined) → All (λ (d : Joined). AreInside k.layout d.lists) ds → All (AreInside k.layout) (lists ds)
inside_lists k [] h = All-nil (AreInside k.layout)
inside_lists k (d ∷ ds) h = All-cons (AreInside k.layout) d.lists (lists ds) (All-head (λ (d : Joined). AreInside k.layout d.lists) d ds h)
    (inside_lists k ds (All-tail (λ (d : Joined). AreInside k.layout d.lists) d ds h))

both_all : {A : Type 0} (P : A → Type 0) (xs ys : List A) → All P xs → All P ys → All P (xs ++ ys)
both_all P [] ys a b = b
both_all P (x ∷ xs) ys a b = All-cons P x (xs ++ ys) (All-head P x xs a) (both_all P xs ys (All-tail P x xs a) b)

-- The passes are joined
module _ (k : Site) (u w : Sight) (tasks : List (List Name)) (ds : List Joined) (joined : HasJoined k.layout u w ds) (out : u.ruling.workers ≡ length tasks) (dealt : names_of ds ≡ reverse tasks)
    (new : u.claims ≡ []) (alone : u.ruling.lone ≡ false) (told : ClaimsTold (setup_at k) w) where
  count : length ds ≡ length tasks
  count = sym (length-map ds (λ (d : Joined). d.names.items)) ∙ ap length dealt ∙ length-reverse tasks

  pub first_home : w.ruling.workers ≡ 0
  first_home = let a = ap (λ (r : Ruling). r.workers) joined.ruling in let b = count in let c = out in omega arith

  first_ruling : w.ruling ≡ record u.ruling { workers = 0; lone = false }
  first_ruling = joined.ruling ∙ (λ i. record u.ruling { workers = none i; lone = joined.alone alone i })
    where
      none : u.ruling.workers - length ds ≡ 0
      none = let b = count in let c = out in omega arith

  first_claims : w.claims ≡ all_claims k.layout (lists ds)
  first_claims = joined.claims ∙ ap (λ (cs : List Claim). cs ++ all_claims k.layout (lists ds)) new

  pub first_room : length (all_held (lists ds)) ≤ k.layout.pool + length tasks
  first_room = let a = room_held (setup_at k) k.layout w (lists ds) told first_claims in let b = length-map ds (λ (d : Joined). d.lists) in let c = count in omega arith

  pub first_overfull : (x m : ℕ) × HasEntry (all_claims k.layout (lists ds)) (claim x m Failed) → IsOverfull (setup_at k) k.layout u w (all_held (lists ds))
  first_overfull t = record {
    kind = joined.kind;
    ruling = first_ruling;
    fits = held_all_fit k.layout (lists ds) (inside_lists k ds joined.inside);
    claims = are_held k.layout w told.once (all_held (lists ds)) (first_claims ∙ claims_held k.layout (lists ds));
    cause = told.fits t.0 t.1 (subst (λ (cs : List Claim). HasEntry cs (claim t.0 t.1 Failed)) (sym first_claims) t.2);
  }

  pub first_living : All HasNone ds → ClaimsLive w
  first_living none = blocks_live k.layout w (all_blocks (lists ds)) (first_claims ∙ claims_blocks k.layout (lists ds) (none_lists ds none))

  pub first_off : length (all_put_off ds) ≤ count_all tasks
  first_off = let a = all_off_few ds in let b = ap count_all dealt in let c = count_reversed tasks in omega arith

  pub first_aimed : (P : List Name → Type 0) → All P tasks → All P (names_of ds)
  first_aimed P h = subst (All P) (sym dealt) (all_reversed P tasks h)

  -- and then worker 0's
  module _ (v : Sight) (es : List Joined) (after : HasJoined k.layout (left_lone w true) v es) (rest : names_of es ≡ all_put_off ds ∷ []) (now : ClaimsTold (setup_at k) v) where
    one : length es ≡ 1
    one = sym (length-map es (λ (d : Joined). d.names.items)) ∙ ap length rest

    last_ruling : v.ruling ≡ record u.ruling { workers = 0; lone = false }
    last_ruling = after.ruling ∙ (λ i. record (first_ruling i) { workers = none i; lone = after.last (let n = one in omega arith) i })
      where
        none : w.ruling.workers + 1 - length es ≡ 0
        none = let a = first_home in let b = one in omega arith

    last_claims : v.claims ≡ all_claims k.layout (lists ds ++ lists es)
    last_claims = after.claims ∙ (λ i. first_claims i ++ all_claims k.layout (lists es)) ∙ sym (claims_apart k.layout (lists ds) (lists es))

    inside : All (AreInside k.layout) (lists ds ++ lists es)
    inside = both_all (AreInside k.layout) (lists ds) (lists es) (inside_lists k ds joined.inside) (inside_lists k es after.inside)

    pub last_room : length (all_held (lists ds)) + length (all_held (lists es)) ≤ k.layout.pool + length tasks + 1
    last_room =
        let a = room_held (setup_at k) k.layout v (lists ds ++ lists es) now last_claims in
        let b = ap length (held_apart (lists ds) (lists es)) in
        let c = length-append (all_held (lists ds)) (all_held (lists es)) in
        let d = length-append (lists ds) (lists es) in
        let e = length-map ds (λ (d : Joined). d.lists) in
        let f = length-map es (λ (d : Joined). d.lists) in
        let g = count in
        let h = one in
        omega arith

    pub last_blocks : length (all_blocks (lists ds)) + length (all_blocks (lists es)) ≤ k.layout.pool
    last_blocks =
        let a = room_blocks (setup_at k) k.layout v (lists ds ++ lists es) now last_claims in
        let b = ap length (blocks_apart (lists ds) (lists es)) in
        let c = length-append (all_blocks (lists ds)) (all_blocks (lists es)) in
        omega arith

    pub last_overfull : (x m : ℕ) × HasEntry (all_claims k.layout (lists es)) (claim x m Failed) → IsOverfull (setup_at k) k.layout u v (all_held (lists ds) ++ all_held (lists es))
    last_overfull t = subst (IsOverfull (setup_at k) k.layout u v) (held_apart (lists ds) (lists es)) record {
      kind = after.kind ∙ joined.kind;
      ruling = last_ruling;
      fits = held_all_fit k.layout (lists ds ++ lists es) inside;
      claims = are_held k.layout v now.once (all_held (lists ds ++ lists es)) (last_claims ∙ claims_held k.layout (lists ds ++ lists es));
      cause = now.fits t.0 t.1 (subst (λ (cs : List Claim). HasEntry cs (claim t.0 t.1 Failed)) (sym (after.claims))
          (entry_right w.claims (all_claims k.layout (lists es)) (claim t.0 t.1 Failed) t.2));
    }

    pub last_refined : All HasNone ds → All HasNone es → All (λ (d : Joined). d.lists.failed ≡ None → put_off d.names.items d.answers.items ≡ []) es
        → IsRefined k.layout u v tasks (all_blocks (lists ds) ++ all_blocks (lists es))
    last_refined none none_last whole = subst (IsRefined k.layout u v tasks) (blocks_apart (lists ds) (lists es)) record {
      kind = after.kind ∙ joined.kind;
      ruling = last_ruling;
      known = subst (All (AllKnown v)) (ap reverse dealt ∙ reverse-reverse tasks) (all_reversed (AllKnown v) (names_of ds) firsts);
      living = blocks_live k.layout v (all_blocks (lists ds ++ lists es)) claims;
      fits = all_fit k.layout (lists ds ++ lists es) inside;
      claims = sweepable k.layout v now.once (all_blocks (lists ds ++ lists es)) claims;
    }
      where
        claims : v.claims ≡ map (living_claim k.layout) (all_blocks (lists ds ++ lists es))
        claims = last_claims ∙ claims_blocks k.layout (lists ds ++ lists es) (both_all (λ (a : Lists). a.failed ≡ None) (lists ds) (lists es) (none_lists ds none) (none_lists es none_last))

        lasts : All (AllKnown v) (all_put_off ds ∷ [])
        lasts = subst (All (AllKnown v)) rest (whole_known v es after.reached none_last whole)

        firsts : All (AllKnown v) (names_of ds)
        firsts = all_known w v after.known ds joined.reached none (All-head (AllKnown v) (all_put_off ds) [] lasts)
