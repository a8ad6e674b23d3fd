-- Lists of published patches, as a pass learns, publishes one more, or gets no block.
use Rattle.std.proofs.Common.{◌≡◌, ℕ, zero, suc, ◌+◌, ◌-◌, ◌⊎◌, ◌*◌, ◌<◌, ◌≤◌, ◌==◌, Bool, true, false, cond, eqb, List, [], ◌∷◌, ◌++◌, map, length, length-append, Some, ◌||◌, refl, sym, ap, ◌∙◌, subst, arith, inl, inr, ⊎_elim, ne_eqb, eq-eqb, All}
use Rattle.std.specs.List.{AllByRecursion, IsDistinct, list_any}
use Rattle.std.proofs.lemmas.List.{length-map}
use Rattle.std.proofs.lemmas.List.Elements.{All-push}
use Rattle.std.proofs.lemmas.Map.Steps.{length-le_from_distinct_below}
use mathlib.Core.Logic.{dite}
use native.Mathlib.Decide.{ℕ_discrete}
use Rattle.table_words.specs.Claims.{Progress, Claimed, Failed, Drawn, Half, Whole, Living, Claim, claim, moved_on}
use Rattle.table_words.specs.Entries.{HasEntry}
use Rattle.table_words.specs.declared.layout.Layout.{Layout}
use Rattle.table_words.specs.NameWords.{name_code}
use Rattle.table_words.specs.Places.{child_place, place_number}
use Rattle.table_words.specs.Setup.{Setup}
use Rattle.mesh_table.specs.Lost.{KnowsPatch}
use Rattle.mesh_table.specs.Sights.{Sight, setup_at}
use Rattle.mesh_table.specs.Told.{arrived, codes, mate_number}
use Rattle.mesh_table.specs.declared.rule.Site.{Site}
use Rattle.patch_walk.specs.Wiser.{Wiser}
use Rattle.patch_walk.specs.Works.{Works}
use Rattle.patch_claims.specs.Claims.{AreApart, IsFree, IsUnused}
use Rattle.patch_claims.specs.Ends.{Gained, NamesApart, IsUnfound}
use Rattle.patch_claims.specs.Listed.{AreKept, AreListed, AreWithin, IsOwn, IsPublished, IsUnclaimed, claim_of, claims_before}
use Rattle.patch_claims.specs.declared.patch.Patch.{Patch}
use Rattle.patch_claims.specs.declared.patch.Spot.{Spot}

-- Claims that go on

head_twice : (c : Claim) (x : ℕ) (p q : Progress) (t : Bool) → (c.place == x) ≡ t → cond ((cond t (claim x c.mate p) c).place == x) (claim x (cond t (claim x c.mate p) c).mate q) (cond t (claim x c.mate p) c) ≡ cond t (claim x c.mate q) c
head_twice c x p q true e = ap (λ b. cond b (claim x c.mate q) (claim x c.mate p)) (eq-eqb x x refl)
head_twice c x p q false e = ap (λ b. cond b (claim x c.mate q) c) e

pub moved_twice : (cs : List Claim) (x : ℕ) (p q : Progress) → moved_on (moved_on cs x p) x q ≡ moved_on cs x q
moved_twice [] x p q = refl
moved_twice (c ∷ cs) x p q = λ i. head_twice c x p q (c.place == x) refl i ∷ moved_twice cs x p q i

moved_free : (cs : List Claim) (x : ℕ) (q : Progress) → IsFree cs x → moved_on cs x q ≡ cs
moved_free [] x q free = refl
moved_free (c ∷ cs) x q free = λ i. ap (λ b. cond b (claim x c.mate q) c) (ne_eqb c.place x (free c (inl refl))) i ∷ moved_free cs x q (λ d h. free d (inr h)) i

pub moved_head : (cs : List Claim) (x m : ℕ) (p q : Progress) → IsFree cs x → moved_on (claim x m p ∷ cs) x q ≡ claim x m q ∷ cs
moved_head cs x m p q free = λ i. ap (λ b. cond b (claim x m q) (claim x m p)) (eq-eqb x x refl) i ∷ moved_free cs x q free i

-- The list of patches

pub claims_last : (l : Layout) (ps : List Patch) (p : Patch) (cs : List Claim) → claims_before l (ps ++ p ∷ []) cs ≡ claim_of l p ∷ claims_before l ps cs
claims_last l [] p cs = refl
claims_last l (q ∷ ps) p cs = claims_last l ps p (claim_of l q ∷ cs)

claims_length : (l : Layout) (ps : List Patch) (cs : List Claim) → length (claims_before l ps cs) ≡ length ps + length cs
claims_length l [] cs = let e : length cs ≡ 0 + length cs = omega arith in e
claims_length l (p ∷ ps) cs = let e = claims_length l ps (claim_of l p ∷ cs) in omega arith

abbrev block_in : Progress → ℕ
block_in Claimed = 0
block_in Failed = 0
block_in (Drawn b) = 0
block_in (Half b) = 0
block_in (Whole b) = 0
block_in (Living b) = b

abbrev block_no : Claim → ℕ
block_no c = block_in c.progress

living_one : (a b : ℕ) → Living a ≡ Living b → a ≡ b
living_one a b e = ap block_in e

published_on : (l : Layout) (u v : Sight) → ((a : ℕ × ℕ) → HasEntry u.work.found a → HasEntry v.work.found a) → ((a : ℕ) → HasEntry u.work.known a → HasEntry v.work.known a) → (p : Patch) → IsPublished l u p → IsPublished l v p
published_on l u v found known p h = record { room = h.room; within = h.within; found = found _ h.found; known = λ k e. known k (h.known k e) }

own_on : (s : Setup) (u v : Sight) → ((a : ℕ × ℕ) → HasEntry u.work.found a → HasEntry v.work.found a) → ((a : ℕ) → HasEntry u.work.known a → HasEntry v.work.known a) → (c : Claim) → IsOwn s u c → IsOwn s v c
own_on s u v found known c h = record {
  block = h.block;
  lives = h.lives;
  room = h.room;
  first = h.first;
  found = found _ h.found;
  known = (known _ h.known.0, λ i e. known _ (h.known.1 i e));
  side = h.side;
  child = h.child;
  below = found _ h.below;
}

module _ (k : Site) (u v : Sight) (ps : List Patch) where
  pub listed_on : (cs : List Claim) → ((a : ℕ × ℕ) → HasEntry u.work.found a → HasEntry v.work.found a) → ((a : ℕ) → HasEntry u.work.known a → HasEntry v.work.known a) → AreListed k u cs ps → AreListed k v cs ps
  listed_on cs found known h = record {
    claims = h.claims;
    each = λ j d l. published_on k.layout u v found known _ (h.each j d l);
    own = λ c e. own_on (setup_at k) u v found known c (h.own c e);
    apart = h.apart;
  }

  pub listed_same : v.claims ≡ u.claims → ((a : ℕ × ℕ) → HasEntry u.work.found a → HasEntry v.work.found a) → ((a : ℕ) → HasEntry u.work.known a → HasEntry v.work.known a) → AreListed k u u.claims ps → AreListed k v v.claims ps
  listed_same same found known h = subst (λ (cs : List Claim). AreListed k v cs ps) (sym same) (listed_on u.claims found known h)

module _ (k : Site) (u : Sight) (cs : List Claim) (ps : List Patch) (h : AreListed k u cs ps) where
  -- a block of which no child is found is not one of theirs
  pub unused_listed : (b : ℕ) → IsUnfound (setup_at k) u b → IsUnused cs b
  unused_listed b unfound c has lives =
      let o = h.own c has in
      let same : o.block ≡ b = living_one o.block b (sym o.lives ∙ lives) in
      by o.side o.child (subst (λ (a : ℕ). HasEntry u.work.found (child_place (setup_at k).elements a o.side false, o.child)) same o.below)
    where
      by : (t : Bool) (a : ℕ) → HasEntry u.work.found (child_place (setup_at k).elements b t false, a) → ⊥
      by false a e = unfound _ a 0 e (omega arith) (omega arith)
      by true a e = unfound _ a 2 e (omega arith) (omega arith)

  abbrev Lives : List Claim → Type 0
  Lives ds = (c : Claim) → HasEntry ds c → (b : ℕ) × (c.progress ≡ Living b) × (b < k.layout.pool)

  lives : Lives cs
  lives c e = let o = h.own c e in (o.block, o.lives, o.room)

  others : (b : ℕ) (ds : List Claim) → Lives ds → IsUnused ds b → AllByRecursion (λ y. eqb b y ≡ false) (map block_no ds)
  others b [] all unused = tt
  others b (d ∷ ds) all unused =
      let a = all d (inl refl) in
      (ne_eqb b (block_no d) (λ e. unused d (inl refl) (a.1 ∙ ap Living (sym (ap block_in a.1) ∙ sym e))), others b ds (λ c t. all c (inr t)) (λ c t. unused c (inr t)))

  distinct : (ds : List Claim) → Lives ds → AreApart ds → IsDistinct eqb (map block_no ds)
  unfolding IsDistinct
  distinct [] all apart = tt
  distinct (d ∷ ds) all apart =
      let a = all d (inl refl) in
      (others (block_no d) ds (λ c t. all c (inr t)) (apart.1 (block_no d) (a.1 ∙ ap Living (sym (ap block_in a.1)))), distinct ds (λ c t. all c (inr t)) apart.2)

  below : (ds : List Claim) → Lives ds → (q : ℕ) → list_any (eqb q) (map block_no ds) ≡ true → q < k.layout.pool
  below [] all q e = absurd (cc)
  below (d ∷ ds) all q e = dite (ℕ_discrete q (block_no d))
      (λ same. let a = all d (inl refl) in let t : block_no d ≡ a.0 = ap block_in a.1 in let low = a.2 in omega arith)
      (λ ne. below ds (λ c t. all c (inr t)) q (sym (ap (λ (b : Bool). b || list_any (eqb q) (map block_no ds)) (ne_eqb q (block_no d) ne)) ∙ e))

  -- the list has room in as many places as the pool has blocks
  pub listed_few : length ps ≤ k.layout.pool
  listed_few =
      let few = length-le_from_distinct_below (map block_no cs) k.layout.pool (distinct cs lives h.apart) (below cs lives) in
      let same : length (map block_no cs) ≡ length cs = length-map cs block_no in
      let long : length cs ≡ length ps + 0 = ap length h.claims ∙ claims_length k.layout ps [] in
      omega arith

-- a name that is not known as bisected is of no patch that was claimed
pub unclaimed_seen : (k : Site) (u v : Sight) (ps : List Patch) (n : ℕ) → Wiser u v → AreListed k u u.claims ps → (HasEntry u.work.known n → ⊥) → 0 < n → IsUnclaimed (setup_at k) v n
unclaimed_seen k u v ps n wiser h unknown some c has =
    let o = h.own c (subst (λ (cs : List Claim). HasEntry cs c) wiser.claims has) in
    let up : n ≡ n - 1 + 1 = omega arith in
    (o.first, wiser.found _ o.found, (λ e. unknown (subst (HasEntry u.work.known) e o.known.0)), λ e. unknown (subst (HasEntry u.work.known) (sym up) (o.known.1 (n - 1) (e ∙ up))))

-- so the place of its first member has no claim
pub free_place : (s : Setup) (v : Sight) (x first n : ℕ) → IsUnclaimed s v n → NamesApart v → HasEntry v.work.found (x, first) → ((first ≡ n) ⊎ (s.mate first ≡ n)) → IsFree v.claims x
free_place s v x first n unclaimed apart found which c has same =
    let o = unclaimed c has in
    let one : o.0 ≡ first = apart x o.0 first (subst (λ (z : ℕ). HasEntry v.work.found (z, o.0)) same o.1) found in
    ⊎_elim (λ e. o.2 (one ∙ e)) (λ e. o.3 (ap s.mate one ∙ e)) which

-- publication of one more
module _ (k : Site) (u v : Sight) (ps : List Patch) (p : Patch) where
  pub listed_more : AreListed k u u.claims ps → v.claims ≡ claim_of k.layout p ∷ u.claims → ((a : ℕ × ℕ) → HasEntry u.work.found a → HasEntry v.work.found a) → ((a : ℕ) → HasEntry u.work.known a → HasEntry v.work.known a)
      → IsPublished k.layout v p → IsOwn (setup_at k) v (claim_of k.layout p) → IsFree u.claims (place_number k.layout p.spot.first) → IsUnused u.claims p.block → AreListed k v v.claims (ps ++ p ∷ [])
  listed_more h gained found known new own free unused = subst (λ (cs : List Claim). AreListed k v cs (ps ++ p ∷ [])) (sym gained) (record {
    claims = ap (λ (cs : List Claim). claim_of k.layout p ∷ cs) h.claims ∙ sym (claims_last k.layout ps p []);
    each = All-push (IsPublished k.layout v) ps p (λ j d l. published_on k.layout u v found known _ (h.each j d l)) new;
    own = λ c e. ⊎_elim (λ s. subst (IsOwn (setup_at k) v) (sym s) own) (λ t. own_on (setup_at k) u v found known c (h.own c t)) e;
    apart = (free, (λ b l. subst (IsUnused u.claims) (living_one p.block b l) unused), h.apart);
  })

-- and the pass comes to its own block
module _ (k : Site) (u v : Sight) (ps : List Patch) (p : Patch) (h : AreListed k u u.claims ps) (works : Works u v) (z c : ℕ) (t : Bool)
    (gained : Gained u v (claim_of k.layout p)) (free : IsFree u.claims (place_number k.layout p.spot.first)) (unfound : IsUnfound (setup_at k) u p.block) (room : p.block < k.layout.pool) (within : AreWithin k.layout p.spot)
    (found : HasEntry u.work.found (place_number k.layout p.spot.first, name_code p.name.first)) (names : (i : ℕ) → HasEntry (codes p.name.first p.name.second) i → HasEntry v.work.known i)
    (both : KnowsPatch (setup_at k) v (name_code p.name.first)) where
  abbrev w : Sight
  w = arrived (setup_at k) z c p.block t v

  pub listed_own : AreListed k w w.claims (ps ++ p ∷ [])
  listed_own = listed_more k u w ps p h (gained free) (λ a e. inr (inr (works.found a e))) (λ a e. inr (works.known a e))
      (record { room = room; within = within; found = inr (inr (works.found _ found)); known = λ i e. inr (names i e) })
      (record {
        block = p.block;
        lives = refl;
        room = room;
        first = name_code p.name.first;
        found = inr (inr (works.found _ found));
        known = (inr both.0, λ i e. inr (both.1 i e));
        side = t;
        child = (setup_at k).child c false;
        below = inl refl;
      })
      free (unused_listed k u u.claims ps h p.block unfound)

  pub listed_room : (size : ℕ) → k.layout.pool ≤ size → length ps < size
  listed_room size enough =
      let few = listed_few k w w.claims (ps ++ p ∷ []) listed_own in
      let long : length (ps ++ p ∷ []) ≡ length ps + 1 = length-append ps (p ∷ []) in
      omega arith

-- a draw found no block for one more
pub kept_failed : (k : Site) (u v : Sight) (ps : List Patch) (spot : Spot) → AreListed k u u.claims ps → Works u v → Gained u v (claim (place_number k.layout spot.first) (mate_number k.layout spot.second) Failed)
    → IsFree u.claims (place_number k.layout spot.first) → AreWithin k.layout spot → AreKept k v ps (Some spot)
kept_failed k u v ps spot h works gained free within = (u.claims, gained free, free, within, listed_on k u v ps u.claims works.found works.known h)

-- a walk leaves the list
pub seen_list : (k : Site) (u v : Sight) (ps : List Patch) → Wiser u v → AreListed k u u.claims ps → AreListed k v v.claims ps
seen_list k u v ps w h = listed_same k u v ps w.claims w.found w.known h
