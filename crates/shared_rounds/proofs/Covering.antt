-- Names dealt out among passes: each is in a share, and there are no more of them together.
use Rattle.std.proofs.Common.{◌≡◌, ℕ, zero, suc, ◌+◌, ◌-◌, ◌<◌, List, [], ◌∷◌, All, false, length, map, refl, sym, ap, ◌∙◌, subst, inl, inr, arith}
use native.Mathlib.Decide.{dec_lt}
use Rattle.std.specs.List.{range_with_len}
use Rattle.std.proofs.lemmas.List.FromFn.{get_or-map-range_with_len, length-map-range_with_len, map-range_with_len_more}
use Rattle.std.proofs.lemmas.List.Elements.{All-nil, All-cons, All-head, All-tail}
use Rattle.mesh_names.specs.Names.{Name}
use Rattle.table_words.specs.Entries.{HasEntry}
use Rattle.table_words.specs.NameWords.{name_code}
use Rattle.table_words.specs.Setup.{Setup}
use Rattle.table_words.specs.Views.{FirstHalf, Owner, Ruling}
use Rattle.table_words.specs.declared.layout.Layout.{Layout}
use Rattle.mesh_table.specs.Rounds.{MayPlan}
use Rattle.mesh_table.specs.Sights.{Sight}
use Rattle.table_passes.specs.Crew.{left_by}
use Rattle.table_passes.specs.Shares.{every}
use Rattle.table_rounds.specs.declared.patch.Held.{Held}
use Rattle.table_rounds.specs.declared.patch.Patch.{Patch}
use Rattle.shared_rounds.specs.FirstHalf.{AllKnown, IsOverfull, IsRefined}
use Rattle.shared_rounds.specs.Room.{count_all}
use Rattle.shared_rounds.proofs.Knowing.{count_both}

module _ (P : Name → Type 0) (step : ℕ) (some : 0 < step) where
  covers : (ns : List Name) → ((k : ℕ) → k < step → All P (every step k ns)) → All P ns
  covers [] h = All-nil P
  covers (n ∷ ns) h = All-cons P n ns (All-head P n (every step (step - 1) ns) (h 0 some)) (covers ns (λ k l. share k l))
    where
      share : (k : ℕ) → k < step → All P (every step k ns)
      share k l = elim (dec_lt (k + 1) step) [
        | yes m ↦ h (suc k) (omega arith)
        | no o ↦ subst (λ (j : ℕ). All P (every step j ns)) (omega arith) (All-tail P n (every step (step - 1) ns) (h 0 some))
      ]

-- what holds of the names of each share holds of all
pub shares_cover : (P : Name → Type 0) (step : ℕ) (ns : List Name) → 0 < step → All (All P) (map (λ (first : ℕ). every step first ns) (range_with_len 0 step)) → All P ns
shares_cover P step ns some h = covers P step some ns (λ k l. subst (All P) (get_or-map-range_with_len (λ (first : ℕ). every step first ns) 0 step k k [] l (omega arith))
    (h k [] (let e = length-map-range_with_len (λ (first : ℕ). every step first ns) 0 step in omega arith)))

every_all : (P : Name → Type 0) (step k : ℕ) (ns : List Name) → All P ns → All P (every step k ns)
every_all P step k [] h = All-nil P
every_all P step zero (n ∷ ns) h = All-cons P n (every step (step - 1) ns) (All-head P n ns h) (every_all P step (step - 1) ns (All-tail P n ns h))
every_all P step (suc k) (n ∷ ns) h = every_all P step k ns (All-tail P n ns h)

-- and what holds of all holds of those of each share
pub all_shares : (P : Name → Type 0) (step : ℕ) (ns : List Name) (a n : ℕ) → All P ns → All (All P) (map (λ (first : ℕ). every step first ns) (range_with_len a n))
all_shares P step ns a zero h = All-nil (All P)
all_shares P step ns a (suc n) h = All-cons (All P) (every step a ns) (map (λ (first : ℕ). every step first ns) (range_with_len (a + 1) n)) (every_all P step a ns h) (all_shares P step ns (a + 1) n h)

-- How many names there are in lists of which each is told by a number
module _ where
  counts : (ℕ → List Name) → ℕ → ℕ → ℕ
  counts g a n = count_all (map g (range_with_len a n))

  counts_more : (g : ℕ → List Name) (a n : ℕ) → count_all (map g (range_with_len a (n + 1))) ≡ count_all (map g (range_with_len a n)) + length (g (a + n))
  counts_more g a n = let e = ap count_all (map-range_with_len_more g a n (a + n) refl) in let f = count_both (map g (range_with_len a n)) (g (a + n) ∷ []) in omega arith

  counts_on : (g : ℕ → List Name) (a n : ℕ) → count_all (map g (range_with_len (a + 1) n)) ≡ count_all (map (λ (k : ℕ). g (suc k)) (range_with_len a n))
  counts_on g a zero = refl
  counts_on g a (suc n) = let e : length (g (a + 1)) ≡ length (g (suc a)) = ap (λ (k : ℕ). length (g k)) (omega arith) in let f = counts_on g (a + 1) n in omega arith

  counts_none : (step a n : ℕ) → count_all (map (λ (k : ℕ). every step k []) (range_with_len a n)) ≡ 0
  counts_none step a zero = refl
  counts_none step a (suc n) = let e = counts_none step (a + 1) n in omega arith

  shares_all_counted : (step : ℕ) (ns : List Name) → count_all (map (λ (k : ℕ). every (suc step) k ns) (range_with_len 0 (suc step))) ≡ length ns
  shares_all_counted step [] = counts_none (suc step) 0 (suc step)
  shares_all_counted step (n ∷ ns) =
      let g : ℕ → List Name = λ k. every (suc step) k (n ∷ ns) in
      let h : ℕ → List Name = λ k. every (suc step) k ns in
      let a = shares_all_counted step ns in
      let b = counts_more h 0 step in
      let c = counts_on g 0 step in
      let d : length (every (suc step) (suc step - 1) ns) ≡ length (h (0 + step)) = ap (λ (j : ℕ). length (every (suc step) j ns)) (omega arith) in
      let next : suc step ≡ step + 1 = omega arith in
      let e = ap (λ (j : ℕ). count_all (map h (range_with_len 0 j))) next in
      omega arith

pub shares_counted : (step : ℕ) (ns : List Name) → 0 < step → count_all (map (λ (k : ℕ). every step k ns) (range_with_len 0 step)) ≡ length ns
shares_counted zero ns some = absurd (omega arith)
shares_counted (suc step) ns some = shares_all_counted step ns

-- the owner's view with passes more out
pub left_kind : (n : ℕ) (v : Sight) → (left_by n v).kind ≡ v.kind
left_kind zero v = refl
left_kind (suc n) v = left_kind n v

pub left_claims : (n : ℕ) (v : Sight) → (left_by n v).claims ≡ v.claims
left_claims zero v = refl
left_claims (suc n) v = left_claims n v

pub left_ruling : (n : ℕ) (v : Sight) → v.ruling.lone ≡ false → (left_by n v).ruling ≡ record v.ruling { workers = v.ruling.workers + n; lone = false }
left_ruling zero v alone = (λ i. record v.ruling { workers = more i; lone = alone i })
  where
    more : v.ruling.workers ≡ v.ruling.workers + 0
    more = omega arith
left_ruling (suc n) v alone = ap (λ (r : Ruling). record r { workers = r.workers + 1; lone = false }) (left_ruling n v alone) ∙ (λ i. record v.ruling { workers = more i; lone = false })
  where
    more : v.ruling.workers + n + 1 ≡ v.ruling.workers + suc n
    more = omega arith

-- names that are known, by their codes
pub known_codes : (v : Sight) (ns : List Name) → AllKnown v ns → (i : ℕ) → HasEntry (map name_code ns) i → HasEntry v.work.known i
known_codes v [] h i e = absurd e
known_codes v (n ∷ ns) h i (inl e) = subst (HasEntry v.work.known) (sym e) (All-head (λ (n : Name). HasEntry v.work.known (name_code n)) n ns h)
known_codes v (n ∷ ns) h i (inr e) = known_codes v ns (All-tail (λ (n : Name). HasEntry v.work.known (name_code n)) n ns h) i e

-- the first half for needs that were dealt out
module _ (s : Setup) (l : Layout) (u v : Sight) (workers : ℕ) (some : 0 < workers) (alone : u.ruling.lone ≡ false) (needs : List Name) (dealt : List (List Name))
    (shares : dealt ≡ map (λ (first : ℕ). every workers first needs) (range_with_len 0 workers)) where
  now_ruling : v.ruling ≡ record (left_by workers u).ruling { workers = 0; lone = false } → v.ruling ≡ record u.ruling { workers = 0; lone = false }
  now_ruling e = e ∙ (λ i. record (left_ruling workers u alone i) { workers = 0; lone = false })

  known_needs : All (AllKnown v) dealt → AllKnown v needs
  known_needs h = shares_cover (λ (n : Name). HasEntry v.work.known (name_code n)) workers needs some (subst (All (AllKnown v)) shares h)

  pub refined_needs : (blocks : List Patch) → IsRefined l (left_by workers u) v dealt blocks → IsRefined l u v (needs ∷ []) blocks
  refined_needs blocks r = record {
    kind = r.kind ∙ left_kind workers u;
    ruling = now_ruling r.ruling;
    known = All-cons (AllKnown v) needs [] (known_needs r.known) (All-nil (AllKnown v));
    living = r.living;
    fits = r.fits;
    claims = r.claims;
  }

  pub overfull_needs : (held : List Held) → IsOverfull s l (left_by workers u) v held → IsOverfull s l u v held
  overfull_needs held r = record { kind = r.kind ∙ left_kind workers u; ruling = now_ruling r.ruling; fits = r.fits; claims = r.claims; cause = r.cause }

  pub may_plan : u.kind ≡ Owner → u.ruling.phase ≡ FirstHalf → u.ruling.plan.needs ≡ map name_code needs → (blocks : List Patch) → IsRefined l (left_by workers u) v dealt blocks → MayPlan v
  may_plan rules half plan blocks r = record {
    rules = r.kind ∙ left_kind workers u ∙ rules;
    needs = λ i h. known_codes v needs (known_needs r.known) i
        (subst (λ (cs : List ℕ). HasEntry cs i) (ap (λ (x : Ruling). x.plan.needs) (now_ruling r.ruling) ∙ plan) h);
    half = ap (λ (x : Ruling). x.phase) (now_ruling r.ruling) ∙ half;
    home = ap (λ (x : Ruling). x.workers) (now_ruling r.ruling);
    living = r.living;
  }
