-- Claims of a refused round are rolled back.
use Rattle.std.proofs.Common.{◌≡◌, ◌≢◌, ℕ, ◌+◌, ◌<◌, ◌==◌, Bool, true, false, cond, eqb, List, [], ◌∷◌, ◌⊎◌, inl, inr, ⊎_elim, length, refl, sym, ap, ◌∙◌, subst, arith, eq-eqb, ne_eqb, Option, None, Some}
use mathlib.Core.Logic.{dite}
use native.Mathlib.Decide.{ℕ_discrete}
use Rattle.table_words.specs.declared.layout.Layout.{Layout}
use Rattle.table_words.specs.Claims.{Progress, Claim, Half, Whole, Living, claim, moved_on, ended}
use Rattle.table_words.specs.Entries.{HasEntry, Noted}
use Rattle.table_words.specs.Places.{place_number, member_of}
use Rattle.table_words.specs.Words.{Node}
use Rattle.table_state.proofs.HeldClaims.{moved_on_here, ended_has, ended_keeps}
use Rattle.table_words.proofs.PlaceNumbers.{member_one}
use Rattle.mesh_table.specs.Sights.{Sight}
use Rattle.mesh_table.specs.Rounds.{MayUnlinkFirst, MayUnlinkSecond, unborn, unlinked_first, unlinked_second, restored, refused}
use Rattle.mesh_table.specs.Told.{mate_number, noted_history, noted_died}
use Rattle.table_rounds.specs.declared.patch.Held.{Held}
use Rattle.table_rounds.specs.Refusals.{RolledBackOne, EndedOne, IsTaking, AreHeld, TakenTo, RolledBackAll, held_at, place_of, progress_of}
use Rattle.table_rounds.proofs.Sweeping.{none_left}
use Rattle.table_words.specs.Views.{Resting}

pub ended_moved : (cs : List Claim) (x : ℕ) (p : Progress) → ended (moved_on cs x p) x ≡ ended cs x
ended_moved [] x p = refl
ended_moved (c ∷ cs) x p = dite (ℕ_discrete c.place x)
    (λ e. let is = eq-eqb c.place x e in
    ap (λ (t : Bool). cond ((cond t (claim x c.mate p) c).place == x) (ended (moved_on cs x p) x) (cond t (claim x c.mate p) c ∷ ended (moved_on cs x p) x)) is
    ∙ ap (λ (t : Bool). cond t (ended (moved_on cs x p) x) (claim x c.mate p ∷ ended (moved_on cs x p) x)) (eq-eqb x x refl)
    ∙ ended_moved cs x p
    ∙ sym (ap (λ (t : Bool). cond t (ended cs x) (c ∷ ended cs x)) is))
    (λ o. let is = ne_eqb c.place x o in
    ap (λ (t : Bool). cond ((cond t (claim x c.mate p) c).place == x) (ended (moved_on cs x p) x) (cond t (claim x c.mate p) c ∷ ended (moved_on cs x p) x)) is
    ∙ ap (λ (t : Bool). cond t (ended (moved_on cs x p) x) (c ∷ ended (moved_on cs x p) x)) is
    ∙ ap (λ (r : List Claim). c ∷ r) (ended_moved cs x p)
    ∙ sym (ap (λ (t : Bool). cond t (ended cs x) (c ∷ ended cs x)) is))

module _ (u : Sight) (round : ℕ) (taking : IsTaking u round) (x b : ℕ) (old : Node) where
  -- a patch of one member
  abbrev pub single : Sight
  single = unborn (noted_history u (member_of b false) old) x b

  pub may_single : HasEntry u.claims (claim x 0 (Living b)) → MayUnlinkFirst single x 0 b old
  may_single has = record { rules = taking.rules; back = taking.back; progress = Whole b; claim_is = moved_on_here u.claims x 0 (Whole b) (Living b) has; far = inr (refl, refl); old = inl (refl, refl) }

  pub rolled_back_single : RolledBackOne u (noted_died (unlinked_first single x 0 b old) b round) x 0 b round
  rolled_back_single = record { same = refl; claims = ended_moved u.claims x (Whole b); died = inl (refl, refl) }

  module _ (y : ℕ) (older : Node) where
    -- a patch of two members
    abbrev pub pair : Sight
    pair = unborn (noted_history (noted_history u (member_of b false) old) (member_of b true) older) x b

    abbrev pub pair_half : Sight
    pair_half = unlinked_second pair x y b older

    pub may_second : HasEntry u.claims (claim x (y + 1) (Living b)) → MayUnlinkSecond pair x y b older
    may_second has = record { rules = taking.rules; back = taking.back; claim_is = moved_on_here u.claims x (y + 1) (Whole b) (Living b) has; old = inl (refl, refl) }

    pub may_pair : HasEntry u.claims (claim x (y + 1) (Living b)) → MayUnlinkFirst pair_half x (y + 1) b old
    may_pair has = record {
      rules = taking.rules;
      back = taking.back;
      progress = Half b;
      claim_is = moved_on_here (moved_on u.claims x (Whole b)) x (y + 1) (Half b) (Whole b) (moved_on_here u.claims x (y + 1) (Whole b) (Living b) has);
      far = inl refl;
      old = inr ((λ (e : member_of b true ≡ member_of b false). true_false (member_one b b true false e).1), inl (refl, refl));
    }
      where
        true_false : true ≡ false → ⊥
        true_false e = cc

    pub rolled_back_pair : RolledBackOne u (noted_died (unlinked_first pair_half x (y + 1) b old) b round) x (y + 1) b round
    rolled_back_pair = record { same = refl; claims = ended_moved (moved_on u.claims x (Whole b)) x (Half b) ∙ ended_moved u.claims x (Whole b); died = inl (refl, refl) }

-- one claim of the list
module _ (l : Layout) (u v : Sight) (p : Held) where
  pub ended_failed : p.block ≡ None → v ≡ record u { claims = ended u.claims (place_number l p.first); owned = v.owned } → EndedOne l u v p
  ended_failed e same = record {
    same = same ∙ (λ t. record u { claims = ended u.claims (place_number l p.first); owned = v.owned; ruling = record u.ruling { rolled_back = (rolled_back t); placed = (placed t); seen = (seen t); quiet = (quiet t) } });
    more = λ b h. subst (λ (xs : List ℕ). HasEntry xs b) rolled_back h;
    only = λ b h. inl (subst (λ (xs : List ℕ). HasEntry xs b) (sym rolled_back) h);
    placed = λ a h. subst (λ (xs : List (ℕ × ℕ × ℕ)). HasEntry xs a) placed h;
    spots = λ a h. inl (subst (λ (xs : List (ℕ × ℕ × ℕ)). HasEntry xs a) (sym placed) h);
    noted = λ b h. absurd (none_some b (sym e ∙ h));
  }
    where
      rolled_back : u.ruling.rolled_back ≡ v.ruling.rolled_back
      rolled_back = sym (ap (λ (z : Sight). z.ruling.rolled_back) same)

      placed : u.ruling.placed ≡ v.ruling.placed
      placed = sym (ap (λ (z : Sight). z.ruling.placed) same)

      seen : u.ruling.seen ≡ v.ruling.seen
      seen = sym (ap (λ (z : Sight). z.ruling.seen) same)

      quiet : u.ruling.quiet ≡ v.ruling.quiet
      quiet = sym (ap (λ (z : Sight). z.ruling.quiet) same)

      none_some : (b : ℕ) → None ≡ Some b → ⊥
      none_some b e = cc

  pub ended_living : (b round : ℕ) → p.block ≡ Some b → RolledBackOne u v (place_number l p.first) (mate_number l p.second) b round → EndedOne l u v p
  ended_living b round e one =
      let r = one.same in
      let rolled_back : v.ruling.rolled_back ≡ b ∷ u.ruling.rolled_back = ap (λ (z : Sight). z.ruling.rolled_back) r in
      let placed : v.ruling.placed ≡ (b, place_number l p.first, mate_number l p.second) ∷ u.ruling.placed = ap (λ (z : Sight). z.ruling.placed) r in
      let seen : v.ruling.seen ≡ 0 = ap (λ (z : Sight). z.ruling.seen) r in
      let quiet : v.ruling.quiet ≡ false = ap (λ (z : Sight). z.ruling.quiet) r in record {
        same = r ∙ (λ t. record u { claims = one.claims t; owned = v.owned; ruling = record u.ruling { rolled_back = sym rolled_back t; placed = sym placed t; seen = sym seen t; quiet = sym quiet t } });
        more = λ c h. subst (λ (xs : List ℕ). HasEntry xs c) (sym rolled_back) (inr h);
        only = λ c h. ⊎_elim (λ q. inr (e ∙ ap Some (sym q))) inl (subst (λ (xs : List ℕ). HasEntry xs c) rolled_back h);
        placed = λ a h. subst (λ (xs : List (ℕ × ℕ × ℕ)). HasEntry xs a) (sym placed) (inr h);
        spots = λ a h. ⊎_elim (λ q. inr (b, e, q)) inl (subst (λ (xs : List (ℕ × ℕ × ℕ)). HasEntry xs a) placed h);
        noted = λ c h. let q : c ≡ b = some_one c b (sym h ∙ e) in (subst (λ (xs : List ℕ). HasEntry xs c) (sym rolled_back) (inl q), subst (λ (xs : List (ℕ × ℕ × ℕ)). HasEntry xs (c, place_number l p.first, mate_number l p.second)) (sym placed) (inl (λ t. (q t, place_number l p.first, mate_number l p.second))));
      }
    where
      number : Option ℕ → ℕ
      number None = 0
      number (Some c) = c

      some_one : (c d : ℕ) → Some c ≡ Some d → c ≡ d
      some_one c d q = ap number q

-- all claims of the list
module _ (l : Layout) (u : Sight) (ps : List Held) where
  pub taking_begins : TakenTo l u u ps 0
  taking_begins = record { same = refl; left = λ x m p h. (h, λ k a. absurd (omega arith)); still = λ x m p h _. h; more = λ b h. h; only = λ b h. inl h; placed = λ a h. h; spots = λ a h. inl h; noted = λ k b a. absurd (omega arith) }

  module _ (are : AreHeld l u ps) (v : Sight) (n : ℕ) (so : TakenTo l u v ps n) (room : n < length ps) where
    pub taking_has : HasEntry v.claims (claim (place_of l ps n) (mate_number l (held_at ps n).second) (progress_of (held_at ps n).block))
    taking_has = so.still (place_of l ps n) (mate_number l (held_at ps n).second) (progress_of (held_at ps n).block) (are.held n room) (λ k a e. let same = are.apart n k room (omega arith) e in absurd (omega arith))

    pub taking_goes : (w : Sight) → EndedOne l v w (held_at ps n) → TakenTo l u w ps (n + 1)
    taking_goes w one =
        let cs : w.claims ≡ ended v.claims (place_of l ps n) = ap (λ (z : Sight). z.claims) one.same in record {
          same = one.same ∙ (λ t. record (so.same t) { claims = sym cs t; owned = w.owned; ruling = record (so.same t).ruling { rolled_back = w.ruling.rolled_back; placed = w.ruling.placed; seen = w.ruling.seen; quiet = w.ruling.quiet } });
          left = λ x m p h. let a = ended_has v.claims (place_of l ps n) x m p (subst (λ (z : List Claim). HasEntry z (claim x m p)) cs h) in let b = so.left x m p a.1 in
              (b.0, λ k c. dite (ℕ_discrete k n) (λ q f. a.0 (f ∙ ap (place_of l ps) q)) (λ o. b.1 k (omega arith)));
          still = λ x m p h far. subst (λ (z : List Claim). HasEntry z (claim x m p)) (sym cs) (ended_keeps v.claims (place_of l ps n) x m p (far n (omega arith)) (so.still x m p h (λ k a. far k (omega arith))));
          more = λ b h. one.more b (so.more b h);
          only = λ b h. ⊎_elim (λ q. ⊎_elim inl (λ t. let a = t.1 in inr (t.0, omega arith, t.2)) (so.only b q)) (λ q. inr (n, omega arith, q)) (one.only b h);
          placed = λ a h. one.placed a (so.placed a h);
          spots = λ a h. ⊎_elim (λ q. ⊎_elim inl (λ t. let b = t.1 in inr (t.0, omega arith, t.2)) (so.spots a q)) (λ q. inr (n, omega arith, q)) (one.spots a h);
          noted = λ k b a h. dite (ℕ_discrete k n)
              (λ q. subst (λ (j : ℕ). HasEntry w.ruling.rolled_back b × HasEntry w.ruling.placed (b, place_of l ps j, mate_number l (held_at ps j).second)) (sym q) (one.noted b (sym (ap (λ (j : ℕ). (held_at ps j).block) q) ∙ h)))
              (λ o. let t = so.noted k b (omega arith) h in (one.more b t.0, one.placed _ t.1));
        }

  pub taking_none : AreHeld l u ps → (v : Sight) → TakenTo l u v ps (length ps) → v.claims ≡ []
  taking_none are v so = none_left v.claims (λ x m p h. let a = so.left x m p h in let b = are.all x m p a.0 in a.1 b.0 b.1 b.2)

  -- the round is rolled back
  pub rolls_back : (before v w : Sight) → u ≡ refused before → w ≡ restored v → AreHeld l u ps → TakenTo l u v ps (length ps) → RolledBackAll l before w ps
  rolls_back before v w from to are so =
      let was : v ≡ record (refused before) { claims = []; owned = v.owned; ruling = record (refused before).ruling { rolled_back = v.ruling.rolled_back; placed = v.ruling.placed; seen = v.ruling.seen; quiet = v.ruling.quiet } } = so.same ∙ (λ t. record (from t) { claims = taking_none are v so t; owned = v.owned; ruling = record (from t).ruling { rolled_back = v.ruling.rolled_back; placed = v.ruling.placed; seen = v.ruling.seen; quiet = v.ruling.quiet } }) in
      let is : w ≡ restored v = to in
      let old_rolled_back : before.ruling.rolled_back ≡ u.ruling.rolled_back = sym (ap (λ (z : Sight). z.ruling.rolled_back) from) in
      let old_placed : before.ruling.placed ≡ u.ruling.placed = sym (ap (λ (z : Sight). z.ruling.placed) from) in
      let new_rolled_back : w.ruling.rolled_back ≡ v.ruling.rolled_back = ap (λ (z : Sight). z.ruling.rolled_back) is in
      let new_placed : w.ruling.placed ≡ v.ruling.placed = ap (λ (z : Sight). z.ruling.placed) is in
      let new_seen : w.ruling.seen ≡ v.ruling.seen = ap (λ (z : Sight). z.ruling.seen) is in
      let new_quiet : w.ruling.quiet ≡ v.ruling.quiet = ap (λ (z : Sight). z.ruling.quiet) is in record {
        kind = ap (λ (z : Sight). z.kind) is ∙ ap (λ (z : Sight). z.kind) was;
        claims = ap (λ (z : Sight). z.claims) is ∙ ap (λ (z : Sight). z.claims) was;
        ruling = ap (λ (z : Sight). z.ruling) is ∙ ap (λ (z : Sight). (restored z).ruling) was ∙ (λ t. record before.ruling { phase = Resting; rolled_back = sym new_rolled_back t; placed = sym new_placed t; seen = sym new_seen t; quiet = sym new_quiet t });
        more = λ b h. subst (λ (xs : List ℕ). HasEntry xs b) (sym new_rolled_back) (so.more b (subst (λ (xs : List ℕ). HasEntry xs b) old_rolled_back h));
        only = λ b h. ⊎_elim (λ q. inl (subst (λ (xs : List ℕ). HasEntry xs b) (sym old_rolled_back) q)) inr (so.only b (subst (λ (xs : List ℕ). HasEntry xs b) new_rolled_back h));
        placed = λ a h. subst (λ (xs : List (ℕ × ℕ × ℕ)). HasEntry xs a) (sym new_placed) (so.placed a (subst (λ (xs : List (ℕ × ℕ × ℕ)). HasEntry xs a) old_placed h));
        spots = λ a h. ⊎_elim (λ q. inl (subst (λ (xs : List (ℕ × ℕ × ℕ)). HasEntry xs a) (sym old_placed) q)) inr (so.spots a (subst (λ (xs : List (ℕ × ℕ × ℕ)). HasEntry xs a) new_placed h));
        noted = λ k b a h. let t = so.noted k b a h in (subst (λ (xs : List ℕ). HasEntry xs b) (sym new_rolled_back) t.0, subst (λ (xs : List (ℕ × ℕ × ℕ)). HasEntry xs (b, place_of l ps k, mate_number l (held_at ps k).second)) (sym new_placed) t.1);
      }
