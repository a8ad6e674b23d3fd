-- The laws of what is read from the words.
use Rattle.std.proofs.Common.{◌≡◌, ℕ, ◌+◌, ◌<◌, ◌≤◌, List, [], ◌∷◌, ◌⊎◌, ◌↔◌, refl, sym, ap, ◌∙◌, subst, inl, inr, ⊎_elim, arith}
use mathlib.Core.Logic.{dite}
use native.Mathlib.Decide.{ℕ_discrete}
use Rattle.mesh_names.specs.Names.{Name, depth}
use Rattle.mesh_names.specs.Triangles.{Shape}
use Rattle.mesh_names.specs.Forests.{Names, Has, IsForest, Conforms}
use Rattle.mesh_names.specs.Partners.{Across, Tells}
use Rattle.table_words.specs.declared.layout.Layout.{Layout}
use Rattle.table_words.specs.Entries.{HasEntry}
use Rattle.table_words.specs.NameWords.{name_code}
use Rattle.table_words.specs.Setup.{setup_of}
use Rattle.table_words.specs.Words.{Node, Words}
use Rattle.table_words.specs.Views.{Views, Resting, Closing, RollingBack, Precedes, order}
use Rattle.table_state.specs.Owner.{InRows}
use Rattle.table_state.specs.Rule.{Lawful}
use Rattle.table_words.proofs.CodedNames.{code_one}
use Rattle.table_state.specs.Chains.{IsHead}
use Rattle.table_state.specs.Bisections.{MayRead}
use Rattle.table_words.specs.Claims.{Drawn}
use Rattle.table_state.specs.Lists.{Holds, IsListed}
use Rattle.table_reading.specs.Reading.{StandsAt, Bisects, IsRead, GoesTo, LeastRead, ReadsHistory, ReadsForest, ReadsClosing, ReachedStays}
use Rattle.table_reading.specs.RoundForests.{AreCodes, ReadableForests}
use Rattle.table_state.proofs.FoundAgain.{one_more, placed}
use Rattle.table_state.proofs.Across.{zero_or_more}
use Rattle.table_state.proofs.HeldClaims.{free_not, loose_not}
use Rattle.table_state.proofs.RoundLaws.{differs}
use Rattle.table_reading.proofs.Reading.{walk_chain, chain_of_place, stands_place, words_read}
use Rattle.table_reading.proofs.RoundForests.{bisected_coded, coded_set, kept_forests, least_when_needed, reads_forests}
use Rattle.table_words.proofs.SeatKinds.{phase_discrete, past_resting}

-- the entries of a list at which a function is not 0
bisected_of : (list : List ℕ) (who : ℕ → ℕ) → (out : List ℕ) × ((k : ℕ) → (HasEntry out k → HasEntry list k × Holds who k) × (HasEntry list k → Holds who k → HasEntry out k))
bisected_of [] who = ([], λ k. ((λ h. absurd h), λ h. absurd h))
bisected_of (a ∷ list) who = let rest = bisected_of list who in dite (ℕ_discrete (who a) 0)
    (λ z. (rest.0, λ k. ((λ h. let t = (rest.1 k).0 h in (inr t.0, t.1)), λ h b. ⊎_elim (λ e. let y : who k ≡ who a = ap who e in let b1 = b.1 in absurd (omega arith)) (λ t. (rest.1 k).1 t b) h)))
    (λ o. (a ∷ rest.0, λ k. ((λ h. ⊎_elim (λ e. (inl e, subst (Holds who) (sym e) (more (who a) o))) (λ t. let u = (rest.1 k).0 t in (inr u.0, u.1)) h), λ h b. ⊎_elim (λ e. inl e) (λ t. inr ((rest.1 k).1 t b)) h)))
  where
    more : (n : ℕ) → (n ≡ 0 → ⊥) → (b : ℕ) × (n ≡ b + 1)
    more n o = ⊎_elim (λ z. absurd (o z)) (λ t. t) (zero_or_more n)

pub readable_forests : ReadableForests
readable_forests mesh across l passes tells w n v (g, r) q may = ⊎_elim (λ k. kept_forests mesh across l passes tells w n v (g, r) q k) (λ e. subst (λ (i : ℕ). (members : Names) × AreCodes members (Holds (g.who i)) × IsForest mesh members × Conforms mesh members) (sym e.0) (work e.1)) may
  where
    work : Precedes v.ruling.phase RollingBack → (members : Names) × AreCodes members (Holds (g.who (w.round + 1))) × IsForest mesh members × Conforms mesh members
    work low = dite (phase_discrete v.ruling.phase Resting) fresh begun
      where
        at : MayRead w.round v.ruling.phase v.read (w.round + 1)
        at = inr (refl, low)

        with_codes : (members : Names) → AreCodes members (Holds (g.who (w.round + 1))) → (members : Names) × AreCodes members (Holds (g.who (w.round + 1))) × IsForest mesh members × Conforms mesh members
        with_codes members codes = let f = reads_forests mesh across l passes tells w n v (g, r) (w.round + 1) at members codes in (members, codes, f.0, f.1)

        -- before the round its names are the last finished round's
        fresh : v.ruling.phase ≡ Resting → (members : Names) × AreCodes members (Holds (g.who (w.round + 1))) × IsForest mesh members × Conforms mesh members
        fresh z = let k = kept_forests mesh across l passes tells w n v (g, r) w.round (inl refl) in with_codes k.0 record {
          low = k.1.low;
          codes = λ m h. let t = k.1.codes m h in (t.0, r.names.fresh (name_code m) z ∙ t.1);
          names_of = λ i h. k.1.names_of i (h.0, sym (r.names.fresh i z) ∙ h.1);
        }

        -- from the first half on they are of the target
        begun : (v.ruling.phase ≡ Resting → ⊥) → (members : Names) × AreCodes members (Holds (g.who (w.round + 1))) × IsForest mesh members × Conforms mesh members
        begun o = with_codes set.0 record {
          low = set.1.low;
          codes = λ m h. ((part.1 (name_code m)).0 (set.1.codes m h)).1;
          names_of = λ i h. set.1.names_of i ((part.1 i).1 (r.plan.within i (past_resting v.ruling.phase o) low h) h);
        }
          where
            part : (out : List ℕ) × ((k : ℕ) → (HasEntry out k → HasEntry v.ruling.plan.target k × Holds (g.who (w.round + 1)) k) × (HasEntry v.ruling.plan.target k → Holds (g.who (w.round + 1)) k → HasEntry out k))
            part = bisected_of v.ruling.plan.target (g.who (w.round + 1))

            set : (members : Names) × AreCodes members (HasEntry part.0)
            set = coded_set part.0 (λ k h. let t = bisected_coded mesh across l passes tells w n v (g, r) (w.round + 1) at k ((part.1 k).0 h).1 in (t.0, t.3, t.4))

pub reads_history : ReadsHistory
reads_history mesh across l passes tells w n v (g, r) q kept names entry m = (
  (λ h. let t = (words_read mesh across l passes tells w n v (g, r) q (inl kept) m h.1).1 (h.0, h.2, h.3) in (t.0, (r.history.forests q names entry (name_code m)).1 (h.1, t.1))),
  λ h. let b = (r.history.forests q names entry (name_code m)).0 h.1 in let t = (words_read mesh across l passes tells w n v (g, r) q (inl kept) m b.0).0 (h.0, b.1) in (t.0, b.0, t.1, t.2),
)

pub reads_forest : ReadsForest
reads_forest mesh across l passes tells w n v (g, r) q may = let f = readable_forests mesh across l passes tells w n v (g, r) q may in let c = f.1 in (
  f.0,
  (λ m. (
    (λ h. let b = c.codes m h in let t = (words_read mesh across l passes tells w n v (g, r) q may m b.0).0 (c.low m h, b.1) in (t.0, b.0, t.1, t.2)),
    λ h. let t = (words_read mesh across l passes tells w n v (g, r) q may m h.1).1 (h.0, h.2, h.3) in let a = c.names_of (name_code m) (h.1, t.1) in subst (Has f.0) (sym (code_one m a.0 t.0 (c.low a.0 a.1) a.2)) a.1,
  )),
  f.2,
  f.3,
)

-- a set of the names that are read has the codes that are bisected
read_codes : (mesh : Shape) (across : Across) (l : Layout) (passes : ℕ) → Tells mesh across → (w : Words) (n : ℕ) (v : Views) (k : Lawful (setup_of mesh across l passes) w n v) (q : ℕ) → MayRead w.round v.ruling.phase v.read q → (members : Names) → ((m : Name) → Has members m ↔ IsRead w l.elements q m) → AreCodes members (Holds (k.0.who q))
read_codes mesh across l passes tells w n v k q may members same = record {
  low = λ m h. ((words_read mesh across l passes tells w n v k q may m ((same m).0 h).1).1 (let t = (same m).0 h in (t.0, t.2, t.3))).0;
  codes = λ m h. let t = (same m).0 h in (t.1, ((words_read mesh across l passes tells w n v k q may m t.1).1 (t.0, t.2, t.3)).1);
  names_of = λ i h. let t = bisected_coded mesh across l passes tells w n v k q may i h in let u = (words_read mesh across l passes tells w n v k q may t.0 h.0).0 (t.3, ap (k.0.who q) (sym t.4) ∙ h.1) in (t.0, (same t.0).1 (u.0, h.0, u.1, u.2), t.4);
}

pub least_read : LeastRead
least_read mesh across l passes tells w n v (g, r) one asked old needs new so cn sn =
    let may : MayRead w.round v.ruling.phase v.read (w.round + 1) = inr (refl, omega (arith, ap order one)) in
    least_when_needed mesh across l passes tells w n v (g, r) one
    (λ k h. let t = cn.names_of k h in let u = asked t.0 (cn.low t.0 t.1) (subst (HasEntry v.ruling.plan.needs) t.2 h) in (u.1, ap (g.who (w.round + 1)) t.2 ∙ ((words_read mesh across l passes tells w n v (g, r) (w.round + 1) may t.0 u.1).1 (u.0, u.2, u.3)).1))
    old needs new (read_codes mesh across l passes tells w n v (g, r) w.round (inl (inl refl)) old so) cn (read_codes mesh across l passes tells w n v (g, r) (w.round + 1) may new sn)

pub reached_stays : ReachedStays
reached_stays mesh across l passes tells w n v (g, r) q b may h =
    let p = stands_place mesh across l passes tells w n v g r q may h.0.0 h.0.1 h.1 h.2 in
    let c = walk_chain (setup_of mesh across l passes) w n v g r q h.1 (name_code h.0) b h.3.0 (w.head h.1) (chain_of_place (setup_of mesh across l passes) w n v g r q may h.1 (name_code h.0) p.0) h.3.1 in
    let at = placed (g.life b) c.0 h.1 c.1 in (
      (λ i a k e. free_not at.0 at.1 (sym (r.claims.rows i a k).0 ∙ ap g.life e ∙ at.2)),
      (λ k. free_not at.0 at.1 (sym (⊎_elim (r.hand b) (λ (t : InRows v.ruling.low v.ruling.high w.row b). ap g.life (sym t.3) ∙ (r.frees.stocked t.0 t.1 t.2).0) k) ∙ at.2)),
      (λ j x m k. loose_not (x + 1) at.0 at.1 (sym (r.claims.shape x j m (Drawn b) (r.claims.held j x m (Drawn b) k)).0 ∙ at.2)),
      λ low. last low c.3 c.4,
    )
  where
    last : {m : Node} → q ≤ w.round → IsHead w.round w.died g.life h.1 m → GoesTo q m b → (w.died b ≡ 0) ⊎ (q < w.died b)
    last low (inl o) k = let z : 0 ≡ b + 1 = sym (ap (λ (i : Node). i.block) o) ∙ k.0 in absurd (omega arith)
    last low (inr o) k = let same : w.died o.0 ≡ w.died b = ap w.died (one_more o.0 b (sym o.2 ∙ k.0)) in ⊎_elim
        (λ z. ⊎_elim (λ a. inl (sym same ∙ a)) (λ a. inr (omega arith)) (o.5 z))
        (λ z. let e = o.4 (omega arith) in inr (omega arith)) k.1

pub reads_closing : ReadsClosing
reads_closing mesh across l passes tells w n v lawful closed m = (
  (λ h. let t = (words h.1).1 (h.0, h.2, h.3) in (t.0, target.0 (h.1, t.1), λ a. target.2 closed a (h.1, t.1))),
  λ h. ⊎_elim (λ b. let u = (words b.0).0 (h.0, b.1) in (u.0, b.0, u.1, u.2)) (λ a. absurd (h.2 a)) (target.1 h.1),
)
  where
    words : (b : ℕ) → ((depth m ≤ 24) × (lawful.0.who (w.round + 1) (name_code m) ≡ b + 1)) ↔ ((x : ℕ) × StandsAt w l.elements (w.round + 1) m.0 m.1 x × Bisects w (w.round + 1) x (name_code m) b)
    words b = words_read mesh across l passes tells w n v lawful (w.round + 1) (inr (refl, omega (arith, ap order closed))) m b

    target : (Holds (lawful.0.who (w.round + 1)) (name_code m) → HasEntry v.ruling.plan.target (name_code m)) × (HasEntry v.ruling.plan.target (name_code m) → Holds (lawful.0.who (w.round + 1)) (name_code m) ⊎ IsListed (setup_of mesh across l passes) v.ruling.plan.retire (name_code m))
        × (v.ruling.phase ≡ Closing → IsListed (setup_of mesh across l passes) v.ruling.plan.retire (name_code m) → Holds (lawful.0.who (w.round + 1)) (name_code m) → ⊥)
    target = differs (setup_of mesh across l passes) w n v lawful (inr closed) (name_code m)
