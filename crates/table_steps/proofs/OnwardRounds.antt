-- Rounds go on.
use Rattle.std.proofs.Common.{◌≡◌, ℕ, zero, suc, ◌+◌, ◌<◌, ◌≤◌, Bool, true, false, List, ◌∷◌, ◌⊎◌, refl, sym, ap, ◌∙◌, subst, inl, inr, ⊎_elim, arith}
use Rattle.table_words.specs.Setup.{Setup}
use Rattle.table_words.specs.Claims.{Half, Whole, Living, Claim, claim}
use Rattle.table_words.specs.Entries.{HasEntry, EntryAt, Noted}
use Rattle.table_words.specs.Places.{member_of, child_place}
use Rattle.table_words.specs.Views.{Work, Owned, Plan, Past, SecondHalf, order}
use Rattle.table_words.specs.Words.{node}
use Rattle.table_steps.specs.Onward.{Onward, HasChildren}
use Rattle.table_steps.proofs.SecondHalf.{side}
use Rattle.table_words.proofs.Functions.{update_same}
use Rattle.table_state.specs.Lists.{IsMember}
use Rattle.table_state.proofs.HeldClaims.{moved_on_here, ended_has}
use Rattle.table_steps.specs.Steps.{ByFillHistory, ByFillName, ByFillDied, ByFillChild, ByLinkSecond, ByRetireStep, ByRetiredStep, ByWorkPasses, ByWorkGives, ByWorkDead, ByWorkOpen, ByLoadHead, ByLoadHistory, ByLoadBorn, ByLoadDied, ByLoadName, ByLoadRow, ByNoteDrained, ByNoteFree, ByLoadReleased, ByNoteQuiet, ByNotePlaces, ByBeginStep, ByPlanStep, ByCloseStep, ByRefuseStep, ByRestoreStep, ByUnclaimStep, ByZeroStep, ByRewindStep, ByRowStep, ByOpenStep}
use Rattle.table_steps.specs.OnwardRounds.{LoadsGoOn, FillsGoOn, RetiringGoesOn, RoundsGoOn, NotesGoOn, RowsGoOn, GrownGoesOn}
use Rattle.table_steps.proofs.Onward.{here}

pub loads_go_on : LoadsGoOn
loads_go_on s w n v (g, r) j x = (
  (_, ByLoadHead (j, x, refl), here (λ (u : Owned). Noted u.head x (w.head x)) v.owned j _ (inl (refl, refl))),
  (_, ByLoadHistory (j, x, refl), here (λ (u : Owned). Noted u.history x (w.history x)) v.owned j _ (inl (refl, refl))),
  (_, ByLoadBorn (j, x, refl), here (λ (u : Owned). Noted u.born x (w.born x)) v.owned j _ (inl (refl, refl))),
  (_, ByLoadDied (j, x, refl), here (λ (u : Owned). Noted u.died x (w.died x)) v.owned j _ (inl (refl, refl))),
  (_, ByLoadName (j, x, refl), here (λ (u : Owned). Noted u.name x (w.name x)) v.owned j _ (inl (refl, refl))),
  (_, ByLoadRow (j, x, refl), here (λ (u : Owned). Noted u.row x (w.row x)) v.owned j _ (inl (refl, refl))),
)

pub fills_go_on : FillsGoOn
fills_go_on s w n v (g, r) j x m c kind = (
  (λ mine t. (
    (λ l. (_, ByFillHistory (j, x, m, c, mine, kind, t, l, refl), (update_same w.history (member_of c t) l, here (λ (u : Owned). Noted u.history (member_of c t) l) v.owned j _ (inl (refl, refl))))),
    (λ k. (
      (_, ByFillName (j, x, m, c, mine, kind, t, k, refl), (update_same w.name (member_of c t) k, here (λ (u : Owned). Noted u.name (member_of c t) k) v.owned j _ (inl (refl, refl)))),
      (_, ByFillDied (j, x, m, c, mine, kind, k, refl), (update_same w.died c k, here (λ (u : Owned). Noted u.died c k) v.owned j _ (inl (refl, refl)))),
    )),
    λ u l. (_, ByFillChild (j, x, m, c, mine, kind, t, u, l, refl), (update_same w.head (child_place s.elements c t u) l, here (λ (y : Owned). Noted y.head (child_place s.elements c t u) l) v.owned j _ (inl (refl, refl)))),
  )),
  λ y l e mine old noted. (
    _,
    ByLinkSecond (j, x, y, c, l, subst (λ (i : ℕ). HasEntry (v.claims j) (claim x i (Half c))) e mine, kind, old, noted, refl),
    here (λ (cs : List Claim). HasEntry cs (claim x m (Whole c))) v.claims j _ (moved_on_here (v.claims j) x m (Whole c) (Half c) mine),
  ),
)

-- the names that are not bisected, with the members of a patch
with_members : (s : Setup) (k : ℕ) (names : List ℕ) → (more : List ℕ) × ((i : ℕ) → HasEntry more i → HasEntry names i ⊎ IsMember s k i) × ((i : ℕ) → IsMember s k i → HasEntry more i)
with_members s k names = by (s.mate k) refl
  where
    by : (m : ℕ) → s.mate k ≡ m → (more : List ℕ) × ((i : ℕ) → HasEntry more i → HasEntry names i ⊎ IsMember s k i) × ((i : ℕ) → IsMember s k i → HasEntry more i)
    by zero e = (k ∷ names, (λ i h. ⊎_elim (λ z. inr (inl z)) inl h), λ i h. ⊎_elim inl (λ t. let f = t.1 in absurd (omega arith)) h)
    by (suc m) e = (k ∷ (m + 1) ∷ names, (λ i h. ⊎_elim (λ z. inr (inl z)) (λ t. ⊎_elim (λ z. inr (inr (m, omega arith, z))) inl t) h), λ i h. ⊎_elim inl (λ t. let f = t.1 in let z = t.2 in inr (inl (omega arith))) h)

pub retiring_goes_on : RetiringGoesOn
retiring_goes_on s w n v (g, r) j c k kind two = (
  (λ mine. (
    (λ leads. (_, ByWorkGives (j, kind, half, c, k, leads, mine, refl), here (λ (u : Work). HasEntry u.given (c, k)) v.work j _ (inl refl))),
    λ dead. (_, ByWorkDead (j, kind, half, c, k, mine, dead, refl), here (λ (u : Work). HasEntry u.open_ k) v.work j _ (inl refl)),
  )),
  (λ x mine how. (_, ByWorkOpen (j, kind, half, x, k, inl mine, _, _, inl (how, refl, refl), refl), here (λ (u : Work). HasEntry u.open_ k) v.work j _ (inl refl))),
  λ mine. (
    (λ dead. (_, ByRetiredStep (j, kind, half, c, k, mine, dead, more.0, more.1, refl), here (λ (u : Work). (i : ℕ) → IsMember s k i → HasEntry u.open_ i) v.work j _ more.2)),
    λ alive listed open_. (
      _,
      ByRetireStep (j, c, k, mine, kind, subst (λ (p : Plan). HasEntry p.retire k) (sym (r.plan.same j kind)) listed, alive, (λ u. open_ k u (inl refl)), (λ i e u. open_ (i + 1) u (inr (i, e, refl))), more.0, more.1, refl),
      (
        update_same w.died c (v.work j).round ∙ (r.walks j).at_work kind,
        here (λ (u : Work). HasEntry u.retired c) v.work j _ (inl refl),
        here (λ (u : Work). (i : ℕ) → IsMember s k i → HasEntry u.open_ i) v.work j _ more.2,
      ),
    ),
  ),
)
  where
    half : (v.work j).half ≡ SecondHalf
    half = (r.walks j).half kind ∙ two

    more : (names : List ℕ) × ((i : ℕ) → HasEntry names i → HasEntry (v.work j).open_ i ⊎ IsMember s k i) × ((i : ℕ) → IsMember s k i → HasEntry names i)
    more = with_members s k (v.work j).open_

pub rounds_go_on : RoundsGoOn
rounds_go_on s w n v (g, r) = (
  (λ p names rest rewound left at aim. (_, ByBeginStep (p, names, subst (λ (q : ℕ). EntryAt v.ruling.history q names) (sym r.stock.finished) at, aim, subst (λ (q : ℕ). q < s.rounds) (sym r.stock.finished) left, rest, rewound, refl), (refl, refl))),
  (λ none one. (
    (_, ByRefuseStep (one, none, refl), refl),
    λ retire known living. (_, ByPlanStep (retire, known, one, none, living, refl), (refl, refl)),
  )),
  (λ none two open_. (_, ByCloseStep (open_, two, none, refl), refl)),
  (λ x m c three mine. (
    _,
    ByUnclaimStep (((λ e. cc), λ e. cc), (λ l. omega (arith, ap order three)), x, m, Living c, mine, (λ b e. ap Living (let z : c + 1 ≡ b + 1 = e in omega arith)), (λ b e f. f three), refl),
    λ i p h. (ended_has (v.claims 0) x x i p h).0 refl,
  )),
  λ four none. (_, ByRestoreStep (four, none, refl), refl),
)

pub notes_go_on : NotesGoOn
notes_go_on s w n v (g, r) = (
  (λ q k left same. (_, ByNoteDrained (q, k, left, same, refl), inl refl)),
  (_, ByLoadReleased refl, ap (λ q. w.released q + 1) r.stock.finished),
  (λ same. (_, ByNoteQuiet (same, refl), refl)),
  (λ c x m mine. (_, ByNotePlaces (c, x, m, mine, refl), inl refl)),
  λ i a home low high noted. (_, ByNoteFree (i, a, home, low, high, noted, refl), inl refl),
)

pub rows_go_on : RowsGoOn
rows_go_on s w n v (g, r) rest = (
  (λ c mine. (_, ByZeroStep (rest, c, mine, refl), (update_same w.born c 0, inl (refl, refl)))),
  λ stopped. (
    (_, ByRewindStep (rest, stopped, refl), (refl, refl)),
    (λ i c out. (_, ByRowStep (rest, i, c, stopped, out, refl), (update_same w.row i c, inl (refl, refl)))),
    λ k hand rewound below rows one left. (_, ByOpenStep (rest, k, hand, stopped, rewound, below, rows, one, left, refl), (refl, refl)),
  ),
)

pub grown_goes_on : GrownGoesOn
grown_goes_on s w n v (g, r) j x k kind two = (
  (λ c t at born. (
    _,
    ByWorkPasses (j, kind, x, k, c, t, at, inr (late born), _, inr (half, late born, refl), refl),
    here (λ (u : Work). (u.walk ≡ Past x k c t) × HasChildren s u.grown k c t) v.work j _ (refl, λ u. child u c t),
  )),
  λ mine. by (w.head x).block (w.head x).died refl refl mine,
)
  where
    half : (v.work j).half ≡ SecondHalf
    half = (r.walks j).half kind ∙ two

    late : {c : ℕ} → w.born c ≡ w.round + 1 → (v.work j).round ≤ w.born c
    late e = let a = (r.walks j).at_work kind in omega arith

    child : (u : Bool) (c : ℕ) (t : Bool) → HasEntry ((child_place s.elements c t false, s.child k false) ∷ (child_place s.elements c t true, s.child k true) ∷ (v.work j).grown) (child_place s.elements c t u, s.child k u)
    child false c t = inl refl
    child true c t = inr (inl refl)

    opened : HasEntry (v.work j).grown (x, k) → ((w.head x).block ≡ 0) ⊎ (0 < (w.head x).died) → Onward s w n v (λ b. HasEntry (b.views.work j).open_ k)
    opened mine how = (_, ByWorkOpen (j, kind, half, x, k, inr mine, _, _, inl (how, refl, refl), refl), here (λ (u : Work). HasEntry u.open_ k) v.work j _ (inl refl))

    by : (b d : ℕ) → (w.head x).block ≡ b → (w.head x).died ≡ d → HasEntry (v.work j).grown (x, k) → Onward s w n v (λ b. HasEntry (b.views.work j).open_ k) ⊎ ((c : ℕ) × (t : Bool) × ((w.head x).block ≡ c + 1) × Onward s w n v (λ b. HasChildren s (b.views.work j).grown k c t))
    by zero d e f mine = inl (opened mine (inl e))
    by (suc c) (suc d) e f mine = inl (opened mine (inr (omega arith)))
    by (suc c) zero e f mine = let b : (w.head x).block ≡ c + 1 = omega arith in let t = side s w n v g r j kind half x k mine c b in inr (
      c,
      t.0,
      b,
      (
        _,
        ByWorkOpen (j, kind, half, x, k, inr mine, _, _, inr (c, t.0, mine, (λ i. node (b i) (f i)), t.1, refl, refl), refl),
        here (λ (u : Work). HasChildren s u.grown k c t.0) v.work j _ (λ u. child u c t.0),
      ),
    )
