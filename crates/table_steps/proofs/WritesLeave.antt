-- What a seat's write leaves as it was.
use Rattle.std.proofs.Common.{◌≡◌, ℕ, ◌+◌, Bool, ◌⊎◌, refl, sym, ap, ◌∙◌, subst, inl, inr, ⊎_elim}
use mathlib.Core.Logic.{dite}
use native.Mathlib.Decide.{ℕ_discrete}
use Rattle.table_words.specs.Functions.{update}
use Rattle.table_words.specs.Setup.{Setup}
use Rattle.table_words.specs.Words.{Words, node}
use Rattle.table_words.specs.Places.{member_of, child_place}
use Rattle.table_words.specs.Claims.{Drawn, Half, Whole, claim}
use Rattle.table_words.specs.Entries.{HasEntry}
use Rattle.table_words.specs.Writes.{Write, WriteNothing, WriteRound, WriteCursor, WriteFree, WriteReleased, WriteRow, WriteClaim, WriteLink, WriteLinkAndClaim, WriteHistory, WriteBorn, WriteDied, WriteName, written}
use Rattle.table_words.specs.Views.{Views, Kind, Worker, Reader, Owner, FirstHalf, SecondHalf}
use Rattle.table_words.proofs.Functions.{update_at, update_other}
use Rattle.table_state.specs.Ghosts.{Ghost}
use Rattle.table_state.specs.Rule.{Rule}
use Rattle.table_steps.specs.Local.{MayWrite, WorkerWrites, ReaderWrites, OwnerWrites, HasDrawn, FillsMember, LeadsLink, ReaderLeaves, WorkerLeaves, OwnerLeaves, WritesLeave}
use Rattle.table_steps.specs.Local.{IsLoose, WorkerChanges, WorkersChange}

-- a function that is changed at i to a is as before, or a
changed : {A : Type 0} (f : ℕ → A) (i : ℕ) (a : A) (x : ℕ) → (update f i a x ≡ f x) ⊎ ((x ≡ i) × (update f i a x ≡ a))
changed f i a x = dite (ℕ_discrete x i) (λ same. inr (same, update_at f i x a same)) (λ other. inl (update_other f i x a other))

by_reader : (w : Words) (v : Views) (j : ℕ) (u : Write) → ReaderWrites w v j u → ReaderLeaves w (written w u)
by_reader w v j WriteNothing may = (refl, refl, refl, refl, refl, refl, refl, refl, refl, refl)
by_reader w v j (WriteRound r t) may = (may.0, refl, refl, refl, refl, refl, refl, refl, refl, refl)
by_reader w v j (WriteCursor k) may = absurd may
by_reader w v j (WriteFree k) may = absurd may
by_reader w v j (WriteReleased q k) may = (refl, refl, refl, refl, refl, refl, refl, refl, refl, refl)
by_reader w v j (WriteRow i k) may = absurd may
by_reader w v j (WriteClaim x k) may = absurd may
by_reader w v j (WriteLink x l) may = absurd may
by_reader w v j (WriteLinkAndClaim x l k) may = absurd may
by_reader w v j (WriteHistory h l) may = absurd may
by_reader w v j (WriteBorn c k) may = absurd may
by_reader w v j (WriteDied c k) may = absurd may
by_reader w v j (WriteName h k) may = absurd may

by_worker : (s : Setup) (w : Words) (v : Views) (j : ℕ) (u : Write) → WorkerWrites s w v j u → WorkerLeaves w (written w u)
by_worker s w v j WriteNothing may = (refl, refl, refl, refl, refl, inl refl, λ x. inl refl)
by_worker s w v j (WriteRound r t) may = absurd may
by_worker s w v j (WriteCursor k) may = (refl, refl, refl, refl, refl, inr may.0, λ x. inl refl)
by_worker s w v j (WriteFree k) may = absurd may
by_worker s w v j (WriteReleased q k) may = absurd may
by_worker s w v j (WriteRow i k) may = absurd may
by_worker s w v j (WriteClaim y k) may = (refl, refl, refl, refl, refl, inl refl, λ x. ⊎_elim (λ a. inl a) (λ a. inr (ap w.claimed a.0 ∙ may.0, a.1 ∙ may.1)) (changed w.claimed y k x))
by_worker s w v j (WriteLink x l) may = (refl, refl, refl, refl, refl, inl refl, λ x. inl refl)
by_worker s w v j (WriteLinkAndClaim x l k) may = absurd may
by_worker s w v j (WriteHistory h l) may = (refl, refl, refl, refl, refl, inl refl, λ x. inl refl)
by_worker s w v j (WriteBorn c k) may = (refl, refl, refl, refl, refl, inl refl, λ x. inl refl)
by_worker s w v j (WriteDied c k) may = (refl, refl, refl, refl, refl, inl refl, λ x. inl refl)
by_worker s w v j (WriteName h k) may = (refl, refl, refl, refl, refl, inl refl, λ x. inl refl)

by_owner : (w : Words) (v : Views) (u : Write) → OwnerWrites w v u → OwnerLeaves w (written w u)
by_owner w v WriteNothing may = (refl, refl, inl refl, λ x. (inl refl, inl refl))
by_owner w v (WriteRound r t) may = (refl, refl, inl refl, λ x. (inl refl, inl refl))
by_owner w v (WriteCursor k) may = (refl, refl, inr may.0, λ x. (inl refl, inl refl))
by_owner w v (WriteFree k) may = (refl, refl, inl refl, λ x. (inl refl, inl refl))
by_owner w v (WriteReleased q k) may = absurd may
by_owner w v (WriteRow i k) may = (refl, refl, inl refl, λ x. (inl refl, inl refl))
by_owner w v (WriteClaim y k) may = (refl, refl, inl refl, λ x. (⊎_elim (λ a. inl a) (λ a. inr (a.1 ∙ may)) (changed w.claimed y k x), inl refl))
by_owner w v (WriteLink x l) may = (refl, refl, inl refl, λ x. (inl refl, inl refl))
by_owner w v (WriteLinkAndClaim y l k) may = (refl, refl, inl refl, λ x. (⊎_elim (λ a. inl a) (λ a. inr (a.1 ∙ may)) (changed w.claimed y k x), inl refl))
by_owner w v (WriteHistory h l) may = (refl, refl, inl refl, λ x. (inl refl, inl refl))
by_owner w v (WriteBorn c k) may = (refl, refl, inl refl, λ x. (inl refl, ⊎_elim (λ a. inl a) (λ a. inr (a.1 ∙ may)) (changed w.born c k x)))
by_owner w v (WriteDied c k) may = (refl, refl, inl refl, λ x. (inl refl, inl refl))
by_owner w v (WriteName h k) may = absurd may

pub writes_leave : WritesLeave
writes_leave s w v j u may = ((λ other. (reader other may, worker other may)), λ kind. (owner kind may, halves kind may))
  where
    -- nothing is written
    none : (P : Words → Type 0) → u ≡ WriteNothing → P w → P (written w u)
    none P e p = subst (λ (a : Write). P (written w a)) (sym e) p

    unlike : (a b : Kind) → v.kind j ≡ a → v.kind j ≡ b → a ≡ b
    unlike a b f g = sym f ∙ g

    reader : (j ≡ 0 → ⊥) → MayWrite s w v j u → v.kind j ≡ Reader → ReaderLeaves w (written w u)
    reader other (inl e) kind = none (ReaderLeaves w) e (refl, refl, refl, refl, refl, refl, refl, refl, refl, refl)
    reader other (inr (inl a)) kind = let e : Worker ≡ Reader = unlike Worker Reader a.0 kind in absurd (cc)
    reader other (inr (inr (inl a))) kind = by_reader w v j u a.1
    reader other (inr (inr (inr a))) kind = absurd (other a.0)

    worker : (j ≡ 0 → ⊥) → MayWrite s w v j u → v.kind j ≡ Worker → WorkerLeaves w (written w u)
    worker other (inl e) kind = none (WorkerLeaves w) e (refl, refl, refl, refl, refl, inl refl, λ x. inl refl)
    worker other (inr (inl a)) kind = by_worker s w v j u a.1
    worker other (inr (inr (inl a))) kind = let e : Reader ≡ Worker = unlike Reader Worker a.0 kind in absurd (cc)
    worker other (inr (inr (inr a))) kind = absurd (other a.0)

    owner : v.kind j ≡ Owner → MayWrite s w v j u → OwnerLeaves w (written w u)
    owner kind (inl e) = none (OwnerLeaves w) e (refl, refl, inl refl, λ x. (inl refl, inl refl))
    owner kind (inr (inl a)) = let e : Worker ≡ Owner = unlike Worker Owner a.0 kind in absurd (cc)
    owner kind (inr (inr (inl a))) = let e : Reader ≡ Owner = unlike Reader Owner a.0 kind in absurd (cc)
    owner kind (inr (inr (inr a))) = by_owner w v u a.2

    halves : v.kind j ≡ Owner → MayWrite s w v j u → (v.ruling.phase ≡ FirstHalf) ⊎ (v.ruling.phase ≡ SecondHalf) → written w u ≡ w
    halves kind (inl e) half = none (λ (b : Words). b ≡ w) e refl
    halves kind (inr (inl a)) half = let e : Worker ≡ Owner = unlike Worker Owner a.0 kind in absurd (cc)
    halves kind (inr (inr (inl a))) half = let e : Reader ≡ Owner = unlike Reader Owner a.0 kind in absurd (cc)
    halves kind (inr (inr (inr a))) half = ⊎_elim (λ one. absurd (a.1.0 one)) (λ two. absurd (a.1.1 two)) half

module _ (s : Setup) (w : Words) (n : ℕ) (v : Views) (g : Ghost) (r : Rule s w n v g) (j : ℕ) (kind : v.kind j ≡ Worker) where
  loose : (c : ℕ) → HasDrawn v j c → IsLoose g.life c
  loose c (x, m, mine) = (x + 1, (r.claims.shape x j m (Drawn c) (r.claims.held j x m (Drawn c) mine)).0)

  member : (h : ℕ) → FillsMember v j h → (c : ℕ) × (t : Bool) × (h ≡ member_of c t) × IsLoose g.life c
  member h (c, t, mine, at) = (c, t, at, loose c mine)

  -- a block to which a LINK word is led has BORN 0
  leads : (x : ℕ) (l : _) → LeadsLink s v j x l → ((c : ℕ) × (t u : Bool) × (x ≡ child_place s.elements c t u) × IsLoose g.life c) ⊎ ((c : ℕ) × (w.born c ≡ 0) × (l ≡ node (c + 1) 0))
  leads x l (inl (c, t, u, mine, at)) = inl (c, t, u, at, loose c mine)
  leads x l (inr (c, inl (m, mine), e)) = inr (c, (r.claims.shape x j m (Drawn c) (r.claims.held j x m (Drawn c) mine)).1, e)
  leads x l (inr (c, inr (y, mine), e)) = inr (c, (r.claims.shape y j (x + 1) (Half c) (r.claims.held j y (x + 1) (Half c) mine)).1, e)

  changes : (u : Write) → WorkerWrites s w v j u → WorkerChanges s.elements g.life w (written w u)
  changes WriteNothing may = ((λ h. inl (refl, refl)), (λ c. inl refl), (λ c. inl refl), λ x. inl refl)
  changes (WriteRound q t) may = absurd may
  changes (WriteCursor k) may = ((λ h. inl (refl, refl)), (λ c. inl refl), (λ c. inl refl), λ x. inl refl)
  changes (WriteFree k) may = absurd may
  changes (WriteReleased q k) may = absurd may
  changes (WriteRow i k) may = absurd may
  changes (WriteClaim y k) may = ((λ h. inl (refl, refl)), (λ c. inl refl), (λ c. inl refl), λ x. inl refl)
  changes (WriteLink y l) may = (
    (λ h. inl (refl, refl)),
    (λ c. inl refl),
    (λ c. inl refl),
    λ x. ⊎_elim
        (λ a. inl a)
        (λ a. inr (⊎_elim (λ b. inl (b.0, b.1, b.2, a.0 ∙ b.3, b.4)) (λ b. inr (b.0, b.1, a.1 ∙ b.2)) (leads y l may)))
        (changed w.head y l x),
  )
  changes (WriteLinkAndClaim y l k) may = absurd may
  changes (WriteHistory i l) may = ((λ h. ⊎_elim (λ a. inl (a, refl)) (λ a. let b = member i may in inr (b.0, b.1, a.0 ∙ b.2, b.3)) (changed w.history i l h)), (λ c. inl refl), (λ c. inl refl), λ x. inl refl)
  changes (WriteBorn b k) may = ((λ h. inl (refl, refl)), (λ c. inl refl), (λ c. ⊎_elim (λ a. inl a) (λ a. inr (ap w.born a.0 ∙ unborn, a.1 ∙ may.0 ∙ now)) (changed w.born b k c)), λ x. inl refl)
    where
      now : (v.work j).round ≡ w.round + 1
      now = (r.walks j).at_work kind

      unborn : w.born b ≡ 0
      unborn = (r.claims.shape may.1.0 j may.1.1 (Whole b) (r.claims.held j may.1.0 may.1.1 (Whole b) may.1.2)).1
  changes (WriteDied b k) may = (
    (λ h. inl (refl, refl)),
    (λ c. ⊎_elim
        (λ a. inl a)
        (λ a. inr (⊎_elim
        (λ mine. inl (let o = loose b mine in (o.0, ap g.life a.0 ∙ o.1)))
        (λ p. inr (ap w.died a.0 ∙ p.0, a.1 ∙ p.1 ∙ (r.walks j).at_work kind))
        may))
        (changed w.died b k c)),
    (λ c. inl refl),
    λ x. inl refl,
  )
  changes (WriteName i k) may = ((λ h. ⊎_elim (λ a. inl (refl, a)) (λ a. let b = member i may in inr (b.0, b.1, a.0 ∙ b.2, b.3)) (changed w.name i k h)), (λ c. inl refl), (λ c. inl refl), λ x. inl refl)

  may_change : (u : Write) → MayWrite s w v j u → WorkerChanges s.elements g.life w (written w u)
  may_change u (inl e) = subst (λ (a : Write). WorkerChanges s.elements g.life w (written w a)) (sym e) (changes WriteNothing _)
  may_change u (inr (inl a)) = changes u a.1
  may_change u (inr (inr (inl a))) = let e : Reader ≡ Worker = sym a.0 ∙ kind in absurd (cc)
  may_change u (inr (inr (inr a))) = let e : Worker ≡ Owner = sym kind ∙ (ap v.kind a.0 ∙ r.rules.owner.0) in absurd (cc)

pub workers_change : WorkersChange
workers_change s w n v (g, r) j u kind may = may_change s w n v g r j kind u may
