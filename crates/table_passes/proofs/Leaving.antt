-- A pass of the second half goes through its patches.
use Rattle.std.proofs.Common.{◌≡◌, ℕ, ◌+◌, ◌<◌, ◌≤◌, Bool, List, [], ◌∷◌, ◌++◌, ◌⊎◌, length, take, map, get_or, length-append, refl, sym, ap, ◌∙◌, subst, inl, inr, ⊎_elim, arith, All}
use Rattle.std.proofs.lemmas.List.{take_more, take_all, map-append}
use Rattle.std.proofs.lemmas.List.Elements.{All-cons, All-head, All-nil, All-push, All-tail}
use Rattle.std.specs.List.{AllZip}
use Rattle.atomic_table.specs.Seated.{TableId}
use Rattle.mesh_names.specs.declared.patch.PatchName.{PatchName}
use Rattle.table_words.specs.Entries.{HasEntry}
use Rattle.table_words.specs.NameWords.{name_code}
use Rattle.table_words.specs.Setup.{Setup}
use Rattle.table_words.proofs.Entries.{entry_of_both, entry_left, entry_right}
use Rattle.table_state.specs.Lists.{IsListed, IsMember}
use Rattle.mesh_table.specs.Sights.{Sight, setup_at}
use Rattle.mesh_table.specs.Told.{sight}
use Rattle.mesh_table.specs.declared.rule.Site.{Site}
use Rattle.patch_walk.specs.Finished.{StillKnows}
use Rattle.patch_claims.proofs.Deeper.{list_old_on, list_whole_on}
use Rattle.table_passes.specs.Late.{AreGoneBut, CanRetire, IsGone, IsGoneOrLeft, IsLateDone, IsLateReady, IsLateWorker, firsts_of}
use Rattle.table_passes.specs.declared.late_work.LateTask.{LateTask}

pub can_retire_still : (s : Setup) (u v : Sight) → CanRetire s u → StillKnows u v → CanRetire s v
can_retire_still s u v can st = record {
  works = (st.kind ∙ can.works.0, st.half ∙ can.works.1);
  positive = subst (λ (n : ℕ). 0 < n) (sym st.round) can.positive;
  old = list_old_on s u v st can.old;
  whole = list_whole_on s u v st can.whole;
}

pub gone_still : (s : Setup) (u v : Sight) (k : ℕ) → ((a : ℕ) → HasEntry u.work.open_ a → HasEntry v.work.open_ a) → IsGone s u k → IsGone s v k
gone_still s u v k more g = (more k g.0, λ i e. more (i + 1) (g.1 i e))

pub gone_but_still : (s : Setup) (u v : Sight) (ps left : List PatchName) → ((a : ℕ) → HasEntry u.work.open_ a → HasEntry v.work.open_ a) → AreGoneBut s u ps left → AreGoneBut s v ps left
gone_but_still s u v ps left more g = λ k e. ⊎_elim (λ h. inl (gone_still s u v k more h)) (λ h. inr h) (g k e)

module _ (s : Setup) (w : Sight) (before after : List PatchName) (p : PatchName) where
  firsts_more : firsts_of (before ++ p ∷ []) ≡ firsts_of before ++ name_code p.first ∷ []
  firsts_more = map-append (λ (q : PatchName). name_code q.first) before (p ∷ [])

  -- what was left is left
  left_on : (k : ℕ) → IsGoneOrLeft s w before after p → HasEntry (firsts_of before) k → HasEntry (firsts_of after) k
  left_on k (inl h) e = subst (λ (ps : List PatchName). HasEntry (firsts_of ps) k) (sym h.0) e
  left_on k (inr h) e = subst (λ (ps : List PatchName). HasEntry (firsts_of ps) k) (sym h) (subst (λ (l : List ℕ). HasEntry l k) (sym firsts_more) (entry_left {A = ℕ} (firsts_of before) (name_code p.first ∷ []) k e))

  -- and the patch is gone or left
  this_one : (k : ℕ) → IsGoneOrLeft s w before after p → k ≡ name_code p.first → IsGone s w k ⊎ HasEntry (firsts_of after) k
  this_one k (inl h) e = inl (subst (IsGone s w) (sym e) h.1)
  this_one k (inr h) e = inr (subst (λ (ps : List PatchName). HasEntry (firsts_of ps) k) (sym h) (subst (λ (l : List ℕ). HasEntry l k) (sym firsts_more) (entry_right {A = ℕ} (firsts_of before) (name_code p.first ∷ []) k (inl e))))

  pub left_count : (i : ℕ) → IsGoneOrLeft s w before after p → length before ≤ i → length after ≤ i + 1
  left_count i (inl h) l = let e : length after ≡ length before = ap length h.0 in omega arith
  left_count i (inr h) l = let e : length after ≡ length before + 1 = ap length h ∙ length-append before (p ∷ []) in omega arith

  pub left_all : (R : PatchName → Type 0) → IsGoneOrLeft s w before after p → R p → All R before → All R after
  left_all R (inl h) r all = subst (All R) (sym h.0) all
  left_all R (inr h) r all = subst (All R) (sym h) (All-push R before p all r)

  pub gone_more : (v : Sight) (ps more : List PatchName) → more ≡ ps ++ p ∷ [] → ((a : ℕ) → HasEntry v.work.open_ a → HasEntry w.work.open_ a) → AreGoneBut s v ps before → IsGoneOrLeft s w before after p → AreGoneBut s w more after
  gone_more v ps more em on gone one = λ k h. by k (entry_of_both {A = ℕ} (firsts_of ps) (name_code p.first ∷ []) k (subst (λ (l : List ℕ). HasEntry l k) (ap firsts_of em ∙ map-append (λ (q : PatchName). name_code q.first) ps (p ∷ [])) h))
    where
      by : (k : ℕ) → HasEntry (firsts_of ps) k ⊎ HasEntry (name_code p.first ∷ []) k → IsGone s w k ⊎ HasEntry (firsts_of after) k
      by k (inl e) = ⊎_elim (λ g. inl (gone_still s v w k on g)) (λ l. inr (left_on k one l)) (gone k e)
      by k (inr (inl e)) = this_one k one e
      by k (inr (inr e)) = absurd e

pub gone_none : (s : Setup) (v : Sight) (ps left : List PatchName) → AreGoneBut s v (take 0 ps) left
gone_none s v [] left = λ k h. absurd h
gone_none s v (p ∷ ps) left = λ k h. absurd h

pub still_same : (v : Sight) → StillKnows v v
still_same v = record { kind = refl; claims = refl; owned = refl; read = refl; half = refl; round = refl; number = refl; plan = refl; retired = λ x e. e; stood = λ x e. e; had = λ x e. e; open_ = λ x e. e; absent = λ x e. e }

late_worker : (id : TableId) (k : Site) (t u : LateTask) → IsLateReady id k t → IsLateDone k t u → IsLateWorker id k u
late_worker id k t u ready done =
    let keeps = done.worked.keeps in
    record {
      fit = (done.stays.0 ∙ ready.fit.0, done.stays.2 ∙ ready.fit.1);
      kind = keeps.kind ∙ ready.can.works.0;
      claims = keeps.claims ∙ ready.claims;
      gone = subst (λ (ps : List PatchName). AreGoneBut (setup_at k) (sight u.pass.seat) ps u.left.items) (sym done.patches) done.worked.gone;
      blocks = done.worked.blocks;
    }

-- passes that have worked can be joined
pub late_workers : (id : TableId) (k : Site) (ts us : List LateTask) → All (IsLateReady id k) ts → AllZip (IsLateDone k) ts us → All (IsLateWorker id k) us
late_workers id k [] [] ready done = All-nil (IsLateWorker id k)
late_workers id k [] (u ∷ us) ready done = absurd done
late_workers id k (t ∷ ts) [] ready done = absurd done
late_workers id k (t ∷ ts) (u ∷ us) ready done = All-cons (IsLateWorker id k) u us (late_worker id k t u (All-head (IsLateReady id k) t ts ready) done.0) (late_workers id k ts us (All-tail (IsLateReady id k) t ts ready) done.1)

-- what was left by one pass is gone or left after another
pub gone_later : (s : Setup) (u v : Sight) (ps mid left : List PatchName) → ((a : ℕ) → HasEntry u.work.open_ a → HasEntry v.work.open_ a) → AreGoneBut s u ps mid → AreGoneBut s v mid left → AreGoneBut s v ps left
gone_later s u v ps mid left on gone next = λ k h. ⊎_elim (λ g. inl (gone_still s u v k on g)) (λ l. next k l) (gone k h)

member_gone : (s : Setup) (v : Sight) (k i : ℕ) → IsGone s v k → IsMember s k i → HasEntry v.work.open_ i
member_gone s v k i g (inl e) = subst (HasEntry v.work.open_) (sym e) g.0
member_gone s v k i g (inr h) = subst (HasEntry v.work.open_) (sym h.2) (g.1 h.0 h.1)

-- where none of the list's patches is left, its names are known as not bisected: the round can be closed
pub all_gone : (s : Setup) (v : Sight) (list : List ℕ) (ps : List PatchName) → ((k : ℕ) → HasEntry list k → HasEntry (firsts_of ps) k) → AreGoneBut s v ps [] → (i : ℕ) → IsListed s list i → HasEntry v.work.open_ i
all_gone s v list ps dealt gone i l = member_gone s v l.0 i (⊎_elim (λ g. g) (λ e. absurd e) (gone l.0 (dealt l.0 l.1))) l.2
