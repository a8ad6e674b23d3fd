-- The fresh table meets the rule, and names that are apart exist.
use Rattle.std.proofs.Common.{[], ◌∷◌, subst, ◌≡◌, ℕ, zero, suc, ◌+◌, ◌≤◌, cond, Bool, List, ◌<◌, lt-ltb, refl, sym, ap, ◌∙◌, inl, inr, ⊎_elim, arith, ne_eqb, false}
use Rattle.table_words.specs.Entries.{Noted, EntryAt, HasEntry}
use Rattle.table_words.specs.Setup.{Setup, NamesApart, setup_of}
use Rattle.table_words.proofs.CodedNames.{codes_apart}
use Rattle.table_state.specs.Owned.{OwnedRule}
use Rattle.table_state.specs.Fresh.{idle, noted_below, fresh_words, fresh_kind, fresh_owned, fresh_views, fresh_ghost, FreshIsLawful}
use Rattle.table_words.specs.Sums.{sum_below, one_where}
use Rattle.table_words.specs.Views.{no_plan, Vacant, Worker, Reader, Owner, Resting}
use Rattle.table_words.specs.Words.{node}
use Rattle.table_state.specs.Ghosts.{Open, Free, Loose, Placed, RolledBack}
use Rattle.table_state.specs.Lists.{Holds}
use Rattle.table_state.proofs.Lists.{none_drawn, crew_free}
use Rattle.table_state.specs.Rule.{Rule}
use Rattle.table_state.proofs.FoundAgain.{still_not, walks_idle}
use Rattle.table_state.proofs.HeldClaims.{not_open}

noted_is : (n : ℕ) (f : ℕ → ℕ) (i a : ℕ) → Noted (noted_below n f) i a → (i < n) × (f i ≡ a)
noted_is zero f i a h = absurd h
noted_is (suc n) f i a (inl t) = let e = t.0 in (omega arith, ap f (sym t.0) ∙ t.1)
noted_is (suc n) f i a (inr t) = let r = noted_is n f i a t.1 in let l = r.0 in (omega arith, r.1)

row_is : (pool i : ℕ) → i < pool → (fresh_words pool).row i ≡ i
row_is pool i l = ap (λ (t : Bool). cond t i 0) (lt-ltb i pool l)

none_in : (n : ℕ) → ◌≡◌ {A = ℕ} (sum_below n (λ _. 0)) 0
none_in zero = refl
none_in (suc n) = let a = none_in n in omega arith

not_two : (j : ℕ) → fresh_kind j ≡ Reader → ⊥
not_two zero e = cc
not_two (suc j) e = cc

pub starts : (s : Setup) → NamesApart s → Rule s (fresh_words s.pool) 1 (fresh_views s.pool) fresh_ghost
starts s a = record {
  names_apart = a;
  claims = record {
    held = λ j x m p h. absurd h;
    holds = λ j x m p h. absurd (not_open j m p (sym h));
    bits = λ x. refl;
    inside = λ x l. refl;
    mates = λ x j y p h. absurd (not_open j (y + 1) p (sym h));
    shape = λ x j m p h. absurd (not_open j m p (sym h));
    kept = λ b x m u e o. absurd (free_not x m u);
    half = λ b x m u e. absurd (free_not x m u);
    rows = λ i l m. (refl, refl);
    apart = λ i k a l b m e. sym (row_is s.pool i l) ∙ e ∙ row_is s.pool k m;
    drawn = λ e. absurd (cc);
    living = λ x j m p h e. absurd (cc);
    none = λ x e. refl;
  };
  labels = λ x j m p h e. absurd (cc);
  chains = record { heads = λ x l. inl refl; histories = λ b t x h. absurd (omega arith); borns = λ b. omega arith; dieds = λ b x m u l. absurd (omega arith); rolled_back = λ b x m u. refl; unborn = λ b. inl refl; sides = λ b t u x h. absurd (omega arith) };
  names = record {
    fits = λ q k. record { found = λ i b e. absurd (omega arith); both = λ b y t u e. absurd (omega arith) };
    sound = λ q k b t x e. absurd (omega arith);
    patch = λ b x m u. absurd (free_not x m u);
    one = λ b c p q e. absurd (free_not p.0 p.1 p.2);
    calm = λ b x m l u. omega arith;
    grows = λ i b l e. absurd (omega arith);
    either = λ i b l e. absurd (omega arith);
    fresh = λ i e. refl;
  };
  pins = record { now = refl; later = λ q l. (refl, refl); count = λ q. let z : one_where 0 (q + 1) ≡ 0 = ap (λ (t : Bool). cond {A = ℕ} t 1 0) (ne_eqb 0 (q + 1) (λ (e : 0 ≡ q + 1). omega arith)) in omega arith; past = λ j q e. absurd (omega arith); few = λ j l. few j l; readers = λ j o. (refl, refl); spent = λ j e. refl; most = λ q. omega arith; bound = omega arith };
  works = λ j. record { only = λ _ _. (refl, refl, refl, refl); found = λ x k h. absurd h; known = λ k h. absurd h; open_ = λ k h. absurd h; given = λ b k h. absurd h };
  walks = λ j. walks_idle s 0 Resting (λ _. 0) (λ _. node 0 0) (λ _. 0) (λ _. 0) (λ _. Free) (λ _ _. 0) (fresh_kind j) j Resting 0 0 no_plan (λ _. refl) (λ e. absurd (not_one j e));
  owned = owned_is;
  goes = λ j. record { went = λ q b p h. absurd h; walk = λ q p. tt; sided = λ q x k b t p h. absurd (still_not x k b t h); dated = λ q x k b t p h. absurd (still_not x k b t h); places = λ q x k p h. absurd h; yes_notes = λ k q h. absurd h; no_notes = λ k q h. absurd h };
  rules = record { owner = (refl, omega arith); one = λ j e. only j e; workers = refl; readers = refl; few_readers = omega arith; halves = λ _ _. refl; drained = λ q h. absurd h };
  stock = record { finished = refl; cursor_is = λ k e. ((λ f. cc), omega arith); free_is = λ k e. omega arith; left = λ q k h. absurd h };
  note = record { rolled_back = λ b h. absurd h; all = λ b x m e. absurd (free_rolled_back x m e); placed = λ b x m h. absurd h; seen = λ x e. absurd (omega arith); quiet = λ e. absurd (cc) };
  retired = λ b x m u e. absurd (free_not x m u);
  grows = λ j. record { only = λ _ _. refl; grown = λ x k h. absurd h };
  retireds = λ b h. absurd (⊎_elim (λ t. t.1) (λ f. f) h);
  plan = record { same = λ j e. absurd (not_one j e); aim = λ l. absurd (omega arith); within = λ i l. absurd (omega arith); whole = λ i l. absurd (omega arith); done = λ i e. absurd (cc) };
  history = record { rounds = refl; forests = λ q names e i. empty q names e i; told = λ j. ([] ∷ [], refl); seen = λ j. (omega arith, omega arith); made = λ j. (omega arith, λ q e. absurd (omega arith)) };
  drawn = none_drawn Resting 0 s.pool (fresh_words s.pool).row fresh_kind (λ _. idle) (λ j. refl);
  draws = λ x j m p e. absurd (cc);
  crew = crew_free s 0 Resting fresh_kind (λ _. idle) (λ _. Open) false (omega arith, λ l. absurd (omega arith)) (λ e. absurd (cc));
  inside = record { few = omega arith; rows = λ i l. let e = row_is s.pool i l in omega arith; blocks = λ b l. refl; stand_in = λ b t x st. absurd (omega arith); seconds = λ x j y p h. absurd (not_open j (y + 1) p (sym h)); hand_in = λ b h. absurd h; retired_in = λ b h. absurd h };
  named = record { heads = λ x b t l e c. absurd (omega arith); histories = λ a c x t u st e. absurd (omega arith); patch = λ b x m u. absurd (free_rolled_back x m u) };
  once = λ j. tt;
  holders = λ x j m p h. absurd (not_open j m p (sym h));
  hand = λ b h. absurd h;
  frees = record { all = λ b l _. inr (inl (b, omega arith, l, row_is s.pool b l)); hand_rows = λ b h. absurd h; hand_stock = λ b h. absurd h; stocked = λ i l m. absurd (omega arith); once = λ i k l m. absurd (omega arith); shut = λ l. absurd (omega arith) };
  known = record { noted = λ b x m u. absurd (free_not x m u); rolled_back = λ b x m u. absurd (free_rolled_back x m u); loose = λ b u e. absurd (free_loose u e) };
  kept = record { all = λ b x m u. absurd (free_not x m u); right = λ b h. absurd h };
  early = refl;
}
  where
    owned_is : (j : ℕ) → OwnedRule s.elements 0 (λ _. node 0 0) (λ _. node 0 0) (λ _. 0) (λ _. 0) (λ _. 0) (fresh_words s.pool).row (λ _. Open) j (fresh_owned s.pool j)
    owned_is zero = record { head_is = λ z l f h. absurd f; history_is = λ b t l f h. absurd f; died_is = λ b k f h. absurd f; name_is = λ b t k f h. absurd f; born_is = λ b k f h i. (noted_is s.pool (λ _. 0) b k f).1; row_is = λ b k f h i. let t = noted_is s.pool (λ i. i) b k f in row_is s.pool b t.0 ∙ t.1 }
    owned_is (suc j) = record { head_is = λ z l f h. absurd f; history_is = λ b t l f h. absurd f; died_is = λ b k f h. absurd f; name_is = λ b t k f h. absurd f; born_is = λ b k f h i. absurd f; row_is = λ b k f h i. absurd f }

    not_one : (j : ℕ) → fresh_kind j ≡ Worker → ⊥
    not_one zero e = cc
    not_one (suc j) e = cc

    empty : (q : ℕ) (names : List ℕ) → EntryAt ([] ∷ []) q names → (i : ℕ) → (HasEntry names i → Holds (λ _. 0) i) × (Holds (λ _. 0) i → HasEntry names i)
    empty zero names e i = ((λ h. absurd (subst (λ (l : List ℕ). HasEntry l i) e h)), λ h. let z = h.1 in absurd (omega arith))
    empty (suc q) names e i = absurd e

    free_rolled_back : (x m : ℕ) → Free ≡ RolledBack x m → ⊥
    free_rolled_back x m e = cc

    free_not : (x m : ℕ) → Free ≡ Placed x m → ⊥
    free_not x m e = cc

    free_loose : (u : ℕ) → Free ≡ Loose u → ⊥
    free_loose u e = cc

    few : (j : ℕ) → 1 ≤ j → fresh_kind j ≡ Vacant
    few zero l = absurd (omega arith)
    few (suc j) l = refl

    only : (j : ℕ) → fresh_kind j ≡ Owner → j ≡ 0
    only zero e = refl
    only (suc j) e = absurd (cc)

pub fresh_is_lawful : FreshIsLawful
fresh_is_lawful mesh across tells l passes = starts (setup_of mesh across l passes) (codes_apart mesh across l passes tells)
