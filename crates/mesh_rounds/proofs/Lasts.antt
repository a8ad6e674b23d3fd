-- The last of the rows that are meant.
use Rattle.std.proofs.Common.{◌≡◌, ℕ, suc, ◌+◌, ◌<◌, ◌≤◌, ℤ, List, get_or, [], ◌∷◌, ◌++◌, take, drop, length, refl, ap, sym, ◌∙◌, subst, Option, inl, inr, arith}
use Rattle.std.specs.List.{All}
use Rattle.std.proofs.lemmas.List.{get_or-append-add, length-append, take-append-drop, take_more}
use Rattle.std.proofs.lemmas.List.Elements.{All-append, All-cons}
use Rattle.mesh_names.specs.declared.rows.MarkRow.{MarkRow}
use Rattle.std.specs.Prelude.{IsSome}
use Rattle.mesh_rounds.specs.Setting.{AreSet, Holding, TakesLast}
use Rattle.mesh_rounds.specs.Taking.{AllTake, Takes}

none-all : (P : MarkRow → Type 0) → All P []
none-all P k d low = absurd (nothing low) where
  nothing : k < 0 → ⊥
  nothing h = omega (arith, h)

all-last : (P : MarkRow → Type 0) (rows : List MarkRow) (row : MarkRow) → All P rows → P row → All P (rows ++ row ∷ [])
all-last P rows row all p = All-append P rows (row ∷ []) all (All-cons P row [] p (none-all P))

append-last : (before : List MarkRow) (r : MarkRow) (after : List MarkRow) (row : MarkRow) → (before ++ r ∷ after) ++ row ∷ [] ≡ before ++ r ∷ (after ++ row ∷ [])
append-last [] r after row = refl
append-last (b ∷ bs) r after row = ap (λ (l : List MarkRow). b ∷ l) (append-last bs r after row)

-- one more row: what is meant by it takes its number
pub last-more : (meant : MarkRow → Type 0) (rows : List MarkRow) (row : MarkRow) (old mid new : Option ℤ) → TakesLast meant rows old mid → Takes (meant row) row.number mid new → TakesLast meant (rows ++ row ∷ []) old new
last-more meant rows row old mid new first (inl now) = inr (record {
  before = rows;
  row = row;
  after = [];
  split = refl;
  this = now.0;
  none = none-all (λ r. meant r → ⊥);
  number = now.1;
})
last-more meant rows row old mid new (inl none) (inr other) = inl (all-last (λ r. meant r → ⊥) rows row none.0 other.0, other.1 ∙ none.1)
last-more meant rows row old mid new (inr last) (inr other) = inr (record {
  before = last.before;
  row = last.row;
  after = last.after ++ row ∷ [];
  split = ap (λ (l : List MarkRow). l ++ row ∷ []) last.split ∙ append-last last.before last.row last.after row;
  this = last.this;
  none = all-last (λ r. meant r → ⊥) last.after row last.none other.0;
  number = other.1 ∙ last.number;
})

append-both : (rows before : List MarkRow) (others : List MarkRow) → rows ++ (before ++ others) ≡ (rows ++ before) ++ others
append-both [] before others = refl
append-both (r ∷ rs) before others = ap (λ (l : List MarkRow). r ∷ l) (append-both rs before others)

-- rows before, which are not meant where none of the others is
pub last-after : (meant : MarkRow → Type 0) (rows others : List MarkRow) (old new : Option ℤ) → (All (λ r. meant r → ⊥) others → All (λ r. meant r → ⊥) rows) → TakesLast meant others old new → TakesLast meant (rows ++ others) old new
last-after meant rows others old new overruled (inl none) = inl (All-append (λ r. meant r → ⊥) rows others (overruled none.0) none.0, none.1)
last-after meant rows others old new overruled (inr last) = inr (record {
  before = rows ++ last.before;
  row = last.row;
  after = last.after;
  split = ap (λ (l : List MarkRow). rows ++ l) last.split ∙ append-both rows last.before (last.row ∷ last.after);
  this = last.this;
  none = last.none;
  number = last.number;
})

-- what had a value has one
pub last-live : (meant : MarkRow → Type 0) (rows : List MarkRow) (old new : Option ℤ) → IsSome old → TakesLast meant rows old new → IsSome new
last-live meant rows old new live (inl none) = subst IsSome (sym none.1) live
last-live meant rows old new live (inr last) = subst IsSome (sym last.number) refl

-- the same rows are meant by other words
pub last-same : (one two : MarkRow → Type 0) (rows : List MarkRow) (old new : Option ℤ) → All (λ r. one r → two r) rows → All (λ r. two r → one r) rows → TakesLast one rows old new → TakesLast two rows old new
last-same one two rows old new to from (inl none) = inl ((λ k d low m. none.0 k d low (from k d low m)), none.1)
last-same one two rows old new to from (inr last) = inr (record {
  before = last.before;
  row = last.row;
  after = last.after;
  split = last.split;
  this = subst (λ (r : MarkRow). one r → two r) here (to (length last.before) last.row within) last.this;
  none = λ k d low m. last.none k d low (subst (λ (r : MarkRow). two r → one r) (there k d) (from (length last.before + (suc k)) d (further k low)) m);
  number = last.number;
}) where
  within : length last.before < length rows
  within = omega (arith, ap (λ (l : List MarkRow). length l) last.split, length-append last.before (last.row ∷ last.after))

  same : (i : ℕ) → i ≡ i + 0
  same i = omega arith

  here : get_or rows (length last.before) last.row ≡ last.row
  here = ap (λ (l : List MarkRow). get_or l (length last.before) last.row) last.split ∙ ap (λ (i : ℕ). get_or (last.before ++ last.row ∷ last.after) i last.row) (same (length last.before)) ∙ get_or-append-add last.before (last.row ∷ last.after) 0 last.row

  there : (k : ℕ) (d : MarkRow) → get_or rows (length last.before + (suc k)) d ≡ get_or last.after k d
  there k d = ap (λ (l : List MarkRow). get_or l (length last.before + (suc k)) d) last.split ∙ get_or-append-add last.before (last.row ∷ last.after) (suc k) d

  further : (k : ℕ) → k < length last.after → length last.before + (suc k) < length rows
  further k low = omega (arith, low, ap (λ (l : List MarkRow). length l) last.split, length-append last.before (last.row ∷ last.after))

module _ {A H : Type 0} (holding : Holding A H) (proper : A → Type 0) (sets : A → MarkRow → Type 0) where
  -- no row sets anything
  pub none-set : (h : H) → AreSet holding (λ a. proper a × IsSome (holding.value h a)) sets [] h h
  none-set h = record {
    values = λ a there. inl (none-all (λ r. sets a r → ⊥), refl);
    none = λ a e. e;
    indices = λ a. refl;
    flags = refl;
  }

  -- one more row
  pub set-more : (rows : List MarkRow) (i : ℕ) (row : MarkRow) (old mid new : H) → i < length rows → row ≡ get_or rows i row → AreSet holding (λ a. proper a × IsSome (holding.value old a)) sets (take i rows) old mid → AllTake holding proper (λ a. sets a row) row.number mid new → AreSet holding (λ a. proper a × IsSome (holding.value old a)) sets (take (i + 1) rows) old new
  set-more rows i row old mid new within is first takes =
      let one : take (i + 1) rows ≡ take i rows ++ row ∷ [] = take_more rows i row within ∙ ap (λ (r : MarkRow). take i rows ++ r ∷ []) (sym is) in
      record {
        values = λ a there. subst (λ (l : List MarkRow). TakesLast (sets a) l (holding.value old a) (holding.value new a)) (sym one)
            (last-more (sets a) (take i rows) row (holding.value old a) (holding.value mid a) (holding.value new a) (first.values a there)
            (takes.values a there.0 (last-live (sets a) (take i rows) (holding.value old a) (holding.value mid a) there.1 (first.values a there))));
        none = λ a e. takes.none a (first.none a e);
        indices = λ a. takes.indices a ∙ first.indices a;
        flags = takes.flags ∙ first.flags;
      }

  -- the rows that do not count before them
  pub set-from : (rows : List MarkRow) (start : ℕ) (old new : H) → start ≤ length rows → ((a : A) → proper a × IsSome (holding.value old a) → All (λ r. sets a r → ⊥) (drop start rows) → All (λ r. sets a r → ⊥) (take start rows)) → AreSet holding (λ a. proper a × IsSome (holding.value old a)) sets (drop start rows) old new → AreSet holding (λ a. proper a × IsSome (holding.value old a)) sets rows old new
  set-from rows start old new low overruled set = record {
    values = λ a there. subst (λ (l : List MarkRow). TakesLast (sets a) l (holding.value old a) (holding.value new a)) (take-append-drop start rows)
        (last-after (sets a) (take start rows) (drop start rows) (holding.value old a) (holding.value new a) (overruled a there) (set.values a there));
    none = set.none;
    indices = set.indices;
    flags = set.flags;
  }

  -- what had a value has one
  pub set-live : (rows : List MarkRow) (old new : H) → AreSet holding (λ a. proper a × IsSome (holding.value old a)) sets rows old new → (a : A) → proper a → IsSome (holding.value old a) → IsSome (holding.value new a)
  set-live rows old new set a p live = last-live (sets a) rows (holding.value old a) (holding.value new a) live (set.values a (p, live))
