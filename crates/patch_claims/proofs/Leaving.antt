-- What a pass of the second half keeps, over two calls, and what it was told of the last finished round.
use Rattle.std.proofs.Common.{◌≡◌, ℕ, zero, suc, ◌+◌, ◌<◌, ◌≤◌, ◌==◌, Bool, true, false, cond, List, [], ◌∷◌, ◌++◌, reverse, refl, sym, ap, ◌∙◌, subst, inl, inr, arith, ne_eqb}
use Rattle.std.proofs.lemmas.List.{reverse-append}
use Rattle.mesh_names.specs.Names.{Name}
use Rattle.mesh_names.specs.Triangles.{Shape, size, level}
use Rattle.table_words.specs.Entries.{HasEntry, EntryAt}
use Rattle.table_words.specs.NameWords.{name_code}
use Rattle.table_words.specs.Places.{child_place}
use Rattle.table_words.specs.Setup.{Setup}
use Rattle.table_words.specs.Views.{Read}
use Rattle.table_state.specs.Lists.{IsClosed}
use Rattle.mesh_table.specs.Saw.{Saw, SawDied}
use Rattle.mesh_table.specs.Sights.{Sight, setup_at}
use Rattle.mesh_table.specs.declared.rule.Site.{Site}
use Rattle.mesh_table.specs.SecondHalf.{IsOld, dying, members_before, opened, retiring, saw_died, with_children, with_mate}
use Rattle.compat_check.specs.Meshes.{shape_of}
use Rattle.patch_walk.specs.Finished.{StillKnows, NothingRetired, AbsentAbove}
use Rattle.patch_walk.proofs.Above.{parent_level}
use Rattle.patch_walk.proofs.Climbing.{Later}
use Rattle.patch_walk.proofs.Names.{child_named}

pub still_more : {u v w : Sight} → StillKnows u v → StillKnows v w → StillKnows u w
still_more a b = record {
  kind = b.kind ∙ a.kind;
  claims = b.claims ∙ a.claims;
  owned = b.owned ∙ a.owned;
  read = b.read ∙ a.read;
  half = b.half ∙ a.half;
  round = b.round ∙ a.round;
  number = b.number ∙ a.number;
  plan = b.plan ∙ a.plan;
  retired = λ x e. b.retired x (a.retired x e);
  stood = λ x e. b.stood x (a.stood x e);
  had = λ x e. b.had x (a.had x e);
  open_ = λ x e. b.open_ x (a.open_ x e);
  absent = λ x e. b.absent x (a.absent x e);
}

-- what was told is told
pub old_on : (u v : Sight) → StillKnows u v → (k : ℕ) → IsOld u k → IsOld v k
old_on u v s k o = (o.0, o.1, o.2 ∙ sym s.round, subst (λ (r : Read). EntryAt r.told o.0 o.1) (sym s.read) o.3, o.4)

before_more : (k m : ℕ) (names : List ℕ) (a : ℕ) → HasEntry names a → HasEntry (members_before k m names) a
before_more k zero names a e = inr e
before_more k (suc m) names a e = inr (inr e)

-- a retirement keeps it
pub retiring_keeps : (s : Setup) (b k n : ℕ) (v : Sight) → StillKnows v (retiring s b k n v)
retiring_keeps s b k n v = record {
  kind = refl;
  claims = refl;
  owned = refl;
  read = refl;
  half = refl;
  round = refl;
  number = refl;
  plan = refl;
  retired = λ x e. more (n == 0) x e;
  stood = λ x e. e;
  had = λ x e. e;
  open_ = λ x e. before_more k (s.mate k) v.work.open_ x e;
  absent = λ x e. e;
}
  where
    more : (t : Bool) (x : ℕ) → HasEntry v.work.retired x → HasEntry (cond t (b ∷ v.work.retired) v.work.retired) x
    more true x e = inr e
    more false x e = e

-- the members are known as not bisected
pub members_open : (k m : ℕ) (names : List ℕ) → HasEntry (members_before k m names) k × ((i : ℕ) → m ≡ i + 1 → HasEntry (members_before k m names) (i + 1))
members_open k zero names = (inl refl, λ i e. absurd (omega arith))
members_open k (suc m) names = (inl refl, λ i e. inr (inl (sym e)))

-- with a name that was told, all above it was
module _ (k : Site) (v : Sight) (closed : IsClosed (setup_at k) (IsOld v)) where
  pub told_above : (r : ℕ) (u w : List Bool) → r < size (shape_of k.mesh.now) → level (shape_of k.mesh.now) (r, u ++ w) < 24 → IsOld v (name_code (r, u ++ w)) → IsOld v (name_code (r, w))
  told_above r [] w root low o = o
  told_above r (b ∷ u) w root low o =
      let mesh = shape_of k.mesh.now in
      let l : level mesh (r, b ∷ (u ++ w)) ≡ level mesh (r, u ++ w) + 1 = parent_level mesh (r, b ∷ (u ++ w)) (r, u ++ w) b refl in
      told_above r u w root (omega arith) (closed.parents (name_code (r, u ++ w)) b (subst (IsOld v) (sym (child_named mesh (r, u ++ w) b (omega arith) (omega arith) root)) o))

  pub none_above : (n : Name) → n.0 < size (shape_of k.mesh.now) → level (shape_of k.mesh.now) n < 24 → ((a : ℕ) → IsOld v a → HasEntry v.work.absent a → ⊥) → IsOld v (name_code n) → AbsentAbove v n → ⊥
  none_above n root low present o h = present _ (told_above n.0 h.0 h.1 root (subst (λ (l : List Bool). level (shape_of k.mesh.now) (n.0, l) < 24) h.2 low) (subst (λ (l : List Bool). IsOld v (name_code (n.0, l))) h.2 o)) h.3

-- the second member's places
pub mate_stands : (s : Setup) (b n : ℕ) (v : Sight) → (n ≡ 0 → ⊥) → (u : Bool) → HasEntry (with_mate s b n v).work.stood (child_place s.elements b true u, s.child n u)
mate_stands s b n v some u = subst (λ (t : Bool). HasEntry (cond t v (record v { work = record v.work { stood = with_children s b n true v.work.stood; had = (b, n) ∷ v.work.had } })).work.stood (child_place s.elements b true u, s.child n u)) (sym (ne_eqb n 0 some)) (side u)
  where
    side : (u : Bool) → HasEntry (with_children s b n true v.work.stood) (child_place s.elements b true u, s.child n u)
    side false = inl refl
    side true = inr (inl refl)

pub mate_keeps : (s : Setup) (b n : ℕ) (v : Sight) → StillKnows v (with_mate s b n v)
mate_keeps s b n v = by (n == 0)
  where
    by : (t : Bool) → StillKnows v (cond t v (record v { work = record v.work { stood = with_children s b n true v.work.stood; had = (b, n) ∷ v.work.had } }))
    by true = record { kind = refl; claims = refl; owned = refl; read = refl; half = refl; round = refl; number = refl; plan = refl; retired = λ x e. e; stood = λ x e. e; had = λ x e. e; open_ = λ x e. e; absent = λ x e. e }
    by false = record { kind = refl; claims = refl; owned = refl; read = refl; half = refl; round = refl; number = refl; plan = refl; retired = λ x e. e; stood = λ x e. inr (inr e); had = λ x e. inr e; open_ = λ x e. e; absent = λ x e. e }

pub retired_if : (t : Bool) (b : ℕ) (r : List ℕ) → t ≡ true → HasEntry (cond t (b ∷ r) r) b
retired_if true b r e = inl refl
retired_if false b r e = absurd (cc)

-- a load of DIED keeps it, retires nothing, and is told
module _ (b k n : ℕ) (v : Sight) where
  abbrev loaded : Bool → Sight
  loaded t = saw_died b n (cond t v (opened k v))

  pub dying_keeps : StillKnows v (dying b k n v)
  dying_keeps = by (n == 0)
    where
      by : (t : Bool) → StillKnows v (loaded t)
      by true = record { kind = refl; claims = refl; owned = refl; read = refl; half = refl; round = refl; number = refl; plan = refl; retired = λ x e. e; stood = λ x e. e; had = λ x e. e; open_ = λ x e. e; absent = λ x e. e }
      by false = record { kind = refl; claims = refl; owned = refl; read = refl; half = refl; round = refl; number = refl; plan = refl; retired = λ x e. e; stood = λ x e. e; had = λ x e. e; open_ = λ x e. inr e; absent = λ x e. e }

  pub dying_idle : NothingRetired v (dying b k n v)
  dying_idle = by (n == 0)
    where
      by : (t : Bool) → NothingRetired v (loaded t)
      by true = (refl, refl)
      by false = (refl, refl)

  pub dying_saw : (dying b k n v).saw ≡ SawDied b n ∷ v.saw
  dying_saw = by (n == 0)
    where
      by : (t : Bool) → (loaded t).saw ≡ SawDied b n ∷ v.saw
      by true = refl
      by false = refl

  pub dying_open : (n ≡ 0 → ⊥) → HasEntry (dying b k n v).work.open_ k
  dying_open some = subst (λ (t : Bool). HasEntry (loaded t).work.open_ k) (sym (ne_eqb n 0 some)) (inl refl)

-- the second member's places are told without a retirement
pub mate_idle : (s : Setup) (b n : ℕ) (v : Sight) → NothingRetired v (with_mate s b n v)
mate_idle s b n v = by (n == 0)
  where
    by : (t : Bool) → NothingRetired v (cond t v (record v { work = record v.work { stood = with_children s b n true v.work.stood; had = (b, n) ∷ v.work.had } }))
    by true = (refl, refl)
    by false = (refl, refl)

-- the list of the retired blocks after a retirement
pub retired_more : (t : Bool) (b : ℕ) (blocks more : List ℕ) (r : List ℕ) → r ≡ reverse blocks → (t ≡ true → more ≡ blocks ++ b ∷ []) → (t ≡ false → more ≡ blocks) → cond t (b ∷ r) r ≡ reverse more
retired_more true b blocks more r e yes_ no_ = ap (λ (xs : List ℕ). b ∷ xs) e ∙ sym (reverse-append blocks (b ∷ [])) ∙ ap reverse (sym (yes_ refl))
retired_more false b blocks more r e yes_ no_ = e ∙ ap reverse (sym (no_ refl))

pub mate_later : (s : Setup) (b n : ℕ) (u v : Sight) → Later u v → Later u (with_mate s b n v)
mate_later s b n u v l = by (n == 0)
  where
    by : (t : Bool) → Later u (cond t v (record v { work = record v.work { stood = with_children s b n true v.work.stood; had = (b, n) ∷ v.work.had } }))
    by true = l
    by false = l
