-- Each live name has a used index of its own, whoever gives one back or takes one.
use Rattle.std.proofs.Common.{◌≡◌, ◌≢◌, ℕ, zero, suc, ◌<◌, ◌≤◌, ℤ, Bool, true, false, cond, not, List, [], ◌∷◌, ◌++◌, take, drop, length, get_or, refl, ap, sym, ◌∙◌, subst, arith, Option, Some, None, unwrap_or, is_some, true≢false, add-one, option_map, ◌⊎◌, inl, inr, ⊎_elim}
use Rattle.std.proofs.lemmas.List.{get_or-set_other}
use Rattle.std.proofs.lemmas.List.Sums.{position_or_len_is}
use Rattle.std.specs.Ordering.{eq_by_cmp}
use Rattle.std.specs.FinMap.{get, insert, get-insert, get-remove}
use Rattle.dof_admin.specs.Administration.{IsLeastUnused, used_at, with_used}
use Rattle.mesh_names.specs.Names.{Name, name_cmp}
use Rattle.mesh_names.specs.Order.{name_cmp_total}
use Rattle.name_tree.specs.declared.nodes.Entry.{Entry}
use Rattle.dof_transfer.specs.Held.{Held, IsSound, SetsValue, index_of, least_unused, cleared, given_back, taken}
use Rattle.mesh_names.proofs.Sets.{same-tied, tied-same}

-- at and above the size no index is used
pub beyond : (flags : List Bool) (i : ℕ) → length flags ≤ i → used_at flags i ≡ false
beyond [] i above = refl
beyond (u ∷ flags) zero above = absurd (omega arith)
beyond (u ∷ flags) (suc i) above = beyond flags i (omega arith)

-- the least unused index is unused, and the size at most
pub unused-least : (flags : List Bool) → used_at flags (least_unused flags) ≡ false
unused-least [] = refl
unused-least (false ∷ flags) = refl
unused-least (true ∷ flags) = let next : suc (least_unused flags) ≡ least_unused (true ∷ flags) = omega arith in subst (λ (k : ℕ). used_at (true ∷ flags) k ≡ false) next (unused-least flags)

pub least-within : (flags : List Bool) → least_unused flags ≤ length flags
least-within [] = omega arith
least-within (false ∷ flags) = omega arith
least-within (true ∷ flags) = omega (arith, least-within flags)

-- it is the one that an administration finds
pub least_is : (flags : List Bool) (i : ℕ) → IsLeastUnused flags i → least_unused flags ≡ i
least_is flags i h =
    position_or_len_is not flags i false (not_above (length flags) i (λ below. true≢false (sym (h.least (length flags) below) ∙ beyond flags (length flags) (omega arith)))) (λ k below. ap not (h.least k below)) (λ _. ap not h.unused) where
      not_above : (n i : ℕ) → (n < i → ⊥) → i ≤ n
      not_above n i none = grind arith

-- a flag that is set, and the others
set-here : (flags : List Bool) (i : ℕ) → i ≤ length flags → get_or (take i flags ++ true ∷ drop (suc i) flags) i false ≡ true
set-here [] zero within = refl
set-here [] (suc i) within = absurd (omega arith)
set-here (u ∷ flags) zero within = refl
set-here (u ∷ flags) (suc i) within = set-here flags i (omega arith)

set-else : (flags : List Bool) (i j : ℕ) → i ≤ length flags → j ≢ i → get_or (take i flags ++ true ∷ drop (suc i) flags) j false ≡ get_or flags j false
set-else [] zero zero within other = absurd (other refl)
set-else [] zero (suc j) within other = refl
set-else [] (suc i) j within other = absurd (omega arith)
set-else (u ∷ flags) zero zero within other = absurd (other refl)
set-else (u ∷ flags) zero (suc j) within other = refl
set-else (u ∷ flags) (suc i) zero within other = refl
set-else (u ∷ flags) (suc i) (suc j) within other = set-else flags i j (omega arith) (λ e. other (ap suc e))

pub used-here : (flags : List Bool) (i : ℕ) → i ≤ length flags → used_at (with_used flags i) i ≡ true
used-here flags i within = rw add-one (set-here flags i within)

pub used-else : (flags : List Bool) (i j : ℕ) → i ≤ length flags → j ≢ i → used_at (with_used flags i) j ≡ used_at flags j
used-else flags i j within other = rw add-one (set-else flags i j within other)

-- the index of each name once one has given its own back, or taken one
pub index-given_back : (held : Held) (n q : Name) → index_of (given_back held n) q ≡ cond (eq_by_cmp name_cmp q n) None (index_of held q)
index-given_back held n q = ap (option_map (λ (e : Entry). e.index)) (get-remove name_cmp_total held.live n q) ∙ moved (eq_by_cmp name_cmp q n) (get held.live q) where
  moved : (b : Bool) (o : Option Entry) → option_map (λ (e : Entry). e.index) (cond b None o) ≡ cond b None (option_map (λ (e : Entry). e.index) o)
  moved true o = refl
  moved false o = refl

pub index-taken : (held : Held) (n q : Name) (v : ℤ) → index_of (taken held n v) q ≡ cond (eq_by_cmp name_cmp q n) (Some (least_unused held.flags)) (index_of held q)
index-taken held n q v = ap (option_map (λ (e : Entry). e.index)) (get-insert name_cmp_total held.live n (record { index = least_unused held.flags; value = v }) q) ∙ moved (eq_by_cmp name_cmp q n) (get held.live q) where
  moved : (b : Bool) (o : Option Entry) → option_map (λ (e : Entry). e.index) (cond b (Some (record { index = least_unused held.flags; value = v })) o) ≡ cond b (Some (least_unused held.flags)) (option_map (λ (e : Entry). e.index) o)
  moved true o = refl
  moved false o = refl

-- a choice is one or the other
split : {A : Type 0} (b : Bool) (x y : Option A) (a : A) → cond b x y ≡ Some a → ((b ≡ true) × (x ≡ Some a)) ⊎ ((b ≡ false) × (y ≡ Some a))
split true x y a h = inl (refl, h)
split false x y a h = inr (refl, h)

no_some : {A : Type 0} (a : A) → None ≡ Some a → ⊥
no_some a h = true≢false (sym (ap is_some h))

some_same : {A : Type 0} (a b : A) → Some a ≡ Some b → a ≡ b
some_same a b h = ap (λ (o : Option _). unwrap_or o a) h

-- an index that another name has is not the one that is given back
kept_used : (held : Held) (n q : Name) (i : ℕ) (o : Option ℕ) → index_of held n ≡ o → IsSound held → eq_by_cmp name_cmp q n ≡ false → index_of held q ≡ Some i → used_at (cleared held.flags o) i ≡ true
kept_used held n q i None is sound other has = sound.used q i has
kept_used held n q i (Some j) is sound other has =
    get_or-set_other held.flags j i false false (λ (e : i ≡ j). true≢false (sym (same_tests (sound.apart q n i has (is ∙ ap Some (sym e)))) ∙ other))
    ∙ sound.used q i has where
      same_tests : q ≡ n → eq_by_cmp name_cmp q n ≡ true
      same_tests e = same-tied q n e

pub sound-given_back : (held : Held) (n : Name) → IsSound held → IsSound (given_back held n)
sound-given_back held n sound = record {
  used = λ q i h.
      ⊎_elim
      (λ (x : (eq_by_cmp name_cmp q n ≡ true) × (None ≡ Some i)). absurd (no_some i x.1))
      (λ (x : (eq_by_cmp name_cmp q n ≡ false) × (index_of held q ≡ Some i)). kept_used held n q i (index_of held n) refl sound x.0 x.1)
      (split (eq_by_cmp name_cmp q n) None (index_of held q) i (sym (index-given_back held n q) ∙ h));
  apart = λ p q i hp hq. sound.apart p q i (kept p i hp) (kept q i hq);
} where
  kept : (q : Name) (i : ℕ) → index_of (given_back held n) q ≡ Some i → index_of held q ≡ Some i
  kept q i h =
      ⊎_elim
      (λ (x : (eq_by_cmp name_cmp q n ≡ true) × (None ≡ Some i)). absurd (no_some i x.1))
      (λ (x : (eq_by_cmp name_cmp q n ≡ false) × (index_of held q ≡ Some i)). x.1)
      (split (eq_by_cmp name_cmp q n) None (index_of held q) i (sym (index-given_back held n q) ∙ h))

-- who has an index once n has taken one: n the new one, any other its own
pub data Holds (held : Held) (n q : Name) (i : ℕ) : Type 0 where
  new : q ≡ n → least_unused held.flags ≡ i → Holds held n q i
  old : index_of held q ≡ Some i → Holds held n q i

holds : (held : Held) (n q : Name) (v : ℤ) (i : ℕ) → index_of (taken held n v) q ≡ Some i → Holds held n q i
holds held n q v i h =
    ⊎_elim
    (λ (x : (eq_by_cmp name_cmp q n ≡ true) × (Some (least_unused held.flags) ≡ Some i)). new (tied-same q n x.0) (some_same _ _ x.1))
    (λ (x : (eq_by_cmp name_cmp q n ≡ false) × (index_of held q ≡ Some i)). old x.1)
    (split (eq_by_cmp name_cmp q n) (Some (least_unused held.flags)) (index_of held q) i (sym (index-taken held n q v) ∙ h))

-- the new index is nobody's
fresh : (held : Held) (q : Name) (i : ℕ) → IsSound held → index_of held q ≡ Some i → least_unused held.flags ≡ i → ⊥
fresh held q i sound has is = true≢false (sym (sound.used q i has) ∙ ap (used_at held.flags) (sym is) ∙ unused-least held.flags)

still_used : (held : Held) (n q : Name) (i : ℕ) → IsSound held → Holds held n q i → used_at (with_used held.flags (least_unused held.flags)) i ≡ true
still_used held n q i sound (new e is) = subst (λ (j : ℕ). used_at (with_used held.flags (least_unused held.flags)) j ≡ true) is (used-here held.flags (least_unused held.flags) (least-within held.flags))
still_used held n q i sound (old has) = used-else held.flags (least_unused held.flags) i (least-within held.flags) (λ e. fresh held q i sound has (sym e)) ∙ sound.used q i has

still_apart : (held : Held) (n p q : Name) (i : ℕ) → IsSound held → Holds held n p i → Holds held n q i → p ≡ q
still_apart held n p q i sound (new e is) (new f js) = e ∙ sym f
still_apart held n p q i sound (new e is) (old has) = absurd (fresh held q i sound has is)
still_apart held n p q i sound (old has) (new f js) = absurd (fresh held p i sound has js)
still_apart held n p q i sound (old has) (old same) = sound.apart p q i has same

pub sound-taken : (held : Held) (n : Name) (v : ℤ) → IsSound held → IsSound (taken held n v)
sound-taken held n v sound = record {
  used = λ q i h. still_used held n q i sound (holds held n q v i h);
  apart = λ p q i hp hq. still_apart held n p q i sound (holds held n p v i hp) (holds held n q v i hq);
}

-- a value that is set changes no index
index-set : (held : Held) (n q : Name) (e : Entry) (v : ℤ) → get held.live n ≡ Some e → index_of (record { live = insert held.live n (record { index = e.index; value = v }); flags = held.flags }) q ≡ index_of held q
index-set held n q e v has = ap (option_map (λ (x : Entry). x.index)) (get-insert name_cmp_total held.live n (record { index = e.index; value = v }) q) ∙ moved where
  moved : option_map (λ (x : Entry). x.index) (cond (eq_by_cmp name_cmp q n) (Some (record { index = e.index; value = v })) (get held.live q)) ≡ option_map (λ (x : Entry). x.index) (get held.live q)
  moved =
      elim (eq_by_cmp name_cmp q n) as (λ (b : Bool). eq_by_cmp name_cmp q n ≡ b → option_map (λ (x : Entry). x.index) (cond b (Some (record { index = e.index; value = v })) (get held.live q)) ≡ option_map (λ (x : Entry). x.index) (get held.live q)) [
        | true ↦ λ (t : eq_by_cmp name_cmp q n ≡ true). ap (option_map (λ (x : Entry). x.index)) (sym (ap (get held.live) (tied-same q n t) ∙ has))
        | false ↦ λ _. refl
      ] refl

pub sets_value : (held : Held) (n : Name) (e : Entry) (v : ℤ) → get held.live n ≡ Some e → SetsValue held (record { live = insert held.live n (record { index = e.index; value = v }); flags = held.flags }) n v
sets_value held n e v has = record {
  value = ap (option_map (λ (x : Entry). x.value)) (get-insert name_cmp_total held.live n (record { index = e.index; value = v }) n) ∙ ap (λ (b : Bool). option_map (λ (x : Entry). x.value) (cond b (Some (record { index = e.index; value = v })) (get held.live n))) (same-tied n n refl);
  index = index-set held n n e v has;
  others = λ q other. get-insert name_cmp_total held.live n (record { index = e.index; value = v }) q ∙ ap (λ (b : Bool). cond b (Some (record { index = e.index; value = v })) (get held.live q)) (untied q n other);
  flags = refl;
} where
  untied : (q n : Name) → q ≢ n → eq_by_cmp name_cmp q n ≡ false
  untied q n other = elim (eq_by_cmp name_cmp q n) as (λ (b : Bool). eq_by_cmp name_cmp q n ≡ b → b ≡ false) [ true ↦ λ (t : eq_by_cmp name_cmp q n ≡ true). absurd (other (tied-same q n t)) | false ↦ λ _. refl ] refl

pub sound-set : (held : Held) (n : Name) (e : Entry) (v : ℤ) → get held.live n ≡ Some e → IsSound held → IsSound (record { live = insert held.live n (record { index = e.index; value = v }); flags = held.flags })
sound-set held n e v has sound = record {
  used = λ q i h. sound.used q i (sym (index-set held n q e v has) ∙ h);
  apart = λ p q i hp hq. sound.apart p q i (sym (index-set held n p e v has) ∙ hp) (sym (index-set held n q e v has) ∙ hq);
}
