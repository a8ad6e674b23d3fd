-- A forest of names that stand for others has no more patches than theirs.
use Rattle.std.proofs.Common.{◌≡◌, ℕ, zero, suc, ◌+◌, ◌-◌, ◌<◌, ◌≤◌, Bool, true, false, cond, not, ◌&&◌, refl, sym, ap, ◌∙◌, subst, List, [], ◌∷◌, arith, inl, ⊎_elim}
use Rattle.std.specs.Prelude.{Option, Some, None}
use Rattle.std.specs.Ordering.{is_lt}
use Rattle.std.specs.FinSet.{contains, insert, remove, retain, len, items, empty, contains-remove, contains-empty, len-insert, len-remove, len-empty}
use Rattle.mesh_names.specs.Names.{Name, name_cmp, name_eq}
use Rattle.mesh_names.specs.Order.{name_cmp_total}
use Rattle.mesh_names.specs.Triangles.{Shape, size}
use Rattle.mesh_names.specs.Forests.{Names, Has}
use Rattle.mesh_names.specs.Partners.{Across, partner}
use Rattle.mesh_names.specs.Patches.{is_first, owns, patch_count}
use Rattle.mesh_names.proofs.Neighbours.{none_some}
use Rattle.mesh_names.proofs.Sets.{In, is_or_not, both_sides, has-item, item-has, tied-same, same-tied, within-both}
use Rattle.mesh_names.proofs.Pairs.{partners_pair}
use Rattle.mesh_names.proofs.Inserting.{has-insert, new-insert, insert-either}
use Rattle.mesh_names.proofs.Booleans.{and_both, and-both, not_true, not-true, true-not, retained}
use Rattle.written_meshes.specs.ForestRenaming.{IsRenaming, StandsFor, PatchesAreFewer}

-- ---- numbers of members
removed : (f : Names) (k q : Name) → contains (remove f k) q ≡ (not (name_eq q k) && contains f q)
removed f k q = contains-remove name_cmp_total f k q

from_removed : (f : Names) (k q : Name) → Has (remove f k) q → (q ≡ k → ⊥) × Has f q
from_removed f k q h = let b = and_both (not (name_eq q k)) (contains f q) (sym (removed f k q) ∙ h) in ((λ e. both_sides (name_eq q k) (same-tied q k e) (true-not (name_eq q k) b.0)), b.1)

in_removed : (f : Names) (k q : Name) → (q ≡ k → ⊥) → Has f q → Has (remove f k) q
in_removed f k q n h = removed f k q ∙ and-both (not (name_eq q k)) (contains f q) (not-true (name_eq q k) (not_true (name_eq q k) (λ e. n (tied-same q k e)))) h

no_items : (s : Names) → items s ≡ [] → s ≡ empty
no_items s e = within-both s empty (λ q h. absurd (subst (λ (ks : List Name). In q ks) e (has-item s q h))) (λ q h. absurd (both_sides (contains (empty {R = name_cmp}) q) h (contains-empty name_cmp q)))

has-len : (s : Names) (k : Name) → Has s k → len (remove s k) ≡ len s - 1
has-len s k h = len-remove name_cmp_total s k ∙ ap (λ (c : Bool). cond c (len s - 1) (len s)) h

some_len : (s : Names) (k : Name) → Has s k → 0 < len s
some_len s k h = by (len (insert (remove s k) k)) refl
  where
    back : insert (remove s k) k ≡ s
    back = within-both (insert (remove s k) k) s
        (λ q i. ⊎_elim (λ (e : q ≡ k). subst (λ (y : Name). Has s y) (sym e) h) (λ j. (from_removed s k q j).1) (insert-either (remove s k) k q i))
        (λ q i. ⊎_elim
        (λ e. subst (λ (y : Name). Has (insert (remove s k) k) y) (sym (tied-same q k e)) (new-insert (remove s k) k))
        (λ e. has-insert (remove s k) k q (removed s k q ∙ and-both (not (name_eq q k)) (contains s q) (not-true (name_eq q k) e) i))
        (is_or_not (name_eq q k)))

    gone : contains (remove s k) k ≡ false
    gone = not_true (contains (remove s k) k) (λ e. (from_removed s k k e).0 refl)

    by : (n : ℕ) → len (insert (remove s k) k) ≡ n → 0 < len s
    by n e =
        let a = len-insert name_cmp_total (remove s k) k ∙ ap (λ (c : Bool). cond c (len (remove s k)) (len (remove s k) + 1)) gone in
        let b = ap (λ (y : Names). len y) back in
        omega (arith, a, b)

-- a set whose members are sent into another, no two to one, is no larger
len-sent : (k : ℕ) (s t : Names) (f : Name → Name) → len s ≤ k → ((q : Name) → Has s q → Has t (f q)) → ((p q : Name) → Has s p → Has s q → f p ≡ f q → p ≡ q) → len s ≤ len t
len-sent zero s t f h into apart = omega (arith, h)
len-sent (suc k) s t f h into apart = by (items s) refl (λ q a b c. len-sent k (remove s q) (remove t (f q)) f a b c)
  where
    by : (ks : List Name) → items s ≡ ks → ((q : Name) → len (remove s q) ≤ k → ((p : Name) → Has (remove s q) p → Has (remove t (f q)) (f p)) → ((p r : Name) → Has (remove s q) p → Has (remove s q) r → f p ≡ f r → p ≡ r) → len (remove s q) ≤ len (remove t (f q))) → len s ≤ len t
    by [] e ih = let z = ap (λ (y : Names). len y) (no_items s e) ∙ len-empty name_cmp in omega (arith, z)
    by (q ∷ ks) e ih =
        let hs : Has s q = item-has s q (subst (λ (ls : List Name). In q ls) (sym e) (inl refl)) in
        let ht = into q hs in
        let a = has-len s q hs in
        let b = has-len t (f q) ht in
        let c = some_len s q hs in
        let d = some_len t (f q) ht in
        let rest = ih q (omega (arith, a, h))
        (λ p hp. let r = from_removed s q p hp in in_removed t (f q) (f p) (λ same. r.0 (apart p q r.1 hs same)) (into p r.1))
        (λ p r hp hr same. apart p r (from_removed s q p hp).1 (from_removed s q r hr).1 same) in
        omega (arith, a, b, c, d, rest)

-- ---- patches
module _ (mesh other : Shape) (x y : Across) (members : Names) (rename : Name → Name) (r : IsRenaming mesh other x y members rename) where
  pub owners : (n : Name) → n.0 < size other → owns y n ≡ owns x (rename n)
  owners n h = by (partner y n.0 n.1) refl
    where
      alone : (o : Option (Name × Bool)) → partner x (rename n).0 (rename n).1 ≡ o → partner y n.0 n.1 ≡ None → true ≡ is_first (rename n) o
      alone None e f = refl
      alone (Some m) e f = let b = r.back n m.0 m.1 h e in absurd (none_some (b.0, b.1.0) (sym f ∙ b.1.1))

      by : (o : Option (Name × Bool)) → partner y n.0 n.1 ≡ o → is_first n (partner y n.0 n.1) ≡ is_first (rename n) (partner x (rename n).0 (rename n).1)
      by None e = ap (is_first n) e ∙ alone (partner x (rename n).0 (rename n).1) refl e
      by (Some m) e =
          let p = r.partners n m.0 m.1 h e in
          ap (is_first n) e ∙ ap is_lt (sym (r.order n m.0 h (partners_pair other y r.tells_other n m.0 m.1 h e).rooted)) ∙ sym (ap (is_first (rename n)) p.1)

  fewer : (new old : Names) → StandsFor other rename new old → patch_count y new ≤ patch_count x old
  fewer new old stands = len-sent (patch_count y new) (retain new (owns y)) (retain old (owns x)) rename (omega arith)
      (λ q h. let f = and_both (contains new q) (owns y q) (sym (retained new (owns y) q) ∙ h) in
      let hq = stands.rooted q f.0 in
      retained old (owns x) (rename q) ∙ and-both (contains old (rename q)) (owns x (rename q)) (sym (stands.same q hq) ∙ f.0) (sym (owners q hq) ∙ f.1))
      (λ p q hp hq e. r.one p q (stands.rooted p (kept p hp)) (stands.rooted q (kept q hq)) e)
    where
      kept : (q : Name) → Has (retain new (owns y)) q → Has new q
      kept q h = (and_both (contains new q) (owns y q) (sym (retained new (owns y) q) ∙ h)).0

pub patches_are_fewer : PatchesAreFewer
patches_are_fewer mesh other x y members rename r new old stands = fewer mesh other x y members rename r new old stands
