-- A sorted set that takes or loses a key, as a set.
use Rattle.std.proofs.Common.{◌≡◌, Bool, true, false, cond, not, ◌&&◌, ◌||◌, refl, sym, ◌∙◌, List}
use Rattle.std.proofs.lemmas.Cmp.{eq_by_cmp_equiv}
use Rattle.std.specs.List.{list_any}
use Rattle.std.specs.FinSet.{contains, insert, remove, from_list, contains-insert, contains-remove, contains-from_list, same_set}
use Rattle.mesh_names.specs.Names.{Name, name_eq}
use Rattle.mesh_names.specs.Order.{name_cmp_total, name_cmp-same}
use Rattle.mesh_names.specs.Forests.{Names}

cond-or : (a b : Bool) → cond a true b ≡ (a || b)
cond-or true b = refl
cond-or false b = refl

cond-and : (a b : Bool) → cond a false b ≡ (not a && b)
cond-and true b = refl
cond-and false b = refl

pub held-set : (old new : List Name) (s : Names) (k : Name) → from_list old ≡ s → ((q : Name) → list_any (name_eq q) new ≡ cond (name_eq k q) true (list_any (name_eq q) old)) → from_list new ≡ insert s k
held-set old new s k is h = same_set name_cmp_total name_cmp-same (from_list new) (insert s k) (λ q.
    contains-from_list name_cmp_total new q
    ∙ h q
    ∙ cond-or (name_eq k q) (list_any (name_eq q) old)
    ∙ (λ i. (eq_by_cmp_equiv name_cmp_total).symm k q i || list_any (name_eq q) old)
    ∙ (λ i. name_eq q k || sym (contains-from_list name_cmp_total old q) i)
    ∙ (λ i. name_eq q k || contains (is i) q)
    ∙ sym (contains-insert name_cmp_total s k q))

-- a sorted set without a key, as a set
pub left-set : (old new : List Name) (s : Names) (k : Name) → from_list old ≡ s → ((q : Name) → list_any (name_eq q) new ≡ cond (name_eq k q) false (list_any (name_eq q) old)) → from_list new ≡ remove s k
left-set old new s k is h = same_set name_cmp_total name_cmp-same (from_list new) (remove s k) (λ q.
    contains-from_list name_cmp_total new q
    ∙ h q
    ∙ cond-and (name_eq k q) (list_any (name_eq q) old)
    ∙ (λ i. not ((eq_by_cmp_equiv name_cmp_total).symm k q i) && list_any (name_eq q) old)
    ∙ (λ i. not (name_eq q k) && sym (contains-from_list name_cmp_total old q) i)
    ∙ (λ i. not (name_eq q k) && contains (is i) q)
    ∙ sym (contains-remove name_cmp_total s k q))
