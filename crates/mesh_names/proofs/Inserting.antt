-- A set of names that takes one more.
use Rattle.std.proofs.Common.{◌≡◌, ◌⊎◌, refl, sym, ◌∙◌, inl, inr, ⊎_elim}
use Rattle.std.specs.FinSet.{contains, insert, contains-insert}
use Rattle.mesh_names.specs.Names.{Name, name_eq}
use Rattle.mesh_names.specs.Order.{name_cmp_total}
use Rattle.mesh_names.specs.Forests.{Names, Has}
use Rattle.mesh_names.proofs.Sets.{or_either, or-left, or-right, tied-same, same-tied}

pub has-insert : (s : Names) (k q : Name) → Has s q → Has (insert s k) q
has-insert s k q h = contains-insert name_cmp_total s k q ∙ or-right (name_eq q k) (contains s q) h

pub new-insert : (s : Names) (k : Name) → Has (insert s k) k
new-insert s k = contains-insert name_cmp_total s k k ∙ or-left (name_eq k k) (contains s k) (same-tied k k refl)

pub insert-either : (s : Names) (k q : Name) → Has (insert s k) q → (q ≡ k) ⊎ Has s q
insert-either s k q h = ⊎_elim (λ e. inl (tied-same q k e)) (λ i. inr i) (or_either (name_eq q k) (contains s q) (sym (contains-insert name_cmp_total s k q) ∙ h))
