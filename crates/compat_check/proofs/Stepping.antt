-- Steps of a walk, and what lies around a name.
use Rattle.std.proofs.Common.{◌≡◌, ℕ, Bool, sym, ap, ◌∙◌, subst, List, [], ◌∷◌}
use Rattle.std.specs.Prelude.{Option, Some, None}
use Rattle.mesh_names.specs.Names.{Name}
use Rattle.mesh_names.specs.Partners.{Across, partner}
use Rattle.compat_check.specs.Around.{IsAbove, IsAround}
use Rattle.compat_check.specs.Meshes.{Mesh, across_in}
use Rattle.compat_check.specs.Steps.{IsStep, around_by, partner_above}
use Rattle.compat_check.specs.declared.around.Above.{Above}
use Rattle.compat_check.specs.declared.around.Around.{Around}
use Rattle.compat_check.specs.declared.steps.Step.{Step}

abbrev tail_or : List Bool → List Bool
tail_or [] = []
tail_or (b ∷ w) = w

nil_cons : (w v : List Bool) (b : Bool) → w ≡ [] → w ≡ b ∷ v → ⊥
nil_cons [] v b e h = absurd (cc)
nil_cons (c ∷ w) v b e h = absurd (cc)

-- the parent's partner, by what is above
pub above_partner : (x : Across) (n : Name) (above : Option Above) → IsAbove x n above → (b : Bool) (w : List Bool) → n.1 ≡ b ∷ w → partner_above above ≡ partner x n.0 w
above_partner x n None h b w e = absurd (nil_cons n.1 w b h e)
above_partner x n (Some a) h b w e =
    let root : a.name.0 ≡ n.0 = ap (λ (m : Name). m.0) (sym h.0) in
    let word : a.name.1 ≡ w = ap tail_or (sym (ap (λ (m : Name). m.1) h.0)) ∙ ap tail_or e in
    h.1 ∙ (λ i. partner x (root i) (word i))

-- what is above, by the parent's partner
pub above_split : (mesh : Mesh) (s : Step) → IsStep mesh s → (a : Name) (b : Bool) → s.name ≡ (a.0, b ∷ a.1) → s.parent_partner ≡ partner (across_in mesh) a.0 a.1
above_split mesh s h a b e =
    h.above_is b a.1 (ap (λ (m : Name). m.1) e) ∙ ap (λ (r : ℕ). partner (across_in mesh) r a.1) (ap (λ (m : Name). m.0) e)

-- the parent's partner of a child
pub child_above : (x : Across) (n parent : Name) (side : Bool) (p : Option (Name × Bool)) → n ≡ (parent.0, side ∷ parent.1) → p ≡ partner x parent.0 parent.1 → (b : Bool) (w : List Bool) → n.1 ≡ b ∷ w → p ≡ partner x n.0 w
child_above x n parent side p named is b w e =
    let root : parent.0 ≡ n.0 = ap (λ (m : Name). m.0) (sym named) in
    let word : parent.1 ≡ w = ap tail_or (sym (ap (λ (m : Name). m.1) named)) ∙ ap tail_or e in
    is ∙ (λ i. partner x (root i) (word i))

pub around_top : (mesh : Mesh) (s : Step) (a : Around) → s.name.1 ≡ [] → a ≡ around_by s None → IsStep mesh s → IsAround mesh a
around_top mesh s a e is h = subst (IsAround mesh) (sym is) (record { partner_is = h.partner_is; above_is = e })

pub around_under : (mesh : Mesh) (s : Step) (a : Around) (n : Name) (b : Bool) → s.name ≡ (n.0, b ∷ n.1) → a ≡ around_by s (Some (record { name = n; side = b; partner = s.parent_partner })) → IsStep mesh s → IsAround mesh a
around_under mesh s a n b e is h = subst (IsAround mesh) (sym is) (record { partner_is = h.partner_is; above_is = (e, above_split mesh s h n b e) })
