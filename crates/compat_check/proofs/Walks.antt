-- The steps of a walk down a word.
use Rattle.std.proofs.Common.{◌≡◌, ℕ, ◌+◌, ◌*◌, ◌<◌, ◌≤◌, Bool, true, false, not, refl, sym, ap, subst, ◌∙◌, List, ◌∷◌, length, arith, true≢false, slice_index_or}
use Rattle.std.proofs.lemmas.List.{get_or_default}
use Rattle.std.specs.Prelude.{Option, Some, None, IfSome}
use mathlib.Core.Bool.{beq}
use Rattle.mesh_names.specs.Names.{Name, depth}
use Rattle.mesh_names.specs.Triangles.{Shape, size, level}
use Rattle.mesh_names.specs.Partners.{Across, Tells, partner, half_partner, PartnersPair}
use Rattle.compat_check.specs.Meshes.{Mesh, across_in, edge_of, shape_of}
use Rattle.compat_check.specs.Sides.{IsStored, side_told}
use Rattle.compat_check.proofs.Numbers.{number_back}
use Rattle.compat_check.specs.Around.{IsAbove}
use Rattle.compat_check.specs.declared.mesh.Side.{Side}
use Rattle.compat_check.specs.declared.around.Above.{Above}
use Rattle.compat_check.specs.declared.around.Around.{Around}

pub stored_at : (m n : Mesh) (sides : List (Option Side)) → m ≡ n → IsStored m sides → IsStored n sides
stored_at m n sides e h = subst (λ (y : Mesh). IsStored y sides) e h

-- an entry of the table tells what lies across the edge
pub read_told : (mesh : Mesh) (sides : List (Option Side)) → IsStored mesh sides → (r e : ℕ) (o d : Option Side) → e < 3 → o ≡ slice_index_or sides (r * 3 + e) d → r < size (shape_of mesh) → side_told o ≡ across_in mesh r (edge_of e)
read_told mesh sides stored r e o d h at hr =
    let inside : r * 3 + e < length sides = omega (arith, stored.three, hr, h) in
    ap side_told (at ∙ get_or_default sides (r * 3 + e) d None inside) ∙ (λ i. side_told (slice_index_or sides (r * 3 + sym (number_back e h) i) None)) ∙ stored.told r (edge_of e) hr

-- the element across an edge has a name
pub side_within : (mesh : Mesh) (sides : List (Option Side)) → IsStored mesh sides → (r e : ℕ) (o d : Option Side) (s : Side) → e < 3 → o ≡ slice_index_or sides (r * 3 + e) d → r < size (shape_of mesh) → o ≡ Some s → s.element < 65535
side_within mesh sides stored r e o d s h at hr is =
    let told = sym (read_told mesh sides stored r e o d h at hr) ∙ ap side_told is in
    let low = stored.checked.tells.within r s.element (edge_of e) (edge_of s.edge) s.turned told in
    omega (arith, low, stored.checked.few)

-- the names of partners two levels below are no longer than the level
pub half_low : (mesh : Shape) (x : Across) → PartnersPair → Tells mesh x → (u : Name) (p : Option (Name × Bool)) → p ≡ partner x u.0 u.1 → u.0 < size mesh → level mesh u + 2 ≤ 24 → IfSome p (λ m. depth m.0 ≤ 22)
half_low mesh x pairs tells u None e hr low = tt
half_low mesh x pairs tells u (Some m) e hr low = omega (arith, (pairs mesh x tells u m.0 m.1 hr (sym e)).level)

pub partner_same : (x : Across) (r : ℕ) (s t : Bool) (w : List Bool) → beq s t ≡ true → partner x r (t ∷ s ∷ w) ≡ Some ((r, not t ∷ not t ∷ w), true)
partner_same x r true true w h = refl
partner_same x r false false w h = refl
partner_same x r true false w h = absurd (true≢false (sym h))
partner_same x r false true w h = absurd (true≢false (sym h))

pub partner_half : (x : Across) (r : ℕ) (s t : Bool) (w : List Bool) → beq s t ≡ false → partner x r (t ∷ s ∷ w) ≡ half_partner t (partner x r w)
partner_half x r true false w h = refl
partner_half x r false true w h = refl
partner_half x r true true w h = absurd (true≢false h)
partner_half x r false false w h = absurd (true≢false h)

-- what is known of the parent
pub above_known : (x : Across) (a : Around) (u : Above) → IsAbove x a.name a.above → a.above ≡ Some u → (a.name ≡ (u.name.0, u.side ∷ u.name.1)) × (u.partner ≡ partner x u.name.0 u.name.1)
above_known x a u h e = subst (λ (y : Option Above). IsAbove x a.name y) e h

pub above_low : (mesh : Shape) (n u : Name) (s : Bool) → n ≡ (u.0, s ∷ u.1) → n.0 < size mesh → level mesh n < 24 → (u.0 < size mesh) × (level mesh u + 2 ≤ 24)
above_low mesh n u s e hr low =
    let rooted : u.0 < size mesh = subst (λ (y : Name). y.0 < size mesh) e hr in
    let under : level mesh (u.0, s ∷ u.1) < 24 = subst (λ (y : Name). level mesh y < 24) e low in
    (rooted, omega arith)

pub child_same : (x : Across) (n u : Name) (s c : Bool) (one two : Name) → n ≡ (u.0, s ∷ u.1) → beq s c ≡ true → one ≡ (u.0, not c ∷ u.1) → two ≡ (one.0, not c ∷ one.1) → Some (two, true) ≡ partner x n.0 (c ∷ n.1)
child_same x n u s c one two e same h k =
    (λ i. Some (k i, true)) ∙ (λ i. Some (((h i).0, not c ∷ (h i).1), true)) ∙ sym (partner_same x u.0 s c u.1 same) ∙ (λ i. partner x (sym e i).0 (c ∷ (sym e i).1))

pub child_half : (x : Across) (n u : Name) (s c : Bool) (p h : Option (Name × Bool)) → n ≡ (u.0, s ∷ u.1) → p ≡ partner x u.0 u.1 → beq s c ≡ false → h ≡ half_partner c p → h ≡ partner x n.0 (c ∷ n.1)
child_half x n u s c p h e known other half = half ∙ ap (half_partner c) known ∙ sym (partner_half x u.0 s c u.1 other) ∙ (λ i. partner x (sym e i).0 (c ∷ (sym e i).1))

pub child_around : (x : Across) (m n : Name) (c : Bool) (p : Option (Name × Bool)) → m ≡ (n.0, c ∷ n.1) → p ≡ partner x n.0 (c ∷ n.1) → p ≡ partner x m.0 m.1
child_around x m n c p e h = h ∙ (λ i. partner x (sym e i).0 (sym e i).1)

pub child_named : (x : Across) (a m n p : Name) (s : Bool) (q : Option (Name × Bool)) → q ≡ partner x a.0 a.1 → a ≡ (m.0, s ∷ m.1) → m ≡ p → n ≡ (p.0, s ∷ p.1) → q ≡ partner x n.0 n.1
child_named x a m n p s q is child parent split =
    let whole : a ≡ n = child ∙ (λ i. ((parent i).0, s ∷ (parent i).1)) ∙ sym split in
    is ∙ (λ i. partner x (whole i).0 (whole i).1)
