-- Entries in order: a search for a cell, and the first of its names around a point.
use Rattle.std.proofs.Common.{◌≡◌, ℕ, zero, suc, ◌+◌, ◌-◌, ◌<◌, ◌≤◌, List, length, get_or, refl, sym, ap, subst, ◌∙◌, arith, ⊎_elim, true, false}
use Rattle.std.specs.Prelude.{Some, None}
use Rattle.std.specs.List.{Contains}
use Rattle.std.specs.List.Sorted.{IsSorted}
use Rattle.std.specs.Ordering.{nat_cmp, ordering_then, ordering_reverse, is_lt, is_le}
use Rattle.std.specs.Cmp.{IsTotalOrder, then_total, on_total, nat_cmp_total, nat_cmp_is, tied_itself}
use Rattle.std.specs.BTreeMap.Comparable.{le_lt_trans}
use Rattle.std.specs.declared.cmp.Ordering.{Ordering}
use Rattle.std.specs.declared.cmp.Ordering.TheVariants.{Less, Equal, Greater}
use Rattle.std.proofs.lemmas.Bool.{cases_lt, true≢false}
use Rattle.std.proofs.lemmas.List.{get_or_default}
use Rattle.mesh_names.specs.Names.{Name, name_cmp}
use Rattle.mesh_names.specs.Order.{name_cmp_total}
use Rattle.compat_check.specs.Meshes.{Mesh}
use Rattle.compat_check.specs.Points.{Point}
use Rattle.locate_point.specs.declared.axis.Axis.{Axis}
use Rattle.locate_point.specs.Covering.{IsAround}
use Rattle.locate_point.specs.Grids.{Entry, IsGrid, cell, entry_cmp}
use Rattle.locate_point.specs.Locating.{IsAtMost, IsPlace}

entry_total : IsTotalOrder entry_cmp
entry_total = then_total (on_total (λ (e : Entry). e.0) nat_cmp_total) (on_total (λ (e : Entry). e.1) name_cmp_total)

-- the second is not before the first
abbrev IsLater : Entry → Entry → Type 0
IsLater e f = is_lt (entry_cmp f e) ≡ false

later_itself : (e : Entry) → IsLater e e
later_itself e = ap is_lt (tied_itself entry_total e)

turned : (o : Ordering) → is_lt o ≡ false → is_le (ordering_reverse o) ≡ true
turned Less h = absurd (true≢false h)
turned Equal h = refl
turned Greater h = refl

later_still : (e f g : Entry) → IsLater e f → IsLater f g → IsLater e g
later_still e f g h k = either (entry_cmp g e) refl
  where
    either : (o : Ordering) → entry_cmp g e ≡ o → is_lt o ≡ false
    either Less at = absurd (true≢false (sym (ap is_lt (le_lt_trans entry_total f g e (ap is_le (entry_total.antisymm f g) ∙ turned (entry_cmp g f) k) at)) ∙ h))
    either Equal at = refl
    either Greater at = refl

later_cell : (e f : Entry) → IsLater e f → e.0 ≤ f.0
later_cell e f h = ⊎_elim
    (λ (less : f.0 < e.0). absurd (true≢false (ap (λ o. is_lt (ordering_then o (name_cmp f.1 e.1))) (nat_cmp_is f.0 e.0 Less less) ∙ h)))
    (λ (more : e.0 ≤ f.0). more)
    (cases_lt f.0 e.0)

later_name : (e f : Entry) → e.0 ≡ f.0 → IsLater e f → IsAtMost e.1 f.1
later_name e f same h g =
    let tie : nat_cmp f.0 e.0 ≡ Equal = sym (nat_cmp_is f.0 e.0 Equal (sym same)) in
    let names : is_lt (name_cmp f.1 e.1) ≡ false = sym (ap (λ o. is_lt (ordering_then o (name_cmp f.1 e.1))) tie) ∙ h in
    true≢false (sym (ap is_lt (name_cmp_total.antisymm f.1 e.1 ∙ ap ordering_reverse g)) ∙ names)

module _ (es : List Entry) (sorted : IsSorted entry_cmp es) where
  rises_by : (n i : ℕ) (d : Entry) → i + n < length es → IsLater (get_or es i d) (get_or es (i + n) d)
  rises_by zero i d h = let same : i ≡ i + 0 = omega arith in subst (λ k. IsLater (get_or es i d) (get_or es k d)) same (later_itself (get_or es i d))
  rises_by (suc n) i d h =
      let next : (i + n) + 1 ≡ i + suc n = omega arith in
      subst (λ k. IsLater (get_or es i d) (get_or es k d)) next (later_still (get_or es i d) (get_or es (i + n) d) (get_or es ((i + n) + 1) d) (rises_by n i d (omega (arith, h))) (sorted (i + n) d (omega arith) (omega (arith, h))))

  rises : (i j : ℕ) (d : Entry) → i ≤ j → j < length es → IsLater (get_or es i d) (get_or es j d)
  rises i j d le h = let back : i + (j - i) ≡ j = omega (arith, le) in subst (λ k. IsLater (get_or es i d) (get_or es k d)) back (rises_by (j - i) i d (omega (arith, le, h)))

  -- halving the part of the list in which a cell begins
  pub below_half : (number middle : ℕ) (x : Entry) → middle < length es → (get_or es middle x).0 < number → (k : ℕ) (d : Entry) → k < middle + 1 → (get_or es k d).0 < number
  below_half number middle x inside less k d h =
      let up = later_cell (get_or es k d) (get_or es middle d) (rises k middle d (omega (arith, h)) inside) in
      let low : (get_or es middle d).0 < number = subst (λ (y : Entry). y.0 < number) (get_or_default es middle x d inside) less in
      omega (arith, up, low)

  pub from_half : (number middle : ℕ) (x : Entry) → middle < length es → number ≤ (get_or es middle x).0 → (k : ℕ) (d : Entry) → middle ≤ k → k < length es → number ≤ (get_or es k d).0
  from_half number middle x inside more k d h within =
      let up = later_cell (get_or es middle d) (get_or es k d) (rises middle k d h within) in
      let high : number ≤ (get_or es middle d).0 = subst (λ (y : Entry). number ≤ y.0) (get_or_default es middle x d inside) more in
      omega (arith, high, up)

  -- an entry stands at its place
  pub stands : (at : ℕ) (x : Entry) → at < length es → get_or es at x ≡ get_or es at (get_or es at x)
  stands at x inside = get_or_default es at x (get_or es at x) inside

  module _ (mesh : Mesh) (p : Point) (number : ℕ) where
    -- no entry of the cell before a place is around the point
    abbrev pub NoneBefore : ℕ → Type 0
    NoneBefore at = (k : ℕ) (d : Entry) → k < at → (get_or es k d).0 ≡ number → IsAround mesh p (get_or es k d).1 → ⊥

    pub none_yet : (at : ℕ) → ((k : ℕ) (d : Entry) → k < at → (get_or es k d).0 < number) → NoneBefore at
    none_yet at below k d h same around = let l = below k d h in absurd (omega (arith, l, same))

    pub none_more : (at : ℕ) (x : Entry) → at < length es → x ≡ get_or es at x → (IsAround mesh p x.1 → ⊥) → NoneBefore at → NoneBefore (at + 1)
    none_more at x inside is out before k d h same around = ⊎_elim
        (λ (early : k < at). before k d early same around)
        (λ (late : at ≤ k). let here : k ≡ at = omega (arith, h, late) in out (subst (λ (y : Entry). IsAround mesh p y.1) (ap (λ j. get_or es j d) here ∙ get_or_default es at d x inside ∙ sym is) around))
        (cases_lt k at)

    -- the first entry of the cell around the point has the least name
    pub first_least : (at : ℕ) (x : Entry) → at < length es → x ≡ get_or es at x → x.0 ≡ number → NoneBefore at → (m : Name) → Contains es (number, m) → IsAround mesh p m → IsAtMost x.1 m
    first_least at x inside is same before m there around = ⊎_elim
        (λ (early : there.0 < at). absurd (before there.0 (number, m) early (ap (λ (y : Entry). y.0) there.2) (subst (λ (y : Entry). IsAround mesh p y.1) (sym there.2) around)))
        (λ (late : at ≤ there.0).
        let later : IsLater x (number, m) = subst (λ (y : Entry). IsLater y (number, m)) (get_or_default es at (number, m) x inside ∙ sym is) (subst (λ (y : Entry). IsLater (get_or es at (number, m)) y) there.2 (rises at there.0 (number, m) late there.1)) in
        later_name x (number, m) same later)
        (cases_lt there.0 at)

    -- past the cell there is none
    pub none_past : (at : ℕ) (x : Entry) → at < length es → x ≡ get_or es at x → (x.0 ≡ number → ⊥) → ((k : ℕ) (d : Entry) → at ≤ k → k < length es → number ≤ (get_or es k d).0) → NoneBefore at → (m : Name) → Contains es (number, m) → IsAround mesh p m → ⊥
    none_past at x inside is other from before m there around = ⊎_elim
        (λ (early : there.0 < at). before there.0 (number, m) early (ap (λ (y : Entry). y.0) there.2) (subst (λ (y : Entry). IsAround mesh p y.1) (sym there.2) around))
        (λ (late : at ≤ there.0).
        let up = later_cell (get_or es at x) (get_or es there.0 x) (rises at there.0 x late there.1) in
        let low = from at x (omega arith) inside in
        let here : (get_or es there.0 x).0 ≡ number = ap (λ (y : Entry). y.0) (get_or_default es there.0 x (number, m) there.1 ∙ there.2) in
        let first : (get_or es at x).0 ≡ x.0 = ap (λ (y : Entry). y.0) (sym is) in
        other (omega (arith, up, low, here, first)))
        (cases_lt there.0 at)

    pub none_left : (at : ℕ) → length es ≤ at → NoneBefore at → (m : Name) → Contains es (number, m) → IsAround mesh p m → ⊥
    none_left at end before m there around = before there.0 (number, m) (omega (arith, there.1, end)) (ap (λ (y : Entry). y.0) there.2) (subst (λ (y : Entry). IsAround mesh p y.1) (sym there.2) around)

-- from a cell to all names
pub no_place : (mesh : Mesh) (columns rows : Axis) (names : List Name) (es : List Entry) (p : Point) (number : ℕ) → IsGrid mesh columns rows names es → number ≡ cell columns rows p → ((m : Name) → Contains es (number, m) → IsAround mesh p m → ⊥) → IsPlace mesh names p None
no_place mesh columns rows names es p number grid at none m there around = none m (subst (λ c. Contains es (c, m)) (sym at) (grid.entries_are.complete p m there around)) around

pub some_place : (mesh : Mesh) (columns rows : Axis) (names : List Name) (es : List Entry) (p : Point) (number : ℕ) (x : Entry) → IsGrid mesh columns rows names es → number ≡ cell columns rows p → Contains es x → IsAround mesh p x.1 → ((m : Name) → Contains es (number, m) → IsAround mesh p m → IsAtMost x.1 m) → IsPlace mesh names p (Some x.1)
some_place mesh columns rows names es p number x grid at there around least = (grid.entries_are.named x there, around, λ m h k. least m (subst (λ c. Contains es (c, m)) (sym at) (grid.entries_are.complete p m h k)) k)
