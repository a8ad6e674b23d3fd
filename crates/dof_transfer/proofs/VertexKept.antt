-- What stays true of vertices while midpoints take indices and give them back.
use Rattle.std.proofs.Common.{◌≡◌, ℕ, zero, suc, ◌+◌, ◌*◌, ◌^◌, ◌<◌, ◌≤◌, ℤ, pos, Bool, true, false, cond, ltb, List, [], ◌∷◌, ◌++◌, take, length, get_or, replicate, refl, ap, sym, ◌∙◌, subst, arith, Option, Some, None, option_map, unwrap_or, is_some, true≢false, ◌⊎◌, ⊎_elim}
use Rattle.std.specs.Prelude.{IfSome, nat_abs, ◌+ℤ◌, slice_get}
use Rattle.std.proofs.lemmas.Bool.{ltb-true}
use Rattle.std.specs.List.{All}
use Rattle.std.proofs.lemmas.Option.{get_or_from_slice_get}
use Rattle.std.proofs.lemmas.List.Sums.{sum_by-cons}
use Rattle.std.proofs.lemmas.List.{get_or-set_other, map-append, take_more}
use Rattle.std.specs.Ordering.{eq_by_cmp}
use Rattle.std.specs.FinMap.{empty, get, get-empty}
use Rattle.dof_admin.specs.Administration.{used_at, used_count}
use Rattle.mesh_names.specs.Names.{Name, name_cmp}
use Rattle.mesh_names.specs.declared.patch.PatchName.{PatchName}
use Rattle.mesh_names.specs.declared.patch.VertexKey.{VertexKey}
use Rattle.mesh_names.specs.declared.patch.VertexKey.TheVariants.{Macro, Patch}
use Rattle.mesh_names.proofs.Sets.{is_or_not, same-tied, tied-same}
use Rattle.compat_check.specs.Meshes.{Mesh}
use Rattle.name_tree.specs.declared.nodes.Entry.{Entry}
use Rattle.dof_transfer.specs.Held.{Held, IsCompressed, IsSound, IsTidied, SetsValue, cleared, given_back, index_of, least_unused, taken, value_of, all_given_back}
use Rattle.dof_transfer.specs.Exchanges.{floor_half}
use Rattle.dof_transfer.specs.VertexValues.{AreMade, AreSmall, IsMade, IsVertexSound, SetsVertex, VertexHeld, index_at, owners, value_at, worth}
use Rattle.dof_transfer.proofs.Soundness.{beyond, index-given_back, index-taken, least-within, sound-given_back, sound-taken, unused-least, used-else}
use Rattle.dof_transfer.proofs.Sizes.{half-sized, sum-sized}
use Rattle.dof_transfer.proofs.NamedElements.{value-given, value-took}
use Rattle.dof_transfer.proofs.Compressing.{all-used, came-from}

pub worth-small : (held : VertexHeld) (key : VertexKey) → AreSmall held → nat_abs (worth held key) ≤ 2 ^ 31
worth-small held (Macro i) small = by (slice_get held.macros i) refl where
  by : (o : Option ℤ) → slice_get held.macros i ≡ o → nat_abs (unwrap_or o (pos 0)) ≤ 2 ^ 31
  by None e = omega arith
  by (Some v) e = subst (λ (z : ℤ). nat_abs z ≤ 2 ^ 31) (get_or_from_slice_get held.macros i v (pos 0) e) (small.macros i (pos 0) (within held.macros i v e)) where
    within : (l : List ℤ) (i : ℕ) (v : ℤ) → slice_get l i ≡ Some v → i < length l
    within [] i v h = absurd (true≢false (sym (ap is_some h)))
    within (x ∷ l) zero v h = omega arith
    within (x ∷ l) (suc i) v h = let g = within l i v h in omega (arith, g)
worth-small held (Patch n) small = by (value_of held.patches n) refl where
  by : (o : Option ℤ) → value_of held.patches n ≡ o → nat_abs (unwrap_or o (pos 0)) ≤ 2 ^ 31
  by None e = omega arith
  by (Some v) e = small.patches n v e

pub mean-small : (a b : ℤ) → nat_abs a ≤ 2 ^ 31 → nat_abs b ≤ 2 ^ 31 → nat_abs (floor_half (a +ℤ b)) ≤ 2 ^ 31
mean-small a b ha hb = half-sized (a +ℤ b) (2 ^ 31) (sum-sized a b (2 ^ 31) ha hb)

-- a choice is one or the other
chosen : (b : Bool) (x y : Option ℤ) (P : ℤ → Type 0) → ((v : ℤ) → x ≡ Some v → P v) → ((v : ℤ) → y ≡ Some v → P v) → (v : ℤ) → cond b x y ≡ Some v → P v
chosen true x y P f g v h = f v h
chosen false x y P f g v h = g v h

pub small-taken : (held : VertexHeld) (n : Name) (v : ℤ) → AreSmall held → nat_abs v ≤ 2 ^ 31 → AreSmall (record { macros = held.macros; patches = taken held.patches n v })
small-taken held n v small own = record {
  macros = small.macros;
  patches = λ q w h. chosen (eq_by_cmp name_cmp q n) (Some v) (value_of held.patches q) (λ z. nat_abs z ≤ 2 ^ 31)
      (λ z e. subst (λ (y : ℤ). nat_abs y ≤ 2 ^ 31) (ap (λ (o : Option ℤ). unwrap_or o v) e) own)
      (λ z e. small.patches q z e)
      w (sym (value-took held.patches n q v) ∙ h);
}

pub small-given_back : (held : VertexHeld) (n : Name) → AreSmall held → AreSmall (record { macros = held.macros; patches = given_back held.patches n })
small-given_back held n small = record {
  macros = small.macros;
  patches = λ q w h. chosen (eq_by_cmp name_cmp q n) None (value_of held.patches q) (λ z. nat_abs z ≤ 2 ^ 31)
      (λ z e. absurd (true≢false (sym (ap is_some e))))
      (λ z e. small.patches q z e)
      w (sym (value-given held.patches n q) ∙ h);
}

pub small-same : (held : VertexHeld) (patches : Held) → ((n : Name) → value_of patches n ≡ value_of held.patches n) → AreSmall held → AreSmall (record { macros = held.macros; patches = patches })
small-same held patches same small = record { macros = small.macros; patches = λ n v h. small.patches n v (sym (same n) ∙ h) }

-- the least unused index is none of the first ones, which are used
least-above : (flags : List Bool) (count : ℕ) → ((i : ℕ) → i < count → used_at flags i ≡ true) → count ≤ least_unused flags
least-above flags count used = ⊎_elim
    (λ (h : least_unused flags < count). absurd (true≢false (sym (used (least_unused flags) h) ∙ unused-least flags)))
    (λ (h : count ≤ least_unused flags). h)
    (either (least_unused flags) count) where
      either : (a b : ℕ) → (a < b) ⊎ (b ≤ a)
      either a b = grind arith

chosen-index : (b : Bool) (x y : Option ℕ) (P : ℕ → Type 0) → ((i : ℕ) → x ≡ Some i → P i) → ((i : ℕ) → y ≡ Some i → P i) → (i : ℕ) → cond b x y ≡ Some i → P i
chosen-index true x y P f g i h = f i h
chosen-index false x y P f g i h = g i h

pub sound-vertex-taken : (held : VertexHeld) (n : Name) (v : ℤ) → IsVertexSound held → IsVertexSound (record { macros = held.macros; patches = taken held.patches n v })
sound-vertex-taken held n v sound =
    let flags : List Bool = held.patches.flags in
    let above : length held.macros ≤ least_unused flags = least-above flags (length held.macros) sound.used in
    record {
      patches = sound-taken held.patches n v sound.patches;
      used = λ i below. used-else flags (least_unused flags) i (least-within flags) (λ e. absurd (omega (arith, e))) ∙ sound.used i below;
      above = λ q i h. chosen-index (eq_by_cmp name_cmp q n) (Some (least_unused flags)) (index_of held.patches q) (λ j. length held.macros ≤ j)
          (λ j e. subst (λ (k : ℕ). length held.macros ≤ k) (ap (λ (o : Option ℕ). unwrap_or o j) e) above)
          (λ j e. sound.above q j e)
          i (sym (index-taken held.patches n q v) ∙ h);
    }

pub sound-vertex-given_back : (held : VertexHeld) (n : Name) → IsVertexSound held → IsVertexSound (record { macros = held.macros; patches = given_back held.patches n })
sound-vertex-given_back held n sound = record {
  patches = sound-given_back held.patches n sound.patches;
  used = λ i below. kept i below (index_of held.patches n) refl;
  above = λ q i h. chosen-index (eq_by_cmp name_cmp q n) None (index_of held.patches q) (λ j. length held.macros ≤ j)
      (λ j e. absurd (true≢false (sym (ap is_some e))))
      (λ j e. sound.above q j e)
      i (sym (index-given_back held.patches n q) ∙ h);
} where
  kept : (i : ℕ) → i < length held.macros → (o : Option ℕ) → index_of held.patches n ≡ o → used_at (cleared held.patches.flags o) i ≡ true
  kept i below None e = sound.used i below
  kept i below (Some j) e = let high = sound.above n j e in get_or-set_other held.patches.flags j i false false (λ (same : i ≡ j). absurd (omega (arith, same))) ∙ sound.used i below

-- the first ones are used, so each keeps its number
rank-first : (flags : List Bool) (count : ℕ) → ((i : ℕ) → i < count → used_at flags i ≡ true) → used_count (take count flags) ≡ count
rank-first flags zero used = refl
rank-first [] (suc k) used = absurd (true≢false (sym (used 0 (omega arith))))
rank-first (u ∷ flags) (suc k) used =
    let rest = rank-first flags k (λ i below. used (suc i) (omega arith)) in
    let more : used_count (u ∷ take k flags) ≡ cond u 1 0 + used_count (take k flags) = sum_by-cons (λ b. cond b 1 0) u (take k flags) in
    let one : cond {A = ℕ} u 1 0 ≡ 1 = ap (λ (b : Bool). cond b 1 0) (used 0 (omega arith)) in
    omega (arith, rest, more, one)

rank-mono : (flags : List Bool) (i j : ℕ) → i ≤ j → used_count (take i flags) ≤ used_count (take j flags)
rank-mono flags zero j h = omega arith
rank-mono [] (suc i) j h = omega arith
rank-mono (u ∷ flags) (suc i) zero h = absurd (omega arith)
rank-mono (u ∷ flags) (suc i) (suc j) h =
    let rest = rank-mono flags i j (omega arith) in
    let a : used_count (u ∷ take i flags) ≡ cond u 1 0 + used_count (take i flags) = sum_by-cons (λ b. cond b 1 0) u (take i flags) in
    let b : used_count (u ∷ take j flags) ≡ cond u 1 0 + used_count (take j flags) = sum_by-cons (λ b. cond b 1 0) u (take j flags) in
    omega (arith, rest, a, b)

whole-count : (flags : List Bool) → used_count (take (length flags) flags) ≡ used_count flags
whole-count flags = ap used_count (whole flags) where
  whole : (l : List Bool) → take (length l) l ≡ l
  whole [] = refl
  whole (u ∷ l) = ap (λ (t : List Bool). u ∷ t) (whole l)

count-above : (flags : List Bool) (count : ℕ) → ((i : ℕ) → i < count → used_at flags i ≡ true) → count ≤ used_count flags
count-above flags count used =
    let r = rank-first flags count used in
    ⊎_elim
    (λ (h : count ≤ length flags). let m = rank-mono flags count (length flags) h in omega (arith, r, m, whole-count flags))
    (λ (h : length flags < count). absurd (true≢false (sym (used (length flags) h) ∙ beyond flags (length flags) (omega arith))))
    (either count (length flags)) where
      either : (a b : ℕ) → (a ≤ b) ⊎ (b < a)
      either a b = grind arith

pub sound-vertex-tidied : (held : VertexHeld) (patches : Held) → IsVertexSound held → IsTidied held.patches patches → IsSound patches → IsVertexSound (record { macros = held.macros; patches = patches })
sound-vertex-tidied held patches sound tidied whole = ⊎_elim
    (λ (h : 2 * used_count held.patches.flags < length held.patches.flags). squeezed (tidied.compressed h))
    (λ (h : length held.patches.flags ≤ 2 * used_count held.patches.flags). subst (λ (p : Held). IsVertexSound (record { macros = held.macros; patches = p })) (sym (tidied.kept h)) sound)
    (either (2 * used_count held.patches.flags) (length held.patches.flags)) where
      either : (a b : ℕ) → (a < b) ⊎ (b ≤ a)
      either a b = grind arith

      squeezed : IsCompressed held.patches patches → IsVertexSound (record { macros = held.macros; patches = patches })
      squeezed is = record {
        patches = whole;
        used = λ i below. subst (λ (f : List Bool). used_at f i ≡ true) (sym is.flags) (all-used (used_count held.patches.flags) i (let c = count-above held.patches.flags (length held.macros) sound.used in omega (arith, c)));
        above = λ n i h.
            let r = came-from held.patches patches sound.patches is n i h in
            let m = rank-mono held.patches.flags (length held.macros) r.0 (sound.above n r.0 r.1) in
            let f = rank-first held.patches.flags (length held.macros) sound.used in
            omega (arith, m, f, r.2);
      }

-- one midpoint more
made-more : (mesh : Mesh) (old : VertexHeld) (ps : List PatchName) (p : PatchName) (mid new : VertexHeld) → AreMade mesh old ps mid → IsMade mesh mid p new → AreMade mesh old (ps ++ p ∷ []) new
made-more mesh old [] p mid new is one = (new, subst (λ (h : VertexHeld). IsMade mesh h p new) is one, refl)
made-more mesh old (q ∷ ps) p mid new is one = (is.0, is.1, made-more mesh is.0 ps p mid new is.2 one)

pub made-next : (mesh : Mesh) (old : VertexHeld) (ps : List PatchName) (i : ℕ) (p : PatchName) (mid new : VertexHeld) → i < length ps → p ≡ get_or ps i p → AreMade mesh old (take i ps) mid → IsMade mesh mid p new → AreMade mesh old (take (i + 1) ps) new
made-next mesh old ps i p mid new within at is one =
    subst (λ (l : List PatchName). AreMade mesh old l new) (sym (take_more ps i p within ∙ ap (λ (q : PatchName). take i ps ++ q ∷ []) (sym at))) (made-more mesh old (take i ps) p mid new is one)

given-more : (held : Held) (ns : List Name) (n : Name) → all_given_back held (ns ++ n ∷ []) ≡ given_back (all_given_back held ns) n
given-more held [] n = refl
given-more held (m ∷ ns) n = given-more (given_back held m) ns n

pub given-next : (held : Held) (ps : List PatchName) (i : ℕ) (p : PatchName) → i < length ps → p ≡ get_or ps i p → all_given_back held (owners (take (i + 1) ps)) ≡ given_back (all_given_back held (owners (take i ps))) p.first
given-next held ps i p within at =
    ap (λ (l : List PatchName). all_given_back held (owners l)) (take_more ps i p within ∙ ap (λ (q : PatchName). take i ps ++ q ∷ []) (sym at))
    ∙ ap (all_given_back held) (map-append (λ (q : PatchName). q.first) (take i ps) (p ∷ []))
    ∙ given-more held (owners (take i ps)) p.first

-- another value of one live midpoint
pub set-patch : (held : VertexHeld) (patches : Held) (n : Name) (v : ℤ) → SetsValue held.patches patches n v → SetsVertex held (record { macros = held.macros; patches = patches }) (Patch n) v
set-patch held patches n v is = record {
  value = is.value;
  others = other;
  indices = index;
  flags = is.flags;
} where
  owner_of : VertexKey → Name
  owner_of (Macro i) = (i, [])
  owner_of (Patch m) = m

  other : (q : VertexKey) → (q ≡ Patch n → ⊥) → value_at (record { macros = held.macros; patches = patches }) q ≡ value_at held q
  other (Macro i) apart = refl
  other (Patch m) apart = ap (option_map (λ (e : Entry). e.value)) (is.others m (λ e. apart (ap Patch e)))

  index : (q : VertexKey) → index_at (record { macros = held.macros; patches = patches }) q ≡ index_at held q
  index (Macro i) = refl
  index (Patch m) = ⊎_elim
      (λ (t : eq_by_cmp name_cmp m n ≡ true). subst (λ (k : Name). index_of patches k ≡ index_of held.patches k) (sym (tied-same m n t)) is.index)
      (λ (f : eq_by_cmp name_cmp m n ≡ false). ap (option_map (λ (e : Entry). e.index)) (is.others m (λ e. true≢false (sym (same-tied m n e) ∙ f))))
      (is_or_not (eq_by_cmp name_cmp m n))

pub small-set : (held : VertexHeld) (patches : Held) (n : Name) (v : ℤ) → SetsValue held.patches patches n v → nat_abs v ≤ 2 ^ 31 → AreSmall held → AreSmall (record { macros = held.macros; patches = patches })
small-set held patches n v is own small = record {
  macros = small.macros;
  patches = λ m w h. ⊎_elim
      (λ (t : eq_by_cmp name_cmp m n ≡ true). subst (λ (z : ℤ). nat_abs z ≤ 2 ^ 31) (ap (λ (o : Option ℤ). unwrap_or o v) (sym is.value ∙ ap (value_of patches) (sym (tied-same m n t)) ∙ h)) own)
      (λ (f : eq_by_cmp name_cmp m n ≡ false). small.patches m w (sym (ap (option_map (λ (e : Entry). e.value)) (is.others m (λ e. true≢false (sym (same-tied m n e) ∙ f)))) ∙ h))
      (is_or_not (eq_by_cmp name_cmp m n));
}

pub sound-vertex-set : (held : VertexHeld) (patches : Held) (n : Name) (v : ℤ) → SetsValue held.patches patches n v → IsSound patches → IsVertexSound held → IsVertexSound (record { macros = held.macros; patches = patches })
sound-vertex-set held patches n v is whole sound = record {
  patches = whole;
  used = λ i below. ap (λ (f : List Bool). used_at f i) is.flags ∙ sound.used i below;
  above = λ m i h. sound.above m i (sym ((set-patch held patches n v is).indices (Patch m)) ∙ h);
}

-- the macro vertices as they begin
pub small-first : (values : List ℤ) (patches : Held) (flags : List Bool) → patches ≡ record { live = empty; flags = flags } → All (λ v. nat_abs v ≤ 2 ^ 31) values → AreSmall (record { macros = values; patches = patches })
small-first values patches flags is small = record {
  macros = small;
  patches = λ n v h. absurd (true≢false (sym (ap is_some h) ∙ ap (λ (o : Option Entry). is_some (option_map (λ (e : Entry). e.value) o)) (ap (λ (p : Held). get p.live n) is ∙ get-empty name_cmp n)));
}

pub sound-first : (values : List ℤ) (patches : Held) (count : ℕ) → patches ≡ record { live = empty; flags = replicate count true } → length values ≡ count → IsVertexSound (record { macros = values; patches = patches })
sound-first values patches count is same = record {
  patches = record { used = λ n i h. absurd (none n i h); apart = λ m n i h g. absurd (none m i h) };
  used = λ i below. ap (λ (p : Held). used_at p.flags i) is ∙ all-used count i (omega (arith, same));
  above = λ n i h. absurd (none n i h);
} where
  none : (n : Name) (i : ℕ) → index_of patches n ≡ Some i → ⊥
  none n i h = true≢false (sym (ap is_some h) ∙ ap (λ (o : Option Entry). is_some (option_map (λ (e : Entry). e.index) o)) (ap (λ (p : Held). get p.live n) is ∙ get-empty name_cmp n))

macro-below : (held : VertexHeld) (a i : ℕ) → index_at held (Macro a) ≡ Some i → (a ≡ i) × (a < length held.macros)
macro-below held a i h = by (ltb a (length held.macros)) refl h where
  by : (b : Bool) → ltb a (length held.macros) ≡ b → cond b (Some a) None ≡ Some i → (a ≡ i) × (a < length held.macros)
  by true e g = (ap (λ (o : Option ℕ). unwrap_or o i) g, ltb-true a (length held.macros) e)
  by false e g = absurd (true≢false (sym (ap is_some g)))

macro-index : (held : VertexHeld) (a i : ℕ) → index_at held (Macro a) ≡ Some i → a ≡ i
macro-index held a i h = (macro-below held a i h).0

no-both : (held : VertexHeld) → IsVertexSound held → (a : ℕ) (n : Name) (i : ℕ) → index_at held (Macro a) ≡ Some i → index_of held.patches n ≡ Some i → ⊥
no-both held sound a n i h g = let m = macro-below held a i h in let b = sound.above n i g in omega (arith, m.0, m.1, b)

-- indices of two live vertices differ
pub keys-apart : (held : VertexHeld) → IsVertexSound held → (j k : VertexKey) (i : ℕ) → index_at held j ≡ Some i → index_at held k ≡ Some i → j ≡ k
keys-apart held sound (Macro a) (Macro b) i h g = ap Macro (macro-index held a i h ∙ sym (macro-index held b i g))
keys-apart held sound (Macro a) (Patch n) i h g = absurd (no-both held sound a n i h g)
keys-apart held sound (Patch n) (Macro b) i h g = absurd (no-both held sound b n i g h)
keys-apart held sound (Patch m) (Patch n) i h g = ap Patch (sound.patches.apart m n i h g)

pub index-apart : (held : VertexHeld) → IsVertexSound held → (key : VertexKey) (o : Option ℕ) → o ≡ index_at held key → IfSome o (λ i. (k : VertexKey) → index_at held k ≡ Some i → k ≡ key)
index-apart held sound key None e = tt
index-apart held sound key (Some i) e = λ k h. keys-apart held sound k key i h (sym e)

pub value-small : (held : VertexHeld) → AreSmall held → (key : VertexKey) (o : Option ℤ) → o ≡ value_at held key → IfSome o (λ v. nat_abs v ≤ 2 ^ 31)
value-small held small key None e = tt
value-small held small key (Some v) e = subst (λ (z : ℤ). nat_abs z ≤ 2 ^ 31) (ap (λ (o : Option ℤ). unwrap_or o (pos 0)) (sym e)) (worth-small held key small)
