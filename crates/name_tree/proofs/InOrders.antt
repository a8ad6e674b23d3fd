-- Values of keys in order.
use Rattle.std.proofs.Common.{◌≡◌, ℤ, List, [], ◌∷◌, ◌++◌, map, length, get_or, arith, Option, Some, sym, ap, ◌∙◌}
use Rattle.std.specs.Prelude.{pos, slice_get}
use Rattle.std.proofs.lemmas.List.{append_assoc, get_or-map, length-append, length-map}
use Rattle.std.proofs.lemmas.Option.{get_or_from_slice_get, slice_get_within}
use Rattle.std.proofs.Math.Seq.{get_or-append_seam}
use Rattle.mesh_names.specs.Names.{Name}
use Rattle.name_tree.specs.Slots.{Slots, live_at}
use Rattle.name_tree.specs.InOrder.{AreFirst, IsWorth}
use Rattle.name_tree.specs.declared.nodes.Entry.{Entry}

module _ {K : Type 0} (worth : K → ℤ) (keys : List K) (values : List ℤ) (k : K) (at : slice_get keys (length values) ≡ Some k) where
  -- the value after the first ones is the next key's
  next_is : (more : List ℤ) (v : ℤ) → worth k ≡ v → map worth keys ≡ values ++ more → AreFirst worth keys (values ++ v ∷ [])
  next_is [] v is e =
      let low = slice_get_within keys (length values) k at in
      absurd (omega (arith, low, length-map keys worth, ap length e, length-append values []))
  next_is (m ∷ more) v is e =
      let low = slice_get_within keys (length values) k at in
      let read : get_or (map worth keys) (length values) (pos 0) ≡ worth k = get_or-map worth keys (length values) k (pos 0) low ∙ ap worth (get_or_from_slice_get keys (length values) k k at) in
      let same : m ≡ v = sym (get_or-append_seam values m more (pos 0)) ∙ ap (λ (l : List ℤ). get_or l (length values) (pos 0)) (sym e) ∙ read ∙ is in
      (more, e ∙ ap (λ (z : ℤ). values ++ z ∷ more) same ∙ sym (append_assoc values (v ∷ []) more))

  pub first_more : (v : ℤ) → worth k ≡ v → AreFirst worth keys values → AreFirst worth keys (values ++ v ∷ [])
  first_more v is first = next_is first.0 v is first.1

-- the value of the name that a key names
pub next_worth : {K : Type 0} (named : K → Option Name) (slots : Slots) (worth : K → ℤ) (k : K) (n : Name) (e : Entry) → IsWorth named slots worth → named k ≡ Some n → live_at slots n ≡ Some e → worth k ≡ e.value
next_worth named slots worth k n e is told stands = is k n e told stands
