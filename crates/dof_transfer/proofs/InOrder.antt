-- Values of keys in order.
use Rattle.std.proofs.Common.{◌≡◌, ℤ, ℕ, ◌<◌, Bool, List, [], ◌∷◌, ◌++◌, ◌≤◌, map, length, get_or, arith, Option, Some, subst, refl, sym, ap, ◌∙◌, unwrap_or, option_map}
use Rattle.std.specs.Prelude.{pos, slice_get}
use Rattle.std.proofs.lemmas.List.{append-nil, length-append, length-map}
use Rattle.std.proofs.lemmas.Option.{slice_get_read}
use Rattle.mesh_names.proofs.Neighbours.{some_inj}
use Rattle.mesh_names.specs.Names.{Name}
use Rattle.name_tree.specs.Slots.{Slots, live_at, live_of}
use Rattle.mesh_names.specs.declared.patch.VertexKey.TheVariants.{Macro, Patch}
use Rattle.dof_transfer.specs.Held.{worth_of}
use Rattle.name_tree.specs.InOrder.{AreFirst, IsWorth, owner_of}
use Rattle.dof_transfer.specs.VertexValues.{worth}
use Rattle.name_tree.proofs.LiveNames.{get-live}
use Rattle.name_tree.specs.declared.nodes.Entry.{Entry}
use Rattle.name_tree.proofs.InOrders.{first_more}

-- all values
pub first_all : {K : Type 0} (worth : K → ℤ) (keys : List K) (values : List ℤ) → length keys ≤ length values → AreFirst worth keys values → values ≡ map worth keys
first_all worth keys values low (more, e) = all more e where
  all : (more : List ℤ) → map worth keys ≡ values ++ more → values ≡ map worth keys
  all [] e = sym (append-nil values) ∙ sym e
  all (m ∷ more) e = absurd (omega (arith, low, length-map keys worth, ap length e, length-append values (m ∷ more)))

-- no values are the first ones
pub none_first : {K : Type 0} (worth : K → ℤ) (keys : List K) (values : List ℤ) → values ≡ [] → AreFirst worth keys values
none_first worth keys values is = (map worth keys, ap (λ (l : List ℤ). l ++ map worth keys) (sym is))

-- the value of the key at a place is appended
pub next_first : {K : Type 0} (worth : K → ℤ) (keys : List K) (old new : List ℤ) (place : ℕ) (k : K) (v : ℤ) → length old ≡ place → place < length keys → k ≡ get_or keys place k → worth k ≡ v → new ≡ old ++ v ∷ [] → AreFirst worth keys old → AreFirst worth keys new
next_first worth keys old new place k v many low read is added first =
    let at : slice_get keys (length old) ≡ Some k = slice_get_read keys (length keys) (length old) k refl (omega (arith, many, low)) (read ∙ ap (λ (i : ℕ). get_or keys i k) (sym many)) in
    subst (AreFirst worth keys) (sym added) (first_more worth keys old k at v is first)

-- what a live name is worth
pub live_worth : (slots : Slots) (flags : List Bool) (n m : Name) (e : Entry) → n ≡ m → live_at slots m ≡ Some e → worth_of (record { live = live_of slots; flags = flags }) n ≡ e.value
live_worth slots flags n m e is stands = ap (λ (o : Option Entry). unwrap_or (option_map (λ (x : Entry). x.value) o) (pos 0)) (get-live slots n ∙ ap (live_at slots) is ∙ stands)

pub name_worth : (slots : Slots) (flags : List Bool) → IsWorth (λ (n : Name). Some n) slots (worth_of (record { live = live_of slots; flags = flags }))
name_worth slots flags n m e named stands = live_worth slots flags n m e (some_inj n m named) stands

pub key_worth : (macros : List ℤ) (slots : Slots) (flags : List Bool) → IsWorth owner_of slots (worth (record { macros = macros; patches = record { live = live_of slots; flags = flags } }))
key_worth macros slots flags (Macro i) m e named stands = absurd (cc)
key_worth macros slots flags (Patch n) m e named stands = live_worth slots flags n m e (some_inj n m named) stands
