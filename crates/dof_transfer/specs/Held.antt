-- What is held of live names: their indices and values, and which indices are used.
use Rattle.std.specs.Prelude.{length, take, replicate, ◌<◌, ◌≡◌, ◌≢◌, ℕ, ◌*◌, ◌^◌, ◌-◌, ◌≤◌, refl, nat_abs, ℤ, Bool, true, false, not, List, [], ◌∷◌, slice_set, Option, Some, None, option_map, pos, unwrap_or}
use Rattle.std.specs.List.{position_or_len}
use Rattle.std.specs.Coded.{Coded, code_by, coded×, coded_ℕ, coded_list, coded_bool}
use Rattle.std.specs.FinMap.{FinMap, code, get, insert, remove}
use Rattle.dof_admin.specs.Administration.{used_at, used_count, with_used}
use Rattle.mesh_names.specs.Names.{Name, name_cmp, depth}
use Rattle.name_tree.specs.declared.nodes.Entry.{Entry}
use Rattle.name_tree.specs.Slots.{entry_code}

-- the live names, and whether each index below the size is used
pub record Held : Type 0 where
  pub live : FinMap name_cmp Entry
  pub flags : List Bool

-- it is stored as the pair of its parts
abbrev pub held_code : Coded Held
held_code = code_by (FinMap name_cmp Entry × List Bool) (coded× (code (coded× coded_ℕ (coded_list coded_bool)) entry_code) (coded_list coded_bool)) (λ h. (h.live, h.flags)) (λ p. record { live = p.0; flags = p.1 }) (λ _. refl)

-- the value of a live name
abbrev pub value_of : Held → Name → Option ℤ
value_of held n = option_map (λ (e : Entry). e.value) (get held.live n)

-- the value of a live name, and 0 of any other
abbrev pub worth_of : Held → Name → ℤ
worth_of held n = unwrap_or (value_of held n) (pos 0)

-- the index of a live name
abbrev pub index_of : Held → Name → Option ℕ
index_of held n = option_map (λ (e : Entry). e.index) (get held.live n)

-- each live name has a used index of its own
pub record IsSound (held : Held) : Type 0 where
  pub used : (n : Name) (i : ℕ) → index_of held n ≡ Some i → used_at held.flags i ≡ true
  pub apart : (m n : Name) (i : ℕ) → index_of held m ≡ Some i → index_of held n ≡ Some i → m ≡ n

-- an element's value, by the number of its letters: each halving leaves room for half as much
abbrev pub IsSized : ℕ → ℤ → Type 0
IsSized letters v = nat_abs v ≤ 2 ^ 31 * 2 ^ (24 - letters)

pub record AreSized (held : Held) : Type 0 where
  pub deep : (n : Name) (v : ℤ) → value_of held n ≡ Some v → depth n ≤ 24
  pub sized : (n : Name) (v : ℤ) → value_of held n ≡ Some v → IsSized (depth n) v

-- one live name has another value, and nothing else has changed
pub record SetsValue (old new : Held) (n : Name) (v : ℤ) : Type 0 where
  pub value : value_of new n ≡ Some v
  pub index : index_of new n ≡ index_of old n
  pub others : (q : Name) → q ≢ n → get new.live q ≡ get old.live q
  pub flags : new.flags ≡ old.flags

-- the least index that is not used: the least hole, or else the size
abbrev pub least_unused : List Bool → ℕ
least_unused flags = position_or_len not flags

-- the flags without an index, where there is one
abbrev pub cleared : List Bool → Option ℕ → List Bool
cleared flags None = flags
cleared flags (Some i) = slice_set flags i false

-- a name gives its index back
abbrev pub given_back : Held → Name → Held
given_back held n = record { live = remove held.live n; flags = cleared held.flags (index_of held n) }

-- a name takes the least unused index, with this value
abbrev pub taken : Held → Name → ℤ → Held
taken held n v = record { live = insert held.live n (record { index = least_unused held.flags; value = v }); flags = with_used held.flags (least_unused held.flags) }

-- the names give theirs back in order
abbrev pub all_given_back : Held → List Name → Held
all_given_back held [] = held
all_given_back held (n ∷ ns) = all_given_back (given_back held n) ns

-- the names take one each in order, with these values
abbrev pub all_taken : Held → List (Name × ℤ) → Held
all_taken held [] = held
all_taken held (p ∷ ps) = all_taken (taken held p.0 p.1) ps

-- compression: each live name has the number of used indices below its own, and all indices are used
pub record IsCompressed (old new : Held) : Type 0 where
  pub indices : (n : Name) → index_of new n ≡ option_map (λ i. used_count (take i old.flags)) (index_of old n)
  pub values : (n : Name) → value_of new n ≡ value_of old n
  pub flags : new.flags ≡ replicate (used_count old.flags) true

-- a compression exactly where the unused indices outnumber the used ones
pub record IsTidied (old new : Held) : Type 0 where
  pub compressed : 2 * used_count old.flags < length old.flags → IsCompressed old new
  pub kept : length old.flags ≤ 2 * used_count old.flags → new ≡ old
