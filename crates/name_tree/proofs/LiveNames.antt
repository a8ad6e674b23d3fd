-- What stands in slots, as they change.
use Rattle.std.proofs.Common.{◌≡◌, Bool, true, false, cond, ◌&&◌, T, List, [], ◌∷◌, refl, ap, sym, ◌∙◌, subst, Option, Some, None, unwrap_or, is_some, true≢false}
use Rattle.std.specs.Ordering.{is_lt, is_eq, eq_by_cmp}
use Rattle.std.specs.FinMap.{FinMap, get, insert, remove, contains_key, entries, find, is_sorted, get-from_entries, get-insert, get-remove, get-empty, empty, get-entries, entries_sorted, same_map}
use Rattle.std.specs.FinMap.Entries.{below_all}
use Rattle.std.specs.declared.cmp.Ordering.{Ordering}
use Rattle.std.specs.declared.cmp.Ordering.TheVariants.{Less, Equal, Greater}
use Rattle.mesh_names.specs.Names.{Name, name_cmp}
use Rattle.mesh_names.specs.Order.{name_cmp_total, name_cmp-same}
use Rattle.name_tree.specs.declared.nodes.Entry.{Entry}
use Rattle.name_tree.specs.Slots.{Slot, Slots, live_at, live_list, live_of}

abbrev flat : Option Slot → Option Entry
flat o = unwrap_or o None

left : (a b : Bool) → T (a && b) → T a
left true b h = tt
left false b h = h

right : (a b : Bool) → T (a && b) → T b
right true b h = h
right false b h = absurd h

less_is_other : (o : Ordering) → T (is_lt o) → is_eq o ≡ false
less_is_other Less h = refl
less_is_other Equal h = absurd h
less_is_other Greater h = absurd h

equal_is : (o : Ordering) → is_eq o ≡ true → o ≡ Equal
equal_is Less h = absurd (true≢false (sym h))
equal_is Equal h = refl
equal_is Greater h = absurd (true≢false (sym h))

pub same_name : (m n : Name) → eq_by_cmp name_cmp m n ≡ true → m ≡ n
same_name m n h = name_cmp-same m n (equal_is (name_cmp m n) h)

-- a key below all others is not among them
none_above : (q : Name) (es : List (Name × Slot)) → T (below_all name_cmp q es) → find name_cmp q (live_list es) ≡ None
none_above q [] h = refl
none_above q ((n, None) ∷ es) h = none_above q es (right (is_lt (name_cmp q n)) (below_all name_cmp q es) h)
none_above q ((n, Some e) ∷ es) h =
    ap (λ (b : Bool). cond b (Some e) (find name_cmp q (live_list es))) (less_is_other (name_cmp q n) (left (is_lt (name_cmp q n)) (below_all name_cmp q es) h))
    ∙ none_above q es (right (is_lt (name_cmp q n)) (below_all name_cmp q es) h)

found_live : (q : Name) (es : List (Name × Slot)) → T (is_sorted name_cmp es) → find name_cmp q (live_list es) ≡ flat (find name_cmp q es)
found_live q [] h = refl
found_live q ((n, None) ∷ es) h =
    elim (eq_by_cmp name_cmp q n) as (λ (b : Bool). eq_by_cmp name_cmp q n ≡ b → find name_cmp q (live_list es) ≡ flat (cond b (Some None) (find name_cmp q es))) [
      | true ↦ λ (e : eq_by_cmp name_cmp q n ≡ true). subst (λ (m : Name). find name_cmp m (live_list es) ≡ None) (sym (same_name q n e)) (none_above n es (left (below_all name_cmp n es) (is_sorted name_cmp es) h))
      | false ↦ λ _. found_live q es (right (below_all name_cmp n es) (is_sorted name_cmp es) h)
    ] refl
found_live q ((n, Some e) ∷ es) h =
    elim (eq_by_cmp name_cmp q n) as (λ (b : Bool). cond b (Some e) (find name_cmp q (live_list es)) ≡ flat (cond b (Some (Some e)) (find name_cmp q es))) [
      | true ↦ refl
      | false ↦ found_live q es (right (below_all name_cmp n es) (is_sorted name_cmp es) h)
    ]

pub get-live : (s : Slots) (q : Name) → get (live_of s) q ≡ live_at s q
unfolding live_of
get-live s q =
    get-from_entries name_cmp_total (live_list (entries s)) q
    ∙ found_live q (entries s) (entries_sorted s)
    ∙ ap flat (sym (get-entries s q))

-- two sets of slots in which the same stands
pub same_live : (s t : Slots) → ((q : Name) → live_at s q ≡ live_at t q) → live_of s ≡ live_of t
same_live s t h = same_map name_cmp_total name_cmp-same (live_of s) (live_of t) (λ q. get-live s q ∙ h q ∙ sym (get-live t q))

flat-cond : (b : Bool) (v : Slot) (o : Option Slot) → flat (cond b (Some v) o) ≡ cond b v (flat o)
flat-cond true v o = refl
flat-cond false v o = refl

flat-none : (b : Bool) (o : Option Slot) → flat (cond b None o) ≡ cond b None (flat o)
flat-none true o = refl
flat-none false o = refl

pub live-put : (s : Slots) (n : Name) (e : Entry) → live_of (insert s n (Some e)) ≡ insert (live_of s) n e
live-put s n e = same_map name_cmp_total name_cmp-same _ _ (λ q.
    get-live (insert s n (Some e)) q
    ∙ ap flat (get-insert name_cmp_total s n (Some e) q)
    ∙ flat-cond (eq_by_cmp name_cmp q n) (Some e) (get s q)
    ∙ ap (cond (eq_by_cmp name_cmp q n) (Some e)) (sym (get-live s q))
    ∙ sym (get-insert name_cmp_total (live_of s) n e q))

pub live-emptied : (s : Slots) (n : Name) → live_of (insert s n None) ≡ remove (live_of s) n
live-emptied s n = same_map name_cmp_total name_cmp-same _ _ (λ q.
    get-live (insert s n None) q
    ∙ ap flat (get-insert name_cmp_total s n None q)
    ∙ flat-cond (eq_by_cmp name_cmp q n) None (get s q)
    ∙ ap (cond (eq_by_cmp name_cmp q n) None) (sym (get-live s q))
    ∙ sym (get-remove name_cmp_total (live_of s) n q))

pub live-empty : live_of empty ≡ empty
live-empty = same_map name_cmp_total name_cmp-same _ _ (λ q. get-live empty q ∙ ap flat (get-empty name_cmp q) ∙ sym (get-empty name_cmp q))

-- a name that is not live is not taken away
pub remove-absent : (m : FinMap name_cmp Entry) (n : Name) → get m n ≡ None → remove m n ≡ m
remove-absent m n none = same_map name_cmp_total name_cmp-same _ _ (λ q. get-remove name_cmp_total m n q ∙ gone q) where
  gone : (q : Name) → cond (eq_by_cmp name_cmp q n) None (get m q) ≡ get m q
  gone q =
      elim (eq_by_cmp name_cmp q n) as (λ (b : Bool). eq_by_cmp name_cmp q n ≡ b → cond b None (get m q) ≡ get m q) [
        | true ↦ λ (e : eq_by_cmp name_cmp q n ≡ true). sym none ∙ ap (get m) (sym (same_name q n e))
        | false ↦ λ _. refl
      ] refl

-- a slot more takes none away
pub kept-insert : (s : Slots) (n q : Name) (v : Slot) → contains_key s q ≡ true → contains_key (insert s n v) q ≡ true
kept-insert s n q v there = ap is_some (get-insert name_cmp_total s n v q) ∙ by (eq_by_cmp name_cmp q n)
  where
    by : (b : Bool) → is_some (cond b (Some v) (get s q)) ≡ true
    by true = refl
    by false = there
