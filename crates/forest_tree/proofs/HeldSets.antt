-- The set of names that slots hold, as they change.
use Rattle.std.proofs.Common.{◌≡◌, ℕ, ◌+◌, ◌<◌, Bool, true, false, cond, not, ◌&&◌, ◌||◌, refl, sym, ap, ◌∙◌, List, [], take, length, slice_index_or, is_some, Option, Some, None}
use Rattle.std.specs.Prelude.{Result, Ok, Err, OnErr}
use Rattle.std.specs.FinMap as map
use Rattle.std.specs.FinSet.{contains, insert, remove, union, difference, from_list, empty, contains-empty, contains-insert, contains-remove, contains-union, contains-difference, contains-from_list, from_list_push, same_set}
use Rattle.std.specs.Ordering.{eq_by_cmp}
use Rattle.mesh_names.specs.Names.{Name, name_cmp}
use Rattle.mesh_names.specs.Order.{name_cmp_total, name_cmp-same}
use Rattle.mesh_names.specs.Forests.{Names}
use Rattle.name_tree.specs.Held.{held}
use Rattle.name_tree.specs.Slots.{Slots, live_of}
use Rattle.name_tree.specs.declared.nodes.Entry.{Entry}
use Rattle.name_tree.proofs.LiveNames.{live-empty, live-put}
use Rattle.forest_plain.proofs.RowOrder.{next-take}

abbrev set_in : map.FinMap name_cmp Entry → Names
set_in m = from_list (map.keys m)

has-in-map : (m : map.FinMap name_cmp Entry) (n : Name) → contains (set_in m) n ≡ map.contains_key m n
has-in-map m n = contains-from_list name_cmp_total (map.keys m) n ∙ sym (map.contains_key-keys m n)

pub held-live : (s t : Slots) → live_of s ≡ live_of t → held s ≡ held t
held-live s t e = ap set_in e

pub held-empty : held map.empty ≡ empty
held-empty = same_set name_cmp_total name_cmp-same (held map.empty) empty (λ q. ap (λ (m : map.FinMap name_cmp Entry). contains (set_in m) q) live-empty ∙ has-in-map map.empty q ∙ ap is_some (map.get-empty name_cmp q) ∙ sym (contains-empty name_cmp q))

some_or : (b : Bool) (e : Entry) (o : Option Entry) → is_some (cond b (Some e) o) ≡ (b || is_some o)
some_or true e o = refl
some_or false e o = refl

none_or : (b : Bool) (o : Option Entry) → is_some (cond b None o) ≡ (not b && is_some o)
none_or true o = refl
none_or false o = refl

pub held-put : (s : Slots) (n : Name) (e : Entry) → held (map.insert s n (Some e)) ≡ insert (held s) n
held-put s n e = ap set_in (live-put s n e) ∙ same_set name_cmp_total name_cmp-same (set_in (map.insert (live_of s) n e)) (insert (held s) n) (λ q.
    has-in-map (map.insert (live_of s) n e) q
    ∙ ap is_some (map.get-insert name_cmp_total (live_of s) n e q)
    ∙ some_or (eq_by_cmp name_cmp q n) e (map.get (live_of s) q)
    ∙ ap (λ (b : Bool). eq_by_cmp name_cmp q n || b) (sym (has-in-map (live_of s) q))
    ∙ sym (contains-insert name_cmp_total (held s) n q))

pub held-taken : (s t : Slots) (n : Name) → live_of t ≡ map.remove (live_of s) n → held t ≡ remove (held s) n
held-taken s t n step = ap set_in step ∙ same_set name_cmp_total name_cmp-same (set_in (map.remove (live_of s) n)) (remove (held s) n) (λ q.
    has-in-map (map.remove (live_of s) n) q
    ∙ ap is_some (map.get-remove name_cmp_total (live_of s) n q)
    ∙ none_or (eq_by_cmp name_cmp q n) (map.get (live_of s) q)
    ∙ ap (λ (b : Bool). not (eq_by_cmp name_cmp q n) && b) (sym (has-in-map (live_of s) q))
    ∙ sym (contains-remove name_cmp_total (held s) n q))

-- ---- a list of names, name by name
or_false : (a : Bool) → (a || false) ≡ a
or_false true = refl
or_false false = refl

and_true : (a : Bool) → (a && true) ≡ a
and_true true = refl
and_true false = refl

or_turned : (a b c : Bool) → (b || (a || c)) ≡ (a || (b || c))
or_turned true true c = refl
or_turned true false c = refl
or_turned false b c = refl

and_turned : (a b c : Bool) → (not b && (a && not c)) ≡ (a && not (b || c))
and_turned true true c = refl
and_turned true false c = refl
and_turned false true c = refl
and_turned false false c = refl

pub union-none : (s : Names) → s ≡ union s (from_list [])
union-none s = same_set name_cmp_total name_cmp-same s (union s (from_list [])) (λ q. sym (contains-union name_cmp_total s (from_list []) q ∙ ap (λ (b : Bool). contains s q || b) (contains-empty name_cmp q) ∙ or_false (contains s q)))

pub difference-none : (s : Names) → s ≡ difference s (from_list [])
difference-none s = same_set name_cmp_total name_cmp-same s (difference s (from_list [])) (λ q. sym (contains-difference name_cmp_total s (from_list []) q ∙ ap (λ (b : Bool). contains s q && not b) (contains-empty name_cmp q) ∙ and_true (contains s q)))

pub union-insert : (s t : Names) (n : Name) → insert (union s t) n ≡ union s (insert t n)
union-insert s t n = same_set name_cmp_total name_cmp-same (insert (union s t) n) (union s (insert t n)) (λ q.
    contains-insert name_cmp_total (union s t) n q
    ∙ ap (λ (b : Bool). eq_by_cmp name_cmp q n || b) (contains-union name_cmp_total s t q)
    ∙ or_turned (contains s q) (eq_by_cmp name_cmp q n) (contains t q)
    ∙ ap (λ (b : Bool). contains s q || b) (sym (contains-insert name_cmp_total t n q))
    ∙ sym (contains-union name_cmp_total s (insert t n) q))

pub difference-insert : (s t : Names) (n : Name) → remove (difference s t) n ≡ difference s (insert t n)
difference-insert s t n = same_set name_cmp_total name_cmp-same (remove (difference s t) n) (difference s (insert t n)) (λ q.
    contains-remove name_cmp_total (difference s t) n q
    ∙ ap (λ (b : Bool). not (eq_by_cmp name_cmp q n) && b) (contains-difference name_cmp_total s t q)
    ∙ and_turned (contains s q) (eq_by_cmp name_cmp q n) (contains t q)
    ∙ ap (λ (b : Bool). contains s q && not b) (sym (contains-insert name_cmp_total t n q))
    ∙ sym (contains-difference name_cmp_total s (insert t n) q))

longer : (names : List Name) (i : ℕ) (n d : Name) → i < length names → n ≡ slice_index_or names i d → from_list {R = name_cmp} (take (i + 1) names) ≡ insert (from_list (take i names)) n
longer names i n d low at = ap from_list (next-take names i n d low at) ∙ from_list_push name_cmp_total name_cmp-same (take i names) n

pub put-next : (first now next : Names) (names : List Name) (i : ℕ) (n d : Name) → i < length names → n ≡ slice_index_or names i d → now ≡ union first (from_list (take i names)) → next ≡ insert now n → next ≡ union first (from_list (take (i + 1) names))
put-next first now next names i n d low at was step =
    step ∙ ap (λ (s : Names). insert s n) was ∙ union-insert first (from_list (take i names)) n ∙ ap (union first) (sym (longer names i n d low at))

pub taken-next : (first now next : Names) (names : List Name) (i : ℕ) (n d : Name) → i < length names → n ≡ slice_index_or names i d → now ≡ difference first (from_list (take i names)) → next ≡ remove now n → next ≡ difference first (from_list (take (i + 1) names))
taken-next first now next names i n d low at was step =
    step ∙ ap (λ (s : Names). remove s n) was ∙ difference-insert first (from_list (take i names)) n ∙ ap (difference first) (sym (longer names i n d low at))

pub on-err : {A E : Type 0} (r : Result A E) (P : Type 0) → P → OnErr r P
on-err (Ok a) P p = tt
on-err (Err e) P p = p
