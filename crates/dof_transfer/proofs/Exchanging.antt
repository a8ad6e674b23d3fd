-- What names hold while others give back and take.
use Rattle.std.proofs.Common.{◌≡◌, ◌≢◌, ℕ, zero, suc, ◌+◌, ◌<◌, ℤ, pos, Bool, true, false, cond, List, [], ◌∷◌, ◌++◌, take, length, get_or, refl, ap, sym, ◌∙◌, arith, true≢false, Option, Some, None, option_map, unwrap_or, length-take, map}
use Rattle.std.proofs.lemmas.List.{take_more, get_or-take, map-append}
use Rattle.std.specs.List.{AllPairs}
use Rattle.std.specs.FinMap.{get, get-remove}
use Rattle.mesh_names.specs.Names.{Name}
use Rattle.mesh_names.specs.Order.{name_cmp_total}
use Rattle.mesh_names.specs.declared.patch.PatchName.{PatchName}
use Rattle.name_tree.specs.declared.nodes.Entry.{Entry}
use Rattle.dof_transfer.specs.Held.{Held, given_back, taken, all_given_back, all_taken}
use Rattle.dof_transfer.specs.Exchanges.{value_in, bisected, all_bisected, child, children, halves, listed, part, sum_in, with_values}
use Rattle.dof_transfer.proofs.FirstNames.{untied}

-- another name's value stays when one gives its index back
pub value-given_back : (held : Held) (n q : Name) → q ≢ n → value_in (given_back held n) q ≡ value_in held q
value-given_back held n q other =
    ap (λ (o : Option Entry). unwrap_or (option_map (λ (e : Entry). e.value) o) (pos 0))
    (get-remove name_cmp_total held.live n q ∙ ap (λ (b : Bool). cond b None (get held.live q)) (untied q n other))

bisected-more : (held : Held) (ps : List PatchName) (p : PatchName) → all_bisected held (ps ++ p ∷ []) ≡ bisected (all_bisected held ps) p
bisected-more held [] p = refl
bisected-more held (q ∷ ps) p = bisected-more (bisected held q) ps p

pub bisected-next : (held : Held) (ps : List PatchName) (i : ℕ) (p : PatchName) → i < length ps → p ≡ get_or ps i p → all_bisected held (take (i + 1) ps) ≡ bisected (all_bisected held (take i ps)) p
bisected-next held ps i p within is =
    ap (all_bisected held) (take_more ps i p within ∙ ap (λ (q : PatchName). take i ps ++ q ∷ []) (sym is))
    ∙ bisected-more held (take i ps) p

-- a patch of two, step by step
pub bisected-two : (held : Held) (p : PatchName) (b : Name) → p.second ≡ Some b → b ≢ p.first →
    bisected held p ≡ all_taken (given_back (given_back held p.first) b)
    ((child false p.first, part false (value_in held p.first)) ∷ (child true p.first, part true (value_in held p.first)) ∷ (child false b, part false (value_in (given_back held p.first) b)) ∷ (child true b, part true (value_in (given_back held p.first) b)) ∷ [])
bisected-two held p b two other =
    ap {B = Held} (λ (o : Option Name). all_taken (all_given_back held (p.first ∷ listed o)) (halves held (p.first ∷ listed o))) two
    ∙ ap {B = Held} (λ (v : ℤ). all_taken (given_back (given_back held p.first) b) ((child false p.first, part false (value_in held p.first)) ∷ (child true p.first, part true (value_in held p.first)) ∷ (child false b, part false v) ∷ (child true b, part true v) ∷ [])) (sym (value-given_back held p.first b other))

-- q is none of these
abbrev pub Misses : Name → List Name → Type 0
Misses q [] = Unit {0}
Misses q (n ∷ ns) = (q ≢ n) × Misses q ns

-- what others give back leaves a name's value
pub value-all_given_back : (held : Held) (ns : List Name) (q : Name) → Misses q ns → value_in (all_given_back held ns) q ≡ value_in held q
value-all_given_back held [] q h = refl
value-all_given_back held (n ∷ ns) q h = value-all_given_back (given_back held n) ns q h.1 ∙ value-given_back held n q h.0

-- a name's child is no child of others
abbrev parent_name : Name → Name
parent_name (r, []) = (r, [])
parent_name (r, b ∷ w) = (r, w)

pub misses-children : (ns : List Name) (b : Bool) (n : Name) → Misses n ns → Misses (child b n) (children ns)
misses-children [] b n h = tt
misses-children (m ∷ ns) b n h = (λ e. h.0 (ap parent_name e), (λ e. h.0 (ap parent_name e), misses-children ns b n h.1))

pub children-append : (ms ns : List Name) → children (ms ++ ns) ≡ children ms ++ children ns
children-append [] ns = refl
children-append (m ∷ ms) ns = ap (λ (l : List Name). child false m ∷ child true m ∷ l) (children-append ms ns)

given_back-append : (held : Held) (ms ns : List Name) → all_given_back held (ms ++ ns) ≡ all_given_back (all_given_back held ms) ns
given_back-append held [] ns = refl
given_back-append held (m ∷ ms) ns = given_back-append (given_back held m) ms ns

-- one name's children more
pub given_back-next : (held : Held) (names : List Name) (i : ℕ) (n : Name) → i < length names → n ≡ get_or names i n →
    all_given_back held (children (take (i + 1) names)) ≡ given_back (given_back (all_given_back held (children (take i names))) (child false n)) (child true n)
given_back-next held names i n within is =
    ap (λ (l : List Name). all_given_back held (children l)) (take_more names i n within ∙ ap (λ (m : Name). take i names ++ m ∷ []) (sym is))
    ∙ ap (all_given_back held) (children-append (take i names) (n ∷ []))
    ∙ given_back-append held (children (take i names)) (child false n ∷ child true n ∷ [])

taken-append : (held : Held) (ps : List (Name × ℤ)) (n : Name) (v : ℤ) → all_taken held (ps ++ (n, v) ∷ []) ≡ taken (all_taken held ps) n v
taken-append held [] n v = refl
taken-append held (p ∷ ps) n v = taken-append (taken held p.0 p.1) ps n v

with_values-push : (ns : List Name) (vs : List ℤ) (n : Name) (v : ℤ) → length vs ≡ length ns → with_values (ns ++ n ∷ []) (vs ++ v ∷ []) ≡ with_values ns vs ++ (n, v) ∷ []
with_values-push [] [] n v e = refl
with_values-push [] (w ∷ vs) n v e = absurd (omega arith)
with_values-push (m ∷ ns) [] n v e = absurd (omega arith)
with_values-push (m ∷ ns) (w ∷ vs) n v e = ap (λ (l : List (Name × ℤ)). (m, w) ∷ l) (with_values-push ns vs n v (omega arith))

-- one name more takes
pub taken-next : (held : Held) (names : List Name) (values : List ℤ) (i : ℕ) (n : Name) (v : ℤ) → length values ≡ length names → i < length names → n ≡ get_or names i n → v ≡ get_or values i v →
    all_taken held (with_values (take (i + 1) names) (take (i + 1) values)) ≡ taken (all_taken held (with_values (take i names) (take i values))) n v
taken-next held names values i n v each within is value =
    (λ j. all_taken held (with_values ((take_more names i n within ∙ ap (λ (m : Name). take i names ++ m ∷ []) (sym is)) j) ((take_more values i v (omega arith) ∙ ap (λ (w : ℤ). take i values ++ w ∷ []) (sym value)) j)))
    ∙ ap (all_taken held) (with_values-push (take i names) (take i values) n v (omega (arith, length-take i names, length-take i values)))
    ∙ taken-append held (with_values (take i names) (take i values)) n v

-- a name that stands at one place only is none of those before it
pub misses-before : (names : List Name) (i : ℕ) (n : Name) → AllPairs (λ p q. p ≢ q) names → i < length names → n ≡ get_or names i n → Misses n (take i names)
misses-before names i n apart within is =
    all_miss (take i names) (λ k below e.
    let low : k < i = omega (arith, length-take i names) in
    apart k i n low within (sym (e ∙ get_or-take i names k n low) ∙ is)) where
      all_miss : (ns : List Name) → ((k : ℕ) → k < length ns → n ≢ get_or ns k n) → Misses n ns
      all_miss [] h = tt
      all_miss (m ∷ ns) h = (h 0 (omega arith), all_miss ns (λ k below. h (suc k) (omega arith)))

-- what a name's children hold before the names ahead of it have given theirs back
pub sum-before : (held : Held) (names : List Name) (i : ℕ) (n : Name) (b : Bool) → AllPairs (λ p q. p ≢ q) names → i < length names → n ≡ get_or names i n →
    value_in (all_given_back held (children (take i names))) (child b n) ≡ value_in held (child b n)
sum-before held names i n b apart within is = value-all_given_back held (children (take i names)) (child b n) (misses-children (take i names) b n (misses-before names i n apart within is))

pub other_child : (n : Name) → child true n ≢ child false n
other_child n e = true≢false (ap (λ (m : Name). first_letter m.1) e) where
  first_letter : List Bool → Bool
  first_letter [] = false
  first_letter (b ∷ w) = b

-- one sum more
pub sums-next : (held : Held) (names : List Name) (i : ℕ) (n : Name) (old new : List ℤ) (v : ℤ) → i < length names → n ≡ get_or names i n → old ≡ map (sum_in held) (take i names) → v ≡ sum_in held n → new ≡ old ++ v ∷ [] → new ≡ map (sum_in held) (take (i + 1) names)
sums-next held names i n old new v within is sofar sum pushed =
    pushed ∙ (λ j. sofar j ++ sum j ∷ [])
    ∙ sym (map-append (sum_in held) (take i names) (n ∷ []))
    ∙ ap (map (sum_in held)) (sym (take_more names i n within ∙ ap (λ (m : Name). take i names ++ m ∷ []) (sym is)))

-- what stands at a place does not hang on what is answered beyond the end
pub get_or-other : {A : Type 0} (l : List A) (i : ℕ) (d e : A) → i < length l → get_or l i d ≡ get_or l i e
get_or-other [] i d e h = absurd (omega arith)
get_or-other (x ∷ l) zero d e h = refl
get_or-other (x ∷ l) (suc i) d e h = get_or-other l i d e (omega arith)
