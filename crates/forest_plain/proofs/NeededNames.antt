-- The needed names, name by name.
use Rattle.std.proofs.Common.{◌≡◌, ◌≢◌, ℕ, zero, suc, ◌+◌, ◌-◌, ◌<◌, ℤ, pos, negsuc, Bool, true, false, refl, sym, ap, ◌∙◌, List, [], ◌∷◌, ◌++◌, take, length, slice_index_or, take-suc, arith, append_assoc, append-nil, Result, Ok, Err, OnOk}
use Rattle.std.specs.Prelude.{◌≤ℤ◌}
use Rattle.std.proofs.lemmas.Int.{ints}
use Rattle.mesh_names.specs.Names.{Name}
use Rattle.mesh_names.specs.LeastForest.{names_below}
use Rattle.mesh_names.specs.Marks.{bisections}
use Rattle.forest_plain.specs.Needed.{names_of, work_by}

pub nothing_below : (items : List Name) (k : ℕ) (n : Name) → k ≡ 0 → items ≡ items ++ names_below k n.0 n.1
unfolding names_below
nothing_below items k n e = sym (append-nil items) ∙ (λ i. items ++ names_below (sym e i) n.0 n.1)

below_step : (k r : ℕ) (w : List Bool) → k ≢ 0 → names_below k r w ≡ (r, w) ∷ (names_below (k - 1) r (false ∷ w) ++ names_below (k - 1) r (true ∷ w))
unfolding names_below
below_step zero r w n = absurd (n refl)
below_step (suc k) r w n = λ i. (r, w) ∷ (names_below (same i) r (false ∷ w) ++ names_below (same i) r (true ∷ w))
  where
    same : k ≡ suc k - 1
    same = omega arith

pub all_below : {E : Type 0} (r : Result (Unit {0}) E) (a b c d : List Name) (k : ℕ) (n f t : Name) → k ≢ 0 → b ≡ a ++ n ∷ [] → f ≡ (n.0, false ∷ n.1) → c ≡ b ++ names_below (k - 1) f.0 f.1 → t ≡ (n.0, true ∷ n.1) → OnOk r (d ≡ c ++ names_below (k - 1) t.0 t.1) → OnOk r (d ≡ a ++ names_below k n.0 n.1)
all_below (Ok u) a b c d k n f t z pb pf pc pt h =
    h
    ∙ (λ i. pc i ++ names_below (k - 1) (pt i).0 (pt i).1)
    ∙ (λ i. (pb i ++ names_below (k - 1) (pf i).0 (pf i).1) ++ names_below (k - 1) n.0 (true ∷ n.1))
    ∙ append_assoc (a ++ n ∷ []) (names_below (k - 1) n.0 (false ∷ n.1)) (names_below (k - 1) n.0 (true ∷ n.1))
    ∙ append_assoc a (n ∷ []) (names_below (k - 1) n.0 (false ∷ n.1) ++ names_below (k - 1) n.0 (true ∷ n.1))
    ∙ ap (λ (l : List Name). a ++ l) (sym (below_step k n.0 n.1 z))
all_below (Err e) a b c d k n f t z pb pf pc pt h = h

names-push : (mark : Name → ℤ) (leaves : List Name) (n : Name) → names_of (work_by mark (leaves ++ n ∷ [])) ≡ names_of (work_by mark leaves) ++ names_below (bisections (mark n)) n.0 n.1
names-push mark [] n = append-nil (names_below (bisections (mark n)) n.0 n.1)
names-push mark (k ∷ leaves) n =
    let below = names_below (bisections (mark k)) k.0 k.1 in
    ap (λ (l : List Name). below ++ l) (names-push mark leaves n) ∙ sym (append_assoc below (names_of (work_by mark leaves)) (names_below (bisections (mark n)) n.0 n.1))

pub next_leaf : (mark : Name → ℤ) (leaves old new : List Name) (i : ℕ) (n d : Name) → i < length leaves → n ≡ slice_index_or leaves i d → old ≡ names_of (work_by mark (take i leaves)) → new ≡ old ++ names_below (bisections (mark n)) n.0 n.1 → new ≡ names_of (work_by mark (take (i + 1) leaves))
next_leaf mark leaves old new i n d low at was step =
    step
    ∙ (λ j. was j ++ names_below (bisections (mark n)) n.0 n.1)
    ∙ sym (names-push mark (take i leaves) n)
    ∙ (λ j. names_of (work_by mark (sym next j)))
  where
    same : i + 1 ≡ suc i
    same = omega arith

    next : take (i + 1) leaves ≡ take i leaves ++ n ∷ []
    next = (λ j. take (same j) leaves) ∙ take-suc leaves i d low ∙ (λ j. take i leaves ++ sym at j ∷ [])

pub no_bisections : (z : ℤ) → z ≤ℤ pos 0 → bisections z ≡ 0
no_bisections (pos k) h = omega (arith, ints, h)
no_bisections (negsuc k) h = refl
