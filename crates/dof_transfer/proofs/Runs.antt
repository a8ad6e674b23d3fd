-- Names, cut where their level changes: the first run, and the rest.
use Rattle.std.proofs.Common.{◌≡◌, ◌≢◌, ℕ, zero, suc, ◌+◌, ◌-◌, ◌<◌, ◌≤◌, Bool, true, false, cond, eqb, List, [], ◌∷◌, take, drop, drop-drop, length, length-drop, get_or, refl, ap, sym, ◌∙◌, subst, arith}
use Rattle.std.proofs.lemmas.Bool.{eq-eqb, eqb-true}
use Rattle.std.proofs.lemmas.List.{get_or-drop}
use Rattle.std.specs.List.{All}
use Rattle.std.proofs.lemmas.List.Elements.{All-take}
use Rattle.mesh_names.specs.Names.{Name}
use Rattle.mesh_names.specs.Triangles.{Shape, level}
use Rattle.dof_transfer.specs.Exchanges.{IsRun, by_level, joined}

differ : (m n : ℕ) → m ≢ n → eqb m n ≡ false
differ m n other = elim (eqb m n) as (λ (b : Bool). eqb m n ≡ b → b ≡ false) [ true ↦ λ (t : eqb m n ≡ true). absurd (other (eqb-true m n t)) | false ↦ λ _. refl ] refl

-- runs that begin with this name
abbrev Begins : Name → List (List Name) → Type 0
Begins n runs = (run : List Name) × (rest : List (List Name)) × (runs ≡ (n ∷ run) ∷ rest)

begins-joined : (mesh : Shape) (n : Name) (runs : List (List Name)) → Begins n (joined mesh n runs)
begins-joined mesh n [] = ([], [], refl)
begins-joined mesh n ([] ∷ runs) = ([], runs, refl)
begins-joined mesh n ((m ∷ run) ∷ runs) = either (eqb (level mesh n) (level mesh m)) where
  either : (b : Bool) → Begins n (cond b ((n ∷ m ∷ run) ∷ runs) ((n ∷ []) ∷ (m ∷ run) ∷ runs))
  either true = (m ∷ run, runs, refl)
  either false = ([], (m ∷ run) ∷ runs, refl)

-- a name of another level than the next one is a run of its own
alone : (mesh : Shape) (n : Name) (runs : List (List Name)) (m : Name) → Begins m runs → level mesh n ≢ level mesh m → joined mesh n runs ≡ (n ∷ []) ∷ runs
alone mesh n runs m b other =
    ap (joined mesh n) b.2
    ∙ ap (λ (t : Bool). cond t ((n ∷ m ∷ b.0) ∷ b.1) ((n ∷ []) ∷ (m ∷ b.0) ∷ b.1)) (differ (level mesh n) (level mesh m) other)
    ∙ ap (λ (r : List (List Name)). (n ∷ []) ∷ r) (sym b.2)

abbrev at : List Name → ℕ → Name
at names k = get_or names k (0, [])

pub first-run : (mesh : Shape) (names : List Name) (k : ℕ) → 0 < k → k ≤ length names → ((j : ℕ) → j < k → level mesh (at names j) ≡ level mesh (at names 0)) → (k < length names → level mesh (at names k) ≢ level mesh (at names 0)) →
    by_level mesh names ≡ take k names ∷ by_level mesh (drop k names)
first-run mesh [] k some within same other = absurd (omega arith)
first-run mesh (n ∷ names) zero some within same other = absurd (omega arith)
first-run mesh (n ∷ []) (suc zero) some within same other = refl
first-run mesh (n ∷ m ∷ names) (suc zero) some within same other = alone mesh n (by_level mesh (m ∷ names)) m (begins-joined mesh m (by_level mesh names)) (λ e. other (omega arith) (sym e))
first-run mesh (n ∷ []) (suc (suc k)) some within same other = absurd (omega arith)
first-run mesh (n ∷ m ∷ names) (suc (suc k)) some within same other =
    let next : level mesh m ≡ level mesh n = same 1 (omega arith) in
    let rest = first-run mesh (m ∷ names) (suc k) (omega arith) (omega arith) (λ j below. same (suc j) (omega arith) ∙ sym next) (λ below e. other (omega arith) (e ∙ next)) in
    ap (joined mesh n) rest
    ∙ ap (λ (t : Bool). cond t ((n ∷ m ∷ take k names) ∷ by_level mesh (drop k names)) ((n ∷ []) ∷ (m ∷ take k names) ∷ by_level mesh (drop k names))) (eq-eqb (level mesh n) (level mesh m) (sym next))

-- the run that begins at a place, and what follows it
pub next-run : (mesh : Shape) (names : List Name) (i end : ℕ) → IsRun mesh names i end → by_level mesh (drop i names) ≡ take (end - i) (drop i names) ∷ by_level mesh (drop end names)
next-run mesh names i end run =
    first-run mesh (drop i names) (end - i) (omega (arith, run.some)) (omega (arith, run.some, run.within, length-drop i names))
    (λ j below. shifted j ∙ run.same (i + j) (omega arith) (omega (arith, run.some)) ∙ sym first)
    (λ below e. run.other (omega (arith, run.some, length-drop i names)) (sym last ∙ e ∙ first))
    ∙ ap (λ (l : List Name). take (end - i) (drop i names) ∷ by_level mesh l) (drop-drop-sum ∙ ap (λ (k : ℕ). drop k names) there) where
      there : i + (end - i) ≡ end
      there = omega (arith, run.some)

      shifted : (j : ℕ) → level mesh (at (drop i names) j) ≡ level mesh (at names (i + j))
      shifted j = ap (level mesh) (get_or-drop i names j (0, []))

      first : level mesh (at (drop i names) 0) ≡ level mesh (at names i)
      first = shifted 0 ∙ ap (λ (k : ℕ). level mesh (at names k)) (omega arith)

      last : level mesh (at (drop i names) (end - i)) ≡ level mesh (at names end)
      last = shifted (end - i) ∙ ap (λ (k : ℕ). level mesh (at names k)) there

      drop-drop-sum : drop (end - i) (drop i names) ≡ drop (i + (end - i)) names
      drop-drop-sum = drop-drop (end - i) i names

-- what is true of all is true of each part
pub part-all : (P : Name → Type 0) (names : List Name) (i n : ℕ) → All P names → All P (take n (drop i names))
part-all P names i n all = All-take P n (drop i names) (λ k d below. subst P (sym (get_or-drop i names k d)) (all (i + k) d (omega (arith, length-drop i names))))
