-- Places of vertices in a list.
use Rattle.std.proofs.Common.{◌≡◌, ℕ, ◌+◌, Bool, true, false, cond, ◌||◌, refl, ap, ◌∙◌, List, [], ◌∷◌, ◌++◌, length, arith}
use Rattle.std.specs.Prelude.{Option, Some, None}
use Rattle.std.specs.Option.{is_some, option_map}
use Rattle.mesh_names.specs.Triangles.{Vertex, same}
use Rattle.mesh_writer.specs.Numbering.{is_among, number_of}
use Rattle.mesh_writer.specs.Numbers.{place_of}
use Rattle.mesh_writer.specs.Owners.{first_of}

abbrev next : ℕ → ℕ
next k = k + 1

-- a vertex is among these exactly where it has a place
pub among-place : (v : Vertex) (us : List Vertex) → is_among v us ≡ is_some (place_of v us)
among-place v [] = refl
among-place v (u ∷ us) = ap (λ b. same v u || b) (among-place v us) ∙ either (same v u) (place_of v us)
  where
    either : (b : Bool) (o : Option ℕ) → (b || is_some o) ≡ is_some (cond b (Some 0) (option_map (λ k. k + 1) o))
    either true o = refl
    either false (Some k) = refl
    either false None = refl

pub number-place : (v : Vertex) (us : List Vertex) (k : ℕ) → place_of v us ≡ Some k → number_of v us ≡ k
number-place v [] k e = absurd (cc)
number-place v (u ∷ us) k e = either (same v u) (place_of v us) (number_of v us) (λ j. number-place v us j) k e
  where
    either : (b : Bool) (o : Option ℕ) (n : ℕ) → ((j : ℕ) → o ≡ Some j → n ≡ j) → (k : ℕ) → cond b (Some 0) (option_map (λ k. k + 1) o) ≡ Some k → cond b 0 (n + 1) ≡ k
    either true o n h k e = cc
    either false (Some j) n h k e = let g : n ≡ j = h j refl in let f : j + 1 ≡ k = cc in ap (λ m. m + 1) g ∙ f
    either false None n h k e = absurd (cc)

-- the place in a list with one more vertex at its end
pub place-push : (v : Vertex) (us : List Vertex) (u : Vertex) → place_of v (us ++ u ∷ []) ≡ first_of (place_of v us) (cond (same v u) (Some (length us)) None)
place-push v [] u = either (same v u)
  where
    either : (b : Bool) → cond b (Some 0) (option_map (λ k. k + 1) None) ≡ cond b (Some 0) None
    either true = refl
    either false = refl
place-push v (w ∷ us) u = ap (λ (o : Option ℕ). cond (same v w) (Some 0) (option_map (λ k. k + 1) o)) (place-push v us u) ∙ either (same v w) (place_of v us) (same v u)
  where
    either : (b : Bool) (o : Option ℕ) (c : Bool) →
        cond b (Some 0) (option_map (λ k. k + 1) (first_of o (cond c (Some (length us)) None))) ≡ first_of (cond b (Some 0) (option_map (λ k. k + 1) o)) (cond c (Some (length (w ∷ us))) None)
    either true o c = refl
    either false (Some k) c = refl
    either false None true = ap Some (omega arith)
    either false None false = refl

pub first-none : (o p : Option ℕ) → p ≡ None → first_of p o ≡ o
first-none o (Some k) e = absurd (cc)
first-none o None e = refl

pub first-over-none : (o : Option ℕ) → first_of o None ≡ o
first-over-none (Some k) = refl
first-over-none None = refl
