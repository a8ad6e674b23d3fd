-- Compression, index by index.
use Rattle.std.proofs.Common.{◌≡◌, ℕ, zero, suc, ◌+◌, ◌<◌, Bool, true, false, List, [], ◌∷◌, ◌++◌, get_or, length, take, replicate, refl, ap, sym, ◌∙◌, subst, arith, true≢false, ◌⊎◌, ⊎_elim, length-append}
use Rattle.std.proofs.lemmas.List.{get_or_append_left, get_or_push, take-append-le, take_more}
use Rattle.dof_admin.specs.Administration.{IsRenumbering, used_count}
use Rattle.dof_admin.proofs.HoleLists.{used_count-cons}
use Rattle.dof_admin.proofs.HoleHeaps.{used-within}

take-front : (fs gs : List Bool) (n : ℕ) → length fs ≡ n → take n (fs ++ gs) ≡ fs
take-front [] gs n is = subst (λ (k : ℕ). take k gs ≡ []) is refl
take-front (u ∷ fs) gs n is = subst (λ (k : ℕ). take k ((u ∷ fs) ++ gs) ≡ u ∷ fs) is (ap (λ (l : List Bool). u ∷ l) (take-front fs gs (length fs) refl))

last_or_before : (i n : ℕ) → i < n + 1 → (i < n) ⊎ (i ≡ n)
last_or_before i n h = grind arith

-- one index more
pub renumbered-next : (fs : List Bool) (u : Bool) (moved : List ℕ) (x : ℕ) → IsRenumbering fs moved → (u ≡ true → x ≡ used_count fs) → (u ≡ false → x ≡ 4294967295) → IsRenumbering (fs ++ u ∷ []) (moved ++ x ∷ [])
renumbered-next fs u moved x h used hole =
    let size : length (fs ++ u ∷ []) ≡ length fs + 1 = omega (arith, length-append fs (u ∷ [])) in
    record {
      whole = omega (arith, h.whole, length-append fs (u ∷ []), length-append moved (x ∷ []));
      used = λ i is.
          let within : i < length fs + 1 = omega (arith, used-within (fs ++ u ∷ []) i is, size) in
          ⊎_elim
          (λ (before : i < length fs).
          let same : get_or fs i false ≡ true = sym (get_or_append_left fs (u ∷ []) false i before) ∙ is in
          get_or_append_left moved (x ∷ []) 0 i (omega (arith, h.whole)) ∙ h.used i same ∙ ap used_count (sym (take-append-le i fs (u ∷ []) (omega arith))))
          (λ (last : i ≡ length fs).
          let here : u ≡ true = sym (get_or_push fs u false i (sym last)) ∙ is in
          get_or_push moved x 0 i (omega (arith, h.whole)) ∙ used here ∙ ap used_count (sym (take-front fs (u ∷ []) i (sym last))))
          (last_or_before i (length fs) within);
      hole = λ i below is.
          ⊎_elim
          (λ (before : i < length fs).
          let same : get_or fs i false ≡ false = sym (get_or_append_left fs (u ∷ []) false i before) ∙ is in
          get_or_append_left moved (x ∷ []) 0 i (omega (arith, h.whole)) ∙ h.hole i before same)
          (λ (last : i ≡ length fs).
          let here : u ≡ false = sym (get_or_push fs u false i (sym last)) ∙ is in
          get_or_push moved x 0 i (omega (arith, h.whole)) ∙ hole here)
          (last_or_before i (length fs) (omega (arith, size)));
    }

pub used_count-replicate : (n : ℕ) → used_count (replicate n true) ≡ n
used_count-replicate zero = refl
used_count-replicate (suc n) = omega (arith, used_count-cons true (replicate n true), used_count-replicate n)

-- the loop's steps
pub renumbered-used : (flags : List Bool) (i used : ℕ) (moved new : List ℕ) → i < length flags → get_or flags i false ≡ true → used ≡ used_count (take i flags) → IsRenumbering (take i flags) moved → new ≡ moved ++ used ∷ [] → IsRenumbering (take (i + 1) flags) new
renumbered-used flags i used moved new within is count h pushed =
    let more : take i flags ++ true ∷ [] ≡ take (i + 1) flags = ap (λ (u : Bool). take i flags ++ u ∷ []) (sym is) ∙ sym (take_more flags i false within) in
    subst (λ (x : List Bool × List ℕ). IsRenumbering x.0 x.1) (λ k. (more k, sym pushed k)) (renumbered-next (take i flags) true moved used h (λ _. count) (λ e. absurd (true≢false e)))

pub renumbered-hole : (flags : List Bool) (i : ℕ) (moved new : List ℕ) → i < length flags → get_or flags i false ≡ false → IsRenumbering (take i flags) moved → new ≡ moved ++ 4294967295 ∷ [] → IsRenumbering (take (i + 1) flags) new
renumbered-hole flags i moved new within is h pushed =
    let more : take i flags ++ false ∷ [] ≡ take (i + 1) flags = ap (λ (u : Bool). take i flags ++ u ∷ []) (sym is) ∙ sym (take_more flags i false within) in
    subst (λ (x : List Bool × List ℕ). IsRenumbering x.0 x.1) (λ k. (more k, sym pushed k)) (renumbered-next (take i flags) false moved 4294967295 h (λ e. absurd (true≢false (sym e))) (λ _. refl))
