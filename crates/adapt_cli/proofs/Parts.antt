-- A text that is written in parts.
use Rattle.std.proofs.Common.{◌≡◌, ℕ, ◌+◌, min, refl, ap, ◌∙◌, subst, List, [], ◌∷◌, ◌++◌, take, length, arith, append_assoc, zero, suc}
use Rattle.std.specs.Prelude.{Option, Some, None, IfSome}
use Rattle.mesh_io.specs.Faults.{Rose}
use Rattle.adapt_cli.specs.Ending.{Written, Took, Failed}

abbrev pub written : Option (List ℕ) → Option (List ℕ) → ℕ → ℕ → Written
written old new before now = record { old = old; new = new; before = before; now = now }

take-front : (n : ℕ) (xs ys : List ℕ) → take n xs ≡ take (min n (length xs)) (xs ++ ys)
take-front n [] ys = empty_front n
  where
    empty_front : (n : ℕ) → take n [] ≡ take (min n 0) ys
    empty_front zero = refl
    empty_front (suc n) = λ i. take (none i) ys
      where
        none : 0 ≡ min (suc n) 0
        none = omega arith
take-front zero (x ∷ xs) ys = λ i. take (none i) (x ∷ (xs ++ ys))
  where
    none : 0 ≡ min 0 (suc (length xs))
    none = omega arith
take-front (suc n) (x ∷ xs) ys = ap (λ (l : List ℕ). x ∷ l) (take-front n xs ys) ∙ (λ i. take (same i) (x ∷ (xs ++ ys)))
  where
    same : suc (min n (length xs)) ≡ min (suc n) (suc (length xs))
    same = omega arith

take-past : (n : ℕ) (xs ys : List ℕ) → xs ++ take n ys ≡ take (length xs + n) (xs ++ ys)
take-past n [] ys = λ i. take (same i) ys
  where
    same : n ≡ 0 + n
    same = omega arith
take-past n (x ∷ xs) ys = ap (λ (l : List ℕ). x ∷ l) (take-past n xs ys) ∙ (λ i. take (same i) (x ∷ (xs ++ ys)))
  where
    same : suc (length xs + n) ≡ suc (length xs) + n
    same = omega arith

-- a part failed
pub failed_early : (old new : Option (List ℕ)) (before now : ℕ) (first rest : List ℕ) → Failed (written old new before now) first → Failed (written old new before now) (first ++ rest)
failed_early old new before now first rest f = record { grown = by old f.grown; rose = f.rose }
  where
    by : (o : Option (List ℕ)) → IfSome o (λ held. (n : ℕ) × (new ≡ Some (held ++ take n first))) → IfSome o (λ held. (n : ℕ) × (new ≡ Some (held ++ take n (first ++ rest))))
    by None h = tt
    by (Some held) h = (min h.0 (length first), h.1 ∙ ap (λ (l : List ℕ). Some (held ++ l)) (take-front h.0 first rest))

module _ (old middle new : Option (List ℕ)) (before between now : ℕ) (first rest : List ℕ) (took : Took (written old middle before between) first) where
  -- a later part failed
  pub failed_late : Failed (written middle new between now) rest → Failed (written old new before now) (first ++ rest)
  failed_late f = record { grown = by old took.grown; rose = subst (λ (b : ℕ). Rose b now) took.calm f.rose }
    where
      by : (o : Option (List ℕ)) → IfSome o (λ held. middle ≡ Some (held ++ first)) → IfSome o (λ held. (n : ℕ) × (new ≡ Some (held ++ take n (first ++ rest))))
      by None h = tt
      by (Some held) h =
          let later = subst (λ (o : Option (List ℕ)). IfSome o (λ x. (n : ℕ) × (new ≡ Some (x ++ take n rest)))) h f.grown in (
            length first + later.0,
            later.1 ∙ ap Some (append_assoc held first (take later.0 rest) ∙ ap (λ (l : List ℕ). held ++ l) (take-past later.0 first rest)),
          )

  -- both parts were taken
  pub took_both : Took (written middle new between now) rest → Took (written old new before now) (first ++ rest)
  took_both t = record { grown = by old took.grown; calm = t.calm ∙ took.calm }
    where
      by : (o : Option (List ℕ)) → IfSome o (λ held. middle ≡ Some (held ++ first)) → IfSome o (λ held. new ≡ Some (held ++ (first ++ rest)))
      by None h = tt
      by (Some held) h = subst (λ (o : Option (List ℕ)). IfSome o (λ x. new ≡ Some (x ++ rest))) h t.grown ∙ ap Some (append_assoc held first rest)
