-- What two loads show of pins of the last finished round.
use Rattle.std.proofs.Common.{◌≡◌, ◌≢◌, ℕ, ◌+◌, ◌%◌, Bool, true, false, cond, eqb, List, ◌++◌, refl, sym, ap, ◌∙◌, subst, arith, inl, eq-eqb, ne_eqb}
use Rattle.table_words.specs.Entries.{HasEntry}
use Rattle.mesh_table.specs.Sights.{Sight}
use Rattle.mesh_table.specs.Rounds.{MayFree, freed, seen_released, quieting}
use Rattle.table_rounds.specs.Freed.{MayTry, Tried}

module _ (u v w : Sight) (a n : ℕ) (one : v ≡ seen_released u a) (two : w ≡ quieting n v) where
  after : w ≡ quieting n (seen_released u a)
  after = two ∙ ap (quieting n) one

  quiet : a ≡ n % 4294967296 → w ≡ record u { ruling = record u.ruling { seen = a + 1; quiet = true } }
  quiet e = after ∙ ap (λ (b : Bool). cond b (record (seen_released u a) { ruling = record (seen_released u a).ruling { quiet = true } }) (seen_released u a)) (eq-eqb (a + 1) (n % 4294967296 + 1) (ap (λ (j : ℕ). j + 1) e))

  loud : a ≢ n % 4294967296 → w ≡ seen_released u a
  loud o = after ∙ ap (λ (b : Bool). cond b (record (seen_released u a) { ruling = record (seen_released u a).ruling { quiet = true } }) (seen_released u a)) (ne_eqb (a + 1) (n % 4294967296 + 1) (λ (e : a + 1 ≡ n % 4294967296 + 1). o (omega arith)))

  pub may_go : (blocks : List ℕ) → MayTry u blocks → a ≡ n % 4294967296 → MayFree w blocks
  may_go blocks may e = subst (λ (z : Sight). MayFree z blocks) (sym (quiet e)) record { rules = may.rules; rests = may.rests; each = λ c h. inl (may.rolled_back c h, may.drained, refl) }

  pub gone : (blocks : List ℕ) → a ≡ n % 4294967296 → (x : Sight) → x ≡ freed w blocks → Tried u x blocks true
  gone blocks e x is =
      let all : x ≡ freed (record u { ruling = record u.ruling { seen = a + 1; quiet = true } }) blocks = is ∙ ap (λ (z : Sight). freed z blocks) (quiet e) in
      (ap (λ (z : Sight). z.ruling.hand) all, subst (λ (z : Sight). z ≡ record u { ruling = record (freed u blocks).ruling { seen = z.ruling.seen; quiet = z.ruling.quiet } }) (sym all) refl)

  pub kept : (blocks : List ℕ) → a ≢ n % 4294967296 → Tried u w blocks false
  kept blocks o = subst (λ (z : Sight). z ≡ record u { ruling = record u.ruling { seen = z.ruling.seen; quiet = z.ruling.quiet } }) (sym (loud o)) refl
