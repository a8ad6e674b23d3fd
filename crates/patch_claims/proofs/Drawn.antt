-- What a draw tells, with FREE and the row.
use Rattle.std.proofs.Common.{◌≡◌, ℕ, ◌+◌, ◌<◌, ◌∷◌, refl, sym, ap, subst, arith, inl, ⊎_elim}
use Rattle.table_words.specs.Claims.{Failed, Drawn, moved_on}
use Rattle.table_words.specs.Entries.{HasEntry}
use Rattle.mesh_table.specs.Saw.{SawDraw}
use Rattle.mesh_table.specs.Sights.{Sight}
use Rattle.mesh_table.specs.Told.{DrawTells, drawn}
use Rattle.patch_claims.specs.Kept.{SameWork}

module _ (v u : Sight) (x i : ℕ) (tells : DrawTells v x i u) where
  pub drew_only : SameWork v u
  drew_only = ⊎_elim (λ e. of 0 Failed e) (λ b. of (b.0 + 1) (Drawn b.0) b.1) tells
    where
      of : (c : ℕ) (p : _) → u ≡ drawn v x i c p → SameWork v u
      of c p e = record { kind = ap (λ (a : Sight). a.kind) e; half = ap (λ (a : Sight). a.work.half) e; round = ap (λ (a : Sight). a.work.round) e; number = ap (λ (a : Sight). a.work.number) e; plan = ap (λ (a : Sight). a.work.plan) e; found = ap (λ (a : Sight). a.work.found) e; known = ap (λ (a : Sight). a.work.known) e; absent = ap (λ (a : Sight). a.work.absent) e }

  pub drew_saw : u.saw ≡ SawDraw i ∷ v.saw
  drew_saw = ⊎_elim (λ e. ap (λ (a : Sight). a.saw) e) (λ b. ap (λ (a : Sight). a.saw) b.1) tells

  -- no block, where the number is not below FREE
  pub drew_none : ((c : ℕ) → HasEntry u.work.drawn (i, c) → c ≡ 0) → u.claims ≡ moved_on v.claims x Failed
  drew_none high = ⊎_elim
      (λ e. ap (λ (a : Sight). a.claims) e)
      (λ b. let z = high (b.0 + 1) (subst (λ (a : Sight). HasEntry a.work.drawn (i, b.0 + 1)) (sym b.1) (inl refl)) in absurd (omega arith))
      tells

  -- or the row's block
  pub drew_one : (n pool : ℕ) → ((c : ℕ) → HasEntry u.work.drawn (i, c) → 0 < c) → ((b : ℕ) → HasEntry u.work.drawn (i, b + 1) → (b ≡ n) × (n < pool)) → (n < pool) × (u.claims ≡ moved_on v.claims x (Drawn n))
  drew_one n pool low row = ⊎_elim
      (λ e. let z = low 0 (subst (λ (a : Sight). HasEntry a.work.drawn (i, 0)) (sym e) (inl refl)) in absurd (omega arith))
      (λ b. let t = row b.0 (subst (λ (a : Sight). HasEntry a.work.drawn (i, b.0 + 1)) (sym b.1) (inl refl)) in
      (t.1, subst (λ (d : ℕ). u.claims ≡ moved_on v.claims x (Drawn d)) t.0 (ap (λ (a : Sight). a.claims) b.1)))
      tells
