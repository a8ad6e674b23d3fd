-- A patch that a greater forest has more than a smaller one.
use Rattle.std.proofs.Common.{◌≡◌, ◌≢◌, ℕ, ◌<◌, ◌≤◌, arith, Bool, refl, sym, subst}
use Rattle.std.specs.Prelude.{IfSome, Option, Some, None}
use Rattle.mesh_names.specs.Names.{Name, depth}
use Rattle.mesh_names.specs.Triangles.{Shape, level}
use Rattle.mesh_names.specs.Forests.{Names}
use Rattle.mesh_names.specs.Partners.{Across, partner}
use Rattle.mesh_names.specs.Patches.{patch_of}
use Rattle.mesh_names.proofs.Pairs.{partners_pair}
use Rattle.dof_transfer.specs.Exchanges.{IsPair}
use Rattle.mesh_rounds.proofs.NewOwners.{Encloses, IsNew}
use Rattle.mesh_rounds.proofs.PatchOwners.{of-owned, other_of}

-- the patch of a new owner is of one or two elements that can be bisected
pub owned-pair : (mesh : Shape) (x : Across) (more less : Names) (two : Encloses mesh x more less) (n : Name) → IsNew x more less n → IsPair (patch_of x n)
owned-pair mesh x more less two n is = of-owned IsPair x n is.owns (record { first = short n low; second = by (partner x n.0 n.1) refl })
  where
    low : level mesh n ≤ 23
    low = two.forest.shallow n is.inside

    short : (q : Name) → level mesh q ≤ 23 → depth q < 24
    short q h = omega (arith, h)

    by : (o : Option (Name × Bool)) → partner x n.0 n.1 ≡ o → IfSome (other_of o) (λ m. (depth m < 24) × (m ≢ n))
    by None e = tt
    by (Some m) e =
        let p = partners_pair mesh x two.tells n m.0 m.1 (two.forest.rooted n is.inside) e in
        (short m.0 (subst (λ (l : ℕ). l ≤ 23) (sym p.level) low), p.other)
