-- The account of a seat, before a call and after it.
use Rattle.std.specs.Prelude.{◌≡◌, ℕ, suc, List, [], ◌∷◌, ◌++◌}
use Rattle.mesh_table.specs.Saw.{Saw, SawClaim, SawDraw, SawFree, SawEnd, SawBisected, SawBirth, SawHad, SawDied, SawRetire}

-- the account has grown by these, the newest first
abbrev pub GrewBy : List Saw → List Saw → List Saw → Type 0
GrewBy old new news = new ≡ news ++ old

-- how many blocks were published
abbrev pub births : List Saw → ℕ
births [] = 0
births (SawClaim x n ∷ es) = births es
births (SawDraw i ∷ es) = births es
births (SawFree n ∷ es) = births es
births (SawEnd k ∷ es) = births es
births (SawBisected k ∷ es) = births es
births (SawHad k ∷ es) = births es
births (SawDied b n ∷ es) = births es
births (SawRetire b n ∷ es) = births es
births (SawBirth b ∷ es) = suc (births es)
