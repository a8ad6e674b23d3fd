-- What the owner has once the passes of the first half are joined.
use Rattle.std.specs.Prelude.{◌≡◌, ℕ, ◌-◌, ◌<◌, false, List, [], ◌∷◌, ◌++◌, All, IfSome, None, Ok, Err, length, map}
use Rattle.mesh_names.specs.Names.{Name}
use Rattle.table_words.specs.Entries.{HasEntry}
use Rattle.table_words.specs.NameWords.{name_code}
use Rattle.table_words.specs.declared.layout.Layout.{Layout}
use Rattle.mesh_table.specs.Sights.{Sight}
use Rattle.patch_claims.specs.Listed.{AreWithin}
use Rattle.patch_claims.specs.declared.patch.Patch.{Patch}
use Rattle.table_passes.specs.Answers.{Answer, NoneFull}
use Rattle.table_passes.specs.Kept.{all_claims}
use Rattle.table_passes.specs.declared.lists.Lists.{Lists}
use Rattle.table_passes.specs.declared.work.Joined.{Joined}

-- the names that were put off
abbrev pub put_off : List Name → List Answer → List Name
put_off [] answers = []
put_off (n ∷ names) [] = []
put_off (n ∷ names) (Ok done ∷ answers) = put_off names answers
put_off (n ∷ names) (Err refusal ∷ answers) = n ∷ put_off names answers

-- those of all passes
abbrev pub all_put_off : List Joined → List Name
all_put_off [] = []
all_put_off (d ∷ ds) = put_off d.names.items d.answers.items ++ all_put_off ds

-- each name that was not put off is known as bisected
abbrev pub Reaches : Sight → List Name → List Answer → Type 0
Reaches v [] answers = Unit {0}
Reaches v (n ∷ names) [] = ⊥
Reaches v (n ∷ names) (Ok done ∷ answers) = HasEntry v.work.known (name_code n) × Reaches v names answers
Reaches v (n ∷ names) (Err refusal ∷ answers) = Reaches v names answers

-- where each claim has its block, each call was answered, and none found that there were no free blocks left
pub record IsReached (v : Sight) (d : Joined) : Type 0 where
  pub all : length d.answers.items ≡ length d.names.items
  pub none : NoneFull d.answers.items
  pub known : Reaches v d.names.items d.answers.items

-- the blocks of the lists, and their places, are of the table
pub record AreInside (l : Layout) (a : Lists) : Type 0 where
  pub published : (p : Patch) → HasEntry a.published.items p → (p.block < l.pool) × AreWithin l p.spot
  pub failed : IfSome a.failed (AreWithin l)

-- the owner's view after the passes were joined: it has their claims, and what they know
pub record HasJoined (l : Layout) (u v : Sight) (ds : List Joined) : Type 0 where
  pub kind : v.kind ≡ u.kind
  pub ruling : v.ruling ≡ record u.ruling { workers = u.ruling.workers - length ds; lone = v.ruling.lone }
  pub alone : u.ruling.lone ≡ false → v.ruling.lone ≡ false
  pub last : 0 < length ds → v.ruling.lone ≡ false
  pub claims : v.claims ≡ u.claims ++ all_claims l (map (λ d. d.lists) ds)
  pub known : (i : ℕ) → HasEntry u.work.known i → HasEntry v.work.known i
  pub reached : All (λ d. d.lists.failed ≡ None → IsReached v d) ds
  pub inside : All (λ d. AreInside l d.lists) ds
