-- What a pass keeps while it learns, twice.
use Rattle.std.proofs.Common.{◌≡◌, ℕ, ◌<◌, [], refl, sym, subst, ◌∙◌}
use Rattle.table_words.specs.Entries.{HasEntry}
use Rattle.table_words.proofs.Entries.{entry_left, entry_right}
use Rattle.mesh_table.specs.Sights.{Sight, setup_at, owner_sight}
use Rattle.table_words.specs.Views.{no_plan}
use Rattle.mesh_table.specs.declared.rule.Site.{Site}
use Rattle.mesh_table.specs.Passes.{joined, MayBegin}
use Rattle.patch_walk.specs.Wiser.{Wiser}
use Rattle.patch_walk.specs.Works.{Works}

pub more : {u v w : Sight} → Wiser u v → Wiser v w → Wiser u w
more a b = record { kind = b.kind ∙ a.kind; claims = b.claims ∙ a.claims; owned = b.owned ∙ a.owned; half = b.half ∙ a.half; round = b.round ∙ a.round; number = b.number ∙ a.number; plan = b.plan ∙ a.plan; found = λ x e. b.found x (a.found x e); known = λ x e. b.known x (a.known x e); absent = λ x e. b.absent x (a.absent x e) }

-- what a pass found is the owner's after a join, and stays
pub joins_found : (v u w : Sight) → u ≡ joined v w → (p : ℕ × ℕ) → HasEntry w.work.found p → HasEntry u.work.found p
joins_found v u w e p h = subst (λ (x : Sight). HasEntry x.work.found p) (sym e) (entry_right {A = ℕ × ℕ} v.work.found w.work.found p h)

pub keeps_found : (v u w : Sight) → u ≡ joined v w → (p : ℕ × ℕ) → HasEntry v.work.found p → HasEntry u.work.found p
keeps_found v u w e p h = subst (λ (x : Sight). HasEntry x.work.found p) (sym e) (entry_left {A = ℕ × ℕ} v.work.found w.work.found p h)

-- the first round of a fresh table, which needs nothing, may begin
pub begins_empty : (k : Site) → 0 < k.layout.rounds → MayBegin (setup_at k) (owner_sight k) no_plan
begins_empty k room = record {
  rules = refl;
  names = [];
  last = refl;
  target = record {
    closed = record { parents = λ n c h. absurd h; seconds = λ n i e h. absurd h; firsts = λ n i e h. absurd h };
    olds = λ n h. absurd h;
    needs = λ n h. absurd h;
    least = λ other closed olds needs n h. absurd h;
  };
  room = room;
  rests = refl;
  cursor = refl;
}

pub works_more : {u v w : Sight} → Works u v → Works v w → Works u w
works_more a b = record { kind = b.kind ∙ a.kind; half = b.half ∙ a.half; round = b.round ∙ a.round; number = b.number ∙ a.number; plan = b.plan ∙ a.plan; found = λ x e. b.found x (a.found x e); known = λ x e. b.known x (a.known x e); absent = λ x e. b.absent x (a.absent x e) }

pub wiser_works : {u v : Sight} → Wiser u v → Works u v
wiser_works a = record { kind = a.kind; half = a.half; round = a.round; number = a.number; plan = a.plan; found = a.found; known = a.known; absent = a.absent }
