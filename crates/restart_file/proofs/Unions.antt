-- The union of two conforming forests is the least conforming forest that holds both.
use Rattle.std.proofs.Common.{◌⊎◌, List, ◌∷◌, inl, inr, ⊎_elim}
use Rattle.mesh_names.specs.Names.{Name}
use Rattle.mesh_names.specs.Triangles.{Shape}
use Rattle.mesh_names.specs.Forests.{Has, IsForest, Conforms, Within}
use Rattle.mesh_names.specs.Partners.{Across, Tells}
use Rattle.mesh_names.specs.Conformity.{HoldsPartners}
use Rattle.mesh_names.specs.LeastForest.{IsLeast}
use Rattle.mesh_names.proofs.Conforming.{conforms_by_partners}
use Rattle.mesh_names.proofs.Sets.{has-in, in-has}
use Rattle.restart_file.specs.Kept.{IsKept, set_of}
use Rattle.restart_file.specs.Merges.{IsMerge}
use Rattle.restart_file.proofs.Merging.{from_either, from_first, from_second, merge_sorted}

module _ (mesh : Shape) (x : Across) (tells : Tells mesh x) (first second both : List Name) (kept : IsKept mesh first) (other : IsKept mesh second) (merge : IsMerge both first second) where
  either : (n : Name) → Has (set_of both) n → Has (set_of first) n ⊎ Has (set_of second) n
  either n h = ⊎_elim (λ a. inl (in-has n first a)) (λ b. inr (in-has n second b)) (from_either both first second merge n (has-in n both h))

  pub holds_first : Within (set_of first) (set_of both)
  holds_first n h = in-has n both (from_first both first second merge n (has-in n first h))

  pub holds_second : Within (set_of second) (set_of both)
  holds_second n h = in-has n both (from_second both first second merge n (has-in n second h))

  is_forest : IsForest mesh (set_of both)
  is_forest = record {
    rooted = λ n h. ⊎_elim (λ a. kept.forest.rooted n a) (λ b. other.forest.rooted n b) (either n h);
    shallow = λ n h. ⊎_elim (λ a. kept.forest.shallow n a) (λ b. other.forest.shallow n b) (either n h);
    closed = λ r b w h. ⊎_elim (λ a. holds_first (r, w) (kept.forest.closed r b w a)) (λ a. holds_second (r, w) (other.forest.closed r b w a)) (either (r, b ∷ w) h);
  }

  partners : HoldsPartners x (set_of both)
  partners r w m t h e = ⊎_elim
      (λ a. holds_first m ((conforms_by_partners mesh x tells (set_of first) kept.forest).0 kept.conforms r w m t a e))
      (λ a. holds_second m ((conforms_by_partners mesh x tells (set_of second) other.forest).0 other.conforms r w m t a e))
      (either (r, w) h)

  does_conform : Conforms mesh (set_of both)
  does_conform = (conforms_by_partners mesh x tells (set_of both) is_forest).1 partners

  pub is_kept : IsKept mesh both
  is_kept = record { in_order = merge_sorted both first second merge kept.in_order other.in_order; forest = is_forest; conforms = does_conform }

  pub is_least : IsLeast mesh (set_of first) (set_of second) (set_of both)
  is_least = record {
    forest = is_forest;
    conforms = does_conform;
    holds_old = holds_first;
    holds_needs = holds_second;
    least = λ o _ _ f g n h. ⊎_elim (λ a. f n a) (λ b. g n b) (either n h);
  }
