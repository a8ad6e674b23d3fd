use Rattle.std.proofs.Common.{◌≡◌, ◌∙◌, Bool, true, false, not, refl, sym, subst, List, ℕ}
use Rattle.std.specs.Prelude.{nat_eq}
use Rattle.std.specs.Cmp.Lexicographic.{pointwise, bytes_decides}
use Rattle.mesh_names.specs.Names.{Name}
use Rattle.compat_check.specs.Meshes.{shape_of}
use Rattle.restart_file.specs.Kept.{IsKept}
use Rattle.restart_file.specs.Files.{IsPart}
use Rattle.bench_restart.proofs.trial.laid_over.Goals as goal

not_false : (b : Bool) → false ≡ not b → b ≡ true
not_false true e = refl
not_false false e = e

pub overlay-requires-clause-second : goal.overlay-requires-clause-second
overlay-requires-clause-second c =
    let same : c.args.first.now.macro_bytes.items ≡ c.args.second.now.macro_bytes.items =
    sym c.as_slice.ensures.value ∙ (bytes_decides c.as_slice.result.now c.as_slice-2.result.now).0 (not_false (pointwise nat_eq c.as_slice.result.now c.as_slice-2.result.now) c.if-ne.ensures) ∙ c.as_slice-2.ensures.value in
    subst (λ (l : List Name). IsKept (shape_of c.args.first.now.mesh) l) (sym c.deref-2.ensures.value)
    (c.kept_over_part.ensures c.args.first.now.macro_bytes.items c.args.second.now.mesh c.args.first.now.mesh c.args.second.now.members.items
    (subst (λ (p : List ℕ). IsPart p c.args.second.now.mesh) (sym same) c.requires.second.is_part) c.requires.first.is_part c.requires.second.kept)
