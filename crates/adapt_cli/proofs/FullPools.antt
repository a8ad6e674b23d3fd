-- Only a full pool refuses a round of drawn marks.
use Rattle.std.proofs.Common.{◌≡◌, ℕ, ◌+◌, ◌≤◌, true, sym, ap, ◌∙◌, subst, List, All, arith}
use Rattle.std.specs.Prelude.{Option, Some, None, IfSome}
use Rattle.std.specs.List.{Contains}
use Rattle.std.proofs.lemmas.List.Elements.{All-weaker}
use Rattle.mesh_names.specs.Names.{Name}
use Rattle.mesh_names.specs.Triangles.{Shape, level}
use Rattle.mesh_names.specs.Forests.{Has, IsForest, IsLeaf, IsListOf, Names}
use Rattle.mesh_names.specs.Leaves.{leaves}
use Rattle.mesh_names.specs.Marks.{bisections, names_leaf}
use Rattle.mesh_names.specs.declared.rows.MarkRow.{MarkRow}
use Rattle.mesh_names.specs.declared.rows.Place.{Place}
use Rattle.mesh_names.proofs.Leaving.{leaves_are}
use Rattle.mesh_names.proofs.Sets.{In, in-has, item-in, tied-same}
use Rattle.compat_check.specs.Meshes.{Mesh, across_in, shape_of}
use Rattle.forest_plain.specs.Rounds.{IsFine, IsRoundRefusal, named}
use Rattle.forest_plain.specs.declared.refusal.RoundRefusal.{RoundRefusal}
use Rattle.forest_plain.specs.declared.refusal.RoundRefusal.TheVariants.{RoundsUsedUp, NotALeaf, LevelTooDeep, PoolFull, Memory}
use Rattle.forest_plain.proofs.OneAnswer.{fine-or-refused}
use Rattle.soak.specs.Rows.{IsDrawn}
use Rattle.adapt_cli.specs.FaultTexts.{Fault, full_pool, round_fault}
use Rattle.adapt_cli.specs.Rounds.{whole}
use Rattle.adapt_cli.specs.Soaks.{Overfills}

module _ (shape : Shape) (members : Names) (forest : IsForest shape members) (list : List Name) (is : IsListOf (leaves shape members) list) where
  listed-leaf : (n : Name) → Contains list n → IsLeaf shape members n
  listed-leaf n at = (leaves_are shape members forest n).0 (subst (λ (s : Names). Has s n) is.all (in-has n list (subst (λ (q : Name). In q list) at.2 (item-in list at.0 n at.1))))

  drawn-fine : (row : MarkRow) → IsDrawn (level shape) list row → IsFine shape members row
  drawn-fine row drawn = record {
    leaf_named = subst (λ (p : Place). IfSome (named p) (λ n. IsLeaf shape members n)) (sym drawn.place) (listed-leaf drawn.leaf drawn.listed);
    within = λ mark above n leaf names. subst (λ (m : Name). level shape m + bisections row.number ≤ 24) (tied-same drawn.leaf n (subst (λ (p : Place). names_leaf p n ≡ true) drawn.place names)) (drawn.within above);
  }

  -- drawn rows can all be done
  pub all-fine : (rows : List MarkRow) → All (IsDrawn (level shape) list) rows → All (IsFine shape members) rows
  all-fine rows drawn = All-weaker (IsDrawn (level shape) list) (IsFine shape members) drawn-fine rows drawn

-- rows that can all be done are refused for a full pool alone
pub overfills : (mesh : Mesh) (pool number : ℕ) (old : Names) (rows : List MarkRow) (refusal : RoundRefusal) (fault : Fault) → All (IsFine (shape_of mesh) old) rows →
    IsRoundRefusal (shape_of mesh) (across_in mesh) (whole pool) old rows refusal → round_fault number refusal ≡ Some fault → Overfills mesh pool old number rows fault
overfills mesh pool number old rows (RoundsUsedUp rounds) fault fine cause told = absurd cause
overfills mesh pool number old rows (NotALeaf row) fault fine cause told = absurd (fine-or-refused (shape_of mesh) old rows (NotALeaf row) fine cause)
overfills mesh pool number old rows (LevelTooDeep row deep) fault fine cause told = absurd (fine-or-refused (shape_of mesh) old rows (LevelTooDeep row deep) fine cause)
overfills mesh pool number old rows (PoolFull needed kept room) fault fine cause told = record {
  patches = cause.0;
  needs = cause.1;
  above = let above = cause.2 in omega (arith, above);
  told = sym (ap inside told) ∙ (λ i. full_pool number (cause.3 i) (cause.5 i));
}
  where
    inside : Option Fault → Fault
    inside None = fault
    inside (Some f) = f
overfills mesh pool number old rows Memory fault fine cause told = absurd (none told)
  where
    none : None ≡ Some fault → ⊥
    none q = cc
