-- What is read of a whole file.
use Rattle.std.proofs.Common.{◌≡◌, ℕ, ◌⊎◌, inl, inr, true, false, sym, ap, ◌∙◌, subst, List, arith}
use Rattle.std.specs.Prelude.{Ok}
use Rattle.std.specs.FinSet.{contains}
use Rattle.std.specs.List.Sorted.{IsStrictlySortedBy}
use Rattle.mesh_names.specs.Names.{Name, name_cmp}
use Rattle.mesh_names.specs.Forests.{Has, IsForest}
use Rattle.mesh_names.specs.Partners.{Tells}
use Rattle.mesh_names.specs.Conformity.{HoldsPartners}
use Rattle.mesh_names.proofs.Neighbours.{valid_tells}
use Rattle.mesh_names.proofs.Conforming.{conforms_by_partners}
use Rattle.mesh_names.proofs.Sets.{is_or_not}
use Rattle.macro_file.specs.Meaning.{meaning}
use Rattle.macro_file.specs.Text.{macro_of}
use Rattle.macro_file.specs.declared.text.MacroText.{MacroText}
use Rattle.compat_check.specs.Meshes.{Mesh, across_in, shape_of}
use Rattle.compat_check.specs.Checks.{IsCheckRefusal}
use Rattle.compat_check.specs.declared.refusal.CheckRefusal.{CheckRefusal}
use Rattle.restart_file.specs.Kept.{IsKept, set_of}
use Rattle.restart_file.specs.Files.{IsPart, IsRestart, with_part}
use Rattle.restart_file.specs.Refusals.{AreLow, HasPart, IsRestartRefusal}
use Rattle.restart_file.specs.Joined.{KeepsForest}
use Rattle.restart_file.specs.Parts.{AreLinesRead, HoldsAllPartners, IsPartRefusal, TellsCheck}
use Rattle.restart_file.specs.declared.refusal.RestartRefusal.{RestartRefusal}
use Rattle.restart_file.specs.declared.refusal.RestartRefusal.TheVariants.{BadHead, MacroShort, Macro, Check, BadWord, TooDeep, LeftOver, NotConforming, Memory}
use Rattle.restart_file.proofs.TreeMembers.{members_sorted, trees_forest}

-- ---- the macro part
pub text_refused : (part : List ℕ) (text : MacroText) (refusal : CheckRefusal) (told : RestartRefusal) → meaning part ≡ Ok (macro_of text) → IsCheckRefusal text refusal → TellsCheck refusal told → IsPartRefusal part told
text_refused part text refusal (Check r) read fault t = record { text = text; read = read; fault = subst (λ (x : CheckRefusal). IsCheckRefusal text x) (sym t.0) fault; cause = λ e. t.1 (sym t.0 ∙ e) }
text_refused part text refusal Memory read fault t = tt
text_refused part text refusal BadHead read fault t = absurd t
text_refused part text refusal (MacroShort w f) read fault t = absurd t
text_refused part text refusal (Macro x) read fault t = absurd t
text_refused part text refusal (BadWord x) read fault t = absurd t
text_refused part text refusal (TooDeep x) read fault t = absurd t
text_refused part text refusal LeftOver read fault t = absurd t
text_refused part text refusal (NotConforming x) read fault t = absurd t

pub part_refused : (bytes part rest : List ℕ) (refusal : RestartRefusal) → HasPart bytes part rest → IsPartRefusal part refusal → IsRestartRefusal bytes refusal
part_refused bytes part rest (Macro r) has h = record { part = part; rest = rest; has = has; read = h.0; cause = h.1 }
part_refused bytes part rest (Check r) has h = record { part = part; rest = rest; has = has; text = h.text; read = h.read; fault = h.fault; cause = h.cause }
part_refused bytes part rest Memory has h = tt
part_refused bytes part rest BadHead has h = absurd h
part_refused bytes part rest (MacroShort w f) has h = absurd h
part_refused bytes part rest (BadWord x) has h = absurd h
part_refused bytes part rest (TooDeep x) has h = absurd h
part_refused bytes part rest LeftOver has h = absurd h
part_refused bytes part rest (NotConforming x) has h = absurd h

-- ---- the members
module _ (mesh : Mesh) (bytes : List ℕ) (members : List Name) (are : AreLinesRead mesh bytes members) where
  pub in_order : IsStrictlySortedBy name_cmp members
  in_order = subst (λ (l : List Name). IsStrictlySortedBy name_cmp l) (sym are.members_are) (members_sorted are.trees 0)

  pub is_forest : IsForest (shape_of mesh) (set_of members)
  is_forest = let e = are.each in subst (λ (l : List Name). IsForest (shape_of mesh) (set_of l)) (sym are.members_are)
      (trees_forest (shape_of mesh) are.trees (omega arith) (subst (λ (l : List Name). AreLow mesh l) are.members_are are.low))

  pub is_kept : (part : List ℕ) → IsPart part mesh → HoldsAllPartners (across_in mesh) (set_of members) → IsKept (shape_of mesh) members
  is_kept part is_part holds =
      let tells : Tells (shape_of mesh) (across_in mesh) = valid_tells (shape_of mesh) is_part.checked.valid is_part.checked.compatible.graded in
      record {
        in_order = in_order;
        forest = is_forest;
        conforms = (conforms_by_partners (shape_of mesh) (across_in mesh) tells (set_of members) is_forest).1 partners;
      }
    where
      partners : HoldsPartners (across_in mesh) (set_of members)
      partners r w m t h e = by (is_or_not (contains (set_of members) m))
        where
          by : (contains (set_of members) m ≡ true) ⊎ (contains (set_of members) m ≡ false) → Has (set_of members) m
          by (inl i) = i
          by (inr o) = absurd (holds (r, w) h (m, t, e, o))

pub accepted : (bytes part copied rest : List ℕ) (mesh : Mesh) (members : List Name) → copied ≡ part → HasPart bytes part rest → IsPart part mesh → AreLinesRead mesh rest members → HoldsAllPartners (across_in mesh) (set_of members) → IsRestart bytes copied mesh members
accepted bytes part copied rest mesh members e has is_part are holds = subst (λ (p : List ℕ). IsRestart bytes p mesh members) (sym e) (record {
  is_part = is_part;
  trees = are.trees;
  each = are.each;
  bytes_are = has.bytes_are ∙ ap (with_part part) are.bytes_are;
  members_are = are.members_are;
  kept = is_kept mesh rest members are part is_part holds;
})

pub keeps : (bytes part copied rest : List ℕ) (mesh : Mesh) (members : List Name) → copied ≡ part → HasPart bytes part rest → IsPart part mesh → AreLinesRead mesh rest members → HoldsAllPartners (across_in mesh) (set_of members) → KeepsForest copied mesh members
keeps bytes part copied rest mesh members e has is_part are holds =
    let r = accepted bytes part copied rest mesh members e has is_part are holds in record { is_part = r.is_part; kept = r.kept }
