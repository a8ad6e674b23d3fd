use Rattle.std.proofs.Common.{sym, subst, List}
use Rattle.std.proofs.lemmas.Result.{err_from_is_err_and}
use Rattle.std.specs.List.Sorted.{IsStrictlySortedBy}
use Rattle.mesh_names.specs.Names.{Name, name_cmp}
use Rattle.mesh_names.specs.Forests.{IsForest}
use Rattle.compat_check.specs.Meshes.{across_in, shape_of}
use Rattle.restart_file.specs.Kept.{set_of}
use Rattle.restart_file.specs.Parts.{HoldsAllPartners}
use Rattle.restart_file.proofs.Accepting.{accepted, keeps, in_order, is_forest, part_refused}
use Rattle.restart_file.proofs.reading.read_restart.Goals as goal

pub returns-in_err-mesh-clause-refused : goal.returns-in_err-mesh-clause-refused
returns-in_err-mesh-clause-refused c =
    let p = err_from_is_err_and c.from_residual-in_err-mesh.result c.from_residual-in_err-mesh.ensures.1 in
    rw (p.1, p.2) (part_refused c.args.bytes.now c.in_ok-part.part.now c.in_ok-part.rest.now c.in_err-mesh.field-0.0 c.in_ok-part.ensures.ok c.in_err-mesh.ensures.refused)

pub first_alone-requires-clause-in_order : goal.first_alone-requires-clause-in_order
first_alone-requires-clause-in_order c = subst (λ (l : List Name). IsStrictlySortedBy name_cmp l) (sym c.deref.ensures.value) (in_order c.in_ok-mesh.mesh c.in_ok-part.rest.now c.in_ok-members.members.items c.in_ok-members.ensures.ok)

pub first_alone-requires-clause-forest : goal.first_alone-requires-clause-forest
first_alone-requires-clause-forest c = subst (λ (l : List Name). IsForest (shape_of c.in_ok-mesh.mesh) (set_of l)) (sym c.deref.ensures.value) (is_forest c.in_ok-mesh.mesh c.in_ok-part.rest.now c.in_ok-members.members.items c.in_ok-members.ensures.ok)

pub returns-clause-ok : goal.returns-clause-ok
returns-clause-ok c =
    let holds = subst (λ (l : List Name). HoldsAllPartners (across_in c.in_ok-mesh.mesh) (set_of l)) c.deref.ensures.value c.in_default.ensures in
    accepted c.args.bytes.now c.in_ok-part.part.now c.in_ok-macro_bytes.macro_bytes.items c.in_ok-part.rest.now c.in_ok-mesh.mesh c.in_ok-members.members.items c.in_ok-macro_bytes.ensures.items c.in_ok-part.ensures.ok c.in_ok-mesh.ensures.ok c.in_ok-members.ensures.ok holds

pub returns-clause-keeps : goal.returns-clause-keeps
returns-clause-keeps c =
    let holds = subst (λ (l : List Name). HoldsAllPartners (across_in c.in_ok-mesh.mesh) (set_of l)) c.deref.ensures.value c.in_default.ensures in
    keeps c.args.bytes.now c.in_ok-part.part.now c.in_ok-macro_bytes.macro_bytes.items c.in_ok-part.rest.now c.in_ok-mesh.mesh c.in_ok-members.members.items c.in_ok-macro_bytes.ensures.items c.in_ok-part.ensures.ok c.in_ok-mesh.ensures.ok c.in_ok-members.ensures.ok holds
