use Rattle.std.proofs.Common.{sym, ◌∙◌, subst}
use Rattle.compat_check.specs.Meshes.{shape_of, across_in}
use Rattle.compat_check.specs.declared.mesh.MacroMesh.{MacroMesh}
use Rattle.mesh_names.specs.Partners.{Tells}
use Rattle.table_words.specs.Places.{place_number}
use Rattle.mesh_table.specs.Told.{sight}
use Rattle.patch_claims.proofs.Owning.{may_first, may_second, mate_first, mate_second, two}
use Rattle.patch_claims.proofs.needs.take_one.Goals as goal

pub take_pair-requires-clause-may : goal.take_pair-requires-clause-may
take_pair-requires-clause-may g c =
    let l = c.args.table.now.site.layout in
    let tells = subst (λ (m : MacroMesh). Tells (shape_of m) (across_in m)) c.mesh.ensures c.element_count-count.ensures.tells in
    may_first c.args.table.now.site tells (sight c.args.pass.now) (place_number l c.args.at) (place_number l c.args.beside) c.args.name c.args.other c.requires.root c.requires.level c.requires.partner c.requires.works c.requires.found c.requires.mate c.requires.absent (sym c.lt.ensures ∙ c.if-lt.true) c.requires.aimed

pub take_pair-requires-clause-seconds : goal.take_pair-requires-clause-seconds
take_pair-requires-clause-seconds g c =
    let l = c.args.table.now.site.layout in
    let tells = subst (λ (m : MacroMesh). Tells (shape_of m) (across_in m)) c.mesh.ensures c.element_count-count.ensures.tells in
    mate_first c.args.table.now.site tells (sight c.args.pass.now) (place_number l c.args.at) (place_number l c.args.beside) c.args.name c.args.other c.requires.root c.requires.level c.requires.partner c.requires.works c.requires.found c.requires.mate c.requires.absent (sym c.lt.ensures ∙ c.if-lt.true)

pub take_pair-requires-clause-two : goal.take_pair-requires-clause-two
take_pair-requires-clause-two g c =
    let l = c.args.table.now.site.layout in
    let tells = subst (λ (m : MacroMesh). Tells (shape_of m) (across_in m)) c.mesh.ensures c.element_count-count.ensures.tells in
    two c.args.table.now.site tells (sight c.args.pass.now) (place_number l c.args.at) (place_number l c.args.beside) c.args.name c.args.other c.requires.root c.requires.level c.requires.partner c.requires.works c.requires.found c.requires.mate c.requires.absent

pub take_pair-requires-else-lt-clause-may : goal.take_pair-requires-else-lt-clause-may
take_pair-requires-else-lt-clause-may g c =
    let l = c.args.table.now.site.layout in
    let tells = subst (λ (m : MacroMesh). Tells (shape_of m) (across_in m)) c.mesh.ensures c.element_count-count.ensures.tells in
    may_second c.args.table.now.site tells (sight c.args.pass.now) (place_number l c.args.at) (place_number l c.args.beside) c.args.name c.args.other c.requires.root c.requires.level c.requires.partner c.requires.works c.requires.found c.requires.mate c.requires.absent (sym c.lt.ensures ∙ c.if-lt.false) c.requires.aims

pub take_pair-requires-else-lt-clause-seconds : goal.take_pair-requires-else-lt-clause-seconds
take_pair-requires-else-lt-clause-seconds g c =
    let l = c.args.table.now.site.layout in
    let tells = subst (λ (m : MacroMesh). Tells (shape_of m) (across_in m)) c.mesh.ensures c.element_count-count.ensures.tells in
    mate_second c.args.table.now.site tells (sight c.args.pass.now) (place_number l c.args.at) (place_number l c.args.beside) c.args.name c.args.other c.requires.root c.requires.level c.requires.partner c.requires.works c.requires.found c.requires.mate c.requires.absent (sym c.lt.ensures ∙ c.if-lt.false)

pub take_pair-requires-else-lt-clause-two : goal.take_pair-requires-else-lt-clause-two
take_pair-requires-else-lt-clause-two g c same =
    let l = c.args.table.now.site.layout in
    let tells = subst (λ (m : MacroMesh). Tells (shape_of m) (across_in m)) c.mesh.ensures c.element_count-count.ensures.tells in
    two c.args.table.now.site tells (sight c.args.pass.now) (place_number l c.args.at) (place_number l c.args.beside) c.args.name c.args.other c.requires.root c.requires.level c.requires.partner c.requires.works c.requires.found c.requires.mate c.requires.absent (sym same)
