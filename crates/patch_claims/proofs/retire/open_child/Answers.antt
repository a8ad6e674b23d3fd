use Rattle.std.proofs.Common.{◌≡◌, ℕ, ◌≤◌, ◌∷◌, sym, ap, ◌∙◌, subst, arith}
use Rattle.std.specs.Prelude.{IfErr, IfOk}
use Rattle.compat_check.specs.Meshes.{shape_of}
use Rattle.table_words.specs.Entries.{HasEntry}
use Rattle.table_words.specs.NameWords.{name_code}
use Rattle.mesh_table.specs.SecondHalf.{IsOld}
use Rattle.mesh_table.specs.Sights.{setup_at}
use Rattle.mesh_table.specs.Told.{sight}
use Rattle.patch_walk.proofs.Names.{child_named, child_number, child_low}
use Rattle.patch_claims.specs.Retired.{IsUndead}
use Rattle.patch_claims.proofs.retire.open_child.Goals as goal

pub open_at-requires-clause-place : goal.open_at-requires-clause-place
open_at-requires-clause-place c = (c.requires.block, child_low c.args.second c.args.side)

pub open_at-requires-clause-stood : goal.open_at-requires-clause-stood
open_at-requires-clause-stood c =
    let low = c.requires.level in
    let code : (setup_at c.args.table.now.site).child (name_code c.args.name) c.args.side ≡ name_code c.child_at.result = child_named (shape_of c.args.table.now.site.mesh.now) c.args.name c.args.side (omega arith) low c.requires.root ∙ ap name_code (sym c.child_at.ensures) in
    subst (λ (p : ℕ × ℕ). HasEntry (sight c.args.pass.now).work.stood p) (λ i. (child_number c.args.table.now.site.layout.elements c.args.block c.args.second c.args.side i, code i)) c.requires.stood

pub open_at-requires-clause-old : goal.open_at-requires-clause-old
open_at-requires-clause-old c =
    let low = c.requires.level in
    let code : (setup_at c.args.table.now.site).child (name_code c.args.name) c.args.side ≡ name_code c.child_at.result = child_named (shape_of c.args.table.now.site.mesh.now) c.args.name c.args.side (omega arith) low c.requires.root ∙ ap name_code (sym c.child_at.ensures) in
    subst (λ (k : ℕ). HasEntry (sight c.args.pass.now).work.plan.target k → IsOld (sight c.args.pass.now) k) code (c.requires.old c.args.side)

pub returns-clause-open_ : goal.returns-clause-open_
returns-clause-open_ c =
    let low = c.requires.level in
    let code : (setup_at c.args.table.now.site).child (name_code c.args.name) c.args.side ≡ name_code c.child_at.result = child_named (shape_of c.args.table.now.site.mesh.now) c.args.name c.args.side (omega arith) low c.requires.root ∙ ap name_code (sym c.child_at.ensures) in
    subst (λ (k : ℕ). IfOk c.open_at.result (λ _. HasEntry (sight c.open_at.new.pass).work.open_ k)) (sym code) c.open_at.ensures.open_

pub returns-clause-deeper : goal.returns-clause-deeper
returns-clause-deeper c =
    let low = c.requires.level in
    let code : (setup_at c.args.table.now.site).child (name_code c.args.name) c.args.side ≡ name_code c.child_at.result = child_named (shape_of c.args.table.now.site.mesh.now) c.args.name c.args.side (omega arith) low c.requires.root ∙ ap name_code (sym c.child_at.ensures) in
    subst (λ (k : ℕ). IfErr c.open_at.result (IsUndead (sight c.args.pass.now) (sight c.open_at.new.pass) k)) (sym code) c.open_at.ensures.deeper
