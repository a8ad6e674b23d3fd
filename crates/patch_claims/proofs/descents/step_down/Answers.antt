use Rattle.std.proofs.Common.{ℕ, [], refl, subst, arith}
use Rattle.compat_check.specs.Meshes.{shape_of}
use Rattle.table_words.specs.Entries.{HasEntry}
use Rattle.table_words.specs.NameWords.{name_code}
use Rattle.mesh_table.specs.Told.{sight}
use Rattle.patch_walk.proofs.Names.{child_named, child_number, child_low}
use Rattle.patch_claims.proofs.Growing.{published_seen, published_ended}
use Rattle.patch_claims.proofs.descents.step_down.Goals as goal

pub returns-in-None-clause-published : goal.returns-in-None-clause-published
returns-in-None-clause-published c = published_ended (sight c.args.pass.now) (sight c.args.pass.now) (sight c.visit.new.pass) 0 (name_code c.args.name) ([], refl, refl) c.in-None.ensures.ended

pub returns-in-Some-clause-published : goal.returns-in-Some-clause-published
returns-in-Some-clause-published c = published_seen (sight c.args.pass.now) (sight c.args.pass.now) (sight c.visit.new.pass) 0 (name_code c.args.name) ([], refl, refl) c.in-Some.ensures.bisected

pub returns-in-Some-clause-some : goal.returns-in-Some-clause-some
returns-in-Some-clause-some c =
    let e = c.in-Some.ensures.some in
    let b = c.in-Some.block in
    let t = c.in-Some.second in
    let fine = c.requires.level in (
      (e.0, child_low t c.args.side),
      subst (λ (p : ℕ × ℕ). HasEntry (sight c.visit.new.pass).work.found p)
          (λ i. (child_number c.args.table.now.site.layout.elements b t c.args.side i, child_named (shape_of c.args.table.now.site.mesh.now) c.args.name c.args.side (omega arith) fine c.requires.root i)) (e.1.1 c.args.side),
    )
