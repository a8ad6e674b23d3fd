use Rattle.std.proofs.Common.{◌≡◌, ℕ, ◌+◌, ◌<◌, Bool, List, [], ◌∷◌, sym, ap, ◌∙◌, subst, inl, inr, arith}
use Rattle.compat_check.specs.Meshes.{shape_of}
use Rattle.mesh_names.specs.Names.{Name}
use Rattle.mesh_names.specs.Triangles.{level, size}
use Rattle.table_words.specs.Entries.{HasEntry}
use Rattle.table_words.specs.NameWords.{name_code}
use Rattle.mesh_table.specs.Saw.{SawEnd, SawHad}
use Rattle.mesh_table.specs.Told.{sight}
use Rattle.patch_walk.proofs.Above.{parent_level}
use Rattle.patch_walk.proofs.Climbing.{later_one}
use Rattle.patch_walk.proofs.Names.{child_named, child_number, child_low}
use Rattle.patch_walk.proofs.finished.+stand_finished.Goals as goal

pub returns-in-None-stand_finished-clause-none : goal.returns-in-None-stand_finished-clause-none
returns-in-None-stand_finished-clause-none t c =
    let e : c.args.name ≡ (c.in-Some.parent-1-given.0.0.0.0, c.in-Some.parent-1-given.0.0.1 ∷ c.in-Some.parent-1-given.0.0.0.1) = c.in-Some.ensures in
    let h = c.in-None-stand_finished.ensures.none in (
      c.in-Some.parent-1-given.0.0.1 ∷ h.0,
      h.1,
      (λ i. (e i).1) ∙ ap (λ (l : List Bool). c.in-Some.parent-1-given.0.0.1 ∷ l) h.2,
      subst (λ (r : ℕ). HasEntry (sight c.stand_finished.new.pass).work.absent (name_code (r, h.1))) (sym (ap (λ (n : Name). n.0) e)) h.3,
    )

pub returns-in-None-visit_finished-clause-saw : goal.returns-in-None-visit_finished-clause-saw
returns-in-None-visit_finished-clause-saw t c = later_one (sight c.args.pass.now) (sight c.stand_finished.new.pass) (sight c.visit_finished.new.pass) (SawEnd (name_code c.in-Some.parent-1-given.0.0.0)) c.stand_finished.ensures.saw c.in-None-visit_finished.ensures.saw

pub returns-in-None-visit_finished-clause-none : goal.returns-in-None-visit_finished-clause-none
returns-in-None-visit_finished-clause-none t c =
    let e : c.args.name ≡ (c.in-Some.parent-1-given.0.0.0.0, c.in-Some.parent-1-given.0.0.1 ∷ c.in-Some.parent-1-given.0.0.0.1) = c.in-Some.ensures in (
      c.in-Some.parent-1-given.0.0.1 ∷ [],
      c.in-Some.parent-1-given.0.0.0.1,
      (λ i. (e i).1),
      subst (λ (r : ℕ). HasEntry (sight c.visit_finished.new.pass).work.absent (name_code (r, c.in-Some.parent-1-given.0.0.0.1))) (sym (ap (λ (n : Name). n.0) e)) c.in-None-visit_finished.ensures.none,
    )

pub returns-in-Some-visit_finished-clause-saw : goal.returns-in-Some-visit_finished-clause-saw
returns-in-Some-visit_finished-clause-saw t c = later_one (sight c.args.pass.now) (sight c.stand_finished.new.pass) (sight c.visit_finished.new.pass) (SawHad (name_code c.in-Some.parent-1-given.0.0.0)) c.stand_finished.ensures.saw c.in-Some-visit_finished.ensures.saw

pub returns-in-Some-visit_finished-clause-some : goal.returns-in-Some-visit_finished-clause-some
returns-in-Some-visit_finished-clause-some t c =
    let e : c.args.name ≡ (c.in-Some.parent-1-given.0.0.0.0, c.in-Some.parent-1-given.0.0.1 ∷ c.in-Some.parent-1-given.0.0.0.1) = c.in-Some.ensures in
    let l : level (shape_of c.args.table.now.site.mesh.now) c.args.name ≡ level (shape_of c.args.table.now.site.mesh.now) c.in-Some.parent-1-given.0.0.0 + 1 = parent_level (shape_of c.args.table.now.site.mesh.now) c.args.name c.in-Some.parent-1-given.0.0.0 c.in-Some.parent-1-given.0.0.1 e in
    let low = c.requires.level in
    let r : c.in-Some.parent-1-given.0.0.0.0 < size (shape_of c.args.table.now.site.mesh.now) = subst (λ (n : Name). n.0 < size (shape_of c.args.table.now.site.mesh.now)) e c.requires.root in
    let had = c.in-Some-visit_finished.ensures.some in
    let b = c.in-Some-visit_finished.block in
    let side = c.in-Some-visit_finished.second in (
      (had.0, child_low side c.in-Some.parent-1-given.0.0.1),
      (
        c.visit_finished.ensures.keeps.kind ∙ c.stand_finished.ensures.keeps.kind ∙ c.requires.works.0,
        inr (inl (subst (λ (p : ℕ × ℕ). HasEntry (sight c.visit_finished.new.pass).work.stood p)
            (λ i. (child_number c.args.table.now.site.layout.elements b side c.in-Some.parent-1-given.0.0.1 i, (child_named (shape_of c.args.table.now.site.mesh.now) c.in-Some.parent-1-given.0.0.0 c.in-Some.parent-1-given.0.0.1 (omega arith) (omega arith) r ∙ ap name_code (sym e)) i)) (had.1.1 c.in-Some.parent-1-given.0.0.1))),
      ),
    )
