use Rattle.std.proofs.Common.{◌≡◌, ◌-◌, ◌/◌, ◌^◌, eqb, ◌∷◌, length, sym, ap, ◌∙◌, subst, arith}
use Rattle.compat_check.specs.Meshes.{shape_of}
use Rattle.mesh_names.specs.Letters.{length-letters}
use Rattle.mesh_names.specs.Names.{Name, bits_of, depth}
use lib.Bits.{bit_and}
use Rattle.table_words.specs.Entries.{HasEntry}
use Rattle.table_words.specs.NameWords.{name_code}
use Rattle.table_words.specs.Places.{place_number}
use Rattle.mesh_table.specs.Told.{sight}
use Rattle.mesh_names.specs.Triangles.{grade_of}
use Rattle.patch_claims.proofs.Growing.{published_more}
use Rattle.patch_claims.proofs.Letters.{next_letter}
use Rattle.patch_walk.proofs.Learning.{more}
use Rattle.patch_claims.proofs.descents.descend.Goals as goal

pub step_down-requires-clause-level : goal.step_down-requires-clause-level
step_down-requires-clause-level c =
    let a = c.loop-depth.invariant.above in
    let mesh = shape_of c.args.table.now.site.mesh.now in
    let grade : grade_of mesh c.loop-depth.above.0 ≡ grade_of mesh c.args.name.0 = ap (λ (n : Name). grade_of mesh n.0) a in
    let long : length c.loop-depth.above.1 ≡ c.loop-depth.depth = ap (λ (n : Name). length n.1) a ∙ length-letters c.loop-depth.depth _ in
    let end = c.depth-depth-end.ensures.depth in
    let test = c.loop-depth-test.true in
    let fine = c.requires.level in
    omega arith

pub child_at-above-requires : goal.child_at-above-requires
child_at-above-requires c =
    let a = c.loop-depth.invariant.above in
    let long : length c.loop-depth.above.1 ≡ c.loop-depth.depth = ap (λ (n : Name). length n.1) a ∙ length-letters c.loop-depth.depth _ in
    let end = c.depth-depth-end.ensures in
    let test = c.loop-depth-test.true in
    omega arith

pub loop-depth-preserved : goal.loop-depth-preserved
loop-depth-preserved c =
    let e = c.child_at-above.ensures in
    let a = c.loop-depth.invariant.above in
    let o = c.in_ok-at.ensures.some in
    let d = c.step_down.ensures in
    let end = c.depth-depth-end.ensures.depth in
    let test = c.loop-depth-test.true in
    let bits : c.bits.result ≡ bits_of c.args.name.1 = c.bits.ensures.bits in
    let deep : c.depth.result ≡ depth c.args.name = c.depth.ensures.depth in
    let i = c.loop-depth.depth in
    record {
      stays = (d.stays.0 ∙ c.loop-depth.invariant.stays.0, d.stays.1 ∙ c.loop-depth.invariant.stays.1, d.stays.2 ∙ c.loop-depth.invariant.stays.2);
      wiser = more c.loop-depth.invariant.wiser d.wiser;
      published = published_more (sight c.args.pass.now) (sight c.loop-depth.pass) (sight c.step_down.new.pass) 0 0 c.loop-depth.invariant.published d.published;
      place = o.0;
      above = e ∙ (λ t. ((a t).0, eqb (bit_and (bits t / 2 ^ (deep t - 1 - i)) 1) 1 ∷ (a t).1)) ∙ (λ t. (c.args.name.0, next_letter (bits_of c.args.name.1) (depth c.args.name) i (omega arith) t));
      found = subst (λ (n : Name). HasEntry (sight c.step_down.new.pass).work.found (place_number c.args.table.now.site.layout c.in_ok-at.at, name_code n)) (sym e) o.1;
    }

pub returns-in_err-at-clause-published : goal.returns-in_err-at-clause-published
returns-in_err-at-clause-published c = published_more (sight c.args.pass.now) (sight c.loop-depth.pass) (sight c.step_down.new.pass) 0 0 c.loop-depth.invariant.published c.step_down.ensures.published
