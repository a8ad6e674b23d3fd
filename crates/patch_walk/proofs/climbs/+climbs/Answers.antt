use Rattle.std.proofs.Common.{◌≡◌, ℕ, ◌+◌, ◌<◌, Bool, List, [], ◌∷◌, Option, Some, None, option_map, refl, sym, ap, ◌∙◌, subst, arith}
use Rattle.compat_check.specs.Meshes.{shape_of, across_in}
use Rattle.compat_check.specs.declared.mesh.MacroMesh.{MacroMesh}
use Rattle.mesh_names.specs.Chains.{chain_of}
use Rattle.mesh_names.specs.Forests.{Has}
use Rattle.mesh_names.specs.Names.{Name}
use Rattle.mesh_names.specs.Partners.{Tells, partner}
use Rattle.mesh_names.specs.Triangles.{level, size}
use Rattle.table_words.specs.Entries.{HasEntry}
use Rattle.table_words.specs.NameWords.{name_code}
use Rattle.mesh_table.specs.Told.{sight}
use Rattle.patch_walk.proofs.Names.{child_named, child_number, child_low}
use Rattle.patch_walk.proofs.Above.{Below, below_chain, below_other, other_of, parent_level}
use Rattle.patch_walk.proofs.Learning.{works_more, wiser_works}
use Rattle.mesh_table.specs.Saw.{SawEnd, SawBisected}
use Rattle.patch_walk.specs.Tops.{ParentKnown}
use Rattle.patch_walk.proofs.Climbing.{later_more, later_one, top_after, no_partner, same_partner, ended_one, ended_more}
use Rattle.patch_walk.proofs.Patches.{chain_self}
use Rattle.patch_walk.proofs.climbs.+climbs.Goals as goal

pub climb_to-returns-in-Err-clause-top : goal.climb_to-returns-in-Err-clause-top
climb_to-returns-in-Err-clause-top t c = top_after (across_in c.args.table.now.site.mesh.now) (Below (shape_of c.args.table.now.site.mesh.now) (across_in c.args.table.now.site.mesh.now) c.args.name) (Has (chain_of (shape_of c.args.table.now.site.mesh.now) (across_in c.args.table.now.site.mesh.now) c.args.name)) (sight c.args.pass.now) (sight c.args.pass.now) (sight c.reach.new.pass) c.in-Err.top (below_chain (shape_of c.args.table.now.site.mesh.now) (across_in c.args.table.now.site.mesh.now) (subst (λ (m : MacroMesh). Tells (shape_of m) (across_in m)) c.mesh.ensures c.element_count-count.ensures.tells) c.args.name c.requires.root) ([], refl) c.in-Err.ensures.top

pub climb_to-returns-in-Some-clause-saw : goal.climb_to-returns-in-Some-clause-saw
climb_to-returns-in-Some-clause-saw t c = later_one (sight c.args.pass.now) (sight c.reach.new.pass) (sight c.visit.new.pass) (SawBisected (name_code c.args.name)) c.reach.ensures.saw c.in-Some.ensures.bisected

pub climb_to-returns-in_default-partner-clause-saw : goal.climb_to-returns-in_default-partner-clause-saw
climb_to-returns-in_default-partner-clause-saw t c = (later_one (sight c.args.pass.now) (sight c.reach.new.pass) (sight c.visit.new.pass) (SawEnd (name_code c.args.name)) c.reach.ensures.saw c.in_default.ensures.ended)

pub climb_to-returns-in_default-partner-clause-top : goal.climb_to-returns-in_default-partner-clause-top
climb_to-returns-in_default-partner-clause-top t c = record { needed = (chain_self (shape_of c.args.table.now.site.mesh.now) (across_in c.args.table.now.site.mesh.now) (subst (λ (m : MacroMesh). Tells (shape_of m) (across_in m)) c.mesh.ensures c.element_count-count.ensures.tells) c.args.name c.requires.root); ended = ended_one (sight c.args.pass.now) (sight c.reach.new.pass) (sight c.visit.new.pass) c.args.name c.reach.ensures.saw c.in_default.ensures.ended; parent = λ b w e. c.visit.ensures.wiser.known _ (c.in-Ok.ensures.at.2 b w e); partner_parent = λ o s e. absurd (no_partner (partner (across_in c.args.table.now.site.mesh.now) c.args.name.0 c.args.name.1) o s (subst (λ (m : MacroMesh). ◌≡◌ {A = Option Name} None (option_map (λ (a : Name × Bool). a.0) (partner (across_in m) c.args.name.0 c.args.name.1))) c.mesh-2.ensures (sym c.in_default-partner.is ∙ c.partner.ensures.partner)) e) }

pub climb_to-reach-requires-2 : goal.climb_to-reach-requires-2
climb_to-reach-requires-2 t c = let o = (other_of (shape_of c.args.table.now.site.mesh.now) (across_in c.args.table.now.site.mesh.now) (subst (λ (m : MacroMesh). Tells (shape_of m) (across_in m)) c.mesh.ensures c.element_count-count.ensures.tells) c.args.name c.requires.root c.in-Some-partner.other (subst (λ (m : MacroMesh). Some c.in-Some-partner.other ≡ option_map (λ (a : Name × Bool). a.0) (partner (across_in m) c.args.name.0 c.args.name.1)) c.mesh-2.ensures (sym c.in-Some-partner.is ∙ c.partner.ensures.partner))) in
    let ol : level (shape_of c.args.table.now.site.mesh.now) c.in-Some-partner.other ≡ level (shape_of c.args.table.now.site.mesh.now) c.args.name = o.1 in
    let low = c.requires.level in
    let d = c.decreases in
    (omega arith, ((c.visit.ensures.stays.0 ∙ c.reach.ensures.stays.0 ∙ c.requires.fit.0, c.visit.ensures.stays.2 ∙ c.reach.ensures.stays.2 ∙ c.requires.fit.1), (c.visit.ensures.wiser.kind ∙ c.reach.ensures.works.kind ∙ c.requires.works, (c.visit.ensures.wiser.half ∙ c.reach.ensures.works.half ∙ c.requires.half, (c.visit.ensures.wiser.round ∙ c.reach.ensures.works.round ∙ c.requires.round, (o.0, omega arith))))))

pub climb_to-returns-in-Err-reach-clause-works : goal.climb_to-returns-in-Err-reach-clause-works
climb_to-returns-in-Err-reach-clause-works t c = works_more (works_more c.reach.ensures.works (wiser_works c.visit.ensures.wiser)) c.reach-2.ensures.works

pub climb_to-returns-in-Err-reach-clause-saw : goal.climb_to-returns-in-Err-reach-clause-saw
climb_to-returns-in-Err-reach-clause-saw t c = (later_more (sight c.args.pass.now) (sight c.visit.new.pass) (sight c.reach-2.new.pass) (later_one (sight c.args.pass.now) (sight c.reach.new.pass) (sight c.visit.new.pass) (SawEnd (name_code c.args.name)) c.reach.ensures.saw c.in_default.ensures.ended) c.reach-2.ensures.saw)

pub climb_to-returns-in-Err-reach-clause-top : goal.climb_to-returns-in-Err-reach-clause-top
climb_to-returns-in-Err-reach-clause-top t c = top_after (across_in c.args.table.now.site.mesh.now) (Below (shape_of c.args.table.now.site.mesh.now) (across_in c.args.table.now.site.mesh.now) c.in-Some-partner.other) (Has (chain_of (shape_of c.args.table.now.site.mesh.now) (across_in c.args.table.now.site.mesh.now) c.args.name)) (sight c.args.pass.now) (sight c.visit.new.pass) (sight c.reach-2.new.pass) c.in-Err-reach.top (below_other (shape_of c.args.table.now.site.mesh.now) (across_in c.args.table.now.site.mesh.now) (subst (λ (m : MacroMesh). Tells (shape_of m) (across_in m)) c.mesh.ensures c.element_count-count.ensures.tells) c.args.name c.requires.root c.in-Some-partner.other (subst (λ (m : MacroMesh). Some c.in-Some-partner.other ≡ option_map (λ (a : Name × Bool). a.0) (partner (across_in m) c.args.name.0 c.args.name.1)) c.mesh-2.ensures (sym c.in-Some-partner.is ∙ c.partner.ensures.partner))) (later_one (sight c.args.pass.now) (sight c.reach.new.pass) (sight c.visit.new.pass) (SawEnd (name_code c.args.name)) c.reach.ensures.saw c.in_default.ensures.ended) c.in-Err-reach.ensures.top

pub climb_to-returns-in-Ok-reach-clause-works : goal.climb_to-returns-in-Ok-reach-clause-works
climb_to-returns-in-Ok-reach-clause-works t c = works_more (works_more c.reach.ensures.works (wiser_works c.visit.ensures.wiser)) c.reach-2.ensures.works

pub climb_to-returns-in-Ok-reach-clause-saw : goal.climb_to-returns-in-Ok-reach-clause-saw
climb_to-returns-in-Ok-reach-clause-saw t c = (later_more (sight c.args.pass.now) (sight c.visit.new.pass) (sight c.reach-2.new.pass) (later_one (sight c.args.pass.now) (sight c.reach.new.pass) (sight c.visit.new.pass) (SawEnd (name_code c.args.name)) c.reach.ensures.saw c.in_default.ensures.ended) c.reach-2.ensures.saw)

pub climb_to-returns-in-Ok-reach-clause-top : goal.climb_to-returns-in-Ok-reach-clause-top
climb_to-returns-in-Ok-reach-clause-top t c = record { needed = (chain_self (shape_of c.args.table.now.site.mesh.now) (across_in c.args.table.now.site.mesh.now) (subst (λ (m : MacroMesh). Tells (shape_of m) (across_in m)) c.mesh.ensures c.element_count-count.ensures.tells) c.args.name c.requires.root); ended = ended_more (sight c.args.pass.now) (sight c.visit.new.pass) (sight c.reach-2.new.pass) c.args.name (ended_one (sight c.args.pass.now) (sight c.reach.new.pass) (sight c.visit.new.pass) c.args.name c.reach.ensures.saw c.in_default.ensures.ended) c.reach-2.ensures.saw; parent = λ b w e. c.reach-2.ensures.works.known _ (c.visit.ensures.wiser.known _ (c.in-Ok.ensures.at.2 b w e)); partner_parent = λ o s e. subst (ParentKnown (sight c.reach-2.new.pass)) (same_partner (partner (across_in c.args.table.now.site.mesh.now) c.args.name.0 c.args.name.1) c.in-Some-partner.other o s (subst (λ (m : MacroMesh). Some c.in-Some-partner.other ≡ option_map (λ (a : Name × Bool). a.0) (partner (across_in m) c.args.name.0 c.args.name.1)) c.mesh-2.ensures (sym c.in-Some-partner.is ∙ c.partner.ensures.partner)) e) c.in-Ok-reach.ensures.at.2 }

pub reach-returns-in-Ok-clause-at : goal.reach-returns-in-Ok-clause-at
reach-returns-in-Ok-clause-at t c = let e : c.args.name ≡ (c.in-Some.parent-1-given.0.0.0.0, c.in-Some.parent-1-given.0.0.1 ∷ c.in-Some.parent-1-given.0.0.0.1) = c.in-Some.ensures in
    let l : level (shape_of c.args.table.now.site.mesh.now) c.args.name ≡ level (shape_of c.args.table.now.site.mesh.now) c.in-Some.parent-1-given.0.0.0 + 1 = parent_level (shape_of c.args.table.now.site.mesh.now) c.args.name c.in-Some.parent-1-given.0.0.0 c.in-Some.parent-1-given.0.0.1 e in
    let low = c.requires.level in
    let r : c.in-Some.parent-1-given.0.0.0.0 < size (shape_of c.args.table.now.site.mesh.now) = subst (λ (n : Name). n.0 < size (shape_of c.args.table.now.site.mesh.now)) e c.requires.root in
    let made = c.in-Ok.ensures.bisected in
    let b = c.in-Ok.block in
    let side = c.in-Ok.second in (
      (made.0, child_low side c.in-Some.parent-1-given.0.0.1),
      subst (λ (p : ℕ × ℕ). HasEntry (sight c.climb_to.new.pass).work.found p)
          (λ i. (child_number c.args.table.now.site.layout.elements b side c.in-Some.parent-1-given.0.0.1 i, (child_named (shape_of c.args.table.now.site.mesh.now) c.in-Some.parent-1-given.0.0.0 c.in-Some.parent-1-given.0.0.1 (omega arith) (omega arith) r ∙ ap name_code (sym e)) i)) (made.1.1 c.in-Some.parent-1-given.0.0.1),
      subst (ParentKnown (sight c.climb_to.new.pass)) (sym e) (λ q w f. subst (λ (v : List Bool). HasEntry (sight c.climb_to.new.pass).work.known (name_code (c.in-Some.parent-1-given.0.0.0.0, v))) (tail_one c.in-Some.parent-1-given.0.0.1 q c.in-Some.parent-1-given.0.0.0.1 w f) made.1.0),
    )
  where
    tail_one : (x y : Bool) (v w : List Bool) → ◌≡◌ {A = List Bool} (x ∷ v) (y ∷ w) → v ≡ w
    tail_one x y v w f = cc
