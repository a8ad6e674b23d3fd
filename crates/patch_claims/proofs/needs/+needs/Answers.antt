use Rattle.std.proofs.Common.{◌≡◌, ℕ, ◌+◌, ◌^◌, ◌<◌, ◌≤◌, Bool, [], ◌∷◌, Option, Some, None, option_map, inr, refl, sym, ap, ◌∙◌, subst, arith}
use Rattle.compat_check.specs.Meshes.{shape_of, across_in}
use Rattle.compat_check.specs.declared.mesh.MacroMesh.{MacroMesh}
use Rattle.mesh_names.specs.Chains.{chain_of}
use Rattle.mesh_names.specs.Forests.{Has}
use Rattle.mesh_names.specs.Names.{Name}
use Rattle.mesh_names.specs.Partners.{Tells, partner}
use Rattle.mesh_names.specs.Triangles.{level, size}
use Rattle.table_words.specs.Entries.{HasEntry}
use Rattle.table_words.specs.NameWords.{name_code}
use Rattle.table_words.specs.Places.{place_number}
use Rattle.table_words.specs.Views.{Plan}
use Rattle.table_state.specs.Lists.{IsClosed}
use Rattle.mesh_table.specs.Sights.{Sight, setup_at}
use Rattle.mesh_table.specs.Told.{sight}
use Rattle.patch_walk.proofs.Names.{child_named, child_number, child_low}
use Rattle.mesh_table.specs.Lost.{AllLiving}
use Rattle.patch_walk.proofs.Above.{Below, below_chain, below_other, other_of, parent_level, target_up, target_other}
use Rattle.patch_walk.proofs.Learning.{works_more, wiser_works}
use Rattle.patch_claims.proofs.Growing.{published_more, published_seen, published_ended, refused_after, few_more, few_one, few_both, few_fit}
use Rattle.patch_claims.specs.Needs.{HasPublished}
use Rattle.patch_claims.proofs.Listing.{listed_same, seen_list, unclaimed_seen}
use Rattle.patch_claims.proofs.Owning.{may_alone}
use Rattle.patch_walk.proofs.Patches.{chain_self}
use Rattle.std.proofs.lemmas.Nat.{pow_pos}
use Rattle.patch_claims.proofs.needs.+needs.Goals as goal

pub make_bisected-returns-in-Err-clause-refused : goal.make_bisected-returns-in-Err-clause-refused
make_bisected-returns-in-Err-clause-refused g t c = refused_after (across_in c.args.table.now.site.mesh.now) (Below (shape_of c.args.table.now.site.mesh.now) (across_in c.args.table.now.site.mesh.now) c.args.name) (Has (chain_of (shape_of c.args.table.now.site.mesh.now) (across_in c.args.table.now.site.mesh.now) c.args.name)) (sight c.args.pass.now) (sight c.args.pass.now) (sight c.stand.new.pass) c.in-Err.refusal 0 (below_chain (shape_of c.args.table.now.site.mesh.now) (across_in c.args.table.now.site.mesh.now) (subst (λ (m : MacroMesh). Tells (shape_of m) (across_in m)) c.mesh.ensures c.element_count-count.ensures.tells) c.args.name c.requires.root) ([], refl, refl) c.in-Err.ensures.refused

pub make_bisected-returns-in-Some-clause-made : goal.make_bisected-returns-in-Some-clause-made
make_bisected-returns-in-Some-clause-made g t c = (record { room = c.in-Some.ensures.some.0; knows = c.in-Some.ensures.some.1; living = subst AllLiving (sym c.visit.ensures.wiser.claims) c.in-Ok.ensures.stood.0.living; published = published_seen (sight c.args.pass.now) (sight c.stand.new.pass) (sight c.visit.new.pass) c.in-Ok.stood.patches (name_code c.args.name) c.in-Ok.ensures.stood.0.published c.in-Some.ensures.bisected }, few_more (level (shape_of c.args.table.now.site.mesh.now) c.args.name) c.in-Ok.stood.patches c.in-Ok.ensures.stood.1)

pub make_bisected-take_alone-requires-clause-may : goal.make_bisected-take_alone-requires-clause-may
make_bisected-take_alone-requires-clause-may g t c = (may_alone c.args.table.now.site (subst (λ (m : MacroMesh). Tells (shape_of m) (across_in m)) c.mesh.ensures c.element_count-count.ensures.tells) (sight c.visit.new.pass) (place_number c.args.table.now.site.layout c.in-Ok.stood.at) c.args.name c.requires.root c.requires.level (subst (λ (m : MacroMesh). ◌≡◌ {A = Option Name} None (option_map (λ (a : Name × Bool). a.0) (partner (across_in m) c.args.name.0 c.args.name.1))) c.mesh-2.ensures (sym c.in_default-partner.is ∙ c.partner.ensures.partner)) (c.visit.ensures.wiser.kind ∙ c.stand.ensures.works.kind ∙ c.requires.works) (c.visit.ensures.wiser.found _ c.in-Ok.ensures.stood.0.found) c.in_default.ensures.none (subst (λ (p : Plan). HasEntry p.target (name_code c.args.name)) (sym (c.visit.ensures.wiser.plan ∙ c.stand.ensures.works.plan)) c.requires.aimed)).0

pub make_bisected-returns-in-Err-take_alone-clause-refused : goal.make_bisected-returns-in-Err-take_alone-clause-refused
make_bisected-returns-in-Err-take_alone-clause-refused g t c = refused_after (across_in c.args.table.now.site.mesh.now) (λ m. m ≡ c.args.name) (Has (chain_of (shape_of c.args.table.now.site.mesh.now) (across_in c.args.table.now.site.mesh.now) c.args.name)) (sight c.args.pass.now) (sight c.visit.new.pass) (sight c.take_alone.new.pass) c.in-Err-take_alone.refusal c.in-Ok.stood.patches (λ m same. subst (Has (chain_of (shape_of c.args.table.now.site.mesh.now) (across_in c.args.table.now.site.mesh.now) c.args.name)) (sym same) (chain_self (shape_of c.args.table.now.site.mesh.now) (across_in c.args.table.now.site.mesh.now) (subst (λ (m : MacroMesh). Tells (shape_of m) (across_in m)) c.mesh.ensures c.element_count-count.ensures.tells) c.args.name c.requires.root)) (published_ended (sight c.args.pass.now) (sight c.stand.new.pass) (sight c.visit.new.pass) c.in-Ok.stood.patches (name_code c.args.name) c.in-Ok.ensures.stood.0.published c.in_default.ensures.ended) c.in-Err-take_alone.ensures.refused

pub make_bisected-returns-in-Ok-take_alone-clause-made : goal.make_bisected-returns-in-Ok-take_alone-clause-made
make_bisected-returns-in-Ok-take_alone-clause-made g t c = (record { room = c.in-Ok-take_alone.ensures.made.0.room; knows = c.in-Ok-take_alone.ensures.made.0.knows; living = c.in-Ok-take_alone.ensures.made.0.living; published = published_more (sight c.args.pass.now) (sight c.visit.new.pass) (sight c.take_alone.new.pass) c.in-Ok.stood.patches c.in-Ok-take_alone.made.patches (published_ended (sight c.args.pass.now) (sight c.stand.new.pass) (sight c.visit.new.pass) c.in-Ok.stood.patches (name_code c.args.name) c.in-Ok.ensures.stood.0.published c.in_default.ensures.ended) c.in-Ok-take_alone.ensures.made.0.published }, few_one (level (shape_of c.args.table.now.site.mesh.now) c.args.name) c.in-Ok.stood.patches c.in-Ok-take_alone.made.patches c.in-Ok.ensures.stood.1 c.in-Ok-take_alone.ensures.made.1)

pub make_bisected-stand-requires-2 : goal.make_bisected-stand-requires-2
make_bisected-stand-requires-2 g t c κs within = let o = (other_of (shape_of c.args.table.now.site.mesh.now) (across_in c.args.table.now.site.mesh.now) (subst (λ (m : MacroMesh). Tells (shape_of m) (across_in m)) c.mesh.ensures c.element_count-count.ensures.tells) c.args.name c.requires.root c.in-Some-partner.other (subst (λ (m : MacroMesh). Some c.in-Some-partner.other ≡ option_map (λ (a : Name × Bool). a.0) (partner (across_in m) c.args.name.0 c.args.name.1)) c.mesh-2.ensures (sym c.in-Some-partner.is ∙ c.partner.ensures.partner))) in
    let ol : level (shape_of c.args.table.now.site.mesh.now) c.in-Some-partner.other ≡ level (shape_of c.args.table.now.site.mesh.now) c.args.name = o.1 in
    let low = c.requires.level in
    let d = c.decreases in
    (omega arith, (within, ((c.visit.ensures.stays.0 ∙ c.stand.ensures.stays.0 ∙ c.requires.fit.0, c.visit.ensures.stays.2 ∙ c.stand.ensures.stays.2 ∙ c.requires.fit.1), ((c.visit.ensures.wiser.kind ∙ c.stand.ensures.works.kind ∙ c.requires.works), (c.visit.ensures.wiser.half ∙ c.stand.ensures.works.half ∙ c.requires.half, (c.visit.ensures.wiser.round ∙ c.stand.ensures.works.round ∙ c.requires.round, (o.0, (omega arith, (subst (λ (p : Plan). HasEntry p.target (name_code c.in-Some-partner.other)) (sym (c.visit.ensures.wiser.plan ∙ c.stand.ensures.works.plan)) (target_other c.args.table.now.site (sight c.args.pass.now).work.plan.target c.requires.closed c.args.name (subst (λ (m : MacroMesh). Tells (shape_of m) (across_in m)) c.mesh.ensures c.element_count-count.ensures.tells) c.in-Some-partner.other c.requires.root c.requires.level (subst (λ (m : MacroMesh). Some c.in-Some-partner.other ≡ option_map (λ (a : Name × Bool). a.0) (partner (across_in m) c.args.name.0 c.args.name.1)) c.mesh-2.ensures (sym c.in-Some-partner.is ∙ c.partner.ensures.partner)) c.requires.aimed), (subst (λ (p : Plan). IsClosed (setup_at c.args.table.now.site) (HasEntry p.target)) (sym (c.visit.ensures.wiser.plan ∙ c.stand.ensures.works.plan)) c.requires.closed, (subst AllLiving (sym c.visit.ensures.wiser.claims) c.in-Ok.ensures.stood.0.living, (seen_list c.args.table.now.site (sight c.stand.new.pass) (sight c.visit.new.pass) c.stand.new.published.items c.visit.ensures.wiser c.in-Ok.ensures.listed, subst (λ (n : ℕ). c.args.table.now.site.layout.pool ≤ n) (sym c.stand.ensures.capacity) c.requires.room))))))))))))

pub make_bisected-returns-in-Err-stand-clause-refused : goal.make_bisected-returns-in-Err-stand-clause-refused
make_bisected-returns-in-Err-stand-clause-refused g t c = refused_after (across_in c.args.table.now.site.mesh.now) (Below (shape_of c.args.table.now.site.mesh.now) (across_in c.args.table.now.site.mesh.now) c.in-Some-partner.other) (Has (chain_of (shape_of c.args.table.now.site.mesh.now) (across_in c.args.table.now.site.mesh.now) c.args.name)) (sight c.args.pass.now) (sight c.visit.new.pass) (sight c.stand-2.new.pass) c.in-Err-stand.refusal c.in-Ok.stood.patches (below_other (shape_of c.args.table.now.site.mesh.now) (across_in c.args.table.now.site.mesh.now) (subst (λ (m : MacroMesh). Tells (shape_of m) (across_in m)) c.mesh.ensures c.element_count-count.ensures.tells) c.args.name c.requires.root c.in-Some-partner.other (subst (λ (m : MacroMesh). Some c.in-Some-partner.other ≡ option_map (λ (a : Name × Bool). a.0) (partner (across_in m) c.args.name.0 c.args.name.1)) c.mesh-2.ensures (sym c.in-Some-partner.is ∙ c.partner.ensures.partner))) (published_ended (sight c.args.pass.now) (sight c.stand.new.pass) (sight c.visit.new.pass) c.in-Ok.stood.patches (name_code c.args.name) c.in-Ok.ensures.stood.0.published c.in_default.ensures.ended) c.in-Err-stand.ensures.refused

pub make_bisected-take_beside-requires-clause-partner : goal.make_bisected-take_beside-requires-clause-partner
make_bisected-take_beside-requires-clause-partner g t c = subst (λ (m : MacroMesh). Some c.in-Some-partner.other ≡ option_map (λ (a : Name × Bool). a.0) (partner (across_in m) c.args.name.0 c.args.name.1)) c.mesh-2.ensures (sym c.in-Some-partner.is ∙ c.partner.ensures.partner)

pub make_bisected-take_beside-requires-clause-aims : goal.make_bisected-take_beside-requires-clause-aims
make_bisected-take_beside-requires-clause-aims g t c = subst (λ (p : Plan). HasEntry p.target (name_code c.in-Some-partner.other)) (sym (c.stand-2.ensures.works.plan ∙ c.visit.ensures.wiser.plan ∙ c.stand.ensures.works.plan)) (target_other c.args.table.now.site (sight c.args.pass.now).work.plan.target c.requires.closed c.args.name (subst (λ (m : MacroMesh). Tells (shape_of m) (across_in m)) c.mesh.ensures c.element_count-count.ensures.tells) c.in-Some-partner.other c.requires.root c.requires.level (subst (λ (m : MacroMesh). Some c.in-Some-partner.other ≡ option_map (λ (a : Name × Bool). a.0) (partner (across_in m) c.args.name.0 c.args.name.1)) c.mesh-2.ensures (sym c.in-Some-partner.is ∙ c.partner.ensures.partner)) c.requires.aimed)

pub make_bisected-overflow_add-result-in-Ok-take_beside : goal.make_bisected-overflow_add-result-in-Ok-take_beside
make_bisected-overflow_add-result-in-Ok-take_beside g t c = let h : c.in-Ok.stood.patches + c.in-Ok-stand.beside.patches + 0 < 4294967296 = few_fit (level (shape_of c.args.table.now.site.mesh.now) c.args.name) c.in-Ok.stood.patches c.in-Ok-stand.beside.patches 0 c.requires.level c.in-Ok.ensures.stood.1 (subst (λ (l : ℕ). c.in-Ok-stand.beside.patches < 2 ^ l) (other_of (shape_of c.args.table.now.site.mesh.now) (across_in c.args.table.now.site.mesh.now) (subst (λ (m : MacroMesh). Tells (shape_of m) (across_in m)) c.mesh.ensures c.element_count-count.ensures.tells) c.args.name c.requires.root c.in-Some-partner.other (subst (λ (m : MacroMesh). Some c.in-Some-partner.other ≡ option_map (λ (a : Name × Bool). a.0) (partner (across_in m) c.args.name.0 c.args.name.1)) c.mesh-2.ensures (sym c.in-Some-partner.is ∙ c.partner.ensures.partner))).1 c.in-Ok-stand.ensures.stood.1) (omega arith) in omega arith

pub make_bisected-overflow_add-result-in-Ok-take_beside-2 : goal.make_bisected-overflow_add-result-in-Ok-take_beside-2
make_bisected-overflow_add-result-in-Ok-take_beside-2 g t c = let h : c.in-Ok.stood.patches + c.in-Ok-stand.beside.patches + c.in-Ok-take_beside.made.patches < 4294967296 = few_fit (level (shape_of c.args.table.now.site.mesh.now) c.args.name) c.in-Ok.stood.patches c.in-Ok-stand.beside.patches c.in-Ok-take_beside.made.patches c.requires.level c.in-Ok.ensures.stood.1 (subst (λ (l : ℕ). c.in-Ok-stand.beside.patches < 2 ^ l) (other_of (shape_of c.args.table.now.site.mesh.now) (across_in c.args.table.now.site.mesh.now) (subst (λ (m : MacroMesh). Tells (shape_of m) (across_in m)) c.mesh.ensures c.element_count-count.ensures.tells) c.args.name c.requires.root c.in-Some-partner.other (subst (λ (m : MacroMesh). Some c.in-Some-partner.other ≡ option_map (λ (a : Name × Bool). a.0) (partner (across_in m) c.args.name.0 c.args.name.1)) c.mesh-2.ensures (sym c.in-Some-partner.is ∙ c.partner.ensures.partner))).1 c.in-Ok-stand.ensures.stood.1) c.in-Ok-take_beside.ensures.made.1 in omega arith

pub make_bisected-returns-in-Err-take_beside-clause-works : goal.make_bisected-returns-in-Err-take_beside-clause-works
make_bisected-returns-in-Err-take_beside-clause-works g t c = works_more (works_more (works_more c.stand.ensures.works (wiser_works c.visit.ensures.wiser)) c.stand-2.ensures.works) c.take_beside.ensures.works

pub make_bisected-returns-in-Err-take_beside-clause-refused : goal.make_bisected-returns-in-Err-take_beside-clause-refused
make_bisected-returns-in-Err-take_beside-clause-refused g t c = refused_after (across_in c.args.table.now.site.mesh.now) (λ m. m ≡ c.args.name) (Has (chain_of (shape_of c.args.table.now.site.mesh.now) (across_in c.args.table.now.site.mesh.now) c.args.name)) (sight c.args.pass.now) (sight c.stand-2.new.pass) (sight c.take_beside.new.pass) c.in-Err-take_beside.refusal (c.in-Ok.stood.patches + c.in-Ok-stand.beside.patches) (λ m same. subst (Has (chain_of (shape_of c.args.table.now.site.mesh.now) (across_in c.args.table.now.site.mesh.now) c.args.name)) (sym same) (chain_self (shape_of c.args.table.now.site.mesh.now) (across_in c.args.table.now.site.mesh.now) (subst (λ (m : MacroMesh). Tells (shape_of m) (across_in m)) c.mesh.ensures c.element_count-count.ensures.tells) c.args.name c.requires.root)) (published_more (sight c.args.pass.now) (sight c.visit.new.pass) (sight c.stand-2.new.pass) c.in-Ok.stood.patches c.in-Ok-stand.beside.patches (published_ended (sight c.args.pass.now) (sight c.stand.new.pass) (sight c.visit.new.pass) c.in-Ok.stood.patches (name_code c.args.name) c.in-Ok.ensures.stood.0.published c.in_default.ensures.ended) c.in-Ok-stand.ensures.stood.0.published) c.in-Err-take_beside.ensures.refused

pub make_bisected-returns-in-Ok-take_beside-clause-works : goal.make_bisected-returns-in-Ok-take_beside-clause-works
make_bisected-returns-in-Ok-take_beside-clause-works g t c = works_more (works_more (works_more c.stand.ensures.works (wiser_works c.visit.ensures.wiser)) c.stand-2.ensures.works) c.take_beside.ensures.works

pub make_bisected-returns-in-Ok-take_beside-clause-made : goal.make_bisected-returns-in-Ok-take_beside-clause-made
make_bisected-returns-in-Ok-take_beside-clause-made g t c = (record { room = c.in-Ok-take_beside.ensures.made.0.room; knows = c.in-Ok-take_beside.ensures.made.0.knows; living = c.in-Ok-take_beside.ensures.made.0.living; published = published_more (sight c.args.pass.now) (sight c.stand-2.new.pass) (sight c.take_beside.new.pass) (c.in-Ok.stood.patches + c.in-Ok-stand.beside.patches) c.in-Ok-take_beside.made.patches (published_more (sight c.args.pass.now) (sight c.visit.new.pass) (sight c.stand-2.new.pass) c.in-Ok.stood.patches c.in-Ok-stand.beside.patches (published_ended (sight c.args.pass.now) (sight c.stand.new.pass) (sight c.visit.new.pass) c.in-Ok.stood.patches (name_code c.args.name) c.in-Ok.ensures.stood.0.published c.in_default.ensures.ended) c.in-Ok-stand.ensures.stood.0.published) c.in-Ok-take_beside.ensures.made.0.published }, few_both (level (shape_of c.args.table.now.site.mesh.now) c.args.name) c.in-Ok.stood.patches c.in-Ok-stand.beside.patches c.in-Ok-take_beside.made.patches c.in-Ok.ensures.stood.1 (subst (λ (l : ℕ). c.in-Ok-stand.beside.patches < 2 ^ l) (other_of (shape_of c.args.table.now.site.mesh.now) (across_in c.args.table.now.site.mesh.now) (subst (λ (m : MacroMesh). Tells (shape_of m) (across_in m)) c.mesh.ensures c.element_count-count.ensures.tells) c.args.name c.requires.root c.in-Some-partner.other (subst (λ (m : MacroMesh). Some c.in-Some-partner.other ≡ option_map (λ (a : Name × Bool). a.0) (partner (across_in m) c.args.name.0 c.args.name.1)) c.mesh-2.ensures (sym c.in-Some-partner.is ∙ c.partner.ensures.partner))).1 c.in-Ok-stand.ensures.stood.1) c.in-Ok-take_beside.ensures.made.1)

pub stand_above-make_bisected-requires : goal.stand_above-make_bisected-requires
stand_above-make_bisected-requires g t c κs within = let e : c.args.name ≡ (c.in-Some.parent-1-given.0.0.0.0, c.in-Some.parent-1-given.0.0.1 ∷ c.in-Some.parent-1-given.0.0.0.1) = c.in-Some.ensures in
    let l : level (shape_of c.args.table.now.site.mesh.now) c.args.name ≡ level (shape_of c.args.table.now.site.mesh.now) c.in-Some.parent-1-given.0.0.0 + 1 = parent_level (shape_of c.args.table.now.site.mesh.now) c.args.name c.in-Some.parent-1-given.0.0.0 c.in-Some.parent-1-given.0.0.1 e in
    let low = c.requires.level in
    let r : c.in-Some.parent-1-given.0.0.0.0 < size (shape_of c.args.table.now.site.mesh.now) = subst (λ (n : Name). n.0 < size (shape_of c.args.table.now.site.mesh.now)) e c.requires.root in
    let d = c.decreases in
    (omega arith, (within, (c.requires.fit, (c.requires.works, (c.requires.half, (c.requires.round, (r, (omega arith, (target_up c.args.table.now.site (sight c.args.pass.now).work.plan.target c.requires.closed c.args.name c.in-Some.parent-1-given.0.0.0 c.in-Some.parent-1-given.0.0.1 e r c.requires.level c.requires.aimed, (c.requires.closed, (c.requires.living, (c.requires.listed, c.requires.room))))))))))))

pub stand_above-returns-in-Ok-clause-stood : goal.stand_above-returns-in-Ok-clause-stood
stand_above-returns-in-Ok-clause-stood g t c = let e : c.args.name ≡ (c.in-Some.parent-1-given.0.0.0.0, c.in-Some.parent-1-given.0.0.1 ∷ c.in-Some.parent-1-given.0.0.0.1) = c.in-Some.ensures in
    let l : level (shape_of c.args.table.now.site.mesh.now) c.args.name ≡ level (shape_of c.args.table.now.site.mesh.now) c.in-Some.parent-1-given.0.0.0 + 1 = parent_level (shape_of c.args.table.now.site.mesh.now) c.args.name c.in-Some.parent-1-given.0.0.0 c.in-Some.parent-1-given.0.0.1 e in
    let low = c.requires.level in
    let r : c.in-Some.parent-1-given.0.0.0.0 < size (shape_of c.args.table.now.site.mesh.now) = subst (λ (n : Name). n.0 < size (shape_of c.args.table.now.site.mesh.now)) e c.requires.root in
    let made = c.in-Ok.ensures.made in
    let b = c.in-Ok.made.block in
    let side = c.in-Ok.made.second in (
      record {
        place = (made.0.room, child_low side c.in-Some.parent-1-given.0.0.1);
        found = subst (λ (p : ℕ × ℕ). HasEntry (sight c.make_bisected.new.pass).work.found p)
            (λ i. (child_number c.args.table.now.site.layout.elements b side c.in-Some.parent-1-given.0.0.1 i, (child_named (shape_of c.args.table.now.site.mesh.now) c.in-Some.parent-1-given.0.0.0 c.in-Some.parent-1-given.0.0.1 (omega arith) (omega arith) r ∙ ap name_code (sym e)) i)) (made.0.knows.1 c.in-Some.parent-1-given.0.0.1);
        living = made.0.living;
        published = made.0.published;
      },
      subst (λ (k : ℕ). c.in-Ok.made.patches < 2 ^ k) (sym l) made.1,
    )

pub stand-returns-in-Some-clause-stood : goal.stand-returns-in-Some-clause-stood
stand-returns-in-Some-clause-stood g t c = (record { place = c.in-Some.ensures.some.0; found = c.in-Some.ensures.some.1; living = subst AllLiving (sym c.descend.ensures.wiser.claims) c.requires.living; published = c.descend.ensures.published }, pow_pos (level (shape_of c.args.table.now.site.mesh.now) c.args.name))

pub stand-returns-in-Ok-clause-stood : goal.stand-returns-in-Ok-clause-stood
stand-returns-in-Ok-clause-stood g t c = let s = c.in-Ok.ensures.stood in
    let same : 0 + c.in-Ok.stood.patches ≡ c.in-Ok.stood.patches = omega arith in
    let both = published_more (sight c.args.pass.now) (sight c.descend.new.pass) (sight c.stand_above.new.pass) 0 c.in-Ok.stood.patches c.descend.ensures.published s.0.published in
    (record { place = s.0.place; found = s.0.found; living = s.0.living; published = subst (HasPublished (sight c.args.pass.now) (sight c.stand_above.new.pass)) same both }, s.1)

pub stand-returns-in-Err-clause-refused : goal.stand-returns-in-Err-clause-refused
stand-returns-in-Err-clause-refused g t c = let below = Below (shape_of c.args.table.now.site.mesh.now) (across_in c.args.table.now.site.mesh.now) c.args.name in
    refused_after (across_in c.args.table.now.site.mesh.now) below below (sight c.args.pass.now) (sight c.descend.new.pass) (sight c.stand_above.new.pass) c.in-Err.refusal 0 (λ m h. h) c.descend.ensures.published c.in-Err.ensures.refused

pub make_bisected-returns-in-Some-clause-listed : goal.make_bisected-returns-in-Some-clause-listed
make_bisected-returns-in-Some-clause-listed g t c = seen_list c.args.table.now.site (sight c.stand.new.pass) (sight c.visit.new.pass) c.stand.new.published.items c.visit.ensures.wiser c.in-Ok.ensures.listed

pub make_bisected-take_alone-requires-clause-listed : goal.make_bisected-take_alone-requires-clause-listed
make_bisected-take_alone-requires-clause-listed g t c = seen_list c.args.table.now.site (sight c.stand.new.pass) (sight c.visit.new.pass) c.stand.new.published.items c.visit.ensures.wiser c.in-Ok.ensures.listed

pub stand-returns-in-Some-clause-listed : goal.stand-returns-in-Some-clause-listed
stand-returns-in-Some-clause-listed g t c = seen_list c.args.table.now.site (sight c.args.pass.now) (sight c.descend.new.pass) c.args.published.now.items c.descend.ensures.wiser c.requires.listed

pub make_bisected-take_alone-requires-clause-unclaimed : goal.make_bisected-take_alone-requires-clause-unclaimed
make_bisected-take_alone-requires-clause-unclaimed g t c = unclaimed_seen c.args.table.now.site (sight c.stand.new.pass) (sight c.visit.new.pass) c.stand.new.published.items (name_code c.args.name) c.visit.ensures.wiser c.in-Ok.ensures.listed c.in_default.ensures.unknown (omega arith)

pub make_bisected-take_alone-requires-clause-owner : goal.make_bisected-take_alone-requires-clause-owner
make_bisected-take_alone-requires-clause-owner g t c = (may_alone c.args.table.now.site (subst (λ (m : MacroMesh). Tells (shape_of m) (across_in m)) c.mesh.ensures c.element_count-count.ensures.tells) (sight c.visit.new.pass) (place_number c.args.table.now.site.layout c.in-Ok.stood.at) c.args.name c.requires.root c.requires.level (subst (λ (m : MacroMesh). ◌≡◌ {A = Option Name} None (option_map (λ (a : Name × Bool). a.0) (partner (across_in m) c.args.name.0 c.args.name.1))) c.mesh-2.ensures (sym c.in_default-partner.is ∙ c.partner.ensures.partner)) (c.visit.ensures.wiser.kind ∙ c.stand.ensures.works.kind ∙ c.requires.works) (c.visit.ensures.wiser.found _ c.in-Ok.ensures.stood.0.found) c.in_default.ensures.none (subst (λ (p : Plan). HasEntry p.target (name_code c.args.name)) (sym (c.visit.ensures.wiser.plan ∙ c.stand.ensures.works.plan)) c.requires.aimed)).1

pub stand_above-returns-in-None-clause-listed : goal.stand_above-returns-in-None-clause-listed
stand_above-returns-in-None-clause-listed g t c =
    let k = c.args.table.now.site in
    let u = sight c.args.pass.now in
    listed_same k u (sight c.note_top.new.seat) c.args.published.now.items (ap (λ (y : Sight). y.claims) c.note_top.ensures.view) (λ a e. subst (λ (y : Sight). HasEntry y.work.found a) (sym c.note_top.ensures.view) (inr e)) (λ a e. subst (λ (y : Sight). HasEntry y.work.known a) (sym c.note_top.ensures.view) e) c.requires.listed
