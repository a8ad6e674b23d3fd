use Rattle.std.proofs.Common.{◌≡◌, ℕ, ◌+◌, ◌<◌, Bool, List, [], ◌∷◌, length, refl, sym, ap, ◌∙◌, subst, inl, arith}
use Rattle.compat_check.specs.Meshes.{shape_of}
use Rattle.mesh_names.specs.Names.{Name}
use Rattle.mesh_names.specs.Triangles.{level, size}
use Rattle.table_words.specs.Entries.{HasEntry}
use Rattle.table_words.specs.NameWords.{name_code}
use Rattle.table_words.specs.Places.{place_number}
use Rattle.mesh_table.specs.Sights.{Sight, setup_at}
use Rattle.mesh_table.specs.Told.{sight}
use Rattle.patch_walk.proofs.Above.{parent_level}
use Rattle.patch_walk.proofs.Climbing.{later_more}
use Rattle.patch_walk.proofs.Names.{child_named, child_number, child_low}
use Rattle.patch_walk.proofs.Reaching.{visit_news, block_of, reached_up, reached_whole, no_parent, one_parent, deeper}
use Rattle.patch_walk.proofs.places.+locate.Goals as goal

pub returns-in_default-clause-saw : goal.returns-in_default-clause-saw
returns-in_default-clause-saw t c = later_more (sight c.args.pass.now) (sight c.note_top.new.seat) (sight c.visit-block.new.pass) ([], ap (λ (a : Sight). a.saw) c.note_top.ensures.view) (visit_news c.visit-block.result (sight c.note_top.new.seat) (sight c.visit-block.new.pass) (name_code c.args.name) c.visit-block.ensures.ended c.visit-block.ensures.bisected)

pub returns-in_default-clause-reached : goal.returns-in_default-clause-reached
returns-in_default-clause-reached t c =
    let u = sight c.args.pass.now in
    let v = sight c.note_top.new.seat in
    let w = sight c.visit-block.new.pass in
    let l = c.args.table.now.site.layout in
    let n = c.args.name in
    let top : n.1 ≡ [] = c.in_default.ensures in
    let root = c.root-root.ensures.root in
    let small = c.args.table.now.small in
    let low = c.requires.root in
    record {
      left = [];
      prefix = n.1;
      parts = refl;
      depth = ap (λ (q : List Bool). length q) top;
      place = omega arith;
      found = c.visit-block.ensures.wiser.found _ (rw (c.note_top.ensures.view) (inl (λ i. (c.root-root.result, name_code (sym root i, top i)))));
      parent = no_parent w n top;
      block = block_of (setup_at c.args.table.now.site) l.pool c.visit-block.result u v w n ([], ap (λ (a : Sight). a.saw) c.note_top.ensures.view) c.visit-block.ensures.ended c.visit-block.ensures.none c.visit-block.ensures.some;
    }

pub returns-in_default-block-clause-reached : goal.returns-in_default-block-clause-reached
returns-in_default-block-clause-reached t c = reached_up c.args.table.now.site.layout (setup_at c.args.table.now.site) (sight c.args.pass.now) (sight c.locate-above.new.pass) c.args.name c.in-Some.parent-1-given.0.0.0 c.in-Some.parent-1-given.0.0.1 c.locate-above.result c.in-Some.ensures c.in_default-block.is c.locate-above.ensures.reached

pub visit-block-requires-2-clause-may : goal.visit-block-requires-2-clause-may
visit-block-requires-2-clause-may t c =
    let p = c.in-Some.parent-1-given.0.0.0 in
    let side = c.in-Some.parent-1-given.0.0.1 in
    let mesh = shape_of c.args.table.now.site.mesh.now in
    let e : c.args.name ≡ (p.0, side ∷ p.1) = c.in-Some.ensures in
    let up : level mesh c.args.name ≡ level mesh p + 1 = parent_level mesh c.args.name p side e in
    let low = c.requires.level in
    let r : p.0 < size mesh = subst (λ (n : Name). n.0 < size mesh) e c.requires.root in
    let b = c.in-Some-block.block in
    let s = c.in-Some-block.second in
    let h = reached_whole c.args.table.now.site.layout (setup_at c.args.table.now.site) (sight c.args.pass.now) (sight c.locate-above.new.pass) p c.locate-above.result b s c.in-Some-block.is c.locate-above.ensures.reached in (
      c.locate-above.ensures.works.kind ∙ c.requires.works,
      inl (subst (λ (q : ℕ × ℕ). HasEntry (sight c.locate-above.new.pass).work.found q)
          (λ i. (child_number c.args.table.now.site.layout.elements b s side i, (child_named mesh p side (omega arith) (omega arith) r ∙ ap name_code (sym e)) i)) (h.1.1 side)),
    )

pub returns-clause-saw : goal.returns-clause-saw
returns-clause-saw t c = later_more (sight c.args.pass.now) (sight c.locate-above.new.pass) (sight c.visit-block-2.new.pass) c.locate-above.ensures.saw (visit_news c.visit-block-2.result (sight c.locate-above.new.pass) (sight c.visit-block-2.new.pass) (name_code c.args.name) c.visit-block-2.ensures.ended c.visit-block-2.ensures.bisected)

pub returns-clause-reached : goal.returns-clause-reached
returns-clause-reached t c =
    let u = sight c.args.pass.now in
    let v = sight c.locate-above.new.pass in
    let w = sight c.visit-block-2.new.pass in
    let l = c.args.table.now.site.layout in
    let n = c.args.name in
    let p = c.in-Some.parent-1-given.0.0.0 in
    let side = c.in-Some.parent-1-given.0.0.1 in
    let mesh = shape_of c.args.table.now.site.mesh.now in
    let e : n ≡ (p.0, side ∷ p.1) = c.in-Some.ensures in
    let up : level mesh n ≡ level mesh p + 1 = parent_level mesh n p side e in
    let low = c.requires.level in
    let r : p.0 < size mesh = subst (λ (m : Name). m.0 < size mesh) e c.requires.root in
    let b = c.in-Some-block.block in
    let s = c.in-Some-block.second in
    let h = reached_whole l (setup_at c.args.table.now.site) u v p c.locate-above.result b s c.in-Some-block.is c.locate-above.ensures.reached in
    record {
      left = [];
      prefix = n.1;
      parts = refl;
      depth = deeper n p side c.locate-above.result.depth e h.2;
      place = (h.0, child_low s side);
      found = c.visit-block-2.ensures.wiser.found _ (subst (λ (q : ℕ × ℕ). HasEntry v.work.found q)
          (λ i. (child_number l.elements b s side i, (child_named mesh p side (omega arith) (omega arith) r ∙ ap name_code (sym e)) i)) (h.1.1 side));
      parent = one_parent w n p side e (c.visit-block-2.ensures.wiser.known _ h.1.0);
      block = block_of (setup_at c.args.table.now.site) l.pool c.visit-block-2.result u v w n c.locate-above.ensures.saw c.visit-block-2.ensures.ended c.visit-block-2.ensures.none c.visit-block-2.ensures.some;
    }
