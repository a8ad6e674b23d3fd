use Rattle.std.proofs.Common.{◌≡◌, ℕ, ◌+◌, ◌<◌, Bool, List, [], ◌∷◌, length, refl, sym, ap, ◌∙◌, subst, inl, arith}
use Rattle.compat_check.specs.Meshes.{shape_of}
use Rattle.mesh_names.specs.Names.{Name}
use Rattle.mesh_names.specs.Triangles.{level, size}
use Rattle.table_words.specs.Entries.{HasEntry}
use Rattle.table_words.specs.NameWords.{name_code}
use Rattle.mesh_table.specs.Sights.{setup_at}
use Rattle.mesh_table.specs.Told.{sight}
use Rattle.patch_walk.proofs.Above.{parent_level}
use Rattle.patch_walk.proofs.Names.{child_named, child_number, child_low}
use Rattle.patch_walk.proofs.Pinning.{block_at, reached_up_at, reached_whole_at}
use Rattle.patch_walk.proofs.Reaching.{deeper}
use Rattle.patch_walk.proofs.pinned.+locate_pinned.Goals as goal

pub returns-in_default-clause-reached : goal.returns-in_default-clause-reached
returns-in_default-clause-reached t c =
    let w = sight c.look-block.new.pass in
    let l = c.args.table.now.site.layout in
    let n = c.args.name in
    let top : n.1 ≡ [] = c.in_default.ensures in
    let root = c.root.ensures.root in
    let small = c.args.table.now.small in
    let low = c.requires.root in
    record {
      left = [];
      prefix = n.1;
      parts = refl;
      depth = ap (λ (q : List Bool). length q) top;
      place = omega arith;
      block = block_at (setup_at c.args.table.now.site) l.pool c.look-block.result w c.args.round (name_code n) c.look-block.ensures.none c.look-block.ensures.some;
    }

pub returns-in_default-block-clause-reached : goal.returns-in_default-block-clause-reached
returns-in_default-block-clause-reached t c = reached_up_at c.args.table.now.site.layout (setup_at c.args.table.now.site) (sight c.locate_pinned-above.new.pass) c.args.round c.args.name c.in-Some.parent-1-given.0.0.0 c.in-Some.parent-1-given.0.0.1 c.locate_pinned-above.result c.in-Some.ensures c.in_default-block.is c.locate_pinned-above.ensures.reached

pub look-block-requires-2-clause-may : goal.look-block-requires-2-clause-may
look-block-requires-2-clause-may t c =
    let p = c.in-Some.parent-1-given.0.0.0 in
    let side = c.in-Some.parent-1-given.0.0.1 in
    let mesh = shape_of c.args.table.now.site.mesh.now in
    let e : c.args.name ≡ (p.0, side ∷ p.1) = c.in-Some.ensures in
    let up : level mesh c.args.name ≡ level mesh p + 1 = parent_level mesh c.args.name p side e in
    let low = c.requires.level in
    let r : p.0 < size mesh = subst (λ (n : Name). n.0 < size mesh) e c.requires.root in
    let b = c.in-Some-block.block in
    let s = c.in-Some-block.second in
    let v = sight c.locate_pinned-above.new.pass in
    let h = reached_whole_at c.args.table.now.site.layout (setup_at c.args.table.now.site) v c.args.round p c.locate_pinned-above.result b s c.in-Some-block.is c.locate_pinned-above.ensures.reached in
    let learned = c.locate_pinned-above.ensures.learned in (
      learned.kind ∙ c.requires.reads,
      learned.pin ∙ c.requires.pin,
      inl (subst (λ (q : ℕ × ℕ). HasEntry v.read.places q)
          (λ i. (child_number c.args.table.now.site.layout.elements b s side i, (child_named mesh p side (omega arith) (omega arith) r ∙ ap name_code (sym e)) i)) (h.1.1 side)),
    )

pub returns-clause-reached : goal.returns-clause-reached
returns-clause-reached t c =
    let w = sight c.look-block-2.new.pass in
    let l = c.args.table.now.site.layout in
    let n = c.args.name in
    let p = c.in-Some.parent-1-given.0.0.0 in
    let side = c.in-Some.parent-1-given.0.0.1 in
    let e : n ≡ (p.0, side ∷ p.1) = c.in-Some.ensures in
    let b = c.in-Some-block.block in
    let s = c.in-Some-block.second in
    let h = reached_whole_at l (setup_at c.args.table.now.site) (sight c.locate_pinned-above.new.pass) c.args.round p c.locate_pinned-above.result b s c.in-Some-block.is c.locate_pinned-above.ensures.reached in
    record {
      left = [];
      prefix = n.1;
      parts = refl;
      depth = deeper n p side c.locate_pinned-above.result.depth e h.2;
      place = (h.0, child_low s side);
      block = block_at (setup_at c.args.table.now.site) l.pool c.look-block-2.result w c.args.round (name_code n) c.look-block-2.ensures.none c.look-block-2.ensures.some;
    }
