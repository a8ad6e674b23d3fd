use Rattle.std.proofs.Common.{◌≡◌, ◌<◌, ℕ, get_or, [], ◌∷◌, ◌∙◌, ap, length, refl, rules, set, sym, subst}
use Rattle.std.specs.Prelude.{All}
use Rattle.std.proofs.lemmas.List.Elements.{All-nil, All-cons, All-append, All-set}
use Rattle.mesh_names.specs.Names.{Name}
use Rattle.mesh_names.specs.Triangles.{midpoint, triangle}
use Rattle.compat_check.specs.Meshes.{shape_of}
use Rattle.compat_check.specs.Points.{point}
use Rattle.mesh_writer.specs.Walks.{IsFrame}
use Rattle.mesh_writer.specs.declared.walk.Frame.{Frame}
use Rattle.mesh_writer.proofs.Adding.{Laws}
use Rattle.mesh_writer.proofs.Walking.{corners_grown, frames_grown, middle_added, put_after, put_over}
use Rattle.mesh_writer.proofs.walk.Walk.put.Goals as goal

pub returns-then-is_some : goal.returns-then-is_some
returns-then-is_some c =
    let mesh = c.args.mesh.now in
    let name = c.args.name in
    let old = c.args.self.now.slots.keys.items in
    let keys = c.slot.new.self.keys.items in
    let last = c.args.self.now.last.items in
    let laws : Laws mesh = record { only = c.partner_is_only.ensures; pairs = c.partners_pair.ensures; tells = c.element_count-count.ensures.tells } in
    let there = ap (λ (n : Name). midpoint (triangle (shape_of mesh) n)) c.requires.name in
    let middle = middle_added mesh laws name c.middle_key.result c.middle.result c.args.self.now.slots c.slot.new.self c.in_ok-middle.middle c.requires.walk.slots c.middle_key.ensures.key c.middle_key.ensures.mesh (c.middle_key.ensures.stands ∙ there) (c.middle.ensures ∙ ap (point mesh.vertices) there) c.in_ok-middle.ensures in
    let f : Frame = record { name = name; step = c.args.step; corners = c.args.corners; middle = c.in_ok-middle.middle } in
    let frame : IsFrame mesh keys f = record { step = c.requires.step; named = c.requires.name; corners = corners_grown (shape_of mesh) old keys (triangle (shape_of mesh) name) c.args.corners middle.grows c.requires.corners; middle = middle.middle } in
    let frames = frames_grown mesh old keys last middle.grows c.requires.walk.frames in
    let place = c.from-depth.result in
    let low : place < length last = search rules in
    let over = put_over last (set last place f) place f low refl in
    record {
      walk = record { slots = middle.slots; frames = All-set (IsFrame mesh keys) last place f frame frames };
      grows = middle.grows;
      at = record { inside = over.0; named = over.1 };
    }

pub returns : goal.returns
returns c =
    let mesh = c.args.mesh.now in
    let name = c.args.name in
    let old = c.args.self.now.slots.keys.items in
    let keys = c.slot.new.self.keys.items in
    let last = c.args.self.now.last.items in
    let laws : Laws mesh = record { only = c.partner_is_only.ensures; pairs = c.partners_pair.ensures; tells = c.element_count-count.ensures.tells } in
    let there = ap (λ (n : Name). midpoint (triangle (shape_of mesh) n)) c.requires.name in
    let middle = middle_added mesh laws name c.middle_key.result c.middle.result c.args.self.now.slots c.slot.new.self c.in_ok-middle.middle c.requires.walk.slots c.middle_key.ensures.key c.middle_key.ensures.mesh (c.middle_key.ensures.stands ∙ there) (c.middle.ensures ∙ ap (point mesh.vertices) there) c.in_ok-middle.ensures in
    let f : Frame = record { name = name; step = c.args.step; corners = c.args.corners; middle = c.in_ok-middle.middle } in
    let frame : IsFrame mesh keys f = record { step = c.requires.step; named = c.requires.name; corners = corners_grown (shape_of mesh) old keys (triangle (shape_of mesh) name) c.args.corners middle.grows c.requires.corners; middle = middle.middle } in
    let frames = frames_grown mesh old keys last middle.grows c.requires.walk.frames in
    let right = IsFrame mesh keys in
    let more = c.in_ok-push.ensures.items in
    let after = put_after last c.push.new.self.items f more in
    let at : c.len-place.result ≡ length last = c.len-place.ensures ∙ search rules in
    record {
      walk = record { slots = middle.slots; frames = subst (All right) (sym more) (All-append right last (f ∷ []) frames (All-cons right f [] frame (All-nil right))) };
      grows = middle.grows;
      at = record { inside = subst (λ (k : ℕ). k < length c.push.new.self.items) (sym at) after.0; named = λ d. ap (λ (k : ℕ). (get_or c.push.new.self.items k d).name) at ∙ after.1 d };
    }
