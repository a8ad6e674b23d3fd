use Rattle.std.proofs.Common.{◌≡◌, ℕ, ◌≤◌, ◌∷◌, [], List, All, None, length, map, sym, ap, ◌∙◌, subst, arith}
use Rattle.std.proofs.lemmas.List.{length-map}
use Rattle.std.specs.Prelude.{vec_capacity}
use Rattle.compat_check.specs.Meshes.{shape_of}
use Rattle.mesh_names.specs.Names.{Name}
use Rattle.mesh_table.specs.Sights.{setup_at}
use Rattle.mesh_table.specs.Told.{sight}
use Rattle.table_passes.specs.Answers.{IsAimed}
use Rattle.table_passes.specs.Kept.{all_claims}
use Rattle.table_passes.specs.declared.work.Joined.{Joined}
use Rattle.table_passes.specs.declared.work.Task.{Task}
use Rattle.table_words.specs.Claims.{Failed, claim}
use Rattle.table_words.specs.Entries.{HasEntry}
use Rattle.table_words.specs.Views.{Ruling}
use Rattle.shared_rounds.specs.FirstHalf.{IsOverfull, IsRefined}
use Rattle.shared_rounds.specs.Reached.{all_put_off}
use Rattle.shared_rounds.specs.Room.{HasRoomOf}
use Rattle.shared_rounds.proofs.Halves.{first_aimed, first_home, first_living, first_off, first_overfull, first_room, last_blocks, last_overfull, last_refined, last_room}
use Rattle.shared_rounds.proofs.half.refine_all.Goals as goal

pub hold_all-requires-clause-room : goal.hold_all-requires-clause-room
hold_all-requires-clause-room g c =
    let k = c.args.table.now.site in
    let u = sight c.args.owner.now.seat in
    let w = sight c.work_first-joined.new.owner.seat in
    let tasks = map (λ (t : Task). t.names.items) c.args.tasks.items in
    let ds = c.work_first-joined.result.items in
    let out : u.ruling.workers ≡ length tasks = c.requires.out ∙ sym (length-map c.args.tasks.items (λ (t : Task). t.names.items)) in
    let long : length tasks ≡ length c.args.tasks.items = length-map c.args.tasks.items (λ (t : Task). t.names.items) in
    let a = first_room k u w tasks ds c.work_first-joined.ensures.joined out c.work_first-joined.ensures.names c.requires.new c.requires.alone c.work_first-joined.ensures.told in
    let b = c.requires.room.held.1 in
    omega arith

pub returns-then-any_failed-clause-overfull : goal.returns-then-any_failed-clause-overfull
returns-then-any_failed-clause-overfull g c =
    let k = c.args.table.now.site in
    let u = sight c.args.owner.now.seat in
    let w = sight c.work_first-joined.new.owner.seat in
    let tasks = map (λ (t : Task). t.names.items) c.args.tasks.items in
    let ds = c.work_first-joined.result.items in
    let out : u.ruling.workers ≡ length tasks = c.requires.out ∙ sym (length-map c.args.tasks.items (λ (t : Task). t.names.items)) in
    let l = k.layout in
    let t = subst (λ (xs : List Joined). (x m : ℕ) × HasEntry (all_claims l (map (λ (d : Joined). d.lists) xs)) (claim x m Failed)) c.deref.ensures.value (c.any_failed.ensures.some c.if-any_failed.true l) in
    subst (IsOverfull (setup_at k) l u w) (sym c.hold_all.ensures.items) (first_overfull k u w tasks ds c.work_first-joined.ensures.joined out c.work_first-joined.ensures.names c.requires.new c.requires.alone c.work_first-joined.ensures.told t)

pub finish_rest-last-requires-clause-home : goal.finish_rest-last-requires-clause-home
finish_rest-last-requires-clause-home g c κs within =
    let k = c.args.table.now.site in
    let u = sight c.args.owner.now.seat in
    let w = sight c.work_first-joined.new.owner.seat in
    let tasks = map (λ (t : Task). t.names.items) c.args.tasks.items in
    let ds = c.work_first-joined.result.items in
    let out : u.ruling.workers ≡ length tasks = c.requires.out ∙ sym (length-map c.args.tasks.items (λ (t : Task). t.names.items)) in
    first_home k u w tasks ds c.work_first-joined.ensures.joined out c.work_first-joined.ensures.names c.requires.new c.requires.alone c.work_first-joined.ensures.told

pub finish_rest-last-requires-clause-living : goal.finish_rest-last-requires-clause-living
finish_rest-last-requires-clause-living g c κs within =
    let k = c.args.table.now.site in
    let u = sight c.args.owner.now.seat in
    let w = sight c.work_first-joined.new.owner.seat in
    let tasks = map (λ (t : Task). t.names.items) c.args.tasks.items in
    let ds = c.work_first-joined.result.items in
    let out : u.ruling.workers ≡ length tasks = c.requires.out ∙ sym (length-map c.args.tasks.items (λ (t : Task). t.names.items)) in
    first_living k u w tasks ds c.work_first-joined.ensures.joined out c.work_first-joined.ensures.names c.requires.new c.requires.alone c.work_first-joined.ensures.told
    (subst (All (λ (d : Joined). d.lists.failed ≡ None)) c.deref.ensures.value (c.any_failed.ensures.none c.if-any_failed.false))

pub finish_rest-last-requires-clause-aimed : goal.finish_rest-last-requires-clause-aimed
finish_rest-last-requires-clause-aimed g c κs within =
    let k = c.args.table.now.site in
    let u = sight c.args.owner.now.seat in
    let w = sight c.work_first-joined.new.owner.seat in
    let tasks = map (λ (t : Task). t.names.items) c.args.tasks.items in
    let ds = c.work_first-joined.result.items in
    let out : u.ruling.workers ≡ length tasks = c.requires.out ∙ sym (length-map c.args.tasks.items (λ (t : Task). t.names.items)) in
    let mesh = shape_of k.mesh.now in
    let target = c.work_first-joined.ensures.joined.ruling in
    let P = λ (ns : List Name). All (IsAimed mesh u.ruling.plan.target) ns in
    subst (λ (xs : List Joined). All (All (IsAimed mesh w.ruling.plan.target)) (map (λ (d : Joined). d.names.items) xs)) (sym c.deref-2.ensures.value)
    (subst (λ (r : Ruling). All (All (IsAimed mesh r.plan.target)) (map (λ (d : Joined). d.names.items) ds)) (sym target) (first_aimed k u w tasks ds c.work_first-joined.ensures.joined out c.work_first-joined.ensures.names c.requires.new c.requires.alone c.work_first-joined.ensures.told P c.requires.aimed))

pub finish_rest-last-requires-clause-names : goal.finish_rest-last-requires-clause-names
finish_rest-last-requires-clause-names g c κs within =
    let k = c.args.table.now.site in
    let u = sight c.args.owner.now.seat in
    let w = sight c.work_first-joined.new.owner.seat in
    let tasks = map (λ (t : Task). t.names.items) c.args.tasks.items in
    let ds = c.work_first-joined.result.items in
    let out : u.ruling.workers ≡ length tasks = c.requires.out ∙ sym (length-map c.args.tasks.items (λ (t : Task). t.names.items)) in
    let a = first_off k u w tasks ds c.work_first-joined.ensures.joined out c.work_first-joined.ensures.names c.requires.new c.requires.alone c.work_first-joined.ensures.told in
    let b = c.requires.room.names.1 in
    (c.requires.room.names.0, subst (λ (xs : List Joined). length (all_put_off xs) ≤ vec_capacity c.args.room.names) (sym c.deref-2.ensures.value) (omega arith))

pub finish_rest-last-requires-clause-room : goal.finish_rest-last-requires-clause-room
finish_rest-last-requires-clause-room g c κs within =
    let k = c.args.table.now.site in
    let u = sight c.args.owner.now.seat in
    let w = sight c.work_first-joined.new.owner.seat in
    let tasks = map (λ (t : Task). t.names.items) c.args.tasks.items in
    let ds = c.work_first-joined.result.items in
    let out : u.ruling.workers ≡ length tasks = c.requires.out ∙ sym (length-map c.args.tasks.items (λ (t : Task). t.names.items)) in
    let a = first_off k u w tasks ds c.work_first-joined.ensures.joined out c.work_first-joined.ensures.names c.requires.new c.requires.alone c.work_first-joined.ensures.told in
    let old = c.requires.room.last in
    let b = old.answers.1 in
    subst (λ (xs : List Joined). HasRoomOf k.layout.pool (length (all_put_off xs)) c.args.room.last) (sym c.deref-2.ensures.value)
    record { lists = old.lists; published = old.published; answers = (old.answers.0, omega arith); tasks = old.tasks; joined = old.joined }

pub hold_both-requires-clause-room : goal.hold_both-requires-clause-room
hold_both-requires-clause-room g c =
    let k = c.args.table.now.site in
    let u = sight c.args.owner.now.seat in
    let w = sight c.work_first-joined.new.owner.seat in
    let tasks = map (λ (t : Task). t.names.items) c.args.tasks.items in
    let ds = c.work_first-joined.result.items in
    let out : u.ruling.workers ≡ length tasks = c.requires.out ∙ sym (length-map c.args.tasks.items (λ (t : Task). t.names.items)) in
    let v = sight c.finish_rest-last.new.owner.seat in
    let es = c.finish_rest-last.result.items in
    let rest : map (λ (d : Joined). d.names.items) es ≡ all_put_off ds ∷ [] = c.finish_rest-last.ensures.names ∙ ap (λ (xs : List Joined). all_put_off xs ∷ []) c.deref-2.ensures.value in
    let long : length tasks ≡ length c.args.tasks.items = length-map c.args.tasks.items (λ (t : Task). t.names.items) in
    let a = last_room k u w tasks ds c.work_first-joined.ensures.joined out c.work_first-joined.ensures.names c.requires.new c.requires.alone c.work_first-joined.ensures.told v es c.finish_rest-last.ensures.joined rest c.finish_rest-last.ensures.told in
    let b = c.requires.room.held.1 in
    omega arith

pub returns-then-any_failed-2-clause-overfull : goal.returns-then-any_failed-2-clause-overfull
returns-then-any_failed-2-clause-overfull g c =
    let k = c.args.table.now.site in
    let u = sight c.args.owner.now.seat in
    let w = sight c.work_first-joined.new.owner.seat in
    let tasks = map (λ (t : Task). t.names.items) c.args.tasks.items in
    let ds = c.work_first-joined.result.items in
    let out : u.ruling.workers ≡ length tasks = c.requires.out ∙ sym (length-map c.args.tasks.items (λ (t : Task). t.names.items)) in
    let v = sight c.finish_rest-last.new.owner.seat in
    let es = c.finish_rest-last.result.items in
    let rest : map (λ (d : Joined). d.names.items) es ≡ all_put_off ds ∷ [] = c.finish_rest-last.ensures.names ∙ ap (λ (xs : List Joined). all_put_off xs ∷ []) c.deref-2.ensures.value in
    let l = k.layout in
    let t = subst (λ (xs : List Joined). (x m : ℕ) × HasEntry (all_claims l (map (λ (d : Joined). d.lists) xs)) (claim x m Failed)) c.deref-3.ensures.value (c.any_failed-2.ensures.some c.if-any_failed-2.true l) in
    subst (IsOverfull (setup_at k) l u v) (sym c.hold_both.ensures.items) (last_overfull k u w tasks ds c.work_first-joined.ensures.joined out c.work_first-joined.ensures.names c.requires.new c.requires.alone c.work_first-joined.ensures.told v es c.finish_rest-last.ensures.joined rest c.finish_rest-last.ensures.told t)

pub gather_both-requires-clause-room : goal.gather_both-requires-clause-room
gather_both-requires-clause-room g c =
    let k = c.args.table.now.site in
    let u = sight c.args.owner.now.seat in
    let w = sight c.work_first-joined.new.owner.seat in
    let tasks = map (λ (t : Task). t.names.items) c.args.tasks.items in
    let ds = c.work_first-joined.result.items in
    let out : u.ruling.workers ≡ length tasks = c.requires.out ∙ sym (length-map c.args.tasks.items (λ (t : Task). t.names.items)) in
    let v = sight c.finish_rest-last.new.owner.seat in
    let es = c.finish_rest-last.result.items in
    let rest : map (λ (d : Joined). d.names.items) es ≡ all_put_off ds ∷ [] = c.finish_rest-last.ensures.names ∙ ap (λ (xs : List Joined). all_put_off xs ∷ []) c.deref-2.ensures.value in
    let a = last_blocks k u w tasks ds c.work_first-joined.ensures.joined out c.work_first-joined.ensures.names c.requires.new c.requires.alone c.work_first-joined.ensures.told v es c.finish_rest-last.ensures.joined rest c.finish_rest-last.ensures.told in
    let b = c.requires.room.blocks.1 in
    omega arith

pub returns-clause-refined : goal.returns-clause-refined
returns-clause-refined g c =
    let k = c.args.table.now.site in
    let u = sight c.args.owner.now.seat in
    let w = sight c.work_first-joined.new.owner.seat in
    let tasks = map (λ (t : Task). t.names.items) c.args.tasks.items in
    let ds = c.work_first-joined.result.items in
    let out : u.ruling.workers ≡ length tasks = c.requires.out ∙ sym (length-map c.args.tasks.items (λ (t : Task). t.names.items)) in
    let v = sight c.finish_rest-last.new.owner.seat in
    let es = c.finish_rest-last.result.items in
    let rest : map (λ (d : Joined). d.names.items) es ≡ all_put_off ds ∷ [] = c.finish_rest-last.ensures.names ∙ ap (λ (xs : List Joined). all_put_off xs ∷ []) c.deref-2.ensures.value in
    subst (IsRefined k.layout u v tasks) (sym c.gather_both.ensures.items) (last_refined k u w tasks ds c.work_first-joined.ensures.joined out c.work_first-joined.ensures.names c.requires.new c.requires.alone c.work_first-joined.ensures.told v es c.finish_rest-last.ensures.joined rest c.finish_rest-last.ensures.told
    (subst (All (λ (d : Joined). d.lists.failed ≡ None)) c.deref.ensures.value (c.any_failed.ensures.none c.if-any_failed.false))
    (subst (All (λ (d : Joined). d.lists.failed ≡ None)) c.deref-3.ensures.value (c.any_failed-2.ensures.none c.if-any_failed-2.false))
    c.finish_rest-last.ensures.last)
