use Rattle.std.proofs.Common.{◌≡◌, ℕ, ◌≤◌, All, length, map, sym, ap, ◌∙◌, subst, arith}
use Rattle.std.specs.List.{range_with_len}
use Rattle.std.proofs.lemmas.List.{length-map}
use Rattle.std.proofs.lemmas.Result.{IfErr-weaker, IfOk-weaker}
use Rattle.std.proofs.lemmas.List.FromFn.{length-map-range_with_len}
use Rattle.compat_check.specs.Meshes.{shape_of}
use Rattle.table_words.specs.Entries.{HasEntry}
use Rattle.table_words.specs.Views.{Ruling}
use Rattle.table_state.specs.Lists.{IsClosed}
use Rattle.mesh_table.specs.Sights.{Sight, setup_at}
use Rattle.mesh_table.specs.Told.{sight}
use Rattle.table_passes.specs.Answers.{IsAimed}
use Rattle.table_passes.specs.Shares.{every}
use Rattle.table_passes.specs.declared.work.Task.{Task}
use Rattle.shared_rounds.specs.FirstHalf.{IsOverfull, IsRefined}
use Rattle.shared_rounds.specs.Room.{HasHalfRoom, count_all}
use Rattle.shared_rounds.proofs.Covering.{all_shares, left_claims, left_ruling, may_plan, overfull_needs, refined_needs, shares_counted}
use Rattle.shared_rounds.proofs.needs.refine_needs.Goals as goal

pub refine_all-requires-clause-half : goal.refine_all-requires-clause-half
refine_all-requires-clause-half g c κs within =
    let u = sight c.args.owner.now.seat in
    let n = c.args.workers in
    let out = c.in_ok-tasks.ensures.left in
    ap (λ (v : Sight). v.ruling.phase) out ∙ ap (λ (r : Ruling). r.phase) (left_ruling n u c.requires.alone) ∙ c.requires.half

pub refine_all-requires-clause-none : goal.refine_all-requires-clause-none
refine_all-requires-clause-none g c κs within =
    let u = sight c.args.owner.now.seat in
    let n = c.args.workers in
    let out = c.in_ok-tasks.ensures.left in
    subst (λ (r : Ruling). r.high ≤ r.low) (sym (ap (λ (v : Sight). v.ruling) out ∙ left_ruling n u c.requires.alone)) c.requires.none

pub refine_all-requires-clause-new : goal.refine_all-requires-clause-new
refine_all-requires-clause-new g c κs within =
    let u = sight c.args.owner.now.seat in
    let n = c.args.workers in
    let out = c.in_ok-tasks.ensures.left in
    ap (λ (v : Sight). v.claims) out ∙ left_claims n u ∙ c.requires.new

pub refine_all-requires-clause-alone : goal.refine_all-requires-clause-alone
refine_all-requires-clause-alone g c κs within =
    let u = sight c.args.owner.now.seat in
    let n = c.args.workers in
    let out = c.in_ok-tasks.ensures.left in
    ap (λ (v : Sight). v.ruling.lone) out ∙ ap (λ (r : Ruling). r.lone) (left_ruling n u c.requires.alone)

pub refine_all-requires-clause-out : goal.refine_all-requires-clause-out
refine_all-requires-clause-out g c κs within =
    let u = sight c.args.owner.now.seat in
    let n = c.args.workers in
    let out = c.in_ok-tasks.ensures.left in
    let dealt = map (λ (t : Task). t.names.items) c.in_ok-tasks.tasks.items in
    let shares : dealt ≡ map (λ (first : ℕ). every n first c.args.needs.now) (range_with_len 0 n) = c.in_ok-tasks.ensures.names in
    let a = ap (λ (v : Sight). v.ruling.workers) out ∙ ap (λ (r : Ruling). r.workers) (left_ruling n u c.requires.alone) in
    let b : length c.in_ok-tasks.tasks.items ≡ n = sym (length-map c.in_ok-tasks.tasks.items (λ (t : Task). t.names.items)) ∙ ap length shares ∙ length-map-range_with_len (λ (first : ℕ). every n first c.args.needs.now) 0 n in
    let d = c.requires.home in
    omega arith

pub refine_all-requires-clause-closed : goal.refine_all-requires-clause-closed
refine_all-requires-clause-closed g c κs within =
    let u = sight c.args.owner.now.seat in
    let n = c.args.workers in
    let out = c.in_ok-tasks.ensures.left in
    subst (λ (r : Ruling). IsClosed (setup_at c.args.table.now.site) (HasEntry r.plan.target)) (sym (ap (λ (v : Sight). v.ruling) out ∙ left_ruling n u c.requires.alone)) c.requires.closed

pub refine_all-requires-clause-aimed : goal.refine_all-requires-clause-aimed
refine_all-requires-clause-aimed g c κs within =
    let u = sight c.args.owner.now.seat in
    let n = c.args.workers in
    let out = c.in_ok-tasks.ensures.left in
    let dealt = map (λ (t : Task). t.names.items) c.in_ok-tasks.tasks.items in
    let shares : dealt ≡ map (λ (first : ℕ). every n first c.args.needs.now) (range_with_len 0 n) = c.in_ok-tasks.ensures.names in
    let mesh = shape_of c.args.table.now.site.mesh.now in
    subst (λ (r : Ruling). All (All (IsAimed mesh r.plan.target)) dealt) (sym (ap (λ (v : Sight). v.ruling) out ∙ left_ruling n u c.requires.alone))
    (subst (All (All (IsAimed mesh u.ruling.plan.target))) (sym shares) (all_shares (IsAimed mesh u.ruling.plan.target) n c.args.needs.now 0 n c.requires.aimed))

pub refine_all-requires-clause-room : goal.refine_all-requires-clause-room
refine_all-requires-clause-room g c κs within =
    let u = sight c.args.owner.now.seat in
    let n = c.args.workers in
    let out = c.in_ok-tasks.ensures.left in
    let dealt = map (λ (t : Task). t.names.items) c.in_ok-tasks.tasks.items in
    let shares : dealt ≡ map (λ (first : ℕ). every n first c.args.needs.now) (range_with_len 0 n) = c.in_ok-tasks.ensures.names in
    let b : length c.in_ok-tasks.tasks.items ≡ n = sym (length-map c.in_ok-tasks.tasks.items (λ (t : Task). t.names.items)) ∙ ap length shares ∙ length-map-range_with_len (λ (first : ℕ). every n first c.args.needs.now) 0 n in
    let d : count_all dealt ≡ length c.args.needs.now = ap count_all shares ∙ shares_counted n c.args.needs.now c.requires.workers.0 in
    subst (λ (k : ℕ). HasHalfRoom c.args.table.now.site.layout.pool (count_all dealt) k c.in_ok-room.room) (sym b)
    (subst (λ (k : ℕ). HasHalfRoom c.args.table.now.site.layout.pool k n c.in_ok-room.room) (sym d)
    (subst (λ (k : ℕ). HasHalfRoom k (length c.args.needs.now) n c.in_ok-room.room) c.requires.pool c.in_ok-room.ensures))

pub returns-clause-refined : goal.returns-clause-refined
returns-clause-refined g c =
    let u = sight c.args.owner.now.seat in
    let n = c.args.workers in
    let out = c.in_ok-tasks.ensures.left in
    let dealt = map (λ (t : Task). t.names.items) c.in_ok-tasks.tasks.items in
    let shares : dealt ≡ map (λ (first : ℕ). every n first c.args.needs.now) (range_with_len 0 n) = c.in_ok-tasks.ensures.names in
    let k = c.args.table.now.site in
    let v = sight c.refine_all.new.owner.seat in
    IfOk-weaker c.refine_all.result _ _ (λ b r. refined_needs (setup_at k) k.layout u v n c.requires.workers.0 c.requires.alone c.args.needs.now dealt shares b.items
    (subst (λ (w : Sight). IsRefined k.layout w v dealt b.items) out r)) c.refine_all.ensures.refined

pub returns-clause-may : goal.returns-clause-may
returns-clause-may g c =
    let u = sight c.args.owner.now.seat in
    let n = c.args.workers in
    let out = c.in_ok-tasks.ensures.left in
    let dealt = map (λ (t : Task). t.names.items) c.in_ok-tasks.tasks.items in
    let shares : dealt ≡ map (λ (first : ℕ). every n first c.args.needs.now) (range_with_len 0 n) = c.in_ok-tasks.ensures.names in
    let k = c.args.table.now.site in
    let v = sight c.refine_all.new.owner.seat in
    IfOk-weaker c.refine_all.result _ _ (λ b r. may_plan (setup_at k) k.layout u v n c.requires.workers.0 c.requires.alone c.args.needs.now dealt shares c.args.owner.now.rules c.requires.half c.requires.needs b.items
    (subst (λ (w : Sight). IsRefined k.layout w v dealt b.items) out r)) c.refine_all.ensures.refined

pub returns-clause-overfull : goal.returns-clause-overfull
returns-clause-overfull g c =
    let u = sight c.args.owner.now.seat in
    let n = c.args.workers in
    let out = c.in_ok-tasks.ensures.left in
    let dealt = map (λ (t : Task). t.names.items) c.in_ok-tasks.tasks.items in
    let shares : dealt ≡ map (λ (first : ℕ). every n first c.args.needs.now) (range_with_len 0 n) = c.in_ok-tasks.ensures.names in
    let k = c.args.table.now.site in
    let v = sight c.refine_all.new.owner.seat in
    IfErr-weaker c.refine_all.result _ _ (λ b r. overfull_needs (setup_at k) k.layout u v n c.requires.workers.0 c.requires.alone c.args.needs.now dealt shares b.items
    (subst (λ (w : Sight). IsOverfull (setup_at k) k.layout w v b.items) out r)) c.refine_all.ensures.overfull
