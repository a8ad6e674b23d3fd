use Rattle.std.proofs.Common.{◌≡◌, ◌∙◌, ap, map, reverse, List, All, subst, sym}
use Rattle.std.proofs.lemmas.Slice.Zip.{AllZip-long}
use Rattle.mesh_table.specs.Told.{sight}
use Rattle.table_passes.specs.Crew.{joined_all}
use Rattle.table_passes.specs.Tasks.{IsDone}
use Rattle.table_passes.specs.declared.work.Task.{Task}
use Rattle.shared_rounds.proofs.Joining.{done_names, has_joined, has_whole, written_back}
use Rattle.shared_rounds.proofs.refining.work_tasks.Goals as goal

pub returns-clause-joined : goal.returns-clause-joined
returns-clause-joined g c =
    let k = c.args.table.now.site in
    let was = c.as_mut_slice.result.now in
    let now = c.work_all.new.tasks in
    let back = written_back c.args.tasks.len now c.args.tasks.items (AllZip-long (IsDone k) was now c.work_all.ensures.done ∙ c.as_mut_slice.ensures.len) in
    has_joined k (sight c.args.owner.now.seat) (sight c.join_tasks.new.self.seat) was now c.join_tasks.result.items c.work_all.ensures.done
    (c.join_tasks.ensures.joined ∙ ap (λ (ts : List Task). joined_all (sight c.args.owner.now.seat) (map (λ (t : Task). sight t.pass.seat) ts)) back)
    (c.join_tasks.ensures.names ∙ ap (λ (ts : List Task). reverse (map (λ (t : Task). t.names.items) ts)) back)
    (c.join_tasks.ensures.answers ∙ ap (λ (ts : List Task). reverse (map (λ (t : Task). t.answers.items) ts)) back)
    (c.join_tasks.ensures.lists ∙ ap (λ (ts : List Task). reverse (map (λ (t : Task). t.pass.lists) ts)) back)
    c.join_tasks.ensures.claims

pub returns-clause-names : goal.returns-clause-names
returns-clause-names g c =
    let k = c.args.table.now.site in
    let was = c.as_mut_slice.result.now in
    let now = c.work_all.new.tasks in
    let back = written_back c.args.tasks.len now c.args.tasks.items (AllZip-long (IsDone k) was now c.work_all.ensures.done ∙ c.as_mut_slice.ensures.len) in
    c.join_tasks.ensures.names ∙ ap (λ (ts : List Task). reverse (map (λ (t : Task). t.names.items) ts)) back ∙ ap reverse (done_names k was now c.work_all.ensures.done ∙ ap (map (λ (t : Task). t.names.items)) c.as_mut_slice.ensures.value)

pub returns-clause-last : goal.returns-clause-last
returns-clause-last g c = λ last.
    let k = c.args.table.now.site in
    let was = c.as_mut_slice.result.now in
    let now = c.work_all.new.tasks in
    let back = written_back c.args.tasks.len now c.args.tasks.items (AllZip-long (IsDone k) was now c.work_all.ensures.done ∙ c.as_mut_slice.ensures.len) in
    has_whole k was now c.join_tasks.result.items c.work_all.ensures.done
    (c.join_tasks.ensures.names ∙ ap (λ (ts : List Task). reverse (map (λ (t : Task). t.names.items) ts)) back)
    (c.join_tasks.ensures.answers ∙ ap (λ (ts : List Task). reverse (map (λ (t : Task). t.answers.items) ts)) back)
    (c.join_tasks.ensures.lists ∙ ap (λ (ts : List Task). reverse (map (λ (t : Task). t.pass.lists) ts)) back)
    (subst (All (λ t. t.pass.number ≡ 0)) (sym c.as_mut_slice.ensures.value) last)
