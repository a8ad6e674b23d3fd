use Rattle.std.proofs.Common.{◌≡◌, false, ◌∙◌, sym, subst}
use Rattle.std.proofs.lemmas.List.Elements.{All-push}
use Rattle.compat_check.specs.Meshes.{across_in, shape_of}
use Rattle.mesh_names.specs.Names.{Name}
use Rattle.mesh_table.specs.Told.{sight}
use Rattle.table_passes.specs.Answers.{Answer, HasAnswered, NoneFull, is_full}
use Rattle.table_passes.proofs.Running.{full_failed, ran_next, more_count, works_next, worked_full}
use Rattle.table_passes.proofs.tasks.refine_names.Goals as goal

pub returns-then-full-clause-worked : goal.returns-then-full-clause-worked
returns-then-full-clause-worked g c = let mesh = shape_of c.args.table.now.site.mesh.now in let x = across_in c.args.table.now.site.mesh.now in
    worked_full mesh x (sight c.args.pass.now.seat) (sight c.loop-name.pass.seat) (sight c.refine-answer.new.self.seat) c.args.names.now c.loop-name.name-index c.name-item.result
    c.loop-name.answers.items c.push_reserved.new.self.items c.refine-answer.result c.loop-name-test.true c.loop-name.invariant.count c.loop-name.invariant.works c.loop-name.invariant.ran
    (subst (λ (n : Name). HasAnswered mesh x (sight c.loop-name.pass.seat) (sight c.refine-answer.new.self.seat) n c.refine-answer.result) c.name-item.is c.refine-answer.ensures.answered)
    c.push_reserved.ensures.items (sym c.if-full.ensures)

pub returns-then-full-clause-failed : goal.returns-then-full-clause-failed
returns-then-full-clause-failed g c = λ none. absurd (full_failed c.refine-answer.result (sym c.if-full.ensures) (sym c.refine-answer.ensures.failed ∙ none))

pub loop-name-preserved : goal.loop-name-preserved
loop-name-preserved g c = let mesh = shape_of c.args.table.now.site.mesh.now in let x = across_in c.args.table.now.site.mesh.now in let old = c.loop-name.invariant in
    let has = subst (λ (n : Name). HasAnswered mesh x (sight c.loop-name.pass.seat) (sight c.refine-answer.new.self.seat) n c.refine-answer.result) c.name-item.is c.refine-answer.ensures.answered in
    let step = c.refine-answer.ensures in record {
      stays = (step.stays.0 ∙ old.stays.0, step.stays.1 ∙ old.stays.1, step.stays.2 ∙ old.stays.2);
      round = step.round ∙ old.round;
      number = step.number ∙ old.number;
      works = works_next mesh x (sight c.args.pass.now.seat) (sight c.loop-name.pass.seat) (sight c.refine-answer.new.self.seat) c.args.names.now c.loop-name.name-index c.name-item.result c.loop-name.answers.items c.push_reserved.new.self.items c.refine-answer.result c.loop-name-test.true old.count old.works old.ran has c.push_reserved.ensures.items;
      living = step.answered.living (sym c.if-full.ensures);
      count = more_count mesh x (sight c.args.pass.now.seat) (sight c.loop-name.pass.seat) (sight c.refine-answer.new.self.seat) c.args.names.now c.loop-name.name-index c.name-item.result c.loop-name.answers.items c.push_reserved.new.self.items c.refine-answer.result c.loop-name-test.true old.count old.works old.ran has c.push_reserved.ensures.items;
      ran = ran_next mesh x (sight c.args.pass.now.seat) (sight c.loop-name.pass.seat) (sight c.refine-answer.new.self.seat) c.args.names.now c.loop-name.name-index c.name-item.result c.loop-name.answers.items c.push_reserved.new.self.items c.refine-answer.result c.loop-name-test.true old.count old.works old.ran has c.push_reserved.ensures.items;
      capacity = c.push_reserved.ensures.capacity ∙ old.capacity;
      kept = step.kept;
      none = subst NoneFull (sym c.push_reserved.ensures.items) (All-push (λ (a : Answer). is_full a ≡ false) c.loop-name.answers.items c.refine-answer.result old.none (sym c.if-full.ensures));
      list = step.room ∙ old.list;
    }
