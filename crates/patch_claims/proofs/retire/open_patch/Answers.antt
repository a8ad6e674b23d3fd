use Rattle.std.proofs.Common.{◌≡◌, ℕ, Bool, ◌+◌, ◌-◌, Option, IfSome, Some, None, sym, ap, ◌∙◌, subst, inl, inr, arith}
use Rattle.mesh_names.specs.Names.{Name}
use Rattle.table_words.specs.Entries.{HasEntry}
use Rattle.table_words.specs.NameWords.{name_code, name_word}
use Rattle.mesh_table.specs.Sights.{Sight, setup_at}
use Rattle.mesh_table.specs.Told.{sight}
use Rattle.patch_walk.specs.Finished.{NothingRetired, StillKnows}
use Rattle.patch_walk.proofs.Climbing.{Later, later_more}
use Rattle.patch_claims.specs.Retired.{ChildrenOld, IsDeeperIn}
use Rattle.patch_claims.proofs.Deeper.{children_old_on, deeper_in_after, mate_named, mate_number_of}
use Rattle.patch_claims.proofs.Leaving.{mate_stands, mate_keeps, mate_later, still_more}
use Rattle.patch_claims.proofs.retire.open_patch.Goals as goal

pub returns-in-Err-clause-deeper : goal.returns-in-Err-clause-deeper
returns-in-Err-clause-deeper c = inl c.in-Err.ensures.deeper

pub open_children-requires-2-clause-old : goal.open_children-requires-2-clause-old
open_children-requires-2-clause-old c =
    let s = setup_at c.args.table.now.site in
    let v = sight c.open_children.new.pass in
    let mate : StillKnows v (sight c.look_mate.new.seat) = subst (StillKnows v) (sym c.look_mate.ensures.view) (mate_keeps s c.args.block c.look_mate.result v) in
    children_old_on s (sight c.args.pass.now) (sight c.look_mate.new.seat) (still_more c.open_children.ensures.keeps mate) (name_code c.in-Some.other)
    (subst (λ (o : Option Name). IfSome o (λ m. ChildrenOld s (sight c.args.pass.now) (name_code m))) c.in-Some.is c.requires.old.1)

pub returns-in-Err-open_children-clause-saw : goal.returns-in-Err-open_children-clause-saw
returns-in-Err-open_children-clause-saw c =
    let u = sight c.args.pass.now in
    let v = sight c.open_children.new.pass in
    let w = sight c.look_mate.new.seat in
    later_more u w (sight c.open_children-2.new.pass) (subst (Later u) (sym c.look_mate.ensures.view) (mate_later (setup_at c.args.table.now.site) c.args.block c.look_mate.result u v c.open_children.ensures.saw)) c.open_children-2.ensures.saw

pub returns-in-Ok-open_children-clause-saw : goal.returns-in-Ok-open_children-clause-saw
returns-in-Ok-open_children-clause-saw c =
    let u = sight c.args.pass.now in
    let v = sight c.open_children.new.pass in
    let w = sight c.look_mate.new.seat in
    later_more u w (sight c.open_children-2.new.pass) (subst (Later u) (sym c.look_mate.ensures.view) (mate_later (setup_at c.args.table.now.site) c.args.block c.look_mate.result u v c.open_children.ensures.saw)) c.open_children-2.ensures.saw

pub returns-in-Err-open_children-clause-deeper : goal.returns-in-Err-open_children-clause-deeper
returns-in-Err-open_children-clause-deeper c =
    let s = setup_at c.args.table.now.site in
    let u = sight c.args.pass.now in
    let v = sight c.open_children.new.pass in
    let w = sight c.look_mate.new.seat in
    let x = sight c.open_children-2.new.pass in
    let e = c.in-Err-open_children.refusal in
    let mate : StillKnows v w = subst (StillKnows v) (sym c.look_mate.ensures.view) (mate_keeps s c.args.block c.look_mate.result v) in
    let l : Later u w = subst (Later u) (sym c.look_mate.ensures.view) (mate_later s c.args.block c.look_mate.result u v c.open_children.ensures.saw) in
    let i : name_code c.in-Some.other ≡ (name_code c.in-Some.other - 1) + 1 = mate_number_of c.in-Some.other in
    inr (
      name_code c.in-Some.other - 1,
      c.requires.mate ∙ ap name_word c.in-Some.is ∙ i,
      (λ b. c.open_children-2.ensures.keeps.open_ _ (mate.open_ _ (c.in-Ok.ensures.open_ b))),
      subst (λ (k : ℕ). IsDeeperIn s u x k e) i (deeper_in_after u w x l (still_more c.open_children.ensures.keeps mate) s (name_code c.in-Some.other) e c.in-Err-open_children.ensures.deeper),
    )

pub returns-in-Ok-open_children-clause-first : goal.returns-in-Ok-open_children-clause-first
returns-in-Ok-open_children-clause-first c =
    let s = setup_at c.args.table.now.site in
    let v = sight c.open_children.new.pass in
    let mate : StillKnows v (sight c.look_mate.new.seat) = subst (StillKnows v) (sym c.look_mate.ensures.view) (mate_keeps s c.args.block c.look_mate.result v) in
    λ b. c.open_children-2.ensures.keeps.open_ _ (mate.open_ _ (c.in-Ok.ensures.open_ b))

pub returns-in-Ok-open_children-clause-second : goal.returns-in-Ok-open_children-clause-second
returns-in-Ok-open_children-clause-second c =
    let s = setup_at c.args.table.now.site in
    let w = sight c.open_children-2.new.pass in
    mate_named s (λ (k : ℕ). (b : Bool) → HasEntry w.work.open_ (s.child k b)) (name_code c.args.first) c.in-Some.other (c.requires.mate ∙ ap name_word c.in-Some.is) c.in-Ok-open_children.ensures.open_
