use Rattle.std.proofs.Common.{Bool, true, false, true≢false, sym}
use Rattle.table_words.specs.Entries.{HasEntry}
use Rattle.table_words.specs.NameWords.{name_code}
use Rattle.mesh_table.specs.Sights.{setup_at}
use Rattle.mesh_table.specs.Told.{sight}
use Rattle.patch_walk.proofs.Climbing.{later_more}
use Rattle.patch_claims.proofs.Deeper.{children_old_on, undead_after, both_open}
use Rattle.patch_claims.proofs.retire.open_children.Goals as goal

pub open_child-requires-clause-stood : goal.open_child-requires-clause-stood
open_child-requires-clause-stood c = c.requires.stood false

pub returns-in-Err-clause-deeper : goal.returns-in-Err-clause-deeper
returns-in-Err-clause-deeper c = (false, (λ e. absurd (true≢false (sym e))), c.in-Err.ensures.deeper)

pub open_child-requires-2-clause-stood : goal.open_child-requires-2-clause-stood
open_child-requires-2-clause-stood c = c.open_child.ensures.keeps.stood _ (c.requires.stood true)

pub open_child-requires-2-clause-old : goal.open_child-requires-2-clause-old
open_child-requires-2-clause-old c = children_old_on (setup_at c.args.table.now.site) (sight c.args.pass.now) (sight c.open_child.new.pass) c.open_child.ensures.keeps (name_code c.args.name) c.requires.old

pub returns-in-Err-open_child-clause-saw : goal.returns-in-Err-open_child-clause-saw
returns-in-Err-open_child-clause-saw c = later_more (sight c.args.pass.now) (sight c.open_child.new.pass) (sight c.open_child-2.new.pass) c.open_child.ensures.saw c.open_child-2.ensures.saw

pub returns-in-Err-open_child-clause-deeper : goal.returns-in-Err-open_child-clause-deeper
returns-in-Err-open_child-clause-deeper c = (
  true,
  (λ e. c.open_child-2.ensures.keeps.open_ _ c.in-Ok.ensures.open_),
  undead_after (sight c.args.pass.now) (sight c.open_child.new.pass) (sight c.open_child-2.new.pass) c.open_child.ensures.saw c.open_child.ensures.keeps ((setup_at c.args.table.now.site).child (name_code c.args.name) true) c.in-Err-open_child.refusal c.in-Err-open_child.ensures.deeper,
)

pub returns-in-Ok-open_child-clause-saw : goal.returns-in-Ok-open_child-clause-saw
returns-in-Ok-open_child-clause-saw c = later_more (sight c.args.pass.now) (sight c.open_child.new.pass) (sight c.open_child-2.new.pass) c.open_child.ensures.saw c.open_child-2.ensures.saw

pub returns-in-Ok-open_child-clause-open_ : goal.returns-in-Ok-open_child-clause-open_
returns-in-Ok-open_child-clause-open_ c = both_open (λ (b : Bool). HasEntry (sight c.open_child-2.new.pass).work.open_ ((setup_at c.args.table.now.site).child (name_code c.args.name) b)) (c.open_child-2.ensures.keeps.open_ _ c.in-Ok.ensures.open_) c.in-Ok-open_child.ensures.open_
