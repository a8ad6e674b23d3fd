use Rattle.std.proofs.Common.{subst, sym, Option}
use Rattle.mesh_table.specs.Told.{sight}
use Rattle.patch_claims.specs.Listed.{AreKept}
use Rattle.patch_claims.specs.declared.patch.Spot.{Spot}
use Rattle.table_passes.proofs.Keeping.{kept_answer, kept_listed}
use Rattle.table_passes.proofs.pass.Pass.refine.Goals as goal

pub refine_name-answer-requires-clause-listed : goal.refine_name-answer-requires-clause-listed
refine_name-answer-requires-clause-listed g c = kept_listed c.args.table.now.site (sight c.args.self.now.seat) c.args.self.now.lists.published.items c.args.self.now.lists.failed c.requires.kept c.requires.can.living

pub returns-clause-kept : goal.returns-clause-kept
returns-clause-kept g c = subst (λ (f : Option Spot). AreKept c.args.table.now.site (sight c.refine_name-answer.new.pass) c.refine_name-answer.new.published.items f) (sym c.failed_in-self.ensures)
    (kept_answer c.args.table.now.site (sight c.refine_name-answer.new.pass) c.refine_name-answer.new.published.items c.refine_name-answer.result c.refine_name-answer.ensures.listed c.refine_name-answer.ensures.kept)
