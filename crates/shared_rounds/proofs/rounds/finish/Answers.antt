use Rattle.std.proofs.Common.{ℕ, ◌++◌, List, ◌∙◌, ap, subst, arith}
use Rattle.table_words.specs.Entries.{HasEntry}
use Rattle.mesh_table.specs.Sights.{Sight}
use Rattle.mesh_table.specs.Told.{sight}
use Rattle.shared_rounds.proofs.Keeping.{stock_planned}
use Rattle.shared_rounds.proofs.rounds.finish.Goals as goal

pub finish_round-requires-clause-retired : goal.finish_round-requires-clause-retired
finish_round-requires-clause-retired g c =
    let none = ap (λ (v : Sight). v.work.retired ++ v.ruling.retired) c.plan.ensures.view ∙ c.requires.fresh in
    record { right = λ k a. absurd (omega arith); all = λ b h. absurd (subst (λ (xs : List ℕ). HasEntry xs b) none h) }

pub finish_round-requires-clause-stock : goal.finish_round-requires-clause-stock
finish_round-requires-clause-stock g c = stock_planned c.args.table.now.site.layout (sight c.args.owner.now.seat) (sight c.plan.new.owner) c.args.stock.now c.plan.ensures.view c.requires.stock
