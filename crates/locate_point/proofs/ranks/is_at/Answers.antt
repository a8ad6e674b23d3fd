use Rattle.std.proofs.Common.{sym}
use Rattle.std.proofs.lemmas.Bool.{true≢false}
use Rattle.locate_point.proofs.Searching.{found_at_rank, past_all}
use Rattle.locate_point.proofs.ranks.is_at.Goals as goal

pub returns-then-rank-names : goal.returns-then-rank-names
returns-then-rank-names c = (λ e. absurd (true≢false (sym e)), λ there. absurd (past_all c.args.names.now c.requires.sorted c.args.name c.args.rank c.requires.rank c.if-rank-names.true there))

pub returns : goal.returns
returns c = found_at_rank c.args.names.now c.requires.sorted c.args.name c.args.rank c.requires.rank c.index-names-rank.result c.eq.result c.if-rank-names.false c.index-names-rank.is c.eq.ensures
