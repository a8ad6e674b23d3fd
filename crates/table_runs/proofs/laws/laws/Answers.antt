use Rattle.table_runs.proofs.SquareRound3.{table_runs}
use Rattle.table_runs.proofs.SquareReads.{square_reads}
use Rattle.table_runs.proofs.SquareFollows.{square_follows}
use Rattle.table_runs.proofs.SquareRefused.{square_refused}
use Rattle.table_runs.proofs.SquareVisits.{square_visits}
use Rattle.table_runs.proofs.SquareFreed.{square_freed, frees_alone}
use Rattle.table_runs.proofs.SquareStock3.{square_stock, row_kept, stock_drawn, grown_walked}
use Rattle.table_runs.proofs.SquareFull.{square_full}
use Rattle.table_runs.proofs.SquareUndrawn.{square_undrawn}
use Rattle.table_runs.proofs.SquareTwice.{square_twice}
use Rattle.table_runs.proofs.SquareChild.{square_child}
use Rattle.table_runs.proofs.ChildReads.{child_reads}
use Rattle.table_runs.proofs.TwiceReads.{twice_reads}
use Rattle.table_runs.proofs.SquareKinds.{kinds_occur, runs_lawful, two_words, workers_claim}
use Rattle.table_runs.proofs.laws.laws.Goals as goal

pub returns-clause-square : goal.returns-clause-square
returns-clause-square c = table_runs

pub returns-clause-square_reads : goal.returns-clause-square_reads
returns-clause-square_reads c = square_reads

pub returns-clause-follows : goal.returns-clause-follows
returns-clause-follows c = square_follows

pub returns-clause-refused : goal.returns-clause-refused
returns-clause-refused c = square_refused

pub returns-clause-visits : goal.returns-clause-visits
returns-clause-visits c = square_visits

pub returns-clause-full : goal.returns-clause-full
returns-clause-full c = square_full

pub returns-clause-undrawn : goal.returns-clause-undrawn
returns-clause-undrawn c = square_undrawn

pub returns-clause-twice : goal.returns-clause-twice
returns-clause-twice c = square_twice

pub returns-clause-child : goal.returns-clause-child
returns-clause-child c = square_child

pub returns-clause-child_reads : goal.returns-clause-child_reads
returns-clause-child_reads c = child_reads

pub returns-clause-lawful : goal.returns-clause-lawful
returns-clause-lawful c = runs_lawful

pub returns-clause-kinds : goal.returns-clause-kinds
returns-clause-kinds c = kinds_occur

pub returns-clause-twice_reads : goal.returns-clause-twice_reads
returns-clause-twice_reads c = twice_reads

pub returns-clause-two_words : goal.returns-clause-two_words
returns-clause-two_words c = two_words

pub returns-clause-workers_claim : goal.returns-clause-workers_claim
returns-clause-workers_claim c = workers_claim

pub returns-clause-freed : goal.returns-clause-freed
returns-clause-freed c = square_freed

pub returns-clause-frees_alone : goal.returns-clause-frees_alone
returns-clause-frees_alone c = frees_alone

pub returns-clause-stock : goal.returns-clause-stock
returns-clause-stock c = square_stock

pub returns-clause-row_kept : goal.returns-clause-row_kept
returns-clause-row_kept c = row_kept

pub returns-clause-stock_drawn : goal.returns-clause-stock_drawn
returns-clause-stock_drawn c = stock_drawn

pub returns-clause-grown : goal.returns-clause-grown
returns-clause-grown c = grown_walked
