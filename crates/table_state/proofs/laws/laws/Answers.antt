use Rattle.table_state.proofs.Lawful.{bounded, one_holder, one_claim, draws_bounded, free_rows, walks_agree, blocks_placed, walks_end, retired_born, walks_short, parents_bisected, members_together, places_agree, notes_agree, reached_kept, drained_rounds, covers_bisect}
use Rattle.table_state.proofs.ClaimLaws.{bits_claimed, second_places, stages_viewed, draws_counted, unborn_blocks, free_unborn, unborn_claimed, target_least}
use Rattle.table_state.proofs.RoundLaws.{living_aimed, between, differs, closed, aimed, lists_known, history_right, told_prefix, notes_told, draws_apart, claims_drawn, quiet_round, walks_begin, chains_stand, standing_kept, rounds_left, worker_alone}
use Rattle.table_state.proofs.SeatLaws.{begins_equal, living_claimed, living_blocks, findings_right, finished_findings, workers_went, one_half, filled_stays, loaded_stays, owner_words, pins_counted, link_words, history_words, retired_noted, pins_out, pins_of_rounds, rounds_fall, numbers_known, blocks_known, others_empty, passes_counted}
use Rattle.table_state.proofs.TableLaws.{blocks_in_pool, blocks_viewed, places_in_table, chains_named, elements_named, walk_sides, claims_listed_once}
use Rattle.table_state.proofs.OwnerLaws.{dead_noted, free_found, stock_rows, blocks_noted, kept_exact, noted_kinds, walked_noted, early_pins, blocks_counted, patches_counted}
use Rattle.table_state.proofs.DrawLaws.{draws_of_target, pool_covered, round_fits}
use Rattle.table_state.proofs.KnownNames.{walks_chained, known_found}
use Rattle.table_state.proofs.FreshList.{fresh_from_list}
use Rattle.table_state.proofs.Fresh.{fresh_is_lawful}
use Rattle.table_state.proofs.laws.laws.Goals as goal

pub returns-clause-bounded : goal.returns-clause-bounded
returns-clause-bounded c = bounded

pub returns-clause-holder : goal.returns-clause-holder
returns-clause-holder c = one_holder

pub returns-clause-claim : goal.returns-clause-claim
returns-clause-claim c = one_claim

pub returns-clause-bits : goal.returns-clause-bits
returns-clause-bits c = bits_claimed

pub returns-clause-seconds : goal.returns-clause-seconds
returns-clause-seconds c = second_places

pub returns-clause-stages : goal.returns-clause-stages
returns-clause-stages c = stages_viewed

pub returns-clause-counted : goal.returns-clause-counted
returns-clause-counted c = draws_counted

pub returns-clause-unborn : goal.returns-clause-unborn
returns-clause-unborn c = unborn_blocks

pub returns-clause-free : goal.returns-clause-free
returns-clause-free c = free_unborn

pub returns-clause-halves : goal.returns-clause-halves
returns-clause-halves c = unborn_claimed

pub returns-clause-aim : goal.returns-clause-aim
returns-clause-aim c = target_least

pub returns-clause-draws : goal.returns-clause-draws
returns-clause-draws c = draws_bounded

pub returns-clause-rows : goal.returns-clause-rows
returns-clause-rows c = free_rows

pub returns-clause-walks : goal.returns-clause-walks
returns-clause-walks c = walks_agree

pub returns-clause-placed : goal.returns-clause-placed
returns-clause-placed c = blocks_placed

pub returns-clause-ends : goal.returns-clause-ends
returns-clause-ends c = walks_end

pub returns-clause-born : goal.returns-clause-born
returns-clause-born c = retired_born

pub returns-clause-short : goal.returns-clause-short
returns-clause-short c = walks_short

pub returns-clause-parents : goal.returns-clause-parents
returns-clause-parents c = parents_bisected

pub returns-clause-together : goal.returns-clause-together
returns-clause-together c = members_together

pub returns-clause-places : goal.returns-clause-places
returns-clause-places c = places_agree

pub returns-clause-notes : goal.returns-clause-notes
returns-clause-notes c = notes_agree

pub returns-clause-reuse : goal.returns-clause-reuse
returns-clause-reuse c = reached_kept

pub returns-clause-drained : goal.returns-clause-drained
returns-clause-drained c = drained_rounds

pub returns-clause-between : goal.returns-clause-between
returns-clause-between c = between

pub returns-clause-differs : goal.returns-clause-differs
returns-clause-differs c = differs

pub returns-clause-closed : goal.returns-clause-closed
returns-clause-closed c = closed

pub returns-clause-aimed : goal.returns-clause-aimed
returns-clause-aimed c = aimed

pub returns-clause-lists : goal.returns-clause-lists
returns-clause-lists c = lists_known

pub returns-clause-history : goal.returns-clause-history
returns-clause-history c = history_right

pub returns-clause-told : goal.returns-clause-told
returns-clause-told c = told_prefix

pub returns-clause-noted : goal.returns-clause-noted
returns-clause-noted c = notes_told

pub returns-clause-drawn : goal.returns-clause-drawn
returns-clause-drawn c = draws_apart

pub returns-clause-draw : goal.returns-clause-draw
returns-clause-draw c = claims_drawn

pub returns-clause-quiet : goal.returns-clause-quiet
returns-clause-quiet c = quiet_round

pub returns-clause-begin : goal.returns-clause-begin
returns-clause-begin c = walks_begin

pub returns-clause-chains : goal.returns-clause-chains
returns-clause-chains c = chains_stand

pub returns-clause-standing : goal.returns-clause-standing
returns-clause-standing c = standing_kept

pub returns-clause-rounds : goal.returns-clause-rounds
returns-clause-rounds c = rounds_left

pub returns-clause-alone : goal.returns-clause-alone
returns-clause-alone c = worker_alone

pub returns-clause-equal : goal.returns-clause-equal
returns-clause-equal c = begins_equal

pub returns-clause-claimed : goal.returns-clause-claimed
returns-clause-claimed c = living_claimed

pub returns-clause-living : goal.returns-clause-living
returns-clause-living c = living_blocks

pub returns-clause-findings : goal.returns-clause-findings
returns-clause-findings c = findings_right

pub returns-clause-finished : goal.returns-clause-finished
returns-clause-finished c = finished_findings

pub returns-clause-went : goal.returns-clause-went
returns-clause-went c = workers_went

pub returns-clause-half : goal.returns-clause-half
returns-clause-half c = one_half

pub returns-clause-filled : goal.returns-clause-filled
returns-clause-filled c = filled_stays

pub returns-clause-loaded : goal.returns-clause-loaded
returns-clause-loaded c = loaded_stays

pub returns-clause-owned : goal.returns-clause-owned
returns-clause-owned c = owner_words

pub returns-clause-pinned : goal.returns-clause-pinned
returns-clause-pinned c = pins_counted

pub returns-clause-links : goal.returns-clause-links
returns-clause-links c = link_words

pub returns-clause-histories : goal.returns-clause-histories
returns-clause-histories c = history_words

pub returns-clause-retired : goal.returns-clause-retired
returns-clause-retired c = retired_noted

pub returns-clause-pool : goal.returns-clause-pool
returns-clause-pool c = blocks_in_pool

pub returns-clause-viewed : goal.returns-clause-viewed
returns-clause-viewed c = blocks_viewed

pub returns-clause-table : goal.returns-clause-table
returns-clause-table c = places_in_table

pub returns-clause-named : goal.returns-clause-named
returns-clause-named c = chains_named

pub returns-clause-elements : goal.returns-clause-elements
returns-clause-elements c = elements_named

pub returns-clause-sides : goal.returns-clause-sides
returns-clause-sides c = walk_sides

pub returns-clause-once : goal.returns-clause-once
returns-clause-once c = claims_listed_once

pub returns-clause-list : goal.returns-clause-list
returns-clause-list c = fresh_from_list

pub returns-clause-fresh : goal.returns-clause-fresh
returns-clause-fresh c = fresh_is_lawful

pub returns-clause-covers : goal.returns-clause-covers
returns-clause-covers c = covers_bisect

pub returns-clause-out : goal.returns-clause-out
returns-clause-out c = pins_out

pub returns-clause-numbers : goal.returns-clause-numbers
returns-clause-numbers c = numbers_known

pub returns-clause-blocks : goal.returns-clause-blocks
returns-clause-blocks c = blocks_known

pub returns-clause-living_aimed : goal.returns-clause-living_aimed
returns-clause-living_aimed c = living_aimed

pub returns-clause-others : goal.returns-clause-others
returns-clause-others c = others_empty

pub returns-clause-passes : goal.returns-clause-passes
returns-clause-passes c = passes_counted

pub returns-clause-frees : goal.returns-clause-frees
returns-clause-frees c = free_found

pub returns-clause-stock : goal.returns-clause-stock
returns-clause-stock c = stock_rows

pub returns-clause-blocks_noted : goal.returns-clause-blocks_noted
returns-clause-blocks_noted c = blocks_noted

pub returns-clause-kept : goal.returns-clause-kept
returns-clause-kept c = kept_exact

pub returns-clause-kinds : goal.returns-clause-kinds
returns-clause-kinds c = noted_kinds

pub returns-clause-walked : goal.returns-clause-walked
returns-clause-walked c = walked_noted

pub returns-clause-early : goal.returns-clause-early
returns-clause-early c = early_pins

pub returns-clause-count : goal.returns-clause-count
returns-clause-count c = blocks_counted

pub returns-clause-patches : goal.returns-clause-patches
returns-clause-patches c = patches_counted

pub returns-clause-dead : goal.returns-clause-dead
returns-clause-dead c = dead_noted

pub returns-clause-draws_of_target : goal.returns-clause-draws_of_target
returns-clause-draws_of_target c = draws_of_target

pub returns-clause-pool_covered : goal.returns-clause-pool_covered
returns-clause-pool_covered c = pool_covered

pub returns-clause-fits : goal.returns-clause-fits
returns-clause-fits c = round_fits

pub returns-clause-walks_chained : goal.returns-clause-walks_chained
returns-clause-walks_chained c = walks_chained

pub returns-clause-known_found : goal.returns-clause-known_found
returns-clause-known_found c = known_found

pub returns-clause-most : goal.returns-clause-most
returns-clause-most c = pins_of_rounds

pub returns-clause-fall : goal.returns-clause-fall
returns-clause-fall c = rounds_fall
