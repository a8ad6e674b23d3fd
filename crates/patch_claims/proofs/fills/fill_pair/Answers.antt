use Rattle.std.proofs.Common.{◌+◌, ◌-◌, arith}
use Rattle.table_words.specs.NameWords.{name_code}
use Rattle.table_words.specs.Places.{place_number}
use Rattle.table_words.specs.Links.{after}
use Rattle.table_words.specs.Words.{node, node_of}
use Rattle.mesh_table.specs.Sights.{setup_at}
use Rattle.mesh_table.specs.Told.{sight}
use Rattle.patch_claims.proofs.Filled.{may_link_pair}
use Rattle.patch_claims.proofs.fills.fill_pair.Goals as goal

pub fill_died-requires-clause-may : goal.fill_died-requires-clause-may
fill_died-requires-clause-may c = (c.requires.works, (place_number c.args.table.now.site.layout c.args.at, (place_number c.args.table.now.site.layout c.args.other + 1), c.requires.drew))

pub fill_name-requires-clause-may : goal.fill_name-requires-clause-may
fill_name-requires-clause-may c = rw c.fill_died.ensures.view (c.requires.works, (place_number c.args.table.now.site.layout c.args.at, (place_number c.args.table.now.site.layout c.args.other + 1), c.requires.drew))

pub fill_name-requires-2-clause-may : goal.fill_name-requires-2-clause-may
fill_name-requires-2-clause-may c = rw (c.fill_name.ensures.view, c.fill_died.ensures.view) (c.requires.works, (place_number c.args.table.now.site.layout c.args.at, (place_number c.args.table.now.site.layout c.args.other + 1), c.requires.drew))

pub fill_children-requires-clause-may : goal.fill_children-requires-clause-may
fill_children-requires-clause-may c = rw (c.fill_name-2.ensures.view, c.fill_name.ensures.view, c.fill_died.ensures.view) (c.requires.works, (place_number c.args.table.now.site.layout c.args.at, (place_number c.args.table.now.site.layout c.args.other + 1), c.requires.drew))

pub fill_history-requires-clause-may : goal.fill_history-requires-clause-may
fill_history-requires-clause-may c = rw (c.look_link.ensures.view, c.fill_children.ensures.view, c.fill_name-2.ensures.view, c.fill_name.ensures.view, c.fill_died.ensures.view) (c.requires.works, (place_number c.args.table.now.site.layout c.args.at, (place_number c.args.table.now.site.layout c.args.other + 1), c.requires.drew))

pub fill_history-requires-2-clause-may : goal.fill_history-requires-2-clause-may
fill_history-requires-2-clause-may c = rw (c.look_link-2.ensures.view, c.fill_history.ensures.view, c.look_link.ensures.view, c.fill_children.ensures.view, c.fill_name-2.ensures.view, c.fill_name.ensures.view, c.fill_died.ensures.view) (c.requires.works, (place_number c.args.table.now.site.layout c.args.at, (place_number c.args.table.now.site.layout c.args.other + 1), c.requires.drew))

pub returns-clause-may : goal.returns-clause-may
returns-clause-may c =
    rw (c.fill_history-2.ensures.view, c.look_link-2.ensures.view, c.fill_history.ensures.view, c.look_link.ensures.view, c.fill_children.ensures.view, c.fill_name-2.ensures.view, c.fill_name.ensures.view, c.fill_died.ensures.view)
    (may_link_pair (setup_at c.args.table.now.site) (sight c.args.pass.now) (place_number c.args.table.now.site.layout c.args.at) (place_number c.args.table.now.site.layout c.args.other) c.args.block (name_code c.args.name) (name_code c.args.partner) (node_of c.look_link.result) (node (after c.past_of-past.result.block) c.past_of-past.result.died) (node_of c.look_link-2.result) (node (after c.past_of-second.result.block) c.past_of-second.result.died)
    c.past_of-past.ensures.1 c.past_of-second.ensures.1 c.requires.apart c.requires.works c.requires.drew c.requires.found c.requires.mate c.requires.leads.0 c.requires.leads.1 (name_code c.args.partner - 1, omega arith)
    (λ d low e. c.fill_children.ensures.apart (place_number c.args.table.now.site.layout c.args.at) (name_code c.args.name) d (rw (c.fill_name-2.ensures.view, c.fill_name.ensures.view, c.fill_died.ensures.view) c.requires.found) low e)
    (λ d low e. c.fill_children.ensures.apart (place_number c.args.table.now.site.layout c.args.other) (name_code c.args.partner) d (rw (c.fill_name-2.ensures.view, c.fill_name.ensures.view, c.fill_died.ensures.view) c.requires.mate) low e))

pub returns-clause-unfound : goal.returns-clause-unfound
returns-clause-unfound c y a d found low at = c.fill_children.ensures.apart y a d (rw (c.fill_name-2.ensures.view, c.fill_name.ensures.view, c.fill_died.ensures.view) found) low at
