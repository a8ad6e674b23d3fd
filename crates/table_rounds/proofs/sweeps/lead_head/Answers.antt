use Rattle.std.proofs.Common.{◌≡◌, ℕ, ◌<◌, refl, sym, ap, ◌∙◌, arith}
use Rattle.table_words.specs.Places.{place_number}
use Rattle.table_words.specs.Words.{node_of}
use Rattle.mesh_table.specs.Told.{sight}
use Rattle.table_rounds.proofs.Cuts.{head_begins, head_here, head_goes, may_on}
use Rattle.table_rounds.proofs.sweeps.lead_head.Goals as goal

pub loop-at-init : goal.loop-at-init
loop-at-init c =
    let l = c.args.table.now.site.layout in
    let o = c.look_version-word in
    record {
      stays = o.ensures.stays;
      led = head_begins l.pool (place_number l c.args.at) (node_of o.result) (sight c.args.owner.now) (sight o.new.owner) o.ensures.more o.ensures.head o.ensures.leads o.ensures.living o.ensures.two;
    }

pub cut_head-word-requires-clause-may : goal.cut_head-word-requires-clause-may
cut_head-word-requires-clause-may c = may_on c.args.table.now.site.layout (sight c.args.owner.now) (sight c.loop-at.owner) c.args.places.now c.loop-at.invariant.led.same c.requires.may

pub cut_head-word-requires-clause-led : goal.cut_head-word-requires-clause-led
cut_head-word-requires-clause-led c =
    let l = c.args.table.now.site.layout in
    head_here l.pool (place_number l c.args.at) (node_of c.loop-at.word) (sight c.args.owner.now) (sight c.loop-at.owner) c.loop-at.invariant.led

pub loop-at-preserved : goal.loop-at-preserved
loop-at-preserved c =
    let l = c.args.table.now.site.layout in
    let t = c.loop-at.invariant.stays in
    let e = c.cut_head-word.ensures in
    record {
      stays = (e.stays.0 ∙ t.0, e.stays.1 ∙ t.1, e.stays.2 ∙ t.2);
      led = head_goes l.pool (place_number l c.args.at) (node_of c.loop-at.word) (node_of c.cut_head-word.result) (sight c.args.owner.now) (sight c.loop-at.owner) (sight c.cut_head-word.new.owner) c.loop-at.invariant.led e.led;
    }
