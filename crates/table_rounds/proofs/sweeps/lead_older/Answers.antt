use Rattle.std.proofs.Common.{◌≡◌, ℕ, ◌+◌, ◌<◌, refl, sym, ap, ◌∙◌, subst, arith}
use Rattle.table_words.specs.Entries.{HasEntry}
use Rattle.table_words.specs.Places.{place_number}
use Rattle.table_words.specs.Words.{node_of}
use Rattle.table_state.specs.Ghosts.{Placed, stands}
use Rattle.mesh_table.specs.Sights.{Sight}
use Rattle.mesh_table.specs.Told.{sight}
use Rattle.table_rounds.proofs.Cuts.{older_begins, older_here, older_goes, older_clear, older_still, may_on}
use Rattle.table_rounds.proofs.sweeps.lead_older.Goals as goal

pub loop-at-init : goal.loop-at-init
loop-at-init c =
    let l = c.args.table.now.site.layout in
    let o = c.look_older-word in
    record {
      stays = o.ensures.stays;
      led = older_begins l.pool (place_number l c.args.at) c.args.holder c.args.side (node_of o.result) (sight c.args.owner.now) (sight o.new.owner) o.ensures.more o.ensures.history o.ensures.leads o.ensures.retired;
    }

pub cut_older-word-requires-clause-may : goal.cut_older-word-requires-clause-may
cut_older-word-requires-clause-may c = may_on c.args.table.now.site.layout (sight c.args.owner.now) (sight c.loop-at.owner) c.args.places.now c.loop-at.invariant.led.same c.requires.may

pub cut_older-word-requires-clause-stands : goal.cut_older-word-requires-clause-stands
cut_older-word-requires-clause-stands c =
    let x = place_number c.args.table.now.site.layout c.args.at in
    subst (λ (z : Sight). (y m : ℕ) × HasEntry z.ruling.placed (c.args.holder, y, m) × (stands (Placed y m) c.args.side ≡ x + 1)) (sym c.loop-at.invariant.led.same) c.requires.stands

pub cut_older-word-requires-clause-led : goal.cut_older-word-requires-clause-led
cut_older-word-requires-clause-led c =
    let l = c.args.table.now.site.layout in
    older_here l.pool (place_number l c.args.at) c.args.holder c.args.side (node_of c.loop-at.word) (sight c.args.owner.now) (sight c.loop-at.owner) c.loop-at.invariant.led

pub loop-at-preserved : goal.loop-at-preserved
loop-at-preserved c =
    let l = c.args.table.now.site.layout in
    let t = c.loop-at.invariant.stays in
    let e = c.cut_older-word.ensures in
    record {
      stays = (e.stays.0 ∙ t.0, e.stays.1 ∙ t.1, e.stays.2 ∙ t.2);
      led = older_goes l.pool (place_number l c.args.at) c.args.holder c.args.side (node_of c.loop-at.word) (node_of c.cut_older-word.result) (sight c.args.owner.now) (sight c.loop-at.owner) (sight c.cut_older-word.new.owner) c.loop-at.invariant.led e.led;
    }

pub returns-clause-still : goal.returns-clause-still
returns-clause-still c =
    let l = c.args.table.now.site.layout in
    let n = c.retired_round.ensures in
    let none : (node_of c.loop-at.word).died ≡ 0 = omega arith in
    older_still l.pool (sight c.args.owner.now) (sight c.loop-at.owner) (place_number l c.args.at) c.args.holder c.args.side (node_of c.loop-at.word) c.loop-at.invariant.led none

pub returns-clause-clear : goal.returns-clause-clear
returns-clause-clear c =
    let l = c.args.table.now.site.layout in
    let n = c.retired_round.ensures in
    let none : (node_of c.loop-at.word).died ≡ 0 = omega arith in
    older_clear l.pool (sight c.args.owner.now) (sight c.loop-at.owner) (place_number l c.args.at) c.args.holder c.args.side (node_of c.loop-at.word) c.loop-at.invariant.led none
