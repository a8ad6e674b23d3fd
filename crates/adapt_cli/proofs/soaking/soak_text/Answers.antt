use Rattle.std.proofs.Common.{ap, ◌∙◌, subst}
use Rattle.std.specs.Prelude.{Ok}
use Rattle.std.proofs.lemmas.Result.{IfErr-weaker, IfOk-weaker}
use Rattle.compat_check.specs.Meshes.{Mesh}
use Rattle.forest_plain.specs.AnyForest.{Seen}
use Rattle.adapt_words.specs.Rounds.{soak_said}
use Rattle.mesh_rounds.specs.Adaptive.{seen_of, state_of}
use Rattle.adapt_cli.specs.Soaks.{DrawsTo, TellsOf}
use Rattle.adapt_cli.specs.Stops.{StopsBy}
use Rattle.adapt_cli.proofs.Drawing.{soak-stops, soak-wants, soaks}
use Rattle.adapt_cli.proofs.soaking.soak_text.Goals as goal

pub returns-in-Err-clause-stopped : goal.returns-in-Err-clause-stopped
returns-in-Err-clause-stopped g c =
    let first = state_of c.in-Ok-new.mesh in
    let pool = ap (λ (s : Seen). s.pool) c.in-Ok-new.ensures.forest ∙ c.new-forest.ensures.pool in
    soak-stops (soak_said c.args.soak.now) c.in-Ok.macro_mesh first (seen_of c.in-Ok-new.mesh).pool c.in-Err.stop c.in-Ok.ensures.ok c.in-Ok-new.ensures.first pool
    (subst (λ (m : Mesh). StopsBy (DrawsTo m (seen_of c.in-Ok-new.mesh).pool c.args.soak.now.rounds 1 (record { state = c.args.soak.now.start; row = 1 }) first) c.in-Err.stop) c.in-Ok-new.ensures.mesh c.in-Err.ensures.stopped)

pub returns-clause-ok : goal.returns-clause-ok
returns-clause-ok g c =
    let first = state_of c.in-Ok-new.mesh in
    let last = state_of c.draw_rounds.new.mesh in
    let pool = ap (λ (s : Seen). s.pool) c.in-Ok-new.ensures.forest ∙ c.new-forest.ensures.pool in
    IfOk-weaker c.tell.result _ _ (λ line h. soaks (soak_said c.args.soak.now) c.in-Ok.macro_mesh first last (seen_of c.in-Ok-new.mesh).pool line.items c.in-Ok.ensures.ok c.in-Ok-new.ensures.first pool
    (subst (λ (m : Mesh). DrawsTo m (seen_of c.in-Ok-new.mesh).pool c.args.soak.now.rounds 1 (record { state = c.args.soak.now.start; row = 1 }) first (Ok last)) c.in-Ok-new.ensures.mesh c.in_default-draw_rounds.ensures.ok)
    (subst (λ (m : Mesh). TellsOf m (soak_said c.args.soak.now) last line.items) (c.in_default-draw_rounds.ensures.same ∙ c.in-Ok-new.ensures.mesh) h)) c.tell.ensures.ok

pub returns-clause-stopped : goal.returns-clause-stopped
returns-clause-stopped g c = IfErr-weaker c.tell.result _ _ (λ stop h. soak-wants (soak_said c.args.soak.now) stop h) c.tell.ensures.memory
