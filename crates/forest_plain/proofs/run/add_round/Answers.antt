use Rattle.std.proofs.Common.{◌∷◌, ◌++◌, [], ap, cond, ◌∙◌}
use Rattle.std.specs.Prelude.{is_ok}
use Rattle.forest_plain.proofs.run.add_round.Goals as goal

pub returns-in-Ok-clause-ok : goal.returns-in-Ok-clause-ok
returns-in-Ok-clause-ok g c = record {
  delta = c.in-Ok.delta;
  done = c.in-Ok.ensures.ok;
  added = c.push.ensures.items ∙ ap (λ r. cond (is_ok r) (c.args.deltas.now.items ++ c.in-Ok.delta ∷ []) c.args.deltas.now.items) c.unwrap.ensures;
}
