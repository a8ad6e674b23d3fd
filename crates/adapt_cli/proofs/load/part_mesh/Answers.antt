use Rattle.std.proofs.Common.{inr}
use Rattle.std.proofs.lemmas.Result.{IfErr-weaker, IfOk-weaker}
use Rattle.adapt_cli.specs.InputFiles.{RefusesMacro, TellsCheck}
use Rattle.adapt_cli.proofs.Loading.{refuses-more}
use Rattle.adapt_cli.proofs.load.part_mesh.Goals as goal

pub returns-clause-ok : goal.returns-clause-ok
returns-clause-ok c = IfOk-weaker c.macro_mesh.result _ _ (λ mesh h. (c.in-Ok.text, c.in-Ok.ensures.ok, h)) c.macro_mesh.ensures.ok

pub returns-clause-stopped : goal.returns-clause-stopped
returns-clause-stopped c =
    IfErr-weaker c.macro_mesh.result _ _ (λ stop h. refuses-more 3 (TellsCheck c.in-Ok.text) (RefusesMacro c.args.bytes.now) (λ line t. inr (c.in-Ok.text, c.in-Ok.ensures.ok, t)) stop h) c.macro_mesh.ensures.stopped
