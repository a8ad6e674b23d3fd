use Rattle.std.proofs.Common.{◌≡◌, ◌∙◌, length, ap, arith, subst}
use Rattle.compat_check.specs.Meshes.{Mesh}
use Rattle.adapt_words.specs.Rounds.{soak_said}
use Rattle.mesh_rounds.specs.State.{State}
use Rattle.mesh_rounds.specs.Texts.{IsTextOfState}
use Rattle.adapt_cli.specs.Soaks.{soak_line}
use Rattle.adapt_cli.proofs.soaking.tell.Goals as goal

pub returns-clause-ok : goal.returns-clause-ok
returns-clause-ok g c =
    let are = c.in-Ok.ensures.ok in
    let kept = c.in-Ok.ensures.same in
    let text = c.in-Ok-text.text.items in
    let bytes : c.len.result ≡ length text = omega (arith, c.len.ensures, c.in-Ok-text.text.ok) in (
      text,
      subst (λ (t : Mesh × State). IsTextOfState t.0 t.1 text) (λ i. (kept.mesh i, kept.state i)) c.in-Ok-text.ensures.ok,
      (
        are.leaves.0,
        are.leaves.1,
        ap (λ v. v.items) c.into_bytes.ensures.value ∙ c.in-Ok-line_text.ensures.ok ∙ (λ i. soak_line (soak_said c.args.soak.now) (are.leaves.2 i) (are.vertices i) (are.patches i) (bytes i)),
      ),
    )
