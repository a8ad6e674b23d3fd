use Rattle.std.proofs.Common.{◌∙◌, sym, ap, Ok}
use Rattle.std.proofs.lemmas.Result.{err_from_is_err_and}
use Rattle.std.proofs.lemmas.Int.{to_z-of_z}
use mir.Syntax.{w64}
use Rattle.macro_file.specs.Meaning.{number_at}
use Rattle.macro_file.proofs.CountLemmas.{single-none, single-some}
use Rattle.macro_file.proofs.counts.single.Goals as goal

pub returns-in_err-numbers-in-Some-clause-err : goal.returns-in_err-numbers-in-Some-clause-err
returns-in_err-numbers-in-Some-clause-err c =
    let p = err_from_is_err_and c.from_residual.result c.from_residual.ensures.1 in
    rw (p.1, p.2) (λ other. single-some c.args.keyword c.args.sections.now c.in-Some.section.now _ c.in-Some.ensures (c.in_err-numbers-in-Some.ensures.err other))

pub returns-in-None-clause-ok : goal.returns-in-None-clause-ok
returns-in-None-clause-ok c = single-none c.args.keyword c.args.sections.now c.in-None.ensures

pub returns-in_ok-numbers-in-Some-clause-ok : goal.returns-in_ok-numbers-in-Some-clause-ok
returns-in_ok-numbers-in-Some-clause-ok c =
    single-some c.args.keyword c.args.sections.now c.in-Some.section.now _ c.in-Some.ensures c.in_ok-numbers-in-Some.ensures.ok
    ∙ ap Ok (ap (λ zs. number_at zs 0) (sym c.deref.ensures.value) ∙ sym c.number_at.ensures ∙ sym (to_z-of_z w64 _ (record { sfits = c.number_at.type_inv })))
