use Rattle.std.proofs.Common.{◌∙◌, sym, ap, map, Ok}
use Rattle.std.proofs.lemmas.Result.{err_from_is_err_and, IfOk-weaker}
use Rattle.macro_file.specs.Places.{section_of, listed_of}
use Rattle.macro_file.proofs.ReaderLemmas.{key_missing, all_there, counts_refused, lists_refused, means_made, counts-range, lists-range}
use Rattle.macro_file.proofs.reader.read_sections.Goals as goal

pub returns-in-Some-clause-err : goal.returns-in-Some-clause-err
returns-in-Some-clause-err c = λ _. key_missing c.args.sections.now c.in-Some.key c.in-Some.ensures

pub returns-in_err-counts-clause-err : goal.returns-in_err-counts-clause-err
returns-in_err-counts-clause-err c =
    let there = all_there c.args.sections.now c.in_default.ensures in
    let p = err_from_is_err_and c.from_residual.result c.from_residual.ensures.1 in
    rw (p.1, p.2) (λ other. counts_refused (map section_of c.args.sections.now) there _ (c.in_err-counts.ensures.err other))

pub read_lists-requires : goal.read_lists-requires
read_lists-requires c =
    let r = counts-range (map section_of c.args.sections.now) c.in_ok-counts.counts (all_there c.args.sections.now c.in_default.ensures) c.in_ok-counts.ensures.ok in (r.0.1, r.1.1)

pub returns-in_err-lists-clause-err : goal.returns-in_err-lists-clause-err
returns-in_err-lists-clause-err c =
    let there = all_there c.args.sections.now c.in_default.ensures in
    let p = err_from_is_err_and c.from_residual-in_err-lists.result c.from_residual-in_err-lists.ensures.1 in
    rw (p.1, p.2) (λ other. lists_refused (map section_of c.args.sections.now) there c.in_ok-counts.counts _ c.in_ok-counts.ensures.ok (c.in_err-lists.ensures.err other))

pub assemble-requires-clause-lists : goal.assemble-requires-clause-lists
assemble-requires-clause-lists c = λ k.
    lists-range c.in_ok-counts.counts (map section_of c.args.sections.now) (map listed_of c.as_slice.result.now) (c.in_ok-lists.ensures.ok ∙ ap (λ ls. Ok (map listed_of ls)) (sym c.as_slice.ensures.value)) k

pub assemble-requires-clause-vertices : goal.assemble-requires-clause-vertices
assemble-requires-clause-vertices c = (counts-range (map section_of c.args.sections.now) c.in_ok-counts.counts (all_there c.args.sections.now c.in_default.ensures) c.in_ok-counts.ensures.ok).0

pub assemble-requires-clause-elements : goal.assemble-requires-clause-elements
assemble-requires-clause-elements c = (counts-range (map section_of c.args.sections.now) c.in_ok-counts.counts (all_there c.args.sections.now c.in_default.ensures) c.in_ok-counts.ensures.ok).1

pub returns-clause-ok : goal.returns-clause-ok
returns-clause-ok c =
    let there = all_there c.args.sections.now c.in_default.ensures in
    let means = means_made (map section_of c.args.sections.now) there c.in_ok-counts.counts (map listed_of c.as_slice.result.now) c.in_ok-counts.ensures.ok (c.in_ok-lists.ensures.ok ∙ ap (λ ls. Ok (map listed_of ls)) (sym c.as_slice.ensures.value)) in
    IfOk-weaker c.assemble.result _ _ (λ t same. means ∙ ap Ok (sym same)) c.assemble.ensures.ok
