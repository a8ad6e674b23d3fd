use Rattle.std.proofs.Common.{◌-◌, ℕ, ◌≡◌, ◌+◌, ◌<◌, None, Some, List, Bool, length, take, drop, sym, ap, ◌∙◌, subst, arith}
use Rattle.std.proofs.lemmas.List.{take_rest}
use Rattle.std.specs.Option.{MatchOption}
use Rattle.std.specs.List.{position_or_len, before_first, after_first}
use Rattle.mesh_names.specs.Spelling.{IsRoot, IsWord, Spells, is_point}
use Rattle.mesh_names.proofs.SpelledNames.{told, root_missing, root_alone, word_told}
use Rattle.mesh_names.proofs.spelling.read_name.Goals as goal

pub returns-in-None-clause-spells : goal.returns-in-None-clause-spells
returns-in-None-clause-spells c =
    root_missing c.args.text.now (λ r h. c.in-None.ensures r (subst (λ k. IsRoot (take k c.args.text.now) r) (sym c.point_of-point.ensures.place) h))

pub returns-in-None-clause-name : goal.returns-in-None-clause-name
returns-in-None-clause-name c = told c.args.text.now None (returns-in-None-clause-spells c)

pub returns-then-point-text-clause-spells : goal.returns-then-point-text-clause-spells
returns-then-point-text-clause-spells c =
    let root : IsRoot (before_first is_point c.args.text.now) c.in-Some.root = subst (λ k. IsRoot (take k c.args.text.now) c.in-Some.root) c.point_of-point.ensures.place c.in-Some.ensures in
    subst (Spells c.args.text.now) (sym c.top-top.ensures) (root_alone c.args.text.now c.in-Some.root (sym c.point_of-point.ensures.place ∙ c.if-point-text.true) root)

pub returns-then-point-text-clause-name : goal.returns-then-point-text-clause-name
returns-then-point-text-clause-name c = told c.args.text.now (Some c.top-top.result) (returns-then-point-text-clause-spells c)

pub returns-clause-spells : goal.returns-clause-spells
returns-clause-spells c =
    let place = c.point_of-point.ensures.place in
    let root : IsRoot (before_first is_point c.args.text.now) c.in-Some.root = subst (λ k. IsRoot (take k c.args.text.now) c.in-Some.root) place c.in-Some.ensures in
    let inside : position_or_len is_point c.args.text.now < length c.args.text.now = let within = c.point_of-point.ensures.within in omega (arith, place, within, c.if-point-text.false) in
    let Reads : ℕ → List ℕ → Type 0 = λ r letters. MatchOption c.read_word.result ((w : List Bool) → ¬ (IsWord letters w)) (λ n. (n.0 ≡ r) × IsWord letters n.1) in
    let letters : take (length c.args.text.now - (c.point_of-point.result + 1)) (drop (c.point_of-point.result + 1) c.args.text.now) ≡ after_first is_point c.args.text.now =
    take_rest c.args.text.now (c.point_of-point.result + 1) ∙ ap (λ k. drop (k + 1) c.args.text.now) place in
    let read : Reads c.in-Some.root (after_first is_point c.args.text.now) =
    subst (λ (x : ℕ × List ℕ). Reads x.0 x.1) (λ i. ((c.top-top.ensures i).0, letters i)) c.read_word.ensures in
    word_told c.args.text.now c.in-Some.root c.read_word.result inside root read

pub returns-clause-name : goal.returns-clause-name
returns-clause-name c = told c.args.text.now c.read_word.result (returns-clause-spells c)
