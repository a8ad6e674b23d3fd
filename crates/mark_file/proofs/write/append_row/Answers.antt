use Rattle.std.proofs.Common.{List, ℕ, [], ◌∷◌, ◌++◌, ◌∙◌, ◌≡◌, ap, decimal, length, rules, subst, take}
use Rattle.std.specs.Fmt.{signed_decimal}
use Rattle.std.proofs.lemmas.Int.{to_z-of_z}
use Rattle.std.proofs.lemmas.Result.{on_ok_weaker}
use mir.Val.{SFits}
use mir.Syntax.{w64}
use Rattle.mark_file.specs.Written.{place_text, what_text}
use Rattle.mark_file.proofs.WrittenLemmas.{kept_before, line_of_pieces, on_refusal}
use Rattle.mark_file.proofs.write.append_row.Goals as goal

pub returns-clause-ok : goal.returns-clause-ok
returns-clause-ok c =
    let row = c.args.row.now in
    let fits : SFits w64 row.number = search rules in
    let back : List ℕ = 44 ∷ (signed_decimal row.number ++ 10 ∷ []) in
    on_ok_weaker c.put_back.result (λ h.
    h
    ∙ ap (λ z. c.put_place.new.to.items ++ (44 ∷ (signed_decimal z ++ 10 ∷ []))) (to_z-of_z w64 row.number fits)
    ∙ ap (λ t. t ++ back) (c.in_ok-put_place.ensures.ok ∙ ap (λ t. t ++ place_text row.place) c.in_ok-put_front.ensures.ok)
    ∙ line_of_pieces c.args.to.now.items (decimal c.args.round) (what_text row.what) (place_text row.place) (signed_decimal row.number))
    c.put_back.ensures.ok

pub returns-in_err-put_place-clause-err : goal.returns-in_err-put_place-clause-err
returns-in_err-put_place-clause-err c =
    let old = c.args.to.now.items in
    let front : List ℕ = decimal c.args.round ++ (44 ∷ (what_text c.args.row.now.what ++ 44 ∷ [])) in
    on_refusal c.from_residual-in_err-put_place.result (take (length old) c.put_place.new.to.items ≡ old)
    (kept_before old front c.put_place.new.to.items (subst (λ (t : List ℕ). take (length t) c.put_place.new.to.items ≡ t) c.in_ok-put_front.ensures.ok c.in_err-put_place.ensures.err))
