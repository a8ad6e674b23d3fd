use Rattle.std.proofs.Common.{◌≡◌, ℕ, List, [], ◌∷◌, ◌++◌, length, take, get_or, sym, ap, ◌∙◌, arith}
use Rattle.std.proofs.lemmas.List.{append_assoc, length-append, take_all}
use Rattle.mesh_names.specs.Names.{Name}
use Rattle.table_passes.specs.Answers.{Answer}
use Rattle.shared_rounds.specs.Reached.{put_off}
use Rattle.shared_rounds.proofs.PuttingOff.{off_more, off_rest, off_within}
use Rattle.shared_rounds.proofs.answers.add_put_off.Goals as goal

pub add_refused-requires : goal.add_refused-requires
add_refused-requires c =
    let ns = c.args.dealt.now in
    let bs = c.args.answers.now in
    let i = c.loop-place.place in
    let few = c.requires.few in
    let within = off_within ns bs i c.index-dealt-place.result c.index-answers-place.result (omega arith) (omega arith) in
    let n : get_or ns i c.index-dealt-place.result ≡ c.index-dealt-place.result = sym c.index-dealt-place.is in
    let a : get_or bs i c.index-answers-place.result ≡ c.index-answers-place.result = sym c.index-answers-place.is in
    let x = c.index-dealt-place.result in
    let y = c.index-answers-place.result in
    let one : length (put_off (get_or ns i x ∷ []) (get_or bs i y ∷ [])) ≡ length (put_off (x ∷ []) (y ∷ [])) = λ j. length (put_off (n j ∷ []) (a j ∷ [])) in
    let now = ap length c.loop-place.invariant.items in
    let sum = length-append c.args.names.now.items (put_off (take i ns) (take i bs)) in
    let same = c.loop-place.invariant.capacity in
    let room = c.requires.room in
    record { room = omega arith }

pub loop-place-preserved : goal.loop-place-preserved
loop-place-preserved c =
    let ns = c.args.dealt.now in
    let bs = c.args.answers.now in
    let i = c.loop-place.place in
    let few = c.requires.few in
    let old = c.args.names.now.items in
    let n : get_or ns i c.index-dealt-place.result ≡ c.index-dealt-place.result = sym c.index-dealt-place.is in
    let a : get_or bs i c.index-answers-place.result ≡ c.index-answers-place.result = sym c.index-answers-place.is in
    record {
      items = c.add_refused.ensures.items ∙ (λ j. c.loop-place.invariant.items j ++ put_off (sym n j ∷ []) (sym a j ∷ []))
          ∙ append_assoc old (put_off (take i ns) (take i bs)) _
          ∙ ap (λ (xs : List Name). old ++ xs) (sym (off_more ns bs i c.index-dealt-place.result c.index-answers-place.result (omega arith) (omega arith)));
      capacity = c.add_refused.ensures.capacity ∙ c.loop-place.invariant.capacity;
    }

pub returns-clause-items : goal.returns-clause-items
returns-clause-items c =
    let ns = c.args.dealt.now in
    let bs = c.args.answers.now in
    let end : c.loop-place.place ≡ length bs = omega arith in
    let old = c.args.names.now.items in
    c.loop-place.invariant.items ∙ ap (λ (i : ℕ). old ++ put_off (take i ns) (take i bs)) end ∙ ap (λ (cs : List Answer). old ++ put_off (take (length bs) ns) cs) (take_all (length bs) bs (omega arith))
    ∙ ap (λ (xs : List Name). old ++ xs) (off_rest ns bs)
