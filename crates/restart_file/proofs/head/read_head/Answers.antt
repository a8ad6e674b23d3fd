use Rattle.std.proofs.Common.{◌≡◌, ◌+◌, true, sym, subst, List, ℕ, length, take, drop}
use Rattle.std.specs.Prelude.{codes, nat_eq}
use Rattle.std.specs.Cmp.Lexicographic.{pointwise}
use Rattle.restart_file.specs.Refusals.{HasHead}
use Rattle.restart_file.proofs.Heading.{no_end, no_count, is_head, tail_whole}
use Rattle.restart_file.proofs.head.read_head.Goals as goal

pub returns-then-end-line : goal.returns-then-end-line
returns-then-end-line c =
    let cut : c.in-Some.line.now ≡ drop 9 c.args.bytes.now = subst (λ (p : List ℕ). c.in-Some.line.now ≡ drop (length p) c.args.bytes.now) c.as_bytes.ensures.value c.in-Some.ensures.cases.1 in
    no_end c.args.bytes.now c.in-Some.line.now c.newline_of-end.result cut c.newline_of-end.ensures.place c.if-end-line.true

pub returns-in-None-read_count : goal.returns-in-None-read_count
returns-in-None-read_count c =
    let cut : c.in-Some.line.now ≡ drop 9 c.args.bytes.now = subst (λ (p : List ℕ). c.in-Some.line.now ≡ drop (length p) c.args.bytes.now) c.as_bytes.ensures.value c.in-Some.ensures.cases.1 in
    no_count c.args.bytes.now c.in-Some.line.now c.newline_of-end.result cut c.newline_of-end.ensures.place c.in-None-read_count.ensures

pub returns-in-Some-read_count : goal.returns-in-Some-read_count
returns-in-Some-read_count c =
    let line = c.in-Some.line.now in let end = c.newline_of-end.result in
    let cut : line ≡ drop 9 c.args.bytes.now = subst (λ (p : List ℕ). line ≡ drop (length p) c.args.bytes.now) c.as_bytes.ensures.value c.in-Some.ensures.cases.1 in
    let front : pointwise nat_eq (take 9 c.args.bytes.now) (codes "restart: ") ≡ true = subst (λ (p : List ℕ). pointwise nat_eq (take (length p) c.args.bytes.now) p ≡ true) c.as_bytes.ensures.value c.in-Some.ensures.cases.0 in
    subst (λ (l : List ℕ). HasHead c.args.bytes.now c.in-Some-read_count.count l) (sym (tail_whole (end + 1) line))
    (is_head c.args.bytes.now line end cut c.newline_of-end.ensures.place front c.if-end-line.false c.in-Some-read_count.count c.in-Some-read_count.ensures)
