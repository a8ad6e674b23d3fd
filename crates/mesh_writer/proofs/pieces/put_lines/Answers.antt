use Rattle.std.proofs.Common.{◌++◌, ◌∙◌, ap, arith}
use Rattle.std.specs.List.{flat_map}
use Rattle.std.proofs.lemmas.Result.{on_ok_weaker}
use Rattle.mesh_writer.proofs.Gathered.{bytes_of, joined}
use Rattle.mesh_writer.proofs.pieces.put_lines.Goals as goal

pub returns : goal.returns
returns g c = on_ok_weaker c.join.result
    (λ e. e ∙ ap (λ t. c.args.to.now.items ++ t) (ap (flat_map bytes_of) c.as_slice.ensures.value ∙ joined g.L.Line.line 1024 c.args.items.now c.in_ok-pieces.pieces.items (omega arith) c.in_ok-pieces.ensures))
    c.join.ensures
