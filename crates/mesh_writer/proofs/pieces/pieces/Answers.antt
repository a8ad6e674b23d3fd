use Rattle.std.proofs.Common.{◌∙◌, ap, max, map}
use Rattle.rayon.specs.Lists.{chunks_of, chunks_size, chunks_slice, map_base}
use Rattle.macro_file.specs.Written.{lines_text}
use Rattle.mesh_writer.proofs.Gathered.{gathered}
use Rattle.mesh_writer.proofs.pieces.pieces.Goals as goal

pub returns : goal.returns
returns g c =
    let same = ap map_base c.with_min_len.ensures.base ∙ c.map.ensures.base in
    let size = ap chunks_size same ∙ c.par_chunks.ensures.size in
    let slice = ap chunks_slice same ∙ c.par_chunks.ensures.slice in
    let h = c.in_ok-made.ensures in
    let chain = h.1 in
    gathered (λ run. lines_text (map g.L.Line.line run)) chain.0 (chunks_of 1024 c.args.items.now) h.0 c.in_ok-made.made (chain.1 ∙ (λ i. chunks_of (max (size i) 1) (slice i))) chain.2 h.2
