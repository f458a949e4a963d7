use Rattle.std.proofs.Common.{◌≡◌, ℕ, ◌+◌, ◌*◌, List, map, ap, subst, ◌∙◌, arith}
use Rattle.pim_io.specs.Outside.{Wrote}
use Rattle.pim_isa.specs.Programs.{ProgramView}
use Rattle.pim_isa.specs.Results.{load}
use Rattle.pim_isa.specs.Steps.{bit}
use Rattle.pim_lanes.specs.Banks.{row_of}
use Rattle.pim_vectors.specs.Tiles.{vector_of}
use Rattle.pim_batch.specs.inner.ImplyLines.{imply_lines}
use Rattle.pim_batch.specs.inner.TileLines.{row_lines}
use Rattle.pim_batch.proofs.PassLemmas.{pass_lines}
use Rattle.pim_batch.proofs.passes.pass.Goals as goal

pub returns-clause-wrote : goal.returns-clause-wrote
returns-clause-wrote g c =
    let p = c.args.program.now in
    let vectors = c.args.vectors.now in
    let from = 64 * c.args.first in
    let lanes = c.min-lanes.result in
    let words = c.args.room.now.words in
    let bank_words = c.requires.room.words in
    let lines : row_lines c.gather_results.new.results lanes ≡ imply_lines p c.args.fill vectors from lanes =
    pass_lines p c.args.fill c.load_lanes.new.bank c.run_imply.new.bank vectors c.gather_results.new.results from lanes words (omega (arith, c.min-lanes.ensures))
    (λ r small.
    c.load_lanes.ensures.rows r (omega (arith, bank_words))
    ∙ ap (λ (q : ProgramView). load q c.args.fill (vector_of vectors (from + r))) c.body.ensures)
    (λ r small. c.run_imply.ensures.rows r (omega (arith, bank_words, c.load_lanes.ensures.frame.words)))
    (λ r small.
    c.gather_results.ensures.rows r (omega (arith, bank_words, c.load_lanes.ensures.frame.words, c.run_imply.ensures.frame.words))
    ∙ ap (λ (q : ProgramView). map (λ o. bit (row_of c.run_imply.new.bank r) o.cell) q.outputs) c.body-2.ensures) in
    subst (λ (l : List ℕ). Wrote c.write_results.result (g.K.Sink.taken c.args.output.now) (g.K.Sink.taken c.write_results.new.output) (g.K.Sink.faults c.args.output.now) (g.K.Sink.faults c.write_results.new.output) l)
    (lines ∙ ap (imply_lines p c.args.fill vectors from) c.min-lanes.ensures) c.write_results.ensures.wrote
