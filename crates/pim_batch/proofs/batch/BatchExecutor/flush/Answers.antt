use Rattle.std.proofs.Common.{◌≡◌, List, ℕ, refl, ap, subst, arith}
use Rattle.std.proofs.lemmas.Result.{err_from_is_err_and}
use Rattle.pim_io.specs.Outside.{TookAll, TookFirst}
use Rattle.pim_batch.specs.Tables.{table}
use Rattle.pim_batch.specs.Batches.{BatchView}
use Rattle.pim_batch.specs.inner.TileLines.{row_lines}
use Rattle.pim_batch.proofs.BatchLemmas.{none_emptied, none_packed, none_taken, table_is}
use Rattle.pim_batch.proofs.PackingLemmas.{rows_settled}
use Rattle.pim_batch.proofs.batch.BatchExecutor.flush.Goals as goal

pub returns-then-count-eq0-clause-wrote : goal.returns-then-count-eq0-clause-wrote
returns-then-count-eq0-clause-wrote g c = (
  none_taken (g.K.Sink.taken c.args.output.now) c.args.self.now
      (none_packed _ c.args.self.now c.count-count.result c.self.view_is c.count-count.ensures.value c.if-count-eq0.true),
  refl,
)

pub returns-then-count-eq0-clause-emptied : goal.returns-then-count-eq0-clause-emptied
returns-then-count-eq0-clause-emptied g c =
    ap (λ (b : BatchView). b.vectors)
    (none_emptied c.args.self.now
    (none_packed _ c.args.self.now c.count-count.result c.self.view_is c.count-count.ensures.value c.if-count-eq0.true))

pub returns-in_err-write_results-clause-wrote : goal.returns-in_err-write_results-clause-wrote
returns-in_err-write_results-clause-wrote g c =
    let p = err_from_is_err_and c.from_residual.result c.from_residual.ensures.1 in
    let P : List ℕ → Type 0 = λ l. TookFirst (g.K.Sink.taken c.args.output.now) (g.K.Sink.taken c.write_results.new.output) l in
    let lines : row_lines c.gather_results.new.results c.count-count.result ≡ table c.args.self.now.program c.args.self.now.fill c.args.self.now.vectors =
    table_is _ c.args.self.now c.load_vectors.new.bank c.run.new.self c.tile-vectors.result.now c.gather_results.new.results c.count-count.result c.self.inside.bank.words c.self.view_is
    (rows_settled c.self.inside.vectors c.settle.new.self c.tile-vectors.result.now c.count-count.result c.count-count.ensures.value c.settle.ensures.same c.settle.ensures.tiled c.tile-vectors.ensures)
    (omega (arith, c.self.invariant.vector_words, c.self.invariant.words, c.count-count.ensures.within)) c.load_vectors.ensures.rows
    (λ r small. c.run.ensures.rows r (omega (arith, c.load_vectors.ensures.frame.words)))
    (λ r small. c.gather_results.ensures.rows r (omega (arith, c.load_vectors.ensures.frame.words, c.run.ensures.frame.words))) in
    let wrote = c.in_err-write_results.ensures.wrote in
    rw p.1 (subst P lines wrote.0, wrote.1)

pub returns-clause-wrote : goal.returns-clause-wrote
returns-clause-wrote g c =
    let P : List ℕ → Type 0 = λ l. TookAll (g.K.Sink.taken c.args.output.now) (g.K.Sink.taken c.write_results.new.output) l in
    let lines : row_lines c.gather_results.new.results c.count-count.result ≡ table c.args.self.now.program c.args.self.now.fill c.args.self.now.vectors =
    table_is _ c.args.self.now c.load_vectors.new.bank c.run.new.self c.tile-vectors.result.now c.gather_results.new.results c.count-count.result c.self.inside.bank.words c.self.view_is
    (rows_settled c.self.inside.vectors c.settle.new.self c.tile-vectors.result.now c.count-count.result c.count-count.ensures.value c.settle.ensures.same c.settle.ensures.tiled c.tile-vectors.ensures)
    (omega (arith, c.self.invariant.vector_words, c.self.invariant.words, c.count-count.ensures.within)) c.load_vectors.ensures.rows
    (λ r small. c.run.ensures.rows r (omega (arith, c.load_vectors.ensures.frame.words)))
    (λ r small. c.gather_results.ensures.rows r (omega (arith, c.load_vectors.ensures.frame.words, c.run.ensures.frame.words))) in
    let wrote = c.in_ok-write_results.ensures.wrote in
    (subst P lines wrote.0, wrote.1)
