use Rattle.std.proofs.Common.{ℕ, List, subst}
use Rattle.std.proofs.lemmas.Result.{err_from_is_err_and}
use Rattle.pim_io.specs.Outside.{TookAll, TookFirst}
use Rattle.pim_batch.proofs.PassLemmas.{batch_lines}
use Rattle.pim_batch.proofs.imply.ImplyBatchExecutor.flush.Goals as goal

pub returns-in_err-execute-clause-wrote : goal.returns-in_err-execute-clause-wrote
returns-in_err-execute-clause-wrote g c =
    let p = err_from_is_err_and c.from_residual.result c.from_residual.ensures.1 in
    let lines = batch_lines _ c.args.self.now c.tile-vectors.result.now c.settle.new.self.tile c.settle.new.self.rows c.count-count.result c.self.view_is c.tile-vectors.ensures c.count-count.ensures.value c.settle.ensures.same c.settle.ensures.tiled in
    let wrote = c.in_err-execute.ensures.wrote in
    rw p.1 (subst (λ (l : List ℕ). TookFirst (g.K.Sink.taken c.args.output.now) (g.K.Sink.taken c.execute.new.output) l) lines wrote.0, wrote.1)

pub returns-clause-wrote : goal.returns-clause-wrote
returns-clause-wrote g c =
    let lines = batch_lines _ c.args.self.now c.tile-vectors.result.now c.settle.new.self.tile c.settle.new.self.rows c.count-count.result c.self.view_is c.tile-vectors.ensures c.count-count.ensures.value c.settle.ensures.same c.settle.ensures.tiled in
    let wrote = c.in_ok-execute.ensures.wrote in
    (subst (λ (l : List ℕ). TookAll (g.K.Sink.taken c.args.output.now) (g.K.Sink.taken c.execute.new.output) l) lines wrote.0, wrote.1)
