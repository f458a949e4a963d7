use Rattle.std.proofs.Common.{◌≡◌, ◌++◌, ◌+◌, ◌∙◌, List, ℕ, Ok, Err, take, drop, ap, sym, subst, arith}
use Rattle.std.proofs.lemmas.Result.{err_from_is_err_and}
use Rattle.pim_io.specs.Outside.{Wrote}
use Rattle.pim_io.specs.declared.sink.SinkFault.{SinkFault}
use Rattle.pim_top.specs.Notes.{spaced}
use Rattle.pim_top.proofs.SpacedLabels.{spaced-all, spaced-rest, wrote-more}
use Rattle.pim_top.proofs.note.write_labels.Goals as goal

pub loop-label-init : goal.loop-label-init
loop-label-init g c = record { laws = c.tell_writes.ensures; wrote = c.tell_writes.ensures.none _ _ }

pub loop-label-preserved : goal.loop-label-preserved
loop-label-preserved g c =
    let labels = c.list-label-items.result.now in
    let inv = c.loop-label.invariant in
    record {
      laws = inv.laws;
      wrote =
          wrote-more inv.laws labels c.loop-label.label-index c.label-item.result c.as_slice.result.now c.bytes.result.now
          (g.E.Sink.taken c.args.notes.now) (g.E.Sink.taken c.loop-label.notes) (g.E.Sink.taken c.write_pieces.new.sink)
          (g.E.Sink.faults c.args.notes.now) (g.E.Sink.faults c.loop-label.notes) (g.E.Sink.faults c.write_pieces.new.sink)
          (Ok tt) c.loop-label-test.true c.as_slice.ensures (c.bytes.ensures.value ∙ c.label-item.is) inv.wrote c.in_ok-write_pieces.ensures.wrote;
    }

pub returns-in_err-write_pieces : goal.returns-in_err-write_pieces
returns-in_err-write_pieces g c =
    let labels = c.list-label-items.result.now in
    let k = c.loop-label.label-index in
    let inv = c.loop-label.invariant in
    let start = g.E.Sink.taken c.args.notes.now in
    let count = g.E.Sink.faults c.args.notes.now in
    let next = g.E.Sink.taken c.write_pieces.new.sink in
    let more = g.E.Sink.faults c.write_pieces.new.sink in
    let fault = c.in_err-write_pieces.field-0.0 in
    let part =
    wrote-more inv.laws labels k c.label-item.result c.as_slice.result.now c.bytes.result.now
    start (g.E.Sink.taken c.loop-label.notes) next count (g.E.Sink.faults c.loop-label.notes) more
    (Err fault) c.loop-label-test.true c.as_slice.ensures (c.bytes.ensures.value ∙ c.label-item.is) inv.wrote c.in_err-write_pieces.ensures.wrote in
    let whole : spaced (take (k + 1) labels) ++ spaced (drop (k + 1) labels) ≡ spaced c.args.labels.now = sym (spaced-rest labels (k + 1)) ∙ ap spaced c.list-label-items.ensures in
    let p = err_from_is_err_and c.from_residual.result c.from_residual.ensures.1 in
    let W : List ℕ → Type 0 = λ t. Wrote {A = Unit {0}} {E = SinkFault} (Err fault) start next count more t in
    rw p.1 (subst W whole (inv.laws.failed start next count more fault (spaced (take (k + 1) labels)) (spaced (drop (k + 1) labels)) part))

pub returns : goal.returns
returns g c =
    let labels = c.list-label-items.result.now in
    let W : List ℕ → Type 0 = λ t. Wrote {A = Unit {0}} {E = SinkFault} (Ok tt) (g.E.Sink.taken c.args.notes.now) (g.E.Sink.taken c.loop-label.notes) (g.E.Sink.faults c.args.notes.now) (g.E.Sink.faults c.loop-label.notes) t in
    subst W (spaced-all labels c.loop-label.label-index (omega arith) ∙ ap spaced c.list-label-items.ensures) c.loop-label.invariant.wrote
