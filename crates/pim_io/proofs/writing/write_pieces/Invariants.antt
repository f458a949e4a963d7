use Rattle.std.proofs.Common.{◌≡◌, [], take}
use Rattle.std.specs.Prelude.{map}
use Rattle.pim_io.specs.Outside.{TookAll, with_pieces}
use Rattle.pim_io.proofs.writing.write_pieces.Given as goal

abbrev pub invariant-loop-piece : goal.invariant-loop-piece
invariant-loop-piece g l =
    (g.K.Sink.faults l.sink ≡ g.K.Sink.faults l.initial.sink)
    × TookAll (g.K.Sink.taken l.initial.sink) (g.K.Sink.taken l.sink) (with_pieces [] (map (λ piece. piece.now) (take l.piece-index l.pieces)))
