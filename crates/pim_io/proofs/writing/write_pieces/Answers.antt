use Rattle.std.proofs.Common.{◌+◌, [], List, ℕ, take, drop, sym, ◌∙◌, subst, arith, get_or}
use Rattle.std.specs.Prelude.{map}
use Rattle.std.specs.Borrow.{Bor}
use Rattle.std.proofs.lemmas.Result.{err_from_is_err_and}
use Rattle.pim_io.specs.Outside.{TookAll, TookFirst, with_pieces}
use Rattle.pim_io.proofs.Wholes.{TookAll-append, TookFirst-append, TookFirst-then, with_pieces-more, with_pieces-cut}
use Rattle.pim_io.proofs.writing.write_pieces.Goals as goal

pub returns-in_err-write_all-clause-wrote : goal.returns-in_err-write_all-clause-wrote
returns-in_err-write_all-clause-wrote g c =
    let p = err_from_is_err_and c.from_residual.result c.from_residual.ensures.1 in
    let wrote = c.in_err-write_all.ensures.wrote in
    let pieces = c.args.pieces.now in
    let at = c.loop-piece.piece-index in
    let before = c.loop-piece.invariant in
    let T : List ℕ → Type 0 = λ text. TookFirst (g.K.Sink.taken c.args.sink.now) (g.K.Sink.taken c.write_all.new.sink) text in
    let so_far = TookFirst-then _ _ _ (with_pieces [] (map (λ (piece : Bor (List ℕ)). piece.now) (take at pieces))) (get_or pieces at (record { ref_ptr = (0, 0); now = [] })).now before.1 wrote.0 in
    let further = subst T (sym (with_pieces-more (λ (piece : Bor (List ℕ)). piece.now) pieces at (record { ref_ptr = (0, 0); now = [] }) (omega arith))) so_far in
    let all = subst T (sym (with_pieces-cut (λ (piece : Bor (List ℕ)). piece.now) pieces (at + 1))) (TookFirst-append _ _ _ (with_pieces [] (map (λ (piece : Bor (List ℕ)). piece.now) (drop (at + 1) pieces))) further) in
    rw p.1 (all, rw (← before.0) wrote.1)

pub loop-piece-preserved : goal.loop-piece-preserved
loop-piece-preserved g c =
    let wrote = c.in_ok-write_all.ensures.wrote in
    let pieces = c.args.pieces.now in
    let at = c.loop-piece.piece-index in
    let before = c.loop-piece.invariant in
    let T : List ℕ → Type 0 = λ text. TookAll (g.K.Sink.taken c.args.sink.now) (g.K.Sink.taken c.write_all.new.sink) text in
    let both = TookAll-append _ _ _ (with_pieces [] (map (λ (piece : Bor (List ℕ)). piece.now) (take at pieces))) (get_or pieces at (record { ref_ptr = (0, 0); now = [] })).now before.1 wrote.0 in
    (wrote.1 ∙ before.0, subst T (sym (with_pieces-more (λ (piece : Bor (List ℕ)). piece.now) pieces at (record { ref_ptr = (0, 0); now = [] }) (omega arith))) both)
