use Rattle.std.proofs.Common.{◌≡◌, ℕ, ◌-◌, ◌<◌, List, length, take, drop, arith, subst, ap, ◌∙◌}
use Rattle.std.proofs.lemmas.List.{take_rest, length-drop}
use Rattle.pim_io.specs.Outside.{TookSome}
use Rattle.pim_io.proofs.Wholes.{TookAll-TookSome}
use Rattle.pim_io.proofs.writing.write_all.Goals as goal

pub loop-at-preserved : goal.loop-at-preserved
loop-at-preserved g c =
    let piece = c.args.piece.now in
    let at = c.loop-at.at in
    let n = c.in_ok-at.field-0 in
    let rest : take (length piece - at) (drop at piece) ≡ drop at piece = take_rest piece at in
    let some : 0 < length (take (length piece - at) (drop at piece)) = omega (arith, ap length rest, length-drop at piece) in
    let P : List ℕ → Type 0 = λ rest. TookSome (g.K.Sink.taken c.loop-at.sink) (g.K.Sink.taken c.write.new.self) rest n in
    let takes = subst P rest (c.in_ok-at.ensures.takes some) in
    let within = c.in_ok-at.ensures.within some in
    (omega (arith, within, ap length rest, length-drop at piece), c.in_ok-at.ensures.steady ∙ c.loop-at.invariant.1, TookAll-TookSome _ _ _ piece at n c.loop-at.invariant.2 takes)
