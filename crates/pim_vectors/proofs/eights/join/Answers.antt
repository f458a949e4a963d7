use Rattle.std.proofs.Common.{refl, arith}
use Rattle.std.proofs.lemmas.Bool.{le-ltb}
use Rattle.pim_vectors.proofs.BitLemmas.{is_set-zero}
use Rattle.pim_vectors.proofs.StageLemmas.{joined_more}
use Rattle.pim_vectors.proofs.eights.join.Goals as goal

pub loop-eight-init : goal.loop-eight-init
loop-eight-init c = λ r small. rw (le-ltb r 0 (omega arith)) (is_set-zero r)

pub loop-eight-preserved : goal.loop-eight-preserved
loop-eight-preserved c =
    joined_more c.args.columns c.args.bytes.now c.args.column c.loop-eight.eight c.loop-eight.word c.placed-word.result _ refl
    c.loop-eight.invariant c.placed-word.ensures
