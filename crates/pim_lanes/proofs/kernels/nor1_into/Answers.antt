use Rattle.std.proofs.Common.{Bool, ◌&&◌, not, refl}
use Rattle.pim_lanes.specs.inner.Rules.{nor1_word}
use Rattle.pim_lanes.proofs.BitLemmas.{nor1_bit}
use Rattle.pim_lanes.proofs.RuleLemmas.{ruled_whole, lanes_ruled}
use Rattle.pim_lanes.proofs.kernels.nor1_into.Goals as goal

pub returns : goal.returns
returns c =
    lanes_ruled nor1_word (λ (x y z : Bool). x && not y) nor1_bit refl c.args.t.now c.args.a.now c.args.a.now c.nor1_words.new.t c.requires c.requires c.type_inv.a c.type_inv.a
    (ruled_whole nor1_word c.nor1_vectors-done.result c.args.t.now c.args.a.now c.args.a.now c.nor1_vectors-done.new.t c.nor1_words.new.t
    c.nor1_vectors-done.ensures.within c.nor1_vectors-done.auto.t c.nor1_vectors-done.ensures.ruled c.nor1_words.ensures)
