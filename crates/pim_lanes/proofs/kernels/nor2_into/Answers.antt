use Rattle.std.proofs.Common.{Bool, ◌&&◌, ◌||◌, not, refl}
use Rattle.pim_lanes.specs.inner.Rules.{nor2_word}
use Rattle.pim_lanes.proofs.BitLemmas.{nor2_bit}
use Rattle.pim_lanes.proofs.RuleLemmas.{ruled_whole, lanes_ruled}
use Rattle.pim_lanes.proofs.kernels.nor2_into.Goals as goal

pub returns : goal.returns
returns c =
    lanes_ruled nor2_word (λ (x y z : Bool). x && not (y || z)) nor2_bit refl c.args.t.now c.args.a.now c.args.b.now c.nor2_words.new.t c.requires.same_a c.requires.same_b c.type_inv.a c.type_inv.b
    (ruled_whole nor2_word c.nor2_vectors-done.result c.args.t.now c.args.a.now c.args.b.now c.nor2_vectors-done.new.t c.nor2_words.new.t
    c.nor2_vectors-done.ensures.within c.nor2_vectors-done.auto.t c.nor2_vectors-done.ensures.ruled c.nor2_words.ensures)
