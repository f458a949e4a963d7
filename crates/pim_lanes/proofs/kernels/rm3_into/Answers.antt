use Rattle.std.proofs.Common.{Bool, not, refl}
use Rattle.pim_isa.specs.Steps.{majority}
use Rattle.pim_lanes.specs.inner.Rules.{rm3_word}
use Rattle.pim_lanes.proofs.BitLemmas.{rm3_bit}
use Rattle.pim_lanes.proofs.RuleLemmas.{ruled_whole, lanes_ruled}
use Rattle.pim_lanes.proofs.kernels.rm3_into.Goals as goal

pub returns : goal.returns
returns c =
    lanes_ruled rm3_word (λ (x y z : Bool). majority y (not z) x) rm3_bit refl c.args.z.now c.args.p.now c.args.q.now c.rm3_words.new.z c.requires.same_p c.requires.same_q c.type_inv.p c.type_inv.q
    (ruled_whole rm3_word c.rm3_vectors-done.result c.args.z.now c.args.p.now c.args.q.now c.rm3_vectors-done.new.z c.rm3_words.new.z
    c.rm3_vectors-done.ensures.within c.rm3_vectors-done.auto.z c.rm3_vectors-done.ensures.ruled c.rm3_words.ensures)
