use Rattle.std.proofs.Common.{◌≡◌, set, get_or, ◌∙◌, arith, below_more, get_or-set_same, get_or-set_other, length-set}
use Rattle.std.specs.Prelude.{bit_xor}
use Rattle.pim_prove.proofs.blocks.flipped.Goals as goal

pub loop-k-preserved : goal.loop-k-preserved
loop-k-preserved c =
    let before = c.loop-k.invariant in
    let words = c.loop-k.words in
    let k = c.loop-k.k in
    let new = bit_xor (get_or c.args.x k 0) c.args.mask in
    record {
      done = below_more (λ j. get_or (set words k new) j 0 ≡ bit_xor (get_or c.args.x j 0) c.args.mask) k
          (λ j small. get_or-set_other words k j new 0 (λ e. omega arith) ∙ before.done j small)
          (get_or-set_same words k new 0 (omega (arith, before.long)));
      long = length-set words k new ∙ before.long;
    }
