use Rattle.std.proofs.Common.{◌≡◌, ℕ, ◌+◌, ◌*◌, ◌∙◌, set, get_or, ap, arith, below_more, get_or-set_same, get_or-set_other}
use Rattle.pim_io.specs.Lanes.{is_set}
use Rattle.pim_vectors.specs.inner.Cells.{staged_at}
use Rattle.pim_vectors.proofs.BitLemmas.{low_within, same_column}
use Rattle.pim_vectors.proofs.blocks.put_words.Goals as goal

pub loop-c-preserved : goal.loop-c-preserved
loop-c-preserved c =
    let before = c.loop-c.invariant in
    let buffer = c.loop-c.buffer in
    let k = c.loop-c.c in
    let w = c.args.words in
    let at = c.args.at in
    let word = c.join.result in
    let bytes = c.args.bytes.now in
    record {
      done = λ j r j_small small.
          below_more (λ j. is_set (get_or (set buffer (k * w + at) word) (j * w + at) 0) r ≡ staged_at c.args.columns bytes j r) k
          (λ j below.
          ap (λ (n : ℕ). is_set n r) (get_or-set_other buffer (k * w + at) (j * w + at) word 0 (λ e. omega (arith, (same_column w j k at at c.requires.within c.requires.within e).0)))
          ∙ before.done j r below small)
          (ap (λ (n : ℕ). is_set n r) (get_or-set_same buffer (k * w + at) word 0 (omega (arith, low_within w k _ c.loop-c-test.true))) ∙ c.join.ensures r small) j j_small;
      others = λ j v small apart.
          get_or-set_other buffer (k * w + at) (j * w + v) word 0 (λ e. apart (same_column w j k v at small c.requires.within e).1) ∙ before.others j v small apart;
    }
