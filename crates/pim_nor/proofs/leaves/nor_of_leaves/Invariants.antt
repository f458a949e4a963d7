use Rattle.std.proofs.Common.{◌≡◌, drop, map, fold, take}
use Rattle.pim_aig.specs.Literals.{complement}
use Rattle.pim_nor.specs.Leaves.{distinct, distinct_after}
use Rattle.pim_nor.specs.Named.{nor_of_leaves, source}
use Rattle.pim_nor.specs.inner.Reading.{reading}
use Rattle.pim_nor.proofs.leaves.nor_of_leaves.Given as goal

abbrev pub invariant-loop-k : goal.invariant-loop-k
invariant-loop-k l =
    fold reading l.gate (map (λ leaf. source l.inputs (complement leaf)) (distinct_after (take l.k l.literals) (drop l.k l.literals))) ≡ nor_of_leaves l.inputs (distinct l.literals)
