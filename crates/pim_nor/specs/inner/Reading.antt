-- Inner. A gate that reads its pins one after another.
use Rattle.pim_nor.specs.declared.network.Pin.{Pin}
use Rattle.pim_nor.specs.declared.network.Gate.{Gate}
use Rattle.pim_nor.specs.declared.network.Gate.TheVariants.{One, Not, Nor, Nor3, Nor4}

-- the gate that reads one more pin, and at most four
abbrev pub reading : Gate → Pin → Gate
reading One p = Not p
reading (Not a) p = Nor a p
reading (Nor a b) p = Nor3 a b p
reading (Nor3 a b c) p = Nor4 a b c p
reading (Nor4 a b c d) p = Nor4 a b c d
