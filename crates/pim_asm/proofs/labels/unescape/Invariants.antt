use Rattle.std.proofs.Common.{◌≡◌, ◌++◌, ℕ, List, length, option_map}
use Rattle.pim_asm.specs.Labels.{unescaped}
use Rattle.pim_asm.specs.Labels as labels
use Rattle.pim_asm.proofs.labels.unescape.Given as goal

-- the bytes so far, before those of the text that is left, are the bytes of the whole text
abbrev pub invariant-loop-b : goal.invariant-loop-b
invariant-loop-b l = option_map (λ (more : List ℕ). l.bytes.items ++ more) (unescaped labels.Between l.rest) ≡ unescaped labels.Between l.text

abbrev pub decreases-loop-b : goal.decreases-loop-b
decreases-loop-b l = length l.rest
