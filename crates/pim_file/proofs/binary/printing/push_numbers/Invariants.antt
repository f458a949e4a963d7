use Rattle.std.proofs.Common.{◌≡◌, ◌++◌, drop}
use Rattle.pim_file.specs.Binary.{numbers_bin}
use Rattle.pim_file.proofs.binary.printing.push_numbers.Given as goal

-- the bytes so far, with the numbers that are left, are the whole
abbrev pub invariant-loop-number : goal.invariant-loop-number
invariant-loop-number l =
    l.bytes.items ++ numbers_bin (drop l.number-index l.numbers) ≡ l.initial.bytes.items ++ numbers_bin l.numbers
