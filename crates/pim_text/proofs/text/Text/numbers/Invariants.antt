use Rattle.std.proofs.Common.{◌≡◌, ◌++◌, drop}
use Rattle.pim_text.specs.Text.{numbers_text}
use Rattle.pim_text.proofs.text.Text.numbers.Given as goal

-- the text so far, with the numbers that are left, is the whole
abbrev pub invariant-loop-number : goal.invariant-loop-number
invariant-loop-number l =
    l.self ++ numbers_text (drop l.number-index l.numbers) ≡ l.initial.self ++ numbers_text l.numbers
