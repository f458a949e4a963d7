use Rattle.std.proofs.Common.{◌≡◌, ◌<◌, ◌^◌, drop}
use Rattle.std.specs.List.{list_all}
use Rattle.pim_io.specs.Words.{is_digit, digits_after}
use Rattle.pim_io.proofs.words.number.Given as goal

abbrev pub invariant-loop-digit : goal.invariant-loop-digit
invariant-loop-digit l =
    (l.value < 10 ^ l.digit-index) × (digits_after l.value (drop l.digit-index l.word) ≡ digits_after 0 l.word) × (list_all is_digit (drop l.digit-index l.word) ≡ list_all is_digit l.word)
