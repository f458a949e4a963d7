use Rattle.std.proofs.Common.{◌≡◌, ◌++◌, drop}
use Rattle.pim_io.specs.Bits.{bits_of}
use Rattle.pim_top.proofs.commands.debug.bits_of.Given as goal

-- the bits so far and those of the characters that are left
abbrev pub invariant-loop-digit : goal.invariant-loop-digit
invariant-loop-digit l = l.bits.items ++ bits_of (drop l.digit-index l.line) ≡ bits_of l.line
