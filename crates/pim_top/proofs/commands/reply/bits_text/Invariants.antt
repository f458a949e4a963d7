use Rattle.std.proofs.Common.{◌≡◌, ◌++◌, drop}
use Rattle.pim_io.specs.Bits.{line_of}
use Rattle.pim_top.proofs.commands.reply.bits_text.Given as goal

-- the characters so far and those of the bits that are left
abbrev pub invariant-loop-bit : goal.invariant-loop-bit
invariant-loop-bit l = l.line.items ++ line_of (drop l.bit-index l.bits) ≡ line_of l.bits
