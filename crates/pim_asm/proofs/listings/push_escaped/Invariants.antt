use Rattle.std.proofs.Common.{◌≡◌, ◌++◌, drop}
use Rattle.pim_asm.specs.Labels.{escaped_text}
use Rattle.pim_asm.proofs.listings.push_escaped.Given as goal

-- the text so far, with the bytes that are left, is the whole
abbrev pub invariant-loop-b : goal.invariant-loop-b
invariant-loop-b l = l.text ++ escaped_text (drop l.b-index l.bytes) ≡ l.initial.text ++ escaped_text l.bytes
