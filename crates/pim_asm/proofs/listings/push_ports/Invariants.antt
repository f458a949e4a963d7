use Rattle.std.proofs.Common.{◌≡◌, ◌++◌, drop}
use Rattle.std.specs.List.{AllByRecursion}
use Rattle.pim_asm.specs.Listing.{ports_listing}
use Rattle.pim_asm.specs.inner.Bytes.{HasByteLabel}
use Rattle.pim_asm.proofs.listings.push_ports.Given as goal

-- the text so far, with the lines of the ports that are left, is the whole; and if the labels that are left are bytes, all are
abbrev pub invariant-loop-port : goal.invariant-loop-port
invariant-loop-port l = record {
  text : l.text ++ ports_listing l.word (drop l.port-index l.ports) ≡ l.initial.text ++ ports_listing l.word l.ports;
  small : AllByRecursion HasByteLabel (drop l.port-index l.ports) → AllByRecursion HasByteLabel l.ports;
}
