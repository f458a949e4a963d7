use Rattle.std.proofs.Common.{◌≡◌, take}
use Rattle.pim_blif.specs.Files.{labels_of}
use Rattle.pim_blif.proofs.reader.closing.labels.Given as goal

abbrev pub invariant-loop-sig : goal.invariant-loop-sig
invariant-loop-sig l = l.labels ≡ labels_of l.names (take l.sig-index l.signals)
