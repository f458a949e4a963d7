use Rattle.std.proofs.Common.{◌≡◌, drop}
use Rattle.pim_blif.specs.inner.Judging.{each, with_output}
use Rattle.pim_blif.specs.inner.Readers.{words_used}
use Rattle.pim_blif.proofs.reader.Reader.add_outputs.Given as goal

abbrev pub invariant-loop-name : goal.invariant-loop-name
invariant-loop-name l = record {
  exact : each (with_output) l.self (drop l.name-index l.names) ≡ each (with_output) l.initial.self l.names;
  used : words_used l.self ≡ words_used l.initial.self;
}
