use Rattle.std.proofs.Common.{◌≡◌, drop}
use Rattle.pim_blif.specs.inner.Judging.{each, with_input}
use Rattle.pim_blif.specs.inner.Readers.{words_used}
use Rattle.pim_blif.proofs.reader.Reader.add_inputs.Given as goal

abbrev pub invariant-loop-name : goal.invariant-loop-name
invariant-loop-name l = record {
  exact : each (with_input l.line) l.self (drop l.name-index l.names) ≡ each (with_input l.line) l.initial.self l.names;
  used : words_used l.self ≡ words_used l.initial.self;
}
