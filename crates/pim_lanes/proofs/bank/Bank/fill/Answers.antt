use Rattle.std.proofs.Common.{ℕ, length, replicate, ap, ◌∙◌}
use Rattle.std.proofs.lemmas.List.{with_items_is}
use Rattle.pim_isa.specs.Results.{fill_bit}
use Rattle.pim_io.specs.Lanes.{lane}
use Rattle.pim_lanes.proofs.BankLemmas.{fill_rows, fill_lanes}
use Rattle.pim_lanes.proofs.bank.Bank.fill.Goals as goal

pub returns-clause-rows : goal.returns-clause-rows
returns-clause-rows c =
    fill_rows _ c.args.self.now c.deref_mut.result.now c.fill_columns.new.buffer _ c.fill_word.result (fill_bit c.args.fill) c.self.view_is
    (with_items_is c.self.inside.buffer c.fill_columns.new.buffer (c.fill_columns.auto.buffer ∙ c.deref_mut.ensures.len))
    (ap length c.deref_mut.ensures.value ∙ c.self.invariant.whole)
    (λ r row. ap (λ (x : ℕ). lane (replicate c.self.inside.words x) r) c.fill_word.ensures ∙ fill_lanes c.args.fill c.self.inside.words r row)
    c.fill_columns.ensures.filled
