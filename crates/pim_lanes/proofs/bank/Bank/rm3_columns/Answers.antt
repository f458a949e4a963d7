use Rattle.std.proofs.Common.{refl, ◌∙◌}
use Rattle.std.proofs.lemmas.List.{with_items_is}
use Rattle.pim_lanes.proofs.BankLemmas.{rm3_rows}
use Rattle.pim_lanes.proofs.bank.Bank.rm3_columns.Goals as goal

pub returns-clause-rows : goal.returns-clause-rows
returns-clause-rows c =
    rm3_rows _ c.args.self.now c.args.z c.args.p c.args.q c.self.inside.buffer.items c.deref_mut.result.now c.rm3_column.new.buffer _
    c.self.view_is (with_items_is c.self.inside.buffer c.rm3_column.new.buffer (c.rm3_column.auto.buffer ∙ c.deref_mut.ensures.len)) c.deref_mut.ensures.value refl
    c.self.invariant c.requires.z_within c.rm3_column.ensures
