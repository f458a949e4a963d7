use Rattle.std.proofs.Common.{ℕ, List, refl, ◌∙◌}
use Rattle.std.proofs.lemmas.List.{with_items_is}
use Rattle.pim_io.specs.Lanes.{lane}
use Rattle.pim_lanes.proofs.BankLemmas.{row_lanes}
use Rattle.pim_lanes.proofs.bank.Bank.put_column.Goals as goal

pub returns-clause-rows : goal.returns-clause-rows
returns-clause-rows c =
    row_lanes (λ (o : List ℕ) (r : ℕ). lane c.args.words.now r) _ c.args.self.now c.args.c c.self.inside.buffer.items c.deref_mut.result.now c.put_column.new.buffer _
    c.self.view_is (with_items_is c.self.inside.buffer c.put_column.new.buffer (c.put_column.auto.buffer ∙ c.deref_mut.ensures.len)) c.deref_mut.ensures.value refl
    c.requires.cell c.put_column.ensures
