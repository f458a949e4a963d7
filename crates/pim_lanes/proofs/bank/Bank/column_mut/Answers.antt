use Rattle.std.proofs.Common.{ℕ, ◌+◌, ◌*◌, ◌<◌, List, length, refl, sym, subst, ap, ◌∙◌}
use Rattle.pim_lanes.specs.Banks.{BankView, with_column}
use Rattle.pim_lanes.proofs.ColumnLemmas.{column_in_slice}
use Rattle.pim_lanes.proofs.BankLemmas.{cell_column}
use Rattle.pim_lanes.proofs.LendLemmas.{lent_view, lent_invariant, length-cell_column, with_column_rows}
use Rattle.pim_lanes.proofs.bank.Bank.column_mut.Goals as goal

pub invariant_of-self-lent : goal.invariant_of-self-lent
invariant_of-self-lent c = λ w.
    let inside = c.self.inside in
    lent_invariant inside.cells inside.words inside.buffer.len c.args.c inside.buffer.items w inside.buffer.ok.0 c.self.invariant
    (subst (λ (t : BankView). c.args.c < t.cells) (sym c.self.view_is) c.requires)

pub returns : goal.returns
returns c =
    let inside = c.self.inside in
    let items : List ℕ = inside.buffer.items in
    let k : ℕ = c.args.c in
    let b : BankView = c.args.self.now in
    let is = c.self.view_is in
    let small : k < inside.cells = subst (λ (t : BankView). k < t.cells) (sym is) c.requires in
    let column = c.slice_mut.ensures.value ∙ column_in_slice inside.words items (k + 2) ((k + 2) * inside.words) refl in (
      (
        refl,
        λ w.
            lent_view inside.cells inside.words inside.buffer.len k items w inside.buffer.ok.0 c.self.invariant small
            ∙ ap (λ (t : BankView). with_column t k w) is,
      ),
      record {
        lends = tt;
        value = column ∙ cell_column _ b items k is refl c.requires;
        long = ap length column ∙ length-cell_column inside.cells inside.words k items c.self.invariant small ∙ ap (λ (t : BankView). t.words) is;
        rows = λ column. with_column_rows _ b items k column is refl c.self.invariant c.requires;
      },
    )
