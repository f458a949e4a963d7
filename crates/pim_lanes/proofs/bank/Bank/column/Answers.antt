use Rattle.std.proofs.Common.{◌≡◌, ℕ, ◌-◌, ◌<◌, ◌≤◌, inl, inr, List, refl, sym, ap, subst, ◌∙◌}
use Rattle.std.proofs.lemmas.Bool.{cases_lt}
use Rattle.pim_io.specs.Lanes.{lane, column_in}
use Rattle.pim_lanes.specs.Banks.{BankView}
use Rattle.pim_lanes.proofs.ColumnLemmas.{column_in_slice}
use Rattle.pim_lanes.proofs.BankLemmas.{cell_column, constant_column, column_bit}
use Rattle.pim_lanes.proofs.bank.Bank.column.Goals as goal

pub returns-clause-value : goal.returns-clause-value
returns-clause-value c =
    let inside = c.self.inside in
    let items : List ℕ = inside.buffer.items in
    let is = c.self.view_is in
    let b : BankView = c.args.self.now in
    let k : ℕ = c.args.c in
    let cells : inside.cells ≡ b.cells = ap (λ (v : BankView). v.cells) is in
    column_in_slice inside.words c.deref.result.now c.place_in.result _ refl
    ∙ ap (λ (l : List ℕ). column_in inside.words l c.place_in.result) c.deref.ensures.value
    ∙ elim (cases_lt k b.cells) [
      | inl small ↦
          ap (column_in inside.words items) (c.place_in.ensures.cell (subst (λ (n : ℕ). k < n) (sym cells) small))
          ∙ cell_column _ b items k is refl small
      | inr high ↦
          ap (column_in inside.words items) (c.place_in.ensures.constant (subst (λ (n : ℕ). n ≤ k) (sym cells) high) ∙ ap (λ (n : ℕ). k - n) cells)
          ∙ constant_column _ b items k is c.self.invariant high c.requires
    ]

pub returns-clause-lanes : goal.returns-clause-lanes
returns-clause-lanes c = λ small r row.
    ap (λ (ws : List ℕ). lane ws r) (returns-clause-value c) ∙ column_bit c.args.self.now c.args.c r small
