use Rattle.std.proofs.Common.{◌≡◌, ℕ, Bool, not, set, ap, ◌∙◌}
use Rattle.pim_isa.specs.Steps.{bit, value, majority}
use Rattle.pim_io.specs.Lanes.{lane}
use Rattle.pim_lanes.specs.Banks.{BankView, column_at, row_of}
use Rattle.pim_lanes.proofs.BankLemmas.{rm3_fits, operand_value}
use Rattle.pim_lanes.proofs.bank.Bank.rm3.Goals as goal

pub returns-clause-rows : goal.returns-clause-rows
returns-clause-rows c = λ r row.
    let b : BankView = c.args.self.now in
    let p = c.args.p in
    let q = c.args.q in
    let z = c.args.z in
    let fits = rm3_fits b.cells p q z c.requires in
    let m = row_of b r in
    let first : lane (column_at b c.place_of.result) r ≡ value m p =
    ap (λ (n : ℕ). lane (column_at b n) r) c.place_of.ensures ∙ operand_value b r p row fits.first.within in
    let second : lane (column_at b c.place_of-2.result) r ≡ value m q =
    ap (λ (n : ℕ). lane (column_at b n) r) c.place_of-2.ensures ∙ operand_value b r q row fits.second.within in
    c.rm3_columns.ensures.rows r row
    ∙ ap (λ (x : Bool). set m z (majority x (not (lane (column_at b c.place_of-2.result) r)) (bit m z))) first
    ∙ ap (λ (x : Bool). set m z (majority (value m p) (not x) (bit m z))) second
