use Rattle.std.proofs.Common.{◌≡◌, drop}
use Rattle.std.specs.Prelude.{find}
use Rattle.pim_net.specs.inner.Drivers.{is_nobody}
use Rattle.pim_net.specs.Tables.{values}
use Rattle.pim_net.proofs.undriven.undriven_column.Given as goal

abbrev pub invariant-columns : goal.invariant-columns
invariant-columns l =
    find (λ s. is_nobody (values l.table s)) (drop l.sig-index l.columns) ≡ find (λ s. is_nobody (values l.table s)) l.columns
