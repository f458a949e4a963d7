use Rattle.std.proofs.Common.{◌≡◌, drop, map}
use Rattle.std.specs.Prelude.{find}
use Rattle.pim_net.specs.Drivers.{read}
use Rattle.pim_net.specs.inner.Drivers.{is_nobody}
use Rattle.pim_net.specs.declared.parts.OutRef.{OutRef}
use Rattle.pim_net.specs.Tables.{values}
use Rattle.pim_net.proofs.undriven.undriven.Given as goal

abbrev pub invariant-equations : goal.invariant-equations
invariant-equations l =
    find (λ s. is_nobody (values l.table s)) (read (drop l.equation-index l.equations) l.outputs) ≡ find (λ s. is_nobody (values l.table s)) (read l.equations l.outputs)

abbrev pub invariant-outputs : goal.invariant-outputs
invariant-outputs l =
    find (λ s. is_nobody (values l.table s)) (map (λ (o : OutRef). o.sig) (drop l.out-index l.outputs)) ≡ find (λ s. is_nobody (values l.table s)) (read l.equations l.outputs)
