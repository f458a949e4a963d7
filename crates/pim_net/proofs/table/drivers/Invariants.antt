use Rattle.pim_net.specs.Drivers.{sigs}
use Rattle.pim_net.specs.Tables.{values}
use Rattle.pim_net.proofs.Tables.{InputsDone, EquationsDone}
use Rattle.pim_net.proofs.table.drivers.Given as goal

abbrev pub invariant-inputs : goal.invariant-inputs
invariant-inputs l = InputsDone l.inputs (sigs l.equations) l.k (values l.table)

abbrev pub invariant-equations : goal.invariant-equations
invariant-equations l = EquationsDone l.inputs (sigs l.equations) l.k (values l.table)
