use Rattle.std.proofs.Common.{subst, sym}
use Rattle.pim_prove.specs.Proving.{IsVerdict}
use Rattle.pim_prove.proofs.Refusals.{none_of_not, same_ports}
use Rattle.pim_prove.proofs.Verdicts.{Compared, found_verdict}
use Rattle.pim_prove.proofs.proving.prove.Goals as goal

pub returns-clause-verdict : goal.returns-clause-verdict
returns-clause-verdict c =
    let p = c.args.program.now in
    let n = c.args.net.now in
    let g = c.in-Ok.aig in
    let ports = same_ports p n (sym c.if-ports_differ.ensures.value) in
    let compared : Compared p n g = record {
      inputs = ports.0;
      outputs = ports.1;
      graph = c.in-Ok.ensures.flat;
      values = c.in-Ok.ensures.values;
      steady = c.first_unset.ensures.steady (c.in_ok-unset.ensures.clean.0 (none_of_not c.in_ok-unset.field-0 c.in_default.not-Some));
      valid = c.ports_differ.ensures.valid;
    } in
    subst (IsVerdict p n) (sym c.verdict_of.ensures) (found_verdict p n g compared c.in_ok-found.found c.in_ok-found.ensures)
