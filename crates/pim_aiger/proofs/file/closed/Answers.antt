use Rattle.std.proofs.Common.{Ok}
use Rattle.std.proofs.lemmas.Result.{err_from_is_err_and}
use Rattle.pim_aiger.specs.SymbolTable.{names_at}
use Rattle.pim_aiger.specs.Files.{closing, netlist}
use Rattle.pim_aiger.specs.inner.Views.{header_view}
use Rattle.pim_aiger.proofs.Many.{Fails-then}
use Rattle.pim_aiger.proofs.file.closed.Goals as goal

pub returns-in_err-names : goal.returns-in_err-names
unfolding closing
returns-in_err-names c =
    let p = err_from_is_err_and c.from_residual.result c.from_residual.ensures.1 in
    let fails = rw (c.place.ensures.place, c.rest.ensures) at c.in_err-names.ensures.exact in
    rw (p.1, p.2) (Fails-then c.in_err-names.field-0.0 (names_at (header_view c.args.header.now) c.args.reader.now) (λ names. Ok (netlist c.args.inputs.now c.args.outputs.now c.args.draft.equations names)) fails)
