use Rattle.std.proofs.Common.{◌≡◌, ◌+◌, ◌≤◌, length}
use Rattle.pim_io.specs.declared.limits.TheConstants.{MAX_PROGRAM}
use Rattle.pim_io.specs.Lines.{lines_left}
use Rattle.pim_aiger.specs.SymbolTable.{symbols_of, no_names, then_names}
use Rattle.pim_aiger.specs.inner.Kept.{IsSized}
use Rattle.pim_aiger.specs.inner.Views.{header_view}
use Rattle.pim_aiger.proofs.names.names_at.Given as goal

abbrev pub invariant-loop-line : goal.invariant-loop-line
invariant-loop-line l = record {
  exact : then_names l.names (symbols_of (header_view l.header) l.place (lines_left l.scan)) ≡ then_names (no_names (header_view l.header)) (symbols_of (header_view l.header) l.place (lines_left l.initial.scan));
  sized : IsSized (header_view l.header) l.names;
  within : l.place + l.scan.start + length l.scan.rest ≤ MAX_PROGRAM;
}

abbrev pub decreases-loop-line : goal.decreases-loop-line
decreases-loop-line l = length l.scan.rest
