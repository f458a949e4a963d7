use Rattle.std.proofs.Common.{◌≡◌, length, drop}
use Rattle.pim_io.specs.Bits.{bits_of}
use Rattle.pim_isa.specs.Results.{with_inputs}
use Rattle.pim_isa.proofs.row.Row.put_line.Given as goal

-- the rest of the inputs, on the row so far, gives what all of them give
abbrev pub invariant-loop-port : goal.invariant-loop-port
invariant-loop-port l =
    with_inputs (drop (length l.yielded) l.inputs) (bits_of (drop (length l.yielded) l.line)) l.self
    ≡ with_inputs l.inputs (bits_of l.line) l.initial.self
