use Rattle.std.proofs.Common.{◌≡◌, length, drop}
use Rattle.pim_isa.specs.Results.{with_inputs}
use Rattle.pim_isa.proofs.row.Row.put_inputs.Given as goal

-- the rest of the inputs, on the row so far, gives what all of them give
abbrev pub invariant-loop-port : goal.invariant-loop-port
invariant-loop-port l =
    with_inputs (drop (length l.yielded) l.inputs) (drop (length l.yielded) l.bits) l.self ≡ with_inputs l.inputs l.bits l.initial.self
