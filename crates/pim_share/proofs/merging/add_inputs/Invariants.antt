use Rattle.std.proofs.Common.{◌≡◌, ◌++◌, drop}
use Rattle.pim_isa.specs.Programs.{ProgramView}
use Rattle.pim_share.specs.Moved.{moved_ports}
use Rattle.pim_share.proofs.merging.add_inputs.Given as goal

abbrev pub invariant-loop-port : goal.invariant-loop-port
invariant-loop-port l =
    let now : ProgramView = l.draft in
    let initial : ProgramView = l.initial.draft in
    record now { inputs = now.inputs ++ moved_ports l.base (drop l.port-index l.ports) }
    ≡ record initial { inputs = initial.inputs ++ moved_ports l.base l.ports }
