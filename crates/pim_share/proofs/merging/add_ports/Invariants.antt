use Rattle.std.proofs.Common.{◌≡◌, ◌≤◌, ◌+◌, ◌++◌, drop}
use Rattle.pim_isa.specs.Programs.{ProgramView}
use Rattle.pim_share.specs.Merged.{inputs_from, outputs_from}
use Rattle.pim_share.specs.Windows.{needed}
use Rattle.pim_share.proofs.merging.add_ports.Given as goal

-- the ports so far and those of the parts that are left, whose windows lie behind the base
abbrev pub invariant-loop-part : goal.invariant-loop-part
invariant-loop-part l =
    let now : ProgramView = l.draft in
    let initial : ProgramView = l.initial.draft in
    let left = drop l.part-index l.parts in
    (record now { inputs = now.inputs ++ inputs_from l.base left; outputs = now.outputs ++ outputs_from l.base left }
    ≡ record initial { inputs = initial.inputs ++ inputs_from 0 l.parts; outputs = initial.outputs ++ outputs_from 0 l.parts })
    × (l.base + needed left ≤ 1048576)
