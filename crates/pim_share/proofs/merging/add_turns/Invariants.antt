use Rattle.std.proofs.Common.{◌≡◌, ◌++◌, drop}
use Rattle.pim_isa.specs.Programs.{ProgramView}
use Rattle.pim_share.specs.Turns.{after_turns, bad_turn, interleave}
use Rattle.pim_share.proofs.merging.add_turns.Given as goal

-- the turns that are left lead from here to what all turns lead to from the start
abbrev pub invariant-loop-k : goal.invariant-loop-k
invariant-loop-k l =
    let now : ProgramView = l.draft in
    let initial : ProgramView = l.initial.draft in
    let turns = drop l.k l.turns in
    (record now { instrs = now.instrs ++ interleave l.left.items turns }
    ≡ record initial { instrs = initial.instrs ++ interleave l.initial.left.items l.turns })
    × (after_turns l.left.items turns ≡ after_turns l.initial.left.items l.turns)
    × (bad_turn l.k l.left.items turns ≡ bad_turn 0 l.initial.left.items l.turns)
