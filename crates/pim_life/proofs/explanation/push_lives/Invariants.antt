use Rattle.std.proofs.Common.{◌≡◌, ◌++◌, drop}
use Rattle.std.specs.List.{flat_map}
use Rattle.pim_life.specs.Explanations.{life_text}
use Rattle.pim_life.proofs.explanation.push_lives.Given as goal

-- the text so far, with the lives that are left, is the whole
abbrev pub invariant-loop-life : goal.invariant-loop-life
invariant-loop-life l =
    l.text.items ++ flat_map life_text (drop l.life-index l.lives) ≡ l.initial.text.items ++ flat_map life_text l.lives
