use Rattle.std.proofs.Common.{ℕ, List, length, ap, arith}
use Rattle.pim_imply.proofs.scheduling.drafted.Goals as goal

pub with_inputs-requires-clause-few : goal.with_inputs-requires-clause-few
with_inputs-requires-clause-few c = let e = ap (λ (xs : List (List ℕ)). length xs) c.inputs.ensures in omega (arith, c.requires.few)
