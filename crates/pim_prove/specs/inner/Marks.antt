-- Inner: the cells that are set, as they are marked, going through the instructions once.
use Rattle.std.specs.Prelude.{ℕ, ◌+◌, Bool, ◌||◌, List, [], ◌∷◌, Option, option_map}
use Rattle.std.specs.Option.{option_or}
use Rattle.pim_isa.specs.declared.instr.Instr.{Instr}
use Rattle.pim_isa.specs.Touches.{writes}
use Rattle.pim_isa.specs.Validity.{has}
use Rattle.pim_prove.specs.declared.unset.Unset.{Unset}
use Rattle.pim_prove.specs.declared.unset.Unset.TheVariants.{Used, Output}
use Rattle.pim_prove.specs.Clean.{first_unset_of, first_unset_output, uses}

-- the cells that are set after one more instruction
abbrev pub set_after : (ℕ → Bool) → Instr → ℕ → Bool
set_after set i c = set c || has c (writes i)

-- the first use of a cell that isn't set, where these cells are set before the instructions, which stand from place k on
abbrev pub unset_from : (ℕ → Bool) → ℕ → List Instr → List ℕ → Option Unset
unset_from set k [] outputs = option_map (λ n. Output n) (first_unset_output set 0 outputs)
unset_from set k (i ∷ is) outputs =
    option_or (option_map (λ c. Used k c) (first_unset_of set (uses i))) (unset_from (set_after set i) (k + 1) is outputs)
