-- Inner: what every draft keeps, with its notes of the inputs, so that a repeated one is found without a search over pairs.
use Rattle.std.specs.Prelude.{◌≡◌, ℕ, ◌<◌, ◌≤◌, Bool, false, List, [], length, map, Option, slice_index_or, All}
use Rattle.pim_isa.specs.declared.port.Port.{Port}
use Rattle.pim_isa.specs.declared.draft.TheConstants.{MAX_CELLS}
use Rattle.pim_isa.specs.Validity.{bad_input, has}
use Rattle.pim_isa.specs.Sound.{HasLabel}

-- the marks are those of the input cells below `cells`, and `bad` is the first place of an input at fault
pub record Notes (cells : ℕ) (inputs : List Port) (marks : List Bool) (bad : Option ℕ) : Type 0 where
  pub within : length marks ≤ cells
  pub marked : (c : ℕ) → c < cells → slice_index_or marks c false ≡ has c (map (λ p. p.cell) inputs)
  pub first : bad ≡ bad_input cells 0 [] inputs

-- what every draft keeps: at most so many cells, labels on its ports, and the notes of its inputs
pub record IsDraft (cells : ℕ) (inputs outputs : List Port) (marks : List Bool) (bad : Option ℕ) : Type 0 where
  pub small : cells ≤ MAX_CELLS
  pub input_labels : All HasLabel inputs
  pub output_labels : All HasLabel outputs
  pub notes : Notes cells inputs marks bad
