-- Inner: what a reader of the binary form keeps of what it reads.
use Rattle.std.specs.Prelude.{ℕ, List, ◌++◌, drop, Option, Result, Ok}
use Rattle.std.specs.Option.{option_map, ok_or}
use Rattle.pim_io.specs.Readings.{◌>>=◌}
use Rattle.pim_isa.specs.declared.port.Port.{Port}
use Rattle.pim_isa.specs.declared.instr.Instr.{Instr}
use Rattle.pim_isa.specs.Programs.{ProgramView}
use Rattle.pim_file.specs.declared.fault.FileFault.{FileFault}
use Rattle.pim_file.specs.declared.fault.FileFault.TheVariants as faults
use Rattle.pim_file.specs.inner.Kept.{begun, within_limit}
use Rattle.pim_file.specs.ProgramFile.{validated}
use Rattle.pim_file.specs.Items.{Cursor, number_at, counted}
use Rattle.pim_file.specs.BinaryReading.{target_at, port_at, instr_at, closed_at}

-- a draft with these further inputs
abbrev pub with_inputs : Option ProgramView → List Port → Option ProgramView
with_inputs draft ports = option_map {T = ProgramView} (λ d. record d { inputs = d.inputs ++ ports }) draft

-- a draft with these further outputs
abbrev pub with_outputs : Option ProgramView → List Port → Option ProgramView
with_outputs draft ports = option_map {T = ProgramView} (λ d. record d { outputs = d.outputs ++ ports }) draft

-- a draft with these further instructions
abbrev pub with_instrs : Option ProgramView → List Instr → Option ProgramView
with_instrs draft instrs = option_map {T = ProgramView} (λ d. record d { instrs = d.instrs ++ instrs }) draft

-- what was read is put to what is kept
abbrev pub kept_with : {X S : Type 0} → (S → List X → S) → S → Result (List X × Cursor) FileFault → Result (S × Cursor) FileFault
kept_with puts kept reading = reading >>= λ xs. Ok (puts kept xs.0, xs.1)

-- the draft at a place, where one that is too large is dropped when it begins
unfoldable pub kept_at : Cursor → Result (Option ProgramView × Cursor) FileFault
kept_at c = do
  target ← target_at c
  cells ← number_at target.1
  inputs ← kept_with with_inputs (within_limit (begun target.0 cells.0)) (counted port_at cells.1)
  outputs ← kept_with with_outputs inputs.0 (counted port_at inputs.1)
  kept_with with_instrs outputs.0 (counted instr_at outputs.1)

-- the draft of the whole file
unfoldable pub draft_within_limit : List ℕ → Result ProgramView FileFault
draft_within_limit bytes = do
  kept ← kept_at (record { place = 5; rest = drop 5 bytes })
  draft ← closed_at kept.0 kept.1.place kept.1.rest
  ok_or draft faults.TooLarge

-- the program of the whole file
abbrev pub program2_within_limit : List ℕ → Result ProgramView FileFault
program2_within_limit bytes = draft_within_limit bytes >>= validated
