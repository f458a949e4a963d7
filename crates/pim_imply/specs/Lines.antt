-- What the line of an instruction says.
use Rattle.std.specs.Prelude.{ℕ, List, codes, Option, option_map}
use Rattle.std.specs.Option.{option_or}
use Rattle.pim_io.specs.Options.{◌>>=◌}
use Rattle.pim_text.specs.Fields.{plain_number}
use Rattle.pim_text.specs.LineForms.{counted_of, port_of}
use Rattle.pim_imply.specs.declared.instr.ImplyInstr.{ImplyInstr}
use Rattle.pim_imply.specs.declared.instr.ImplyInstr.TheVariants.{False, Imp}

-- a line that is the word `false` and a cell
abbrev pub false_of : List ℕ → Option ImplyInstr
false_of line = option_map (λ q. False q) (counted_of (codes "false ") line)

-- a line that is the word `imp`, a cell, and behind a space another cell, which stands where a port has its label
abbrev pub imp_of : List ℕ → Option ImplyInstr
imp_of line = port_of (codes "imp ") line >>= λ port. option_map (λ q. Imp port.cell q) (plain_number port.label)

-- the instruction of a line
abbrev pub instr_of : List ℕ → Option ImplyInstr
instr_of line = option_or (false_of line) (imp_of line)
