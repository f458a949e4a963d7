-- What an error of `clap` means.
use Rattle.std.specs.Prelude.{◌≡◌, ◌↔◌}
use Rattle.clap.specs.Words.{kind_of}
use Rattle.clap.specs.declared.error.Error.{Error}
use Rattle.clap.specs.declared.error.kind.ErrorKind.TheVariants.{OutOfMemory}
use Rattle.pim_words.specs.declared.fault.WordsFault.{WordsFault}
use Rattle.pim_words.specs.declared.fault.WordsFault.TheVariants.{NoMemory}

-- memory was wanting exactly where the error says so, and every other error is a refusal
abbrev pub IsFaultOf : Error → WordsFault → Type 0
IsFaultOf error fault = (kind_of error ≡ OutOfMemory) ↔ (fault ≡ NoMemory)
