-- Inner: what an answer to words says, of one command and of all.
use Rattle.std.specs.Prelude.{◌≡◌, false, true, Err, IfOk, List, OnOk, Result, Some}
use Rattle.clap.specs.Words.{Text, matches_of}
use Rattle.pim_words.specs.Reading.{KnownCommand, IsWithin, command_said, is_usage, refuses}
use Rattle.pim_words.specs.declared.command.Command.{Command}
use Rattle.pim_words.specs.declared.fault.WordsFault.{WordsFault}
use Rattle.pim_words.specs.declared.fault.WordsFault.TheVariants.{Usage}

-- the words are called usage only where the command line refuses them, and give a command only
-- where it takes them and its matches say that one
pub record IsReading (known : KnownCommand) (words : List Text) (r : Result Command WordsFault) : Type 0 where
  pub usage : r ≡ Err Usage → refuses words known.line ≡ true
  pub accepted : OnOk r (refuses words known.line ≡ false)
  pub value : IfOk r (λ c. known.said (matches_of known.line words) ≡ Some c)
  pub within : IfOk r IsWithin

-- the same of the words of any command
pub record IsAnswer (words : List Text) (r : Result Command WordsFault) : Type 0 where
  pub usage : r ≡ Err Usage → is_usage words ≡ true
  pub accepted : OnOk r (is_usage words ≡ false)
  pub value : IfOk r (λ c. command_said words ≡ Some c)
  pub within : IfOk r IsWithin
