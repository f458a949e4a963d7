use Rattle.std.proofs.Common.{map, refl}
use Rattle.std.specs.String.{string_bytes}
use Rattle.clap.specs.Words.{app_of, new_app}
use Rattle.pim_words.specs.Reading.{without_options}
use Rattle.pim_words.proofs.Answered.{matches_read}
use Rattle.pim_words.proofs.ChoiceLines.{same_alike}
use Rattle.pim_words.proofs.no_options.read_without_options.Goals as goal

pub returns : goal.returns
returns c = matches_read (without_options c.args.name.now c.args.command) (app_of c.new.result) (map string_bytes c.args.words.now) _
    (same_alike (app_of c.new.result) (new_app c.args.name.now) refl c.new.ensures.app) c.in_ok-_matches.ensures.kinds refl c.requires
