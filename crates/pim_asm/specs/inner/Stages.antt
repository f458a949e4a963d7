-- Inner: how far an assembler is.
use Rattle.pim_asm.specs.declared.assembler.Stage.{Stage as Place}
use Rattle.pim_asm.specs.declared.assembler.Stage.TheVariants as place
use Rattle.pim_asm.specs.Assembly.{Stage, Start, Aimed, Inside}

-- how far a text is read
abbrev pub stage_of : Place → Stage
stage_of place.Start = Start
stage_of (place.Aimed target) = Aimed target
stage_of (place.Inside body) = Inside body
