-- Which sources a command reads, and what kind of command it is.
use Rattle.std.specs.Prelude.{◌≡◌, ◌≤◌, ◌<◌, ℕ, Bool, true, false, List, [], Option, None, Some, length}
use Rattle.pim_io.specs.Outside.{Told}
use Rattle.pim_words.specs.declared.command.Command.{Command}
use Rattle.pim_words.specs.declared.command.Command.TheVariants.{Asm, Bench, Compile, Convert, Debug, Explain, Imply, Implyrun, List as Listed, Prove, Run, Share}
use Rattle.pim_top.specs.Streams.{IsRead, IsUntouched, Seen, Stream}
use Rattle.pim_io.specs.declared.limits.TheConstants.{MAX_INPUT, MAX_PROGRAM}
use Rattle.pim_top.specs.declared.refusal.Origin.{Origin}
use Rattle.pim_top.specs.declared.refusal.Origin.TheVariants.{Input, Program}

-- the most bytes of the source that the command reads, and nothing where it doesn't read it
abbrev pub reads : Command → Origin → Option ℕ
reads (Compile target level cells) Program = None
reads (Compile target level cells) Input = Some MAX_INPUT
reads (Run fill) Program = Some MAX_PROGRAM
reads (Run fill) Input = Some MAX_INPUT
reads Listed Program = Some MAX_PROGRAM
reads Listed Input = None
reads (Explain tree) Program = Some MAX_PROGRAM
reads (Explain tree) Input = None
reads Prove Program = Some MAX_PROGRAM
reads Prove Input = Some MAX_INPUT
reads Asm Program = None
reads Asm Input = Some MAX_INPUT
reads (Debug fill) Program = Some MAX_PROGRAM
reads (Debug fill) Input = Some MAX_INPUT
reads (Convert form) Program = None
reads (Convert form) Input = Some MAX_PROGRAM
reads (Imply cells) Program = None
reads (Imply cells) Input = Some MAX_INPUT
reads (Implyrun fill) Program = Some MAX_PROGRAM
reads (Implyrun fill) Input = Some MAX_INPUT
reads (Share cells) Program = Some MAX_PROGRAM
reads (Share cells) Input = Some MAX_INPUT
reads (Bench bits) Program = None
reads (Bench bits) Input = None

-- the command writes to the output while it reads the input
abbrev pub streams : Command → Bool
streams (Run fill) = true
streams (Debug fill) = true
streams (Implyrun fill) = true
streams command = false

-- the command executes rows, all of whose memory it takes before it reads the first of them
abbrev pub executes_rows : Command → Bool
executes_rows (Run fill) = true
executes_rows (Implyrun fill) = true
executes_rows command = false

-- the source of this origin
abbrev pub source : Seen → Origin → Stream
source seen Program = seen.program
source seen Input = seen.input

-- a source that the command doesn't read is untouched
abbrev pub IsApart : Command → Seen → Type 0
IsApart command seen = (o : Origin) → reads command o ≡ None → IsUntouched (source seen o)

-- a source with this limit was read to its end, and these are its bytes; one without a limit is not read and gives none
abbrev pub IsReadBy : Option ℕ → Stream → List ℕ → Type 0
IsReadBy None s bytes = (bytes ≡ []) × IsUntouched s
IsReadBy (Some limit) s bytes = IsRead s limit bytes

-- this holds of a source that is read, and of its limit
abbrev pub OfLimit : Option ℕ → (ℕ → Type 0) → Type 0
OfLimit None P = ⊥
OfLimit (Some limit) P = P limit

-- the bytes are within the limit, where there is one
abbrev pub IsWithin : Option ℕ → List ℕ → Type 0
IsWithin None bytes = Unit {0}
IsWithin (Some limit) bytes = length bytes ≤ limit

-- the bytes are more than the limit
abbrev pub IsOver : Option ℕ → List ℕ → Type 0
IsOver limit bytes = OfLimit limit (λ most. most < length bytes)

-- the bytes are all that a source tells before the call, where it is read; one that is not read counts as empty
abbrev pub Tells : Option ℕ → Stream → List ℕ → Type 0
Tells None s bytes = bytes ≡ []
Tells (Some limit) s bytes = s.before ≡ Some bytes

-- a source that is read to its end has bytes within the limit of which this holds, where it tells them; one that is not read
-- counts as empty
abbrev pub OfBytes : Option ℕ → Stream → (List ℕ → Type 0) → Type 0
OfBytes None s P = P []
OfBytes (Some limit) s P = Told s.before s.now (λ bytes rest. (rest ≡ []) × (length bytes ≤ limit) × P bytes)

-- the same of the input; a command that may end before its input says it of all bytes of it, read or not
abbrev pub OfInput : Command → Stream → (List ℕ → Type 0) → Type 0
OfInput (Debug fill) s P = Told s.before s.now (λ bytes rest. P bytes)
OfInput command s P = OfBytes (reads command Input) s P
