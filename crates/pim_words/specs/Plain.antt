-- The words of a command as plain as they come.
use Rattle.std.specs.Prelude.{◌≡◌, ◌⊎◌, ◌≤◌, ◌++◌, ◌∷◌, [], ℕ, Bool, List, Some, codes, false}
use Rattle.std.specs.Prelude.{if◌then◌else◌}
use Rattle.std.specs.Fmt.{decimal}
use Rattle.clap.specs.Words.{Text}
use Rattle.pim_words.specs.Reading.{command_said, is_usage}
use Rattle.pim_words.specs.declared.command.Command.{Command}
use Rattle.pim_words.specs.declared.command.Command.TheVariants as commands
use Rattle.pim_words.specs.declared.command.FillWord.{FillWord}
use Rattle.pim_words.specs.declared.command.FillWord.TheVariants.{Ones, Zeros}
use Rattle.pim_words.specs.declared.command.FormWord.{FormWord}
use Rattle.pim_words.specs.declared.command.FormWord.TheVariants as forms
use Rattle.pim_words.specs.declared.command.LevelWord.{LevelWord}
use Rattle.pim_words.specs.declared.command.LevelWord.TheVariants.{One, Two, Zero}
use Rattle.pim_words.specs.declared.command.TargetWord.{TargetWord}
use Rattle.pim_words.specs.declared.command.TargetWord.TheVariants.{Magic, Plim}
use Rattle.pim_words.specs.declared.limits.TheConstants.{MAX_CELLS}

-- the value of `--target` for this machine
abbrev pub target_text : TargetWord → Text
target_text Magic = codes "magic"
target_text Plim = codes "plim"

-- the value of `--level` for this level
abbrev pub level_text : LevelWord → Text
level_text Zero = codes "0"
level_text One = codes "1"
level_text Two = codes "2"

-- `--cells` with this value
abbrev pub cells_words : Text → List Text
cells_words cells = codes "--cells" ∷ cells ∷ []

-- `compile` for this machine, with this value of `--cells`, and no level
abbrev pub compile_words : TargetWord → Text → List Text
compile_words target cells =
    codes "compile" ∷ codes "--target" ∷ target_text target ∷ cells_words cells

-- `--level` with this level
abbrev pub level_words : LevelWord → List Text
level_words level = codes "--level" ∷ level_text level ∷ []

-- the value of `--fill` for this filling
abbrev pub fill_text : FillWord → Text
fill_text Zeros = codes "zeros"
fill_text Ones = codes "ones"

-- `--fill` with this filling
abbrev pub fill_words : FillWord → List Text
fill_words fill = codes "--fill" ∷ fill_text fill ∷ []

-- the value of `--form` for this form
abbrev pub form_text : FormWord → Text
form_text forms.Text = codes "1"
form_text forms.Binary = codes "2"

-- `convert` to this form
abbrev pub convert_words : FormWord → List Text
convert_words form = codes "convert" ∷ codes "--form" ∷ form_text form ∷ []

-- a command's name and its file
abbrev pub file_words : Text → Text → List Text
file_words name file = name ∷ file ∷ []

-- the command of this name with its file, whatever the name of that is, and nothing else
abbrev pub IsPlainFile : Text → List Text → Type 0
IsPlainFile name words = (file : Text) × (words ≡ file_words name file)

-- the command of this name with its file and `--fill`, which may be left out where it says zeros
abbrev pub IsPlainFill : Text → FillWord → List Text → Type 0
IsPlainFill name fill words = (file : Text)
    × (((fill ≡ Zeros) × (words ≡ file_words name file))
    ⊎ (words ≡ file_words name file ++ fill_words fill))

-- `share` with its file and its number of cells
abbrev pub IsPlainShare : ℕ → List Text → Type 0
IsPlainShare cells words =
    (file : Text) × (words ≡ file_words (codes "share") file ++ cells_words (decimal cells))

-- `explain` with its file, and with `--tree` exactly where the tree is wanted
abbrev pub IsPlainExplain : Bool → List Text → Type 0
IsPlainExplain tree words = (file : Text) × (words
    ≡ file_words (codes "explain") file ++ (if tree then codes "--tree" ∷ [] else []))

-- the words say the command: its file where it has one, whatever its name is, then its options in
-- their order, numbers in digits with no leading zero; an option may be left out where its value is
-- the default, which is 0 for the level and zeros for the fill
abbrev pub IsPlain : Command → List Text → Type 0
IsPlain (commands.Compile target level cells) words = (cells ≤ MAX_CELLS)
    × (((level ≡ Zero) × (words ≡ compile_words target (decimal cells)))
    ⊎ (words ≡ compile_words target (decimal cells) ++ level_words level))
IsPlain (commands.Run fill) words = IsPlainFill (codes "run") fill words
IsPlain commands.List words = IsPlainFile (codes "list") words
IsPlain (commands.Explain tree) words = IsPlainExplain tree words
IsPlain commands.Prove words = IsPlainFile (codes "prove") words
IsPlain commands.Asm words = words ≡ codes "asm" ∷ []
IsPlain (commands.Debug fill) words = IsPlainFill (codes "debug") fill words
IsPlain (commands.Convert form) words = words ≡ convert_words form
IsPlain (commands.Imply cells) words = (cells ≤ MAX_CELLS)
    × (words ≡ codes "imply" ∷ cells_words (decimal cells))
IsPlain (commands.Implyrun fill) words = IsPlainFill (codes "implyrun") fill words
IsPlain (commands.Share cells) words = (cells ≤ MAX_CELLS) × IsPlainShare cells words
IsPlain (commands.Bench bits) words = (1 ≤ bits) × (bits ≤ 64)
    × (words ≡ codes "bench" ∷ decimal bits ∷ [])

-- the words are no usage, and say the command
abbrev pub IsTaken : Command → List Text → Type 0
IsTaken c words = (is_usage words ≡ false) × (command_said words ≡ Some c)
