-- Which word names the file of a program.
use Rattle.std.specs.Prelude.{ℕ, Bool, List, [], ◌∷◌, Option, Some, None, if◌then◌else◌, codes}
use Rattle.std.specs.Prelude.{false}
use Rattle.std.specs.List.{list_any}
use Rattle.std.specs.Str.{bytes_eq}

-- the commands that read a program from a file
abbrev pub program_commands : List (List ℕ)
program_commands =
    codes "run" ∷ codes "list" ∷ codes "explain" ∷ codes "debug" ∷ codes "implyrun" ∷ codes "prove"
    ∷ codes "share" ∷ []

-- the command of this name reads a program from a file
abbrev pub takes_program : List ℕ → Bool
takes_program name = list_any (λ command. bytes_eq command name) program_commands

-- the file that the words name: the second word of a command that has one
abbrev pub program_word_of : List (List ℕ) → Option (List ℕ)
program_word_of (name ∷ file ∷ rest) = if takes_program name then Some file else None
program_word_of _ = None

-- the command has a file, and the words stop before it
abbrev pub lacks_program : List (List ℕ) → Bool
lacks_program (name ∷ []) = takes_program name
lacks_program _ = false

-- the words without the file: the name of the command and its options, which its command line reads
abbrev pub others : List (List ℕ) → List (List ℕ)
others (name ∷ file ∷ rest) = if takes_program name then name ∷ rest else name ∷ file ∷ rest
others words = words
