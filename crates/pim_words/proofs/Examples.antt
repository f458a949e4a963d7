-- Worked examples of the definitions: each computes.
use Rattle.std.proofs.Common.{◌≡◌, List, [], ◌∷◌, ◌++◌, false, refl, true, codes}
use Rattle.std.specs.Prelude.{Some}
use Rattle.clap.specs.Words.{Text}
use Rattle.clap.proofs.OnLiterals.{clap_on_literals}
use Rattle.pim_words.specs.Plain.{cells_words, compile_words, convert_words, file_words, fill_words, level_words}
use Rattle.pim_words.specs.Program.{others, program_word_of}
use Rattle.pim_words.specs.Reading.{command_said, is_usage}
use Rattle.pim_words.specs.declared.command.Command.TheVariants as commands
use Rattle.pim_words.specs.declared.command.FillWord.TheVariants.{Ones, Zeros}
use Rattle.pim_words.specs.declared.command.FormWord.TheVariants as forms
use Rattle.pim_words.specs.declared.command.LevelWord.TheVariants.{Two, Zero}
use Rattle.pim_words.specs.declared.command.TargetWord.TheVariants.{Magic, Plim}

no_word : is_usage [] ≡ true
no_word = refl

other_command : is_usage (codes "melt" ∷ []) ≡ true
other_command = refl

help : is_usage (codes "compile" ∷ codes "--help" ∷ []) ≡ true
unfolding clap_on_literals
help = refl

no_cells : is_usage (codes "compile" ∷ codes "--target" ∷ codes "magic" ∷ []) ≡ true
unfolding clap_on_literals
no_cells = refl

other_target : is_usage (codes "compile" ∷ codes "--target" ∷ codes "imply" ∷ codes "--cells" ∷ codes "5" ∷ []) ≡ true
unfolding clap_on_literals
other_target = refl

too_many : is_usage (compile_words Magic (codes "1048577")) ≡ true
unfolding clap_on_literals
too_many = refl

twice : is_usage (codes "compile" ∷ codes "--cells" ∷ codes "5" ∷ codes "--target" ∷ codes "magic" ∷ codes "--cells" ∷ codes "5" ∷ []) ≡ true
unfolding clap_on_literals
twice = refl

most : command_said (compile_words Magic (codes "1048576")) ≡ Some (commands.Compile Magic Zero 1048576)
unfolding clap_on_literals
most = refl

most_taken : is_usage (compile_words Magic (codes "1048576")) ≡ false
unfolding clap_on_literals
most_taken = refl

other_order : List Text
other_order = codes "compile" ∷ codes "--cells=5" ∷ codes "--target" ∷ codes "magic" ∷ []

other_order_taken : is_usage other_order ≡ false
unfolding clap_on_literals other_order
other_order_taken = refl

other_order_said : command_said other_order ≡ Some (commands.Compile Magic Zero 5)
unfolding clap_on_literals other_order
other_order_said = refl

leading_zero : command_said (compile_words Magic (codes "+05")) ≡ Some (commands.Compile Magic Zero 5)
unfolding clap_on_literals
leading_zero = refl

file_like_an_option : program_word_of (codes "run" ∷ codes "--help" ∷ []) ≡ Some (codes "--help")
file_like_an_option = refl

no_file : is_usage (codes "run" ∷ []) ≡ true
no_file = refl

not_built : is_usage (codes "link" ∷ codes "a" ∷ []) ≡ true
not_built = refl

without_file : others (codes "run" ∷ codes "--fill" ∷ codes "--fill" ∷ codes "ones" ∷ []) ≡ codes "run" ∷ codes "--fill" ∷ codes "ones" ∷ []
without_file = refl

run_said_alone : command_said (file_words (codes "run") (codes "a")) ≡ Some (commands.Run Zeros)
unfolding clap_on_literals
run_said_alone = refl

run_said_ones : command_said (file_words (codes "run") (codes "a") ++ fill_words Ones) ≡ Some (commands.Run Ones)
unfolding clap_on_literals
run_said_ones = refl

run_said_joined : command_said (codes "run" ∷ codes "a" ∷ codes "--fill=ones" ∷ []) ≡ Some (commands.Run Ones)
unfolding clap_on_literals
run_said_joined = refl

-- the file is the second word, so `--help` is a file's name there, and a wish for help behind it
help_file : is_usage (codes "run" ∷ codes "--help" ∷ []) ≡ false
unfolding clap_on_literals
help_file = refl

help_behind_file : is_usage (codes "run" ∷ codes "a" ∷ codes "--help" ∷ []) ≡ true
unfolding clap_on_literals
help_behind_file = refl

-- so an option before the file is taken for the file, and its value for a word too many
option_first : is_usage (codes "run" ∷ codes "--fill" ∷ codes "ones" ∷ codes "a" ∷ []) ≡ true
unfolding clap_on_literals
option_first = refl

other_fill : is_usage (codes "run" ∷ codes "a" ∷ codes "--fill" ∷ codes "two" ∷ []) ≡ true
unfolding clap_on_literals
other_fill = refl

fill_without_value : is_usage (codes "run" ∷ codes "a" ∷ codes "--fill" ∷ []) ≡ true
unfolding clap_on_literals
fill_without_value = refl

fill_twice : is_usage (file_words (codes "run") (codes "a") ++ fill_words Ones ++ fill_words Ones) ≡ true
unfolding clap_on_literals
fill_twice = refl

two_files : is_usage (codes "run" ∷ codes "a" ∷ codes "b" ∷ []) ≡ true
unfolding clap_on_literals
two_files = refl

for_plim : command_said (compile_words Plim (codes "8")) ≡ Some (commands.Compile Plim Zero 8)
unfolding clap_on_literals
for_plim = refl

list_said : command_said (file_words (codes "list") (codes "a")) ≡ Some commands.List
unfolding clap_on_literals
list_said = refl

explain_said_alone : command_said (file_words (codes "explain") (codes "a")) ≡ Some (commands.Explain false)
unfolding clap_on_literals
explain_said_alone = refl

explain_said_tree : command_said (file_words (codes "explain") (codes "a") ++ codes "--tree" ∷ []) ≡ Some (commands.Explain true)
unfolding clap_on_literals
explain_said_tree = refl

-- the flag has no value
tree_with_value : is_usage (codes "explain" ∷ codes "a" ∷ codes "--tree=true" ∷ []) ≡ true
unfolding clap_on_literals
tree_with_value = refl

tree_twice : is_usage (codes "explain" ∷ codes "a" ∷ codes "--tree" ∷ codes "--tree" ∷ []) ≡ true
unfolding clap_on_literals
tree_twice = refl

list_without_file : is_usage (codes "list" ∷ []) ≡ true
list_without_file = refl

asm_said : command_said (codes "asm" ∷ []) ≡ Some commands.Asm
unfolding clap_on_literals
asm_said = refl

-- assembly comes from the input, so a file is a word too many
asm_with_file : is_usage (file_words (codes "asm") (codes "a")) ≡ true
unfolding clap_on_literals
asm_with_file = refl

debug_said_ones : command_said (file_words (codes "debug") (codes "a") ++ fill_words Ones) ≡ Some (commands.Debug Ones)
unfolding clap_on_literals
debug_said_ones = refl

convert_said_text : command_said (convert_words forms.Text) ≡ Some (commands.Convert forms.Text)
unfolding clap_on_literals
convert_said_text = refl

convert_said_joined : command_said (codes "convert" ∷ codes "--form=2" ∷ []) ≡ Some (commands.Convert forms.Binary)
unfolding clap_on_literals
convert_said_joined = refl

no_form : is_usage (codes "convert" ∷ []) ≡ true
unfolding clap_on_literals
no_form = refl

other_form : is_usage (codes "convert" ∷ codes "--form" ∷ codes "02" ∷ []) ≡ true
unfolding clap_on_literals
other_form = refl

other_level : is_usage (compile_words Plim (codes "8") ++ codes "--level" ∷ codes "3" ∷ []) ≡ true
unfolding clap_on_literals
other_level = refl

level_said : command_said (compile_words Plim (codes "8") ++ level_words Two) ≡ Some (commands.Compile Plim Two 8)
unfolding clap_on_literals
level_said = refl

imply_said : command_said (codes "imply" ∷ cells_words (codes "8")) ≡ Some (commands.Imply 8)
unfolding clap_on_literals
imply_said = refl

-- the machine is no choice of its
imply_with_target : is_usage (codes "imply" ∷ codes "--target" ∷ codes "magic" ∷ cells_words (codes "8")) ≡ true
unfolding clap_on_literals
imply_with_target = refl

imply_without_cells : is_usage (codes "imply" ∷ []) ≡ true
unfolding clap_on_literals
imply_without_cells = refl

implyrun_said_ones : command_said (file_words (codes "implyrun") (codes "a") ++ fill_words Ones) ≡ Some (commands.Implyrun Ones)
unfolding clap_on_literals
implyrun_said_ones = refl

share_said : command_said (file_words (codes "share") (codes "a") ++ cells_words (codes "8")) ≡ Some (commands.Share 8)
unfolding clap_on_literals
share_said = refl

share_without_cells : is_usage (file_words (codes "share") (codes "a")) ≡ true
unfolding clap_on_literals
share_without_cells = refl

bench_said : command_said (codes "bench" ∷ codes "64" ∷ []) ≡ Some (commands.Bench 64)
unfolding clap_on_literals
bench_said = refl

no_bits : is_usage (codes "bench" ∷ codes "0" ∷ []) ≡ true
unfolding clap_on_literals
no_bits = refl

too_many_bits : is_usage (codes "bench" ∷ codes "65" ∷ []) ≡ true
unfolding clap_on_literals
too_many_bits = refl

bench_alone : is_usage (codes "bench" ∷ []) ≡ true
unfolding clap_on_literals
bench_alone = refl

bench_of_two : is_usage (codes "bench" ∷ codes "1" ∷ codes "2" ∷ []) ≡ true
unfolding clap_on_literals
bench_of_two = refl
