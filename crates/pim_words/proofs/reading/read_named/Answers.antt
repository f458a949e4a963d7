use Rattle.std.proofs.Common.{codes, map, refl}
use Rattle.std.specs.String.{string_bytes}
use Rattle.pim_words.specs.Reading.{bench_command, compile_command, convert_command, explain_command, with_cells, without_options}
use Rattle.pim_words.specs.declared.command.Command.TheVariants as commands
use Rattle.pim_words.proofs.Named.{cells_ignores, explain_ignores, file_answer, filed, fill_answer, input_answer}
use Rattle.pim_words.proofs.reading.read_named.Goals as goal

pub returns-in-compile-clause-answer : goal.returns-in-compile-clause-answer
returns-in-compile-clause-answer c =
    input_answer (codes "compile") (map string_bytes c.args.words.now) (map string_bytes c.args.others.now) c.args.name.now c.read_compile.result (c.requires.named, c.in-compile.is)
    compile_command refl refl c.read_compile.ensures

pub returns-in-run-clause-answer : goal.returns-in-run-clause-answer
returns-in-run-clause-answer c =
    fill_answer (codes "run") (map string_bytes c.args.words.now) (map string_bytes c.args.others.now) c.args.name.now c.read_run.result (c.requires.named, c.in-run.is)
    commands.Run refl refl c.requires.filed c.read_run.ensures

pub returns-in-list-clause-answer : goal.returns-in-list-clause-answer
returns-in-list-clause-answer c =
    file_answer (codes "list") (map string_bytes c.args.words.now) (map string_bytes c.args.others.now) c.args.name.now c.read_without_options.result (c.requires.named, c.in-list.is)
    commands.List refl refl c.requires.filed c.read_without_options.ensures

pub returns-in-explain-clause-answer : goal.returns-in-explain-clause-answer
returns-in-explain-clause-answer c =
    filed (codes "explain") (map string_bytes c.args.words.now) (map string_bytes c.args.others.now) c.args.name.now c.read_explain.result (c.requires.named, c.in-explain.is)
    explain_command refl refl explain_ignores c.requires.filed c.read_explain.ensures

pub returns-in-prove-clause-answer : goal.returns-in-prove-clause-answer
returns-in-prove-clause-answer c =
    file_answer (codes "prove") (map string_bytes c.args.words.now) (map string_bytes c.args.others.now) c.args.name.now c.read_without_options-in-prove.result (c.requires.named, c.in-prove.is)
    commands.Prove refl refl c.requires.filed c.read_without_options-in-prove.ensures

pub returns-in-asm-clause-answer : goal.returns-in-asm-clause-answer
returns-in-asm-clause-answer c =
    input_answer (codes "asm") (map string_bytes c.args.words.now) (map string_bytes c.args.others.now) c.args.name.now c.read_without_options-in-asm.result (c.requires.named, c.in-asm.is)
    (without_options (codes "asm") commands.Asm) refl refl c.read_without_options-in-asm.ensures

pub returns-in-debug-clause-answer : goal.returns-in-debug-clause-answer
returns-in-debug-clause-answer c =
    fill_answer (codes "debug") (map string_bytes c.args.words.now) (map string_bytes c.args.others.now) c.args.name.now c.read_debug.result (c.requires.named, c.in-debug.is)
    commands.Debug refl refl c.requires.filed c.read_debug.ensures

pub returns-in-convert-clause-answer : goal.returns-in-convert-clause-answer
returns-in-convert-clause-answer c =
    input_answer (codes "convert") (map string_bytes c.args.words.now) (map string_bytes c.args.others.now) c.args.name.now c.read_convert.result (c.requires.named, c.in-convert.is)
    convert_command refl refl c.read_convert.ensures

pub returns-in-imply-clause-answer : goal.returns-in-imply-clause-answer
returns-in-imply-clause-answer c =
    input_answer (codes "imply") (map string_bytes c.args.words.now) (map string_bytes c.args.others.now) c.args.name.now c.read_imply.result (c.requires.named, c.in-imply.is)
    (with_cells (codes "imply") commands.Imply) refl refl c.read_imply.ensures

pub returns-in-implyrun-clause-answer : goal.returns-in-implyrun-clause-answer
returns-in-implyrun-clause-answer c =
    fill_answer (codes "implyrun") (map string_bytes c.args.words.now) (map string_bytes c.args.others.now) c.args.name.now c.read_implyrun.result (c.requires.named, c.in-implyrun.is)
    commands.Implyrun refl refl c.requires.filed c.read_implyrun.ensures

pub returns-in-share-clause-answer : goal.returns-in-share-clause-answer
returns-in-share-clause-answer c =
    filed (codes "share") (map string_bytes c.args.words.now) (map string_bytes c.args.others.now) c.args.name.now c.read_share.result (c.requires.named, c.in-share.is)
    (with_cells (codes "share") commands.Share) refl refl (cells_ignores (codes "share")) c.requires.filed c.read_share.ensures

pub returns-in-bench-clause-answer : goal.returns-in-bench-clause-answer
returns-in-bench-clause-answer c =
    input_answer (codes "bench") (map string_bytes c.args.words.now) (map string_bytes c.args.others.now) c.args.name.now c.read_bench.result (c.requires.named, c.in-bench.is)
    bench_command refl refl c.read_bench.ensures
