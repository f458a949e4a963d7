use Rattle.pim_file.proofs.FormLaws.{program_has_binary}
use Rattle.pim_file.proofs.binary.printing.form.Goals as goal

pub push_instrs-requires-clause-spelled : goal.push_instrs-requires-clause-spelled
push_instrs-requires-clause-spelled c =
    let form = program_has_binary c.args.program.now c.target.ensures.valid in
    rw c.instrs.ensures.value form.instrs
