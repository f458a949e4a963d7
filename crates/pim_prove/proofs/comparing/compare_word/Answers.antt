use Rattle.std.proofs.Common.{sym, ◌∙◌, arith}
use Rattle.pim_prove.proofs.Tiles.{never_none, none_found, word_found}
use Rattle.pim_prove.proofs.comparing.compare_word.Goals as goal

pub returns-then-lanes-eq0 : goal.returns-then-lanes-eq0
returns-then-lanes-eq0 c =
    none_found c.args.program.now c.args.aig.now c.args.bank.now c.args.values.now c.args.place c.args.word c.outputs-outputs.result.now c.outputs-literals.result.now c.unlike_lanes-lanes.result c.if-lanes-eq0.true
    (record { rows = c.requires.rows; values = c.requires.values; ports = c.outputs-outputs.ensures.value; literals = c.outputs-literals.ensures.literals }) c.unlike_lanes-lanes.ensures

pub returns-in_err-output : goal.returns-in_err-output
returns-in_err-output c =
    absurd
    (never_none c.args.program.now c.args.aig.now c.args.bank.now c.args.values.now c.args.place c.args.word c.outputs-outputs.result.now c.outputs-literals.result.now c.unlike_lanes-lanes.result (omega arith) c.unlike_lanes-lanes.type_inv
    (record { rows = c.requires.rows; values = c.requires.values; ports = c.outputs-outputs.ensures.value; literals = c.outputs-literals.ensures.literals }) c.unlike_lanes-lanes.ensures
    (sym c.unlike_output.ensures ∙ c.in_err-output.was))

pub returns : goal.returns
returns c =
    word_found c.args.program.now c.args.aig.now c.args.bank.now c.args.values.now c.args.place c.args.word c.outputs-outputs.result.now c.outputs-literals.result.now c.unlike_lanes-lanes.result c.in_ok-output.output (omega arith) c.unlike_lanes-lanes.type_inv
    (record { rows = c.requires.rows; values = c.requires.values; ports = c.outputs-outputs.ensures.value; literals = c.outputs-literals.ensures.literals }) c.unlike_lanes-lanes.ensures
    (sym c.unlike_output.ensures ∙ c.in_ok-output.was)
