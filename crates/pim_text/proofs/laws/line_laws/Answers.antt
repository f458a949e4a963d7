use Rattle.std.proofs.Common.{sym, arith}
use Rattle.std.specs.Fmt.{decimal}
use Rattle.pim_text.proofs.FieldLemmas.{lacks-append, lacks-decimal}
use Rattle.pim_text.proofs.InstrLemmas.{instr_of-text, instr_is, instr_is_read, join-instr}
use Rattle.pim_text.proofs.LabelLemmas.{is_label-from_IsLabel}
use Rattle.pim_text.proofs.LackLemmas.{lacks-target, lacks-port, lacks-instr, lines-line}
use Rattle.pim_text.proofs.LineLemmas.{target_of-text, target_is, counted_of-text, counted_is, port_of-text, port_is}
use Rattle.pim_text.proofs.ProgramLemmas.{program_lines}
use Rattle.pim_text.proofs.WordLemmas.{plain_decimal, plain_instr, number_of-decimal}
use Rattle.pim_text.proofs.laws.line_laws.Goals as goal

pub returns-clause-read : goal.returns-clause-read
returns-clause-read c = record { target = target_of-text; counted = counted_of-text; port = port_of-text; instr = instr_of-text; label = is_label-from_IsLabel }

pub returns-clause-one : goal.returns-clause-one
returns-clause-one c = record { target = target_is; counted = counted_is; port = port_is; instr = instr_is }

pub returns-clause-lack : goal.returns-clause-lack
returns-clause-lack c = record { target = lacks-target; counted = λ word n h small. lacks-append 10 word (decimal n) h (lacks-decimal 10 n (omega arith) small); port = lacks-port; instr = lacks-instr; cut = lines-line }

pub returns-clause-program : goal.returns-clause-program
returns-clause-program c = record { has = program_lines }

pub returns-clause-words : goal.returns-clause-words
returns-clause-words c = record { joined = λ i. sym (join-instr i); plain = plain_instr; read = λ cell i reads h. instr_is_read cell reads i h; plain_number = plain_decimal; number = number_of-decimal }
