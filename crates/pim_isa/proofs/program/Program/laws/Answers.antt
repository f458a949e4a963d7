use Rattle.pim_isa.proofs.WriteLemmas.{exec_laws, write_laws, Realizes-same}
use Rattle.pim_isa.proofs.program.Program.laws.Goals as goal

pub returns-clause-exec : goal.returns-clause-exec
returns-clause-exec c = exec_laws

pub returns-clause-writes : goal.returns-clause-writes
returns-clause-writes c = write_laws

pub returns-clause-function : goal.returns-clause-function
returns-clause-function c = Realizes-same c.args.self.now
