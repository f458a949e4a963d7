-- Inner: a statement as it is read.
use Rattle.pim_asm.specs.declared.statement.Statement.{Statement as Read}
use Rattle.pim_asm.specs.declared.statement.Statement.TheVariants as read
use Rattle.pim_asm.specs.Statements.{Statement, Let, Input, Output, Does}

-- a statement, without where its name lies in memory
abbrev pub statement_view : Read → Statement
statement_view (read.Let name cell) = Let name.now cell
statement_view (read.Input port) = Input port
statement_view (read.Output port) = Output port
statement_view (read.Does instr) = Does instr
