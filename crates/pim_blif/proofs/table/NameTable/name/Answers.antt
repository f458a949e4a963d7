use Rattle.std.proofs.Common.{ap, ◌∙◌, ℕ, List}
use Rattle.pim_blif.specs.Signals.{name_of}
use Rattle.pim_blif.proofs.Numbers.{named_at, unnamed_at}
use Rattle.pim_blif.proofs.table.NameTable.name.Goals as goal

pub returns-in-Some-clause-bytes : goal.returns-in-Some-clause-bytes
returns-in-Some-clause-bytes c = named_at c.self.inside.names.keys c.args.number c.in-Some.name.now c.in-Some.ensures.key c.self.invariant.0

pub returns-in-None-clause-name : goal.returns-in-None-clause-name
returns-in-None-clause-name c =
    unnamed_at c.self.inside.names.keys c.args.number c.in-None.ensures.key ∙ ap (λ (names : List (List ℕ)). name_of names c.args.number) c.self.view_is
