use Rattle.std.proofs.Common.{ap, ◌∙◌, ℕ, List}
use Rattle.pim_asm.specs.Names.{cell_named}
use Rattle.pim_asm.proofs.NameLemmas.{cell_found}
use Rattle.pim_asm.proofs.names.Names.cell.Goals as goal

pub returns : goal.returns
returns c =
    c.copied.ensures ∙ c.get.ensures.value ∙ cell_found c.self.inside.cells.entries c.args.name.now
    ∙ ap (λ (names : List (List ℕ × ℕ)). cell_named names c.args.name.now) c.self.view_is
