use Rattle.std.proofs.Common.{◌≡◌, [], ◌∙◌, rules}
use Rattle.pim_isa.specs.Sound.{cells_of}
use Rattle.pim_life.specs.inner.Drawing.{drawn, gates_held}
use Rattle.pim_life.proofs.LastGates.{drawn_graph}
use Rattle.pim_life.proofs.drawing.draw.Goals as goal

pub returns : goal.returns
returns c =
    let p = c.args.program.now in
    let whole : c.add_roots.new.graph ≡ record { kids = (drawn p).kids; roots = gates_held (drawn p).held [] (cells_of p.outputs) } = search rules in
    whole ∙ drawn_graph p c.laws.ensures.writes c.cells.ensures.valid
