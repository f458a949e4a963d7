use Rattle.std.proofs.Common.{◌∙◌, arith}
use Rattle.std.proofs.lemmas.Bool.{eq-eqb, ne_eqb}
use Rattle.pim_file.proofs.CodeLemmas.{shortest_code}
use Rattle.pim_file.proofs.binary.items.is_shortest.Goals as goal

pub returns-then-next-eq1 : goal.returns-then-next-eq1
returns-then-next-eq1 c = λ value e.
    let one = eq-eqb c.args.next 1 c.if-next-eq1.true in
    one ∙ (rw one at (shortest_code c.args.bytes.now value c.args.next (λ j. let fits = c.type_inv.bytes j in omega (arith, fits)) e))

pub returns-else-next-eq1 : goal.returns-else-next-eq1
returns-else-next-eq1 c = λ value e.
    let more = ne_eqb c.args.next 1 c.if-next-eq1.false in
    rw more at (shortest_code c.args.bytes.now value c.args.next (λ j. let fits = c.type_inv.bytes j in omega (arith, fits)) e)
