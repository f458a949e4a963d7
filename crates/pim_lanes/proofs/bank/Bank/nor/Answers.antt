use Rattle.pim_lanes.specs.Banks.{row_of}
use Rattle.pim_lanes.proofs.StepLemmas.{nor_three, nor_four}
use Rattle.pim_lanes.proofs.BankLemmas.{nor_within, row_later}
use Rattle.pim_lanes.proofs.bank.Bank.nor.Goals as goal

pub returns-in-Three-clause-rows : goal.returns-in-Three-clause-rows
returns-in-Three-clause-rows c = λ r row.
    let b = c.args.self.now in
    let between = c.nor2-in-Three.new.self in
    let x = c.in-Three in
    nor_three (row_of b r) (row_of between r) (row_of c.nor1-in-Three.new.self r) c.args.t x.a x.b x.c c.args.ins x.is
    (nor_within b r c.args.t c.args.ins c.requires) c.requires.apart
    (c.nor2-in-Three.ensures.rows r row)
    (c.nor1-in-Three.ensures.rows r (row_later b between r c.nor2-in-Three.ensures.frame row))

pub returns-in-Four-clause-rows : goal.returns-in-Four-clause-rows
returns-in-Four-clause-rows c = λ r row.
    let b = c.args.self.now in
    let between = c.nor2-in-Four.new.self in
    let x = c.in-Four in
    nor_four (row_of b r) (row_of between r) (row_of c.nor2-in-Four-2.new.self r) c.args.t x.a x.b x.c x.d c.args.ins x.is
    (nor_within b r c.args.t c.args.ins c.requires) c.requires.apart
    (c.nor2-in-Four.ensures.rows r row)
    (c.nor2-in-Four-2.ensures.rows r (row_later b between r c.nor2-in-Four.ensures.frame row))
