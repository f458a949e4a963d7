use Rattle.std.proofs.Common.{◌≡◌, ◌∷◌, rules, arith}
use Rattle.std.specs.Fmt.{decimal}
use Rattle.std.proofs.lemmas.Fmt.{length-decimal-le}
use Rattle.pim_net.proofs.names.numbered.Goals as goal

pub returns-clause-short : goal.returns-clause-short
returns-clause-short c =
    let e : c.extend_from_slice.new.self.items ≡ c.args.letter ∷ decimal c.args.k = search rules in
    rw e (omega (arith, length-decimal-le 10 c.args.k (omega arith) (omega arith) (omega arith)))
