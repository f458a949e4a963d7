use Rattle.pim_tidy.proofs.Pairs.{entered, keys_found, key_tests}
use Rattle.pim_tidy.proofs.tidying.enter.Goals as goal

pub returns-clause-place : goal.returns-clause-place
returns-clause-place c =
    entered _ c.args.pairs.now.keys c.args.ands.now (record { x = c.args.x; y = c.args.y }) c.in_ok-place.place
    (key_tests c.pair_of.result (record { x = c.args.x; y = c.args.y }) c.pair_of.ensures) c.requires.keys c.in_ok-place.ensures.index

pub returns-clause-found : goal.returns-clause-found
returns-clause-found c = λ h.
    keys_found _ c.args.pairs.now.keys c.insert_full.new.self.keys c.args.ands.now c.pair_of.result c.in_ok-place.place c.requires.keys c.in_ok-place.ensures.index c.in_ok-place.ensures.keys h
