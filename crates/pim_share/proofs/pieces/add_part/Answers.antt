use Rattle.std.proofs.Common.{◌≡◌, ◌++◌, ◌∷◌, [], rules}
use Rattle.pim_share.proofs.Cuts.{part_long}
use Rattle.pim_share.proofs.pieces.add_part.Goals as goal

pub returns-in_ok-push-in-Ok-clause-long : goal.returns-in_ok-push-in-Ok-clause-long
returns-in_ok-push-in-Ok-clause-long c =
    let is : c.push.new.self.items ≡ c.args.parts.now.items ++ c.in-Ok.program ∷ [] = search rules in
    part_long c.args.parts.now.items c.push.new.self.items c.in-Ok.program c.args.piece.now is c.in-Ok.ensures.spelled
