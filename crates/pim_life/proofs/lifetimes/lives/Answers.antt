use Rattle.pim_life.proofs.Joined.{lives_finished}
use Rattle.pim_life.proofs.lifetimes.lives.Goals as goal

pub returns : goal.returns
returns c =
    lives_finished c.args.program.now _ _ _ _ c.new-lives.ensures.items c.list.ensures c.in_ok-tracks.ensures.lives c.in_ok-push_all.ensures
