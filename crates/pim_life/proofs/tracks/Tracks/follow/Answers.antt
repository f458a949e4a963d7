use Rattle.std.proofs.Common.{◌≡◌, length, map, arith, ap, ◌∙◌, rules}
use Rattle.pim_life.specs.inner.Tracks.{track_lives, tracks_of}
use Rattle.pim_life.proofs.Followed.{length-tracks_of, lives_of_tracks}
use Rattle.pim_life.proofs.tracks.Tracks.follow.Goals as goal

pub returns-clause-tracks : goal.returns-clause-tracks
returns-clause-tracks c = search rules

pub returns-clause-few : goal.returns-clause-few
returns-clause-few c =
    let whole : c.put_out.new.self ≡ tracks_of c.args.program.now = search rules in
    let len = ap length whole ∙ length-tracks_of c.args.program.now in
    let small = c.cells.ensures.valid.small in
    omega (arith, len, small)

pub returns-clause-lives : goal.returns-clause-lives
returns-clause-lives c =
    let whole : c.put_out.new.self ≡ tracks_of c.args.program.now = search rules in
    ap (map track_lives) whole ∙ lives_of_tracks c.args.program.now c.cells.ensures.valid
