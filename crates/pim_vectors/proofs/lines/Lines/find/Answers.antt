use Rattle.std.proofs.Common.{◌≡◌, ◌-◌, ◌≤◌, inr, length, take, ◌∙◌, arith}
use Rattle.std.proofs.lemmas.List.{length-take}
use Rattle.pim_io.specs.declared.limits.TheConstants.{MAX_INPUT}
use Rattle.pim_vectors.specs.Lines.{line_len}
use Rattle.pim_vectors.proofs.Taking.{no_line, none_kept, took_then, kept_then, not_over, seen_more}
use Rattle.pim_vectors.proofs.lines.Lines.find.Goals as goal

pub returns-in_err-read_on-clause-unread : goal.returns-in_err-read_on-clause-unread
returns-in_err-read_on-clause-unread g c = λ small.
    let mid = c.reading.self in
    let room = MAX_INPUT - mid.place in
    let same : line_len c.args.self.now.held ≡ length c.args.self.now.held =
    no_line c.args.self.now.held mid.held c.newline-seen.result room c.reading.invariant.4 c.reading.invariant.5
    c.newline-seen.ensures.before (omega arith) c.newline-seen.ensures.within (not_over room (length mid.held) c.if-is_over.ensures.over.1) in
    absurd (omega arith)

pub returns-then-branch-eq0-clause-unread : goal.returns-then-branch-eq0-clause-unread
returns-then-branch-eq0-clause-unread g c = λ small.
    let mid = c.reading.self in
    let room = MAX_INPUT - mid.place in
    let same : line_len c.args.self.now.held ≡ length c.args.self.now.held =
    no_line c.args.self.now.held mid.held c.newline-seen.result room c.reading.invariant.4 c.reading.invariant.5
    c.newline-seen.ensures.before (omega arith) c.newline-seen.ensures.within (not_over room (length mid.held) c.if-is_over.ensures.over.1) in
    absurd (omega arith)

pub reading-preserved : goal.reading-preserved
reading-preserved g c =
    let mid = c.reading.self in
    let new = c.read_on.new.self in
    let room = MAX_INPUT - mid.place in
    let kept = c.reading.invariant in
    let read = c.in_ok-read_on.ensures in
    let more : length mid.held ≤ length new.held = omega (arith, read.len) in
    let seen : c.newline-seen.result ≤ length (take room new.held) = seen_more mid.held new.held c.newline-seen.result room more c.newline-seen.ensures.within in (
      took_then c.args.self.now mid new _ _ _ kept.0 read.took,
      rw read.took.place seen,
      none_kept mid.held new.held c.newline-seen.result read.kept (omega (arith, length-take room mid.held)) c.newline-seen.ensures.before,
      read.steady ∙ kept.3,
      kept_then c.args.self.now.held mid.held new.held kept.4 kept.5 read.kept,
      omega arith,
      inr (no_line c.args.self.now.held mid.held c.newline-seen.result room kept.4 kept.5
          c.newline-seen.ensures.before (omega arith) c.newline-seen.ensures.within (not_over room (length mid.held) c.if-is_over.ensures.over.1)),
    )
