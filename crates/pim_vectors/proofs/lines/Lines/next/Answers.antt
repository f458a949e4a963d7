use Rattle.std.proofs.Common.{◌≡◌, ℕ, ◌+◌, ◌-◌, ◌≤◌, List, take, drop, Err, refl, ap, ◌∙◌, arith}
use Rattle.std.proofs.lemmas.Result.{err_from_is_err_and}
use Rattle.pim_vectors.specs.Next.{LinesView}
use Rattle.pim_vectors.proofs.AfterLemmas.{answer_before, answer_at_end, answer_of_line, whole_within, after_refused, after_end, after_line, held_cut, text_cut}
use Rattle.pim_vectors.proofs.lines.Lines.next.Goals as goal

pub returns-in_err-sizes : goal.returns-in_err-sizes
returns-in_err-sizes g c =
    let p = err_from_is_err_and c.from_residual.result c.from_residual.ensures.1 in
    let sizes = c.in_err-sizes.ensures in
    rw (p.1, p.2) (
      (refl, λ _. tt, after_refused c.args.self.now _ _ _ _ sizes.took (λ e. sizes.waits (ap Err e)) (λ e. sizes.short (ap Err e)) (λ e. sizes.limit (ap Err e))),
      record {
        line = tt;
        refused = λ other. answer_before _ _ _ _ _ sizes.took (sizes.refused other);
        steady = tt;
        spared = λ other. sizes.steady (λ e. other (cc));
        fault = λ e. sizes.counted (ap Err e);
        never_falls = sizes.never_falls;
        unread = sizes.unread;
        after = tt;
      },
    )

pub returns-in_default : goal.returns-in_default
returns-in_default g c =
    let sizes = c.in_ok-sizes.ensures in
    let end = rw c.in_default.is at sizes.next in (
      (refl, λ _. tt, after_end c.args.self.now _ _ _ sizes.took end),
      record {
        line = answer_before _ _ _ _ _ sizes.took (answer_at_end _ _ _ end);
        refused = tt;
        steady = sizes.steady (λ e. cc);
        spared = tt;
        fault = tt;
        never_falls = sizes.never_falls;
        unread = sizes.unread;
        after = tt;
      },
    )

pub returns : goal.returns
returns g c =
    let sizes = c.in_ok-sizes.ensures in
    let inside = c.self.inside in
    let s = c.in-Some.sizes in
    let next = rw c.in-Some.is at sizes.next in
    let v : LinesView = c.next_sizes.new.self in
    let is = c.self.view_is in
    let items : List ℕ = inside.buffer.items in
    let held : take (inside.end - inside.start) (drop inside.start items) ≡ v.held = ap (λ (u : LinesView). u.held) is in
    let within : inside.start + s.whole ≤ inside.end = whole_within v _ _ s items inside.start inside.end next held c.self.invariant.ordered in
    let text : take (inside.start + s.text - inside.start) (drop inside.start c.deref.result.now) ≡ take s.text v.held =
    text_cut items c.deref.result.now inside.start inside.end s.text c.deref.ensures.value (omega (arith, next.short)) ∙ ap (take s.text) held in (
      (
        refl,
        λ _. tt,
        after_line c.args.self.now v _ _ _ _ s sizes.took next
            (ap (λ (u : LinesView). u.longest) is) (ap (λ (u : LinesView). u.given + 1) is) (ap (λ (u : LinesView). u.place + s.whole) is)
            (held_cut items inside.start inside.end s.whole within ∙ ap (drop s.whole) held) text,
      ),
      record {
        line = answer_before _ _ _ _ _ sizes.took (answer_of_line v _ _ s _ next text);
        refused = tt;
        steady = sizes.steady (λ e. cc);
        spared = tt;
        fault = tt;
        never_falls = sizes.never_falls;
        unread = sizes.unread;
        after = tt;
      },
    )
