use Rattle.std.proofs.Common.{Err, sym, ap, ◌∙◌, arith}
use Rattle.std.proofs.lemmas.Result.{err_from_is_err_and}
use Rattle.pim_vectors.proofs.NextLemmas.{found_next, found_end, found_refused, found_within, text_len, too_long}
use Rattle.pim_vectors.proofs.lines.Lines.next_sizes.Goals as goal

pub returns-in_err-found-clause-refused : goal.returns-in_err-found-clause-refused
returns-in_err-found-clause-refused g c =
    let p = err_from_is_err_and c.from_residual.result c.from_residual.ensures.1 in
    let found = c.in_err-found.ensures in
    rw (p.1, p.2) (λ other. too_long _ _ _ _ _ found.took.bytes other found.faults (λ e. found.over (ap Err e)))

pub returns-then-sizes-eq0-clause-next : goal.returns-then-sizes-eq0-clause-next
returns-then-sizes-eq0-clause-next g c = found_end _ _ _ c.in_ok-found.found c.in_ok-found.ensures.found (sym c.sizes-sizes.ensures.whole ∙ c.if-sizes-eq0.true)

pub returns-in_err-judge-clause-refused : goal.returns-in_err-judge-clause-refused
returns-in_err-judge-clause-refused g c =
    let p = err_from_is_err_and c.from_residual-in_err-judge.result c.from_residual-in_err-judge.ensures.1 in
    let found = c.in_ok-found.ensures in
    let sizes = c.sizes-sizes in
    rw (p.1, p.2) (λ other.
    found_refused _ _ _ _ c.in_ok-found.found sizes.result _ found.took.bytes found.found (omega (arith, sizes.ensures.whole)) sizes.ensures.text
    (c.in_err-judge.ensures.refused _ (text_len c.find.new.self sizes.result _ sizes.ensures.short sizes.ensures.whole (found_within c.find.new.self _ _ c.in_ok-found.found found.found))))

pub returns-clause-next : goal.returns-clause-next
returns-clause-next g c =
    let found = c.in_ok-found.ensures in
    let sizes = c.sizes-sizes in
    let judged = c.in_ok-judge.ensures in
    found_next _ _ _ _ c.in_ok-found.found sizes.result found.took.bytes found.found (omega arith) sizes.ensures.whole sizes.ensures.short sizes.ensures.text
    judged.more judged.fits (judged.ok _ (text_len c.find.new.self sizes.result _ sizes.ensures.short sizes.ensures.whole (found_within c.find.new.self _ _ c.in_ok-found.found found.found)))
