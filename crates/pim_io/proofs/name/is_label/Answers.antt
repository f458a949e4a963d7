use Rattle.std.proofs.Common.{◌<◌, length, sym, ◌∙◌, arith}
use Rattle.std.proofs.lemmas.Bool.Decides.{nat_tests}
use Rattle.pim_io.proofs.Labels.{IsLabel-shown, shown_all}
use Rattle.pim_io.proofs.name.is_label.Goals as goal

pub returns-then-bytes-le-MAX_NAME-clause-label : goal.returns-then-bytes-le-MAX_NAME-clause-label
returns-then-bytes-le-MAX_NAME-clause-label c =
    let fits = c.if-bytes-le-MAX_NAME.true in
    let some : 0 < length c.args.bytes.now = grind (arith, nat_tests, c.is_empty.ensures, fits.0) in (
      λ shown. IsLabel-shown c.args.bytes.now some fits.1 (sym c.are_shown.ensures ∙ shown),
      λ label. c.are_shown.ensures ∙ shown_all c.args.bytes.now label.shown,
    )
