use Rattle.std.proofs.Common.{◌≡◌, sym, ◌∙◌, subst, List, ℕ}
use Rattle.pim_io.specs.Names.{label, IsLabel}
use Rattle.pim_io.proofs.Labels.{IsLabel-label, label_same}
use Rattle.pim_io.proofs.name.Name.label.Goals as goal

pub invariant_of-result : goal.invariant_of-result
invariant_of-result c =
    let made : c.in_ok-bytes.bytes.items ≡ label c.args.bytes.now = c.in_ok-bytes.ensures in
    let P : List ℕ → Type 0 = λ bytes. IsLabel bytes in
    subst P (sym made) (IsLabel-label c.args.bytes.now c.requires.some c.requires.short)

pub returns-clause-labels : goal.returns-clause-labels
returns-clause-labels c =
    let made : c.in_ok-bytes.bytes.items ≡ label c.args.bytes.now = c.in_ok-bytes.ensures in
    let P : List ℕ → Type 0 = λ bytes. IsLabel bytes in
    subst P (sym made) (IsLabel-label c.args.bytes.now c.requires.some c.requires.short)

pub returns-clause-kept : goal.returns-clause-kept
returns-clause-kept c = λ h.
    let made : c.in_ok-bytes.bytes.items ≡ label c.args.bytes.now = c.in_ok-bytes.ensures in
    made ∙ label_same c.args.bytes.now h.shown
