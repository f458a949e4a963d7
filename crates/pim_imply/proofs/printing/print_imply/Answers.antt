use Rattle.std.proofs.Common.{rules, ◌≡◌, ℕ, ◌<◌, take, Err, List, sym, subst, Ok, length}
use Rattle.pim_imply.specs.declared.fault.ImplyFault.TheVariants as faults
use Rattle.pim_imply.specs.Reading.{imply_of}
use Rattle.pim_imply.specs.Text.{text as text_of}
use Rattle.pim_imply.proofs.TextLaws.{imply_of-text, imply_of-cut}
use Rattle.pim_imply.proofs.printing.print_imply.Goals as goal

pub returns-clause-again : goal.returns-clause-again
returns-clause-again c =
    let p = c.args.program.now in
    let whole : c.into_bytes.result.items ≡ text_of p = search rules in
    subst (λ (t : List ℕ). imply_of t ≡ Ok p) (sym whole)
    (imply_of-text c.line_laws.ensures.read c.line_laws.ensures.program c.text_laws.ensures p c.instrs-instrs.ensures.body c.instrs-instrs.ensures.few c.instrs-instrs.ensures.faultless)

pub returns-clause-cut : goal.returns-clause-cut
returns-clause-cut c =
    let p = c.args.program.now in
    let whole : c.into_bytes.result.items ≡ text_of p = search rules in
    subst (λ (t : List ℕ). (k : ℕ) → k < length t → imply_of (take k t) ≡ Err faults.Truncated) (sym whole)
    (λ k lt. imply_of-cut c.line_laws.ensures.read c.line_laws.ensures.program c.text_laws.ensures p k c.instrs-instrs.ensures.body c.instrs-instrs.ensures.few c.instrs-instrs.ensures.faultless lt)
