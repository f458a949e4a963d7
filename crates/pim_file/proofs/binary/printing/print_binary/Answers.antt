use Rattle.std.proofs.Common.{◌≡◌, ◌<◌, List, ℕ, Ok, Err, sym, subst, length, take}
use Rattle.pim_file.specs.declared.fault.FileFault.TheVariants as faults
use Rattle.pim_file.specs.BinaryReading.{parse_of}
use Rattle.pim_file.proofs.CutLemmas.{parse_of-cut}
use Rattle.pim_file.proofs.FormLaws.{parse_of-bin}
use Rattle.pim_file.proofs.binary.printing.print_binary.Goals as goal

pub returns-clause-again : goal.returns-clause-again
returns-clause-again c =
    let p = c.args.program.now in
    subst (λ (t : List ℕ). parse_of t ≡ Ok p) (sym c.in_ok-bytes.ensures.binary) (parse_of-bin p c.in_ok-bytes.ensures.valid)

pub returns-clause-cut : goal.returns-clause-cut
returns-clause-cut c =
    let p = c.args.program.now in
    subst (λ (t : List ℕ). (k : ℕ) → k < length t → parse_of (take k t) ≡ Err faults.Truncated) (sym c.in_ok-bytes.ensures.binary) (λ k lt. parse_of-cut p k c.in_ok-bytes.ensures.valid lt)
