-- Program files that a command takes.
use Rattle.std.proofs.Common.{◌≡◌, ℕ, List, Result, Ok, Err, ap}
use Rattle.pim_file.specs.declared.fault.FileFault.{FileFault}
use Rattle.pim_isa.specs.Programs.{ProgramView}
use Rattle.pim_top.specs.Programs.{IsProgramFile, judged_as, program_of, text_by}
use Rattle.pim_top.specs.declared.judgement.Judgement.{Judgement}
use Rattle.pim_top.specs.declared.judgement.Judgement.TheVariants.{File}

-- one that is a program within the limit is not refused
pub program-fine : (print : ProgramView → List ℕ) (bytes : List ℕ) (j : Judgement) → IsProgramFile bytes → Err j ≡ text_by print (program_of bytes) → ⊥
program-fine print bytes j fine h =
    let made : text_by print (program_of bytes) ≡ Ok (print fine.program) = ap (λ (r : Result ProgramView FileFault). text_by print (judged_as (λ f. File f) r)) fine.is_program in
    cc
