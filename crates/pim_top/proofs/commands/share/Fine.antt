-- Programs and turns that `share` takes are merged.
use Rattle.std.proofs.Common.{◌≡◌, ℕ, List, Result, Ok, Err, None, ap, ◌∙◌, sym}
use Rattle.pim_io.specs.Readings.{◌>>=◌}
use Rattle.pim_isa.specs.Programs.{ProgramView}
use Rattle.pim_share.specs.Merged.{merge_of, merged, ok_unless, share_fault}
use Rattle.pim_share.specs.declared.fault.ShareFault.{ShareFault}
use Rattle.pim_words.specs.declared.command.Command.TheVariants as commands
use Rattle.pim_top.specs.Programs.{judged_as}
use Rattle.pim_top.specs.commands.Share.{IsUnshared, SharesFine, share_of}
use Rattle.pim_top.specs.declared.judgement.Judgement.{Judgement}
use Rattle.pim_top.specs.declared.judgement.Judgement.TheVariants as judgement
use Rattle.pim_top.specs.inner.Faultless.{IsFaultless}

merges : (parts : List ProgramView) (turns : List ℕ) (budget : ℕ) → share_fault parts turns budget ≡ None → merge_of parts turns budget ≡ Ok (merged parts turns)
unfolding merge_of
merges parts turns budget e = ap (ok_unless (merged parts turns)) e

-- the program of the parts by these turns, with its fault as a judgement
abbrev by_turns : ℕ → List ProgramView → List ℕ → Result ProgramView Judgement
by_turns budget parts turns = judged_as (λ fault. judgement.Share fault) (merge_of parts turns budget)

shares : (budget : ℕ) (file input : List ℕ) → (fine : SharesFine budget file input) → share_of budget fine.parts input ≡ Ok (merged fine.parts fine.turns)
shares budget file input fine =
    ap (λ (r : Result (List ℕ) Judgement). r >>= by_turns budget fine.parts) fine.are_turns
    ∙ ap (λ (r : Result ProgramView ShareFault). judged_as (λ fault. judgement.Share fault) r) (merges fine.parts fine.turns budget fine.merges)

refused : (budget : ℕ) (file input : List ℕ) (j : Judgement) → SharesFine budget file input → IsUnshared budget file input j → ⊥
refused budget file input j fine h =
    let same : h.parts ≡ fine.parts = (let a = h.are_parts in let b = fine.are_parts in cc) in
    let made = shares budget file input fine in
    let no : share_of budget fine.parts input ≡ Err j = ap (λ (parts : List ProgramView). share_of budget parts input) (sym same) ∙ h.refused in
    cc

pub share-fine : (budget : ℕ) (file input : List ℕ) → SharesFine budget file input → IsFaultless (commands.Share budget) file input
share-fine budget file input fine = record {
  file_fits = fine.file_fits;
  input_fits = fine.fits;
  file_passes = λ j h. absurd (let a = fine.are_parts in let z : ⊥ = cc in z);
  input_passes = λ j h. absurd (refused budget file input j fine h);
}
