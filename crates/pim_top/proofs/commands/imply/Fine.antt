-- A netlist that `imply` takes is not refused.
use Rattle.std.proofs.Common.{◌≡◌, ℕ, ◌<◌, ◌≤◌, List, Err, inr, refl, arith}
use Rattle.pim_aig.specs.Flat.{flat}
use Rattle.pim_imply.specs.Costs.{needed_of}
use Rattle.pim_imply.specs.declared.refusal.ImplyRefusal.{ImplyRefusal}
use Rattle.pim_imply.specs.declared.refusal.ImplyRefusal.TheVariants as imply
use Rattle.pim_words.specs.declared.command.Command.TheVariants as commands
use Rattle.pim_top.specs.Statuses.{IsNoMemory, imply_status}
use Rattle.pim_top.specs.commands.Imply.{ImpliesFine, ImplyAnswers, IsUnimplied}
use Rattle.pim_top.specs.declared.judgement.Judgement.{Judgement}
use Rattle.pim_top.specs.declared.judgement.Judgement.TheVariants as judgement
use Rattle.pim_top.specs.declared.status.Status.TheVariants as status
use Rattle.pim_top.specs.inner.Faultless.{IsFaultless}

-- a budget that is enough is not below what is needed
not_scarce : (told needed budget : ℕ) → needed ≤ budget → told ≡ needed → budget < told → ⊥
not_scarce told needed budget room is below = omega arith

refused : (budget : ℕ) (bytes : List ℕ) (r : ImplyRefusal) → ImpliesFine budget bytes → IsUnimplied budget bytes r → imply_status r ≡ status.NoMemory
refused budget bytes (imply.TooFewCells told) fine h =
    let e = fine.enough h.net h.checked (let a = h.is_net in let b = fine.is_net in cc) in
    absurd (not_scarce told (needed_of (flat h.net)) budget e.room h.right.is h.right.below)
refused budget bytes imply.TooLarge fine h =
    let e = fine.enough h.net h.checked (let a = h.is_net in let b = fine.is_net in cc) in
    absurd (let r = h.right in let z : ⊥ = omega (arith, e.few, r) in z)
refused budget bytes imply.NoMemory fine h = refl

judged : (budget : ℕ) (bytes : List ℕ) (j : Judgement) → ImpliesFine budget bytes → ImplyAnswers budget bytes (Err j) → IsNoMemory j
judged budget bytes (judgement.Netlist fault) fine h = absurd (let a = fine.is_net in let z : ⊥ = cc in z)
judged budget bytes (judgement.Imply r) fine h = refused budget bytes r fine h
judged budget bytes j fine h = absurd h

pub imply-fine : (budget : ℕ) (file bytes : List ℕ) → ImpliesFine budget bytes → IsFaultless (commands.Imply budget) file bytes
imply-fine budget file bytes fine = record {
  file_fits = tt;
  input_fits = fine.fits;
  file_passes = λ j h. judged budget bytes j fine (h bytes);
  input_passes = λ j h. inr (judged budget bytes j fine h);
}
