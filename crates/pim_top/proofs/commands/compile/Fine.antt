-- A netlist that `compile` takes is not refused.
use Rattle.std.proofs.Common.{◌≡◌, ◌⊎◌, ℕ, ◌<◌, ◌≤◌, List, Err, inl, inr, refl, arith}
use Rattle.pim_compile.specs.Networks.{coarse_need, need}
use Rattle.pim_compile.specs.declared.refusal.Refusal.{Refusal as Compiler}
use Rattle.pim_compile.specs.declared.refusal.Refusal.TheVariants as compiler
use Rattle.pim_words.specs.declared.command.Command.TheVariants as commands
use Rattle.pim_words.specs.declared.command.LevelWord.{LevelWord}
use Rattle.pim_words.specs.declared.command.TargetWord.{TargetWord}
use Rattle.pim_top.specs.Statuses.{compiler_status, judgement_status}
use Rattle.pim_top.specs.commands.Compile.{CompileAnswers, CompilesFine, IsUncompiled, machine_of}
use Rattle.pim_top.specs.declared.judgement.Judgement.{Judgement}
use Rattle.pim_top.specs.declared.judgement.Judgement.TheVariants as judgement
use Rattle.pim_top.specs.declared.status.Status.{Status}
use Rattle.pim_top.specs.declared.status.Status.TheVariants as status
use Rattle.pim_top.specs.inner.Faultless.{IsFaultless}

-- out of memory is the one status left
abbrev IsFineStatus : Status → Type 0
IsFineStatus s = s ≡ status.NoMemory

-- a budget that is enough is not below the need, or not below the bound of it
not_scarce : (told need coarse budget : ℕ) → (need ≤ budget) ⊎ (coarse ≤ budget) → told ≡ need → budget < told → budget < coarse → ⊥
not_scarce told need coarse budget (inl room) is below bound = omega arith
not_scarce told need coarse budget (inr room) is below bound = omega arith

uncompiled : (target : TargetWord) (budget : ℕ) (bytes : List ℕ) (r : Compiler) → CompilesFine target budget bytes → IsUncompiled target budget bytes r → IsFineStatus (compiler_status r)
uncompiled target budget bytes (compiler.TooFewCells needed) fine h =
    let e = fine.enough h.net h.checked (let a = h.is_net in let b = fine.is_net in cc) in
    absurd (not_scarce needed (need h.net (machine_of target)) (coarse_need h.net (machine_of target)) budget e.room h.right.0.is h.right.0.below h.right.1)
uncompiled target budget bytes compiler.TooLarge fine h =
    let e = fine.enough h.net h.checked (let a = h.is_net in let b = fine.is_net in cc) in
    absurd (let r = h.right.0 in let z : ⊥ = omega (arith, e.few, r) in z)
uncompiled target budget bytes compiler.NoMemory fine h = refl

judged : (target : TargetWord) (level : LevelWord) (budget : ℕ) (bytes : List ℕ) (j : Judgement) → CompilesFine target budget bytes → CompileAnswers target level budget bytes (Err j) → IsFineStatus (judgement_status j)
judged target level budget bytes (judgement.Netlist fault) fine h = absurd (let a = fine.is_net in let z : ⊥ = cc in z)
judged target level budget bytes (judgement.Compile r) fine h = uncompiled target budget bytes r fine h
judged target level budget bytes j fine h = absurd h

pub compile-fine : (target : TargetWord) (level : LevelWord) (budget : ℕ) (file bytes : List ℕ) → CompilesFine target budget bytes → IsFaultless (commands.Compile target level budget) file bytes
compile-fine target level budget file bytes fine = record {
  file_fits = tt;
  input_fits = fine.fits;
  file_passes = λ j h. judged target level budget bytes j fine (h bytes);
  input_passes = λ j h. inr (judged target level budget bytes j fine h);
}
