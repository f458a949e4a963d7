-- A program and a netlist that `prove` takes are compared.
use Rattle.std.proofs.Common.{◌≡◌, ◌⊎◌, ℕ, List, Err, inl, inr, refl}
use Rattle.pim_net.specs.Netlist.{draft_of}
use Rattle.pim_words.specs.declared.command.Command.TheVariants as commands
use Rattle.pim_top.specs.Answers.{EndsFine}
use Rattle.pim_top.specs.Statuses.{IsNoMemory, judgement_status}
use Rattle.pim_top.specs.commands.Prove.{ProveAnswers, ProvesFine}
use Rattle.pim_top.specs.declared.judgement.Judgement.{Judgement}
use Rattle.pim_top.specs.declared.judgement.Judgement.TheVariants as judgement
use Rattle.pim_top.specs.inner.Faultless.{IsFaultless}

judged : (file input : List ℕ) (j : Judgement) → ProvesFine file input → ProveAnswers file input (Err j) → EndsFine commands.Prove (judgement_status j) ⊎ IsNoMemory j
judged file input (judgement.Netlist fault) fine h = absurd (let a = fine.is_net in let z : ⊥ = cc in z)
judged file input (judgement.Prove fault) fine h = absurd (
    let same_net : draft_of h.net ≡ fine.draft = (let a = h.is_net in let b = fine.is_net in cc) in
    let compared = fine.compared h.net h.checked same_net in
    let a = fine.is_program in
    let b = h.is_program in
    let c = h.holds in
    let z : ⊥ = cc in z)
judged file input (judgement.Unequal vector output) fine h = inl (inr refl)
judged file input j fine h = absurd h

pub prove-fine : (file input : List ℕ) → ProvesFine file input → IsFaultless commands.Prove file input
prove-fine file input fine = record {
  file_fits = fine.file_fits;
  input_fits = fine.fits;
  file_passes = λ j h. absurd (let a = fine.is_program in let z : ⊥ = cc in z);
  input_passes = λ j h. judged file input j fine h;
}
