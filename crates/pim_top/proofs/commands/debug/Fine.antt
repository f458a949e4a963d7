-- A program file and lines that `debug` takes are not refused.
use Rattle.std.proofs.Common.{◌≡◌, ℕ, List, None, Result, Ok, Err, inl, inr, sym, ap, ◌∙◌, subst, arith}
use Rattle.pim_file.specs.declared.fault.FileFault.{FileFault}
use Rattle.pim_isa.specs.Programs.{ProgramView}
use Rattle.pim_words.specs.declared.command.Command.TheVariants as commands
use Rattle.pim_words.specs.declared.command.FillWord.{FillWord}
use Rattle.pim_top.specs.Debugging.{RanAll}
use Rattle.pim_top.specs.Programs.{judged_as, program_of}
use Rattle.pim_top.specs.Statuses.{answer_status}
use Rattle.pim_top.specs.Streams.{Seen}
use Rattle.pim_top.specs.commands.Debug.{DebugDecides, DebugEnds, DebugsFine, ended_as}
use Rattle.pim_top.specs.commands.Run.{fill_of}
use Rattle.pim_top.specs.declared.judgement.Judgement.{Judgement}
use Rattle.pim_top.specs.declared.judgement.Judgement.TheVariants as judgement
use Rattle.pim_top.specs.declared.refusal.Refusal.{Refusal}
use Rattle.pim_top.specs.declared.status.Status.TheVariants as status
use Rattle.pim_top.specs.inner.Faultless.{IsComplete}
use Rattle.pim_top.proofs.commands.debug.Ends.{debug-decided}

abbrev ok_of : ProgramView → Result ProgramView Judgement
ok_of p = Ok p

same-program : (p q : ProgramView) → ok_of p ≡ ok_of q → p ≡ q
same-program p q e = ap (λ (x : Result ProgramView Judgement). by x q) e
  where
    by : Result ProgramView Judgement → ProgramView → ProgramView
    by (Ok r) s = r
    by (Err j) s = s

is-loaded : (fill : FillWord) (file input : List ℕ) (fine : DebugsFine fill file input) → program_of file ≡ Ok fine.program
is-loaded fill file input fine = ap (λ (r : Result ProgramView FileFault). judged_as (λ f. judgement.File f) r) fine.is_program

lines-fine : (fill : FillWord) (file input : List ℕ) (answer : Result (List ℕ) Refusal) → DebugsFine fill file input → DebugDecides fill file input answer → answer_status answer ≡ status.Done
lines-fine fill file input answer fine h =
    let same : h.program ≡ fine.program = same-program h.program fine.program (sym h.loaded ∙ is-loaded fill file input fine) in
    let none : h.ended ≡ None = fine.lines h.text h.ended (subst (λ (p : ProgramView). RanAll p (fill_of fill) input h.text h.ended) same h.ran) in
    ap answer_status (h.is ∙ ap (ended_as h.text) none)

-- what `debug` takes is done, or memory ran out
pub debug-complete : {Y : Type 0} (fill : FillWord) (seen : Seen) (result : Result Y Refusal) → DebugEnds fill seen result → IsComplete (commands.Debug fill) seen result
debug-complete fill seen result h = record {
  ends = λ file input t u calm fine. elim (debug-decided fill seen file input result t u calm h) [
    | inl (inl long) ↦ absurd (let z : ⊥ = omega (arith, fine.file_fits, long.0) in z)
    | inl (inr judged) ↦ absurd (let a : program_of file ≡ Ok fine.program = is-loaded fill file input fine in let b = judged.2 in let z : ⊥ = cc in z)
    | inr (inl late) ↦ inl (late.3 ∙ lines-fine fill file input late.0 fine late.2)
    | inr (inr memory) ↦ inr memory
  ];
}
