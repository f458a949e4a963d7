-- A program file that `explain` takes is not refused.
use Rattle.std.proofs.Common.{◌≡◌, ◌∙◌, ℕ, Bool, true, false, List, Result, Err, ap, refl, subst}
use Rattle.pim_file.specs.declared.fault.FileFault.{FileFault}
use Rattle.pim_isa.specs.Programs.{ProgramView}
use Rattle.pim_isa.specs.declared.target.Target.{Target}
use Rattle.pim_isa.specs.declared.target.Target.TheVariants.{Magic}
use Rattle.pim_top.specs.Programs.{judged_as}
use Rattle.pim_top.specs.commands.Explain.{ExplainsFine, explain_of, explained, explained_by, tree_of}
use Rattle.pim_top.specs.declared.judgement.Judgement.{Judgement}
use Rattle.pim_top.specs.declared.judgement.Judgement.TheVariants.{File}

-- a program is explained, and with the tree too where it is for MAGIC
is_explained : (tree : Bool) (p : ProgramView) (j : Judgement) → (tree ≡ true → p.target ≡ Magic) → Err j ≡ explained tree p → ⊥
is_explained true p j magic h = let made : Err j ≡ tree_of Magic p = subst (λ (t : Target). Err j ≡ tree_of t p) (magic refl) h in cc
is_explained false p j magic h = cc

pub explain-fine : (tree : Bool) (file : List ℕ) (j : Judgement) → ExplainsFine tree file → Err j ≡ explain_of tree file → ⊥
explain-fine tree file j fine h =
    let made : explain_of tree file ≡ explained tree fine.program = ap (λ (r : Result ProgramView FileFault). explained_by tree (judged_as (λ f. File f) r)) fine.is_program in
    is_explained tree fine.program j fine.magic (h ∙ made)
