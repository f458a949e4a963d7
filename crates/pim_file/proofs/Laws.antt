-- The laws of reading and printing: a program's text is read as it, and nothing else is.
use Rattle.std.proofs.Common.{◌≡◌, ℕ, ◌<◌, Bool, true, false, cond, ltb, List, [], ◌∷◌, ◌++◌, length, Option, Some, None, Result, Ok, Err, codes, refl, take, ap, sym, ◌∙◌, subst, append_assoc, ◌⊎◌, inl, inr, arith}
use Rattle.std.specs.Prelude.{◌↔◌, IfOk}
use Rattle.std.specs.Fmt.{decimal}
use Rattle.std.specs.List.{AllByRecursion}
use Rattle.std.proofs.lemmas.Bool.{le-ltb}
use Rattle.pim_io.specs.Readings.{◌>>=◌, Gives}
use Rattle.pim_isa.specs.declared.draft.TheConstants.{MAX_CELLS}
use Rattle.pim_isa.specs.declared.instr.Instr.{Instr}
use Rattle.pim_isa.specs.declared.invalid.Invalid.{Invalid}
use Rattle.pim_isa.specs.declared.target.Target.{Target}
use Rattle.pim_isa.specs.Programs.{ProgramView}
use Rattle.pim_isa.specs.Sound.{IsProgram}
use Rattle.pim_isa.specs.Validity.{fault_of}
use Rattle.pim_text.specs.InstrForms.{instr_of}
use Rattle.pim_text.specs.LineLaws.{ReadLines, OneLine, ProgramLines}
use Rattle.pim_text.specs.Parts as parts
use Rattle.pim_text.specs.Parts.{Parts}
use Rattle.pim_text.specs.ProgramTexts.{program_kind, program_parts, parts_program}
use Rattle.pim_text.specs.Reading as reading
use Rattle.pim_text.specs.Reading.{TextLaws, parts_of, sized_parts_of}
use Rattle.pim_text.specs.Spelled.{HasLine}
use Rattle.pim_text.specs.Text.{instr_text, target_word, counted_text, ports_text}
use Rattle.pim_text.specs.declared.fault.TextFault.{TextFault}
use Rattle.pim_text.specs.declared.fault.TextFault.TheVariants as texts
use Rattle.pim_file.specs.declared.fault.FileFault.{FileFault}
use Rattle.pim_file.specs.declared.fault.FileFault.TheVariants as faults
use Rattle.pim_file.specs.ProgramFile.{file_fault, file_draft, draft_of, with_fault, validated, sized, sized_draft_of, parse1_of}
use Rattle.pim_file.specs.Spelled.{HasText}
use Rattle.pim_file.specs.Text.{head_text, instrs_text, text as text_of}
use Rattle.pim_file.proofs.ItemLemmas.{bind_ok, ok_is}

-- the text of a draft is that of its parts

head_is : (target : Target) (cells : ℕ) → head_text target cells ≡ parts.head_text program_kind target cells
head_is target cells = regrouped (target_word target) (decimal cells)
  where
    regrouped : (word number : List ℕ) → codes "pim 1\ntarget " ++ word ++ ((codes "\ncells " ++ number) ++ codes "\n") ≡ codes "pim 1\n" ++ ((codes "target " ++ word) ++ codes "\n") ++ ((codes "cells " ++ number) ++ codes "\n")
    regrouped word number = ap (λ (t : List ℕ). codes "pim 1\ntarget " ++ t) (sym (append_assoc word (codes "\n") ((codes "cells " ++ number) ++ codes "\n")))

text_is : (d : ProgramView) → text_of d ≡ parts.text program_kind (program_parts d)
text_is d = ap (λ (head : List ℕ). head ++ ports_text (codes "input ") d.inputs ++ ports_text (codes "output ") d.outputs ++ counted_text (codes "cycles ") (length d.instrs) ++ instrs_text d.instrs ++ codes "end\n") (head_is d.target d.cells)

-- what holds of each element
pub all_weaker : {X : Type 0} (P Q : X → Type 0) (xs : List X) → ((x : X) → P x → Q x) → AllByRecursion P xs → AllByRecursion Q xs
all_weaker P Q [] f h = tt
all_weaker P Q (x ∷ xs) f h = (f x h.0, all_weaker P Q xs f h.1)

parts_text : (read : ReadLines) (d : ProgramView) → HasText d → parts.HasText program_kind (program_parts d)
parts_text read d h = record { target = tt; cells = h.cells; inputs = h.inputs; outputs = h.outputs; cycles = h.cycles; instrs = all_weaker HasLine (λ i. instr_of (instr_text i) ≡ Some i) d.instrs (λ i line. read.instr i line) h.instrs }

has_text : (one : OneLine) (d : ProgramView) → parts.HasText program_kind (program_parts d) → HasText d
has_text one d h = record { cells = h.cells; inputs = h.inputs; outputs = h.outputs; cycles = h.cycles; instrs = all_weaker (λ i. instr_of (instr_text i) ≡ Some i) HasLine d.instrs (λ i e. (one.instr (instr_text i) i e).1) h.instrs }

-- what is read as a draft is what is read as its parts

drafted : (r : Result (Parts Instr) TextFault) (d : ProgramView) → file_draft r ≡ Ok d → r ≡ Ok (program_parts d)
drafted (Ok p) d e = ap (λ (x : ProgramView). let s : Result (Parts Instr) TextFault = Ok (program_parts x) in s) (ok_is (parts_program p) d e)
drafted (Err fault) d e = absurd cc

module _ (one : OneLine) (laws : TextLaws program_kind) where
  pub draft_is : (bytes : List ℕ) (d : ProgramView) → draft_of bytes ≡ Ok d → (bytes ≡ text_of d) × HasText d
  unfolding draft_of
  draft_is bytes d e =
      let h = laws.one bytes (program_parts d) (drafted (parts_of program_kind bytes) d e) in
      (h.0 ∙ sym (text_is d), has_text one d h.1)

module _ (read : ReadLines) (laws : TextLaws program_kind) where
  draft_of-text : (d : ProgramView) → HasText d → draft_of (text_of d) ≡ Ok d
  unfolding draft_of
  draft_of-text d h = ap (λ (t : List ℕ). file_draft (parts_of program_kind t)) (text_is d) ∙ ap file_draft (laws.read (program_parts d) (parts_text read d h))

  draft_of-cut : (d : ProgramView) (k : ℕ) → HasText d → k < length (text_of d) → draft_of (take k (text_of d)) ≡ Err faults.Truncated
  unfolding draft_of
  draft_of-cut d k h lt =
      let within : k < length (parts.text program_kind (program_parts d)) = subst (λ (t : List ℕ). k < length t) (text_is d) lt in
      ap (λ (t : List ℕ). file_draft (parts_of program_kind (take k t))) (text_is d) ∙ ap file_draft (laws.cut (program_parts d) k (parts_text read d h) within)

-- what a call that reads a draft gives

sized_parts : (large : Bool) (p : Parts Instr) → cond large (Err faults.TooLarge) (Ok (parts_program p)) ≡ file_draft (cond large (Err texts.TooLarge) (Ok p))
sized_parts true p = refl
sized_parts false p = refl

sized_draft : (r : Result (Parts Instr) TextFault) → (file_draft r >>= sized) ≡ file_draft (r >>= reading.sized)
sized_draft (Ok p) = sized_parts (ltb MAX_CELLS p.cells) p
sized_draft (Err fault) = refl

sized_draft_is : (bytes : List ℕ) → sized_draft_of bytes ≡ file_draft (sized_parts_of program_kind bytes)
unfolding draft_of
sized_draft_is bytes = sized_draft (parts_of program_kind bytes)

pub gives_ok : (bytes : List ℕ) (d : ProgramView) → sized_parts_of program_kind bytes ≡ Ok (program_parts d) → sized_draft_of bytes ≡ Ok d
gives_ok bytes d e = sized_draft_is bytes ∙ ap file_draft e

pub gives_err : (bytes : List ℕ) (fault : TextFault) → (fault ≡ texts.NoMemory) ⊎ (sized_parts_of program_kind bytes ≡ Err fault)
    → (file_fault fault ≡ faults.NoMemory) ⊎ (sized_draft_of bytes ≡ Err (file_fault fault))
gives_err bytes fault (inl none) = inl (ap file_fault none)
gives_err bytes fault (inr e) = inr (sized_draft_is bytes ∙ ap file_draft e)

-- nothing but its text is read as a program

size_cases : (large : Bool) (d e : ProgramView) → cond large (Err faults.TooLarge) (Ok d) ≡ Ok e → d ≡ e
size_cases true d e h = absurd cc
size_cases false d e h = ok_is d e h

pub fault_cases : (fault : Option Invalid) (d p : ProgramView) → with_fault d fault ≡ Ok p → d ≡ p
fault_cases None d p e = ok_is d p e
fault_cases (Some invalid) d p e = absurd cc

module _ (one : OneLine) (laws : TextLaws program_kind) where
  pub program_is : (bytes : List ℕ) (p : ProgramView) → parse1_of bytes ≡ Ok p → bytes ≡ text_of p
  unfolding parse1_of
  program_is bytes p e =
      let b = bind_ok (draft_of bytes >>= sized) validated p e in
      let a = bind_ok (draft_of bytes) sized b.0 b.1 in
      let same : a.0 ≡ p = size_cases (ltb MAX_CELLS a.0.cells) a.0 b.0 a.2 ∙ fault_cases (fault_of b.0) b.0 p b.2 in
      (draft_is one laws bytes a.0 a.1).0 ∙ ap text_of same

  pub gives_text : (bytes : List ℕ) (r : Result ProgramView FileFault) → Gives faults.NoMemory (λ (p : ProgramView). p) r (parse1_of bytes) → IfOk r (λ p. bytes ≡ text_of p)
  gives_text bytes (Ok p) h = program_is bytes p h
  gives_text bytes (Err fault) h = tt

-- the text of a program is read as it

program_has_text : (lines : ProgramLines) (p : ProgramView) → IsProgram p → HasText p
program_has_text lines p h =
    let spelled = lines.has p h in
    let few = h.few_instrs in
    record { cells = spelled.cells; inputs = spelled.inputs; outputs = spelled.outputs; cycles = omega arith; instrs = spelled.instrs }

module _ (read : ReadLines) (lines : ProgramLines) (laws : TextLaws program_kind) where
  pub parse1_of-text : (p : ProgramView) → IsProgram p → parse1_of (text_of p) ≡ Ok p
  unfolding parse1_of
  parse1_of-text p h =
      let draft = draft_of-text read laws p (program_has_text lines p h) in
      let fits : ltb MAX_CELLS p.cells ≡ false = le-ltb _ _ h.small in
      let faultless = h.faultless in
      rw (draft, fits, faultless) refl

  -- no front of it is read as anything
  pub parse1_of-cut : (p : ProgramView) (k : ℕ) → IsProgram p → k < length (text_of p) → parse1_of (take k (text_of p)) ≡ Err faults.Truncated
  unfolding parse1_of
  parse1_of-cut p k h lt = let cut = draft_of-cut read laws p k (program_has_text lines p h) lt in rw cut refl

-- a draft is read from its text, and from no other bytes
module _ (one : OneLine) (read : ReadLines) (laws : TextLaws program_kind) where
  pub draft_of-iff : (bytes : List ℕ) (d : ProgramView) → (draft_of bytes ≡ Ok d) ↔ (HasText d × (bytes ≡ text_of d))
  draft_of-iff bytes d = (
    λ e. let h = draft_is one laws bytes d e in (h.1, h.0),
    λ h. ap draft_of h.1 ∙ draft_of-text read laws d h.0,
  )
