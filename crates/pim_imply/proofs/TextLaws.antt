-- The laws of reading and printing: a program's text is read as it, and nothing else is.
use Rattle.std.proofs.Common.{◌≡◌, ℕ, ◌<◌, ◌≤◌, Bool, true, false, cond, ltb, List, [], ◌∷◌, length, Option, Some, None, Result, Ok, Err, refl, take, ap, sym, ◌∙◌, subst, ◌⊎◌, inl, inr, arith}
use Rattle.std.specs.Prelude.{◌↔◌, IfOk}
use Rattle.std.specs.List.{AllByRecursion}
use Rattle.std.proofs.lemmas.Bool.{le-ltb, ltb-false}
use Rattle.pim_io.specs.Readings.{◌>>=◌, Gives}
use Rattle.pim_isa.specs.Sound.{IsProgram}
use Rattle.pim_isa.specs.declared.draft.TheConstants.{MAX_CELLS, MAX_INSTRS}
use Rattle.pim_isa.specs.declared.target.Target.{Target}
use Rattle.pim_text.specs.LineLaws.{ReadLines, OneLine, ProgramLines}
use Rattle.pim_text.specs.Parts as parts
use Rattle.pim_text.specs.Parts.{Parts}
use Rattle.pim_text.specs.Reading.{TextLaws, parts_of, sized, sized_parts_of}
use Rattle.pim_text.specs.declared.fault.TextFault.{TextFault}
use Rattle.pim_text.specs.declared.fault.TextFault.TheVariants as texts
use Rattle.pim_imply.specs.Lines.{instr_of}
use Rattle.pim_imply.specs.Programs.{ImplyView, body_of}
use Rattle.pim_imply.specs.Reading.{imply_kind, imply_parts, parts_imply, imply_fault, imply_draft, draft_of, imply_of, validated, with_fault}
use Rattle.pim_imply.specs.Spelled.{HasLine, HasText}
use Rattle.pim_imply.specs.Text.{imply_text, text as text_of}
use Rattle.pim_imply.specs.Validity.{fault_of}
use Rattle.pim_imply.specs.declared.fault.ImplyFault.{ImplyFault}
use Rattle.pim_imply.specs.declared.fault.ImplyFault.TheVariants as faults
use Rattle.pim_imply.specs.declared.instr.ImplyInstr.{ImplyInstr}
use Rattle.pim_imply.specs.declared.invalid.ImplyInvalid.{ImplyInvalid}
use Rattle.pim_imply.proofs.FitLemmas.{all_fit, lines_of_fit}
use Rattle.pim_imply.proofs.TextLemmas.{instr_is, instr_of-text}

abbrev done : {A : Type 0} → A → Result A ImplyFault
done x = Ok x

ok_is : {A : Type 0} (x y : A) → done x ≡ done y → x ≡ y
ok_is x y e = cc

bind_ok : {A B : Type 0} (r : Result A ImplyFault) (f : A → Result B ImplyFault) (y : B) → (r >>= f) ≡ Ok y → (x : A) × (r ≡ Ok x) × (f x ≡ Ok y)
bind_ok (Ok x) f y e = (x, refl, e)
bind_ok (Err fault) f y e = absurd cc

-- the text of a draft is that of its parts
text_is : (d : ImplyView) → text_of d ≡ parts.text imply_kind (imply_parts d)
text_is d = refl

-- what holds of each instruction
all_lines : (P Q : ImplyInstr → Type 0) (xs : List ImplyInstr) → ((x : ImplyInstr) → P x → Q x) → AllByRecursion P xs → AllByRecursion Q xs
all_lines P Q [] f h = tt
all_lines P Q (x ∷ xs) f h = (f x h.0, all_lines P Q xs f h.1)

parts_text : (read : ReadLines) (d : ImplyView) → HasText d → parts.HasText imply_kind (imply_parts d)
parts_text read d h =
    let small = h.cells in
    record { target = refl; cells = omega arith; inputs = h.inputs; outputs = h.outputs; cycles = h.cycles; instrs = all_lines HasLine (λ i. instr_of (imply_text i) ≡ Some i) d.instrs (λ i line. instr_of-text read i line) h.instrs }

has_text : (one : OneLine) (d : ImplyView) → d.cells ≤ MAX_CELLS → parts.HasText imply_kind (imply_parts d) → HasText d
has_text one d small h = record { cells = small; inputs = h.inputs; outputs = h.outputs; cycles = h.cycles; instrs = all_lines (λ i. instr_of (imply_text i) ≡ Some i) HasLine d.instrs (λ i e. (instr_is one (imply_text i) i e).1) h.instrs }

-- what is read as a draft is what is read as its parts, of at most as many cells as a program may have

size_cases : (large : Bool) (p : Parts ImplyInstr) (d : ImplyView) → ltb MAX_CELLS p.cells ≡ large → imply_draft (cond large (Err texts.TooLarge) (Ok p)) ≡ Ok d → (p.cells ≤ MAX_CELLS) × (parts_imply p ≡ d)
size_cases true p d e h = absurd cc
size_cases false p d e h = (ltb-false _ _ e, ok_is (parts_imply p) d h)

module _ (laws : TextLaws imply_kind) where
  told : (p : Parts ImplyInstr) → parts.HasText imply_kind p → p ≡ imply_parts (parts_imply p)
  told p h = ap (λ (t : Target). let q : Parts ImplyInstr = record p { target = t } in q) h.target

  drafted : (r : Result (Parts ImplyInstr) TextFault) (d : ImplyView) → ((p : Parts ImplyInstr) → r ≡ Ok p → parts.HasText imply_kind p) → imply_draft (r >>= sized) ≡ Ok d → (d.cells ≤ MAX_CELLS) × (r ≡ Ok (imply_parts d))
  drafted (Ok p) d f e =
      let h = size_cases (ltb MAX_CELLS p.cells) p d refl e in
      let same : p ≡ imply_parts d = told p (f p refl) ∙ ap imply_parts h.1 in
      (subst (λ (x : ImplyView). x.cells ≤ MAX_CELLS) h.1 h.0, ap (λ (q : Parts ImplyInstr). let s : Result (Parts ImplyInstr) TextFault = Ok q in s) same)
  drafted (Err fault) d f e = absurd cc

module _ (one : OneLine) (laws : TextLaws imply_kind) where
  draft_is : (bytes : List ℕ) (d : ImplyView) → draft_of bytes ≡ Ok d → (bytes ≡ text_of d) × HasText d
  unfolding draft_of
  draft_is bytes d e =
      let r = drafted laws (parts_of imply_kind bytes) d (λ p read. (laws.one bytes p read).1) e in
      let h = laws.one bytes (imply_parts d) r.1 in
      (h.0 ∙ sym (text_is d), has_text one d r.0 h.1)

module _ (read : ReadLines) (laws : TextLaws imply_kind) where
  draft_of-text : (d : ImplyView) → HasText d → draft_of (text_of d) ≡ Ok d
  unfolding draft_of
  draft_of-text d h =
      let parts_read : parts_of imply_kind (text_of d) ≡ Ok (imply_parts d) = ap (parts_of imply_kind) (text_is d) ∙ laws.read (imply_parts d) (parts_text read d h) in
      let fits : ltb MAX_CELLS d.cells ≡ false = le-ltb _ _ h.cells in
      rw (parts_read, fits) refl

  draft_of-cut : (d : ImplyView) (k : ℕ) → HasText d → k < length (text_of d) → draft_of (take k (text_of d)) ≡ Err faults.Truncated
  unfolding draft_of
  draft_of-cut d k h lt =
      let within : k < length (parts.text imply_kind (imply_parts d)) = subst (λ (t : List ℕ). k < length t) (text_is d) lt in
      let cut : parts_of imply_kind (take k (text_of d)) ≡ Err texts.Truncated = ap (λ (t : List ℕ). parts_of imply_kind (take k t)) (text_is d) ∙ laws.cut (imply_parts d) k (parts_text read d h) within in
      rw cut refl

-- what a call that reads a draft gives

pub gives_ok : (bytes : List ℕ) (d : ImplyView) → sized_parts_of imply_kind bytes ≡ Ok (imply_parts d) → draft_of bytes ≡ Ok d
unfolding draft_of
gives_ok bytes d e = ap imply_draft e

pub gives_err : (bytes : List ℕ) (fault : TextFault) → (fault ≡ texts.NoMemory) ⊎ (sized_parts_of imply_kind bytes ≡ Err fault)
    → (imply_fault fault ≡ faults.NoMemory) ⊎ (draft_of bytes ≡ Err (imply_fault fault))
unfolding draft_of
gives_err bytes fault (inl none) = inl (ap imply_fault none)
gives_err bytes fault (inr e) = inr (ap imply_draft e)

-- nothing but its text is read as a program

fault_cases : (fault : Option ImplyInvalid) (d p : ImplyView) → with_fault d fault ≡ Ok p → d ≡ p
fault_cases None d p e = ok_is d p e
fault_cases (Some invalid) d p e = absurd cc

module _ (one : OneLine) (laws : TextLaws imply_kind) where
  program_is : (bytes : List ℕ) (p : ImplyView) → imply_of bytes ≡ Ok p → bytes ≡ text_of p
  unfolding imply_of
  program_is bytes p e =
      let b = bind_ok (draft_of bytes) validated p e in
      (draft_is one laws bytes b.0 b.1).0 ∙ ap text_of (fault_cases (fault_of b.0) b.0 p b.2)

  pub gives_text : (bytes : List ℕ) (r : Result ImplyView ImplyFault) → Gives faults.NoMemory (λ (p : ImplyView). p) r (imply_of bytes) → IfOk r (λ p. bytes ≡ text_of p)
  gives_text bytes (Ok p) h = program_is bytes p h
  gives_text bytes (Err fault) h = tt

-- the text of a program is read as it

program_has_text : (lines : ProgramLines) (p : ImplyView) → IsProgram (body_of p) → length p.instrs ≤ MAX_INSTRS → fault_of p ≡ None → HasText p
program_has_text lines p h few faultless =
    let ports = lines.has (body_of p) h in
    record {
      cells = h.small;
      inputs = ports.inputs;
      outputs = ports.outputs;
      cycles = omega arith;
      instrs = lines_of_fit p.cells p.instrs h.small (all_fit p faultless);
    }

module _ (read : ReadLines) (lines : ProgramLines) (laws : TextLaws imply_kind) where
  pub imply_of-text : (p : ImplyView) → IsProgram (body_of p) → length p.instrs ≤ MAX_INSTRS → fault_of p ≡ None → imply_of (text_of p) ≡ Ok p
  unfolding imply_of
  imply_of-text p h few faultless =
      let draft = draft_of-text read laws p (program_has_text lines p h few faultless) in
      rw (draft, faultless) refl

  -- no front of it is read as anything
  pub imply_of-cut : (p : ImplyView) (k : ℕ) → IsProgram (body_of p) → length p.instrs ≤ MAX_INSTRS → fault_of p ≡ None → k < length (text_of p) → imply_of (take k (text_of p)) ≡ Err faults.Truncated
  unfolding imply_of
  imply_of-cut p k h few faultless lt = let cut = draft_of-cut read laws p k (program_has_text lines p h few faultless) lt in rw cut refl

-- a draft is read from its text, and from no other bytes
module _ (one : OneLine) (read : ReadLines) (laws : TextLaws imply_kind) where
  pub draft_of-iff : (bytes : List ℕ) (d : ImplyView) → (draft_of bytes ≡ Ok d) ↔ (HasText d × (bytes ≡ text_of d))
  draft_of-iff bytes d = (
    λ e. let h = draft_is one laws bytes d e in (h.1, h.0),
    λ h. ap draft_of h.1 ∙ draft_of-text read laws d h.0,
  )
