-- The laws of both forms: each spelling of a program is read as it, and no other bytes are.
use Rattle.std.proofs.Common.{◌≡◌, ℕ, ◌+◌, ◌^◌, ◌<◌, ◌≤◌, ◌⊎◌, inl, inr, Bool, true, false, cond, ltb, List, [], ◌∷◌, ◌++◌, length, Result, Ok, refl, ap, sym, ◌∙◌, subst, arith}
use Rattle.std.specs.Prelude.{◌↔◌}
use Rattle.std.specs.List.{AllByRecursion}
use Rattle.std.proofs.lemmas.Bool.{le-ltb, ltb-true, and_parts}
use Rattle.std.proofs.lemmas.List.Elements.{recursion_from_All}
use Rattle.pim_io.specs.Readings.{◌>>=◌, Gives}
use Rattle.pim_isa.specs.declared.target.Target.{Target}
use Rattle.pim_isa.specs.declared.port.Port.{Port}
use Rattle.pim_isa.specs.declared.instr.Operand.{Operand}
use Rattle.pim_isa.specs.declared.instr.Operand.TheVariants.{Zero, One, Cell}
use Rattle.pim_isa.specs.declared.instr.Instr.{Instr}
use Rattle.pim_isa.specs.declared.instr.Instr.TheVariants.{Init, Nor, Rm3}
use Rattle.pim_isa.specs.declared.draft.TheConstants.{MAX_CELLS}
use Rattle.pim_isa.specs.Programs.{ProgramView}
use Rattle.pim_isa.specs.Sound.{cells_of, IsValid, HasLabel, IsProgram}
use Rattle.pim_isa.specs.Touches.{operand_cells, names}
use Rattle.pim_isa.specs.Validity.{rises_above, is_rising, fault_of}
use Rattle.pim_text.specs.Spelled.{HasPortLine}
use Rattle.pim_text.specs.LineLaws.{ReadLines, OneLine, ProgramLines}
use Rattle.pim_text.specs.ProgramTexts.{program_kind}
use Rattle.pim_text.specs.Reading.{TextLaws}
use Rattle.pim_file.specs.declared.fault.FileFault.{FileFault}
use Rattle.pim_file.specs.declared.fault.FileFault.TheVariants as faults
use Rattle.pim_file.specs.Text.{text as text_of}
use Rattle.pim_file.specs.ProgramFile.{validated, sized, parse1_of}
use Rattle.pim_file.specs.BinaryReading.{is_binary, draft2_of, parse2_of, parse_of}
use Rattle.pim_file.specs.Binary.{operand_number, bin}
use Rattle.pim_file.specs.BinarySpelled.{HasBytes, HasBinary}
use Rattle.pim_file.specs.inner.BinaryKept.{program2_within_limit}
use Rattle.pim_file.proofs.ItemLemmas.{bind_ok}
use Rattle.pim_file.proofs.BinaryLemmas.{draft2_is, draft2_of-bin}
use Rattle.pim_file.proofs.KeptLemmas.{size_cases, parse2_of-kept}
use Rattle.pim_file.proofs.Laws.{all_weaker, fault_cases, parse1_of-text, program_is}

-- what holds of each element

all_front : (P : ℕ → Type 0) (xs ys : List ℕ) → AllByRecursion P (xs ++ ys) → AllByRecursion P xs
all_front P [] ys h = tt
all_front P (x ∷ xs) ys h = (h.0, all_front P xs ys h.1)

all_back : (P : ℕ → Type 0) (xs ys : List ℕ) → AllByRecursion P (xs ++ ys) → AllByRecursion P ys
all_back P [] ys h = h
all_back P (x ∷ xs) ys h = all_back P xs ys h.1

-- a program has a binary form

rising_is_short : (c n : ℕ) (ds : List ℕ) → c < n → rises_above c ds ≡ true → AllByRecursion (λ d. d < n) ds → c + length ds < n
rising_is_short c n [] h rises below = omega arith
rising_is_short c n (d ∷ ds) h rises below =
    let tests = and_parts (ltb c d) (rises_above d ds) rises in
    let above : c < d = ltb-true _ _ tests.0 in
    let others = rising_is_short d n ds below.0 tests.1 below.1 in
    omega arith

list_is_short : (n : ℕ) (cells : List ℕ) → is_rising cells ≡ true → AllByRecursion (λ d. d < n) cells → length cells ≤ n
list_is_short n [] rises below = omega arith
list_is_short n (c ∷ cells) rises below = let others = rising_is_short c n cells below.0 rises below.1 in omega arith

small_operand : (o : Operand) → AllByRecursion (λ c. c < MAX_CELLS) (operand_cells o) → operand_number o < 2 ^ 32
small_operand Zero h = omega arith
small_operand One h = omega arith
small_operand (Cell c) h = let small = h.0 in omega arith

small_names : (target : Target) (cells : ℕ) (i : Instr) → cells ≤ MAX_CELLS → IsValid target cells i → AllByRecursion (λ c. c < MAX_CELLS) (names i)
small_names target cells i small h = all_weaker (λ c. c < cells) (λ c. c < MAX_CELLS) (names i) (λ c below. omega arith) (recursion_from_All (λ c. c < cells) (names i) h.within)

valid_bytes : (target : Target) (cells : ℕ) (i : Instr) → cells ≤ MAX_CELLS → IsValid target cells i → HasBytes i
valid_bytes target cells (Init list) small h =
    let named = all_front (λ c. c < MAX_CELLS) list [] (small_names target cells (Init list) small h) in
    let short = list_is_short MAX_CELLS list h.listed named in
    (omega arith, all_weaker (λ c. c < MAX_CELLS) (λ n. n < 2 ^ 32) list (λ c below. omega arith) named)
valid_bytes target cells (Nor t ins) small h = all_weaker (λ c. c < MAX_CELLS) (λ n. n < 2 ^ 32) (names (Nor t ins)) (λ c below. omega arith) (small_names target cells (Nor t ins) small h)
valid_bytes target cells (Rm3 p q z) small h =
    let named = small_names target cells (Rm3 p q z) small h in
    let last : z < MAX_CELLS = named.0 in
    (small_operand p (all_front (λ c. c < MAX_CELLS) (operand_cells p) (operand_cells q) named.1.1), (small_operand q (all_back (λ c. c < MAX_CELLS) (operand_cells p) (operand_cells q) named.1.1), (omega arith, tt)))

ports_spelled : (cells : ℕ) (ports : List Port) → cells ≤ MAX_CELLS → AllByRecursion (λ c. c < cells) (cells_of ports) → AllByRecursion HasLabel ports → AllByRecursion HasPortLine ports
ports_spelled cells [] small h k = tt
ports_spelled cells (p ∷ ports) small h k = (record { cell = omega arith; label = k.0 }, ports_spelled cells ports small h.1 k.1)

pub program_has_binary : (p : ProgramView) → IsProgram p → HasBinary p
program_has_binary p h =
    let few_ports = h.few_ports in
    let few_instrs = h.few_instrs in
    let small = h.small in
    record {
      cells = omega arith;
      few_inputs = omega arith;
      inputs = ports_spelled p.cells p.inputs h.small (recursion_from_All (λ c. c < p.cells) (cells_of p.inputs) h.sound.inputs) (recursion_from_All HasLabel p.inputs h.input_labels);
      few_outputs = omega arith;
      outputs = ports_spelled p.cells p.outputs h.small (recursion_from_All (λ c. c < p.cells) (cells_of p.outputs) h.sound.outputs) (recursion_from_All HasLabel p.outputs h.output_labels);
      few_instrs = omega arith;
      instrs = all_weaker (IsValid p.target p.cells) HasBytes p.instrs (λ i valid. valid_bytes p.target p.cells i h.small valid) (recursion_from_All (IsValid p.target p.cells) p.instrs h.sound.instrs);
    }

-- its binary form is read as it, and no other bytes that begin so are

pub parse2_of-bin : (p : ProgramView) → IsProgram p → parse2_of (bin p) ≡ Ok p
unfolding parse2_of
parse2_of-bin p h =
    let draft = draft2_of-bin p (program_has_binary p h) in
    let fits : ltb MAX_CELLS p.cells ≡ false = le-ltb _ _ h.small in
    let faultless = h.faultless in
    rw (draft, fits, faultless) refl

pub binary_is : (bytes : List ℕ) (p : ProgramView) → is_binary bytes ≡ true → parse2_of bytes ≡ Ok p → bytes ≡ bin p
unfolding parse2_of
binary_is bytes p tagged e =
    let b = bind_ok (draft2_of bytes >>= sized) validated p e in
    let a = bind_ok (draft2_of bytes) sized b.0 b.1 in
    let same : a.0 ≡ p = size_cases (ltb MAX_CELLS a.0.cells) a.0 b.0 a.2 ∙ fault_cases (fault_of b.0) b.0 p b.2 in
    (draft2_is bytes a.0 tagged a.1).0 ∙ ap bin same

-- both forms

pub parse_of-bin : (p : ProgramView) → IsProgram p → parse_of (bin p) ≡ Ok p
unfolding parse_of
parse_of-bin p h = parse2_of-bin p h

module _ (read : ReadLines) (lines : ProgramLines) (laws : TextLaws program_kind) where
  pub parse_of-text : (p : ProgramView) → IsProgram p → parse_of (text_of p) ≡ Ok p
  unfolding parse_of
  parse_of-text p h = parse1_of-text read lines laws p h

  pub spelling_is_read : (bytes : List ℕ) (p : ProgramView) → IsProgram p → ((bytes ≡ text_of p) ⊎ (bytes ≡ bin p)) → parse_of bytes ≡ Ok p
  spelling_is_read bytes p h (inl text) = ap parse_of text ∙ parse_of-text p h
  spelling_is_read bytes p h (inr form) = ap parse_of form ∙ parse_of-bin p h

module _ (one : OneLine) (laws : TextLaws program_kind) where
  pub spelling_is : (bytes : List ℕ) (p : ProgramView) → parse_of bytes ≡ Ok p → (bytes ≡ text_of p) ⊎ (bytes ≡ bin p)
  unfolding parse_of
  spelling_is bytes p e = by_tag (is_binary bytes) refl e
    where
      by_tag : (t : Bool) → is_binary bytes ≡ t → cond t (parse2_of bytes) (parse1_of bytes) ≡ Ok p → (bytes ≡ text_of p) ⊎ (bytes ≡ bin p)
      by_tag true tagged e = inr (binary_is bytes p tagged e)
      by_tag false tagged e = inl (program_is one laws bytes p e)

-- what a call that reads one of them gives

pub gives_binary : (bytes : List ℕ) (r : Result ProgramView FileFault) → is_binary bytes ≡ true → Gives faults.NoMemory (λ (p : ProgramView). p) r (program2_within_limit bytes) → Gives faults.NoMemory (λ (p : ProgramView). p) r (parse_of bytes)
unfolding parse_of
gives_binary bytes r tagged h =
    let whole : program2_within_limit bytes ≡ cond (is_binary bytes) (parse2_of bytes) (parse1_of bytes) = sym (rw tagged (parse2_of-kept bytes)) in
    subst (λ (reading : Result ProgramView FileFault). Gives faults.NoMemory (λ (p : ProgramView). p) r reading) whole h

pub gives_text_form : (bytes : List ℕ) (r : Result ProgramView FileFault) → is_binary bytes ≡ false → Gives faults.NoMemory (λ (p : ProgramView). p) r (parse1_of bytes) → Gives faults.NoMemory (λ (p : ProgramView). p) r (parse_of bytes)
unfolding parse_of
gives_text_form bytes r tagged h = rw tagged h

-- a draft is read from its binary form, and from no other bytes that begin so
pub draft2_of-iff : (bytes : List ℕ) → is_binary bytes ≡ true → (d : ProgramView) → (draft2_of bytes ≡ Ok d) ↔ (HasBinary d × (bytes ≡ bin d))
draft2_of-iff bytes tagged d = (
  λ e. let h = draft2_is bytes d tagged e in (h.1, h.0),
  λ h. ap draft2_of h.1 ∙ draft2_of-bin d h.0,
)
