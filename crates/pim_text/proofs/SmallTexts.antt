-- What is read of a text that isn't too long has few parts: the text is longer than twice its parts.
use Rattle.std.proofs.Common.{◌≡◌, ℕ, ◌+◌, ◌*◌, ◌≤◌, Bool, true, false, cond, ltb, List, [], ◌∷◌, ◌++◌, length, Result, Ok, Err, codes, sym, ◌∙◌, subst, arith}
use Rattle.std.specs.Prelude.{IfOk}
use Rattle.std.specs.Fmt.{decimal}
use Rattle.std.proofs.lemmas.List.{length-append}
use Rattle.pim_io.specs.declared.limits.TheConstants.{MAX_PROGRAM}
use Rattle.pim_io.specs.Readings.{◌>>=◌, Gives}
use Rattle.pim_isa.specs.declared.draft.TheConstants.{MAX_CELLS}
use Rattle.pim_isa.specs.declared.port.Port.{Port}
use Rattle.pim_text.specs.declared.fault.TextFault.{TextFault}
use Rattle.pim_text.specs.declared.fault.TextFault.TheVariants as faults
use Rattle.pim_text.specs.Parts.{Kind, IsKind, Parts, instrs_text, head_text, text as text_of, HasText, HasFewParts}
use Rattle.pim_text.specs.Reading.{parts_of, sized}
use Rattle.pim_text.specs.Text.{counted_text, port_text, ports_text}
use Rattle.pim_text.specs.inner.Kept.{parts_within_limit}
use Rattle.pim_text.proofs.LimitLemmas.{parts_of-kept}
use Rattle.pim_text.proofs.OptionLemmas.{bind_ok, ok_is}

many_ports : (word : List ℕ) (ports : List Port) → 2 * length ports ≤ length (ports_text word ports)
many_ports word [] = omega arith
many_ports word (port ∷ ports) =
    let others = many_ports word ports in
    let whole = length-append (port_text word port) (ports_text word ports) in
    let end = length-append (((word ++ decimal port.cell) ++ codes " ") ++ port.label) (codes "\n") in
    let label = length-append ((word ++ decimal port.cell) ++ codes " ") port.label in
    let space = length-append (word ++ decimal port.cell) (codes " ") in
    omega arith

six_pieces : (a b c d e f : List ℕ) → length (a ++ b ++ c ++ d ++ e ++ f) ≡ length a + length b + length c + length d + length e + length f
six_pieces a b c d e f = simp length-append

module _ {I : Type 0} (kind : Kind I) (is_kind : IsKind kind) where
  many_instrs : (instrs : List I) → 2 * length instrs ≤ length (instrs_text kind.instr_text instrs)
  many_instrs [] = omega arith
  many_instrs (i ∷ instrs) =
      let others = many_instrs instrs in
      let first = is_kind.some i in
      let whole = length-append (kind.instr_text i ++ codes "\n") (instrs_text kind.instr_text instrs) in
      let end = length-append (kind.instr_text i) (codes "\n") in
      omega arith

  small_text : (d : Parts I) → length (text_of kind d) ≤ MAX_PROGRAM → HasFewParts d
  small_text d h =
      let whole = six_pieces (head_text kind d.target d.cells) (ports_text (codes "input ") d.inputs) (ports_text (codes "output ") d.outputs) (counted_text (codes "cycles ") (length d.instrs)) (instrs_text kind.instr_text d.instrs) (codes "end\n") in
      let inputs = many_ports (codes "input ") d.inputs in
      let outputs = many_ports (codes "output ") d.outputs in
      let instrs = many_instrs d.instrs in
      record { ports = omega arith; instrs = omega arith }

  size_cases : (large : Bool) (d e : Parts I) → cond large (Err faults.TooLarge) (Ok d) ≡ Ok e → d ≡ e
  size_cases true d e h = absurd cc
  size_cases false d e h = ok_is {E = TextFault} d e h

  pub few_parts : {D : Type 0} (parts : D → Parts I) (bytes : List ℕ) (r : Result D TextFault)
      → ((d : Parts I) → parts_of kind bytes ≡ Ok d → (bytes ≡ text_of kind d) × HasText kind d) → length bytes ≤ MAX_PROGRAM
      → Gives faults.NoMemory parts r (parts_within_limit kind bytes) → IfOk r (λ draft. HasFewParts (parts draft))
  few_parts parts bytes (Ok x) one h e =
      let b = bind_ok (parts_of kind bytes) sized (parts x) (sym (parts_of-kept kind bytes) ∙ e) in
      let same = size_cases (ltb MAX_CELLS b.0.cells) b.0 (parts x) b.2 in
      subst (λ (d : Parts I). HasFewParts d) same (small_text b.0 (subst (λ (t : List ℕ). length t ≤ MAX_PROGRAM) (one b.0 b.1).0 h))
  few_parts parts bytes (Err fault) one h e = tt

  pub gives_sized : {D : Type 0} (parts : D → Parts I) (bytes : List ℕ) (r : Result D TextFault)
      → Gives faults.NoMemory parts r (parts_within_limit kind bytes) → Gives faults.NoMemory parts r (parts_of kind bytes >>= sized)
  gives_sized parts bytes r h = subst (λ (reading : Result (Parts I) TextFault). Gives faults.NoMemory parts r reading) (parts_of-kept kind bytes) h
