-- No newline stands in the line of a target, of a number, of a port or of an instruction; and where lines are cut.
use Rattle.std.proofs.Common.{◌≡◌, ℕ, ◌+◌, ◌≤◌, true, false, not, eqb, List, [], ◌∷◌, ◌++◌, length, codes, refl, ap, ◌∙◌, append_assoc, arith}
use Rattle.std.specs.Fmt.{decimal}
use Rattle.std.specs.List.{list_all}
use Rattle.std.proofs.lemmas.Bool.{and_parts, not-true, leb-true, ne_eqb}
use Rattle.std.proofs.lemmas.List.{append-nil}
use Rattle.pim_io.specs.Lines.{is_newline, lines_after}
use Rattle.pim_io.specs.Names.{is_shown, is_label}
use Rattle.pim_isa.specs.declared.target.Target.{Target}
use Rattle.pim_isa.specs.declared.target.Target.TheVariants.{Magic, Plim}
use Rattle.pim_isa.specs.declared.port.Port.{Port}
use Rattle.pim_isa.specs.declared.instr.Ins.{Ins}
use Rattle.pim_isa.specs.declared.instr.Ins.TheVariants.{Two, Three, Four, One as Single}
use Rattle.pim_isa.specs.declared.instr.Operand.{Operand}
use Rattle.pim_isa.specs.declared.instr.Operand.TheVariants.{Zero, One, Cell}
use Rattle.pim_isa.specs.declared.instr.Instr.{Instr}
use Rattle.pim_isa.specs.declared.instr.Instr.TheVariants.{Init, Nor, Rm3}
use Rattle.pim_text.specs.Fields.{lacks}
use Rattle.pim_text.specs.Spelled.{AreSpelled, IsSpelledOperand, HasLine, HasPortLine}
use Rattle.pim_text.specs.Text.{target_line, numbers_text, operand_text, nor_text, instr_text, port_line}
use Rattle.pim_text.proofs.FieldLemmas.{lacks-append, lacks-decimal}
use Rattle.pim_text.proofs.LabelLemmas.{is_label-from_IsLabel}

shown_lacks : (bytes : List ℕ) → list_all is_shown bytes ≡ true → lacks 10 bytes ≡ true
shown_lacks [] h = refl
shown_lacks (b ∷ bytes) h =
    let parts = and_parts (is_shown b) (list_all is_shown bytes) h in
    let low = and_parts _ _ parts.0 in
    let above : 32 ≤ b = leb-true _ _ low.0 in
    let other : eqb b 10 ≡ false = ne_eqb b 10 (λ e. omega arith) in
    rw (other, shown_lacks bytes parts.1) refl

label_lacks : (bytes : List ℕ) → is_label bytes ≡ true → lacks 10 bytes ≡ true
label_lacks bytes h = shown_lacks bytes (and_parts _ _ h).1

pub lacks-port : (word : List ℕ) (port : Port) → lacks 10 word ≡ true → HasPortLine port → lacks 10 (port_line word port) ≡ true
lacks-port word port h p =
    let number = lacks-append 10 word (decimal port.cell) h (lacks-decimal 10 port.cell (omega arith) p.cell) in
    let space = lacks-append 10 (word ++ decimal port.cell) (codes " ") number refl in
    lacks-append 10 ((word ++ decimal port.cell) ++ codes " ") port.label space (label_lacks port.label (is_label-from_IsLabel port.label p.label))

lacks-numbers : (word ns : List ℕ) → lacks 10 word ≡ true → AreSpelled ns → lacks 10 (word ++ numbers_text ns) ≡ true
lacks-numbers word [] h k = rw append-nil h
lacks-numbers word (n ∷ ns) h k = lacks-append 10 word (32 ∷ (decimal n ++ numbers_text ns)) h (lacks-numbers (decimal n) ns (lacks-decimal 10 n (omega arith) k.0) k.1)

lacks-operand : (operand : Operand) → IsSpelledOperand operand → lacks 10 (operand_text operand) ≡ true
lacks-operand Zero h = refl
lacks-operand One h = refl
lacks-operand (Cell c) h = lacks-decimal 10 c (omega arith) h

lacks-nor : (t : ℕ) (ins : Ins) → HasLine (Nor t ins) → lacks 10 (nor_text t ins) ≡ true
lacks-nor t (Single a) h = lacks-numbers (codes "not") (t ∷ a ∷ []) refl h
lacks-nor t (Two a b) h = lacks-numbers (codes "nor") (t ∷ a ∷ b ∷ []) refl h
lacks-nor t (Three a b c) h = lacks-numbers (codes "nor") (t ∷ a ∷ b ∷ c ∷ []) refl h
lacks-nor t (Four a b c d) h = lacks-numbers (codes "nor") (t ∷ a ∷ b ∷ c ∷ d ∷ []) refl h

pub lacks-instr : (i : Instr) → HasLine i → lacks 10 (instr_text i) ≡ true
lacks-instr (Init cells) h = lacks-numbers (codes "init") cells refl h
lacks-instr (Nor t ins) h = lacks-nor t ins h
lacks-instr (Rm3 p q z) h =
    let first = lacks-append 10 (codes "rm3 ") (operand_text p) refl (lacks-operand p h.0) in
    let space = lacks-append 10 (codes "rm3 " ++ operand_text p) (codes " ") first refl in
    let second = lacks-append 10 ((codes "rm3 " ++ operand_text p) ++ codes " ") (operand_text q) space (lacks-operand q h.1) in
    let at = lacks-append 10 (((codes "rm3 " ++ operand_text p) ++ codes " ") ++ operand_text q) (codes " @") second refl in
    lacks-append 10 ((((codes "rm3 " ++ operand_text p) ++ codes " ") ++ operand_text q) ++ codes " @") (decimal z) at (lacks-decimal 10 z (omega arith) h.2)

pub lacks-target : (target : Target) → lacks 10 (target_line target) ≡ true
lacks-target Magic = refl
lacks-target Plim = refl

-- a line without a newline in it, and a newline
lines-run : (number start : ℕ) (run line rest : List ℕ) → lacks 10 line ≡ true → lines_after number start run (line ++ 10 ∷ rest) ≡ record { number = number; start = start; text = run ++ line; ended = true } ∷ lines_after (number + 1) (start + length (run ++ line) + 1) [] rest
lines-run number start run [] rest h = rw append-nil refl
lines-run number start run (b ∷ line) rest h =
    let parts = and_parts (not (eqb b 10)) (lacks 10 line) h in
    let other : is_newline b ≡ false = not-true _ parts.0 in
    let more = lines-run number start (run ++ b ∷ []) line rest parts.1 in
    let whole : (run ++ b ∷ []) ++ line ≡ run ++ b ∷ line = append_assoc run (b ∷ []) line in
    rw other (more ∙ ap (λ (t : List ℕ). record { number = number; start = start; text = t; ended = true } ∷ lines_after (number + 1) (start + length t + 1) [] rest) whole)

pub lines-line : (number start : ℕ) (line rest : List ℕ) → lacks 10 line ≡ true → lines_after number start [] (line ++ 10 ∷ rest) ≡ record { number = number; start = start; text = line; ended = true } ∷ lines_after (number + 1) (start + length line + 1) [] rest
lines-line number start line rest h = lines-run number start [] line rest h
