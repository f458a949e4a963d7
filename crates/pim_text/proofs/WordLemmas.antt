-- The words of an instruction are not empty, and have no byte that cuts a line.
use Rattle.std.proofs.Common.{◌≡◌, ℕ, ◌^◌, ◌<◌, ◌≤◌, true, false, eqb, leb, List, [], ◌∷◌, ◌++◌, length, map, Some, codes, refl, arith}
use Rattle.std.specs.Fmt.{decimal}
use Rattle.std.specs.List.{list_all, AllByRecursion}
use Rattle.std.proofs.lemmas.Bool.{and_parts, leb-true, ne_eqb, lt-ltb, le-leb}
use Rattle.std.proofs.lemmas.Fmt.{decimal_nonempty, digits_decimal, length-decimal-le, digits_value-decimal}
use Rattle.pim_io.specs.Words.{is_digit, digits_after, number_of}
use Rattle.pim_isa.specs.declared.instr.Ins.{Ins}
use Rattle.pim_isa.specs.declared.instr.Ins.TheVariants.{Two, Three, Four, One as Single}
use Rattle.pim_isa.specs.declared.instr.Operand.{Operand}
use Rattle.pim_isa.specs.declared.instr.Operand.TheVariants.{Zero, One, Cell}
use Rattle.pim_isa.specs.declared.instr.Instr.{Instr}
use Rattle.pim_isa.specs.declared.instr.Instr.TheVariants.{Init, Nor, Rm3}
use Rattle.pim_text.specs.LineLaws.{is_plain, IsPlainWord}
use Rattle.pim_text.specs.Spelled.{AreSpelled, IsSpelledOperand, HasLine}
use Rattle.pim_text.specs.Text.{operand_text, nor_words, instr_words}
use Rattle.pim_text.proofs.NumberLemmas.{own}

digits_plain : (text : List ℕ) → list_all is_digit text ≡ true → list_all is_plain text ≡ true
digits_plain [] h = refl
digits_plain (b ∷ text) h =
    let parts = and_parts (is_digit b) (list_all is_digit text) h in
    let bounds = and_parts (leb 48 b) (leb b 57) parts.0 in
    let low : 48 ≤ b = leb-true _ _ bounds.0 in
    let high : b ≤ 57 = leb-true _ _ bounds.1 in
    let above = lt-ltb 34 b (omega arith) in
    let other : eqb b 59 ≡ false = ne_eqb b 59 (λ e. omega arith) in
    rw (above, other, digits_plain text parts.1) refl

pub plain_decimal : (n : ℕ) → n < 2 ^ 32 → IsPlainWord (decimal n)
plain_decimal n h = record {
  some = decimal_nonempty n (omega arith);
  plain = digits_plain (decimal n) (digits_decimal own n (omega arith));
}

-- the number of a decimal text
pub number_of-decimal : (n : ℕ) → n < 2 ^ 32 → number_of (decimal n) ≡ Some n
unfolding number_of
number_of-decimal n h =
    let some = lt-ltb 0 (length (decimal n)) (decimal_nonempty n (omega arith)) in
    let short = le-leb (length (decimal n)) 10 (length-decimal-le 10 n (omega arith) (omega arith) (omega arith)) in
    let digits : list_all is_digit (decimal n) ≡ true = digits_decimal own n (omega arith) in
    let value : digits_after 0 (decimal n) ≡ n = digits_value-decimal own n (omega arith) in
    let small = lt-ltb n (2 ^ 32) h in
    rw (some, short, digits, value, small) refl

plain_numbers : (ns : List ℕ) → AreSpelled ns → AllByRecursion IsPlainWord (map decimal ns)
plain_numbers [] h = tt
plain_numbers (n ∷ ns) h = (plain_decimal n h.0, plain_numbers ns h.1)

plain_marked : (n : ℕ) → n < 2 ^ 32 → IsPlainWord (codes "@" ++ decimal n)
plain_marked n h = let number = plain_decimal n h in record { some = omega arith; plain = number.plain }

plain_operand : (operand : Operand) → IsSpelledOperand operand → IsPlainWord (operand_text operand)
plain_operand Zero h = record { some = omega arith; plain = refl }
plain_operand One h = record { some = omega arith; plain = refl }
plain_operand (Cell c) h = plain_marked c h

plain_word : (word : List ℕ) → 0 < length word → list_all is_plain word ≡ true → IsPlainWord word
plain_word word h k = record { some = h; plain = k }

plain_nor : (t : ℕ) (ins : Ins) → HasLine (Nor t ins) → AllByRecursion IsPlainWord (nor_words t ins)
plain_nor t (Single a) h = (plain_word (codes "not") (omega arith) refl, plain_numbers (t ∷ a ∷ []) h)
plain_nor t (Two a b) h = (plain_word (codes "nor") (omega arith) refl, plain_numbers (t ∷ a ∷ b ∷ []) h)
plain_nor t (Three a b c) h = (plain_word (codes "nor") (omega arith) refl, plain_numbers (t ∷ a ∷ b ∷ c ∷ []) h)
plain_nor t (Four a b c d) h = (plain_word (codes "nor") (omega arith) refl, plain_numbers (t ∷ a ∷ b ∷ c ∷ d ∷ []) h)

pub plain_instr : (i : Instr) → HasLine i → AllByRecursion IsPlainWord (instr_words i)
plain_instr (Init cells) h = (plain_word (codes "init") (omega arith) refl, plain_numbers cells h)
plain_instr (Nor t ins) h = plain_nor t ins h
plain_instr (Rm3 p q z) h = (plain_word (codes "rm3") (omega arith) refl, (plain_operand p h.0, (plain_operand q h.1, (plain_marked z h.2, tt))))
