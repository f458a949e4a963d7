-- The line of an instruction is read as that instruction, and no other line is.
use Rattle.std.proofs.Common.{◌≡◌, ℕ, ◌^◌, ◌<◌, ◌≤◌, ◌⊎◌, inl, inr, true, leb, List, [], ◌∷◌, ◌++◌, length, Option, Some, None, codes, refl, ap, sym, ◌∙◌, subst, append_assoc, arith, rules, get_or, zero, suc}
use Rattle.std.specs.Fmt.{decimal}
use Rattle.std.specs.List.{list_all}
use Rattle.std.specs.Option.{option_map, option_and_then, option_or}
use Rattle.std.proofs.lemmas.Bool.{and_parts, leb-true}
use Rattle.std.proofs.lemmas.Fmt.{decimal_nonempty, length-decimal-le, digits_decimal}
use Rattle.std.proofs.lemmas.List.{append-nil}
use Rattle.std.proofs.lemmas.Str.Parse.{IsNumeralModel, IsDigitsTest, FoldsDigits, numerals_by_fold}
use Rattle.pim_io.specs.Names.{IsLabel, IsShown}
use Rattle.pim_io.specs.Words.{is_digit, digits_after}
use Rattle.pim_isa.specs.declared.port.Port.{Port}
use Rattle.pim_text.specs.Fields.{lacks, plain_number}
use Rattle.pim_text.specs.LineForms.{counted_of, port_of}
use Rattle.pim_text.specs.LineLaws.{LackNewlines, OneLine, ReadLines}
use Rattle.pim_text.specs.Spelled.{HasPortLine}
use Rattle.pim_text.specs.Text.{port_line}
use Rattle.pim_imply.specs.Lines.{false_of, imp_of, instr_of}
use Rattle.pim_imply.specs.Spelled.{HasLine}
use Rattle.pim_imply.specs.Text.{imply_text}
use Rattle.pim_imply.specs.declared.instr.ImplyInstr.{ImplyInstr}
use Rattle.pim_imply.specs.declared.instr.ImplyInstr.TheVariants.{False, Imp}

-- options

abbrev there : {A : Type 0} → A → Option A
there x = Some x

some_is : {A : Type 0} (x y : A) → there x ≡ there y → x ≡ y
some_is x y e = cc

mapped : {A B : Type 0} (f : A → B) (o : Option A) (y : B) → option_map f o ≡ Some y → (x : A) × (o ≡ Some x) × (f x ≡ y)
mapped f None y e = absurd cc
mapped f (Some x) y e = (x, refl, some_is (f x) y e)

bind_some : {A B : Type 0} (o : Option A) (f : A → Option B) (y : B) → option_and_then f o ≡ Some y → (x : A) × (o ≡ Some x) × (f x ≡ Some y)
bind_some None f y e = absurd cc
bind_some (Some x) f y e = (x, refl, e)

-- the first of two options, or the second
or_is : {A : Type 0} (a b : Option A) (y : A) → option_or a b ≡ Some y → (a ≡ Some y) ⊎ (b ≡ Some y)
or_is None b y e = inr e
or_is (Some x) b y e = inl e

-- a number is a label

tells : IsDigitsTest (λ ds. list_all is_digit ds ≡ true)
tells = search rules

folds : FoldsDigits digits_after
folds = search rules

own : IsNumeralModel (λ ds. list_all is_digit ds ≡ true) (digits_after 0)
own = numerals_by_fold (λ ds. list_all is_digit ds ≡ true) tells digits_after folds

digits_shown : (text : List ℕ) → list_all is_digit text ≡ true → (k d : ℕ) → k < length text → IsShown (get_or text k d)
digits_shown [] h k d l = absurd (omega arith)
digits_shown (b ∷ text) h zero d l =
    let parts = and_parts (is_digit b) (list_all is_digit text) h in
    let bounds = and_parts (leb 48 b) (leb b 57) parts.0 in
    let low : 48 ≤ b = leb-true _ _ bounds.0 in
    let high : b ≤ 57 = leb-true _ _ bounds.1 in
    (omega arith, λ e. omega arith)
digits_shown (b ∷ text) h (suc k) d l =
    digits_shown text (and_parts (is_digit b) (list_all is_digit text) h).1 k d (omega arith)

decimal_label : (n : ℕ) → n < 2 ^ 32 → IsLabel (decimal n)
decimal_label n h =
    let short = length-decimal-le 10 n (omega arith) (omega arith) (omega arith) in
    record {
      some = decimal_nonempty n (omega arith);
      short = omega arith;
      shown = digits_shown (decimal n) (digits_decimal own n (omega arith));
    }

-- the texts of instructions as lines of a number and of a port

abbrev imp_port : ℕ → ℕ → Port
imp_port p q = record { cell = p; label = decimal q }

false_text : (q : ℕ) → imply_text (False q) ≡ codes "false " ++ decimal q
false_text q = ap (λ (t : List ℕ). codes "false " ++ t) (append-nil (decimal q))

imp_text : (p q : ℕ) → imply_text (Imp p q) ≡ port_line (codes "imp ") (imp_port p q)
imp_text p q =
    ap (λ (t : List ℕ). codes "imp " ++ t)
    (ap (λ (t : List ℕ). decimal p ++ 32 ∷ t) (append-nil (decimal q))
    ∙ sym (append_assoc (decimal p) (codes " ") (decimal q)))

imp_has_line : (p q : ℕ) → HasLine (Imp p q) → HasPortLine (imp_port p q)
imp_has_line p q h = record { cell = h.0; label = decimal_label q h.1 }

module _ (one : OneLine) where
  false_is : (line : List ℕ) (i : ImplyInstr) → false_of line ≡ Some i → (line ≡ imply_text i) × HasLine i
  false_is line i e =
      let m = mapped (λ (q : ℕ). False q) (counted_of (codes "false ") line) i e in
      let spelled = one.counted (codes "false ") line m.0 m.1 in
      let line_is : line ≡ imply_text (False m.0) = spelled.0 ∙ sym (false_text m.0) in
      subst (λ (j : ImplyInstr). (line ≡ imply_text j) × HasLine j) m.2 (line_is, spelled.1)

  imp_is : (line : List ℕ) (i : ImplyInstr) → imp_of line ≡ Some i → (line ≡ imply_text i) × HasLine i
  imp_is line i e =
      let b = bind_some (port_of (codes "imp ") line) (λ port. option_map (λ q. Imp port.cell q) (plain_number port.label)) i e in
      let m = mapped (λ (q : ℕ). Imp b.0.cell q) (plain_number b.0.label) i b.2 in
      let port = one.port (codes "imp ") line b.0 b.1 in
      let number = one.counted [] b.0.label m.0 m.1 in
      let port_is : b.0 ≡ imp_port b.0.cell m.0 = ap (λ (t : List ℕ). let p : Port = record { cell = b.0.cell; label = t } in p) number.0 in
      let line_is : line ≡ imply_text (Imp b.0.cell m.0) = port.0 ∙ ap (port_line (codes "imp ")) port_is ∙ sym (imp_text b.0.cell m.0) in
      subst (λ (j : ImplyInstr). (line ≡ imply_text j) × HasLine j) m.2 (line_is, (port.1.cell, number.1))

  pub instr_is : (line : List ℕ) (i : ImplyInstr) → instr_of line ≡ Some i → (line ≡ imply_text i) × HasLine i
  instr_is line i e =
      elim (or_is (false_of line) (imp_of line) i e) [
        | inl h ↦ false_is line i h
        | inr h ↦ imp_is line i h
      ]

module _ (read : ReadLines) where
  read_false : (q : ℕ) → q < 2 ^ 32 → instr_of (codes "false " ++ decimal q) ≡ Some (False q)
  read_false q h = rw (read.counted (codes "false ") q h) refl

  read_imp : (p q : ℕ) → HasLine (Imp p q) → instr_of (port_line (codes "imp ") (imp_port p q)) ≡ Some (Imp p q)
  read_imp p q h =
      let port : port_of (codes "imp ") (port_line (codes "imp ") (imp_port p q)) ≡ Some (imp_port p q) = read.port (codes "imp ") (imp_port p q) (imp_has_line p q h) in
      let number : plain_number (decimal q) ≡ Some q = read.counted [] q h.1 in
      rw (port, number) refl

  pub instr_of-text : (i : ImplyInstr) → HasLine i → instr_of (imply_text i) ≡ Some i
  instr_of-text (False q) h = ap instr_of (false_text q) ∙ read_false q h
  instr_of-text (Imp p q) h = ap instr_of (imp_text p q) ∙ read_imp p q h

module _ (lack : LackNewlines) where
  pub lacks-instr : (i : ImplyInstr) → HasLine i → lacks 10 (imply_text i) ≡ true
  lacks-instr (False q) h = ap (lacks 10) (false_text q) ∙ lack.counted (codes "false ") q refl h
  lacks-instr (Imp p q) h = ap (lacks 10) (imp_text p q) ∙ lack.port (codes "imp ") (imp_port p q) refl (imp_has_line p q h)

-- the line of an instruction isn't empty
pub line_is_some : (i : ImplyInstr) → 1 ≤ length (imply_text i)
line_is_some (False q) = omega arith
line_is_some (Imp p q) = omega arith
