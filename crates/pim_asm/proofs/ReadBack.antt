-- A listing is assembled to the program that it lists.
use Rattle.std.proofs.Common.{◌≡◌, ℕ, suc, ◌+◌, ◌-◌, ◌*◌, ◌/◌, ◌%◌, ◌^◌, ◌<◌, ◌≤◌, Bool, true, false, not, cond, leb, ltb, eqb, ◌&&◌, List, [], ◌∷◌, ◌++◌, length, get_or, take, Option, Some, None, option_map, Result, Ok, codes, refl, ap, sym, ◌∙◌, subst, append_assoc, arith}
use Rattle.std.specs.Fmt.{decimal}
use Rattle.std.specs.List.{list_all, join_with_byte, AllByRecursion}
use Rattle.std.proofs.lemmas.Bool.{and_parts, not-true, ne_eqb, le-leb}
use Rattle.std.proofs.lemmas.Bool.Decides.{nat_tests}
use Rattle.std.proofs.lemmas.List.{append-nil, length-append, take_at}
use Rattle.std.proofs.lemmas.List.Folds.{list_all-append}
use Rattle.pim_io.specs.Lines.{LineView, lines_after, lines}
use Rattle.pim_io.specs.Names.{is_label}
use Rattle.pim_io.specs.Words.{is_digit, digits_after, number_of}
use Rattle.pim_isa.specs.declared.draft.TheConstants.{MAX_CELLS}
use Rattle.pim_isa.specs.declared.target.Target.{Target}
use Rattle.pim_isa.specs.declared.target.Target.TheVariants.{Magic, Plim}
use Rattle.pim_isa.specs.declared.port.Port.{Port}
use Rattle.pim_isa.specs.declared.instr.Ins.{Ins}
use Rattle.pim_isa.specs.declared.instr.Ins.TheVariants.{Two, Three, Four, One as Single}
use Rattle.pim_isa.specs.declared.instr.Instr.{Instr}
use Rattle.pim_isa.specs.declared.instr.Instr.TheVariants.{Init, Nor, Rm3}
use Rattle.pim_isa.specs.Programs.{ProgramView}
use Rattle.pim_isa.specs.Sound.{IsProgram}
use Rattle.pim_text.specs.Fields.{lacks}
use Rattle.pim_text.specs.LineLaws.{ReadLines, ProgramLines, LackNewlines, InstrWords, IsPlainWord, is_plain}
use Rattle.pim_text.specs.Spelled.{HasLine, HasPortLine, HasLines}
use Rattle.pim_text.specs.Text.{target_word, target_line, counted_text, instr_text, nor_words, instr_words}
use Rattle.pim_asm.specs.declared.fault.AsmFault.{AsmFault}
use Rattle.pim_asm.specs.Assembly.{Stage, Start, Aimed, Inside, begun, words_read, read_from, asm_of}
use Rattle.pim_asm.specs.Labels.{hex_value, hex_digit, is_clear, unescaped, Between, unquoted, label_of, escaped, escaped_text, quoted}
use Rattle.pim_asm.specs.Listing.{port_listing, ports_listing, instr_listing, instrs_listing, listing_of}
use Rattle.pim_asm.specs.Names.{begins_name, is_name, known_cell}
use Rattle.pim_asm.specs.Statements.{port_of}
use Rattle.pim_asm.specs.Words.{is_quote, ends_word, words_after, words}
use Rattle.pim_asm.specs.inner.Bytes.{AreBytes, HasByteLabel}
use Rattle.pim_asm.proofs.LabelLemmas.{unescaped-clear}
use Rattle.pim_asm.proofs.WordLemmas.{close_some}

-- words

plain_no_quote : (b : ℕ) → is_plain b ≡ true → is_quote b ≡ false
plain_no_quote b h = grind (arith, nat_tests)

plain_ends_nothing : (b : ℕ) → is_plain b ≡ true → ends_word false b ≡ false
plain_ends_nothing b h = grind (arith, nat_tests)

-- a run of plain bytes
words_after-plain : (run word rest : List ℕ) → list_all is_plain word ≡ true → words_after false run (word ++ rest) ≡ words_after false (run ++ word) rest
words_after-plain run [] rest h = rw append-nil refl
words_after-plain run (b ∷ word) rest h =
    let parts = and_parts (is_plain b) (list_all is_plain word) h in
    let more = words_after-plain (run ++ b ∷ []) word rest parts.1 in
    rw (plain_ends_nothing b parts.0, plain_no_quote b parts.0) (more ∙ ap (λ (t : List ℕ). words_after false t rest) (append_assoc run (b ∷ []) word))

-- a plain word and a space behind it
words-word : (word rest : List ℕ) → IsPlainWord word → words (word ++ 32 ∷ rest) ≡ word ∷ words rest
words-word word rest h = words_after-plain [] word (32 ∷ rest) h.plain ∙ close_some word (words rest) h.some

-- a plain word alone
words-last : (word : List ℕ) → IsPlainWord word → words word ≡ word ∷ []
words-last word h = ap words (sym (append-nil word)) ∙ words_after-plain [] word [] h.plain ∙ close_some word [] h.some

-- plain words, single spaces between them, and a comment
words-joined : (ws : List (List ℕ)) (comment : List ℕ) → 0 < length ws → AllByRecursion IsPlainWord ws → words (join_with_byte 32 ws ++ 32 ∷ 59 ∷ comment) ≡ ws
words-joined [] comment some h = absurd (omega arith)
words-joined (word ∷ []) comment some h = words-word word (59 ∷ comment) h.0
words-joined (word ∷ next ∷ others) comment some h =
    ap words (append_assoc word (32 ∷ join_with_byte 32 (next ∷ others)) (32 ∷ 59 ∷ comment)) ∙ words-word word (join_with_byte 32 (next ∷ others) ++ 32 ∷ 59 ∷ comment) h.0
    ∙ ap (λ (ws : List (List ℕ)). word ∷ ws) (words-joined (next ∷ others) comment (omega arith) h.1)

-- bytes within quotes
words_after-quoted : (run text rest : List ℕ) → lacks 34 text ≡ true → words_after true run (text ++ rest) ≡ words_after true (run ++ text) rest
words_after-quoted run [] rest h = rw append-nil refl
words_after-quoted run (b ∷ text) rest h =
    let parts = and_parts (not (eqb b 34)) (lacks 34 text) h in
    let other : eqb b 34 ≡ false = not-true _ parts.0 in
    let more = words_after-quoted (run ++ b ∷ []) text rest parts.1 in
    rw other (more ∙ ap (λ (t : List ℕ). words_after true t rest) (append_assoc run (b ∷ []) text))

words-quoted : (text : List ℕ) → lacks 34 text ≡ true → words (34 ∷ (text ++ 34 ∷ [])) ≡ (34 ∷ (text ++ 34 ∷ [])) ∷ []
words-quoted text h = words_after-quoted (34 ∷ []) text (34 ∷ []) h

-- labels

hex_high : (n : ℕ) → 48 ≤ hex_digit n
hex_high n = by (ltb n 10)
  where
    by : (t : Bool) → 48 ≤ cond t (n + 48) (n + 87)
    by true = omega arith
    by false = omega arith

hex_lacks : (c n : ℕ) → c < 48 → eqb (hex_digit n) c ≡ false
hex_lacks c n h = let high = hex_high n in ne_eqb (hex_digit n) c (λ e. omega arith)

-- the value of the digit of a value
hex_back : (n : ℕ) → n < 16 → hex_value (hex_digit n) ≡ Some n
hex_back n h = by (ltb n 10) refl
  where
    by : (t : Bool) → ltb n 10 ≡ t → hex_value (cond t (n + 48) (n + 87)) ≡ Some n
    by true e = grind (arith, nat_tests)
    by false e = grind (arith, nat_tests)

-- a byte below 48 that is clear nowhere stands nowhere in a written label
module _ (c : ℕ) (low : c < 48) (hidden : (b : ℕ) → is_clear b ≡ true → eqb b c ≡ false) where
  escaped_lacks : (b : ℕ) → lacks c (escaped b) ≡ true
  escaped_lacks b = by (is_clear b) refl
    where
      by : (t : Bool) → is_clear b ≡ t → lacks c (cond t (b ∷ []) (92 ∷ hex_digit (b / 16) ∷ hex_digit (b % 16) ∷ [])) ≡ true
      by true e = rw (hidden b e) refl
      by false e =
          let slash : eqb 92 c ≡ false = ne_eqb 92 c (λ e. omega arith) in
          rw (slash, hex_lacks c (b / 16) low, hex_lacks c (b % 16) low) refl

  escaped_text_lacks : (bytes : List ℕ) → lacks c (escaped_text bytes) ≡ true
  escaped_text_lacks [] = refl
  escaped_text_lacks (b ∷ bytes) = rw (list_all-append (λ x. not (eqb x c)) (escaped b) (escaped_text bytes), escaped_lacks b, escaped_text_lacks bytes) refl

clear_no_quote : (b : ℕ) → is_clear b ≡ true → eqb b 34 ≡ false
clear_no_quote b h = grind (arith, nat_tests)

clear_no_newline : (b : ℕ) → is_clear b ≡ true → eqb b 10 ≡ false
clear_no_newline b h = grind (arith, nat_tests)

-- what is written is read
unescaped-escaped : (b : ℕ) (rest : List ℕ) → b < 256 → unescaped Between (escaped b ++ rest) ≡ option_map (λ (more : List ℕ). b ∷ more) (unescaped Between rest)
unescaped-escaped b rest small = by (is_clear b) refl
  where
    by : (t : Bool) → is_clear b ≡ t → unescaped Between (cond t (b ∷ []) (92 ∷ hex_digit (b / 16) ∷ hex_digit (b % 16) ∷ []) ++ rest) ≡ option_map (λ (more : List ℕ). b ∷ more) (unescaped Between rest)
    by true e = unescaped-clear b rest e
    by false e =
        let high : hex_value (hex_digit (b / 16)) ≡ Some (b / 16) = hex_back (b / 16) (omega arith) in
        let last : hex_value (hex_digit (b % 16)) ≡ Some (b % 16) = hex_back (b % 16) (omega arith) in
        let whole : (b / 16) * 16 + b % 16 ≡ b = omega arith in
        rw (high, last, whole) refl

unescaped-text : (bytes : List ℕ) → AreBytes bytes → unescaped Between (escaped_text bytes) ≡ Some bytes
unescaped-text [] h = refl
unescaped-text (b ∷ bytes) h = unescaped-escaped b (escaped_text bytes) h.0 ∙ ap (λ (o : Option (List ℕ)). option_map (λ (more : List ℕ). b ∷ more) o) (unescaped-text bytes h.1)

get-last : (text : List ℕ) (b : ℕ) → get_or (text ++ b ∷ []) (length text) 0 ≡ b
get-last [] b = refl
get-last (x ∷ text) b = get-last text b

unquoted-text : (text : List ℕ) → unquoted (34 ∷ (text ++ 34 ∷ [])) ≡ Some text
unquoted-text text =
    let len : length (text ++ 34 ∷ []) ≡ length text + 1 = length-append text (34 ∷ []) in
    let long : leb 2 (length (34 ∷ (text ++ 34 ∷ []))) ≡ true = le-leb _ _ (omega arith) in
    let at : length (34 ∷ (text ++ 34 ∷ [])) - 1 ≡ suc (length text) = omega arith in
    let last : eqb (get_or (34 ∷ (text ++ 34 ∷ [])) (length (34 ∷ (text ++ 34 ∷ [])) - 1) 0) 34 ≡ true = ap (λ (k : ℕ). eqb (get_or (34 ∷ (text ++ 34 ∷ [])) k 0) 34) at ∙ ap (λ (b : ℕ). eqb b 34) (get-last text 34) in
    let inner : take ((length (34 ∷ (text ++ 34 ∷ [])) - 1) - 1) (text ++ 34 ∷ []) ≡ text = take_at text (34 ∷ []) ((length (34 ∷ (text ++ 34 ∷ [])) - 1) - 1) (omega arith) in
    rw (long, last) (ap (λ (t : List ℕ). let o : Option (List ℕ) = Some t in o) inner)

label_of-quoted : (label : List ℕ) → AreBytes label → is_label label ≡ true → label_of (34 ∷ (escaped_text label ++ 34 ∷ [])) ≡ Some label
label_of-quoted label small h = rw (unquoted-text (escaped_text label), unescaped-text label small, h) refl

-- numbers

number_digits : (a b c d : Bool) (value n : ℕ) → cond (a && b && c && d) (Some value) None ≡ Some n → (a ≡ true) × (c ≡ true)
number_digits true true true true value n e = (refl, refl)
number_digits false b c d value n e = absurd cc
number_digits true false c d value n e = absurd cc
number_digits true true false d value n e = absurd cc
number_digits true true true false value n e = absurd cc

digit_no_name : (b : ℕ) → is_digit b ≡ true → begins_name b ≡ false
digit_no_name b h = grind (arith, nat_tests)

-- a number is no name
number_no_name : (word : List ℕ) (n : ℕ) → number_of word ≡ Some n → is_name word ≡ false
unfolding number_of
number_no_name [] n e = refl
number_no_name (b ∷ word) n e =
    let tests = number_digits (ltb 0 (length (b ∷ word))) (leb (length (b ∷ word)) 10) (list_all is_digit (b ∷ word)) (ltb (digits_after 0 (b ∷ word)) (2 ^ 32)) (digits_after 0 (b ∷ word)) n e in
    let first = and_parts (is_digit b) (list_all is_digit word) tests.1 in
    rw (digit_no_name b first.0) refl

-- the bytes from the line `next` on, which begins at this place
abbrev read_at : ℕ → ℕ → ℕ → Stage → List ℕ → Result ProgramView AsmFault
read_at next number place s bytes = read_from next s (lines_after number place [] bytes)

-- a piece of text leads from one stage to another
pub record Passes (s : Stage) (piece : List ℕ) (next : Stage) : Type 0 where
  pub whole : (n number place : ℕ) (rest : List ℕ) → (m : ℕ) × (k : ℕ) × (p : ℕ) × (read_at n number place s (piece ++ rest) ≡ read_at m k p next rest)

passes_nil : (s : Stage) → Passes s [] s
passes_nil s = record { whole = λ n number place rest. (n, number, place, refl) }

passes_both : (s t u : Stage) (a b : List ℕ) → Passes s a t → Passes t b u → Passes s (a ++ b) u
passes_both s t u a b f g = record {
  whole = λ n number place rest.
      let first = f.whole n number place (b ++ rest) in
      let second = g.whole first.0 first.1 first.2 rest in
      (second.0, second.1, second.2, ap (λ (x : List ℕ). read_at n number place s x) (append_assoc a b rest) ∙ first.3 ∙ second.3);
}

-- the draft with these ports and instructions, without names
abbrev inside : ProgramView → Stage
inside d = Inside (record { draft = d; names = [] })

target_words : (target : Target) → words (target_line target) ≡ codes "target" ∷ target_word target ∷ []
target_words Magic = refl
target_words Plim = refl

target_right : (target : Target) (n : ℕ) → words_read Start n (codes "target" ∷ target_word target ∷ []) ≡ Ok (Aimed target)
target_right Magic n = refl
target_right Plim n = refl

regroup : (word cell label : List ℕ) → ((word ++ cell) ++ codes " ") ++ label ≡ word ++ (cell ++ 32 ∷ label)
regroup word cell label = simp append_assoc

lacks_both : (a b : List ℕ) → lacks 10 a ≡ true → lacks 10 b ≡ true → lacks 10 (a ++ b) ≡ true
lacks_both a b h k = rw (list_all-append (λ x. not (eqb x 10)) a b, h, k) refl

nor_some_words : (t : ℕ) (ins : Ins) → 0 < length (nor_words t ins)
nor_some_words t (Single a) = omega arith
nor_some_words t (Two a b) = omega arith
nor_some_words t (Three a b c) = omega arith
nor_some_words t (Four a b c d) = omega arith

some_words : (i : Instr) → 0 < length (instr_words i)
some_words (Init cells) = omega arith
some_words (Nor t ins) = nor_some_words t ins
some_words (Rm3 p q z) = omega arith

plain_word : (word : List ℕ) → 0 < length word → list_all is_plain word ≡ true → IsPlainWord word
plain_word word h k = record { some = h; plain = k }

module _ (read : ReadLines) (laws : InstrWords) (lack : LackNewlines) where
  line_passes : (s next : Stage) (line : List ℕ) → lacks 10 line ≡ true → ((n : ℕ) → words_read s n (words line) ≡ Ok next) → Passes s (line ++ codes "\n") next
  line_passes s next line h right = record {
    whole = λ n number place rest.
        let cut : lines_after number place [] ((line ++ codes "\n") ++ rest) ≡ record { number = number; start = place; text = line; ended = true } ∷ lines_after (number + 1) (place + length line + 1) [] rest =
        ap (λ (t : List ℕ). lines_after number place [] t) (append_assoc line (codes "\n") rest) ∙ lack.cut number place line rest h in
        (n + 1, number + 1, place + length line + 1, ap (λ (ls : List LineView). read_from n s ls) cut ∙ rw (right number) refl);
  }

  target_passes : (target : Target) → Passes Start (target_line target ++ codes "\n") (Aimed target)
  target_passes target = line_passes Start (Aimed target) (target_line target) (lack.target target) (λ n. ap (λ (ws : List (List ℕ)). words_read Start n ws) (target_words target) ∙ target_right target n)

  cells_pass : (target : Target) (cells : ℕ) → cells ≤ MAX_CELLS → Passes (Aimed target) ((codes "cells " ++ decimal cells) ++ codes "\n") (Inside (begun target cells))
  cells_pass target cells small =
      let below : cells < 2 ^ 32 = omega arith in
      let ws : words (codes "cells " ++ decimal cells) ≡ codes "cells" ∷ decimal cells ∷ [] = words-word (codes "cells") (decimal cells) (plain_word (codes "cells") (omega arith) refl) ∙ ap (λ (ws : List (List ℕ)). codes "cells" ∷ ws) (words-last (decimal cells) (laws.plain_number cells below)) in
      let number = laws.number cells below in
      let fits : leb cells MAX_CELLS ≡ true = le-leb _ _ small in
      line_passes (Aimed target) (Inside (begun target cells)) (codes "cells " ++ decimal cells) (lack.counted (codes "cells ") cells refl below)
      (λ n. ap (λ (v : List (List ℕ)). words_read (Aimed target) n v) ws ∙ rw (number, fits) refl)

  -- a cell that is written as a number, whatever names are defined
  cell_known : (names : List (List ℕ × ℕ)) (n : ℕ) → n < 2 ^ 32 → known_cell names (decimal n) ≡ Some n
  cell_known names n h =
      let number = laws.number n h in
      rw (number_no_name (decimal n) n number) number

  -- the words of a port, and what they say
  port_words : (word : List ℕ) (port : Port) → IsPlainWord word → HasPortLine port → words (word ++ 32 ∷ (decimal port.cell ++ 32 ∷ (34 ∷ (escaped_text port.label ++ 34 ∷ [])))) ≡ word ∷ decimal port.cell ∷ (34 ∷ (escaped_text port.label ++ 34 ∷ [])) ∷ []
  port_words word port h p =
      words-word word (decimal port.cell ++ 32 ∷ (34 ∷ (escaped_text port.label ++ 34 ∷ []))) h
      ∙ ap (λ (ws : List (List ℕ)). word ∷ ws) (words-word (decimal port.cell) (34 ∷ (escaped_text port.label ++ 34 ∷ [])) (laws.plain_number port.cell p.cell))
      ∙ ap (λ (ws : List (List ℕ)). word ∷ decimal port.cell ∷ ws) (words-quoted (escaped_text port.label) (escaped_text_lacks 34 (omega arith) clear_no_quote port.label))

  port_said : (names : List (List ℕ × ℕ)) (port : Port) → HasPortLine port → is_label port.label ≡ true → HasByteLabel port → port_of (known_cell names) (decimal port.cell ∷ (34 ∷ (escaped_text port.label ++ 34 ∷ [])) ∷ []) ≡ Some port
  port_said names port p label small = rw (cell_known names port.cell p.cell, label_of-quoted port.label small label) refl

  port_lacks : (word : List ℕ) (port : Port) → lacks 10 word ≡ true → HasPortLine port → lacks 10 (((word ++ decimal port.cell) ++ codes " ") ++ quoted port.label) ≡ true
  port_lacks word port h p =
      let text = escaped_text_lacks 10 (omega arith) clear_no_newline port.label in
      let closed : lacks 10 (escaped_text port.label ++ codes "\"") ≡ true = lacks_both (escaped_text port.label) (codes "\"") text refl in
      lacks_both ((word ++ decimal port.cell) ++ codes " ") (quoted port.label) (lacks_both (word ++ decimal port.cell) (codes " ") (lack.counted word port.cell h p.cell) refl) closed

  input_passes : (d : ProgramView) (port : Port) → HasPortLine port → HasByteLabel port → Passes (inside d) (port_listing (codes "input ") port) (inside (record d { inputs = d.inputs ++ port ∷ [] }))
  input_passes d port p small =
      let line = ((codes "input " ++ decimal port.cell) ++ codes " ") ++ quoted port.label in
      let ws : words line ≡ codes "input" ∷ decimal port.cell ∷ (34 ∷ (escaped_text port.label ++ 34 ∷ [])) ∷ [] = ap words (regroup (codes "input ") (decimal port.cell) (quoted port.label)) ∙ port_words (codes "input") port (plain_word (codes "input") (omega arith) refl) p in
      let said = port_said [] port p (read.label port.label p.label) small in
      line_passes (inside d) (inside (record d { inputs = d.inputs ++ port ∷ [] })) line (port_lacks (codes "input ") port refl p)
      (λ n. ap (λ (v : List (List ℕ)). words_read (inside d) n v) ws ∙ rw said refl)

  output_passes : (d : ProgramView) (port : Port) → HasPortLine port → HasByteLabel port → Passes (inside d) (port_listing (codes "output ") port) (inside (record d { outputs = d.outputs ++ port ∷ [] }))
  output_passes d port p small =
      let line = ((codes "output " ++ decimal port.cell) ++ codes " ") ++ quoted port.label in
      let ws : words line ≡ codes "output" ∷ decimal port.cell ∷ (34 ∷ (escaped_text port.label ++ 34 ∷ [])) ∷ [] = ap words (regroup (codes "output ") (decimal port.cell) (quoted port.label)) ∙ port_words (codes "output") port (plain_word (codes "output") (omega arith) refl) p in
      let said = port_said [] port p (read.label port.label p.label) small in
      line_passes (inside d) (inside (record d { outputs = d.outputs ++ port ∷ [] })) line (port_lacks (codes "output ") port refl p)
      (λ n. ap (λ (v : List (List ℕ)). words_read (inside d) n v) ws ∙ rw said refl)

  inputs_pass : (d : ProgramView) (ports : List Port) → AllByRecursion HasPortLine ports → AllByRecursion HasByteLabel ports → Passes (inside d) (ports_listing (codes "input ") ports) (inside (record d { inputs = d.inputs ++ ports }))
  inputs_pass d [] h k = subst (λ (ps : List Port). Passes (inside d) [] (inside (record d { inputs = ps }))) (sym (append-nil d.inputs)) (passes_nil (inside d))
  inputs_pass d (port ∷ ports) h k =
      let e = record d { inputs = d.inputs ++ port ∷ [] } in
      let others : Passes (inside e) (ports_listing (codes "input ") ports) (inside (record d { inputs = (d.inputs ++ port ∷ []) ++ ports })) = inputs_pass e ports h.1 k.1 in
      let both = passes_both (inside d) (inside e) (inside (record d { inputs = (d.inputs ++ port ∷ []) ++ ports })) (port_listing (codes "input ") port) (ports_listing (codes "input ") ports) (input_passes d port h.0 k.0) others in
      subst (λ (ps : List Port). Passes (inside d) (ports_listing (codes "input ") (port ∷ ports)) (inside (record d { inputs = ps }))) (append_assoc d.inputs (port ∷ []) ports) both

  outputs_pass : (d : ProgramView) (ports : List Port) → AllByRecursion HasPortLine ports → AllByRecursion HasByteLabel ports → Passes (inside d) (ports_listing (codes "output ") ports) (inside (record d { outputs = d.outputs ++ ports }))
  outputs_pass d [] h k = subst (λ (ps : List Port). Passes (inside d) [] (inside (record d { outputs = ps }))) (sym (append-nil d.outputs)) (passes_nil (inside d))
  outputs_pass d (port ∷ ports) h k =
      let e = record d { outputs = d.outputs ++ port ∷ [] } in
      let others : Passes (inside e) (ports_listing (codes "output ") ports) (inside (record d { outputs = (d.outputs ++ port ∷ []) ++ ports })) = outputs_pass e ports h.1 k.1 in
      let both = passes_both (inside d) (inside e) (inside (record d { outputs = (d.outputs ++ port ∷ []) ++ ports })) (port_listing (codes "output ") port) (ports_listing (codes "output ") ports) (output_passes d port h.0 k.0) others in
      subst (λ (ps : List Port). Passes (inside d) (ports_listing (codes "output ") (port ∷ ports)) (inside (record d { outputs = ps }))) (append_assoc d.outputs (port ∷ []) ports) both

  -- the words of an instruction, and what they say

  nor_right : (d : ProgramView) (t : ℕ) (ins : Ins) (n : ℕ) → HasLine (Nor t ins) → words_read (inside d) n (nor_words t ins) ≡ Ok (inside (record d { instrs = d.instrs ++ Nor t ins ∷ [] }))
  nor_right d t (Single a) n h = let said = laws.read (known_cell []) (Nor t (Single a)) (cell_known []) h in rw said refl
  nor_right d t (Two a b) n h = let said = laws.read (known_cell []) (Nor t (Two a b)) (cell_known []) h in rw said refl
  nor_right d t (Three a b c) n h = let said = laws.read (known_cell []) (Nor t (Three a b c)) (cell_known []) h in rw said refl
  nor_right d t (Four a b c e) n h = let said = laws.read (known_cell []) (Nor t (Four a b c e)) (cell_known []) h in rw said refl

  instr_right : (d : ProgramView) (i : Instr) (n : ℕ) → HasLine i → words_read (inside d) n (instr_words i) ≡ Ok (inside (record d { instrs = d.instrs ++ i ∷ [] }))
  instr_right d (Init cells) n h = let said = laws.read (known_cell []) (Init cells) (cell_known []) h in rw said refl
  instr_right d (Nor t ins) n h = nor_right d t ins n h
  instr_right d (Rm3 p q z) n h = let said = laws.read (known_cell []) (Rm3 p q z) (cell_known []) h in rw said refl

  instr_passes : (k : ℕ) (d : ProgramView) (i : Instr) → k < 2 ^ 32 → HasLine i → Passes (inside d) (instr_listing k i) (inside (record d { instrs = d.instrs ++ i ∷ [] }))
  instr_passes k d i small h =
      let line = (instr_text i ++ codes " ; ") ++ decimal k in
      let comment = 32 ∷ decimal k in
      let ws : words line ≡ instr_words i = ap words (append_assoc (instr_text i) (codes " ; ") (decimal k)) ∙ ap (λ (t : List ℕ). words (t ++ 32 ∷ 59 ∷ comment)) (laws.joined i) ∙ words-joined (instr_words i) comment (some_words i) (laws.plain i h) in
      line_passes (inside d) (inside (record d { instrs = d.instrs ++ i ∷ [] })) line (lack.counted (instr_text i ++ codes " ; ") k (lacks_both (instr_text i) (codes " ; ") (lack.instr i h) refl) small)
      (λ n. ap (λ (v : List (List ℕ)). words_read (inside d) n v) ws ∙ instr_right d i n h)

  instrs_pass : (k : ℕ) (d : ProgramView) (instrs : List Instr) → k + length instrs < 2 ^ 32 → AllByRecursion HasLine instrs → Passes (inside d) (instrs_listing k instrs) (inside (record d { instrs = d.instrs ++ instrs }))
  instrs_pass k d [] small h = subst (λ (is : List Instr). Passes (inside d) [] (inside (record d { instrs = is }))) (sym (append-nil d.instrs)) (passes_nil (inside d))
  instrs_pass k d (i ∷ instrs) small h =
      let e = record d { instrs = d.instrs ++ i ∷ [] } in
      let others : Passes (inside e) (instrs_listing (k + 1) instrs) (inside (record d { instrs = (d.instrs ++ i ∷ []) ++ instrs })) = instrs_pass (k + 1) e instrs (omega arith) h.1 in
      let both = passes_both (inside d) (inside e) (inside (record d { instrs = (d.instrs ++ i ∷ []) ++ instrs })) (instr_listing k i) (instrs_listing (k + 1) instrs) (instr_passes k d i (omega arith) h.0) others in
      subst (λ (is : List Instr). Passes (inside d) (instrs_listing k (i ∷ instrs)) (inside (record d { instrs = is }))) (append_assoc d.instrs (i ∷ []) instrs) both

  -- the whole listing

  head_passes : (target : Target) (cells : ℕ) → cells ≤ MAX_CELLS → Passes Start (target_line target ++ counted_text (codes "\ncells ") cells) (Inside (begun target cells))
  head_passes target cells small =
      let counted = (codes "cells " ++ decimal cells) ++ codes "\n" in
      let both : Passes Start ((target_line target ++ codes "\n") ++ counted) (Inside (begun target cells)) = passes_both Start (Aimed target) (Inside (begun target cells)) (target_line target ++ codes "\n") counted (target_passes target) (cells_pass target cells small) in
      subst (λ (t : List ℕ). Passes Start t (Inside (begun target cells))) (append_assoc (target_line target) (codes "\n") counted) both

  listing_passes : (p : ProgramView) → IsProgram p → HasLines p → AllByRecursion HasByteLabel p.inputs → AllByRecursion HasByteLabel p.outputs → Passes Start (listing_of p) (inside p)
  listing_passes p h lines ins outs =
      let d0 = (begun p.target p.cells).draft in
      let d1 = record d0 { inputs = p.inputs } in
      let d2 = record d1 { outputs = p.outputs } in
      let t1 = target_line p.target ++ counted_text (codes "\ncells ") p.cells in
      let t2 = t1 ++ ports_listing (codes "input ") p.inputs in
      let t3 = t2 ++ ports_listing (codes "output ") p.outputs in
      let few = h.few_instrs in
      let p2 : Passes Start t2 (inside d1) = passes_both Start (inside d0) (inside d1) t1 (ports_listing (codes "input ") p.inputs) (head_passes p.target p.cells h.small) (inputs_pass d0 p.inputs lines.inputs ins) in
      let p3 : Passes Start t3 (inside d2) = passes_both Start (inside d1) (inside d2) t2 (ports_listing (codes "output ") p.outputs) p2 (outputs_pass d1 p.outputs lines.outputs outs) in
      passes_both Start (inside d2) (inside p) t3 (instrs_listing 0 p.instrs) p3 (instrs_pass 0 d2 p.instrs (omega arith) lines.instrs)

pub asm_of-listing : (read : ReadLines) (laws : InstrWords) (lack : LackNewlines) (has : ProgramLines) (p : ProgramView) → IsProgram p → AllByRecursion HasByteLabel p.inputs → AllByRecursion HasByteLabel p.outputs → asm_of (listing_of p) ≡ Ok p
unfolding asm_of
asm_of-listing read laws lack has p h ins outs =
    let all = (listing_passes read laws lack p h (has.has p h) ins outs).whole 1 1 0 [] in
    let draft : read_from 1 Start (lines (listing_of p)) ≡ Ok p = ap (λ (t : List ℕ). read_at 1 1 0 Start t) (sym (append-nil (listing_of p))) ∙ all.3 in
    let faultless = h.faultless in
    rw (draft, faultless) refl
