-- The lines of a target, of a number and of a port are read as what they spell, and no other lines are.
use Rattle.std.proofs.Common.{◌≡◌, ℕ, ◌+◌, ◌^◌, ◌<◌, Bool, true, false, cond, not, ltb, eqb, List, [], ◌∷◌, ◌++◌, length, Option, Some, None, codes, refl, ap, sym, ◌∙◌, subst, append_assoc, arith, take, drop}
use Rattle.std.specs.Fmt.{decimal}
use Rattle.std.specs.List.{position, position_or_len, onto_first, join_with_byte}
use Rattle.std.specs.Option.{option_and_then}
use Rattle.std.specs.Str.{bytes_eq}
use Rattle.std.proofs.lemmas.Bool.{and_parts, not-true, lt-ltb}
use Rattle.std.proofs.lemmas.List.{take_at, drop_at, take-append-drop, length-append}
use Rattle.std.proofs.lemmas.Option.{cond_some}
use Rattle.std.proofs.lemmas.Slice.Eq.{bytes_eq-Decides}
use Rattle.pim_io.specs.Names.{IsLabel}
use Rattle.pim_isa.specs.declared.target.Target.{Target}
use Rattle.pim_isa.specs.declared.target.Target.TheVariants.{Magic, Plim}
use Rattle.pim_isa.specs.declared.port.Port.{Port}
use Rattle.pim_text.specs.Fields.{is_space, fields, behind, plain_number, lacks}
use Rattle.pim_text.specs.LineForms.{target_of, counted_of, labelled, port_of}
use Rattle.pim_io.specs.Names.{is_label}
use Rattle.pim_text.specs.Spelled.{HasPortLine}
use Rattle.pim_text.specs.Text.{target_word, target_line, port_line}
use Rattle.pim_text.proofs.LabelLemmas.{label_test, is_label-from_IsLabel}
use Rattle.pim_text.proofs.NumberLemmas.{plain_number-decimal, word_is_decimal}
use Rattle.pim_text.proofs.FieldLemmas.{lacks-decimal, fields_cut, join-fields}
use Rattle.pim_text.proofs.OptionLemmas.{bind_some, some_is}

-- fronts

pub behind-append : (front rest : List ℕ) → behind front (front ++ rest) ≡ Some rest
behind-append front rest =
    let same : bytes_eq front front ≡ true = (bytes_eq-Decides front front).1 refl in
    rw (take_at front rest (length front) refl, drop_at front rest (length front) refl, same) refl

pub behind_is : (front line rest : List ℕ) → behind front line ≡ Some rest → line ≡ front ++ rest
behind_is front line rest e =
    let tests = cond_some (bytes_eq (take (length front) line) front) (drop (length front) line) rest e in
    let starts : take (length front) line ≡ front = (bytes_eq-Decides (take (length front) line) front).0 tests.0 in
    let ends : drop (length front) line ≡ rest = tests.1 in
    let whole = take-append-drop (length front) line in
    cc

-- a word and a number

pub counted_of-text : (word : List ℕ) (n : ℕ) → n < 2 ^ 32 → counted_of word (word ++ decimal n) ≡ Some n
counted_of-text word n h = rw (behind-append word (decimal n)) (plain_number-decimal n h)

pub counted_is : (word line : List ℕ) (n : ℕ) → counted_of word line ≡ Some n → (line ≡ word ++ decimal n) × (n < 2 ^ 32)
counted_is word line n e =
    let b = bind_some (behind word line) plain_number n e in
    let number = word_is_decimal b.0 n b.2 in
    (behind_is word line b.0 b.1 ∙ ap (λ (t : List ℕ). word ++ t) number.0, number.1)

-- a target

pub target_of-text : (target : Target) → target_of (target_line target) ≡ Some target
target_of-text Magic = refl
target_of-text Plim = refl

pub target_is : (line : List ℕ) (target : Target) → target_of line ≡ Some target → line ≡ target_line target
target_is line target e = by_word (bytes_eq line (codes "target magic")) (bytes_eq line (codes "target plim")) refl refl e
  where
    by_word : (magic plim : Bool) → bytes_eq line (codes "target magic") ≡ magic → bytes_eq line (codes "target plim") ≡ plim → cond magic (Some Magic) (cond plim (Some Plim) None) ≡ Some target → line ≡ target_line target
    by_word true plim p q e = subst (λ t. line ≡ codes "target " ++ target_word t) (some_is Magic target e) ((bytes_eq-Decides line (codes "target magic")).0 p)
    by_word false true p q e = subst (λ t. line ≡ codes "target " ++ target_word t) (some_is Plim target e) ((bytes_eq-Decides line (codes "target plim")).0 q)
    by_word false false p q e = absurd cc

-- a port

place-word : (word rest : List ℕ) → lacks 32 word ≡ true → position_or_len is_space (word ++ 32 ∷ rest) ≡ length word
place-word [] rest h = refl
place-word (b ∷ word) rest h =
    let parts = and_parts (not (eqb b 32)) (lacks 32 word) h in
    let other : eqb b 32 ≡ false = not-true _ parts.0 in
    let rest_is = place-word word rest parts.1 in
    rw (other, rest_is) (omega arith)

position-word : (word rest : List ℕ) → lacks 32 word ≡ true → position is_space (word ++ 32 ∷ rest) ≡ Some (length word)
position-word word rest h =
    let at = place-word word rest h in
    let within : ltb (length word) (length (word ++ 32 ∷ rest)) ≡ true = lt-ltb _ _ (omega (arith, length-append word (32 ∷ rest))) in
    rw (at, within) refl

has_field : (b : ℕ) (t : Bool) (fs : List (List ℕ)) → cond t ([] ∷ fs) (onto_first b fs) ≡ [] → ⊥
has_field b true fs e = cc
has_field b false [] e = cc
has_field b false (f ∷ fs) e = cc

-- each text has a field
some_field : (text : List ℕ) → fields text ≡ [] → ⊥
some_field [] e = cc
some_field (b ∷ text) e = has_field b (is_space b) (fields text) e

-- the first space stands between two parts
join-first : (word rest : List ℕ) (fs : List (List ℕ)) → fields rest ≡ fs → join_with_byte 32 (word ∷ fs) ≡ word ++ 32 ∷ rest
join-first word rest [] e = absurd (some_field rest e)
join-first word rest (f ∷ fs) e = ap (λ (t : List ℕ). word ++ 32 ∷ t) (ap (λ (gs : List (List ℕ)). join_with_byte 32 gs) (sym e) ∙ join-fields rest)

space_cuts : (text : List ℕ) (space : ℕ) → position is_space text ≡ Some space → text ≡ take space text ++ 32 ∷ drop (space + 1) text
space_cuts text space e =
    sym (join-fields text) ∙ ap (λ (fs : List (List ℕ)). join_with_byte 32 fs) (fields_cut text space e) ∙ join-first (take space text) (drop (space + 1) text) (fields (drop (space + 1) text)) refl

regroup_port : (word cell label : List ℕ) → ((word ++ cell) ++ codes " ") ++ label ≡ word ++ (cell ++ 32 ∷ label)
regroup_port word cell label = simp append_assoc

drop-past : (word rest : List ℕ) → drop (length word + 1) (word ++ 32 ∷ rest) ≡ rest
drop-past word rest = ap (λ (t : List ℕ). drop (length word + 1) t) (sym (append_assoc word (32 ∷ []) rest)) ∙ drop_at (word ++ 32 ∷ []) rest (length word + 1) (omega (arith, length-append word (32 ∷ [])))

pub port_of-text : (word : List ℕ) (port : Port) → HasPortLine port → port_of word (port_line word port) ≡ Some port
port_of-text word port h =
    let cell = decimal port.cell in
    let at : position is_space (cell ++ 32 ∷ port.label) ≡ Some (length cell) = position-word cell port.label (lacks-decimal 32 port.cell (omega arith) h.cell) in
    let text : behind word (port_line word port) ≡ Some (cell ++ 32 ∷ port.label) = ap (λ (t : List ℕ). behind word t) (regroup_port word cell port.label) ∙ behind-append word (cell ++ 32 ∷ port.label) in
    let number = plain_number-decimal port.cell h.cell in
    let label : is_label port.label ≡ true = is_label-from_IsLabel port.label h.label in
    rw (text, at, take_at cell (32 ∷ port.label) (length cell) refl, drop-past cell port.label, number, label) refl

labelled_is : (cell : ℕ) (text : List ℕ) (port : Port) → labelled cell text ≡ Some port → (cell ≡ port.cell) × (text ≡ port.label) × IsLabel text
labelled_is cell text port e =
    let made : Port = record { cell = cell; label = text } in
    let tests = cond_some (is_label text) made port e in
    (ap (λ (p : Port). p.cell) tests.1, ap (λ (p : Port). p.label) tests.1, label_test text tests.0)

pub port_is : (word line : List ℕ) (port : Port) → port_of word line ≡ Some port → (line ≡ port_line word port) × HasPortLine port
port_is word line port e =
    let a = bind_some (behind word line) (λ text. option_and_then (λ space. option_and_then (λ cell. labelled cell (drop (space + 1) text)) (plain_number (take space text))) (position is_space text)) port e in
    let text : List ℕ = a.0 in
    let b = bind_some (position is_space text) (λ space. option_and_then (λ cell. labelled cell (drop (space + 1) text)) (plain_number (take space text))) port a.2 in
    let space : ℕ = b.0 in
    let c = bind_some (plain_number (take space text)) (λ cell. labelled cell (drop (space + 1) text)) port b.2 in
    let number = word_is_decimal (take space text) c.0 c.1 in
    let label = labelled_is c.0 (drop (space + 1) text) port c.2 in
    let cell_is : take space text ≡ decimal port.cell = number.0 ∙ ap decimal label.0 in
    let text_is : text ≡ decimal port.cell ++ 32 ∷ port.label = space_cuts text space b.1 ∙ ap (λ (t : List ℕ). take space text ++ 32 ∷ t) label.1 ∙ ap (λ (t : List ℕ). t ++ 32 ∷ port.label) cell_is in (
      behind_is word line text a.1 ∙ ap (λ (t : List ℕ). word ++ t) text_is ∙ sym (regroup_port word (decimal port.cell) port.label),
      record { cell = subst (λ (n : ℕ). n < 2 ^ 32) label.0 number.1; label = subst IsLabel label.1 label.2 },
    )
