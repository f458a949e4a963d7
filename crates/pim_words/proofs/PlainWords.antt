-- Plain words are taken, and read as they say.
use Rattle.std.proofs.Common.{◌≡◌, ◌∙◌, ◌≤◌, ◌+◌, ◌-◌, ◌++◌, ℕ, Bool, List, [], ◌∷◌, refl, sym, ap, subst, false, true, zero, suc, inl, inr, arith, codes, pos}
use Rattle.std.proofs.Common.{ap₂, cond, ◌==◌}
use Rattle.std.specs.Prelude.{Err, FitsSigned, IfOk, MatchResult, Ok, Result, Some, if◌then◌else◌, neg_ℤ, not, option_map, ◌≤ℤ◌}
use Rattle.std.specs.Int.{w64}
use Rattle.std.specs.Fmt.{decimal}
use Rattle.std.specs.Str.Parse.{IsNumeral, digits_value, signed_digits_value, without_leading_plus, without_leading_sign}
use Rattle.std.proofs.lemmas.Bool.{ne_eqb}
use Rattle.std.proofs.lemmas.Int.{ints}
use Rattle.std.proofs.lemmas.Str.Parse.{digit_from_value}
use Rattle.std.proofs.lemmas.Fmt.{decimal_is_IsNumeral}
use Rattle.clap.specs.Faults.{fault_of}
use Rattle.clap.specs.Kinds.{Kinds, or_else, value_kinds}
use Rattle.clap.specs.Values.{IsSignedIn, refused_kind}
use Rattle.clap.specs.Walk.{is_empty}
use Rattle.clap.specs.Words.{Text, first_of, matches_of, one_of}
use Rattle.clap.specs.declared.builder.value_parser.ValueParser.TheVariants as vp
use Rattle.clap.proofs.ValueTestLemmas.{Accepts-accepts}
use Rattle.clap.proofs.OnLiterals.{clap_on_literals}
use Rattle.pim_words.proofs.Numbers.{no_plus}
use Rattle.pim_words.specs.declared.limits.TheConstants.{MAX_CELLS}
use Rattle.pim_words.specs.Lines.{bench_line, cells_line, compile_line}
use Rattle.pim_words.specs.Plain.{IsPlain, IsPlainExplain, IsPlainFill, IsTaken, cells_words, compile_words, convert_words, file_words, fill_words, level_words}
use Rattle.pim_words.specs.Reading.{cells_of, command_said, is_usage, level_of, number_of, refuses, target_of}
use Rattle.pim_words.specs.declared.command.Command.{Command}
use Rattle.pim_words.specs.declared.command.Command.TheVariants as commands
use Rattle.pim_words.specs.declared.command.FillWord.{FillWord}
use Rattle.pim_words.specs.declared.fault.WordsFault.{WordsFault}
use Rattle.pim_words.specs.declared.fault.WordsFault.TheVariants.{NoMemory, Usage}
use Rattle.pim_words.specs.declared.command.FillWord.TheVariants.{Ones, Zeros}
use Rattle.pim_words.specs.declared.command.FormWord.{FormWord}
use Rattle.pim_words.specs.declared.command.FormWord.TheVariants as forms
use Rattle.pim_words.specs.declared.command.LevelWord.{LevelWord}
use Rattle.pim_words.specs.declared.command.LevelWord.TheVariants.{One, Two, Zero}
use Rattle.pim_words.specs.declared.command.TargetWord.{TargetWord}
use Rattle.pim_words.specs.declared.command.TargetWord.TheVariants.{Magic, Plim}

-- ---- numbers

abbrev number_kinds : ℕ → ℕ → Text → Kinds
number_kinds low high text = value_kinds false (vp.Signed (pos low) (pos high)) text

module _ (low high : ℕ) (few : high ≤ MAX_CELLS) where
  signed_from : (text : Text) → IsNumeral 10 text → low ≤ digits_value 10 text → digits_value 10 text ≤ high → IsSignedIn (pos low) (pos high) text
  signed_from [] numeral large small = absurd (omega (arith, numeral.0))
  signed_from (d ∷ ds) numeral large small =
      let minus : (d == 45) ≡ false = ne_eqb _ _ (λ e. omega (arith, digit_from_value d numeral.1.0)) in
      let sign : without_leading_sign (d ∷ ds) ≡ d ∷ ds = ap (λ b. cond b ds (without_leading_plus (d ∷ ds))) minus ∙ no_plus (d ∷ ds) numeral in
      let value : signed_digits_value 10 (d ∷ ds) ≡ pos (digits_value 10 (d ∷ ds)) =
      ap (λ b. cond b (neg_ℤ (pos (digits_value 10 (without_leading_sign (d ∷ ds))))) (pos (digits_value 10 (without_leading_sign (d ∷ ds))))) minus
      ∙ ap (λ t. pos (digits_value 10 t)) sign in (
        subst (IsNumeral 10) (sym sign) numeral,
        subst (λ z. FitsSigned w64 z) (sym value) (record { sfits = omega arith }),
        subst (λ z. pos low ≤ℤ z) (sym value) (omega (arith, ints)),
        subst (λ z. z ≤ℤ pos high) (sym value) (omega (arith, ints)),
      )

  number_taken : (text : Text) → IsNumeral 10 text → low ≤ digits_value 10 text → digits_value 10 text ≤ high → number_kinds low high text ≡ []
  number_taken text numeral large small =
      let parser = vp.Signed (pos low) (pos high) in
      ap (λ b. if b then [] else refused_kind parser ∷ []) (Accepts-accepts false parser text (signed_from text numeral large small))

  -- what is so of each number whose text begins with a digit is so of each number
  by_number : (P : Text → Type 0) → ((k : ℕ) → k ≤ 9 → (ds : Text) → number_kinds low high ((48 + k) ∷ ds) ≡ [] → P ((48 + k) ∷ ds))
      → (n : ℕ) → low ≤ n → n ≤ high → P (decimal n)
  by_number P digit n large small =
      let number = decimal_is_IsNumeral n (omega (arith, few)) in
      go (decimal n) number.0 (subst (λ m. low ≤ m) (sym number.1) large) (subst (λ m. m ≤ high) (sym number.1) small)
    where
      go : (text : Text) → IsNumeral 10 text → low ≤ digits_value 10 text → digits_value 10 text ≤ high → P text
      go [] numeral large small = absurd (omega (arith, numeral.0))
      go (d ∷ ds) numeral large small =
          let range = digit_from_value d numeral.1.0 in
          let is : 48 + (d - 48) ≡ d = omega (arith, range) in
          subst (λ x. number_kinds low high (x ∷ ds) ≡ [] → P (x ∷ ds)) is (digit (d - 48) (omega (arith, range)) ds) (number_taken (d ∷ ds) numeral large small)

number_same : (n : ℕ) → n ≤ MAX_CELLS → number_of (decimal n) ≡ n
number_same n few =
    let number = decimal_is_IsNumeral n (omega (arith, few)) in
    ap (digits_value 10) (no_plus (decimal n) number.0) ∙ number.1

-- what is so of the ten digits, one by one: so each word computes
by_digit : (P : ℕ → Type 0) → P 48 → P 49 → P 50 → P 51 → P 52 → P 53 → P 54 → P 55 → P 56 → P 57 → (k : ℕ) → k ≤ 9 → P (48 + k)
by_digit P p0 p1 p2 p3 p4 p5 p6 p7 p8 p9 zero h = p0
by_digit P p0 p1 p2 p3 p4 p5 p6 p7 p8 p9 (suc zero) h = p1
by_digit P p0 p1 p2 p3 p4 p5 p6 p7 p8 p9 (suc (suc zero)) h = p2
by_digit P p0 p1 p2 p3 p4 p5 p6 p7 p8 p9 (suc (suc (suc zero))) h = p3
by_digit P p0 p1 p2 p3 p4 p5 p6 p7 p8 p9 (suc (suc (suc (suc zero)))) h = p4
by_digit P p0 p1 p2 p3 p4 p5 p6 p7 p8 p9 (suc (suc (suc (suc (suc zero))))) h = p5
by_digit P p0 p1 p2 p3 p4 p5 p6 p7 p8 p9 (suc (suc (suc (suc (suc (suc zero)))))) h = p6
by_digit P p0 p1 p2 p3 p4 p5 p6 p7 p8 p9 (suc (suc (suc (suc (suc (suc (suc zero))))))) h = p7
by_digit P p0 p1 p2 p3 p4 p5 p6 p7 p8 p9 (suc (suc (suc (suc (suc (suc (suc (suc zero)))))))) h = p8
by_digit P p0 p1 p2 p3 p4 p5 p6 p7 p8 p9 (suc (suc (suc (suc (suc (suc (suc (suc (suc zero))))))))) h = p9
by_digit P p0 p1 p2 p3 p4 p5 p6 p7 p8 p9 (suc (suc (suc (suc (suc (suc (suc (suc (suc (suc k)))))))))) h = absurd (omega arith)

abbrev at_end : Kinds → Kinds
at_end k = or_else (or_else k []) []

-- the same where an option follows
abbrev before_option : Kinds → Kinds
before_option k = or_else (or_else (or_else (or_else k []) []) []) []

-- ---- `compile`

-- the line refuses no word, and reads this target, this level, and this text after `--cells`
abbrev Takes : TargetWord → LevelWord → List Text → Text → Type 0
Takes target level words text = (fault_of compile_line words ≡ []) × (target_of (first_of (codes "target") (matches_of compile_line words)) ≡ target)
    × (level_of (first_of (codes "level") (matches_of compile_line words)) ≡ level) × (one_of (codes "cells") (matches_of compile_line words) ≡ Some text)

-- without `--level`, and with it at each level
abbrev TakesAll : TargetWord → Text → Type 0
TakesAll target text = Takes target Zero (compile_words target text) text × Takes target Zero (compile_words target text ++ level_words Zero) text
    × Takes target One (compile_words target text ++ level_words One) text × Takes target Two (compile_words target text ++ level_words Two) text

abbrev TakesAt : TargetWord → ℕ → Type 0
TakesAt target d = (ds : Text) → number_kinds 0 MAX_CELLS (d ∷ ds) ≡ [] → TakesAll target (d ∷ ds)

compile_digit : (target : TargetWord) (k : ℕ) → k ≤ 9 → TakesAt target (48 + k)
unfolding clap_on_literals
compile_digit Magic = by_digit (TakesAt Magic)
    (λ ds ok. ((ap at_end ok, refl, refl, refl), (ap before_option ok, refl, refl, refl), (ap before_option ok, refl, refl, refl), (ap before_option ok, refl, refl, refl)))
    (λ ds ok. ((ap at_end ok, refl, refl, refl), (ap before_option ok, refl, refl, refl), (ap before_option ok, refl, refl, refl), (ap before_option ok, refl, refl, refl)))
    (λ ds ok. ((ap at_end ok, refl, refl, refl), (ap before_option ok, refl, refl, refl), (ap before_option ok, refl, refl, refl), (ap before_option ok, refl, refl, refl)))
    (λ ds ok. ((ap at_end ok, refl, refl, refl), (ap before_option ok, refl, refl, refl), (ap before_option ok, refl, refl, refl), (ap before_option ok, refl, refl, refl)))
    (λ ds ok. ((ap at_end ok, refl, refl, refl), (ap before_option ok, refl, refl, refl), (ap before_option ok, refl, refl, refl), (ap before_option ok, refl, refl, refl)))
    (λ ds ok. ((ap at_end ok, refl, refl, refl), (ap before_option ok, refl, refl, refl), (ap before_option ok, refl, refl, refl), (ap before_option ok, refl, refl, refl)))
    (λ ds ok. ((ap at_end ok, refl, refl, refl), (ap before_option ok, refl, refl, refl), (ap before_option ok, refl, refl, refl), (ap before_option ok, refl, refl, refl)))
    (λ ds ok. ((ap at_end ok, refl, refl, refl), (ap before_option ok, refl, refl, refl), (ap before_option ok, refl, refl, refl), (ap before_option ok, refl, refl, refl)))
    (λ ds ok. ((ap at_end ok, refl, refl, refl), (ap before_option ok, refl, refl, refl), (ap before_option ok, refl, refl, refl), (ap before_option ok, refl, refl, refl)))
    (λ ds ok. ((ap at_end ok, refl, refl, refl), (ap before_option ok, refl, refl, refl), (ap before_option ok, refl, refl, refl), (ap before_option ok, refl, refl, refl)))
compile_digit Plim = by_digit (TakesAt Plim)
    (λ ds ok. ((ap at_end ok, refl, refl, refl), (ap before_option ok, refl, refl, refl), (ap before_option ok, refl, refl, refl), (ap before_option ok, refl, refl, refl)))
    (λ ds ok. ((ap at_end ok, refl, refl, refl), (ap before_option ok, refl, refl, refl), (ap before_option ok, refl, refl, refl), (ap before_option ok, refl, refl, refl)))
    (λ ds ok. ((ap at_end ok, refl, refl, refl), (ap before_option ok, refl, refl, refl), (ap before_option ok, refl, refl, refl), (ap before_option ok, refl, refl, refl)))
    (λ ds ok. ((ap at_end ok, refl, refl, refl), (ap before_option ok, refl, refl, refl), (ap before_option ok, refl, refl, refl), (ap before_option ok, refl, refl, refl)))
    (λ ds ok. ((ap at_end ok, refl, refl, refl), (ap before_option ok, refl, refl, refl), (ap before_option ok, refl, refl, refl), (ap before_option ok, refl, refl, refl)))
    (λ ds ok. ((ap at_end ok, refl, refl, refl), (ap before_option ok, refl, refl, refl), (ap before_option ok, refl, refl, refl), (ap before_option ok, refl, refl, refl)))
    (λ ds ok. ((ap at_end ok, refl, refl, refl), (ap before_option ok, refl, refl, refl), (ap before_option ok, refl, refl, refl), (ap before_option ok, refl, refl, refl)))
    (λ ds ok. ((ap at_end ok, refl, refl, refl), (ap before_option ok, refl, refl, refl), (ap before_option ok, refl, refl, refl), (ap before_option ok, refl, refl, refl)))
    (λ ds ok. ((ap at_end ok, refl, refl, refl), (ap before_option ok, refl, refl, refl), (ap before_option ok, refl, refl, refl), (ap before_option ok, refl, refl, refl)))
    (λ ds ok. ((ap at_end ok, refl, refl, refl), (ap before_option ok, refl, refl, refl), (ap before_option ok, refl, refl, refl), (ap before_option ok, refl, refl, refl)))

with_level : (target : TargetWord) (level : LevelWord) (text : Text) → TakesAll target text → Takes target level (compile_words target text ++ level_words level) text
with_level target Zero text all = all.1
with_level target One text all = all.2
with_level target Two text all = all.3

-- words that begin with `compile`, as the first of `compile_words`, come to what the line reads of them
compile_said : (target : TargetWord) (level : LevelWord) (n : ℕ) (rest : List Text) → n ≤ MAX_CELLS
    → Takes target level (compile_words target (decimal n) ++ rest) (decimal n) → IsTaken (commands.Compile target level n) (compile_words target (decimal n) ++ rest)
compile_said target level n rest few takes = (
  ap (λ k. not (is_empty k)) takes.0,
  ap₂ (λ t l. option_map (commands.Compile t l) (option_map number_of (one_of (codes "cells") (matches_of compile_line (compile_words target (decimal n) ++ rest)))))
      takes.1 takes.2
      ∙ ap (λ o. option_map (commands.Compile target level) (option_map number_of o)) takes.3 ∙ ap (λ m. Some (commands.Compile target level m)) (number_same n few),
)

compile_taken : (target : TargetWord) (level : LevelWord) (n : ℕ) (words : List Text) → IsPlain (commands.Compile target level n) words → IsTaken (commands.Compile target level n) words
compile_taken target level n words plain =
    let all = by_number 0 MAX_CELLS (omega arith) (TakesAll target) (compile_digit target) n (omega arith) plain.0 in
    elim plain.1 [
      | inl way ↦ subst (λ l. IsTaken (commands.Compile target l n) words) (sym way.0)
          (subst (IsTaken (commands.Compile target Zero n)) (sym way.1) (compile_said target Zero n [] plain.0 all.0))
      | inr way ↦ subst (IsTaken (commands.Compile target level n)) (sym way) (compile_said target level n (level_words level) plain.0 (with_level target level (decimal n) all))
    ]

-- ---- a command whose one option is `--cells`

abbrev CellsTaken : Text → Text → Type 0
CellsTaken name text = (fault_of (cells_line name) (name ∷ cells_words text) ≡ []) × (one_of (codes "cells") (matches_of (cells_line name) (name ∷ cells_words text)) ≡ Some text)

cells_digit : (name : Text) (k : ℕ) → k ≤ 9 → (ds : Text) → number_kinds 0 MAX_CELLS ((48 + k) ∷ ds) ≡ [] → CellsTaken name ((48 + k) ∷ ds)
unfolding clap_on_literals
cells_digit name = by_digit (λ d. (ds : Text) → number_kinds 0 MAX_CELLS (d ∷ ds) ≡ [] → CellsTaken name (d ∷ ds))
    (λ ds ok. (ap at_end ok, refl))
    (λ ds ok. (ap at_end ok, refl))
    (λ ds ok. (ap at_end ok, refl))
    (λ ds ok. (ap at_end ok, refl))
    (λ ds ok. (ap at_end ok, refl))
    (λ ds ok. (ap at_end ok, refl))
    (λ ds ok. (ap at_end ok, refl))
    (λ ds ok. (ap at_end ok, refl))
    (λ ds ok. (ap at_end ok, refl))
    (λ ds ok. (ap at_end ok, refl))

-- so words whose command line is this one come to their command
cells_taken : (name : Text) (command : ℕ → Command) (n : ℕ) (words : List Text) → is_usage words ≡ refuses (name ∷ cells_words (decimal n)) (cells_line name)
    → command_said words ≡ option_map command (cells_of (matches_of (cells_line name) (name ∷ cells_words (decimal n)))) → n ≤ MAX_CELLS → IsTaken (command n) words
cells_taken name command n words usage said few =
    let takes = by_number 0 MAX_CELLS (omega arith) (CellsTaken name) (cells_digit name) n (omega arith) few in (
      usage ∙ ap (λ k. not (is_empty k)) takes.0,
      said ∙ ap (λ o. option_map command (option_map number_of o)) takes.1 ∙ ap (λ m. Some (command m)) (number_same n few),
    )

imply_taken : (n : ℕ) → n ≤ MAX_CELLS → IsTaken (commands.Imply n) (codes "imply" ∷ cells_words (decimal n))
imply_taken n few = cells_taken (codes "imply") commands.Imply n (codes "imply" ∷ cells_words (decimal n)) refl refl few

share_taken : (n : ℕ) (file : Text) → n ≤ MAX_CELLS → IsTaken (commands.Share n) (file_words (codes "share") file ++ cells_words (decimal n))
share_taken n file few = cells_taken (codes "share") commands.Share n (file_words (codes "share") file ++ cells_words (decimal n)) refl refl few

-- ---- `bench`

abbrev BitsTaken : Text → Type 0
BitsTaken text = (fault_of bench_line (codes "bench" ∷ text ∷ []) ≡ []) × (one_of (codes "bits") (matches_of bench_line (codes "bench" ∷ text ∷ [])) ≡ Some text)

bench_digit : (k : ℕ) → k ≤ 9 → (ds : Text) → number_kinds 1 64 ((48 + k) ∷ ds) ≡ [] → BitsTaken ((48 + k) ∷ ds)
unfolding clap_on_literals
bench_digit = by_digit (λ d. (ds : Text) → number_kinds 1 64 (d ∷ ds) ≡ [] → BitsTaken (d ∷ ds))
    (λ ds ok. (ap at_end ok, refl))
    (λ ds ok. (ap at_end ok, refl))
    (λ ds ok. (ap at_end ok, refl))
    (λ ds ok. (ap at_end ok, refl))
    (λ ds ok. (ap at_end ok, refl))
    (λ ds ok. (ap at_end ok, refl))
    (λ ds ok. (ap at_end ok, refl))
    (λ ds ok. (ap at_end ok, refl))
    (λ ds ok. (ap at_end ok, refl))
    (λ ds ok. (ap at_end ok, refl))

bench_taken : (n : ℕ) → 1 ≤ n → n ≤ 64 → IsTaken (commands.Bench n) (codes "bench" ∷ decimal n ∷ [])
bench_taken n large small =
    let takes = by_number 1 64 (omega arith) BitsTaken bench_digit n large small in (
      ap (λ k. not (is_empty k)) takes.0,
      ap (λ o. option_map commands.Bench (option_map number_of o)) takes.1 ∙ ap (λ m. Some (commands.Bench m)) (number_same n (omega (arith, small))),
    )

-- ---- the commands without numbers

run_taken : (fill : FillWord) (file : Text) → IsTaken (commands.Run fill) (file_words (codes "run") file ++ fill_words fill)
unfolding clap_on_literals
run_taken Zeros file = (refl, refl)
run_taken Ones file = (refl, refl)

run_alone_taken : (file : Text) → IsTaken (commands.Run Zeros) (file_words (codes "run") file)
unfolding clap_on_literals
run_alone_taken file = (refl, refl)

debug_taken : (fill : FillWord) (file : Text) → IsTaken (commands.Debug fill) (file_words (codes "debug") file ++ fill_words fill)
unfolding clap_on_literals
debug_taken Zeros file = (refl, refl)
debug_taken Ones file = (refl, refl)

debug_alone_taken : (file : Text) → IsTaken (commands.Debug Zeros) (file_words (codes "debug") file)
unfolding clap_on_literals
debug_alone_taken file = (refl, refl)

list_taken : (file : Text) → IsTaken commands.List (file_words (codes "list") file)
unfolding clap_on_literals
list_taken file = (refl, refl)

implyrun_taken : (fill : FillWord) (file : Text) → IsTaken (commands.Implyrun fill) (file_words (codes "implyrun") file ++ fill_words fill)
unfolding clap_on_literals
implyrun_taken Zeros file = (refl, refl)
implyrun_taken Ones file = (refl, refl)

implyrun_alone_taken : (file : Text) → IsTaken (commands.Implyrun Zeros) (file_words (codes "implyrun") file)
unfolding clap_on_literals
implyrun_alone_taken file = (refl, refl)

explain_taken : (tree : Bool) (words : List Text) → IsPlainExplain tree words → IsTaken (commands.Explain tree) words
unfolding clap_on_literals
explain_taken false words plain = subst (IsTaken (commands.Explain false)) (sym plain.1) (refl, refl)
explain_taken true words plain = subst (IsTaken (commands.Explain true)) (sym plain.1) (refl, refl)

prove_taken : (file : Text) → IsTaken commands.Prove (file_words (codes "prove") file)
unfolding clap_on_literals
prove_taken file = (refl, refl)

asm_taken : IsTaken commands.Asm (codes "asm" ∷ [])
unfolding clap_on_literals
asm_taken = (refl, refl)

convert_taken : (form : FormWord) → IsTaken (commands.Convert form) (convert_words form)
unfolding clap_on_literals
convert_taken forms.Text = (refl, refl)
convert_taken forms.Binary = (refl, refl)

-- a command with `--fill` that is taken with it, and without it for zeros
fill_taken : (name : Text) (made : FillWord → Command) → ((file : Text) → IsTaken (made Zeros) (file_words name file))
    → ((fill : FillWord) (file : Text) → IsTaken (made fill) (file_words name file ++ fill_words fill))
    → (fill : FillWord) (words : List Text) → IsPlainFill name fill words → IsTaken (made fill) words
fill_taken name made alone filled fill words plain = elim plain.1 [
  | inl way ↦ subst (λ f. IsTaken (made f) words) (sym way.0) (subst (IsTaken (made Zeros)) (sym way.1) (alone plain.0))
  | inr way ↦ subst (IsTaken (made fill)) (sym way) (filled fill plain.0)
]

pub plain_taken : (c : Command) (words : List Text) → IsPlain c words → IsTaken c words
plain_taken (commands.Compile target level n) words plain = compile_taken target level n words plain
plain_taken (commands.Run fill) words plain = fill_taken (codes "run") commands.Run run_alone_taken run_taken fill words plain
plain_taken commands.List words plain = subst (IsTaken commands.List) (sym plain.1) (list_taken plain.0)
plain_taken (commands.Explain tree) words plain = explain_taken tree words plain
plain_taken commands.Prove words plain = subst (IsTaken commands.Prove) (sym plain.1) (prove_taken plain.0)
plain_taken commands.Asm words plain = subst (IsTaken commands.Asm) (sym plain) asm_taken
plain_taken (commands.Debug fill) words plain = fill_taken (codes "debug") commands.Debug debug_alone_taken debug_taken fill words plain
plain_taken (commands.Convert form) words plain = subst (IsTaken (commands.Convert form)) (sym plain) (convert_taken form)
plain_taken (commands.Imply cells) words plain = subst (IsTaken (commands.Imply cells)) (sym plain.1) (imply_taken cells plain.0)
plain_taken (commands.Implyrun fill) words plain = fill_taken (codes "implyrun") commands.Implyrun implyrun_alone_taken implyrun_taken fill words plain
plain_taken (commands.Share cells) words plain = subst (IsTaken (commands.Share cells)) (sym plain.1.1) (share_taken cells plain.1.0 plain.0)
plain_taken (commands.Bench bits) words plain = subst (IsTaken (commands.Bench bits)) (sym plain.2) (bench_taken bits plain.0 plain.1)

-- so an answer to plain words is the command or out of memory
pub plain_answer : (r : Result Command WordsFault) (words : List Text) → (r ≡ Err Usage → is_usage words ≡ true)
    → IfOk r (λ x. command_said words ≡ Some x) → (c : Command) → IsPlain c words
    → MatchResult r (λ x. x ≡ c) (λ e. e ≡ NoMemory)
plain_answer (Ok x) words usage said c plain =
    let is : Some x ≡ Some c = sym said ∙ (plain_taken c words plain).1 in
    cc
plain_answer (Err Usage) words usage said c plain =
    let bad : true ≡ false = sym (usage refl) ∙ (plain_taken c words plain).0 in
    cc
plain_answer (Err NoMemory) words usage said c plain = refl
