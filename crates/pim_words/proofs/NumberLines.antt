-- The command lines with one argument, which is a number, read as their definitions do, and give a number.
use Rattle.std.proofs.Common.{◌≡◌, ◌∙◌, ◌⊎◌, ℕ, [], ap, arith, codes, false, inl, inr, pos, refl, subst, sym, true}
use Rattle.std.specs.Prelude.{Some, slice_index}
use Rattle.clap.specs.Built.{AddsArg, IsParsedFrom}
use Rattle.clap.specs.Facts.{args_of, groups_of}
use Rattle.clap.specs.Lexer.{without_minus}
use Rattle.clap.specs.Matches.{found_of, one_text}
use Rattle.clap.specs.Walk.{Rule, Text}
use Rattle.clap.specs.declared.builder.action.ArgAction.TheVariants.{Set}
use Rattle.clap.specs.declared.builder.arg.Arg.{Arg}
use Rattle.clap.specs.declared.builder.command.Command.{Command}
use Rattle.clap.specs.declared.builder.command.Command.TheViews.{out-Command}
use Rattle.clap.specs.declared.builder.value_parser.ValueParser.TheVariants as vp
use Rattle.clap.specs.declared.parser.matches.ArgMatches.{ArgMatches}
use Rattle.clap.proofs.CallerReads.{one_required_read}
use Rattle.pim_words.specs.declared.limits.TheConstants.{MAX_CELLS}
use Rattle.pim_words.specs.Lines.{bits_rule, cells_rule}
use Rattle.pim_words.specs.inner.Matches.{HasBits, HasCells, HasNumber}
use Rattle.pim_words.specs.inner.Options.{HasRule}
use Rattle.pim_words.proofs.Numbers.{has_number}

-- the argument of this rule, which is required and a number from `low` to `high`, is one in what a command with no other reads
number_given : (rule : Rule) (low high : ℕ) (start line : Command) (a : Arg) → AddsArg start a line
    → args_of start ≡ [] → groups_of start ≡ [] → (out-Command start).has_globals ≡ false → (out-Command start).subcommand_negates_reqs ≡ false
    → HasRule rule a → rule.required ≡ true → rule.action ≡ Some Set → rule.parser ≡ Some (vp.Signed (pos low) (pos high))
    → (rule.id ≡ [] → ⊥) → ((rule.id ≡ codes "help") ⊎ (rule.id ≡ codes "version") → ⊥)
    → (m : ArgMatches) → IsParsedFrom line m → HasNumber rule.id low high m
number_given rule low high start line a added args groups globals negates has required set parser named own m parsed =
    let id : a.id.now ≡ rule.id = ap (λ (r : Rule). r.id) has.reads in
    let read = one_required_read start line a m added args groups globals negates has.plain has.local
    (ap (λ (r : Rule). r.required) has.reads ∙ required) (ap (λ (r : Rule). r.action) has.reads ∙ set) has.undivided has.filled
    (λ empty. named (sym id ∙ empty))
    (λ auto. own (subst (λ (t : Text). (t ≡ codes "help") ⊎ (t ≡ codes "version")) id auto))
    (vp.Signed (pos low) (pos high)) (ap (λ (r : Rule). r.parser) has.reads ∙ parser) parsed in
    has_number rule.id low high m read.0 read.2 (subst (λ (t : Text). one_text (found_of m) t ≡ Some (without_minus read.0)) id read.1)

cells_named : codes "cells" ≡ [] → ⊥
cells_named e = cc

cells_own : (codes "cells" ≡ codes "help") ⊎ (codes "cells" ≡ codes "version") → ⊥
cells_own (inl e) = cc
cells_own (inr e) = cc

pub cells_given : (start line : Command) (a : Arg) → AddsArg start a line → args_of start ≡ [] → groups_of start ≡ [] → (out-Command start).has_globals ≡ false
    → (out-Command start).subcommand_negates_reqs ≡ false → HasRule cells_rule a → (m : ArgMatches) → IsParsedFrom line m → HasCells m
cells_given start line a added args groups globals negates has =
    number_given cells_rule 0 MAX_CELLS start line a added args groups globals negates has refl refl refl cells_named cells_own

bits_named : codes "bits" ≡ [] → ⊥
bits_named e = cc

apart : (x : ℕ) → x ≡ 98 → (x ≡ 104) ⊎ (x ≡ 118) → ⊥
apart x b (inl h) = absurd (omega (arith, b, h))
apart x b (inr v) = absurd (omega (arith, b, v))

bits_own : (codes "bits" ≡ codes "help") ⊎ (codes "bits" ≡ codes "version") → ⊥
bits_own (inl e) = apart (slice_index (codes "bits") 0) refl (inl (ap (λ (t : Text). slice_index t 0) e))
bits_own (inr e) = apart (slice_index (codes "bits") 0) refl (inr (ap (λ (t : Text). slice_index t 0) e))

pub bits_given : (start line : Command) (a : Arg) → AddsArg start a line → args_of start ≡ [] → groups_of start ≡ [] → (out-Command start).has_globals ≡ false
    → (out-Command start).subcommand_negates_reqs ≡ false → HasRule bits_rule a → (m : ArgMatches) → IsParsedFrom line m → HasBits m
bits_given start line a added args groups globals negates has =
    number_given bits_rule 1 64 start line a added args groups globals negates has refl refl refl bits_named bits_own
