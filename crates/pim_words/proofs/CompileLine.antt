-- The command line of `compile` refuses and reads as its definition does, and gives a number of cells.
use Rattle.std.proofs.Common.{◌≡◌, ◌∙◌, ◌≤◌, ◌<◌, ◌++◌, ◌⊎◌, ℕ, List, [], ◌∷◌, length, refl, sym, ap, ap₂, subst, true, false, zero, suc, inl, inr, arith, codes, pos}
use Rattle.std.specs.Prelude.{Some}
use Rattle.std.specs.Borrow.{Bor}
use Rattle.std.specs.List.{All, slice_index_or}
use Rattle.std.specs.Str.{bytes_eq}
use Rattle.std.proofs.lemmas.List.Elements.{All-nil}
use Rattle.clap.specs.Facts.{args_of, groups_of, least_values}
use Rattle.clap.specs.Lexer.{without_minus}
use Rattle.clap.specs.Matches.{found_of, one_text}
use Rattle.clap.specs.Built.{AddsArg, IsParsedFrom, IsPlain, IsPlainArg}
use Rattle.clap.specs.Simple.{app_of, built, new_app, with_rule}
use Rattle.clap.specs.Walk.{Rule, Text, texts}
use Rattle.clap.specs.declared.builder.action.ArgAction.TheVariants.{Set}
use Rattle.clap.specs.declared.builder.arg.Arg.{Arg}
use Rattle.clap.specs.declared.builder.command.Command.{Command}
use Rattle.clap.specs.declared.builder.command.Command.TheViews.{out-Command}
use Rattle.clap.specs.declared.builder.value_parser.ValueParser.{ValueParser}
use Rattle.clap.specs.declared.builder.value_parser.ValueParser.TheVariants as vp
use Rattle.clap.specs.declared.parser.matches.ArgMatches.{ArgMatches}
use Rattle.clap.proofs.CallerLemmas.{added_plain}
use Rattle.clap.proofs.CallerReads.{required_reads}
use Rattle.pim_words.specs.declared.limits.TheConstants.{MAX_CELLS}
use Rattle.pim_words.specs.Lines.{cells_rule, compile_by, compile_line, one_of_names, option_of, required, with_default_text}
use Rattle.pim_words.specs.inner.Matches.{HasCells}
use Rattle.pim_words.specs.inner.Options.{HasRule}
use Rattle.pim_words.specs.Reading.{ReadsAlike}
use Rattle.pim_words.proofs.Alike.{IsBareOf, reads_alike}
use Rattle.pim_words.proofs.Numbers.{has_number}

-- ---- the definition

pub compile_alike : (targets levels : Bor (List (Bor Text))) → texts targets.now ≡ codes "magic" ∷ codes "plim" ∷ [] → texts levels.now ≡ codes "0" ∷ codes "1" ∷ codes "2" ∷ []
    → ReadsAlike (compile_by (vp.Names targets) (vp.Names levels)) compile_line
compile_alike targets levels target level =
    let is_bare : IsBareOf (compile_by (vp.Names targets) (vp.Names levels)) (compile_by (one_of_names (texts targets.now)) (one_of_names (texts levels.now))) =
    record { shape = (built (compile_by (vp.Names targets) (vp.Names levels))).top; from = refl; to = refl; words = λ ws. refl } in
    reads_alike _ _ _ refl is_bare (ap₂ (λ t l. compile_by (one_of_names t) (one_of_names l)) target level)

-- ---- the arguments

abbrev pub target_rule : ValueParser → Rule
target_rule targets = required (option_of (codes "target") targets)

abbrev pub level_rule : ValueParser → Rule
level_rule levels = with_default_text (codes "0") (option_of (codes "level") levels)

pub line_is : (c0 c1 c2 c3 : Command) (a0 a1 a2 : Arg) (targets levels : ValueParser) → AddsArg c0 a0 c1 → AddsArg c1 a1 c2 → AddsArg c2 a2 c3
    → app_of c0 ≡ new_app (codes "compile") → HasRule (target_rule targets) a0 → HasRule cells_rule a1 → HasRule (level_rule levels) a2
    → app_of c3 ≡ compile_by targets levels
line_is c0 c1 c2 c3 a0 a1 a2 targets levels add0 add1 add2 new has0 has1 has2 =
    add2.shape has2.local ∙ ap₂ with_rule (add1.shape has1.local ∙ ap₂ with_rule (add0.shape has0.local ∙ ap₂ with_rule new has0.reads) has1.reads) has2.reads

pub cells_read : (c0 c1 c2 c3 : Command) (a0 a1 a2 : Arg) (targets levels : ValueParser) → AddsArg c0 a0 c1 → AddsArg c1 a1 c2 → AddsArg c2 a2 c3
    → args_of c0 ≡ [] → groups_of c0 ≡ [] → (out-Command c0).has_globals ≡ false → (out-Command c0).subcommand_negates_reqs ≡ false
    → HasRule (target_rule targets) a0 → HasRule cells_rule a1 → HasRule (level_rule levels) a2
    → (m : ArgMatches) → IsParsedFrom c3 m → HasCells m
cells_read c0 c1 c2 c3 a0 a1 a2 targets levels add0 add1 add2 args groups globals negates has0 has1 has2 m parsed =
    let id1 : a1.id.now ≡ codes "cells" = ap (λ (r : Rule). r.id) has1.reads in
    let list : args_of c3 ≡ add0.arg ∷ add1.arg ∷ add2.arg ∷ [] =
    add2.args ∙ ap (λ l. l ++ add2.arg ∷ []) (add1.args ∙ ap (λ l. l ++ add1.arg ∷ []) (add0.args ∙ ap (λ l. l ++ add0.arg ∷ []) args)) in
    let is_plain0 : IsPlain c0 = (subst (All IsPlainArg) (sym args) (All-nil IsPlainArg), groups) in
    let is_plain : IsPlain c3 = added_plain c2 c3 a2 add2 (added_plain c1 c2 a1 add1 (added_plain c0 c1 a0 add0 is_plain0 has0.plain) has1.plain) has2.plain in
    let no_globals : (out-Command c3).has_globals ≡ false = rw (add2.globals, add1.globals, add0.globals, globals, has0.local, has1.local, has2.local) refl in
    let no_negates : (out-Command c3).subcommand_negates_reqs ≡ false = add2.negates ∙ (add1.negates ∙ (add0.negates ∙ negates)) in
    let at : slice_index_or (args_of c3) 1 a1 ≡ add1.arg = ap (λ l. slice_index_or l 1 a1) list in
    let name : (slice_index_or (args_of c3) 1 a1).id.now ≡ codes "cells" = ap (λ (x : Arg). x.id.now) at ∙ (ap (λ (i : Bor Text). i.now) add1.rules.id ∙ id1) in
    let inside : 1 < length (args_of c3) = subst (λ l. 1 < length l) (sym list) (omega arith) in
    let read = required_reads c3 m parsed is_plain no_globals no_negates 1 a1 inside
    (ap (λ (x : Arg). x.required) at ∙ (add1.rules.required ∙ ap (λ (r : Rule). r.required) has1.reads))
    (ap (λ (x : Arg). x.action) at ∙ add1.rules.action Set (ap (λ (r : Rule). r.action) has1.reads))
    (ap (λ (x : Arg). x.val_delim) at ∙ (add1.rules.val_delim ∙ has1.undivided))
    (subst (λ (x : Arg). 1 ≤ least_values x) (sym at) (add1.rules.least (ap (λ (r : Rule). r.action) has1.reads) has1.filled))
    (λ j e low same. only j e (subst (λ l. j < length l) list low)
    (subst (λ (l : List Arg). bytes_eq (slice_index_or l j e).id.now (codes "cells") ≡ true) list
    (subst (λ (t : Text). bytes_eq (slice_index_or (args_of c3) j e).id.now t ≡ true) name same)))
    (λ e. let bad : codes "cells" ≡ [] = sym name ∙ e in cc)
    (λ auto. not_auto (subst (λ (t : Text). (t ≡ codes "help") ⊎ (t ≡ codes "version")) name auto))
    (vp.Signed (pos 0) (pos MAX_CELLS)) (ap (λ (x : Arg). x.value_parser) at ∙ add1.rules.parser _ (ap (λ (r : Rule). r.parser) has1.reads)) in
    has_number (codes "cells") 0 MAX_CELLS m read.0 read.2 (subst (λ (t : Text). one_text (found_of m) t ≡ Some (without_minus read.0)) name read.1)
  where
    not_auto : (codes "cells" ≡ codes "help") ⊎ (codes "cells" ≡ codes "version") → ⊥
    not_auto (inl e) = cc
    not_auto (inr e) = cc

    only : (j : ℕ) (e : Arg) → j < 3 → bytes_eq (slice_index_or (add0.arg ∷ add1.arg ∷ add2.arg ∷ []) j e).id.now (codes "cells") ≡ true → j ≡ 1
    only zero e low same =
        let is : add0.arg.id.now ≡ codes "target" = ap (λ (i : Bor Text). i.now) add0.rules.id ∙ ap (λ (r : Rule). r.id) has0.reads in
        let bad : false ≡ true = subst (λ (t : Text). bytes_eq t (codes "cells") ≡ true) is same in
        cc
    only (suc zero) e low same = refl
    only (suc (suc zero)) e low same =
        let is : add2.arg.id.now ≡ codes "level" = ap (λ (i : Bor Text). i.now) add2.rules.id ∙ ap (λ (r : Rule). r.id) has2.reads in
        let bad : false ≡ true = subst (λ (t : Text). bytes_eq t (codes "cells") ≡ true) is same in
        cc
    only (suc (suc (suc j))) e low same = absurd (omega arith)
