-- When a parse fails stands on the texts of an option's names, and not on where they lie.
use Rattle.std.proofs.Common.{◌≡◌, ◌∙◌, ℕ, Bool, List, [], ◌∷◌, length, refl, sym, ap, ap₂, zero, suc}
use Rattle.std.specs.Prelude.{Option, Some, None, option_map, if◌then◌else◌, not, is_some, ◌&&◌, ◌||◌, ◌+◌, min, encode_utf8, drop, slice_get}
use Rattle.std.specs.Borrow.{Bor}
use Rattle.std.specs.List.{list_any}
use Rattle.std.specs.Option.{option_map_or}
use Rattle.std.specs.Str.{bytes_eq, chars}
use Rattle.clap.specs.Lexer.{long_of, short_of}
use Rattle.clap.specs.Facts.{explicit_source, parser_of_value, unwrap_or_range}
use Rattle.clap.specs.Values.{refused_kind, same_text}
use Rattle.clap.specs.ValueTests.{accepts}
use Rattle.clap.specs.Matches.{count_text}
use Rattle.clap.specs.declared.error.kind.ErrorKind.TheVariants as kind
use Rattle.clap.specs.Kinds.{Kinds, check_kinds, or_else, range_kinds, request_kinds, value_kinds, values_kinds}
use Rattle.clap.specs.Faults.{action_fault, bundle_fault, bundle_step_fault, check_fault, count_fault, default_fault, defaults_fault, flag_word_fault, flags_fault}
use Rattle.clap.specs.Faults.{level_fault, long_fault, option_fault, other_fault, positional_fault, react_fault, repeat_fault, set_fault, settle_fault}
use Rattle.clap.specs.Faults.{short_fault, step_fault, stray_fault, turn_fault, use_fault, values_fault, walk_fault, word_fault}
use Rattle.clap.specs.Simple.{Shape}
use Rattle.clap.specs.Takes.{is_given}
use Rattle.clap.specs.Walk.{Held, Names, Row, Rule, Step, Text, Waiting, Walk, action_of, arg_by_id, arg_by_index, arg_by_long, arg_by_short, attached_value, finished}
use Rattle.clap.specs.Walk.{count_of, has_row, is_empty, is_pending, most_values, reacted, settled, subcommand_met, takes_several, takes_values, texts, value, values_or_missing}
use Rattle.clap.specs.Walk.{next, subcommand, trailing, walk, walk_from, walked, with_default, word_met}
use Rattle.clap.specs.declared.builder.action.ArgAction.{ArgAction}
use Rattle.clap.specs.declared.builder.action.ArgAction.TheVariants.{Append, Count, Set, SetFalse, SetTrue}
use Rattle.clap.specs.declared.builder.value_parser.ValueParser.{ValueParser}
use Rattle.clap.specs.declared.builder.value_parser.ValueParser.TheVariants as vp
use Rattle.clap.proofs.WalkLemmas.{list_any-map}
use Rattle.pim_words.specs.Lines.{lent}
use Rattle.pim_words.proofs.NamesWalk.{bare, bare_parser, bares, by_id-bare, by_index-bare, by_long-bare, by_short-bare, finished-bare, reacted-bare, settled-bare, walk-bare, walked-bare, with_default-bare, word_met-bare}

-- ---- values

accepts-bare : (any_case : Bool) (p : ValueParser) (text : Text) → accepts any_case (bare_parser p) text ≡ accepts any_case p text
accepts-bare any_case (vp.Names names) text =
    sym (list_any-map (λ (name : Bor Text). same_text any_case name.now text) lent (texts names.now))
    ∙ sym (list_any-map (λ (name : Text). same_text any_case name text) (λ (s : Bor Text). s.now) names.now)
accepts-bare any_case _ text = refl

refused_kind-bare : (p : ValueParser) → refused_kind (bare_parser p) ≡ refused_kind p
refused_kind-bare (vp.Names names) = refl
refused_kind-bare _ = refl

value_kinds-bare : (any_case : Bool) (p : ValueParser) (text : Text) → value_kinds any_case (bare_parser p) text ≡ value_kinds any_case p text
value_kinds-bare any_case p text = ap₂ (λ b k. if b then [] else k ∷ []) (accepts-bare any_case p text) (refused_kind-bare p)

values_kinds-bare : (any_case : Bool) (p : ValueParser) (vs : List Text) → values_kinds any_case (bare_parser p) vs ≡ values_kinds any_case p vs
values_kinds-bare any_case p [] = refl
values_kinds-bare any_case p (v ∷ vs) = ap₂ or_else (value_kinds-bare any_case p v) (values_kinds-bare any_case p vs)

parser-bare : (o : Option ValueParser) → parser_of_value (option_map bare_parser o) ≡ bare_parser (parser_of_value o)
parser-bare None = refl
parser-bare (Some p) = refl

-- ---- one use of an argument

values_fault-bare : (a : Rule) (vs : List Text) → values_fault (bare a) vs ≡ values_fault a vs
values_fault-bare a vs = ap (λ p. values_kinds a.ignore_case p vs) (parser-bare a.parser) ∙ values_kinds-bare a.ignore_case (parser_of_value a.parser) vs

count_fault-bare : (a : Rule) (vs : List Text) (rows : List Row) → count_fault (bare a) vs rows ≡ count_fault a vs rows
count_fault-bare a [] rows =
    let text = count_text (min (count_of a.id rows + 1) 255) in
    ap (λ p. value_kinds a.ignore_case p text) (parser-bare a.parser) ∙ value_kinds-bare a.ignore_case (parser_of_value a.parser) text
count_fault-bare a (v ∷ vs) rows = values_fault-bare a (v ∷ vs)

set_fault-bare : (again : Bool) (a : Rule) (vs : List Text) (rows : List Row) → set_fault again (bare a) vs rows ≡ set_fault again a vs rows
set_fault-bare again a vs rows = ap (or_else (repeat_fault again a.id rows)) (values_fault-bare a vs)

action_fault-bare : (x : ArgAction) (again : Bool) (a : Rule) (vs : List Text) (rows : List Row) → action_fault x again (bare a) vs rows ≡ action_fault x again a vs rows
action_fault-bare Set again a vs rows = set_fault-bare again a vs rows
action_fault-bare SetTrue again a vs rows = set_fault-bare again a vs rows
action_fault-bare SetFalse again a vs rows = set_fault-bare again a vs rows
action_fault-bare Append again a vs rows = values_fault-bare a vs
action_fault-bare Count again a vs rows = count_fault-bare a vs rows
action_fault-bare _ again a vs rows = refl

use_fault-bare : (again : Bool) (a : Rule) (vs : List Text) (rows : List Row) → use_fault again (bare a) vs rows ≡ use_fault again a vs rows
use_fault-bare again a vs rows = ap (or_else (range_kinds (unwrap_or_range a.range).start_inclusive (most_values a) (length vs)))
    (action_fault-bare (action_of a) again a (values_or_missing a vs) rows)

-- ---- the walk

over : (f : Rule → Kinds) (d : Kinds) (o : Option Rule) → ((a : Rule) → f (bare a) ≡ f a) → option_map_or f (option_map bare o) d ≡ option_map_or f o d
over f d None same = refl
over f d (Some a) same = same a

module _ (c : List Rule) (again : Bool) where
  pending_fault-bare : (o : Option (Text × List Text)) (rows : List Row)
      → option_map_or (λ p. option_map_or (λ a. use_fault again a p.1 rows) (arg_by_id (bares c) p.0) []) o []
      ≡ option_map_or (λ p. option_map_or (λ a. use_fault again a p.1 rows) (arg_by_id c p.0) []) o []
  pending_fault-bare None rows = refl
  pending_fault-bare (Some p) rows = ap (λ o. option_map_or (λ a. use_fault again a p.1 rows) o []) (by_id-bare c p.0)
      ∙ over (λ a. use_fault again a p.1 rows) [] (arg_by_id c p.0) (λ a. use_fault-bare again a p.1 rows)

  settle_fault-bare : (h : Held) → settle_fault (bares c) again h ≡ settle_fault c again h
  settle_fault-bare h = pending_fault-bare h.pending h.rows

  react_fault-bare : (a : Rule) (vs : List Text) (h : Held) → react_fault (bares c) again (bare a) vs h ≡ react_fault c again a vs h
  react_fault-bare a vs h = ap₂ or_else (settle_fault-bare h)
      (use_fault-bare again a vs (settled (bares c) h).rows ∙ ap (λ (s : Held). use_fault again a vs s.rows) (settled-bare c h))

  option_fault-bare : (a : Rule) (v : Option Text) (h : Held) → option_fault (bares c) again (bare a) v h ≡ option_fault c again a v h
  option_fault-bare a (Some v) h = react_fault-bare a (v ∷ []) h
  option_fault-bare a None h = settle_fault-bare h

  long_fault-bare : (o : Option Rule) (v : Option Text) (h : Held) → long_fault (bares c) again (option_map bare o) v h ≡ long_fault c again o v h
  long_fault-bare None v h = refl
  long_fault-bare (Some a) v h = ap₂ (λ x y. if takes_values a then x else (if is_some v then kind.TooManyValues ∷ [] else y)) (option_fault-bare a v h) (react_fault-bare a [] h)

  short_fault-bare : (o : Option Rule) (rest : Text) (h : Held) (f g : Held → Kinds) → ((s : Held) → f s ≡ g s)
      → short_fault (bares c) again (option_map bare o) rest h f ≡ short_fault c again o rest h g
  short_fault-bare None rest h f g same = refl
  short_fault-bare (Some a) rest h f g same = ap₂ (λ x y. if takes_values a then x else y) (option_fault-bare a (attached_value rest) h)
      (ap₂ or_else (react_fault-bare a [] h) (ap f (reacted-bare c a [] h) ∙ same (reacted c a [] h)))

  bundle_step_fault-bare : (o : Option ℕ) (flags : Text) (skip : ℕ) (h : Held) (f g : Text → ℕ → Held → Kinds) → ((t : Text) (k : ℕ) (s : Held) → f t k s ≡ g t k s)
      → bundle_step_fault (bares c) again o flags skip h f ≡ bundle_step_fault c again o flags skip h g
  bundle_step_fault-bare None flags skip h f g same = refl
  bundle_step_fault-bare (Some x) flags zero h f g same =
      let rest = drop (length (encode_utf8 x)) flags in
      ap (λ o. short_fault (bares c) again o rest h (f rest 0)) (by_short-bare c x) ∙ short_fault-bare (arg_by_short c x) rest h (f rest 0) (g rest 0) (same rest 0)
  bundle_step_fault-bare (Some x) flags (suc skip) h f g same = same (drop (length (encode_utf8 x)) flags) skip h

  flags_fault-bare : (k : ℕ) (flags : Text) (skip : ℕ) (h : Held) → flags_fault (bares c) again k flags skip h ≡ flags_fault c again k flags skip h
  unfolding flags_fault
  flags_fault-bare zero flags skip h = refl
  flags_fault-bare (suc k) flags skip h =
      bundle_step_fault-bare (slice_get (chars flags) 0) flags skip h (flags_fault (bares c) again k) (flags_fault c again k) (λ t n s. flags_fault-bare k t n s)

  short_word_fault-bare : (o : Option Text) (h : Held) → option_map_or (λ flags. bundle_fault (bares c) again flags h) o [] ≡ option_map_or (λ flags. bundle_fault c again flags h) o []
  short_word_fault-bare None h = refl
  short_word_fault-bare (Some flags) h = flags_fault-bare (length flags) flags h.skip (record h { skip = 0 })

  flag_word_fault-bare : (o : Option (Text × Option Text)) (word : Text) (h : Held) → flag_word_fault (bares c) again o word h ≡ flag_word_fault c again o word h
  flag_word_fault-bare (Some p) word h = ap (λ o. long_fault (bares c) again o p.1 h) (by_long-bare c p.0) ∙ long_fault-bare (arg_by_long c p.0) p.1 h
  flag_word_fault-bare None word h = short_word_fault-bare (short_of word) h

  positional_fault-bare : (a : Rule) (h : Held) → positional_fault (bares c) again (bare a) h ≡ positional_fault c again a h
  positional_fault-bare a h = ap (λ x. if is_pending a h.pending && takes_several a then [] else x) (settle_fault-bare h)

  place_fault-bare : (i : ℕ) (d : Kinds) (h : Held)
      → option_map_or (λ a. positional_fault (bares c) again a h) (arg_by_index (bares c) i) d ≡ option_map_or (λ a. positional_fault c again a h) (arg_by_index c i) d
  place_fault-bare i d h = ap (λ o. option_map_or (λ a. positional_fault (bares c) again a h) o d) (by_index-bare c i) ∙ go (arg_by_index c i)
    where
      go : (o : Option Rule) → option_map_or (λ a. positional_fault (bares c) again a h) (option_map bare o) d ≡ option_map_or (λ a. positional_fault c again a h) o d
      go None = refl
      go (Some a) = positional_fault-bare a h

abbrev pub bare_shape : Shape → Shape
bare_shape s = record s { rules = bares s.rules }

module _ (s : Shape) where
  other_fault-bare : (o : Option Text) (word : Text) (h : Held) → other_fault (bare_shape s) o word h ≡ other_fault s o word h
  other_fault-bare (Some name) word h = refl
  other_fault-bare None word h =
      ap (λ x. if bytes_eq word (45 ∷ 45 ∷ []) then [] else x) (flag_word_fault-bare s.rules s.args_override_self (long_of word) word h)

  word_fault-bare : (names : Names) (is_trailing : Bool) (waiting : Waiting) (word : Text) (h : Held)
      → word_fault (bare_shape s) names is_trailing waiting word h ≡ word_fault s names is_trailing waiting word h
  word_fault-bare names is_trailing waiting word h = ap (λ x. if is_trailing then [] else x) (other_fault-bare (subcommand_met names waiting word) word h)

  step_fault-bare : (position : ℕ) (h : Held) (step : Step) → step_fault (bare_shape s) position h step ≡ step_fault s position h step
  step_fault-bare position h value = place_fault-bare s.rules s.args_override_self position (stray_fault s) h
  step_fault-bare position h (next waiting) = refl
  step_fault-bare position h (trailing n) = refl
  step_fault-bare position h (subcommand name) = refl

  turn_fault-bare : (names : Names) (w : Walk) (word : Text) → turn_fault (bare_shape s) names w word ≡ turn_fault s names w word
  turn_fault-bare names w word =
      let met = word_met s.rules names w.is_trailing w.waiting w.position word w.held in
      ap (λ x. if is_some w.stopped then [] else x) (ap₂ or_else (word_fault-bare names w.is_trailing w.waiting word w.held)
      (ap (λ (m : Held × Step). step_fault (bare_shape s) w.position m.0 m.1) (word_met-bare s.rules names w.is_trailing w.waiting w.position word w.held)
      ∙ step_fault-bare w.position met.0 met.1))

  walk_fault-bare : (names : Names) (w : Walk) (words : List Text) → walk_fault (bare_shape s) names w words ≡ walk_fault s names w words
  unfolding walk_fault
  walk_fault-bare names w [] = refl
  walk_fault-bare names w (word ∷ rest) = ap₂ or_else (turn_fault-bare names w word)
      (ap (λ x. walk_fault (bare_shape s) names x rest) (walked-bare s.rules names w word) ∙ walk_fault-bare names (walked s.rules names w word) rest)

-- ---- after the walk

default_fault-bare : (rows : List Row) (a : Rule) → default_fault rows (bare a) ≡ default_fault rows a
default_fault-bare rows a =
    ap (λ x. if has_row a.id rows || is_empty a.defaults then [] else or_else (request_kinds (action_of a)) x) (values_fault-bare a a.defaults)

defaults_fault-bare : (c : List Rule) (rows : List Row) → defaults_fault rows (bares c) ≡ defaults_fault rows c
unfolding defaults_fault
defaults_fault-bare [] rows = refl
defaults_fault-bare (a ∷ rest) rows = ap₂ or_else (default_fault-bare rows a)
    (ap (λ r. defaults_fault r (bares rest)) (with_default-bare rows a) ∙ defaults_fault-bare rest (with_default rows a))

check_fault-bare : (s : Shape) (rows : List Row) (has : Bool) → check_fault (bare_shape s) rows has ≡ check_fault s rows has
check_fault-bare s rows has = ap (λ x. check_kinds
    (not has && (s.arg_required_else_help && not (list_any (λ (r : Row). explicit_source r.source) rows)))
    (not has && s.subcommand_required) (not (s.subcommand_negates_reqs && has) && x)) (sym (list_any-map (λ (a : Rule). a.required && not (is_given a.id rows)) bare s.rules))

-- one level of the parse fails alike
pub level_fault-bare : (s : Shape) (names : Names) (h : Held) (words : List Text) (has : Bool) (below : Kinds)
    → level_fault (bare_shape s) names h words has below ≡ level_fault s names h words has below
level_fault-bare s names h words has below =
    let again = s.args_override_self in
    let end = (walk s.rules names h words).held in
    ap₂ or_else (walk_fault-bare s names (walk_from h) words) (ap (or_else below)
    (ap (λ (w : Walk). after w.held) (walk-bare s.rules names h words)
    ∙ ap₂ or_else (settle_fault-bare s.rules again end) (ap₂ or_else
    (ap (λ (e : Held). defaults_fault e.rows (bares s.rules)) (settled-bare s.rules end) ∙ defaults_fault-bare s.rules (settled s.rules end).rows)
    (ap (λ rows. check_fault (bare_shape s) rows has) (finished-bare s.rules end) ∙ check_fault-bare s (finished s.rules end) has))))
  where
    after : Held → Kinds
    after e = or_else (settle_fault (bares s.rules) s.args_override_self e)
        (or_else (defaults_fault (settled (bares s.rules) e).rows (bares s.rules)) (check_fault (bare_shape s) (finished (bares s.rules) e) has))
