-- What a walk over words finds stands on the texts of an option's names, and not on where they lie:
-- the rules with each name moved to one place find the same.
use Rattle.std.proofs.Common.{◌≡◌, ◌∙◌, ℕ, Bool, List, [], ◌∷◌, map, length, refl, sym, ap, ap₂, zero, suc}
use Rattle.std.specs.Prelude.{Option, Some, None, option_map, fold, if◌then◌else◌, not, is_some, ◌&&◌, ◌==◌, false, encode_utf8, drop, slice_get}
use Rattle.std.specs.Str.{bytes_eq, chars}
use Rattle.clap.specs.Walk.{Held, Names, Outcome, Row, Rule, Step, Text, Waiting, Walk, action_of, after_flag, after_step, arg_by_id, arg_by_index, arg_by_long}
use Rattle.clap.specs.Walk.{arg_by_short, attached_value, bundle, bundle_met, bundle_step, default_rows, done, finished, flag_met, has_long, has_row, has_short}
use Rattle.clap.specs.Walk.{idle, is_pending, long_met, long_or_other, long_word, next, option, option_met, option_word, plain, plain_word, positional, positional_held}
use Rattle.clap.specs.Walk.{pushed, reacted, refused, rows_after, settled, settled_rows, short_met, short_or_plain, subcommand, subcommand_met}
use Rattle.clap.specs.Walk.{subcommand_or_other, takes_several, takes_values, texts, to_positional, trailing, used, used_as, used_by_id, value, values_or_missing, waits}
use Rattle.clap.specs.Walk.{nothing_held, walk, walk_from, walked, walked_from, with_default, word_met}
use Rattle.clap.specs.Lexer.{long_of, short_of}
use Rattle.clap.specs.Values.{reading_of}
use Rattle.clap.specs.Facts.{parser_of_value}
use Rattle.clap.specs.declared.builder.value_parser.ValueParser.{ValueParser}
use Rattle.clap.specs.declared.builder.value_parser.ValueParser.TheVariants as vp
use Rattle.clap.proofs.WalkLemmas.{find-map}
use Rattle.std.specs.Option.{option_map_or}
use Rattle.pim_words.specs.Lines.{one_of_names}

-- the names moved to one place
abbrev pub bare_parser : ValueParser → ValueParser
bare_parser (vp.Names names) = one_of_names (texts names.now)
bare_parser p = p

abbrev pub bare : Rule → Rule
bare a = record a { parser = option_map bare_parser a.parser }

abbrev pub bares : List Rule → List Rule
bares = map bare

reading_of-bare : (p : ValueParser) → reading_of (bare_parser p) ≡ reading_of p
reading_of-bare (vp.Names names) = refl
reading_of-bare _ = refl

reading-bare : (o : Option ValueParser) → reading_of (parser_of_value (option_map bare_parser o)) ≡ reading_of (parser_of_value o)
reading-bare None = refl
reading-bare (Some p) = reading_of-bare p

used-bare : (a : Rule) (values : List Text) (rows : List Row) → used (bare a) values rows ≡ used a values rows
used-bare a values rows = ap (λ how. used_as (action_of a) a.id how (values_or_missing a values) rows) (reading-bare a.parser)

used_by_id-bare : (o : Option Rule) (values : List Text) (rows : List Row) → used_by_id (option_map bare o) values rows ≡ used_by_id o values rows
used_by_id-bare None values rows = refl
used_by_id-bare (Some a) values rows = used-bare a values rows

pub with_default-bare : (rows : List Row) (a : Rule) → with_default rows (bare a) ≡ with_default rows a
with_default-bare rows a = ap (λ how. if has_row a.id rows then rows else default_rows a.id how a.defaults rows) (reading-bare a.parser)

defaults-bare : (c : List Rule) (rows : List Row) → fold with_default rows (bares c) ≡ fold with_default rows c
defaults-bare [] rows = refl
defaults-bare (a ∷ rest) rows = ap (λ r. fold with_default r (bares rest)) (with_default-bare rows a) ∙ defaults-bare rest (with_default rows a)

option_word-bare : (o : Option Rule) (id word : Text) (h : Held) → option_word (option_map bare o) id word h ≡ option_word o id word h
option_word-bare None id word h = refl
option_word-bare (Some a) id word h = refl

module _ (c : List Rule) where
  pub by_id-bare : (id : Text) → arg_by_id (bares c) id ≡ option_map bare (arg_by_id c id)
  by_id-bare id = sym (find-map (λ a. bytes_eq a.id id) bare c)

  pub by_long-bare : (name : Text) → arg_by_long (bares c) name ≡ option_map bare (arg_by_long c name)
  by_long-bare name = sym (find-map (λ a. not (is_some a.index) && has_long a name) bare c)

  pub by_short-bare : (x : ℕ) → arg_by_short (bares c) x ≡ option_map bare (arg_by_short c x)
  by_short-bare x = sym (find-map (λ a. not (is_some a.index) && has_short a x) bare c)

  pub by_index-bare : (i : ℕ) → arg_by_index (bares c) i ≡ option_map bare (arg_by_index c i)
  by_index-bare i = sym (find-map (λ a. option_map_or (λ k. k == i) a.index false) bare c)

  settled_rows-bare : (p : Option (Text × List Text)) (rows : List Row) → settled_rows (bares c) p rows ≡ settled_rows c p rows
  settled_rows-bare None rows = refl
  settled_rows-bare (Some p) rows = ap (λ o. used_by_id o p.1 rows) (by_id-bare p.0) ∙ used_by_id-bare (arg_by_id c p.0) p.1 rows

  pub settled-bare : (h : Held) → settled (bares c) h ≡ settled c h
  settled-bare h = ap (λ rows. record h { rows = rows; pending = None }) (settled_rows-bare h.pending h.rows)

  pub reacted-bare : (a : Rule) (values : List Text) (h : Held) → reacted (bares c) (bare a) values h ≡ reacted c a values h
  reacted-bare a values h = ap (λ rows. record h { rows = rows; pending = None })
      (used-bare a values (settled (bares c) h).rows ∙ ap (λ (s : Held). used a values s.rows) (settled-bare h))

  option_met-bare : (a : Rule) (v : Option Text) (h : Held) → option_met (bares c) (bare a) v h ≡ option_met c a v h
  option_met-bare a (Some v) h = ap (λ s. (s, done)) (reacted-bare a (v ∷ []) h)
  option_met-bare a None h = ap (λ (s : Held). (record s { pending = Some (a.id, []) }, waits a.id)) (settled-bare h)

  flag_met-bare : (a : Rule) (v : Option Text) (h : Held) → flag_met (bares c) (bare a) v h ≡ flag_met c a v h
  flag_met-bare a (Some v) h = refl
  flag_met-bare a None h = ap (λ s. (s, done)) (reacted-bare a [] h)

  long_met-bare : (o : Option Rule) (v : Option Text) (h : Held) → long_met (bares c) (option_map bare o) v h ≡ long_met c o v h
  long_met-bare None v h = refl
  long_met-bare (Some a) v h = ap₂ (λ x y. if takes_values a then x else y) (option_met-bare a v h) (flag_met-bare a v h)

  short_met-bare : (o : Option Rule) (rest : Text) (h : Held) (f g : Held → Held × Outcome) → ((s : Held) → f s ≡ g s)
      → short_met (bares c) (option_map bare o) rest h f ≡ short_met c o rest h g
  short_met-bare None rest h f g same = refl
  short_met-bare (Some a) rest h f g same =
      ap₂ (λ x y. if takes_values a then x else y) (option_met-bare a (attached_value rest) h) (ap f (reacted-bare a [] h) ∙ same (reacted c a [] h))

  bundle_step-bare : (o : Option ℕ) (flags : Text) (skip : ℕ) (so_far : Outcome) (h : Held) (f g : Text → ℕ → Outcome → Held → Held × Outcome)
      → ((t : Text) (k : ℕ) (x : Outcome) (s : Held) → f t k x s ≡ g t k x s)
      → bundle_step (bares c) o flags skip so_far h f ≡ bundle_step c o flags skip so_far h g
  bundle_step-bare None flags skip so_far h f g same = refl
  bundle_step-bare (Some x) flags zero so_far h f g same =
      let rest = drop (length (encode_utf8 x)) flags in
      ap (λ o. short_met (bares c) o rest h (f rest 0 done)) (by_short-bare x) ∙ short_met-bare (arg_by_short c x) rest h (f rest 0 done) (g rest 0 done) (same rest 0 done)
  bundle_step-bare (Some x) flags (suc skip) so_far h f g same = same (drop (length (encode_utf8 x)) flags) skip so_far h

  bundle_met-bare : (k : ℕ) (flags : Text) (skip : ℕ) (so_far : Outcome) (h : Held) → bundle_met (bares c) k flags skip so_far h ≡ bundle_met c k flags skip so_far h
  unfolding bundle_met
  bundle_met-bare zero flags skip so_far h = refl
  bundle_met-bare (suc k) flags skip so_far h =
      bundle_step-bare (slice_get (chars flags) 0) flags skip so_far h (bundle_met (bares c) k) (bundle_met c k) (λ t n x s. bundle_met-bare k t n x s)

  plain_word-bare : (waiting : Waiting) (word : Text) (h : Held) → plain_word (bares c) waiting word h ≡ plain_word c waiting word h
  plain_word-bare (option id) word h = ap (λ (r : Held × Waiting). (r.0, next r.1))
      (ap (λ o. option_word o id word h) (by_id-bare id) ∙ option_word-bare (arg_by_id c id) id word h)
  plain_word-bare idle word h = refl
  plain_word-bare positional word h = refl

  after_flag-bare : (waiting : Waiting) (word : Text) (h : Held) (o : Outcome) → after_flag (bares c) waiting word h o ≡ after_flag c waiting word h o
  after_flag-bare waiting word h done = refl
  after_flag-bare waiting word h (waits id) = refl
  after_flag-bare waiting word h plain = plain_word-bare waiting word h
  after_flag-bare waiting word h refused = plain_word-bare waiting word h

  after_met-bare : (waiting : Waiting) (word : Text) (m n : Held × Outcome) → m ≡ n → after_flag (bares c) waiting word m.0 m.1 ≡ after_flag c waiting word n.0 n.1
  after_met-bare waiting word m n same =
      ap (λ (x : Held × Outcome). after_flag (bares c) waiting word x.0 x.1) same ∙ after_flag-bare waiting word n.0 n.1

  long_word-bare : (waiting : Waiting) (word name : Text) (v : Option Text) (h : Held) → long_word (bares c) waiting word name v h ≡ long_word c waiting word name v h
  long_word-bare waiting word name v h = after_met-bare waiting word _ _
      (ap (λ o. long_met (bares c) o v h) (by_long-bare name) ∙ long_met-bare (arg_by_long c name) v h)

  bundle-bare : (flags : Text) (h : Held) → bundle (bares c) flags h ≡ bundle c flags h
  bundle-bare flags h = bundle_met-bare (length flags) flags h.skip plain (record h { skip = 0 })

  short_or_plain-bare : (waiting : Waiting) (word : Text) (o : Option Text) (h : Held) → short_or_plain (bares c) waiting word o h ≡ short_or_plain c waiting word o h
  short_or_plain-bare waiting word (Some flags) h = after_met-bare waiting word _ _ (bundle-bare flags h)
  short_or_plain-bare waiting word None h = plain_word-bare waiting word h

  long_or_other-bare : (waiting : Waiting) (word : Text) (o : Option (Text × Option Text)) (h : Held) → long_or_other (bares c) waiting word o h ≡ long_or_other c waiting word o h
  long_or_other-bare waiting word (Some p) h = long_word-bare waiting word p.0 p.1 h
  long_or_other-bare waiting word None h = short_or_plain-bare waiting word (short_of word) h

  subcommand_or_other-bare : (o : Option Text) (waiting : Waiting) (position : ℕ) (word : Text) (h : Held)
      → subcommand_or_other (bares c) o waiting position word h ≡ subcommand_or_other c o waiting position word h
  subcommand_or_other-bare (Some name) waiting position word h = refl
  subcommand_or_other-bare None waiting position word h =
      ap (λ x. if bytes_eq word (45 ∷ 45 ∷ []) then (h, trailing position) else x) (long_or_other-bare waiting word (long_of word) h)

  pub word_met-bare : (names : Names) (is_trailing : Bool) (waiting : Waiting) (position : ℕ) (word : Text) (h : Held)
      → word_met (bares c) names is_trailing waiting position word h ≡ word_met c names is_trailing waiting position word h
  word_met-bare names is_trailing waiting position word h =
      ap (λ x. if is_trailing then (h, value) else x) (subcommand_or_other-bare (subcommand_met names waiting word) waiting position word h)

  positional_held-bare : (a : Rule) (word : Text) (h : Held) → positional_held (bares c) (bare a) word h ≡ positional_held c a word h
  positional_held-bare a word h = ap (λ s. pushed a.id word (if is_pending a h.pending && takes_several a then h else s)) (settled-bare h)

  to_positional-bare : (o : Option Rule) (word : Text) (w : Walk) (h : Held) → to_positional (bares c) (option_map bare o) word w h ≡ to_positional c o word w h
  to_positional-bare None word w h = refl
  to_positional-bare (Some a) word w h = ap (λ s. record (to_positional c (Some a) word w h) { held = s }) (positional_held-bare a word h)

  after_step-bare : (word : Text) (w : Walk) (h : Held) (step : Step) → after_step (bares c) word w h step ≡ after_step c word w h step
  after_step-bare word w h (next waiting) = refl
  after_step-bare word w h (trailing position) = refl
  after_step-bare word w h (subcommand name) = refl
  after_step-bare word w h value = ap (λ o. to_positional (bares c) o word w h) (by_index-bare w.position) ∙ to_positional-bare (arg_by_index c w.position) word w h

  walked_from-bare : (names : Names) (o : Option (Text × List Text)) (w : Walk) (word : Text) → walked_from (bares c) names o w word ≡ walked_from c names o w word
  walked_from-bare names (Some p) w word = refl
  walked_from-bare names None w word =
      let met = word_met c names w.is_trailing w.waiting w.position word w.held in
      ap (λ (m : Held × Step). after_step (bares c) word w m.0 m.1) (word_met-bare names w.is_trailing w.waiting w.position word w.held) ∙ after_step-bare word w met.0 met.1

  pub walked-bare : (names : Names) (w : Walk) (word : Text) → walked (bares c) names w word ≡ walked c names w word
  unfolding walked
  walked-bare names w word = walked_from-bare names w.stopped w word

  fold-bare : (names : Names) (w : Walk) (words : List Text) → fold (walked (bares c) names) w words ≡ fold (walked c names) w words
  fold-bare names w [] = refl
  fold-bare names w (word ∷ rest) = ap (λ s. fold (walked (bares c) names) s rest) (walked-bare names w word) ∙ fold-bare names (walked c names w word) rest

  pub walk-bare : (names : Names) (h : Held) (words : List Text) → walk (bares c) names h words ≡ walk c names h words
  walk-bare names h words = fold-bare names (walk_from h) words

  pub finished-bare : (h : Held) → finished (bares c) h ≡ finished c h
  finished-bare h = ap (λ (s : Held). fold with_default s.rows (bares c)) (settled-bare h) ∙ defaults-bare c (settled c h).rows

  -- the matches are the same
  pub rows_after-bare : (names : Names) (words : List Text) → rows_after (bares c) names words ≡ rows_after c names words
  rows_after-bare names words =
      ap (λ (w : Walk). finished (bares c) w.held) (walk-bare names nothing_held words) ∙ finished-bare (walk c names nothing_held words).held
