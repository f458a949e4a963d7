use Rattle.std.proofs.Common.{◌≡◌, ℕ, ◌<◌, List, length, sym, ap, ◌∙◌, arith, take}
use Rattle.std.proofs.lemmas.Bool.Decides.{nat_tests}
use Rattle.pim_io.specs.Words.{words, close}
use Rattle.pim_io.proofs.WordCuts.{words-drop, words-cut, close-some, empty_run, first_byte}
use Rattle.pim_io.proofs.words.Words.word.Goals as goal

pub returns-then-is_empty-clause-words : goal.returns-then-is_empty-clause-words
returns-then-is_empty-clause-words c =
    let all = c.self.inside.rest.now in
    let text = c.split_at.result.1.now in
    let none : length c.split_at-2.result.0.now ≡ 0 = grind (arith, nat_tests) in
    let run : length (take c.word_len.result text) ≡ 0 = ap length (sym c.split_at-2.ensures.front) ∙ none in
    let first = first_byte all text c.blanks_len.result c.split_at.ensures.back c.blanks_len.ensures.found in
    let empty = empty_run text c.word_len.result first c.word_len.ensures.found run in
    ap words (sym c.self.view_is) ∙ words-drop all c.blanks_len.result c.blanks_len.ensures.within c.blanks_len.ensures.before ∙ ap words (sym c.split_at.ensures.back ∙ empty)

pub returns-clause-words : goal.returns-clause-words
returns-clause-words c =
    let all = c.self.inside.rest.now in
    let text = c.split_at.result.1.now in
    let some : 0 < length c.split_at-2.result.0.now = grind (arith, nat_tests) in
    let cut = words-cut text c.word_len.result c.word_len.ensures.within c.word_len.ensures.before c.word_len.ensures.found in
    let split = ap (λ (run : List ℕ). close run (words c.split_at-2.result.1.now)) c.split_at-2.ensures.front in
    let rest = ap (λ (r : List ℕ). close (take c.word_len.result text) (words r)) c.split_at-2.ensures.back in
    ap words (sym c.self.view_is) ∙ words-drop all c.blanks_len.result c.blanks_len.ensures.within c.blanks_len.ensures.before ∙ ap words (sym c.split_at.ensures.back) ∙ cut ∙ sym rest ∙ sym split ∙ close-some c.split_at-2.result.0.now (words c.split_at-2.result.1.now) some
