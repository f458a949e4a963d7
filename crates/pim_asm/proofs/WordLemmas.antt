-- The words of a line of assembly, cut at its blanks.
use Rattle.std.proofs.Common.{◌≡◌, ℕ, suc, ◌+◌, ◌<◌, Bool, true, false, not, List, [], ◌∷◌, ◌++◌, length, get_or, take, drop, refl, ap, sym, ◌∙◌, arith, add-one, drop-cons}
use Rattle.std.proofs.lemmas.Bool.Decides.{nat_tests}
use Rattle.std.proofs.lemmas.List.{take_more}
use Rattle.pim_io.specs.Words.{is_blank, close}
use Rattle.pim_asm.specs.Words.{is_quote, is_semicolon, ends_word, words_after, words}

-- a blank is no semicolon, and neither is a quote

blank_no_semicolon : (b : ℕ) → is_blank b ≡ true → is_semicolon b ≡ false
blank_no_semicolon b h = grind (arith, nat_tests)

quote_ends_nothing : (q : Bool) (b : ℕ) → is_quote b ≡ true → ends_word q b ≡ false
quote_ends_nothing true b h = refl
quote_ends_nothing false b h = grind (arith, nat_tests)

plain_ends_nothing : (b : ℕ) → is_semicolon b ≡ false → is_blank b ≡ false → ends_word false b ≡ false
plain_ends_nothing b h k = rw (h, k) refl

-- a run and the byte that ends it

words_after-blank : (run : List ℕ) (b : ℕ) (text : List ℕ) → is_blank b ≡ true → words_after false run (b ∷ text) ≡ close run (words (b ∷ text))
words_after-blank run b text h = rw (blank_no_semicolon b h, h) refl

semicolon_no_blank : (b : ℕ) → is_semicolon b ≡ true → is_blank b ≡ false
semicolon_no_blank b h = grind (arith, nat_tests)

words_after-semicolon : (run : List ℕ) (b : ℕ) (text : List ℕ) → is_semicolon b ≡ true → words_after false run (b ∷ text) ≡ close run (words (b ∷ text))
words_after-semicolon run b text h = rw (semicolon_no_blank b h, h) refl

-- a run that is not empty is a word
pub close_some : (run : List ℕ) (ws : List (List ℕ)) → 0 < length run → close run ws ≡ run ∷ ws
close_some [] ws h = absurd (omega arith)
close_some (b ∷ run) ws h = refl

-- one more byte of a run

module _ (text : List ℕ) (i : ℕ) (within : i < length text) where
  cut_at : drop i text ≡ get_or text i 0 ∷ drop (suc i) text
  cut_at = drop-cons text i 0 within

  run_more : take i text ++ get_or text i 0 ∷ [] ≡ take (suc i) text
  run_more = rw (← add-one) (sym (take_more text i 0 within))

  pub stop_blank : words text ≡ words_after false (take i text) (drop i text) → is_blank (get_or text i 0) ≡ true → words text ≡ close (take i text) (words (drop i text))
  stop_blank h blank = h ∙ ap (λ (t : List ℕ). words_after false (take i text) t) cut_at ∙ words_after-blank (take i text) (get_or text i 0) (drop (suc i) text) blank ∙ ap (λ (t : List ℕ). close (take i text) (words t)) (sym cut_at)

  pub stop_semicolon : words text ≡ words_after false (take i text) (drop i text) → is_semicolon (get_or text i 0) ≡ true → words text ≡ close (take i text) (words (drop i text))
  stop_semicolon h semicolon = h ∙ ap (λ (t : List ℕ). words_after false (take i text) t) cut_at ∙ words_after-semicolon (take i text) (get_or text i 0) (drop (suc i) text) semicolon ∙ ap (λ (t : List ℕ). close (take i text) (words t)) (sym cut_at)

  pub more_quote : (q : Bool) → words text ≡ words_after q (take i text) (drop i text) → is_quote (get_or text i 0) ≡ true → words text ≡ words_after (not q) (take (i + 1) text) (drop (i + 1) text)
  more_quote q h e =
      let step : words_after q (take i text) (get_or text i 0 ∷ drop (suc i) text) ≡ words_after (not q) (take i text ++ get_or text i 0 ∷ []) (drop (suc i) text) = rw (quote_ends_nothing q (get_or text i 0) e, e) refl in
      rw add-one (h ∙ ap (λ (t : List ℕ). words_after q (take i text) t) cut_at ∙ step ∙ ap (λ (t : List ℕ). words_after (not q) t (drop (suc i) text)) run_more)

  pub more_quoted : words text ≡ words_after true (take i text) (drop i text) → is_quote (get_or text i 0) ≡ false → words text ≡ words_after true (take (i + 1) text) (drop (i + 1) text)
  more_quoted h e =
      let step : words_after true (take i text) (get_or text i 0 ∷ drop (suc i) text) ≡ words_after true (take i text ++ get_or text i 0 ∷ []) (drop (suc i) text) = rw e refl in
      rw add-one (h ∙ ap (λ (t : List ℕ). words_after true (take i text) t) cut_at ∙ step ∙ ap (λ (t : List ℕ). words_after true t (drop (suc i) text)) run_more)

  pub more_plain : words text ≡ words_after false (take i text) (drop i text) → is_quote (get_or text i 0) ≡ false → is_semicolon (get_or text i 0) ≡ false → is_blank (get_or text i 0) ≡ false → words text ≡ words_after false (take (i + 1) text) (drop (i + 1) text)
  more_plain h e f g =
      let step : words_after false (take i text) (get_or text i 0 ∷ drop (suc i) text) ≡ words_after false (take i text ++ get_or text i 0 ∷ []) (drop (suc i) text) = rw (plain_ends_nothing (get_or text i 0) f g, e) refl in
      rw add-one (h ∙ ap (λ (t : List ℕ). words_after false (take i text) t) cut_at ∙ step ∙ ap (λ (t : List ℕ). words_after false t (drop (suc i) text)) run_more)
