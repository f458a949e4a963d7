use Rattle.std.proofs.Common.{◌≡◌, ℕ, ◌+◌, ◌-◌, inl, inr, List, get_or, drop, ap, ◌∙◌, arith}
use Rattle.std.proofs.lemmas.Bool.{cases_lt, false_from_ne_true}
use Rattle.std.proofs.lemmas.List.{get_or-drop, length-drop, take_rest}
use Rattle.memchr.specs.Find.{Nowhere, Passes, is_byte}
use Rattle.pim_io.specs.Lines.{is_newline}
use Rattle.pim_vectors.specs.inner.Found.{NoNewline}
use Rattle.pim_vectors.proofs.bytes.newline_from.Goals as goal

-- no newline stands before the place where it was searched from, nor among the n bytes from there on
none_before : (bytes : List ℕ) (from n : ℕ) → NoNewline bytes from → Nowhere (Passes (is_byte 10) (drop from bytes)) 0 n → NoNewline bytes (from + n)
none_before bytes from n none nowhere k within =
    elim (cases_lt k from) [
      | inl before ↦ none k before
      | inr not_before ↦
          let at : get_or (drop from bytes) (k - from) 0 ≡ get_or bytes k 0 =
          get_or-drop from bytes (k - from) 0 ∙ ap (λ (i : ℕ). get_or bytes i 0) (omega arith) in
          false_from_ne_true _ (λ here. nowhere (k - from) (omega arith) (omega arith) (ap is_newline at ∙ here))
    ]

pub returns-in-Some-clause-before : goal.returns-in-Some-clause-before
returns-in-Some-clause-before c =
    none_before c.args.bytes.now c.args.from c.in-Some.at c.requires.none (rw take_rest at c.in-Some.ensures.0.before)

pub returns-in-None-clause-before : goal.returns-in-None-clause-before
returns-in-None-clause-before c = λ k within.
    none_before c.args.bytes.now c.args.from _ c.requires.none (rw take_rest at c.in-None.ensures) k (omega (arith, length-drop c.args.from c.args.bytes.now))
