-- The end of a life, found by going through the instructions once.
use Rattle.std.proofs.Common.{◌≡◌, ℕ, ◌+◌, Bool, true, false, ◌&&◌, ◌||◌, not, cond, List, [], ◌∷◌, Option, Some, None, refl, sym, ap, ◌∙◌}
use Rattle.std.specs.Option.{option_or}
use Rattle.pim_isa.specs.declared.instr.Instr.{Instr}
use Rattle.pim_isa.specs.Touches.{reads, writes}
use Rattle.pim_isa.specs.Validity.{has}
use Rattle.pim_life.specs.declared.life.End.{End}
use Rattle.pim_life.specs.declared.life.End.TheVariants.{Unread, Read, Output}
use Rattle.pim_life.specs.Lives.{end_of, is_written, read_end, last_read, until_written}

-- the end of a life that was last read as `last` says, after one more instruction that reads the cell or not
abbrev pub read_on : ℕ → Bool → End → End
read_on k b last = cond b (Read k) last

-- the end of a life that was last read as `last` says, given the instructions that follow, from place k on
abbrev pub end_from : ℕ → Bool → End → ℕ → List Instr → End
end_from c out last k [] = cond out Output last
end_from c out last k (i ∷ is) =
    cond (has c (writes i)) (read_on k (has c (reads i)) last) (end_from c out (read_on k (has c (reads i)) last) (k + 1) is)

-- the end that a reader gives, and the one before where there is none
abbrev or_end : End → Option ℕ → End
or_end last None = last
or_end last (Some k) = Read k

-- the last reader of a list, else of what stands before it
or_end-more : (last : End) (k : ℕ) (b : Bool) (o : Option ℕ) →
    or_end (read_on k b last) o ≡ or_end last (option_or o (cond b (Some k) None))
or_end-more last k true None = refl
or_end-more last k false None = refl
or_end-more last k true (Some j) = refl
or_end-more last k false (Some j) = refl

nothing_left : (out : Bool) (last : End) → cond out Output last ≡ cond (out && true) Output last
nothing_left true last = refl
nothing_left false last = refl

-- one more instruction, which writes the cell or not
one_more : (out w b written : Bool) (k : ℕ) (last e : End) (o : Option ℕ) →
    e ≡ cond (out && not written) Output (or_end (read_on k b last) o) →
    cond w (read_on k b last) e ≡ cond (out && not (w || written)) Output (or_end last (option_or (cond w None o) (cond b (Some k) None)))
one_more true true b written k last e o is = or_end-more last k b None
one_more false true b written k last e o is = or_end-more last k b None
one_more true false b true k last e o is = is ∙ or_end-more last k b o
one_more true false b false k last e o is = is
one_more false false b written k last e o is = is ∙ or_end-more last k b o

-- what stands up to the first writer, where the first instruction is it or not
until_more : (w : Bool) (c k : ℕ) (is : List Instr) → last_read c k (cond w [] is) ≡ cond w None (last_read c k is)
until_more true c k is = refl
until_more false c k is = refl

end_from-or : (c : ℕ) (out : Bool) (last : End) (k : ℕ) (is : List Instr) →
    end_from c out last k is ≡ cond (out && not (is_written c is)) Output (or_end last (last_read c k (until_written c is)))
end_from-or c out last k [] = nothing_left out last
end_from-or c out last k (i ∷ is) =
    let r = has c (reads i) in
    one_more out (has c (writes i)) r (is_written c is) k last _ (last_read c (k + 1) (until_written c is))
    (end_from-or c out (read_on k r last) (k + 1) is)
    ∙ ap (λ o. cond (out && not (has c (writes i) || is_written c is)) Output (or_end last (option_or o (cond r (Some k) None))))
    (sym (until_more (has c (writes i)) c (k + 1) (until_written c is)))

or_end-unread : (o : Option ℕ) → or_end Unread o ≡ read_end o
or_end-unread None = refl
or_end-unread (Some k) = refl

-- a life that nothing has read yet
pub end_from-unread : (c : ℕ) (out : Bool) (k : ℕ) (is : List Instr) → end_from c out Unread k is ≡ end_of c out k is
end_from-unread c out k is =
    end_from-or c out Unread k is ∙ ap (λ e. cond (out && not (is_written c is)) Output e) (or_end-unread (last_read c k (until_written c is)))
