-- One line of the table of symbols, as the loop over its lines takes it.
use Rattle.std.proofs.Common.{◌≡◌, ℕ, true, false, eqb, List, ◌∷◌, length, Result, Ok, Err, refl, ap, inl, inr}
use Rattle.pim_aiger.specs.declared.fault.AigerFault.{AigerFault}
use Rattle.pim_aiger.specs.declared.fault.AigerFault.TheVariants as faults
use Rattle.pim_aiger.specs.Numbers.{HeaderView}
use Rattle.pim_io.specs.Readings.{◌>>=◌, Fails}
use Rattle.pim_aiger.specs.SymbolTable.{SymbolView, NamesView, allowed, symbol_of, is_comment, with_line, named, names_after, then_names}
use Rattle.pim_aiger.specs.inner.Kept.{with_symbol}

-- what did not fail does not fail so
Fails-ok : {A : Type 0} (fault : AigerFault) (x : A) (other : Result A AigerFault) → Fails faults.NoMemory fault (Ok x) → Fails faults.NoMemory fault other
Fails-ok fault x other (inl memory) = inl memory
Fails-ok fault x other (inr is) = absurd cc

abbrev given : NamesView → Result NamesView AigerFault
given names = Ok names

names_is : (x y : NamesView) → given x ≡ given y → x ≡ y
names_is x y e = cc

first_added : (names next : NamesView) (symbol : SymbolView) (others : Result (List SymbolView) AigerFault) → named names symbol.port symbol.position symbol.name ≡ next → then_names names (others >>= λ symbols. Ok (symbol ∷ symbols)) ≡ then_names next others
first_added names next symbol (Ok symbols) e = ap (λ n. Ok (names_after n symbols)) e
first_added names next symbol (Err fault) e = refl

symbol_added : (names next : NamesView) (symbol : Result SymbolView AigerFault) (others : Result (List SymbolView) AigerFault) → with_symbol names symbol ≡ Ok next → then_names names (symbol >>= λ s. others >>= λ symbols. Ok (s ∷ symbols)) ≡ then_names next others
symbol_added names next (Ok symbol) others e = first_added names next symbol others (names_is _ _ e)
symbol_added names next (Err fault) others e = absurd cc

symbol_refused : (fault : AigerFault) (names : NamesView) (symbol : Result SymbolView AigerFault) (others : Result (List SymbolView) AigerFault) → Fails faults.NoMemory fault (with_symbol names symbol) → Fails faults.NoMemory fault (then_names names (symbol >>= λ s. others >>= λ symbols. Ok (s ∷ symbols)))
symbol_refused fault names (Ok symbol) others h = Fails-ok fault _ _ h
symbol_refused fault names (Err other) others h = h

module _ (header : HeaderView) (place : ℕ) (text : List ℕ) (names : NamesView) (others : Result (List SymbolView) AigerFault) where
  -- a line that ends the table
  pub line_ends : is_comment text ≡ true → then_names names (with_line header place text others) ≡ Ok names
  line_ends comment = rw comment refl

  -- an empty line
  pub line_passed : is_comment text ≡ false → eqb (length text) 0 ≡ true → then_names names (with_line header place text others) ≡ then_names names others
  line_passed comment empty = rw (comment, empty) refl

  -- a line whose symbol was taken
  pub line_added : (next : NamesView) → is_comment text ≡ false → eqb (length text) 0 ≡ false → with_symbol names (allowed header place (symbol_of text)) ≡ Ok next → then_names names (with_line header place text others) ≡ then_names next others
  line_added next comment empty h = rw (comment, empty) (symbol_added names next (allowed header place (symbol_of text)) others h)

  -- a line whose symbol was refused
  pub line_refused : (fault : AigerFault) → is_comment text ≡ false → eqb (length text) 0 ≡ false → Fails faults.NoMemory fault (with_symbol names (allowed header place (symbol_of text))) → Fails faults.NoMemory fault (then_names names (with_line header place text others))
  line_refused fault comment empty h = rw (comment, empty) (symbol_refused fault names (allowed header place (symbol_of text)) others h)
